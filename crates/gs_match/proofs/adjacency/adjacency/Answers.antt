use Rattle.std.proofs.Common.{◌≡◌, ℕ, ◌+◌, ◌<◌, ◌++◌, [], ◌∷◌, List, length, take, get_or, set, arith, sym, ap, subst, ◌∙◌, Vec, Global}
use Rattle.std.proofs.lemmas.List.{take_more, take_all, map-set, length-map}
use Rattle.gs_model.specs.{Matching.{Edges}, Rows.{rows}}
use Rattle.gs_match.specs.Adjacency.{AreNeighbours, row_of}
use Rattle.gs_match.proofs.{AdjacencyLaws.{neighbours_none, neighbours_more}, RowLaws.{row_read}}
use Rattle.gs_match.proofs.adjacency.adjacency.Goals as goal

pub loop-edge-init : goal.loop-edge-init
loop-edge-init c =
    let left_is : c.graph.inside.left ≡ c.args.graph.now.left = ap (λ (g : Edges). g.left) c.graph.view_is in
    neighbours_none c.args.graph.now.left c.args.graph.now.right (rows c.in_ok-lists.lists.items)
    (length-map c.in_ok-lists.lists.items (λ (x : Vec ℕ Global). x.items) ∙ c.in_ok-lists.ensures.long ∙ left_is) c.in_ok-lists.ensures.empty

pub index_mut-requires : goal.index_mut-requires
index_mut-requires c =
    let edges = c.deref-edge-items.ensures.value ∙ ap (λ (g : Edges). g.edges) c.graph.view_is in
    let n = ap length edges in
    let q = c.requires c.loop-edge.edge-index (0, 0) (omega (arith, n, c.loop-edge-test.true)) in
    let e = ap (λ (l : List (ℕ × ℕ)). (get_or l c.loop-edge.edge-index (0, 0)).0) edges in
    let long = c.loop-edge.invariant.long in
    let m = length-map c.loop-edge.lists.items (λ (x : Vec ℕ Global). x.items) in
    let ok = c.loop-edge.lists.ok.0 in
    let low = q.0 in
    omega (arith, low, e, long, m, ok)

pub loop-edge-preserved : goal.loop-edge-preserved
loop-edge-preserved c =
    let k = c.loop-edge.edge-index in
    let edges = c.deref-edge-items.ensures.value ∙ ap (λ (g : Edges). g.edges) c.graph.view_is in
    let n = ap length edges in
    let within : k < length c.args.graph.now.edges = omega (arith, n, c.loop-edge-test.true) in
    let q = c.requires k (0, 0) within in
    let e : get_or c.args.graph.now.edges k (0, 0) ≡ get_or c.deref-edge-items.result.now k (0, 0) = ap (λ (l : List (ℕ × ℕ)). get_or l k (0, 0)) (sym edges) in
    let a = (get_or c.deref-edge-items.result.now k (0, 0)).0 in
    let b = (get_or c.deref-edge-items.result.now k (0, 0)).1 in
    let low : a < c.args.graph.now.left = subst (λ (x : ℕ × ℕ). x.0 < c.args.graph.now.left) e q.0 in
    let high : b < c.args.graph.now.right = subst (λ (x : ℕ × ℕ). x.1 < c.args.graph.now.right) e q.1 in
    let long = c.loop-edge.invariant.long in
    let m = length-map c.loop-edge.lists.items (λ (x : Vec ℕ Global). x.items) in
    let more = neighbours_more c.args.graph.now.left c.args.graph.now.right (take k c.args.graph.now.edges) (rows c.loop-edge.lists.items)
    (a, b) c.loop-edge.invariant low high in
    let row : c.index_mut.result.now.items ≡ row_of (rows c.loop-edge.lists.items) a = row_read c.loop-edge.lists.items a c.index_mut.result.now
    (omega (arith, low, long, m)) c.index_mut.ensures.value in
    let pushed : c.push.new.self.items ≡ row_of (rows c.loop-edge.lists.items) a ++ b ∷ [] = c.in_ok-push.ensures.items
    ∙ ap (λ (r : List ℕ). r ++ b ∷ []) row in
    let lists : rows (set c.loop-edge.lists.items a c.push.new.self) ≡ set (rows c.loop-edge.lists.items) a
    (row_of (rows c.loop-edge.lists.items) a ++ b ∷ []) =
    map-set (λ (x : Vec ℕ Global). x.items) c.loop-edge.lists.items a c.push.new.self ∙ ap (λ (r : List ℕ). set (rows c.loop-edge.lists.items) a r) pushed in
    let prefix : take (k + 1) c.args.graph.now.edges ≡ take k c.args.graph.now.edges ++ (a, b) ∷ [] = take_more c.args.graph.now.edges k (0, 0) within
    ∙ ap (λ (x : ℕ × ℕ). take k c.args.graph.now.edges ++ x ∷ []) e in
    subst (λ (es : List (ℕ × ℕ)). AreNeighbours (record { left = c.args.graph.now.left; right = c.args.graph.now.right; edges = es })
    (rows (set c.loop-edge.lists.items a c.push.new.self))) (sym prefix)
    (subst (λ (ls : List (List ℕ)). AreNeighbours (record {
      left = c.args.graph.now.left;
      right = c.args.graph.now.right;
      edges = take k c.args.graph.now.edges
          ++ (a, b) ∷ [];
    }) ls) (sym lists) more)

pub returns : goal.returns
returns c =
    let edges = c.deref-edge-items.ensures.value ∙ ap (λ (g : Edges). g.edges) c.graph.view_is in
    let n = ap length edges in
    let all : take c.loop-edge.edge-index c.args.graph.now.edges ≡ c.args.graph.now.edges = take_all c.loop-edge.edge-index c.args.graph.now.edges
    (omega (arith, n, c.loop-edge-test.false)) in
    subst (λ (es : List (ℕ × ℕ)). AreNeighbours (record { left = c.args.graph.now.left; right = c.args.graph.now.right; edges = es })
    (rows c.loop-edge.lists.items)) all c.loop-edge.invariant
