-- What the tables tell of the signals of the next round, and what is kept of these from the round before.
use Rattle.std.proofs.Common.{◌≡◌, ℕ, zero, suc, ◌-◌, ◌*◌, ◌^◌, ◌<◌, ◌≤◌, ◌++◌, List, [], ◌∷◌, length, map, get_or, replicate, refl, sym, ap, ◌∙◌, arith, subst}
use Rattle.std.proofs.{Common.{All, take, take_all}, lemmas.Grind.{get_or_default_zero}}
use Rattle.std.proofs.lemmas.List.{get_or-map, get_or-replicate, length-map, length-replicate}
use Rattle.std.specs.Global.{Vec}
use Rattle.gs_game.specs.Limits.{IsDealable}
use Rattle.gs_model.specs.{Deals.{path_weight}, Game.{Game, round_count}}
use Rattle.gs_model.specs.Signals.{Seen, Signal, last_edge, own_cards, parents, public_cards, signal_at, signals}
use Rattle.gs_model.proofs.Ranges.{length-parents}
use Rattle.gs_tree.specs.{Kept.{AreKeptCards}, Layers.{last_seen}, Shown.{seen_of}, Tables.{AreTables}, declared.layer.Layer.{Layer}}
use Rattle.gs_tree.specs.declared.layer.Shown.{Shown}
use Rattle.gs_tree.proofs.{Lookups.{is_child, layer_of}, Paths.{last_edge_small, path_small, path_step, power_fits, power_step}}

-- what the tables hold of a signal of the round after the first n
pub record IsTold (g : Game) (n i p : ℕ) (row : List ℕ) (l : Layer) : Type 0 where
  pub here : i < length (signals g (suc n))
  pub row_long : i < length row
  pub parent_in : p < length (signals g n)
  pub edge_is : get_or l.edges i 0 ≡ last_edge g.copies (signal_at g (suc n) i)
  pub shows : (d : Shown) → seen_of (get_or l.shown.items i d) ≡ last_seen (signal_at g (suc n) i)
  pub signal_is : signal_at g (suc n) i ≡ signal_at g n p ++ last_seen (signal_at g (suc n) i) ∷ []
  pub path_is : path_weight g.copies (signal_at g (suc n) i) ≡ path_weight g.copies (signal_at g n p) * last_edge g.copies (signal_at g (suc n) i)

module _ {g : Game} {ps : List (Vec ℕ)} {ls : List Layer} {n : ℕ} (t : AreTables g ps ls) (in' : n < length ls) where
  before : suc n - 1 ≡ n
  before = omega arith

  -- as many as there are signals
  pub layer_long : (l : Layer) → l ≡ get_or ls n l → (length l.shown.items ≡ length (signals g (suc n))) × (length l.edges ≡ length (signals g (suc n)))
  layer_long l e =
      let h = layer_of g ps ls (suc n) l t (omega arith) (omega (arith, in')) (e ∙ ap (λ k. get_or ls k l) (sym before)) in
      (h.long, h.edges_long)

  -- those up to one behind all that the layer shows are all
  pub all_shown : (l : Layer) (i : ℕ) → l ≡ get_or ls n l → length l.shown.items ≤ i → take i (signals g (suc n)) ≡ signals g (suc n)
  all_shown l i e m = take_all i (signals g (suc n)) (omega (arith, (layer_long l e).0, m))

  pub row_is_long : (row : Vec ℕ) → row ≡ get_or ps n row → length row.items ≡ length (signals g (suc n))
  row_is_long row r = ap (λ (v : Vec ℕ). length v.items) r ∙ ap (λ (x : List ℕ). length x) (t.owned n row in') ∙ length-parents g (suc n)

  -- what the layer shows of a signal
  pub shown_at : (l : Layer) (i : ℕ) → l ≡ get_or ls n l → i < length l.shown.items → (d : Shown)
      → seen_of (get_or l.shown.items i d) ≡ last_seen (signal_at g (suc n) i)
  shown_at l i e m d =
      let h = layer_of g ps ls (suc n) l t (omega arith) (omega (arith, in')) (e ∙ ap (λ k. get_or ls k l) (sym before)) in
      h.shows i d (omega (arith, h.long, m))

  pub told : (row : Vec ℕ) (l : Layer) (i : ℕ) → row ≡ get_or ps n row → l ≡ get_or ls n l → i < length (signals g (suc n))
      → IsTold g n i (get_or row.items i 0) row.items l
  told row l i r e m =
      let h = layer_of g ps ls (suc n) l t (omega arith) (omega (arith, in')) (e ∙ ap (λ k. get_or ls k l) (sym before)) in
      let rows : row.items ≡ parents g (suc n) = ap (λ (v : Vec ℕ). v.items) r ∙ t.owned n row in' in
      let c = is_child g (suc n) i (omega arith) m in
      let owner : get_or row.items i 0 ≡ get_or (parents g (suc n)) i 0 = ap (λ (x : List ℕ). get_or x i 0) rows in
      let p : ℕ = get_or (parents g (suc n)) i 0 in
      let last : Seen = last_seen (signal_at g (suc n) i) in
      let P : ℕ → Type 0 = λ k. p < length (signals g k) in
      record {
        here = m;
        row_long = omega (arith, ap (λ (x : List ℕ). length x) rows, length-parents g (suc n), m);
        parent_in = omega (arith, owner, subst P before c.parent_in);
        edge_is = h.weighs i m;
        shows = λ d. h.shows i d m;
        signal_is = c.signal_is ∙ ap (λ k. signal_at g k p ++ last ∷ []) before ∙ ap (λ k. signal_at g n k ++ last ∷ []) (sym owner);
        path_is = path_step g (suc n) i c ∙ ap (λ k. path_weight g.copies (signal_at g k p) * last_edge g.copies (signal_at g (suc n) i)) before
            ∙ ap (λ k. path_weight g.copies (signal_at g n k) * last_edge g.copies (signal_at g (suc n) i)) (sym owner);
      }

  -- a signal of the layer has a parent in the row
  pub row_covers : (row : Vec ℕ) (l : Layer) (i : ℕ) → row ≡ get_or ps n row → l ≡ get_or ls n l → i < length l.shown.items → i < length row.items
  row_covers row l i r e m = omega (arith, row_is_long row r, (layer_long l e).0, m)

  -- the same by the parent that was read
  pub told_at : (row : Vec ℕ) (l : Layer) (i p : ℕ) → row ≡ get_or ps n row → l ≡ get_or ls n l → i < length l.shown.items → p ≡ get_or row.items i p
      → IsTold g n i p row.items l
  told_at row l i p r e m read =
      let h = told row l i r e (omega (arith, (layer_long l e).0, m)) in
      let P : ℕ → Type 0 = λ k. IsTold g n i k row.items l in
      subst P (sym (read ∙ get_or_default_zero row.items i p h.row_long)) h

-- the ways to a signal fit
pub path_fits : (g : Game) (n i p a b : ℕ) → IsDealable g → All (λ c. c ≤ 9) g.copies → n < round_count g → round_count g ≤ 4 → i < length (signals g (suc n))
    → p < length (signals g n) → a ≡ path_weight g.copies (signal_at g n p) → b ≡ last_edge g.copies (signal_at g (suc n) i) → a * b ≤ 12157665459056928801
path_fits g n i p a b d few in' rounds m l e f =
    let before : n ≡ suc n - 1 = omega arith in
    let P : ℕ → Type 0 = λ k. a ≤ 59049 ^ k in
    let small : a ≤ 59049 ^ n = omega (arith, e, path_small g n p d few (omega (arith, in')) l) in
    let edge : b ≤ 59049 = omega (arith, f, last_edge_small g (suc n) i d few (omega arith) (omega (arith, in')) m) in
    power_fits (a * b) (suc n) (omega (arith, in', rounds)) (power_step a b (suc n) (omega arith) (subst P before small) edge)

all_ones : {X : Type 0} (f : X → ℕ) (xs : List X) (d : X) (n : ℕ) → n ≡ length xs → ((i : ℕ) → i < length xs → f (get_or xs i d) ≡ 1)
    → replicate n 1 ≡ map f xs
all_ones f [] d zero e h = refl
all_ones f [] d (suc n) e h = absurd (omega (arith, e))
all_ones f (x ∷ xs) d zero e h = absurd (omega (arith, e))
all_ones f (x ∷ xs) d (suc n) e h =
    let here : f x ≡ 1 = h 0 (omega arith) in
    ap (λ y. y ∷ replicate n 1) (sym here) ∙ ap (λ l. f x ∷ l) (all_ones f xs d n (omega (arith, e)) (λ i l. h (suc i) (omega arith)))

-- where there is one way to each signal of a round, and to go on from there to each of the next one, there is one way to each of these
pub one_way : (g : Game) (ps : List (Vec ℕ)) (ls : List Layer) (n : ℕ) → AreTables g ps ls → n < length ls → (row : Vec ℕ) (l : Layer) → row ≡ get_or ps n row
    → l ≡ get_or ls n l →
    (before count : ℕ) → map (path_weight g.copies) (signals g n) ≡ replicate before 1 → l.edges ≡ replicate count 1
    → replicate count 1 ≡ map (path_weight g.copies) (signals g (suc n))
one_way g ps ls n t in' row l r e before count b w =
    let ss : List Signal = signals g (suc n) in
    let long : count ≡ length ss = sym (length-replicate count 1) ∙ ap (λ (x : List ℕ). length x) (sym w) ∙ (layer_long t in' l e).1 in
    let wide : before ≡ length (signals g n) = sym (length-replicate before 1) ∙ ap (λ (x : List ℕ). length x) (sym b)
    ∙ length-map (signals g n) (path_weight g.copies) in
    all_ones (path_weight g.copies) ss [] count long (λ i m.
    let h = told t in' row l i r e m in
    let p : ℕ = get_or row.items i 0 in
    let path : path_weight g.copies (signal_at g n p) ≡ 1 =
    sym (get_or-map (path_weight g.copies) (signals g n) p [] 0 h.parent_in) ∙ ap (λ (x : List ℕ). get_or x p 0) b
    ∙ get_or-replicate before p 1 0 (omega (arith, wide, h.parent_in)) in
    let edge : last_edge g.copies (signal_at g (suc n) i) ≡ 1 =
    sym h.edge_is ∙ ap (λ (x : List ℕ). get_or x i 0) w ∙ get_or-replicate count i 1 0 (omega (arith, long, m)) in
    h.path_is ∙ ap (λ k. k * last_edge g.copies (signal_at g (suc n) i)) path ∙ ap (λ k. 1 * k) edge)

-- the empty signal has no cards
pub no_hands : (g : Game) (paths owns publics : List ℕ) → paths ≡ 1 ∷ [] → owns ≡ [] → publics ≡ [] → AreKeptCards g 0 paths owns publics 0 0
no_hands g paths owns publics p o q = record {
  weighed = p;
  owned = o;
  shown = q;
  own_each = λ i l. none i l;
  public_each = λ i l. none_shown i l;
}
  where
    none : (i : ℕ) → i < 1 → length (own_cards (signal_at g 0 i)) ≡ 0
    none zero l = refl
    none (suc i) l = absurd (omega arith)

    none_shown : (i : ℕ) → i < 1 → length (public_cards (signal_at g 0 i)) ≡ 0
    none_shown zero l = refl
    none_shown (suc i) l = absurd (omega arith)
