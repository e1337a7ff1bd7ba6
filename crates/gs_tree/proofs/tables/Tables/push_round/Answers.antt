use Rattle.std.proofs.Common.{subst, All, ◌≡◌, ◌+◌, ◌<◌, ◌≤◌, ◌++◌, ◌∷◌, [], ℕ, suc, List, length, map, take, take_all, get_or, sym}
use Rattle.std.proofs.{Common.{ap, ◌∙◌, arith}, lemmas.List.{length-map}, lemmas.List.FromFn.{map-range_with_len_more}}
use Rattle.std.specs.{Prelude.{flat_map}, List.{range_with_len}}
use Rattle.gs_model.specs.{Game.{Game, Round, round_at}, Signals.{Seen, Signal, signals, children, owners, showings, edge, left_by, first_child, signal_at}}
use Rattle.gs_model.proofs.Basics.{map-map}
use Rattle.gs_game.specs.Games.{game_of, round_rules}
use Rattle.gs_tree.specs.{Layers.{AreFew}, Shown.{seen_of}, Tables.{shown_in}}
use Rattle.gs_tree.proofs.Grown.{parents_grown}
use Rattle.gs_tree.proofs.{Pushed.{joined_more}, Grown.{shows_of, few_before, first_grown, owners_more, seen_grown, edges_grown}}
use Rattle.gs_tree.proofs.tables.Tables.push_round.Goals.{At-loop-parent}
use Rattle.gs_tree.proofs.tables.Tables.push_round.Goals as goal

-- what a signal's showings weigh
abbrev edges : Game → ℕ → Signal → List ℕ
edges g n s = map (edge (left_by g.copies s)) (showings (left_by g.copies s) (round_at g (suc n)))

-- as many showings as the signals so far have children
long : (c : At-loop-parent) → length c.loop-parent.grown.layer.shown.items ≡ first_child (game_of c.args.valid.now.game)
    (length c.args.self.now.layers.items) c.loop-parent.parent
long c = omega (
  arith,
  length-map c.loop-parent.grown.layer.shown.items seen_of,
  ap (λ (x : List Seen). length x)
      c.loop-parent.invariant.shown,
  first_grown (game_of c.args.valid.now.game) (length c.args.self.now.layers.items) c.loop-parent.parent,
)

-- which are no more than the signals of the next round
few : (c : At-loop-parent) → c.loop-parent.parent ≤ length (signals (game_of c.args.valid.now.game) (length c.args.self.now.layers.items))
    → first_child (game_of c.args.valid.now.game) (length c.args.self.now.layers.items) c.loop-parent.parent ≤ length
    (signals (game_of c.args.valid.now.game) (suc (length c.args.self.now.layers.items)))
few c l = omega (
  arith,
  few_before (game_of c.args.valid.now.game) (length c.args.self.now.layers.items) c.loop-parent.parent l,
  first_grown (game_of c.args.valid.now.game)
      (length c.args.self.now.layers.items) c.loop-parent.parent,
)

pub overflow_cast-len : goal.overflow_cast-len
overflow_cast-len c =
    let w = (goal.at.overflow_cast-len c).At-loop-parent in
    omega (arith, long w, few w (omega (arith, c.requires.next.counted)), c.requires.next.few, c.len.ensures, c.loop-parent.grown.layer.shown.ok.0)

pub push_children-requires-clause-counted : goal.push_children-requires-clause-counted
push_children-requires-clause-counted c = ap (λ (x : List ℕ). length x) c.deref.ensures.value ∙ c.in_ok-left.ensures.len ∙ c.args.valid.now.deck.counted

pub push_children-requires-clause-few : goal.push_children-requires-clause-few
push_children-requires-clause-few c =
    let w = (goal.at.push_children-requires-clause-few c).At-loop-parent in
    omega (arith, long w, few w (omega (arith, c.requires.next.counted)), c.requires.next.few)

pub loop-parent-preserved : goal.loop-parent-preserved
loop-parent-preserved c =
    let g : Game = game_of c.args.valid.now.game in
    let n : ℕ = length c.args.self.now.layers.items in
    let r : Round = round_at g (suc n) in
    let i : ℕ = c.loop-parent.parent in
    let ss : List Signal = signals g n in
    let s : Signal = get_or ss i [] in
    let here : i < length ss = omega (arith, c.requires.next.counted) in
    let all_rounds : c.len-round.result ≡ n = omega (arith, c.len-round.ensures, c.args.self.now.layers.ok.0) in
    let left : c.deref.result.now ≡ left_by g.copies s =
    c.deref.ensures.value ∙ c.in_ok-left.ensures.left ∙ ap (λ k. left_by g.copies (signal_at g k i)) all_rounds in
    let shows : Signal → List Seen = shows_of g n in
    let showing : List Seen = showings c.deref.result.now (round_rules c.args.next.now) in
    let more : showing ≡ shows s = ap (λ x. showings x (round_rules c.args.next.now)) left ∙ ap (showings (left_by g.copies s)) c.requires.next.ruled in
    let before = long (goal.at.loop-parent-preserved c).At-loop-parent in
    let owned : List ℕ = owners (λ s. children g r s) 0 (take i ss) in
    let zero : i ≡ 0 + i = omega arith in
    record {
      shown = c.in_ok-push_children.ensures.shown
          ∙ joined_more shows [] (shown_in c.loop-parent.grown.layer) showing ss i [] here c.loop-parent.invariant.shown more;
      edges = c.in_ok-push_children.ensures.edges
          ∙ joined_more (edges g n) [] c.loop-parent.grown.layer.edges (map (edge c.deref.result.now) showing) ss i [] here c.loop-parent.invariant.edges
          (ap (λ x. map (edge x) showing) left ∙ ap (map (edge (left_by g.copies s))) more);
      firsts = c.in_ok-push_children.ensures.firsts
          ∙ ap (λ x. x ++ length c.loop-parent.grown.layer.shown.items ∷ []) c.loop-parent.invariant.firsts
          ∙ ap (λ v. map (first_child g n) (range_with_len 0 i) ++ v ∷ []) before ∙ sym (map-range_with_len_more (first_child g n) 0 i i (omega arith));
      parents = c.in_ok-push_children.ensures.parents
          ∙ ap (λ x. x ++ map (λ _. i) showing) c.loop-parent.invariant.parents
          ∙ ap (λ x. owned ++ map (λ _. i) x) more
          ∙ ap (λ x. owned ++ x) (sym (map-map (λ _. i) (λ p. (edge (left_by g.copies s) p, s ++ p ∷ [])) (shows s)))
          ∙ ap (λ k. owned ++ map (λ _. k) (children g r s)) zero
          ∙ sym (owners_more (λ s. children g r s) 0 ss i [] here);
      long = c.in_ok-push_children.ensures.long;
    }

pub push_children-requires-clause-few_left : goal.push_children-requires-clause-few_left
push_children-requires-clause-few_left c =
    let d = c.args.valid.now.deck in
    subst AreFew (sym c.deref.ensures.value) (record { kinds = omega (arith, c.in_ok-left.ensures.len, d.counted, d.few); copies = c.in_ok-left.ensures.few })

pub returns : goal.returns
returns c = record {
  parents = parents_grown (game_of c.args.valid.now.game) (length c.args.self.now.layers.items) c.loop-parent.parent c.loop-parent.grown.parents.items
      (omega (arith, c.requires.next.counted, c.loop-parent-test.false)) c.loop-parent.invariant.parents;
  layer = let g : Game = game_of c.args.valid.now.game in
      let n : ℕ = length c.args.self.now.layers.items in
      let i : ℕ = c.loop-parent.parent in
      let ss : List Signal = signals g n in
      let over : length ss ≤ i = omega (arith, c.requires.next.counted) in
      let end : i ≡ length ss = omega (arith, c.requires.next.counted) in
      let last : c.len.result ≡ first_child g n i =
      omega (arith, c.len.ensures, c.loop-parent.grown.layer.shown.ok.0, long (goal.at.returns c).At-loop-parent) in
      record {
        shown = c.loop-parent.invariant.shown ∙ ap (flat_map (shows_of g n)) (take_all i ss over) ∙ sym (seen_grown g n);
        edges = c.loop-parent.invariant.edges ∙ ap (flat_map (edges g n)) (take_all i ss over) ∙ sym (edges_grown g n);
        firsts = c.in_ok-push.ensures.items ∙ ap (λ x. x ++ c.len.result ∷ []) c.loop-parent.invariant.firsts
            ∙ ap (λ v. map (first_child g n) (range_with_len 0 i) ++ v ∷ []) last ∙ sym (map-range_with_len_more (first_child g n) 0 i i (omega arith))
            ∙ ap (λ k. map (first_child g n) (range_with_len 0 (k + 1))) end;
      };
}

pub push_children-requires-clause-long : goal.push_children-requires-clause-long
push_children-requires-clause-long c = grind arith

pub copies_left-requires-clause-signal_in : goal.copies_left-requires-clause-signal_in
copies_left-requires-clause-signal_in c = grind arith
