use Rattle.std.proofs.Common.{◌≡◌, ◌+◌, ◌++◌, ◌<◌, ◌≤◌, ℕ, List, drop, length, get_or, arith, ap, replicate, subst, sym, take, ◌∙◌, Some, None, Option, Vec, Global, IsPermutation}
use Rattle.std.proofs.{Common.{MatchOption, Result, Ok, Err, rules, ⊎_elim}, lemmas.Bool.{cases_lt}}
use Rattle.std.proofs.lemmas.List.{get_or-replicate, get_or_past, length-map, length-replicate, take_at}
use Rattle.std.specs.Result.{IsErrAnd}
use Rattle.gs_model.specs.{Matching.{Edges, IsHall}, Rows.{rows}}
use Rattle.gs_model.proofs.Graph.{hall_excludes}
use Rattle.gs_match.specs.{Adjacency.{AreNeighboursBelow}, Refusal.{IsMatchAnswer, IsMatchError}, declared.graph.MatchError.{MatchError}}
use Rattle.gs_match.specs.declared.graph.MatchError.TheVariants.{Memory}
use Rattle.gs_match.specs.{declared.search.Visit.{Visit}, Search.{IsMatching, HasClosed, holder, lefts}}
use Rattle.gs_match.proofs.{SearchLaws.{held_not_last}, HallLaws.{hall_from}, PerfectLaws.{matching_none, perfect_from}}
use Rattle.gs_match.proofs.matching.perfect.Goals as goal

-- nothing is held at first
none_held : (n b : ℕ) → holder (replicate n None) b ≡ None
none_held n b = ⊎_elim
    (λ (l : b < n). get_or-replicate n b None None l)
    (λ (l : n ≤ b). get_or_past (replicate n None) b None (omega (arith, l, length-replicate {A = Option ℕ} n None)))
    (cases_lt b n)

-- out of memory says nothing of the graph
out_of_memory : (g : Edges) (r : Result (List ℕ) MatchError) → IsErrAnd r (λ e. e ≡ Memory) → IsMatchAnswer g r
out_of_memory g (Ok x) is = absurd is
out_of_memory g (Err e) is = record { equal = tt; matched = tt; refused = subst (IsMatchError g) (sym is) tt }

module _ (c : goal.After-drop-adjacent-in-Some) where
  stuck : (c.args.graph.now.left ≡ c.args.graph.now.right) × IsHall c.args.graph.now c.in_ok-visited.field-0.items
  stuck =
      let left_is : c.graph.inside.left ≡ c.args.graph.now.left = ap (λ (g : Edges). g.left) c.graph.view_is in
      let right_is : c.graph.inside.right ≡ c.args.graph.now.right = ap (λ (g : Edges). g.right) c.graph.view_is in
      let at_some = subst (λ (o : Option (Vec Visit Global)). MatchOption o (IsMatching (rows c.deref.result.now) c.augment.new.holders (c.loop-root.root + 1))
      (λ visits. HasClosed (rows c.deref.result.now) c.deref_mut.result.now c.loop-root.root visits.items)) c.in-Some.is c.in_ok-visits.ensures in
      let found : HasClosed (rows c.in_ok-adjacent.adjacent.items) c.loop-root.holders.items c.loop-root.root c.in-Some.visits.items =
      subst (λ (vs : List (Vec ℕ Global)). HasClosed (rows vs) c.loop-root.holders.items c.loop-root.root c.in-Some.visits.items) c.deref.ensures.value
      (subst (λ (hs : List (Option ℕ)). HasClosed (rows c.deref.result.now) hs c.loop-root.root c.in-Some.visits.items) c.deref_mut.ensures.value at_some) in
      let same : IsPermutation (lefts c.in-Some.visits.items) c.in_ok-visited.field-0.items =
      subst (λ (vs : List Visit). IsPermutation (lefts vs) c.in_ok-visited.field-0.items) c.deref-in-Some.ensures.value c.in_ok-visited.ensures.same in
      let within = c.loop-root-test.true in (
        sym left_is ∙ c.if-graph.false ∙ right_is,
        hall_from c.args.graph.now (rows c.in_ok-adjacent.adjacent.items) c.loop-root.holders.items c.loop-root.root c.in-Some.visits.items
            c.in_ok-visited.field-0.items c.in_ok-adjacent.ensures c.loop-root.invariant.wide
            (omega arith) c.loop-root.invariant.matching found same c.in_ok-visited.ensures.sorted,
      )

pub returns-in-Some : goal.returns-in-Some
returns-in-Some c = record {
  equal = tt;
  matched = tt;
  refused = ((stuck c).0, (stuck c).1, λ to p. hall_excludes c.args.graph.now c.in_ok-visited.field-0.items to (stuck c).1 p);
}

pub by_left-requires-clause-within : goal.by_left-requires-clause-within
by_left-requires-clause-within c =
    let right_is : c.graph.inside.right ≡ c.args.graph.now.right = ap (λ (g : Edges). g.right) c.graph.view_is in
    let wide = c.loop-root.invariant.wide in
    let m = c.loop-root.invariant.matching in
    subst (λ (hs : List (Option ℕ)). (b a : ℕ) → holder hs b ≡ Some a → a < length hs) (sym c.deref-2.ensures.value)
    (λ b a h. let l = m.below b a (held_not_last c.loop-root.holders.items b a h) h in
    omega (arith, l, c.loop-root.auto.root-end, c.if-graph.false, right_is, wide))

pub by_left-requires-clause-once : goal.by_left-requires-clause-once
by_left-requires-clause-once c =
    let m = c.loop-root.invariant.matching in
    subst (λ (hs : List (Option ℕ)). (b c' a : ℕ) → holder hs b ≡ Some a → holder hs c' ≡ Some a → b ≡ c') (sym c.deref-2.ensures.value)
    (λ b d a h k. m.once b d a (held_not_last c.loop-root.holders.items b a h) (held_not_last c.loop-root.holders.items d a k) h k)

pub returns : goal.returns
returns c =
    let left_is : c.graph.inside.left ≡ c.args.graph.now.left = ap (λ (g : Edges). g.left) c.graph.view_is in
    let right_is : c.graph.inside.right ≡ c.args.graph.now.right = ap (λ (g : Edges). g.right) c.graph.view_is in
    let done : c.loop-root.root ≡ c.args.graph.now.left = omega (arith, c.loop-root-test.false, c.loop-root.auto.root-end, left_is) in
    let m = subst (λ (k : ℕ). IsMatching (rows c.in_ok-adjacent.adjacent.items) c.loop-root.holders.items k) done c.loop-root.invariant.matching in
    record {
      equal = sym left_is ∙ c.if-graph.false ∙ right_is;
      matched =
          perfect_from c.args.graph.now (rows c.in_ok-adjacent.adjacent.items) c.loop-root.holders.items c.in_ok-by_left.field-0.items c.in_ok-adjacent.ensures
          c.loop-root.invariant.wide (sym left_is ∙ c.if-graph.false ∙ right_is) m
          (c.in_ok-by_left.ensures.long ∙ ap length c.deref-2.ensures.value)
          (subst (λ (hs : List (Option ℕ)). (b a : ℕ) → holder hs b ≡ Some a → get_or c.in_ok-by_left.field-0.items a 0 ≡ b) c.deref-2.ensures.value
          c.in_ok-by_left.ensures.each);
      refused = tt;
    }

pub returns-then-graph : goal.returns-then-graph
returns-then-graph c = record { equal = tt; matched = tt; refused = search rules }

pub augment-requires-clause-root : goal.augment-requires-clause-root
augment-requires-clause-root c =
    let left_is = ap (λ (g : Edges). g.left) c.graph.view_is in
    let rows_are = length-map c.in_ok-adjacent.adjacent.items (λ (v : Vec ℕ Global). v.items) in
    let read = ap (λ (vs : List (Vec ℕ Global)). length vs) c.deref.ensures.value in
    omega (arith, c.loop-root-test.true, left_is, rows_are, read, c.in_ok-adjacent.ensures.long)

pub loop-root-init : goal.loop-root-init
loop-root-init c =
    let right_is : c.graph.inside.right ≡ c.args.graph.now.right = ap (λ (g : Edges). g.right) c.graph.view_is in
    let none = c.in_ok-holders.ensures.items_if_clones_equal (λ y k. search rules) in
    record {
      wide = ap (λ (hs : List (Option ℕ)). length hs) none ∙ length-replicate c.graph.inside.right None ∙ right_is;
      matching = matching_none (rows c.in_ok-adjacent.adjacent.items) c.in_ok-holders.holders.items
          (λ b. ap (λ (hs : List (Option ℕ)). holder hs b) none ∙ none_held c.graph.inside.right b);
    }

pub loop-root-preserved : goal.loop-root-preserved
loop-root-preserved c =
    let now = c.augment.new.holders in
    let adjacent = c.in_ok-adjacent.adjacent.items in
    let long : length now ≡ length c.loop-root.holders.items =
    c.augment.auto.holders ∙ ap (λ (hs : List (Option ℕ)). length hs) c.deref_mut.ensures.value in
    let read : take c.loop-root.holders.len (now ++ drop (length now) c.loop-root.holders.items) ≡ now =
    take_at now (drop (length now) c.loop-root.holders.items) c.loop-root.holders.len (omega (arith, long, c.loop-root.holders.ok.0)) in
    let more : IsMatching (rows c.deref.result.now) now (c.loop-root.root + 1) =
    subst (λ (o : Option (Vec Visit Global)). MatchOption o (IsMatching (rows c.deref.result.now) now (c.loop-root.root + 1))
    (λ visits. HasClosed (rows c.deref.result.now) c.deref_mut.result.now c.loop-root.root visits.items)) c.in_default.is c.in_ok-visits.ensures in
    record {
      wide = ap (λ (hs : List (Option ℕ)). length hs) read ∙ long ∙ c.loop-root.invariant.wide;
      matching = subst (λ (hs : List (Option ℕ)). IsMatching (rows adjacent) hs (c.loop-root.root + 1)) (sym read)
          (subst (λ (vs : List (Vec ℕ Global)). IsMatching (rows vs) now (c.loop-root.root + 1)) c.deref.ensures.value more);
    }

pub augment-requires-clause-matching : goal.augment-requires-clause-matching
augment-requires-clause-matching c =
    subst (λ (vs : List (Vec ℕ Global)). IsMatching (rows vs) c.deref_mut.result.now c.loop-root.root) (sym c.deref.ensures.value)
    (subst (λ (hs : List (Option ℕ)). IsMatching (rows c.in_ok-adjacent.adjacent.items) hs c.loop-root.root) (sym c.deref_mut.ensures.value)
    c.loop-root.invariant.matching)

pub augment-requires-clause-rows : goal.augment-requires-clause-rows
augment-requires-clause-rows c =
    let wide = ap (λ (hs : List (Option ℕ)). length hs) c.deref_mut.ensures.value ∙ c.loop-root.invariant.wide in
    subst (λ (vs : List (Vec ℕ Global)). AreNeighboursBelow (rows vs) (length c.deref_mut.result.now)) (sym c.deref.ensures.value)
    (subst (λ (n : ℕ). AreNeighboursBelow (rows c.in_ok-adjacent.adjacent.items) n) (sym wide) c.in_ok-adjacent.ensures.in_range)

pub by_left-requires-clause-short : goal.by_left-requires-clause-short
by_left-requires-clause-short c = grind arith

pub returns-in_err-visited : goal.returns-in_err-visited
returns-in_err-visited c = out_of_memory c.args.graph.now _ c.from_residual-in_err-visited.ensures.1

pub returns-in_err-visits : goal.returns-in_err-visits
returns-in_err-visits c = out_of_memory c.args.graph.now _ c.from_residual-in_err-visits.ensures.1

pub returns-in_err-adjacent : goal.returns-in_err-adjacent
returns-in_err-adjacent c = out_of_memory c.args.graph.now _ c.from_residual.ensures.1

pub returns-in_err-holders : goal.returns-in_err-holders
returns-in_err-holders c = out_of_memory c.args.graph.now _ c.from_residual-in_err-holders.ensures.1

pub returns-in_err-by_left : goal.returns-in_err-by_left
returns-in_err-by_left c = out_of_memory c.args.graph.now _ c.from_residual-in_err-by_left.ensures.1
