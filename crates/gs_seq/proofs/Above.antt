-- The class that a class descends from, round by round.
use Rattle.std.proofs.Common.{◌≡◌, ℕ, ◌-◌, ◌<◌, ◌≤◌, List, length, get_or, sym, ap, ◌∙◌, arith}
use Rattle.gs_filter.specs.Filter.{Filter, IsParentClass}
use Rattle.gs_filter.proofs.TallyLaws.{first_in, first_member_of}
use Rattle.gs_model.specs.{Classes.{IsClass, class_of, first_member, list_of}, Frame.{Frame, ancestor, ancestor_up, parents_of, signal_count}}
use Rattle.gs_model.proofs.Tables.{is_table}
use Rattle.gs_seq.specs.Sources.{IsClassAbove}

-- the ancestor in the round before is the parent
parent_is : (f : Frame) (at x : ℕ) → 0 < at → ancestor f at (at - 1) x ≡ get_or (parents_of f at) x 0
unfolding ancestor
parent_is f at x some = let one : at - (at - 1) ≡ 1 = omega arith in ap (λ k. ancestor_up f at k x) one

module _ (c : Filter) (round class : ℕ) (some : 0 < round) (top : round ≤ length c.lists) (here : IsClass c.lists round class) where
  in_parents : round ≤ length c.parents
  in_parents = omega (arith, c.classes.rounds, top)

  -- a class is its own in its own round
  pub above_none : IsClassAbove c round round class class
  above_none f r e =
      let own = (is_table f r).itself round (first_member c.lists round class) in
      sym (ap (class_of c.lists round) own ∙ first_member_of (list_of c.lists round) class (c.classes.numbered round some in_parents) here.0 here.1)

  -- one round up
  pub above_more : (at above next : ℕ) → 1 < at → at ≤ round → IsClassAbove c round at class above → IsParentClass c at above next
      → IsClassAbove c round (at - 1) class next
  above_more at above next lo hi a p f r e =
      let first = first_member c.lists round class in
      let x = ancestor f round at first in
      let count : (j : ℕ) → signal_count f j ≡ length (list_of c.parents j) = λ j. ap (λ (ps : List (List ℕ)). length (list_of ps j)) e in
      let member : first < signal_count f round =
      omega (
        arith,
        first_in (list_of c.lists round) class (c.classes.numbered round some in_parents) here.0 here.1,
        c.classes.lengths round some in_parents,
        count round,
      ) in
      let inside = (is_table f r).kept round at first (omega arith) hi member in
      let within : x < length (list_of c.lists at) = omega (arith, inside, count at, c.classes.lengths at (omega arith) (omega (arith, hi, in_parents))) in
      let same = p x within (sym (a f r e)) in
      sym (ap (class_of c.lists (at - 1)) (sym ((is_table f r).chain round at (at - 1) first (omega arith) hi) ∙ parent_is f at x (omega arith)
      ∙ ap (λ (ps : List (List ℕ)). get_or (list_of ps at) x 0) e) ∙ same)
