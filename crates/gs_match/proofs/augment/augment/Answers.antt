use Rattle.std.proofs.{Common.{◌≡◌, ◌<◌, ℕ, set, arith, subst, sym, ◌∙◌, Some}, lemmas.List.{get_or_default}}
use Rattle.gs_match.specs.{declared.search.Visit.{Visit}, declared.search.Found.{Found}, declared.search.Found.TheVariants.{Free}, Search.{IsFound, visit}}
use Rattle.gs_model.specs.Rows.{rows}
use Rattle.gs_match.proofs.{AugmentLaws.{IsShift, shift_start, shift_step, shift_end}, augment.augment.Goals.{In-Free}}
use Rattle.gs_match.proofs.augment.augment.Goals as goal

-- the search ended at a free place
found : (c : In-Free) → IsFound (rows c.args.adjacent.now) c.args.holders.now c.args.root (Free c.in-Free.visits c.in-Free.place c.in-Free.right)
found c = subst (λ (f : Found). IsFound (rows c.args.adjacent.now) c.args.holders.now c.args.root f) c.in-Free.is c.in_ok-visits.ensures

pub loop-place-init : goal.loop-place-init
loop-place-init c =
    shift_start (rows c.args.adjacent.now) c.args.holders.now c.args.root c.in-Free.visits.items c.in-Free.place c.in-Free.right c.requires.matching
    (found (goal.at.loop-place-init c).In-Free).1

pub loop-place-preserved : goal.loop-place-preserved
loop-place-preserved c =
    let path = (found (goal.at.loop-place-preserved c).In-Free).1 in
    let here : c.index-visit.result.now ≡ visit c.in-Free.visits.items c.loop-place.place =
    c.index-visit.ensures ∙ get_or_default c.in-Free.visits.items c.loop-place.place c.index-visit.result.now (record { left = 0; right = 0; from = 0 })
    c.loop-place.invariant.within in
    subst (λ (v : Visit). IsShift (rows c.args.adjacent.now) (set c.loop-place.holders c.loop-place.right (Some v.left)) c.args.root c.in-Free.visits.items
    v.from v.right) (sym here)
    (shift_step (rows c.args.adjacent.now) c.args.holders.now c.loop-place.holders path.reached c.args.root c.in-Free.visits.items c.loop-place.place
    c.loop-place.right path.tree c.loop-place.invariant c.loop-place-test.true)

pub returns : goal.returns
returns c =
    let none : c.loop-place.place ≡ 0 = omega (arith, c.loop-place-test.false) in
    shift_end (rows c.args.adjacent.now) c.loop-place.holders c.args.root c.in-Free.visits.items c.loop-place.right
    (subst (λ (k : ℕ). IsShift (rows c.args.adjacent.now) c.loop-place.holders c.args.root c.in-Free.visits.items k c.loop-place.right) none
    c.loop-place.invariant) (found (goal.at.returns c).In-Free).0

pub returns-in-Closed : goal.returns-in-Closed
returns-in-Closed c = grind arith

pub loop-place-smaller : goal.loop-place-smaller
loop-place-smaller c =
    let path = (found (goal.at.loop-place-smaller c).In-Free).1 in
    let here : c.index-visit.result.now ≡ visit c.in-Free.visits.items c.loop-place.place =
    c.index-visit.ensures ∙ get_or_default c.in-Free.visits.items c.loop-place.place c.index-visit.result.now (record { left = 0; right = 0; from = 0 })
    c.loop-place.invariant.within in
    subst (λ (v : Visit). v.from < c.loop-place.place) (sym here) (path.tree.linked c.loop-place.place c.loop-place-test.true c.loop-place.invariant.within).earlier
