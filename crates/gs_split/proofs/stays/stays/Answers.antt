use Rattle.std.proofs.{Common.{◌≡◌, ◌-◌, ◌<◌, ◌≤◌, ℕ, List, Vec, Global, ap, arith, length}, lemmas.Grind.{common_steps}}
use Rattle.gs_model.specs.Rows.{rows}
use Rattle.gs_filter.proofs.RowLaws.{length-rows}
use Rattle.gs_split.proofs.stays.stays.Goals as goal

-- the place of a round's list
inside : (vs : List (Vec ℕ Global)) (lists : List (List ℕ)) (round n : ℕ) → n ≡ round → 0 < round → round ≤ length lists → rows vs ≡ lists → n - 1 < length vs
inside vs lists round n is some top e = omega (arith, is, some, top, length-rows vs, ap (λ (ls : List (List ℕ)). length ls) e)

pub returns : goal.returns
returns c = grind (arith, common_steps)

pub bounds-lists-place-2 : goal.bounds-lists-place-2
bounds-lists-place-2 c = inside c.lists-2.result.now c.args.classes.now.lists c.args.round c.from-place.result c.from-place.ensures c.requires.some c.requires.top c.lists-2.ensures.value

pub bounds-lists-place : goal.bounds-lists-place
bounds-lists-place c = inside c.lists.result.now c.args.before.now.lists c.args.round c.from-place.result c.from-place.ensures c.requires.some c.requires.before c.lists.ensures.value
