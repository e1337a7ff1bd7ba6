use Rattle.std.proofs.lemmas.Grind.{common_steps}
use Rattle.std.proofs.{Common.{◌≡◌, ℕ, ◌<◌, cond, get_or, length, ap, ◌∙◌, arith, rules, to_z, of_z}, lemmas.Int.{to_z-of_z}}
use Rattle.std.specs.{Prelude.{ℤ, pos, ◌+ℤ◌, ◌==◌}, Int.RustNames.{FitsSigned}}
use mir.Syntax.{w128}
use Rattle.gs_best.proofs.Written.{rest_more, row_more}
use Rattle.gs_best.proofs.raising.add.Goals as goal

pub added-requires : goal.added-requires
added-requires c = grind arith

pub loop-class-preserved : goal.loop-class-preserved
loop-class-preserved c =
    let i = c.loop-class.class in
    let old = c.args.sums.now in
    let sums = c.loop-class.sums in
    let begins = c.args.choice == 0 in
    let worth : ℕ → ℤ = λ k. get_or c.args.worths.now k (pos 0) in
    let all : ℕ → ℤ = λ k. cond begins (worth k) (get_or old k (pos 0) +ℤ worth k) in
    let sum = get_or sums i (pos 0) in
    let fits_sum : FitsSigned w128 sum = search rules in
    let fits_worth : FitsSigned w128 (worth i) = search rules in
    let inside : i < length sums = omega (arith, c.loop-class-test.true, c.requires.sums, c.loop-class.auto.sums) in
    let read : to_z w128 (of_z w128 c.added.result) ≡ all i =
    to_z-of_z w128 c.added.result (record { sfits = c.added.type_inv }) ∙ c.added.ensures
    ∙ ap (λ z. cond begins z (to_z w128 (of_z w128 sum) +ℤ z)) (to_z-of_z w128 (worth i) fits_worth)
    ∙ ap (λ z. cond begins (worth i) (z +ℤ worth i)) (to_z-of_z w128 sum fits_sum ∙ c.loop-class.invariant.rest i (omega arith)) in
    record {
      sums = row_more all sums i _ (pos 0) inside read c.loop-class.invariant.sums;
      rest = rest_more sums old i _ (pos 0) c.loop-class.invariant.rest;
    }

pub returns : goal.returns
returns c = grind (arith, common_steps)
