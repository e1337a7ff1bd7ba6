use Rattle.std.proofs.Common.{◌≡◌, ◌+◌, ◌<◌, ◌≤◌, ℕ, pos, get_or, length, length-append, ◌++◌, ◌∷◌, [], subst, sym, ap, refl, ◌∙◌, Ok, rules, arith, All}
use Rattle.std.proofs.lemmas.Grind.{common_steps}
use Rattle.std.proofs.{lemmas.Int.{to_z-of_z}, lemmas.List.Elements.{All-push}, lemmas.Result.{err_from_is_err_and}}
use Rattle.std.specs.Int.RustNames.{FitsSigned}
use mir.Syntax.{w64}
use Rattle.gs_file.specs.{Answers.{Fails}, Keys.{top}, Tables.{within}, declared.fault.Key.TheVariants.{Bonus}}
use Rattle.gs_file.proofs.Loop.{goes_on, breaks_off, is_done}
use Rattle.gs_file.proofs.ranges.each_bonus.Goals as goal

pub loop-number-preserved : goal.loop-number-preserved
loop-number-preserved c =
    let n = c.loop-number.number-index in
    let z = get_or c.args.numbers.now n (pos 0) in
    let old = c.loop-number.bonuses.items in
    let new = c.in_ok-bonus.bonus in
    let fits : FitsSigned w64 z = search rules in
    let here = subst (λ y. within c.top.result 1 9 y ≡ Ok new) (to_z-of_z w64 z fits) c.in_ok-bonus.ensures.gives in
    let grown : c.push.new.self.items ≡ old ++ new ∷ [] = c.in_ok-push.ensures.items in
    record {
      so_far = rw grown (goes_on (λ n. within (top Bonus) 1 9) (λ z. z) c.args.numbers.now n old c.loop-number.invariant.so_far (pos 0) z
          c.loop-number-test.true refl new
          (subst (λ p. within p 1 9 z ≡ Ok new) c.top.ensures here));
      range = subst (All (λ (n : ℕ). (0 < n) × (n ≤ 9))) (sym grown)
          (All-push (λ (n : ℕ). (0 < n) × (n ≤ 9)) old new c.loop-number.invariant.range c.in_ok-bonus.ensures.range);
      count = ap length grown ∙ length-append old (new ∷ []) ∙ ap (λ k. k + 1) c.loop-number.invariant.count;
    }

pub returns : goal.returns
returns c =
    let n = c.loop-number.number-index in
    record {
      gives = is_done (λ n. within (top Bonus) 1 9) (λ z. z) c.args.numbers.now n _ c.loop-number.invariant.so_far c.loop-number-test.false;
      range = c.loop-number.invariant.range;
      count = omega (arith, c.loop-number.invariant.count, c.loop-number-test.false, c.loop-number.auto.number-index-end);
    }

pub returns-in_err-bonus : goal.returns-in_err-bonus
returns-in_err-bonus c =
    let n = c.loop-number.number-index in
    let z = get_or c.args.numbers.now n (pos 0) in
    let e = err_from_is_err_and c.from_residual.result c.from_residual.ensures.1 in
    let why = c.in_err-bonus.field-0.0 in
    let fits : FitsSigned w64 z = search rules in
    let here = subst (λ y. Fails why (within c.top.result 1 9 y)) (to_z-of_z w64 z fits) c.in_err-bonus.ensures.gives in
    let fails = breaks_off (λ n. within (top Bonus) 1 9) (λ z. z) c.args.numbers.now n _ c.loop-number.invariant.so_far (pos 0) z c.loop-number-test.true refl _
    (subst (λ p. Fails why (within p 1 9 z)) c.top.ensures here) in
    record { gives = rw (e.1, e.2) fails; range = rw e.1 tt; count = rw e.1 tt }

pub loop-number-init : goal.loop-number-init
loop-number-init c = grind (arith, common_steps)
