use Rattle.std.proofs.Common.{◌≡◌, ℕ, ◌+◌, ◌-◌, ◌<◌, of_z, w64, slice_index_or, refl, ap, ◌∙◌, arith}
use Rattle.std.proofs.lemmas.Grind.{common_steps}
use Rattle.gs_simplex.specs.declared.sparse.Program.{Program}
use Rattle.gs_tests_strategies.proofs.Checks.{taken_by}
use Rattle.gs_tests_strategies.proofs.openings.can_take.Goals as goal

pair_is : (x : ℕ × ℕ) → 0 < x.0 → 0 < x.1 → x ≡ (x.0 - 1 + 1, x.1 - 1 + 1)
pair_is x a b =
    let f : x.0 ≡ x.0 - 1 + 1 = omega arith in let g : x.1 ≡ x.1 - 1 + 1 = omega arith in
    ap (λ (t : ℕ). (t, x.1)) f ∙ ap (λ (t : ℕ). (x.0 - 1 + 1, t)) g

pub returns : goal.returns
returns c = λ done.
    let x = slice_index_or c.args.opening.now c.args.step (0, 0) in
    let r = c.if-not-in_range.ensures refl in
    taken_by c.args.p.now c.args.opening.now c.args.step c.requires.step c.requires.before (x.0 - 1) (x.1 - 1) c.args.multipliers.now (pair_is x r.0 r.2)
    (omega (arith, r.0, r.1)) (omega (arith, r.2, r.3)) (c.if-not-is_new.ensures refl) (grind (arith, common_steps))
    (λ z. c.if-number-eq0.false (ap (of_z w64) (c.in-Some.ensures c.in-Some.number refl ∙ z)))
    (λ i h. c.if-not-are_taken.ensures refl i (omega (arith, h, ap (λ (p : Program). p.rows) c.p.view_is))) (c.are_cleared.ensures done)
