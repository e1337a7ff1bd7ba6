use Rattle.std.proofs.Common.{◌<◌, List, [], ◌∷◌}
use Rattle.std.proofs.{Common.{◌≤◌, ◌*◌, ◌-◌, ℕ, suc, length, take, drop, get_or, sum, arith}, lemmas.Grind.{common_steps}, lemmas.List.Sums.{sum_by-cons}}
use Rattle.gs_game.specs.Sequences.{power}
use Rattle.gs_game.proofs.{Powers.{draws_bound, power_fits}, RoundSteps.{split_number}}
use Rattle.gs_game.proofs.deals.+draws.Goals as goal

some_power : (sizes : List ℕ) → length sizes < 1 → 1 ≤ power 468 (sum sizes)
some_power [] l = omega arith
some_power (size ∷ sizes) l = absurd (omega (arith, l))

pub draws-requires : goal.draws-requires
draws-requires t c =
    let rest = take (length c.args.sizes.now - 1) (drop 1 c.args.sizes.now) in
    let e = split_number c.args.sizes.now c.in-len1-up.len_at_least in
    let s = sum_by-cons (λ (x : ℕ). x) (get_or c.args.sizes.now 0 0) rest in
    let small = rw e at c.requires.small in
    let fits = rw e at c.requires.fits in
    (grind (arith, common_steps), (omega arith, ((λ k d h. small (suc k) d (omega (arith, h))), omega (arith, s, fits))))

pub returns-in-len1-up-clause-bound : goal.returns-in-len1-up-clause-bound
returns-in-len1-up-clause-bound t c =
    let e = split_number c.args.sizes.now c.in-len1-up.len_at_least in
    rw e (draws_bound c.args.copies (get_or c.args.sizes.now 0 0) (take (length c.args.sizes.now - 1) (drop 1 c.args.sizes.now)) c.choose.result c.draws.result
    c.requires.few c.choose.ensures c.draws.ensures.bound)

pub overflow_mul-result : goal.overflow_mul-result
overflow_mul-result t c =
    let e = split_number c.args.sizes.now c.in-len1-up.len_at_least in
    let b : c.choose.result * c.draws.result ≤ power 468 (sum c.args.sizes.now) =
    rw e (draws_bound c.args.copies (get_or c.args.sizes.now 0 0) (take (length c.args.sizes.now - 1) (drop 1 c.args.sizes.now)) c.choose.result c.draws.result
    c.requires.few c.choose.ensures c.draws.ensures.bound) in
    omega (arith, b, power_fits (sum c.args.sizes.now) c.requires.fits)

pub returns-in-len1-up-clause-ways : goal.returns-in-len1-up-clause-ways
returns-in-len1-up-clause-ways t c = grind (arith, common_steps)

pub returns-in-empty-clause-bound : goal.returns-in-empty-clause-bound
returns-in-empty-clause-bound t c = some_power c.args.sizes.now c.in-empty.len_below

pub returns-in-empty-clause-ways : goal.returns-in-empty-clause-ways
returns-in-empty-clause-ways t c = grind (arith, common_steps)
