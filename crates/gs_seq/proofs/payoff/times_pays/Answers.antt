use Rattle.std.proofs.{Common.{◌≡◌, ◌*◌, ◌≤◌, ap, ◌∙◌, arith, of_z, sym, to_z, to_z-of_z}, Math.Nat.{mul-le-mul_right}, lemmas.Int.{fits_signed_from_abs}}
use Rattle.std.specs.{Int.{w128, w64}, Prelude.{◌*ℤ◌, pos, unsigned_abs}}
use Rattle.gs_game.specs.Seen.{end_of}
use Rattle.gs_seq.specs.Payoffs.{chips_of, pair_pays, weight_of}
use Rattle.gs_seq.proofs.{AlongRows.{pays_as, weight_small}, EndSums.{pays_size}, Signed.{read_back}, payoff.times_pays.Goals.{After-chips_times, After-from-weight}}
use Rattle.gs_seq.proofs.payoff.times_pays.Goals as goal

-- the weight that counts, as it was computed
weight_is : (c : After-from-weight) → c.from-weight.result ≡ weight_of (end_of c.args.end).kind c.args.pair
weight_is c =
    let w = weight_of (end_of c.args.end).kind c.args.pair in
    let fits = fits_signed_from_abs w64 w (omega (arith, weight_small (end_of c.args.end).kind c.args.pair c.requires.moderate, c.requires.few)) in
    c.from-weight.ensures ∙ ap (λ z. to_z w64 (of_z w64 z)) c.weight_at.ensures ∙ to_z-of_z {w = w64} {z = w} fits

weight_read : (c : After-from-weight) → to_z w128 (of_z w128 c.from-weight.result) ≡ weight_of (end_of c.args.end).kind c.args.pair
weight_read c = read_back c.from-weight.result _ (record { sfits = c.from-weight.type_inv }) (weight_is c)

pub chips_times-requires-clause-sum : goal.chips_times-requires-clause-sum
chips_times-requires-clause-sum c =
    let at = (goal.at.chips_times-requires-clause-sum c).After-from-weight in
    omega (
      arith,
      weight_small (end_of c.args.end).kind c.args.pair c.requires.moderate,
      c.requires.few,
      ap unsigned_abs (weight_is at),
      ap unsigned_abs (weight_read at),
    )

-- what the end pays, as it was computed
pays_is : (c : After-chips_times) → to_z w128 (of_z w128 c.chips_times.result) ≡ pair_pays c.args.player (end_of c.args.end) c.args.pair
pays_is c =
    let z = end_of c.args.end in
    read_back c.chips_times.result _ (record { sfits = c.chips_times.type_inv }) (c.chips_times.ensures
    ∙ ap (λ v. v *ℤ to_z w128 (of_z w128 c.from-weight.result)) (read_back c.chips_at.result _ (record { sfits = c.chips_at.type_inv }) c.chips_at.ensures.value)
    ∙ ap (λ v. chips_of c.args.player z.kind z.put *ℤ v) (weight_read (goal.at.After-chips_times c).After-from-weight) ∙ sym (pays_as c.args.player z c.args.pair))

pub scaled-requires : goal.scaled-requires
scaled-requires c =
    let v = unsigned_abs (pair_pays c.args.player (end_of c.args.end) c.args.pair) in
    let size : v ≤ 65535 * (9 * c.args.pair.weight) = pays_size c.args.player 65535 (end_of c.args.end) c.args.pair (omega arith) c.requires.moderate in
    let product = mul-le-mul_right v c.requires.number in
    omega (arith, size, product, c.requires.few, ap (λ w. c.args.number * unsigned_abs w) (pays_is (goal.at.scaled-requires c).After-chips_times))

pub returns : goal.returns
returns c = read_back c.scaled.result _ (record { sfits = c.scaled.type_inv })
    (c.scaled.ensures ∙ ap (λ w. pos c.args.number *ℤ w) (pays_is (goal.at.returns c).After-chips_times))
