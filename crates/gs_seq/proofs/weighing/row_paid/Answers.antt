use Rattle.std.proofs.Common.{◌∙◌, ap, of_z, sym, to_z}
use Rattle.std.specs.{Int.{w128}, Prelude.{◌*ℤ◌}}
use Rattle.gs_game.specs.Seen.{end_of}
use Rattle.gs_seq.specs.Payoffs.{chips_of}
use Rattle.gs_seq.proofs.{AlongRows.{pays_along}, Signed.{read_back}}
use Rattle.gs_seq.proofs.weighing.row_paid.Goals as goal

pub returns : goal.returns
returns c =
    let z = end_of c.args.end in
    read_back c.chips_times.result _ (record { sfits = c.chips_times.type_inv }) (c.chips_times.ensures
    ∙ ap (λ v. v *ℤ to_z w128 (of_z w128 c.weights_along.result)) (read_back c.chips_at.result _ (record { sfits = c.chips_at.type_inv }) c.chips_at.ensures.value)
    ∙ ap (λ v. chips_of c.args.player z.kind z.put *ℤ v)
    (read_back c.weights_along.result _ (record { sfits = c.weights_along.type_inv }) c.weights_along.ensures.value)
    ∙ sym (pays_along c.args.player z c.args.numbers.now c.args.row.now))
