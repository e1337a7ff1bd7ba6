use Rattle.std.proofs.Common.{◌≡◌, ℕ, List, length, sym, ap, ◌∙◌, arith}
use Rattle.gs_model.specs.{Frame.{last_step, player_at, point_count}, Positions.{at_point}}
use Rattle.gs_seq.specs.Abstracts.{abstract_frame, lists_of}
use Rattle.gs_best.specs.Tables.{start_of}
use Rattle.gs_play.proofs.Gates.{gate_before}
use Rattle.gs_play.proofs.plot.gates_of.Goals as goal

pub loop-point-init : goal.loop-point-init
loop-point-init c =
    let none = ap (λ (l : List ℕ). length l) c.new-gates.ensures.items in
    record { long = none; above = λ q e lq le l. absurd (omega (arith, l, none)) }

pub loop-point-preserved : goal.loop-point-preserved
loop-point-preserved c =
    let f = abstract_frame c.args.form.now in
    record {
      long = c.in_ok-add_above.ensures.long;
      above = c.in_ok-add_above.ensures.above (λ q. last_step f (player_at f q) (at_point q)) (sym c.gate_of.ensures) c.loop-point.invariant.above;
    }

pub returns : goal.returns
returns c =
    let f = abstract_frame c.args.form.now in
    let all : c.loop-point.point ≡ point_count f = omega (arith, c.loop-point-test.false, c.loop-point.auto.point-end, c.point_total-point-end.ensures) in
    record { long = c.loop-point.invariant.long ∙ ap (start_of f (lists_of c.args.form.now)) all; above = c.loop-point.invariant.above }

pub add_above-requires : goal.add_above-requires
add_above-requires c = record {
  long_rows = omega arith;
  rows = grind arith;
  point = grind arith;
  step = gate_before c.args.form.now c.loop-point.point (omega (arith, c.loop-point-test.true, c.point_total-point-end.ensures))
      c.gate_of.result c.gate_of.ensures;
  long = omega arith;
}
