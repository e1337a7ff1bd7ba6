use Rattle.std.proofs.Common.{ap, arith}
use Rattle.gs_seq.specs.{Games.{frame_in}, Slots.{slots_before}}
use Rattle.gs_seq.proofs.SlotLaws.{slots_few}
use Rattle.gs_seq.proofs.slots.slot_count.Goals as goal

pub returns : goal.returns
returns c = record {
  value = let f = frame_in c.args.game.now in
      omega (arith, c.slots_between.ensures, ap (slots_before f c.args.classes.now.lists c.args.player) c.point_total.ensures);
  few = let few = slots_few c.args.game.now c.args.classes.now c.requires.parents c.args.player c.point_total.result (omega (arith, c.point_total.ensures)) in
      omega (arith, c.slots_between.ensures, few);
}
