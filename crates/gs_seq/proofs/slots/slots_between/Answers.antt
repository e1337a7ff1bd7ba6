use Rattle.std.proofs.Common.{◌≡◌, ◌+◌, ap, ◌∙◌, arith}
use Rattle.gs_seq.specs.{Games.{frame_in}, Slots.{slots_before}}
use Rattle.gs_seq.proofs.SlotLaws.{slots_few, slots_more}
use Rattle.gs_seq.proofs.slots.slots_between.Goals as goal

pub overflow_add-slots : goal.overflow_add-slots
overflow_add-slots c =
    let more = slots_more (frame_in c.args.game.now) c.args.classes.now.lists c.args.player c.loop-point.point in
    let few = slots_few c.args.game.now c.args.classes.now c.requires.parents c.args.player (c.loop-point.point + 1)
    (omega (arith, c.requires.in_range, c.loop-point-test.true)) in
    omega (arith, c.loop-point.invariant, c.slots_at-slots.ensures, more, few)

pub loop-point-preserved : goal.loop-point-preserved
loop-point-preserved c = omega (
  arith,
  c.loop-point.invariant,
  c.slots_at-slots.ensures,
  slots_more (frame_in c.args.game.now) c.args.classes.now.lists
      c.args.player c.loop-point.point,
)

pub returns : goal.returns
returns c =
    let f = frame_in c.args.game.now in
    let here : c.loop-point.point ≡ c.args.to = omega arith in
    c.loop-point.invariant ∙ ap (slots_before f c.args.classes.now.lists c.args.player) here
