use Rattle.std.proofs.{lemmas.Grind.{common_steps}, Common.{◌<◌, length, slice_index, arith}, lemmas.List.{length-set}}
use Rattle.gs_simplex.proofs.Living.{skipped, added}
use Rattle.gs_simplex.proofs.columns.live_places.Goals as goal

pub loop-j-preserved-then-stands-j : goal.loop-j-preserved-then-stands-j
loop-j-preserved-then-stands-j c =
    let s = c.args.stands.now in
    skipped c.args.rows c.args.width (length s) (slice_index s) c.loop-j.live c.loop-j.found c.loop-j.j c.requires.stands c.loop-j-test.true
    c.loop-j.invariant c.if-stands-j.true

pub loop-j-preserved : goal.loop-j-preserved
loop-j-preserved c =
    let s = c.args.stands.now in
    let room : c.loop-j.found < length c.loop-j.live = omega (
      arith,
      simp length-set at c.loop-j.auto.live,
      c.requires.room,
      c.loop-j.invariant.few,
      c.loop-j-test.true,
    ) in
    added c.args.rows c.args.width (length s) (slice_index s) c.loop-j.live c.loop-j.found c.loop-j.j c.requires.stands c.loop-j-test.true
    c.loop-j.invariant c.if-stands-j.false room

pub loop-j-init : goal.loop-j-init
loop-j-init c = grind (arith, common_steps)

pub bounds-live-found : goal.bounds-live-found
bounds-live-found c = grind (arith, common_steps)
