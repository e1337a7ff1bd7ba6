use Rattle.gs_seq.proofs.{Points.{length-points, point_reads, walked}, SlotLaws.{class_few, classes_in, moves_few}}
use Rattle.std.proofs.{Common.{◌≡◌, ◌*◌, ◌<◌, ◌≤◌, ◌^◌, true, false, refl, ap, sym, ◌∙◌, arith}, Math.Nat.{mul-le-mul_right}, lemmas.Bool.Decides.{Decides-eqb}}
use Rattle.std.specs.Prelude.{◌==◌}
use Rattle.gs_model.specs.{Classes.{class_count}, Frame.{move_count, player_at, round_of}, Positions.{at_point}}
use Rattle.gs_model.proofs.Basics.{not_eq}
use Rattle.gs_seq.specs.Games.{frame_in}
use Rattle.gs_seq.proofs.slots.slots_at.Goals as goal

pub classes-requires : goal.classes-requires
classes-requires c =
    let r = point_reads c.args.game.now c.points.result.now c.args.point c.index-points-point.result c.points.ensures c.requires.in_range
    c.index-points-point.is in
    let h = classes_in c.args.game.now c.args.classes.now c.requires.parents c.args.point c.index-points-point.result r c.requires.in_range in
    record { some = h.0; top = h.1 }

pub overflow_mul-result : goal.overflow_mul-result
overflow_mul-result c =
    let f = frame_in c.args.game.now in
    let r = point_reads c.args.game.now c.points.result.now c.args.point c.index-points-point.result c.points.ensures c.requires.in_range
    c.index-points-point.is in
    let w = walked c.args.game.now 1 (omega arith) (omega arith) in
    let round = round_of f (at_point c.args.point) in
    let few = class_few c.args.game.now c.args.classes.now c.requires.parents round (w.some_round c.args.point c.requires.in_range)
    (w.point_in c.args.point c.requires.in_range) in
    let least : c.from.result ≤ 200000 = omega (arith, c.from.ensures, c.classes.ensures, ap (class_count c.args.classes.now.lists) r.round, few) in
    let short : c.len.result < 2 ^ 33 = omega (arith, c.len.ensures, r.moves, moves_few c.args.game.now c.args.point c.requires.in_range) in
    omega (arith, mul-le-mul_right c.len.result least, short)

pub returns-then-point-player : goal.returns-then-point-player
returns-then-point-player c =
    let f = frame_in c.args.game.now in
    let r = point_reads c.args.game.now c.points.result.now c.args.point c.index-points-point.result c.points.ensures c.requires.in_range
    c.index-points-point.is in
    let test : (player_at f c.args.point == c.args.player) ≡ true = (Decides-eqb (player_at f c.args.point) c.args.player).1
    (sym r.player ∙ c.if-point-player.true) in
    let many : c.from.result ≡ class_count c.args.classes.now.lists (round_of f (at_point c.args.point)) = c.from.ensures ∙ c.classes.ensures
    ∙ ap (class_count c.args.classes.now.lists) r.round in
    let moves : c.len.result ≡ move_count f c.args.point = omega (arith, c.len.ensures, r.moves) in
    rw test (ap (λ n. n * c.len.result) many ∙ ap (λ n. class_count c.args.classes.now.lists (round_of f (at_point c.args.point)) * n) moves)

pub returns-else-point-player : goal.returns-else-point-player
returns-else-point-player c =
    let f = frame_in c.args.game.now in
    let r = point_reads c.args.game.now c.points.result.now c.args.point c.index-points-point.result c.points.ensures c.requires.in_range
    c.index-points-point.is in
    let test : (player_at f c.args.point == c.args.player) ≡ false = not_eq (player_at f c.args.point) c.args.player
    (λ e. c.if-point-player.false (r.player ∙ e)) in
    rw test refl

pub bounds-points-point : goal.bounds-points-point
bounds-points-point c = omega (arith, c.requires.in_range, length-points c.args.game.now c.points.result.now c.points.ensures)
