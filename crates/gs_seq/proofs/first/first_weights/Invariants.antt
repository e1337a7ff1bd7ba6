use Rattle.std.proofs.Common.{◌≡◌, vec_len}
use Rattle.gs_seq.specs.{Firsts.{AreFirstBefore, IsClear}, Games.{frame_in}, Slots.{slots_before}}
use Rattle.gs_seq.proofs.first.first_weights.Given as goal

abbrev pub invariant-loop-point : goal.invariant-loop-point
invariant-loop-point l =
    let f = frame_in l.game in
    record {
      long : vec_len l.weights ≡ l.count;
      firsts : AreFirstBefore f l.classes.lists l.player l.weights.items l.point;
      clear : IsClear (slots_before f l.classes.lists l.player l.point) l.weights.items;
    }
