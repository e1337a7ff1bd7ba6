use Rattle.std.proofs.Common.{ℕ, ◌+◌, ◌*◌, ◌<◌, ◌≤◌}
use Rattle.gs_model.specs.Frame.{move_count}
use Rattle.gs_seq.specs.{Firsts.{AgreeBefore, IsClear, IsFirstAt}, Games.{frame_in}, Slots.{slots_before}}
use Rattle.gs_seq.proofs.first.put_first.Given as goal

abbrev pub invariant-loop-before : goal.invariant-loop-before
invariant-loop-before l =
    let f = frame_in l.game in
    let first = slots_before f l.classes.lists l.player l.point in
    record {
      kept : AgreeBefore first l.fn.weights l.weights;
      here : (c : ℕ) → 0 < c → c ≤ l.before → IsFirstAt f l.classes.lists l.player l.weights l.point c;
      clear : IsClear (first + l.before * move_count f l.point) l.weights;
    }
