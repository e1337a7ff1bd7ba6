use Rattle.std.proofs.Common.{ℕ, ◌+◌, ◌*◌, ◌<◌, ◌≤◌}
use Rattle.gs_model.specs.Frame.{move_count}
use Rattle.gs_seq.specs.{Abstracts.{abstract_frame, lists_of}, Firsts.{AgreeBefore, IsClear}, Slots.{slots_before}}
use Rattle.gs_best.specs.{Tables.{moves_of}, Puts.{IsPutAt}}
use Rattle.gs_best.proofs.putting.put_point.Given as goal

abbrev pub invariant-loop-before : goal.invariant-loop-before
invariant-loop-before l =
    let f = abstract_frame l.form in let lists = lists_of l.form in
    let first = slots_before f lists l.player l.point in
    record {
      kept : AgreeBefore first l.fn.weights l.weights;
      here : (c : ℕ) → 0 < c → c ≤ l.before → IsPutAt f lists l.player (moves_of f lists l.picks) l.weights l.point c;
      clear : IsClear (first + l.before * move_count f l.point) l.weights;
    }
