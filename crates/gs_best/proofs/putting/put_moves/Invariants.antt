use Rattle.std.proofs.Common.{◌≡◌, length}
use Rattle.gs_seq.specs.{Abstracts.{abstract_frame, lists_of}, Firsts.{IsClear}, Slots.{slot_count, slots_before}}
use Rattle.gs_best.specs.{Tables.{moves_of}, Puts.{ArePutBefore}}
use Rattle.gs_best.proofs.putting.put_moves.Given as goal

abbrev pub invariant-loop-point : goal.invariant-loop-point
invariant-loop-point l =
    let f = abstract_frame l.form in let lists = lists_of l.form in
    record {
      long : length l.weights ≡ slot_count f lists l.player;
      puts : ArePutBefore f lists l.player (moves_of f lists l.picks) l.weights l.point;
      clear : IsClear (slots_before f lists l.player l.point) l.weights;
    }
