use Rattle.std.proofs.Common.{◌≡◌, ℕ, ◌+◌, ◌-◌, ◌<◌, length, get_or}
use Rattle.gs_model.specs.{Classes.{IsClass}, Frame.{player_at, round_of}, Positions.{at_point}}
use Rattle.gs_seq.specs.Abstracts.{abstract_frame, lists_of}
use Rattle.gs_best.specs.{Tables.{moves_of}, Answers.{choices_before}}
use Rattle.gs_best.proofs.listing.own_moves.Given as goal

abbrev pub invariant-loop-point : goal.invariant-loop-point
invariant-loop-point l =
    let f = abstract_frame l.side.form.now in let lists = lists_of l.side.form.now in
    record {
      long : length l.moves.items ≡ choices_before f lists l.side.player l.point;
      listed : (q c : ℕ) → q < l.point → player_at f q ≡ l.side.player → IsClass lists (round_of f (at_point q)) c
          → get_or l.moves.items (choices_before f lists l.side.player q + (c - 1)) 0 ≡ moves_of f lists l.table.picks.items q c;
    }
