use Rattle.std.proofs.Common.{◌≡◌, ◌+◌, ◌<◌, ◌≤◌, ℕ, get_or, length, Vec}
use Rattle.std.specs.declared.alloc.Global.{Global}
use Rattle.gs_model.specs.Frame.{last_round}
use Rattle.gs_seq.specs.{Games.{frame_in}, Rows.{AreRowsIn}, declared.pair.Pair.{Pair}}
use Rattle.gs_seq.proofs.rows.rows_listed.Given as goal

abbrev pub invariant-loop-round : goal.invariant-loop-round
invariant-loop-round l = record {
  some : 0 < l.round;
  within : l.round ≤ last_round (frame_in l.lossless.signals.now.game.now);
  long : length l.rows.items + l.round ≡ last_round (frame_in l.lossless.signals.now.game.now) + 1;
  each : (k : ℕ) (d : Vec (Vec Pair Global) Global) → k < length l.rows.items
      → AreRowsIn (frame_in l.lossless.signals.now.game.now) l.lossless.classes.now.lists (l.round + k) (get_or l.rows.items k d).items;
}
