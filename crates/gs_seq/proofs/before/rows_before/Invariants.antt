use Rattle.std.proofs.Common.{◌≡◌, ◌+◌, ◌<◌, ℕ, get_or, length, Vec}
use Rattle.std.specs.declared.alloc.Global.{Global}
use Rattle.gs_seq.specs.{Games.{frame_in}, Rows.{AreRowsIn}, declared.pair.Pair.{Pair}}
use Rattle.gs_seq.proofs.before.rows_before.Given as goal

abbrev pub invariant-loop-before : goal.invariant-loop-before
invariant-loop-before l = record {
  long : length l.rows.items ≡ l.before;
  rows : (k : ℕ) (d : Vec (Vec Pair Global) Global) → k < l.before → AreRowsIn (frame_in l.lossless.signals.now.game.now) l.lossless.classes.now.lists (k + 1)
      (get_or l.rows.items k d).items;
}
