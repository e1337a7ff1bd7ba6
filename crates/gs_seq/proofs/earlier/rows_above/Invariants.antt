use Rattle.std.proofs.Common.{◌≡◌, ◌+◌, ◌<◌, ℕ, get_or, Vec, vec_len}
use Rattle.std.specs.declared.alloc.Global.{Global}
use Rattle.gs_seq.specs.{Games.{frame_in}, Rows.{IsRow}, declared.pair.Pair.{Pair}}
use Rattle.gs_seq.proofs.earlier.rows_above.Given as goal

abbrev pub invariant-loop-before : goal.invariant-loop-before
invariant-loop-before l = record {
  long : vec_len l.above ≡ l.before;
  row : (k : ℕ) (d : Vec Pair Global) → k < l.before → IsRow (frame_in l.lossless.signals.now.game.now) l.lossless.classes.now.lists l.round (k + 1)
      (get_or l.above.items k d).items;
}
