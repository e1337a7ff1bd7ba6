use Rattle.std.proofs.Common.{◌≡◌, ◌+◌, ◌<◌, ℕ, get_or, Vec, vec_len}
use Rattle.std.specs.declared.alloc.Global.{Global}
use Rattle.gs_seq.specs.{Games.{frame_in}, Rows.{IsRow}, declared.pair.Pair.{Pair}}
use Rattle.gs_seq.proofs.before.rows_by.Given as goal

abbrev pub invariant-loop-before : goal.invariant-loop-before
invariant-loop-before l = record {
  long : vec_len l.rows ≡ l.before;
  row : (k : ℕ) (d : Vec Pair Global) → k < l.before → IsRow (frame_in l.at.lossless.now.signals.now.game.now) l.at.lossless.now.classes.now.lists l.at.round (k + 1)
      (get_or l.rows.items k d).items;
}
