use Rattle.std.proofs.Common.{◌≡◌, ℕ, ◌<◌, get_or, vec_len}
use Rattle.gs_model.specs.Frame.{player_at}
use Rattle.gs_seq.specs.{Games.{frame_in}, Slots.{slots_before}}
use Rattle.gs_seq.proofs.slots.offsets_of.Given as goal

abbrev pub invariant-loop-point : goal.invariant-loop-point
invariant-loop-point l = record {
  long : vec_len l.offsets ≡ l.point;
  one_is : l.one ≡ slots_before (frame_in l.game) l.classes.lists 1 l.point;
  two_is : l.two ≡ slots_before (frame_in l.game) l.classes.lists 2 l.point;
  first : (q : ℕ) → q < l.point → get_or l.offsets.items q 0 ≡ slots_before (frame_in l.game) l.classes.lists (player_at (frame_in l.game) q) q;
}
