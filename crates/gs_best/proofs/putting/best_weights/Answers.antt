use Rattle.std.proofs.{Common.{◌≡◌, ℕ, List, length, drop, sym, ap, subst, arith}, lemmas.Grind.{common_steps}}
use Rattle.gs_model.specs.Frame.{point_count}
use Rattle.gs_best.proofs.Written.{written}
use Rattle.gs_best.specs.{Tables.{moves_of}, Sides.{frame_at, lists_at}, Puts.{ArePutBefore}}
use Rattle.gs_best.proofs.putting.best_weights.Goals as goal

pub returns : goal.returns
returns c = record {
  long = grind (arith, common_steps);
  puts = let d = c.args.side.now in
      let old = c.in_ok-weights.weights in
      let new = c.put_moves.new.weights in
      let full : length new ≡ old.len = omega (arith, c.put_moves.auto.weights, ap (λ (l : List ℕ). length l) c.deref_mut.ensures.value, old.ok.0) in
      subst (λ l. ArePutBefore (frame_at d) (lists_at d) d.player (moves_of (frame_at d) (lists_at d) c.args.table.now.picks.items) l (point_count (frame_at d)))
      (sym (written old.len new (drop (length new) old.items) full))
      (subst (λ l. ArePutBefore (frame_at d) (lists_at d) d.player (moves_of (frame_at d) (lists_at d) l) new (point_count (frame_at d))) c.deref-2.ensures.value
      c.put_moves.ensures);
}

pub put_moves-requires : goal.put_moves-requires
put_moves-requires c = record {
  some = grind arith;
  two = grind arith;
  starts = omega arith;
  places = grind arith;
  picks = omega arith;
  moves = grind arith;
  long = omega (arith, c.deref_mut.ensures.len, c.in_ok-weights.ensures.len, c.sequences-count.ensures);
  clear = grind (arith, common_steps);
}
