use Rattle.std.proofs.Common.{◌≡◌, ◌+◌, ◌-◌, ◌*◌, ◌<◌, ◌≤◌, ◌^◌, ◌+ℤ◌, ℕ, drop, get_or, length, pos}
use Rattle.std.specs.Prelude.{All}
use Rattle.gs_boards.specs.{Boards.{remainder}, Runs.{paid_by}, declared.pays.Pays.TheVariants.{Showdown}, declared.place.Place.{Place}}
use Rattle.gs_boards.proofs.{Payments.{place_worth}, Steps.{HasDescended}}
use Rattle.gs_boards.proofs.remainders.descend.Given as goal

abbrev pub invariant-loop-at : goal.invariant-loop-at
invariant-loop-at l = record {
  within : l.at ≤ length l.board;
  walked : HasDescended (place_worth (Showdown 1) l.numbers) l.board l.at l.behind;
  few : l.behind.on_board ≤ (length l.board - l.at) * 2 ^ 72;
  paid : (k : ℕ) (d : Place) → l.at ≤ k → k < length l.board → pos (get_or l.sums (get_or l.board k d).signal 0)
      ≡ remainder (pos (get_or l.fn.sums (get_or l.board k d).signal 0) +ℤ paid_by (Showdown 1) l.numbers (get_or l.board k d) (drop (k + 1) l.board));
  same : (k : ℕ) (d : Place) → k < l.at → get_or l.sums (get_or l.board k d).signal 0 ≡ get_or l.fn.sums (get_or l.board k d).signal 0;
  others : (s : ℕ) → All (λ p. p.signal ≡ s → ⊥) l.board → get_or l.sums s 0 ≡ get_or l.fn.sums s 0;
}
