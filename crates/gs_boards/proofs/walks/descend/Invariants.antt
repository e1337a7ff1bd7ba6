use Rattle.std.proofs.Common.{◌≡◌, ◌+◌, ◌-◌, ◌*◌, ◌<◌, ◌≤◌, ◌^◌, ◌+ℤ◌, ℕ, drop, get_or, length, pos}
use Rattle.gs_boards.specs.{Runs.{paid_by}, declared.place.Place.{Place}}
use Rattle.gs_boards.proofs.{Payments.{place_worth}, Steps.{HasDescended}}
use Rattle.gs_boards.proofs.walks.descend.Given as goal

abbrev pub invariant-loop-at : goal.invariant-loop-at
invariant-loop-at l = record {
  within : l.at ≤ length l.places;
  walked : HasDescended (place_worth l.pays l.numbers) l.places l.at l.behind;
  few : l.behind.on_board ≤ (length l.places - l.at) * 2 ^ 72;
  paid : (k : ℕ) (d : Place) → l.at ≤ k → k < length l.places → get_or l.sums (get_or l.places k d).signal (pos 0)
      ≡ get_or l.fn.sums (get_or l.places k d).signal (pos 0) +ℤ paid_by l.pays l.numbers (get_or l.places k d) (drop (k + 1) l.places);
  same : (k : ℕ) (d : Place) → k < l.at → get_or l.sums (get_or l.places k d).signal (pos 0) ≡ get_or l.fn.sums (get_or l.places k d).signal (pos 0);
}
