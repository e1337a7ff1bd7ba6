use Rattle.std.proofs.Common.{◌≡◌, ◌*◌, ◌<◌, ◌≤◌, ◌^◌, ℕ, get_or, pos, take}
use Rattle.std.specs.Prelude.{unsigned_abs}
use Rattle.gs_boards.specs.{Runs.{number_at, paid_by}, declared.place.Place.{Place}}
use Rattle.gs_boards.proofs.Steps.{HasClimbed}
use Rattle.gs_boards.proofs.walks.climb.Given as goal

abbrev pub invariant-loop-at : goal.invariant-loop-at
invariant-loop-at l = record {
  walked : HasClimbed (number_at l.numbers) l.places l.at l.before;
  few : l.before.on_board ≤ l.at * 2 ^ 64;
  paid : (k : ℕ) (d : Place) → k < l.at → get_or l.sums (get_or l.places k d).signal (pos 0)
      ≡ paid_by l.pays l.numbers (get_or l.places k d) (take k l.places);
  small : (k : ℕ) (d : Place) → k < l.at → unsigned_abs (get_or l.sums (get_or l.places k d).signal (pos 0)) < 2 ^ 120;
}
