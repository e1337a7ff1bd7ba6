use Rattle.std.proofs.Common.{◌≡◌, ◌*◌, ◌<◌, ◌≤◌, ◌^◌, ℕ, get_or, pos, take}
use Rattle.std.specs.Prelude.{All}
use Rattle.gs_boards.specs.{Boards.{remainder}, Runs.{number_at, paid_by}, declared.pays.Pays.TheVariants.{Showdown}, declared.place.Place.{Place}}
use Rattle.gs_boards.proofs.Steps.{HasClimbed}
use Rattle.gs_boards.proofs.remainders.climb.Given as goal

abbrev pub invariant-loop-at : goal.invariant-loop-at
invariant-loop-at l = record {
  walked : HasClimbed (number_at l.numbers) l.board l.at l.before;
  few : l.before.on_board ≤ l.at * 2 ^ 32;
  paid : (k : ℕ) (d : Place) → k < l.at → pos (get_or l.sums (get_or l.board k d).signal 0)
      ≡ remainder (paid_by (Showdown 1) l.numbers (get_or l.board k d) (take k l.board));
  others : (s : ℕ) → All (λ p. p.signal ≡ s → ⊥) l.board → get_or l.sums s 0 ≡ get_or l.fn.sums s 0;
}
