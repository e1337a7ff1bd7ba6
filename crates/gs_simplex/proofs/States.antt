-- The steps of a path from a later one on.
use Rattle.std.proofs.Common.{ℕ, ◌+◌}
use Rattle.gs_simplex.specs.Path.{States}

abbrev pub later : ℕ → States → States
later k s = record {
  lists = λ x. s.lists (x + k);
  rows = λ x. s.rows (x + k);
  aim = λ x. s.aim (x + k);
  entering = λ x. s.entering (x + k);
  leaving = λ x. s.leaving (x + k);
}
