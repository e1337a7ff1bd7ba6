-- Sums along the places of the boards.
use Rattle.std.specs.Prelude.{ℕ, ◌==◌, ◌+◌, ◌*◌, List, ℤ, pos, neg_ℤ, ◌*ℤ◌, nat_lt, if◌then◌else◌, slice_index}
use Rattle.gs_model.specs.Sums.{sum_z}
use Rattle.gs_boards.specs.{Boards.{paid}, declared.pays.Pays.{Pays}, declared.pays.Pays.TheVariants.{Fixed, Showdown}, declared.place.Place.{Place}}
use Rattle.gs_boards.specs.declared.running.Running.{Running}

-- the outcome of the signal at a place against another on its board
abbrev pub outcome_at : Place → Place → ℤ
outcome_at p q = if nat_lt q.strength p.strength then pos p.win else if nat_lt p.strength q.strength then neg_ℤ (pos q.win) else pos 0

-- what a place is paid by those of some places that are on its board: the sum of their numbers times what it wins against them
abbrev pub paid_by : Pays → List ℕ → Place → List Place → ℤ
paid_by pays numbers p qs = sum_z (λ q. if q.board == p.board then pos (slice_index numbers q.signal) *ℤ paid pays (outcome_at p q) else pos 0) qs

-- the sums when a walk comes to a place: a new board begins with 0, and at a new strength all that was passed on the board has another one
abbrev pub arrived : Running → Place → Running
arrived r p = record {
  board = p.board;
  strength = p.strength;
  on_board = if p.board == r.board then r.on_board else 0;
  off_level = if p.board == r.board then (if p.strength == r.strength then r.off_level else r.on_board) else 0;
}

-- the sums when a walk has passed the place that it is at
abbrev pub passed_by : Running → ℕ → Running
passed_by r worth = record { board = r.board; strength = r.strength; on_board = r.on_board + worth; off_level = r.off_level }

-- what a place counts for the places behind it: its number
abbrev pub number_at : List ℕ → Place → ℕ
number_at numbers q = slice_index numbers q.signal

-- what a place counts for the places before it, from its number: at a showdown the number times what the place wins
abbrev pub worth_of : Pays → Place → ℕ → ℕ
worth_of (Fixed stake) q number = number
worth_of (Showdown chips) q number = number * q.win

-- what a place is paid by what was passed before it: at a showdown by the weaker places of its board, at a fold by all of them
abbrev pub won_by : Pays → Place → Running → ℤ
won_by (Fixed stake) p r = stake *ℤ pos r.on_board
won_by (Showdown chips) p r = pos (chips * p.win * r.off_level)

-- what a place is paid by what was passed behind it: at a showdown by the stronger places of its board, at a fold by all of them
abbrev pub lost_by : Pays → Running → ℤ
lost_by (Fixed stake) r = stake *ℤ pos r.on_board
lost_by (Showdown chips) r = neg_ℤ (pos (chips * r.off_level))
