-- Numbers that move on straight lines from turn to turn.
use Rattle.std.specs.{Prelude.{ℕ, ◌<◌, ◌≤◌, Bool, List, get_or, length, ℤ, pos}, Int.{int_wrap}}
use mir.Syntax.{w64}
use Rattle.gs_best.specs.Rows.{IsFirstGreatest}
use Rattle.gs_play.specs.{Jumps.{line}, Lasting.{IsNotAhead}, declared.line.Line.{Line}}

-- a number as it is kept in 64 bits: it wraps around
abbrev pub wrapped : ℤ → ℤ
wrapped z = int_wrap w64 z

-- what a line is in a turn
abbrev pub value_in : Line → ℕ → ℤ
value_in l t = line l.at l.slope t

-- the line that is always 0
abbrev pub flat : Line
flat = record { at = pos 0; slope = pos 0 }

-- the line at a place of a list
abbrev pub line_at : List Line → ℕ → Line
line_at lines k = get_or lines k flat

-- in the turns from `now` up to but not including `until`, a line does not overtake one that is ahead
abbrev pub StaysBehind : Bool → Line → Line → ℕ → ℕ → Type 0
StaysBehind before ahead behind now until = (t : ℕ) → now ≤ t → t < until → IsNotAhead before (value_in ahead t) (value_in behind t)

-- a place of a list has the first greatest line of a turn
abbrev pub IsFirstIn : List Line → ℕ → ℕ → Type 0
IsFirstIn lines place t = IsFirstGreatest (λ m. value_in (line_at lines m) t) (length lines) (value_in (line_at lines place) t) place

-- it has the first greatest line of each turn from `now` up to but not including `until`
abbrev pub StaysFirst : List Line → ℕ → ℕ → ℕ → Type 0
StaysFirst lines place now until = (t : ℕ) → now ≤ t → t < until → IsFirstIn lines place t
