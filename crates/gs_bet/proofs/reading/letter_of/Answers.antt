use Rattle.std.proofs.{Common.{rules, arith}, lemmas.Grind.{common_steps}}
use Rattle.gs_bet.specs.Reading.{letter_at}
use Rattle.gs_bet.proofs.reading.letter_of.Goals as goal

pub returns-then-has : goal.returns-then-has
unfolding letter_at
returns-then-has c = search rules

pub returns-else-has : goal.returns-else-has
unfolding letter_at
returns-else-has c = grind (arith, common_steps)

pub slice_bounds-rest-start : goal.slice_bounds-rest-start
slice_bounds-rest-start c = omega arith

pub bounds-bytes-0-then-bytes-lt123 : goal.bounds-bytes-0-then-bytes-lt123
bounds-bytes-0-then-bytes-lt123 c = omega arith

pub bounds-bytes-0-2 : goal.bounds-bytes-0-2
bounds-bytes-0-2 c = grind arith

pub bounds-bytes-0 : goal.bounds-bytes-0
bounds-bytes-0 c = grind arith

pub slice_bounds-rest-count : goal.slice_bounds-rest-count
slice_bounds-rest-count c = omega arith
