-- Which refusal a fault of the program is.
use Rattle.std.specs.Prelude.{◌≡◌, Option, Some}
use Rattle.gs_game.specs.{declared.faults.GameError.{GameError}, declared.faults.GameFault.{GameFault}, Refusals.{too_many_signals, too_many_deals}}
use Rattle.gs_game.specs.Refusals.{Refusal, rounds, no_private, ranking_cards, not_enough_cards, no_even, uneven, put_too_large, too_many_lines, too_heavy}
use Rattle.gs_game.specs.declared.faults.GameFault.TheVariants as faults
use Rattle.gs_game.specs.declared.faults.GameError.TheVariants as errors

-- the refusal that a fault is, with its numbers
abbrev pub refusal_of : GameFault → Refusal
refusal_of (faults.Rounds count) = rounds count
refusal_of faults.NoPrivate = no_private
refusal_of (faults.RankingCards own all) = ranking_cards own all
refusal_of (faults.NotEnoughCards need have) = not_enough_cards need have
refusal_of (faults.NoEven round) = no_even round
refusal_of (faults.Uneven round path) = uneven round path.items
refusal_of (faults.PutTooLarge chips) = put_too_large chips
refusal_of (faults.TooManyLines count) = too_many_lines count
refusal_of (faults.TooHeavy weight) = too_heavy weight
refusal_of (faults.TooManySignals round) = too_many_signals round
refusal_of faults.TooManyDeals = too_many_deals

-- the fault is this refusal
abbrev pub IsFaultOf : Option Refusal → GameFault → Type 0
IsFaultOf r why = r ≡ Some (refusal_of why)

-- the error is a fault that is this refusal; memory may run out at any point
abbrev pub IsErrorOf : Option Refusal → GameError → Type 0
IsErrorOf r errors.Memory = Unit {0}
IsErrorOf r (errors.Fault why) = IsFaultOf r why
