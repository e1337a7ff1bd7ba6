-- The number of each status, and the status of each refusal.
use Rattle.std.specs.Prelude.{ℕ}
use Rattle.gs_reply.specs.Refusals.{Refusal, Bad_game, Unlike_pair, Overflows, Many_pivots, Too_large, Bad_strategy, Wrong_number, Bad_query, Other_game}
use Rattle.gs_reply.specs.Refusals.{Bad_certificate}
use Rattle.gs_run.specs.declared.status.Status.{Status}
use Rattle.gs_run.specs.declared.status.Status.TheVariants as status

-- the number of a status: the exit status of the process
abbrev pub code_of : Status → ℕ
code_of status.Ok = 0
code_of status.Usage = 2
code_of status.ReadFault = 3
code_of status.WriteFault = 4
code_of status.Memory = 5
code_of status.TooLong = 6
code_of status.BadGame = 7
code_of status.Unlike = 8
code_of status.Overflow = 9
code_of status.PivotLimit = 10
code_of status.TooLarge = 11
code_of status.BadStrategy = 12
code_of status.WrongNumbers = 13
code_of status.BadQuery = 14
code_of status.OtherGame = 16
code_of status.BadCertificate = 17

-- the status of a run that refuses its input
abbrev pub status_of : Refusal → Status
status_of (Bad_game why) = status.BadGame
status_of (Unlike_pair round first second) = status.Unlike
status_of (Overflows at) = status.Overflow
status_of Many_pivots = status.PivotLimit
status_of (Too_large limit) = status.TooLarge
status_of (Bad_strategy which why) = status.BadStrategy
status_of (Wrong_number name stated found) = status.WrongNumbers
status_of (Bad_query why) = status.BadQuery
status_of Other_game = status.OtherGame
status_of (Bad_certificate why) = status.BadCertificate
