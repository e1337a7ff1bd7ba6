-- Why an input is refused, and the line of each refusal.
use Rattle.std.specs.{Prelude.{ℕ, ℤ, List, [], ◌++◌, codes}, Fmt.{decimal, signed_decimal}}
use Rattle.gs_file.specs.Faults.{Fault}
use Rattle.gs_frac.specs.Texts.{fraction_text}
use Rattle.gs_lift.specs.declared.fault.QueryFault.{QueryFault}
use Rattle.gs_lift.specs.declared.fault.QueryFault.TheVariants as query
use Rattle.gs_strategy.specs.Faults.{Fault as StrategyFault}
use Rattle.gs_text.specs.FaultText.{fault_text}
use Rattle.gs_reply.specs.{StoreText.{store_text}, declared.refusals.Limit.{Limit}, declared.refusals.Overflow.{Overflow}, declared.refusals.Which.{Which}}
use Rattle.gs_reply.specs.declared.refusals.Limit.TheVariants.{Sequences, Cells, TableNumbers, RawCells}
use Rattle.gs_reply.specs.{declared.refusals.Overflow.TheVariants.{AtStep, AtTotal}, declared.refusals.Which.TheVariants.{Only, First, Second}}

-- Why an input is refused. It is not a valid game file. Its classes have an unlike pair in a round, given by the texts of the two signals. Its solution
-- overflows or takes too many pivots. Its game is too large. It is not a valid strategy file. A stated number, given by its name, differs from the
-- computed one. A query names no information set of the player. Two games differ. A certificate is malformed or invalid, given by the text of its fault.
pub data Refusal : Type 0 where
  Bad_game : Fault → Refusal
  Unlike_pair : ℕ → List ℕ → List ℕ → Refusal
  Overflows : Overflow → Refusal
  Many_pivots : Refusal
  Too_large : Limit → Refusal
  Bad_strategy : Which → StrategyFault → Refusal
  Wrong_number : List ℕ → ℤ × ℤ → ℤ × ℤ → Refusal
  Bad_query : QueryFault → Refusal
  Other_game : Refusal
  Bad_certificate : List ℕ → Refusal

-- the text of what there is too much of, and how much
abbrev pub limit_text : Limit → List ℕ
limit_text (Sequences player count) = codes "sequences of player " ++ decimal player ++ codes ": " ++ decimal count
limit_text (Cells count) = codes "cells: " ++ decimal count
limit_text (TableNumbers count) = codes "table numbers: " ++ decimal count
limit_text (RawCells count) = codes "raw cells: " ++ decimal count

-- the text of what of a solution is too large, and where
abbrev pub overflow_text : Overflow → List ℕ
overflow_text (AtStep step row column number) =
    codes "step " ++ decimal step ++ codes " row " ++ decimal row ++ codes " column " ++ decimal column ++ codes " number " ++ signed_decimal number
overflow_text (AtTotal player multiple) = codes "player " ++ decimal player ++ codes " total " ++ decimal multiple

-- the text of the part of a query that breaks a rule
abbrev pub query_text : QueryFault → List ℕ
query_text query.Line = codes "line"
query_text query.Player = codes "player"
query_text query.Signal = codes "signal"
query_text query.Round = codes "round"

-- which file it is, if a command reads two
abbrev pub which_text : Which → List ℕ
which_text Only = []
which_text First = codes "first: "
which_text Second = codes "second: "

-- the line of a refusal
abbrev pub line_of : Refusal → List ℕ
line_of (Bad_game why) = codes "bad game: " ++ fault_text why ++ codes "\n"
line_of (Unlike_pair round first second) = codes "unlike: round " ++ decimal round ++ codes " " ++ first ++ codes " " ++ second ++ codes "\n"
line_of (Overflows at) = codes "overflow: " ++ overflow_text at ++ codes "\n"
line_of Many_pivots = codes "more than 8192 pivots\n"
line_of (Too_large limit) = codes "too large: " ++ limit_text limit ++ codes "\n"
line_of (Bad_strategy which why) = codes "bad strategy: " ++ which_text which ++ store_text why ++ codes "\n"
line_of (Wrong_number name stated found) =
    codes "wrong numbers: " ++ name ++ codes " " ++ fraction_text stated.0 stated.1 ++ codes " found " ++ fraction_text found.0 found.1 ++ codes "\n"
line_of (Bad_query why) = codes "bad query: " ++ query_text why ++ codes "\n"
line_of Other_game = codes "other game\n"
line_of (Bad_certificate why) = codes "bad certificate: " ++ why ++ codes "\n"
