-- The texts of faults.
use Rattle.std.specs.{Prelude.{ℕ, List, ◌++◌, codes}, Fmt.{decimal}}
use Rattle.gs_filter.specs.{declared.fault.ClassFault.{ClassFault}, declared.fault.ClassFault.TheVariants.{Length, NotFirstSeen, ParentsApart}}

-- the text of a fault
abbrev pub fault_text : ClassFault → List ℕ
fault_text (Length round) = codes "length in round " ++ decimal round
fault_text (NotFirstSeen round at) = codes "number in round " ++ decimal round ++ codes " at " ++ decimal at
fault_text (ParentsApart round a b) = codes "parents apart in round " ++ decimal round ++ codes " at " ++ decimal a ++ codes " and " ++ decimal b
