-- Laws of class lists.
use Rattle.std.specs.Prelude.{ℕ, List}
use Rattle.gs_model.specs.Classes.{ClassLists, IsClasses}
use Rattle.gs_filter.specs.{Faults.{IsFaultOf}, declared.fault.ClassFault.{ClassFault}}

-- lists that are classes have no fault
abbrev pub ClassesHaveNoFault : Type 0
ClassesHaveNoFault = (parents : List (List ℕ)) (lists : ClassLists) (why : ClassFault) → IsClasses parents lists → ¬ IsFaultOf parents lists why
