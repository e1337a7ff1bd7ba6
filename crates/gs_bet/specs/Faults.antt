-- Which fault a text has.
use Rattle.std.specs.{Prelude.{ℕ, ◌≡◌, List, take, slice_get, Option, Some, Result, Ok, Err, ◌&&◌, ◌||◌, ◌==◌, if◌then◌else◌, length, ◌++◌, codes}, Fmt.{decimal}}
use Rattle.gs_bet.specs.{declared.fault.Mistake.{Mistake}, declared.fault.Mistake.TheVariants.{RepeatedLetter, TooDeep, Syntax}}
use Rattle.gs_bet.specs.{declared.fault.TreeError.{TreeError}, declared.fault.TreeFault.{TreeFault}, declared.shape.BetTree.{BetTree}, TreeView.{plain}, MoveLists.{has_letter}}
use Rattle.gs_bet.specs.{Grammar.{IsLongest, is_letter}, Cuts.{Cut, at_tree, at_letter, cut_text, IsCut}}
use Rattle.gs_bet.specs.declared.fault.TreeFault.TheVariants as faults
use Rattle.gs_bet.specs.declared.fault.TreeError.TheVariants as errors
use Rattle.gs_model.specs.Betting.{Bet}

-- what is wrong at a cut with a byte that cannot come next, or with the end of the text
abbrev pub mistake_at : Cut → Option ℕ → Mistake
mistake_at (at_letter player moves outer) (Some b) = if is_letter b && has_letter moves b then RepeatedLetter else Syntax
mistake_at (at_tree outer) (Some b) = if (b == 49 || b == 50) && length outer == 16 then TooDeep else Syntax
mistake_at _ _ = Syntax

-- `at` is the length of the longest prefix that begins a tree's text, and m is what is wrong there
pub record IsMistake (text : List ℕ) (at : ℕ) (m : Mistake) : Type 0 where
  pub longest : IsLongest text at
  pub place : Cut
  pub is : IsCut place
  pub reached : cut_text place ≡ take at text
  pub mistake : m ≡ mistake_at place (slice_get text at)

-- a fault names what is wrong behind the longest prefix that begins a tree's text, and its place
abbrev pub IsFaultOf : List ℕ → TreeFault → Type 0
IsFaultOf text (faults.RepeatedLetter at) = IsMistake text at RepeatedLetter
IsFaultOf text (faults.TooDeep at) = IsMistake text at TooDeep
IsFaultOf text (faults.Syntax at) = IsMistake text at Syntax

-- an error is the fault of the text; memory may run out for any text
abbrev pub IsErrorOf : List ℕ → TreeError → Type 0
IsErrorOf text errors.Memory = Unit {0}
IsErrorOf text (errors.Fault why) = IsFaultOf text why

-- the fault of a mistake and its place
abbrev pub mistake_fault : Mistake → ℕ → TreeFault
mistake_fault RepeatedLetter at = faults.RepeatedLetter at
mistake_fault TooDeep at = faults.TooDeep at
mistake_fault Syntax at = faults.Syntax at

-- what was read is the tree t, unless memory ran out
abbrev pub ReadsAs : Result BetTree TreeError → Bet → Type 0
ReadsAs (Ok tree) t = plain tree.tree ≡ t
ReadsAs (Err errors.Memory) t = Unit {0}
ReadsAs (Err (errors.Fault why)) t = ⊥

-- the text of a fault: what is wrong, and at which byte
abbrev pub fault_text : TreeFault → List ℕ
fault_text (faults.RepeatedLetter at) = codes "repeated letter at " ++ decimal at
fault_text (faults.TooDeep at) = codes "too deep at " ++ decimal at
fault_text (faults.Syntax at) = codes "syntax at " ++ decimal at
