-- What reading a tree's text gives, by the grammar of trees.
use Rattle.std.specs.Prelude.{◌≡◌, ℕ, List, IsTrue, Result, Ok, Err}
use Rattle.gs_bet.specs.{declared.fault.Mistake.{Mistake}, Faults.{IsMistake, mistake_fault}, Grammar.{is_tree, tree_text}}
use Rattle.gs_model.specs.Betting.{Bet}
use Rattle.gs_file.specs.Faults.{Fault, tree_text as tree_fault}

-- the tree has a text, and this is its text
pub record IsTreeText (text : List ℕ) (t : Bet) : Type 0 where
  pub sound : IsTrue (is_tree t)
  pub is : text ≡ tree_text t

-- the text of the round's tree is no tree's text, and the fault tells its mistake
pub record IsMistaken (n : ℕ) (text : List ℕ) (f : Fault) : Type 0 where
  pub at : ℕ
  pub mistake : Mistake
  pub is : IsMistake text at mistake
  pub told : f ≡ tree_fault n (mistake_fault mistake at)

-- reading the text gives the tree that has this text, or the mistake after the longest prefix that begins some tree's text
abbrev pub IsTreeRead : ℕ → List ℕ → Result Bet Fault → Type 0
IsTreeRead n text (Ok t) = IsTreeText text t
IsTreeRead n text (Err f) = IsMistaken n text f
