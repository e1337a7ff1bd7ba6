-- Faults of a game file.
use Rattle.std.specs.Prelude.{ℕ, ℤ}
use Rattle.gs_bet.specs.declared.fault.TreeFault.{TreeFault}
use Rattle.gs_card.specs.declared.faults.DeckFault.{DeckFault}
use Rattle.gs_game.specs.Refusals.{Refusal}
use Rattle.gs_file.specs.declared.fault.Place.{Place}

-- The first fault of a game file. It is not UTF-8 or not TOML. A key is missing or unknown. A value has a wrong type or is out of its range. The version is
-- wrong. There is no deck or no betting tree. Or a rule of games is broken.
pub data Fault : Type 0 where
  not_text : Fault
  not_toml : Fault
  missing_key : Place → Fault
  unknown_key : ℕ → Fault
  wrong_type : Place → Fault
  bad_version : ℤ → Fault
  range : Place → Fault
  deck : DeckFault → Fault
  tree_text : ℕ → TreeFault → Fault
  game : Refusal → Fault
