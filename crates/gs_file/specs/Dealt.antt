-- What is known of accepted games: the game can be written in version 2, is playable and has deals.
use Rattle.std.specs.Prelude.{◌≡◌, ◌<◌, ℕ, List, Ok}
use Rattle.gs_model.specs.{Frame.{frame_of, total_weight}, Game.{IsPlayable}}
use Rattle.gs_file.specs.{JsonLaws.{IsTold}, Reading.{FileGame, read_at, file_rules}, declared.version.Version.{Version}}
use Rattle.gs_file.specs.declared.version.Version.TheVariants.{Two}

-- the game is playable, as the laws of games ask, and the total weight of its deals is above 0
pub record IsDealt (g : FileGame) : Type 0 where
  pub playable : IsPlayable (file_rules g)
  pub deals : 0 < total_weight (frame_of (file_rules g))

-- a game that a file states can be written in version 2
abbrev pub AcceptedAreTold : Type 0
AcceptedAreTold = (bytes : List ℕ) (g : FileGame) → read_at bytes ≡ Ok g → IsTold Two g

-- a game that can be written is playable and has deals
abbrev pub ToldAreDealt : Type 0
ToldAreDealt = (version : Version) (g : FileGame) → IsTold version g → IsDealt g

-- a game that a file states is playable and has deals
abbrev pub AcceptedAreDealt : Type 0
AcceptedAreDealt = (bytes : List ℕ) (g : FileGame) → read_at bytes ≡ Ok g → IsDealt g
