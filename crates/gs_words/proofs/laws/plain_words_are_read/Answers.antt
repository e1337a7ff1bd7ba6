use Rattle.std.proofs.Common.{[], ◌∷◌, codes, refl, true, false}
use Rattle.gs_words.specs.{Plain.{flagged, joined, valued}, Tasks.{of_game}, declared.names.CommandName.TheVariants.{Check as command}}
use Rattle.gs_words.specs.{declared.request.Grouping.TheVariants.{Single}, declared.request.OfGame.TheVariants.{Check}}
use Rattle.gs_words.proofs.{Asked.{read_is_asked}, Plain.{asked_is_read, plain_meant}}
use Rattle.gs_words.proofs.laws.plain_words_are_read.Goals as goal

pub returns-clause-read : goal.returns-clause-read
returns-clause-read c words task asked = asked_is_read words task asked

pub returns-clause-every : goal.returns-clause-every
returns-clause-every c words task texts is = read_is_asked words task texts is

pub returns-clause-example : goal.returns-clause-example
returns-clause-example c =
    plain_meant command (flagged (codes "summary") ∷ valued (codes "classes") (codes "raw") ∷ []) false (of_game (Check Single true)) refl refl

pub returns-clause-joined_example : goal.returns-clause-joined_example
returns-clause-joined_example c = plain_meant command (joined (codes "classes") (codes "raw") ∷ []) true (of_game (Check Single false)) refl refl
