-- The reading of the parts of a file, by the first of its steps that fails, and where all pass.
use Rattle.std.proofs.Common.{◌≡◌, Ok, Err, refl}
use Rattle.gs_file.specs.{Reading.{FileGame}, declared.version.Version.{Version}}
use Rattle.gs_model.specs.Classes.{ClassLists}
use Rattle.gs_strategy.specs.{Checks.{ReadsClasses, ReadsParts, ReadsPlan}, Faults.{Fault}, Reading.{Whole, numbers_at, stored_game_at}}
use Rattle.gs_strategy.specs.{Values.{Numbers, Strategy, Weights}, declared.fault.FilePart.TheVariants.{Player1, Player2}}
use Rattle.gs_strategy.proofs.Steps.{then_fails, then_is}

module _ (version : Version) (parts : Whole) {g : FileGame} (game : stored_game_at version parts.game ≡ Ok g) where
  pub no_classes : (why : Fault) → ReadsClasses g parts.classes (Err why) → ReadsParts version parts (Err why)
  no_classes why h = then_is (stored_game_at version parts.game) g _ (Err why) game (Err why, h, refl)

module _ (version : Version) (parts : Whole) {g : FileGame} (lists : ClassLists) (game : stored_game_at version parts.game ≡ Ok g)
    (classes : ReadsClasses g parts.classes (Ok lists)) where
  pub no_first : (why : Fault) → ReadsPlan g lists 1 Player1 parts.player1 (Err why) → ReadsParts version parts (Err why)
  no_first why h = then_is (stored_game_at version parts.game) g _ (Err why) game (Ok lists, classes, (Err why, h, refl))

  pub no_second : (one : Weights) → ReadsPlan g lists 1 Player1 parts.player1 (Ok one) → (why : Fault)
      → ReadsPlan g lists 2 Player2 parts.player2 (Err why) → ReadsParts version parts (Err why)
  no_second one first why h =
      then_is (stored_game_at version parts.game) g _ (Err why) game (Ok lists, classes, (Ok one, first, (Err why, h, refl)))

module _ (version : Version) (parts : Whole) {g : FileGame} (lists : ClassLists) (one two : Weights) (game : stored_game_at version parts.game ≡ Ok g)
    (classes : ReadsClasses g parts.classes (Ok lists)) (first : ReadsPlan g lists 1 Player1 parts.player1 (Ok one))
    (second : ReadsPlan g lists 2 Player2 parts.player2 (Ok two)) where
  pub no_numbers : (why : Fault) → numbers_at parts ≡ Err why → ReadsParts version parts (Err why)
  no_numbers why h =
      then_is (stored_game_at version parts.game) g _ (Err why) game
      (Ok lists, classes, (Ok one, first, (Ok two, second, then_fails (numbers_at parts) _ why h)))

  pub all_parts : (n : Numbers) → numbers_at parts ≡ Ok n
      → ReadsParts version parts (Ok (record { game = g; classes = lists; one = one; two = two; numbers = n }))
  all_parts n h =
      let s : Strategy = record { game = g; classes = lists; one = one; two = two; numbers = n } in
      then_is (stored_game_at version parts.game) g _ (Ok s) game
      (Ok lists, classes, (Ok one, first, (Ok two, second, then_is (numbers_at parts) n _ (Ok s) h refl)))
