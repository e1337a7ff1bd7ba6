-- A valid game is told by each version that can tell its bonuses.
use Rattle.std.proofs.{Common.{◌≡◌, ◌≤◌, List, [], ◌∷◌, map, All, Ok}, lemmas.List.Elements.{All-cons, All-head, All-nil, All-tail}}
use Rattle.gs_card.specs.Decks.{IsDeck}
use Rattle.gs_game.specs.{Games.{round_rules}, declared.game.Round.{Round}, declared.valid.ValidGame.{ValidGame}}
use Rattle.gs_model.specs.Game.{Round as Rules}
use Rattle.gs_file.specs.{JsonForm.{game_data}, JsonLaws.{IsRoundTold, IsTold, TellsBonus}, JsonReading.{json_game_at}, Views.{valid_view}}
use Rattle.gs_file.specs.declared.version.Version.{Version}
use Rattle.gs_file.proofs.ReadsBack.{reads_back}
use Rattle.gs_game.proofs.Rules.{kept}

abbrev IsSmall : Rules → Type 0
IsSmall r = (r.private ≤ 2) × (r.public ≤ 3)

rounds_told : (rs : List Round) → All IsSmall (map round_rules rs) → All IsRoundTold (map round_rules rs)
rounds_told [] h = All-nil IsRoundTold
rounds_told (r ∷ rs) h =
    let here = All-head IsSmall (round_rules r) (map round_rules rs) h in
    All-cons IsRoundTold (round_rules r) (map round_rules rs) (record {
      private =
          here.0;
      public = here.1;
      tree = r.tree.sound;
    }) (rounds_told rs (All-tail IsSmall (round_rules r) (map round_rules rs) h))

pub valid_told : (version : Version) (v : ValidGame) → IsDeck v.game.deck → TellsBonus version v.game.bonus.items → IsTold version (valid_view v)
valid_told version v deck tells = record {
  deck = deck;
  bonus = v.dealable.bonuses;
  tells = tells;
  some_ante = v.ante.0;
  ante = v.ante.1;
  rounds = rounds_told v.game.rounds.items v.dealable.small;
  lawful = kept _ v.accepted;
}

-- and so it is read back
pub valid_read : (version : Version) (v : ValidGame) → IsDeck v.game.deck → TellsBonus version v.game.bonus.items
    → json_game_at version (game_data version (valid_view v)) ≡ Ok (valid_view v)
valid_read version v deck tells = reads_back version (valid_view v) (valid_told version v deck tells)
