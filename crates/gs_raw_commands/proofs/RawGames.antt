-- Games that can be told: each raw signal of round 1 is dealt, and a player has few sequences over single signals.
use Rattle.std.proofs.{Common.{◌≡◌, ℕ, ◌+◌, ◌*◌, ◌<◌, ◌≤◌, true, List, [], ◌∷◌, map, All}, lemmas.List.Elements.{All-head, All-tail}}
use Rattle.std.specs.List.{AllByRecursion}
use Rattle.gs_bet.specs.Grammar.{is_sound}
use Rattle.gs_file.proofs.Dealt.{told_playable}
use Rattle.gs_file.specs.{JsonLaws.{IsRoundTold, IsTold}, Reading.{FileGame, file_rules}, declared.version.Version.{Version}}
use Rattle.gs_filter.specs.Filter.{single_classes}
use Rattle.gs_game.proofs.MoneyLaws.{tree_sound}
use Rattle.gs_model.specs.{Frame.{signal_count}, Game.{Round}, Payoff.{hand_weight}}
use Rattle.gs_raw.proofs.{Dealing.{hand_some}, RawSequences.{sequences_few, sequences_within}}
use Rattle.gs_raw.specs.Cells.{raw_cell_count}
use Rattle.gs_seq.specs.Slots.{sequence_count}
use Rattle.gs_strategy.specs.Values.{file_frame}

sound_trees : (rs : List Round) → All IsRoundTold rs → AllByRecursion (λ t. is_sound 16 t ≡ true) (map (λ (r : Round). r.tree) rs)
sound_trees [] h = tt
sound_trees (r ∷ rs) h = (tree_sound r.tree (All-head IsRoundTold r rs h).tree, sound_trees rs (All-tail IsRoundTold r rs h))

pub hands_weigh : (version : Version) (g : FileGame) (s : ℕ) → IsTold version g → s < signal_count (file_frame g) 1 → 0 < hand_weight (file_frame g) s
hands_weigh version g s h l = hand_some (file_rules g) (told_playable version g h) h.lawful s l

pub raw_sequences_few : (version : Version) (g : FileGame) (player : ℕ) → IsTold version g
    → sequence_count (file_frame g) (single_classes (file_frame g).parents) player ≤ 1 + 64 * raw_cell_count (file_frame g)
raw_sequences_few version g player h = sequences_few (file_rules g) player (told_playable version g h) h.lawful (sound_trees g.rounds h.rounds)

pub raw_games_within : (version : Version) (g : FileGame) (player : ℕ) → IsTold version g → raw_cell_count (file_frame g) ≤ 16777216
    → sequence_count (file_frame g) (single_classes (file_frame g).parents) player ≤ 1073741824
raw_games_within version g player h few =
    sequences_within (file_rules g) player (told_playable version g h) h.lawful (sound_trees g.rounds h.rounds) few
