-- The text of each fault of a game file. Source: this project's printed texts.
use Rattle.std.specs.{Prelude.{ℕ, ◌==◌, List, [], ◌++◌, codes, if◌then◌else◌}, Fmt.{decimal, signed_decimal}}
use Rattle.gs_bet.specs.{Faults.{fault_text as tree_text}, declared.fault.TreeFault.{TreeFault}}
use Rattle.gs_card.specs.DeckFaults.{fault_text as deck_text}
use Rattle.gs_game.specs.Refusals.{Refusal, rounds, no_private, ranking_cards, not_enough_cards, no_even, uneven, put_too_large, too_many_lines, too_heavy}
use Rattle.gs_game.specs.Refusals.{too_many_signals, too_many_deals}
use Rattle.gs_file.specs.{Keys.{key_text}, declared.fault.Place.{Place}}
use Rattle.gs_file.specs.Faults.{Fault, not_text, not_toml, missing_key, unknown_key, wrong_type, bad_version, range, deck, tree_text as tree_in, game}

-- the round of a key, unless the key stands outside the rounds
abbrev pub in_round : ℕ → List ℕ
in_round n = if n == 0 then [] else codes " in round " ++ decimal n

-- what is wrong with a key, the key, and its round
abbrev pub place_text : List ℕ → Place → List ℕ
place_text wrong place = wrong ++ codes " " ++ key_text place.key ++ in_round place.round

-- what is wrong with the text of a round's tree
abbrev pub round_tree_text : ℕ → TreeFault → List ℕ
round_tree_text round why = codes "tree of round " ++ decimal round ++ codes ": " ++ tree_text why

-- the text of the rule that a game breaks
abbrev pub rule_text : Refusal → List ℕ
rule_text (rounds count) = codes "rounds: " ++ decimal count
rule_text no_private = codes "no private card in round 1"
rule_text (ranking_cards own all) = codes "cards for ranking: own " ++ decimal own ++ codes " all " ++ decimal all
rule_text (not_enough_cards need have) = codes "not enough cards: need " ++ decimal need ++ codes " have " ++ decimal have
rule_text (no_even round) = codes "no even leaf: round " ++ decimal round
rule_text (uneven round path) = codes "uneven: round " ++ decimal round ++ codes " path " ++ path
rule_text (put_too_large chips) = codes "put too large: " ++ decimal chips
rule_text (too_many_lines count) = codes "too many lines: " ++ decimal count
rule_text (too_heavy weight) = codes "too heavy: " ++ decimal weight
rule_text (too_many_signals round) = codes "too many signals: round " ++ decimal round
rule_text too_many_deals = codes "too many deals"

-- why a game file is refused
abbrev pub fault_text : Fault → List ℕ
fault_text not_text = codes "not UTF-8"
fault_text not_toml = codes "not TOML"
fault_text (missing_key place) = place_text (codes "missing key") place
fault_text (unknown_key round) = codes "unknown key" ++ in_round round
fault_text (wrong_type place) = place_text (codes "wrong type") place
fault_text (bad_version version) = codes "version " ++ signed_decimal version
fault_text (range place) = place_text (codes "out of range") place
fault_text (deck why) = deck_text why
fault_text (tree_in round why) = round_tree_text round why
fault_text (game why) = rule_text why
