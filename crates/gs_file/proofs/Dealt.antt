-- A game that can be told is playable, has deals and keeps the limits of its signals.
use Rattle.std.proofs.Common.{◌≡◌, ℕ, ◌-◌, ◌<◌, ◌≤◌, List, [], ◌∷◌, sum, All, None, Ok, ap, arith}
use Rattle.std.proofs.lemmas.List.Elements.{All-cons, All-head, All-nil, All-tail}
use Rattle.gs_bet.proofs.Players.{has_players}
use Rattle.gs_game.proofs.{Rules.{not_refused}, Sequencing.{weight_drawn}, SomeWays.{some_ways}}
use Rattle.gs_game.specs.{Refusals.{first_refusal}, Rules.{KeepsRules}, Sequences.{deal_sizes, draws}}
use Rattle.gs_model.proofs.{Ranges.{signal_count_is}, Walked.{last_round_of}}
use Rattle.gs_model.specs.{Betting.{HasPlayers}, Frame.{frame_of, last_round, signal_count, total_weight}, Game.{Game, IsPlayable, Round, round_count}}
use Rattle.gs_file.specs.{Dealt.{IsDealt}, JsonLaws.{IsRoundTold, IsTold}, Reading.{FileGame, read_at, file_rules}, declared.version.Version.{Version}}
use Rattle.gs_file.proofs.Told.{file_told}

abbrev HasTwo : Round → Type 0
HasTwo r = HasPlayers r.tree

players : (rs : List Round) → All IsRoundTold rs → All HasTwo rs
players [] h = All-nil HasTwo
players (r ∷ rs) h =
    All-cons HasTwo r rs (has_players r.tree (All-head IsRoundTold r rs h).tree) (players rs (All-tail IsRoundTold r rs h))

some_deal : (g : Game) → first_refusal g ≡ None → 0 < total_weight (frame_of g)
some_deal r h =
    let all : sum r.copies - 0 - 0 ≡ sum r.copies = omega arith in
    omega (arith, weight_drawn r, ap (λ n. draws n (deal_sizes r.rounds)) all, some_ways r 0 h)

pub told_playable : (version : Version) (g : FileGame) → IsTold version g → IsPlayable (file_rules g)
told_playable version g h = record {
  some = let n = h.lawful.rounds.0 in omega arith;
  players = players g.rounds h.rounds;
}

pub told_dealt : (version : Version) (g : FileGame) → IsTold version g → IsDealt g
told_dealt version g h = record { playable = told_playable version g h; deals = some_deal (file_rules g) (not_refused _ h.lawful) }

pub file_dealt : (bytes : List ℕ) (g : FileGame) → read_at bytes ≡ Ok g → IsDealt g
file_dealt bytes g e = told_dealt _ g (file_told bytes g e)

-- each round of a lawful game has at most 200,000 signals
pub few_signals : (g : Game) → KeepsRules g → (round : ℕ) → 0 < round → round ≤ last_round (frame_of g) → signal_count (frame_of g) round ≤ 200000
few_signals g lawful round some top =
    let r = last_round_of g in
    let within : round ≤ round_count g = omega arith in
    omega (arith, signal_count_is g round some within, lawful.signals round some within)
