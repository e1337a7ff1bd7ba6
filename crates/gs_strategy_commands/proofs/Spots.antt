-- The spot that words name among a strategy's signals is the one that they name in its game.
use Rattle.std.proofs.Common.{◌≡◌, ℕ, List, subst}
use Rattle.gs_file.specs.Views.{valid_view}
use Rattle.gs_game.specs.declared.valid.ValidGame.{ValidGame}
use Rattle.gs_lift.specs.Queries as lift
use Rattle.gs_lift.specs.{declared.fault.QueryFault.{QueryFault}, declared.fault.QueryFault.TheVariants.{Line, Player, Signal, Round}}
use Rattle.gs_lift.specs.declared.spot.Spot.{Spot}
use Rattle.gs_model.specs.{Frame.{round_of}, Positions.{at_point}}
use Rattle.gs_seq.specs.Games.{frame_in}
use Rattle.gs_tree.specs.declared.signals.Signals.{Signals}
use Rattle.gs_strategy_commands.specs.Queries.{IsBadQuery, NamesOwnPoint, NamesSignal, NamesSomeSignal}

own_is : (s : Signals) (player : ℕ) (line : List ℕ) (q : ℕ) → lift.IsLineOfOwnPoint s.game.now player line q
    → NamesOwnPoint (valid_view s.game.now) player line q
own_is s player line q h = record { in_range = h.in_range; named = h.named; own = h.own }

signal_is : (s : Signals) (round : ℕ) (text : List ℕ) (i : ℕ) → lift.IsTextOfSignal s round text i → NamesSignal (valid_view s.game.now) round text i
signal_is s round text i h = record { in_range = h.in_range; named = h.named }

signal_back : (s : Signals) (round : ℕ) (text : List ℕ) (i : ℕ) → NamesSignal (valid_view s.game.now) round text i → lift.IsTextOfSignal s round text i
signal_back s round text i h = record { in_range = h.in_range; named = h.named }

some_is : (s : Signals) (text : List ℕ) → lift.IsTextOfSomeSignal s text → NamesSomeSignal (valid_view s.game.now) text
some_is s text h = (h.0, h.1, h.2, h.3, signal_is s h.0 text h.3 h.4)

some_back : (s : Signals) (text : List ℕ) → NamesSomeSignal (valid_view s.game.now) text → lift.IsTextOfSomeSignal s text
some_back s text h = (h.0, h.1, h.2, h.3, signal_back s h.0 text h.3 h.4)

bad_is : (s : Signals) (player : ℕ) (line text : List ℕ) (why : QueryFault) → lift.IsFaultOf s player line text why
    → IsBadQuery (valid_view s.game.now) player line text why
bad_is s player line text Line h = h
bad_is s player line text Player h = h
bad_is s player line text Signal h = (h.0, own_is s player line h.0 h.1, λ some. h.2 (some_back s text some))
bad_is s player line text Round h = (h.0, own_is s player line h.0 h.1, some_is s text h.2, λ i n. h.3 i (signal_back s _ text i n))

-- the rule that words break
pub bad_query_is : (s : Signals) (v : ValidGame) (player : ℕ) (line text : List ℕ) (why : QueryFault) → s.game.now ≡ v → lift.IsFaultOf s player line text why
    → IsBadQuery (valid_view v) player line text why
bad_query_is s v player line text why e h = subst (λ (x : ValidGame). IsBadQuery (valid_view x) player line text why) e (bad_is s player line text why h)

-- the point and the raw signal that words name
pub spot_is : (s : Signals) (v : ValidGame) (player : ℕ) (line text : List ℕ) (spot : Spot) → s.game.now ≡ v → lift.IsQuerySpot s player line text spot
    → NamesOwnPoint (valid_view v) player line spot.point × NamesSignal (valid_view v) (round_of (frame_in v) (at_point spot.point)) text spot.signal
spot_is s v player line text spot e h =
    subst (λ (x : ValidGame). NamesOwnPoint (valid_view x) player line spot.point
    × NamesSignal (valid_view x) (round_of (frame_in x) (at_point spot.point)) text spot.signal) e
    (own_is s player line spot.point h.point, signal_is s _ text spot.signal h.signal)
