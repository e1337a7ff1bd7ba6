-- Lines of points, and texts of raw signals.
use Rattle.std.proofs.Common.{◌≡◌, ℕ, ◌<◌, ◌≤◌, List, [], length, map, get_or, sym, ap, ◌∙◌, subst, arith, Option, Some, None}
use Rattle.std.proofs.lemmas.Option.{slice_get_within}
use Rattle.std.specs.Prelude.{option_map}
use Rattle.gs_game.specs.{Games.{game_of, plain_trees}, Lines.{lines, text_at}, Seen.{own_point, point_of, target_of}}
use Rattle.gs_game.specs.{declared.positions.Point.{Point as StoredPoint}, declared.positions.Target.{Target as StoredTarget}}
use Rattle.gs_game.specs.{declared.positions.Target.TheVariants.{End}, declared.valid.ValidGame.{ValidGame}}
use Rattle.gs_game.proofs.{Deciding.{trees_are}, EndLaws.{rounds_count}, LineLaws.{all_sound, rounds}}
use Rattle.gs_model.specs.{Betting.{Bet}, Frame.{last_round, point_count, round_of, trees_of}, Game.{round_count}, Positions.{Target, at_end, at_point}}
use Rattle.gs_model.specs.{Signals.{signal_at, signals}, Walk.{walk, walk_start}}
use Rattle.gs_model.proofs.{Ranges.{signal_count_is}, Walked.{last_round_of}}
use Rattle.gs_seq.specs.Games.{frame_in}
use Rattle.gs_seq.proofs.Points.{point_reads, walked}
use Rattle.gs_tree.specs.{Texts.{signal_text}, Trees.{deck_of, rules_of}, declared.signals.Signals.{Signals}}
use Rattle.gs_lift.specs.{Queries.{IsFaultOf, IsPointFault, IsLineOfOwnPoint, IsLineOfPoint, IsTextOfSignal}, declared.fault.QueryFault.{QueryFault}}
use Rattle.gs_lift.specs.declared.fault.QueryFault.TheVariants.{Line, Player, Signal, Round}

-- a line for each point
lines_long : (g : ValidGame) → length (lines (trees_of (game_of g.game))).points ≡ point_count (frame_in g)
lines_long g =
    let ts = plain_trees g.game.rounds.items in
    subst (λ (x : List Bet). length (lines x).points ≡ length (walk g.game.ante x).points) (sym (trees_are g.game))
    ((rounds ts (all_sound g.game.rounds.items)).points_are [] ∙ sym ((rounds_count ts).points_are (walk_start g.game.ante)))

-- what a line names is a point of the game
pub point_in : (g : ValidGame) (line : List ℕ) (q : ℕ) → IsLineOfPoint g line q → q < point_count (frame_in g)
point_in g line q h = omega (arith, slice_get_within (lines (trees_of (game_of g.game))).points q line h, lines_long g)

-- where the look-up of a line finds nothing, or an end, it names no point
pub no_point : (g : ValidGame) (line : List ℕ) (r : Option StoredTarget)
    → ((at : Target) → text_at (lines (trees_of (game_of g.game))) at ≡ Some line → option_map target_of r ≡ Some at) → r ≡ None → (q : ℕ)
    → IsLineOfPoint g line q → ⊥
no_point g line None only e q h = let bad : None ≡ Some (at_point q) = only (at_point q) h in cc
no_point g line (Some x) only e q h = cc

pub no_point_end : (g : ValidGame) (line : List ℕ) (r : Option StoredTarget) (z : ℕ)
    → ((at : Target) → text_at (lines (trees_of (game_of g.game))) at ≡ Some line → option_map target_of r ≡ Some at) → r ≡ Some (End z)
    → (q : ℕ) → IsLineOfPoint g line q → ⊥
no_point_end g line r z only e q h =
    let bad : Some (at_end z) ≡ Some (at_point q) = sym (ap (option_map target_of) e) ∙ only (at_point q) h in
    cc

-- a point of a player that a line names, with its round
pub record PointAt (s : Signals) (player : ℕ) (line : List ℕ) (q round : ℕ) : Type 0 where
  pub own : IsLineOfOwnPoint s.game.now player line q
  pub some : 0 < round
  pub top : round ≤ round_count (rules_of s)
  pub same : round ≡ round_of (frame_in s.game.now) (at_point q)

pub point_at : (s : Signals) (g : ValidGame) (ps : List StoredPoint) (p : StoredPoint) (player : ℕ) (line : List ℕ) (q : ℕ) → g ≡ s.game.now
    → map point_of ps ≡ map own_point (frame_in g).points
    → p ≡ get_or ps q p → IsLineOfOwnPoint g player line q → PointAt s player line q (get_or ps q p).round
point_at s g ps p player line q e points is h =
    let f = frame_in s.game.now in
    let own : IsLineOfOwnPoint s.game.now player line q = subst (λ (v : ValidGame). IsLineOfOwnPoint v player line q) e h in
    let seen : map point_of ps ≡ map own_point f.points = points ∙ ap (λ (v : ValidGame). map own_point (frame_in v).points) e in
    let r = point_reads s.game.now ps q p seen own.in_range is in
    let same : (get_or ps q p).round ≡ round_of f (at_point q) = sym (ap (λ (p : StoredPoint). p.round) is) ∙ r.round in
    let w = walked s.game.now 1 (omega arith) (omega arith) in
    record {
      own = own;
      some = omega (arith, same, w.some_round q own.in_range);
      top = omega (arith, same, w.point_in q own.in_range, last_round_of (rules_of s));
      same = same;
    }

-- a fault of the line is the fault of both texts
pub line_fault : (s : Signals) (g : ValidGame) (player : ℕ) (line text : List ℕ) (e : QueryFault) → g ≡ s.game.now → IsPointFault g player line e
    → IsFaultOf s player line text e
line_fault s g player line text Line is h = subst (λ (v : ValidGame). IsPointFault v player line Line) is h
line_fault s g player line text Player is h = subst (λ (v : ValidGame). IsPointFault v player line Player) is h
line_fault s g player line text Signal is h = absurd h
line_fault s g player line text Round is h = absurd h

-- what the look-up of a text in a round finds is named by the text, and where it finds nothing nothing is
pub names_found : (s : Signals) (round i : ℕ) (text : List ℕ) → 0 < round → round ≤ round_count (rules_of s)
    → (i < length (signals (rules_of s) round)) × (text ≡ signal_text (deck_of s) (signal_at (rules_of s) round i)) → IsTextOfSignal s round text i
names_found s round i text some top h = record { in_range = omega (arith, h.0, signal_count_is (rules_of s) round some top); named = h.1 }

pub names_none : (s : Signals) (round : ℕ) (text : List ℕ) (r : Option ℕ) → 0 < round → round ≤ round_count (rules_of s)
    → ((i : ℕ) → i < length (signals (rules_of s) round) → text ≡ signal_text (deck_of s) (signal_at (rules_of s) round i) → r ≡ Some i) → r ≡ None → (i : ℕ)
    → IsTextOfSignal s round text i → ⊥
names_none s round text r some top only none i h =
    let e : r ≡ Some i = only i (omega (arith, h.in_range, signal_count_is (rules_of s) round some top)) h.named in
    let bad : None ≡ Some i = sym none ∙ e in
    cc

-- the rounds of the frame are those of the game
pub rounds_are : (s : Signals) → last_round (frame_in s.game.now) ≡ round_count (rules_of s)
rounds_are s = last_round_of (rules_of s)
