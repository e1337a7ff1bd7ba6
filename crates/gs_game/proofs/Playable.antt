-- What the crates above need of a valid game: its choices are players' choices, and no end has put more than the most.
use Rattle.std.proofs.{Common.{◌≡◌, ℕ, ◌+◌, ◌<◌, ◌≤◌, max, List, [], ◌∷◌, map, length, refl, inl, inr, arith}, lemmas.Bool.{cases_Bool}}
use Rattle.std.proofs.{lemmas.List.{length-map}, lemmas.List.Elements.{All-from_recursion}}
use Rattle.std.specs.{Prelude.{◌==◌}, List.{AllByRecursion}}
use Rattle.gs_bet.specs.TreeView.{plain}
use Rattle.gs_bet.proofs.Players.{has_players}
use Rattle.gs_model.specs.{Betting.{Bet, Moves, act, fold, even, none, move, HasPlayers}, Frame.{trees_of}}
use Rattle.gs_model.specs.{Game.{Game as Rules, Round as RoundRules, IsPlayable}, Positions.{End}}
use Rattle.gs_model.specs.Walk.{Place, Walked, after_move, fold_end, walk_tree, walk_moves, walk_rounds, walk_start, walk}
use Rattle.gs_model.proofs.Basics.{every-weaker, every-append}
use Rattle.gs_game.specs.{declared.game.Game.{Game}, declared.game.Round.{Round}, Games.{game_of, round_rules}}
use Rattle.gs_game.specs.Money.{one_after, two_after, most_put, most_moved, most_in}
use Rattle.gs_game.proofs.WalkRoom.{after_put_one, after_put_two}

players : (rs : List Round) → AllByRecursion (λ (r : RoundRules). HasPlayers r.tree) (map round_rules rs)
players [] = tt
players (r ∷ rs) = (has_players (plain r.tree.tree) r.tree.sound, players rs)

-- a game with a round has choices of players 1 and 2 alone
pub is_playable : (game : Game) → 0 < length game.rounds.items → IsPlayable (game_of game)
is_playable game some =
    record {
      some = omega (arith, length-map game.rounds.items round_rules, some);
      players = All-from_recursion (λ (r : RoundRules). HasPlayers r.tree) (map round_rules game.rounds.items) (players game.rounds.items);
    }

-- ---- what the ends have put

abbrev Within : ℕ → End → Type 0
Within most z = z.put ≤ most

fold-within : (p : Place) → (fold_end p).put ≤ max p.put_one p.put_two
fold-within p = elim (cases_Bool (p.last == 1)) [ inl e ↦ rw e (omega arith) | inr e ↦ rw e (omega arith) ]

mutual
  tree-within : (t : Bet) (go_on : Place → Walked) (most : ℕ → ℕ → ℕ) → ((p : Place) → AllByRecursion (Within (most p.put_one p.put_two)) (go_on p).ends)
      → (p : Place) → AllByRecursion (Within (most_put most p.put_one p.put_two t)) (walk_tree go_on t p).ends
  tree-within (act player ms) g most h p = moves-within ms g most h player p.point 0 (record p { point = p.point + 1 })
  tree-within fold g most h p = (fold-within p, tt)
  tree-within even g most h p = h p

  moves-within : (ms : Moves) (go_on : Place → Walked) (most : ℕ → ℕ → ℕ) → ((p : Place) → AllByRecursion (Within (most p.put_one p.put_two)) (go_on p).ends)
      → (player point choice : ℕ) (p : Place) → AllByRecursion (Within (most_moved most p.put_one p.put_two player ms))
      (walk_moves go_on ms player point choice p).walked.ends
  moves-within none g most h player point choice p = tt
  moves-within (move letter chips next ms) g most h player point choice p =
      let here = after_move player point choice chips p in
      let first = walk_tree g next here in
      let there : Place = record p { point = p.point + length first.points; end = p.end + length first.ends } in
      let one = most_put most here.put_one here.put_two next in
      let same : one ≡ most_put most (one_after player chips p.put_one) (two_after player chips p.put_two) next =
      rw (after_put_one player point choice chips p, after_put_two player point choice chips p) refl in
      let both = most_moved most p.put_one p.put_two player (move letter chips next ms) in
      every-append (Within both) first.ends (walk_moves g ms player point (choice + 1) there).walked.ends
      (every-weaker (Within one) (Within both) (λ z w. omega (arith, w, same)) first.ends (tree-within next g most h here))
      (every-weaker (Within (most_moved most p.put_one p.put_two player ms)) (Within both) (λ z w. omega (arith, w))
      (walk_moves g ms player point (choice + 1) there).walked.ends
      (moves-within ms g most h player point (choice + 1) there))

rounds-within : (ts : List Bet) (p : Place) → AllByRecursion (Within (most_in ts p.put_one p.put_two)) (walk_rounds ts p).ends
rounds-within [] p = (omega arith, tt)
rounds-within (t ∷ ts) p = tree-within t (walk_rounds ts) (most_in ts) (rounds-within ts) (record p { round = p.round + 1 })

-- no end of a game has put more than the most that one player puts
pub puts_within : (g : Rules) → AllByRecursion (λ (z : End). z.put ≤ most_in (trees_of g) g.ante g.ante) (walk g.ante (trees_of g)).ends
puts_within g = rounds-within (trees_of g) (walk_start g.ante)
