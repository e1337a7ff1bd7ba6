-- The moves of a valid game's points: some and at most 26 at each, and their letters are letters of ASCII.
use Rattle.std.proofs.{Common.{◌≡◌, ℕ, ◌+◌, ◌<◌, ◌≤◌, true, List, [], ◌∷◌, length, map, refl, sym, subst, arith}, lemmas.List.Elements.{All-from_recursion}}
use Rattle.std.specs.List.{AllByRecursion}
use Rattle.gs_bet.specs.{Grammar.{are_sound, is_sound}, MoveLists.{count}}
use Rattle.gs_bet.proofs.Letters.{at_most_26}
use Rattle.gs_game.specs.{Games.{plain_trees}, declared.valid.ValidGame.{ValidGame}}
use Rattle.gs_game.proofs.{Deciding.{trees_are}, LineLaws.{all_sound}, LineWriting.{small_letter}, MoneyLaws.{sound_act, sound_move}}
use Rattle.gs_model.specs.{Betting.{Bet, Moves as TreeMoves, act, fold, even, none, move}, Frame.{move_count, point, point_count}, Positions.{Arrow, Point}}
use Rattle.gs_model.specs.Walk.{Place, Walked, after_move, walk, walk_moves, walk_rounds, walk_start, walk_tree}
use Rattle.gs_model.proofs.Basics.{every-append}
use Rattle.gs_seq.specs.Games.{frame_in}
use Rattle.gs_seq.proofs.Choices.{some_move, none_there}

abbrev pub letters_in : List Arrow → List ℕ
letters_in moves = map (λ (a : Arrow). a.letter) moves

-- letters of ASCII
abbrev pub AreSmall : List ℕ → Type 0
AreSmall letters = AllByRecursion (λ l. l < 128) letters

-- a point has at most 26 moves, each with a letter
pub record IsFew (p : Point) : Type 0 where
  pub few : length p.moves ≤ 26
  pub small : AreSmall (letters_in p.moves)

-- a move of the tree is a move of the point
arrows_long : (ms : TreeMoves) (go_on : Place → Walked) (player q choice : ℕ) (p : Place) → length (walk_moves go_on ms player q choice p).arrows ≡ count ms
arrows_long none g player q choice p = refl
arrows_long (move letter chips next ms) g player q choice p =
    let here = after_move player q choice chips p in
    let first = walk_tree g next here in
    omega (arith, arrows_long ms g player q (choice + 1) (record p { point = p.point + length first.points; end = p.end + length first.ends }))

-- and their letters are letters
arrows_small : (ms : TreeMoves) (left : ℕ) (go_on : Place → Walked) → are_sound left ms ≡ true → (player q choice : ℕ) (p : Place)
    → AreSmall (letters_in (walk_moves go_on ms player q choice p).arrows)
arrows_small none left g sound player q choice p = tt
arrows_small (move letter chips next ms) left g sound player q choice p =
    let here = after_move player q choice chips p in
    let first = walk_tree g next here in
    let others = (sound_move left letter chips next ms sound).others in (
      small_letter left letter chips next ms sound,
      arrows_small ms left g others player q (choice + 1) (record p {
        point =
            p.point + length first.points;
        end = p.end + length first.ends;
      }),
    )

mutual
  tree_few : (t : Bet) (left : ℕ) (go_on : Place → Walked) → is_sound left t ≡ true → ((p : Place) → AllByRecursion IsFew (go_on p).points) → (p : Place)
      → AllByRecursion IsFew (walk_tree go_on t p).points
  tree_few (act player ms) left g sound h p =
      let s = sound_act left player ms sound in
      let behind : Place = record p { point = p.point + 1 } in (
        record {
          few = omega (arith, arrows_long ms g player p.point 0 behind, at_most_26 s.0 ms s.2);
          small = arrows_small ms s.0 g s.2 player p.point 0 behind;
        },
        list_few ms s.0 g s.2 h player p.point 0 (record p { point = p.point + 1 }),
      )
  tree_few fold left g sound h p = tt
  tree_few even left g sound h p = h p

  list_few : (ms : TreeMoves) (left : ℕ) (go_on : Place → Walked) → are_sound left ms ≡ true → ((p : Place) → AllByRecursion IsFew (go_on p).points)
      → (player q choice : ℕ) (p : Place)
      → AllByRecursion IsFew (walk_moves go_on ms player q choice p).walked.points
  list_few none left g sound h player q choice p = tt
  list_few (move letter chips next ms) left g sound h player q choice p =
      let s = sound_move left letter chips next ms sound in
      let here = after_move player q choice chips p in
      let first = walk_tree g next here in
      let there : Place = record p { point = p.point + length first.points; end = p.end + length first.ends } in
      every-append IsFew first.points (walk_moves g ms player q (choice + 1) there).walked.points (tree_few next left g s.next h here)
      (list_few ms left g s.others h player q (choice + 1) there)

rounds_few : (ts : List Bet) → AllByRecursion (λ t. is_sound 16 t ≡ true) ts → (p : Place) → AllByRecursion IsFew (walk_rounds ts p).points
rounds_few [] sound p = tt
rounds_few (t ∷ ts) sound p = tree_few t 16 (walk_rounds ts) sound.0 (rounds_few ts sound.1) (record p { round = p.round + 1 })

-- so it is of a point of a valid game
pub few_moves : (g : ValidGame) (q : ℕ) → q < point_count (frame_in g) → IsFew (point (frame_in g) q)
few_moves g q l =
    let all = subst (λ (ts : List Bet). AllByRecursion IsFew (walk g.game.ante ts).points) (sym (trees_are g.game))
    (rounds_few (plain_trees g.game.rounds.items) (all_sound g.game.rounds.items) (walk_start g.game.ante)) in
    All-from_recursion IsFew (frame_in g).points all q none_there l

-- and how many moves it has
pub record AreFewMoves (n : ℕ) : Type 0 where
  pub some : 0 < n
  pub few : n ≤ 26

pub moves_few : (g : ValidGame) (q : ℕ) → q < point_count (frame_in g) → AreFewMoves (move_count (frame_in g) q)
unfolding move_count
moves_few g q l = record { some = some_move g q l; few = (few_moves g q l).few }
