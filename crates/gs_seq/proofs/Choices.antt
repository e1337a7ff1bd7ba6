-- Each point of a valid game has a move.
use Rattle.std.proofs.{Common.{◌≡◌, ℕ, ◌+◌, ◌<◌, List, [], ◌∷◌, length, true, arith, None}, lemmas.Bool.{and_parts}, lemmas.List.Elements.{All-from_recursion}}
use Rattle.std.specs.{Prelude.{not}, List.{AllByRecursion}}
use Rattle.gs_bet.specs.{Grammar.{is_sound, are_sound, is_fold}, MoveLists.{has_move}, TreeView.{plain}}
use Rattle.gs_game.specs.{Games.{game_of, plain_trees}, declared.game.Round.{Round}, declared.valid.ValidGame.{ValidGame}}
use Rattle.gs_game.proofs.{Deciding.{trees_are}, MoneyLaws.{sound_act, sound_move}}
use Rattle.gs_model.specs.{Betting.{Bet, Moves, act, fold, even, none, move}, Frame.{move_count, point_count, trees_of}, Positions.{Point}}
use Rattle.gs_model.specs.Walk.{Place, Walked, after_move, walk_tree, walk_moves, walk_rounds, walk_start, walk}
use Rattle.gs_model.proofs.Basics.{every-append}
use Rattle.gs_seq.specs.Games.{frame_in}

abbrev pub none_there : Point
none_there = record { player = 0; round = 1; one = None; two = None; moves = [] }

abbrev pub HasMove : Point → Type 0
HasMove p = 0 < length p.moves

arrows_some : (ms : Moves) → has_move ms ≡ true → (go_on : Place → Walked) (player point choice : ℕ) (p : Place)
    → 0 < length (walk_moves go_on ms player point choice p).arrows
arrows_some none h g player point choice p = absurd cc
arrows_some (move letter chips next ms) h g player point choice p = omega arith

mutual
  pub tree-moves : (t : Bet) (left : ℕ) → is_sound left t ≡ true → (go_on : Place → Walked) → ((p : Place) → AllByRecursion HasMove (go_on p).points)
      → (p : Place) → AllByRecursion HasMove (walk_tree go_on t p).points
  tree-moves (act player ms) left s g h p =
      let a = sound_act left player ms s in (
        arrows_some ms a.3 g player p.point 0 (record p { point = p.point + 1 }),
        moves-moves ms a.0 a.2 g h player p.point 0 (record p { point = p.point + 1 }),
      )
  tree-moves fold left s g h p = tt
  tree-moves even left s g h p = h p

  moves-moves : (ms : Moves) (left : ℕ) → are_sound left ms ≡ true → (go_on : Place → Walked) → ((p : Place) → AllByRecursion HasMove (go_on p).points)
      → (player point choice : ℕ) (p : Place)
      → AllByRecursion HasMove (walk_moves go_on ms player point choice p).walked.points
  moves-moves none left s g h player point choice p = tt
  moves-moves (move letter chips next ms) left s g h player point choice p =
      let m = sound_move left letter chips next ms s in
      let here = after_move player point choice chips p in
      let first = walk_tree g next here in
      let there : Place = record p { point = p.point + length first.points; end = p.end + length first.ends } in
      every-append HasMove first.points (walk_moves g ms player point (choice + 1) there).walked.points (tree-moves next left m.next g h here)
      (moves-moves ms left m.others g h player point (choice + 1) there)

rounds-moves : (rs : List Round) (p : Place) → AllByRecursion HasMove (walk_rounds (plain_trees rs) p).points
rounds-moves [] p = tt
rounds-moves (r ∷ rs) p =
    let t = plain r.tree.tree in
    let sound = (and_parts (not (is_fold t)) (is_sound 16 t) r.tree.sound).1 in
    tree-moves t 16 sound (walk_rounds (plain_trees rs)) (rounds-moves rs) (record p { round = p.round + 1 })

pub some_move : (g : ValidGame) (q : ℕ) → q < point_count (frame_in g) → 0 < move_count (frame_in g) q
unfolding move_count
some_move g q l =
    let r = game_of g.game in
    let all : AllByRecursion HasMove (walk r.ante (trees_of r)).points = rw trees_are (rounds-moves g.game.rounds.items (walk_start r.ante)) in
    All-from_recursion HasMove (walk r.ante (trees_of r)).points all q none_there l
