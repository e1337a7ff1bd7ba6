-- Each point of a game that a file can tell has a move.
use Rattle.std.proofs.{Common.{ℕ, ◌+◌, ◌<◌, List, [], ◌∷◌, map, All}, lemmas.Bool.{and_parts}}
use Rattle.std.proofs.lemmas.List.Elements.{All-from_recursion, recursion_from_All}
use Rattle.std.specs.{Prelude.{not}, List.{AllByRecursion}}
use Rattle.gs_bet.specs.Grammar.{is_sound, is_fold}
use Rattle.gs_file.specs.JsonLaws.{IsRoundTold}
use Rattle.gs_model.specs.{Frame.{frame_of, move_count, point_count, trees_of}, Game.{Game, Round}, Walk.{Place, walk_rounds, walk_start, walk}}
use Rattle.gs_seq.proofs.Choices.{HasMove, none_there, tree-moves}

rounds-moves : (rs : List Round) → AllByRecursion IsRoundTold rs → (p : Place)
    → AllByRecursion HasMove (walk_rounds (map (λ (r : Round). r.tree) rs) p).points
rounds-moves [] h p = tt
rounds-moves (r ∷ rs) h p =
    let whole = and_parts (not (is_fold r.tree)) (is_sound 16 r.tree) h.0.tree in
    tree-moves r.tree 16 whole.1 (walk_rounds (map (λ (r : Round). r.tree) rs)) (rounds-moves rs h.1) (record p { round = p.round + 1 })

pub told_moves : (g : Game) → All IsRoundTold g.rounds → (q : ℕ) → q < point_count (frame_of g) → 0 < move_count (frame_of g) q
unfolding move_count
told_moves g h q l =
    let all : AllByRecursion HasMove (walk g.ante (trees_of g)).points =
    rounds-moves g.rounds (recursion_from_All IsRoundTold g.rounds h) (walk_start g.ante) in
    All-from_recursion HasMove (walk g.ante (trees_of g)).points all q none_there l
