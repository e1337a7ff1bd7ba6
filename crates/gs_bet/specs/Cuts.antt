-- Prefixes of a tree's text: what has been read up to a cut, and what is expected next.
use Rattle.std.specs.Prelude.{ℕ, ◌+◌, ◌-◌, ◌≡◌, ◌<◌, ◌≤◌, true, false, List, [], ◌∷◌, ◌++◌, length}
use Rattle.gs_model.specs.Betting.{Bet, Moves, none, move}
use Rattle.gs_bet.specs.{MoveLists.{count, has_move, has_letter}, Grammar.{chips_text, tree_text, moves_text, is_letter, is_player, are_sound, is_tree}}

-- an act that is still open: its moves so far, and the letter and chips of the move that is being read
pub record Open : Type 0 where
  pub player : ℕ
  pub moves : Moves
  pub letter : ℕ
  pub chips : ℕ

-- where a tree's text is cut, by what is expected next. The open acts around the place are listed from the innermost
pub data Cut : Type 0 where
  -- a tree is expected
  at_tree : List Open → Cut
  -- `[` is expected, behind the player
  at_bracket : ℕ → List Open → Cut
  -- a letter is expected
  at_letter : ℕ → Moves → List Open → Cut
  -- chips or `:` are expected
  at_chips : Open → List Open → Cut
  -- `,` or `]` is expected
  at_next : ℕ → Moves → List Open → Cut
  -- nothing is expected
  whole : Bet → Cut

-- what stands before the next move: `[`, or a comma
abbrev pub mark : ℕ → Moves → ℕ
mark before none = before
mark before (move letter chips next ms) = 44

-- the text of an act up to its next letter
abbrev pub act_front : ℕ → Moves → List ℕ
act_front p ms = (48 + p) ∷ (moves_text 91 ms ++ mark 91 ms ∷ [])

-- the text of the acts that are still open, from the outermost
abbrev pub open_text : List Open → List ℕ
open_text [] = []
open_text (o ∷ outer) = open_text outer ++ (act_front o.player o.moves ++ (o.letter ∷ (chips_text o.chips ++ 58 ∷ [])))

-- the text up to a cut
abbrev pub cut_text : Cut → List ℕ
cut_text (at_tree outer) = open_text outer
cut_text (at_bracket p outer) = open_text outer ++ (48 + p) ∷ []
cut_text (at_letter p ms outer) = open_text outer ++ act_front p ms
cut_text (at_chips o outer) = open_text outer ++ (act_front o.player o.moves ++ (o.letter ∷ chips_text o.chips))
cut_text (at_next p ms outer) = open_text outer ++ ((48 + p) ∷ moves_text 91 ms)
cut_text (whole t) = tree_text t

-- an act with these moves so far can stand inside the open acts `outer`: its player is 1 or 2, fewer than 16 acts are open, and its moves are sound
pub record IsAct (p : ℕ) (ms : Moves) (outer : List Open) : Type 0 where
  pub player : is_player p ≡ true
  pub depth : length outer < 16
  pub moves : are_sound (15 - length outer) ms ≡ true

-- an open act can stand inside the open acts `outer`. Its letter is from a to z and none of its moves has it; its chips are at most 4096
pub record IsOpen (o : Open) (outer : List Open) : Type 0 where
  pub act : IsAct o.player o.moves outer
  pub letter : is_letter o.letter ≡ true
  pub fresh : has_letter o.moves o.letter ≡ false
  pub chips : o.chips ≤ 4096

-- each open act can stand inside those listed after it
abbrev pub AreOpen : List Open → Type 0
AreOpen [] = Unit {0}
AreOpen (o ∷ outer) = IsOpen o outer × AreOpen outer

-- a cut that reading can reach: its acts can stand inside each other as they do. A letter is expected behind fewer than 26 moves, and `,` or `]` behind some
-- move; a whole tree has a text
abbrev pub IsCut : Cut → Type 0
IsCut (at_tree outer) = AreOpen outer
IsCut (at_bracket p outer) = IsAct p none outer × AreOpen outer
IsCut (at_letter p ms outer) = IsAct p ms outer × (count ms < 26) × AreOpen outer
IsCut (at_chips o outer) = IsOpen o outer × AreOpen outer
IsCut (at_next p ms outer) = IsAct p ms outer × (has_move ms ≡ true) × AreOpen outer
IsCut (whole t) = is_tree t ≡ true
