-- What the printer needs of a sound act.
use Rattle.std.proofs.Common.{◌≡◌, ℕ, zero, suc, ◌+◌, ◌-◌, ◌<◌, ◌&&◌, List, [], ◌∷◌, ◌++◌, length, get_or, drop, ap, sym, ◌∙◌, inl, inr, true, not, nat_le}
use Rattle.std.proofs.{Common.{arith, append_assoc}, lemmas.Bool.{and_parts}}
use Rattle.gs_model.specs.Betting.{Moves, act}
use Rattle.gs_bet.specs.{MoveLists.{has_letter}, Grammar.{Prints, are_sound, chips_text, is_letter, is_sound, moves_text, tree_text}}
use Rattle.gs_bet.specs.{TreeView.{plain, plain_moves}, declared.shape.Move.{Move}}
use Rattle.gs_bet.proofs.{Runs.{depth_of}, Players.{player_cases}}

pub small_player : (p : ℕ) (ms : Moves) → Prints (act p ms) → p < 3
small_player p ms h = elim (player_cases p (depth_of h.0 p ms h.1).1) [ inl e ↦ omega arith | inr e ↦ omega arith ]

pub sound_moves : (p : ℕ) (ms : Moves) → Prints (act p ms) → (left : ℕ) × (are_sound left ms ≡ true)
sound_moves p ms h = (h.0 - 1, (depth_of h.0 p ms h.1).3)

-- the first of sound moves, and those behind it
pub record NextSound (left : ℕ) (m : Move) (behind : List Move) : Type 0 where
  pub letter : m.letter < 128
  pub tree : Prints (plain m.next)
  pub rest : are_sound left (plain_moves behind) ≡ true

pub next_sound : (left : ℕ) (items : List Move) (i : ℕ) (m : Move) → i < length items → m ≡ get_or items i m
    → are_sound left (plain_moves (drop i items)) ≡ true → NextSound left m (drop (i + 1) items)
next_sound left [] i m within is sound = absurd (omega (arith, within))
next_sound left (x ∷ items) zero m within is sound =
    let moves = plain_moves items in
    let a = and_parts (is_letter x.letter && not (has_letter moves x.letter))
    (nat_le x.chips 4096 && (is_sound left (plain x.next) && are_sound left moves)) sound in
    let b = and_parts (is_letter x.letter) (not (has_letter moves x.letter)) a.0 in
    let d = and_parts (is_sound left (plain x.next)) (are_sound left moves)
    (and_parts (nat_le x.chips 4096) (is_sound left (plain x.next) && are_sound left moves) a.1).1 in
    rw is record { letter = grind (arith, b.0); tree = (left, d.0); rest = d.1 }
next_sound left (x ∷ items) (suc i) m within is sound =
    let e : suc i + 1 ≡ suc (i + 1) = omega arith in rw e (next_sound left items i m (omega (arith, within)) is sound)

next_text : (items : List Move) (i : ℕ) (m : Move) (before : ℕ) → i < length items → m ≡ get_or items i m
    → moves_text before (plain_moves (drop i items))
    ≡ before ∷ m.letter ∷ (chips_text m.chips ++ (58 ∷ (tree_text (plain m.next) ++ moves_text 44 (plain_moves (drop (i + 1) items)))))
next_text [] i m before within is = absurd (omega (arith, within))
next_text (x ∷ items) zero m before within is =
    ap (λ y. before ∷ y.letter ∷ (chips_text y.chips ++ (58 ∷ (tree_text (plain y.next) ++ moves_text 44 (plain_moves items))))) (sym is)
next_text (x ∷ items) (suc i) m before within is =
    let e : suc i + 1 ≡ suc (i + 1) = omega arith in rw e (next_text items i m before (omega (arith, within)) is)

-- the text is whole before a move is written, and after it
pub next_written : (items : List Move) (i : ℕ) (m : Move) (before : ℕ) (out front new total : List ℕ) → i < length items → m ≡ get_or items i m
    → front ≡ out ++ before ∷ m.letter ∷ (chips_text m.chips ++ 58 ∷ []) → new ≡ front ++ tree_text (plain m.next)
    → out ++ (moves_text before (plain_moves (drop i items)) ++ 93 ∷ []) ≡ total
    → new ++ (moves_text 44 (plain_moves (drop (i + 1) items)) ++ 93 ∷ []) ≡ total
next_written items i m before out front new total within is a b whole =
    let more : List ℕ = moves_text 44 (plain_moves (drop (i + 1) items)) in
    let same : new ++ (more ++ 93 ∷ [])
    ≡ out ++ ((before ∷ m.letter ∷ (chips_text m.chips ++ (58 ∷ (tree_text (plain m.next) ++ more)))) ++ 93 ∷ []) = rw (b, a) (simp append_assoc) in
    same ∙ ap (λ x. out ++ (x ++ 93 ∷ [])) (sym (next_text items i m before within is)) ∙ whole

pub comma_small : 44 < 128
comma_small = omega arith
