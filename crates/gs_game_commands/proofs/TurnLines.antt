-- The lines of pivots, as they grow one by one.
use Rattle.std.proofs.Common.{◌≡◌, ℕ, ◌+◌, ◌<◌, List, [], ◌∷◌, ◌++◌, length, get_or, take, sym, ap, ◌∙◌, append_assoc, arith}
use Rattle.std.proofs.lemmas.List.{append-nil, take_more, length-take-le}
use Rattle.gs_game_commands.specs.Paths.{turn_line, turn_lines}
use Rattle.gs_simplex.specs.declared.answer.Turn.{Turn}

-- one more pivot
push : (before : ℕ) (turns : List Turn) (turn : Turn) → turn_lines before (turns ++ turn ∷ [])
    ≡ turn_lines before turns ++ turn_line (before + length turns + 1) turn
push before [] turn =
    let e : before + 1 ≡ before + length {A = Turn} [] + 1 = omega arith in
    append-nil (turn_line (before + 1) turn) ∙ ap (λ k. turn_line k turn) e
push before (t ∷ turns) turn =
    let e : before + 1 + length turns + 1 ≡ before + length (t ∷ turns) + 1 = omega arith in
    ap (λ r. turn_line (before + 1) t ++ r) (push (before + 1) turns turn ∙ ap (λ k. turn_lines (before + 1) turns ++ turn_line k turn) e)
    ∙ sym (append_assoc (turn_line (before + 1) t) (turn_lines (before + 1) turns) (turn_line (before + length (t ∷ turns) + 1) turn))

-- the lines of one pivot more
pub lines_more : (turns : List Turn) (place : ℕ) (none : Turn) (front old new : List ℕ) → place < length turns
    → old ≡ front ++ turn_lines 0 (take place turns) → new ≡ old ++ turn_line (place + 1) (get_or turns place none)
    → new ≡ front ++ turn_lines 0 (take (place + 1) turns)
lines_more turns place none front old new l o n =
    let turn = get_or turns place none in
    let more : take (place + 1) turns ≡ take place turns ++ turn ∷ [] = take_more turns place none l in
    let long : 0 + length (take place turns) + 1 ≡ place + 1 = omega (arith, length-take-le place turns (omega arith)) in
    let all : turn_lines 0 (take (place + 1) turns) ≡ turn_lines 0 (take place turns) ++ turn_line (place + 1) turn =
    ap (turn_lines 0) more ∙ push 0 (take place turns) turn ∙ ap (λ k. turn_lines 0 (take place turns) ++ turn_line k turn) long in
    n ∙ ap (λ r. r ++ turn_line (place + 1) turn) o ∙ append_assoc front (turn_lines 0 (take place turns)) (turn_line (place + 1) turn)
    ∙ sym (ap (λ r. front ++ r) all)
