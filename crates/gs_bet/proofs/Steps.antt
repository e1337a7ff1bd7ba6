-- Reading on from a cut, byte by byte.
use Rattle.std.proofs.Common.{ℕ, ◌+◌, ◌-◌, ◌*◌, Bool, true, false, ◌&&◌, ◌||◌, List, [], ◌∷◌, length, Result, Ok, Err}
use Rattle.std.specs.Prelude.{nat_lt, ◌==◌, if◌then◌else◌}
use Rattle.gs_bet.specs.{declared.fault.Mistake.{Mistake}, declared.fault.Mistake.TheVariants.{RepeatedLetter, TooDeep, Syntax}}
use Rattle.gs_bet.specs.{MoveLists.{count, has_letter, push_move}, Grammar.{is_letter}}
use Rattle.gs_bet.specs.{Cuts.{Open, Cut, at_tree, at_bracket, at_letter, at_chips, at_next, whole}, Reading.{goes_on}}
use Rattle.gs_model.specs.Betting.{Bet, Moves, act, fold, even, none}

-- where a tree ends
abbrev pub after : List Open → Bet → Cut
after [] t = whole t
after (o ∷ outer) t = at_next o.player (push_move o.moves o.letter o.chips t) outer

abbrev pub is_inside : List Open → Bool
is_inside [] = false
is_inside (o ∷ outer) = true

abbrev pub step_tree : List Open → ℕ → Result Cut Mistake
step_tree outer b =
    if b == 61 then Ok (after outer even)
    else (if b == 33 && is_inside outer then Ok (after outer fold)
    else (if b == 49 || b == 50 then (if nat_lt (length outer) 16 then Ok (at_bracket (b - 48) outer) else Err TooDeep)
    else Err Syntax))

abbrev pub step_letter : ℕ → Moves → List Open → ℕ → Result Cut Mistake
step_letter player moves outer b =
    if is_letter b
    then (if has_letter moves b then Err RepeatedLetter else Ok (at_chips (record { player = player; moves = moves; letter = b; chips = 0 }) outer))
    else Err Syntax

abbrev pub step_chips : Open → List Open → ℕ → Result Cut Mistake
step_chips o outer b =
    if b == 58 then Ok (at_tree (o ∷ outer))
    else (if goes_on o.chips b then Ok (at_chips (record o { chips = o.chips * 10 + (b - 48) }) outer) else Err Syntax)

abbrev pub step_next : ℕ → Moves → List Open → ℕ → Result Cut Mistake
step_next player moves outer b =
    if b == 93 then Ok (after outer (act player moves))
    else (if b == 44 && nat_lt (count moves) 26 then Ok (at_letter player moves outer) else Err Syntax)

-- one more byte
abbrev pub step : Cut → ℕ → Result Cut Mistake
step (at_tree outer) b = step_tree outer b
step (at_bracket player outer) b = if b == 91 then Ok (at_letter player none outer) else Err Syntax
step (at_letter player moves outer) b = step_letter player moves outer b
step (at_chips o outer) b = step_chips o outer b
step (at_next player moves outer) b = step_next player moves outer b
step (whole t) b = Err Syntax

abbrev pub step_then : {A : Type 0} → Result Cut Mistake → (Cut → Result A (Mistake × List ℕ)) → List ℕ → Result A (Mistake × List ℕ)
step_then (Ok s) go bytes = go s
step_then (Err e) go bytes = Err (e, bytes)

-- what may come after all of the bytes, or the first mistake with the bytes from it on
abbrev pub run : Cut → List ℕ → Result Cut (Mistake × List ℕ)
run s [] = Ok s
run s (b ∷ bytes) = step_then (step s b) (λ next. run next bytes) (b ∷ bytes)

-- the tree, if nothing more is expected
abbrev pub ended : Cut → Result Bet (Mistake × List ℕ)
ended (whole t) = Ok t
ended (at_tree outer) = Err (Syntax, [])
ended (at_bracket player outer) = Err (Syntax, [])
ended (at_letter player moves outer) = Err (Syntax, [])
ended (at_chips o outer) = Err (Syntax, [])
ended (at_next player moves outer) = Err (Syntax, [])

-- all of the bytes
abbrev pub read : Cut → List ℕ → Result Bet (Mistake × List ℕ)
read s [] = ended s
read s (b ∷ bytes) = step_then (step s b) (λ next. read next bytes) (b ∷ bytes)
