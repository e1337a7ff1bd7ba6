-- Reading a tree's text from the left. A reader gives the value and the bytes after it, or the first mistake and the bytes from it on.
use Rattle.std.specs.Prelude.{ℕ, zero, suc, ◌+◌, ◌-◌, ◌*◌, ◌≡◌, Bool, true, false, ◌&&◌, ◌||◌, ◌==◌, nat_lt, nat_le, if◌then◌else◌, List, [], ◌∷◌, length}
use Rattle.std.specs.Prelude.{Result, Ok, Err}
use Rattle.gs_bet.specs.{declared.fault.Mistake.{Mistake}, declared.fault.Mistake.TheVariants.{RepeatedLetter, TooDeep, Syntax}, declared.fault.ReadError.{ReadError}}
use Rattle.gs_bet.specs.{MoveLists.{count, has_letter, push_move}, Grammar.{is_letter}}
use Rattle.gs_bet.specs.declared.fault.ReadError.TheVariants as errors
use Rattle.gs_model.specs.Betting.{Bet, Moves, act, fold, even, none}

-- what reading gives: a value and the bytes after it, or a mistake and the bytes from it on
abbrev pub Read : Type 0 → Type 0
Read A = Result (A × List ℕ) (Mistake × List ℕ)

-- reads on from the bytes that are left; a mistake ends the reading
infixl 10 ◌>>=◌
abbrev pub ◌>>=◌ : {A B : Type 0} → Read A → (A × List ℕ → Read B) → Read B
(Ok x) >>= f = f x
(Err e) >>= f = Err e

-- an error of the program is the mistake that reading gives, with as many bytes left, unless memory ran out
abbrev pub Fails : {Y : Type 0} → ReadError → Read Y → Type 0
Fails errors.Memory read = Unit {0}
Fails (errors.Fault m left) read = (rest : List ℕ) × (read ≡ Err (m, rest)) × (length rest ≡ left)

-- what a function returned, seen by `view`, is what reading gives, unless memory ran out
abbrev pub Gives : {X Y : Type 0} → (X → Y × List ℕ) → Result X ReadError → Read Y → Type 0
Gives view (Ok x) read = read ≡ Ok (view x)
Gives view (Err e) read = Fails e read

-- reads the byte b
unfoldable pub expect_at : ℕ → List ℕ → Read (Unit {0})
expect_at b [] = Err (Syntax, [])
expect_at b (c ∷ bytes) = if c == b then Ok (tt, bytes) else Err (Syntax, c ∷ bytes)

-- reads a letter that none of the moves has
unfoldable pub letter_at : Moves → List ℕ → Read ℕ
letter_at moves [] = Err (Syntax, [])
letter_at moves (b ∷ bytes) =
    if is_letter b then (if has_letter moves b then Err (RepeatedLetter, b ∷ bytes) else Ok (b, bytes)) else Err (Syntax, b ∷ bytes)

-- whether a byte is a digit with which the number so far goes on to a number from 1 to 4096
abbrev pub goes_on : ℕ → ℕ → Bool
goes_on n b = (nat_le 48 b && nat_le b 57) && (nat_lt 0 (n * 10 + (b - 48)) && nat_le (n * 10 + (b - 48)) 4096)

-- reads the digits with which the number n goes on
unfoldable pub chips_at : ℕ → List ℕ → ℕ × List ℕ
chips_at n [] = (n, [])
chips_at n (b ∷ bytes) = if goes_on n b then chips_at (n * 10 + (b - 48)) bytes else (n, b ∷ bytes)

-- reads the player of an act; at most `left` acts may still open, this one included
unfoldable pub player_digit : ℕ → List ℕ → Read ℕ
player_digit left [] = Err (Syntax, [])
player_digit left (b ∷ bytes) = if b == 49 || b == 50 then (if left == 0 then Err (TooDeep, b ∷ bytes) else Ok (b - 48, bytes)) else Err (Syntax, b ∷ bytes)

-- reads a move and adds it to the moves before it
unfoldable pub move_at : (List ℕ → Read Bet) → Moves → List ℕ → Read Moves
move_at tree moves bytes = do
  letter ← letter_at moves bytes
  let chips = chips_at 0 letter.1
  colon ← expect_at 58 chips.1
  next ← tree colon.1
  Ok (push_move moves letter.0 chips.0 next.0, next.1)

-- reads `,` or `]`: whether another move follows; a comma is allowed behind fewer than 26 moves
unfoldable pub more_at : ℕ → List ℕ → Read Bool
more_at moves [] = Err (Syntax, [])
more_at moves (b ∷ bytes) =
    if b == 93 then Ok (false, bytes)
    else (if b == 44 && nat_lt moves 26 then Ok (true, bytes) else Err (Syntax, b ∷ bytes))

-- reads moves up to `]`, at most as many as the number says, and adds them to the moves before them
unfoldable pub moves_at : (List ℕ → Read Bet) → ℕ → Moves → List ℕ → Read Moves
moves_at tree zero moves bytes = Err (Syntax, bytes)
moves_at tree (suc room) moves bytes = do
  next ← move_at tree moves bytes
  more ← more_at (count next.0) next.1
  if more.0 then moves_at tree room next.0 more.1 else Ok (next.0, more.1)

-- reads the tree of a move: `=`, `!` or an act
unfoldable pub inner_at : (List ℕ → Read Bet) → List ℕ → Read Bet
inner_at deeper [] = deeper []
inner_at deeper (b ∷ bytes) =
    if b == 61 then Ok (even, bytes)
    else (if b == 33 then Ok (fold, bytes) else deeper (b ∷ bytes))

-- reads an act; at most `left` acts may still open, this one included. `deeper` reads the acts inside it
unfoldable pub act_with : ℕ → (List ℕ → Read Bet) → List ℕ → Read Bet
act_with left deeper bytes = do
  player ← player_digit left bytes
  bracket ← expect_at 91 player.1
  moves ← moves_at (inner_at deeper) 26 none bracket.1
  Ok (act player.0 moves.0, moves.1)

-- reads an act; at most `left` acts may still open, this one included
unfoldable pub act_at : ℕ → List ℕ → Read Bet
act_at zero bytes = act_with 0 (λ rest. Err (Syntax, rest)) bytes
act_at (suc left) bytes = act_with (suc left) (act_at left) bytes

-- reads a whole tree: an even leaf, or an act
unfoldable pub outer_at : List ℕ → Read Bet
outer_at [] = act_at 16 []
outer_at (b ∷ bytes) = if b == 61 then Ok (even, bytes) else act_at 16 (b ∷ bytes)

-- refuses bytes that are left behind the tree
abbrev pub at_end : Bet × List ℕ → Read Bet
at_end (t, []) = Ok (t, [])
at_end (t, b ∷ bytes) = Err (Syntax, b ∷ bytes)

-- reads a tree that all bytes are the text of
unfoldable pub all_of : List ℕ → Read Bet
all_of bytes = outer_at bytes >>= at_end
