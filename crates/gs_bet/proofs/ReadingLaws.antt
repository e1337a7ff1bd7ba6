-- Steps of reading, as the program takes them.
use Rattle.std.proofs.Common.{◌≡◌, ℕ, zero, suc, ◌+◌, ◌-◌, ◌<◌, ◌≤◌, List, [], ◌∷◌, ◌++◌, length, Ok, Err, refl, sym, ap, ◌∙◌, get_or, inl, inr, Bool, true}
use Rattle.std.proofs.{Common.{false, cond, eqb, ltb, ◌&&◌, ◌||◌, arith, take, drop, take_all}, lemmas.Bool.{cases_Bool, false≢true, ltb-true}, lemmas.List.{length-append}}
use Rattle.gs_bet.specs.{declared.fault.Mistake.TheVariants.{TooDeep, Syntax}, declared.fault.ReadError.{ReadError}, declared.shape.Move.{Move, out-Move}, declared.shape.Tree.TheVariants.{Even, Fold}}
use Rattle.gs_bet.specs.{MoveLists.{count, push_move}, TreeView.{plain, plain_moves}}
use Rattle.gs_bet.specs.Reading.{Read, Fails, outer_at, ◌>>=◌, player_digit, act_with, act_at, moves_at, move_at, more_at, inner_at}
use Rattle.gs_bet.proofs.TreeLaws.{plain-even, plain-fold}
use Rattle.gs_bet.specs.declared.fault.ReadError.TheVariants as errors
use Rattle.gs_model.specs.Betting.{Bet, Moves, move}

pub count_plain : (ms : List Move) → count (plain_moves ms) ≡ length ms
count_plain [] = refl
count_plain (m ∷ ms) = ap suc (count_plain ms)

pub plain_push : (ms : List Move) (m : Move) → plain_moves (ms ++ m ∷ [])
    ≡ push_move (plain_moves ms) (out-Move m).letter (out-Move m).chips (plain (out-Move m).next)
plain_push [] m = refl
plain_push (n ∷ ms) m = ap (move n.letter n.chips (plain n.next)) (plain_push ms m)

no_room : {A : Type 0} (bytes : List ℕ) (f g : ℕ × List ℕ → Read A) → (player_digit 0 bytes >>= f) ≡ (player_digit 0 bytes >>= g)
unfolding player_digit
no_room [] f g = refl
no_room (b ∷ bytes) f g =
    let go : (t : Bool) → (cond t (Err (TooDeep, b ∷ bytes)) (Err (Syntax, b ∷ bytes)) >>= f)
    ≡ (cond t (Err (TooDeep, b ∷ bytes)) (Err (Syntax, b ∷ bytes)) >>= g) = λ t. elim t as
    (λ v. (cond v (Err (TooDeep, b ∷ bytes)) (Err (Syntax, b ∷ bytes)) >>= f)
    ≡ (cond v (Err (TooDeep, b ∷ bytes)) (Err (Syntax, b ∷ bytes)) >>= g)) [ true ↦ refl | false ↦ refl ] in
    go (eqb b 49 || eqb b 50)

pub act_is : (left : ℕ) (bytes : List ℕ) → act_at left bytes ≡ act_with left (act_at (left - 1)) bytes
unfolding act_at act_with
act_is zero bytes = no_room bytes _ _
act_is (suc left) bytes = let e : left ≡ suc left - 1 = omega arith in ap (λ k. act_with (suc left) (act_at k) bytes) e

-- an end stands in front
pub inner_even : (deeper : List ℕ → Read Bet) (bytes : List ℕ) → 1 ≤ length bytes → get_or bytes 0 0 ≡ 61
    → inner_at deeper bytes ≡ Ok (plain Even, take (length bytes - 1) (drop 1 bytes))
unfolding inner_at
inner_even deeper [] some e = absurd (omega (arith, some))
inner_even deeper (b ∷ bytes) some e =
    let is : eqb b 61 ≡ true = grind (arith, e) in
    rw (is, plain-even, take_all (length (b ∷ bytes) - 1) bytes (omega arith)) refl

pub inner_fold : (deeper : List ℕ → Read Bet) (bytes : List ℕ) → 1 ≤ length bytes → get_or bytes 0 0 ≡ 33
    → inner_at deeper bytes ≡ Ok (plain Fold, take (length bytes - 1) (drop 1 bytes))
unfolding inner_at
inner_fold deeper [] some e = absurd (omega (arith, some))
inner_fold deeper (b ∷ bytes) some e =
    let is : eqb b 33 ≡ true = grind (arith, e) in let not_even : eqb b 61 ≡ false = grind (arith, e) in
    rw (not_even, is, plain-fold, take_all (length (b ∷ bytes) - 1) bytes (omega arith)) refl

pub outer_even : (bytes : List ℕ) → 1 ≤ length bytes → get_or bytes 0 0 ≡ 61
    → outer_at bytes ≡ Ok (plain Even, take (length bytes - 1) (drop 1 bytes))
unfolding outer_at
outer_even [] some e = absurd (omega (arith, some))
outer_even (b ∷ bytes) some e =
    let is : eqb b 61 ≡ true = grind (arith, e) in
    rw (is, plain-even, take_all (length (b ∷ bytes) - 1) bytes (omega arith)) refl

-- one move more
moves_step : (tree : List ℕ → Read Bet) (k : ℕ) (ms more : Moves) (bytes behind : List ℕ) → 0 < k → move_at tree ms bytes ≡ Ok (more, behind)
    → moves_at tree k ms bytes ≡ (more_at (count more) behind >>= λ m. cond m.0 (moves_at tree (k - 1) more m.1) (Ok (more, m.1)))
unfolding moves_at
moves_step tree zero ms more bytes behind lt h = absurd (omega arith)
moves_step tree (suc k) ms more bytes behind lt h = let e : k ≡ suc k - 1 = omega arith in
    rw h (ap (λ i. more_at (count more) behind >>= λ m. cond m.0 (moves_at tree i more m.1) (Ok (more, m.1))) e)

pub fails_here : (e : ReadError) (tree : List ℕ → Read Bet) (k : ℕ) (ms : Moves) (bytes : List ℕ) (total : Read Moves) → 0 < k → moves_at tree k ms bytes ≡ total
    → Fails e (move_at tree ms bytes) → Fails e total
unfolding moves_at
fails_here e tree zero ms bytes total lt so_far h = absurd (omega arith)
fails_here errors.Memory tree (suc k) ms bytes total lt so_far h = tt
fails_here (errors.Fault m left) tree (suc k) ms bytes total lt so_far h =
    let e : moves_at tree (suc k) ms bytes ≡ Err (m, h.0) = rw h.1 refl in
    (h.0, sym so_far ∙ e, h.2)

pub fails_behind : (e : ReadError) (tree : List ℕ → Read Bet) (k : ℕ) (ms more : Moves) (bytes behind : List ℕ) (total : Read Moves) → 0 < k
    → moves_at tree k ms bytes ≡ total → move_at tree ms bytes ≡ Ok (more, behind)
    → Fails e (more_at (count more) behind) → Fails e total
fails_behind errors.Memory tree k ms more bytes behind total lt so_far h f = tt
fails_behind (errors.Fault m left) tree k ms more bytes behind total lt so_far h f =
    let e : moves_at tree k ms bytes ≡ Err (m, f.0) = moves_step tree k ms more bytes behind lt h ∙ rw f.1 refl in
    (f.0, sym so_far ∙ e, f.2)

pub goes_on : (t : Bool) (tree : List ℕ → Read Bet) (k : ℕ) (ms more : Moves) (bytes behind others : List ℕ) (total : Read Moves) → 0 < k
    → moves_at tree k ms bytes ≡ total → move_at tree ms bytes ≡ Ok (more, behind)
    → more_at (count more) behind ≡ Ok (t, others) → cond t (moves_at tree (k - 1) more others) (Ok (more, others)) ≡ total
goes_on t tree k ms more bytes behind others total lt so_far h f =
    let e : moves_at tree k ms bytes ≡ cond t (moves_at tree (k - 1) more others) (Ok (more, others)) =
    moves_step tree k ms more bytes behind lt h ∙ rw f refl in
    sym e ∙ so_far

-- where another move follows, there is room for it
abbrev flag : Bool → Read Bool → Bool
flag d (Ok x) = x.0
flag d (Err e) = d

not_more : (bytes others left : List ℕ) (s t : Bool) → cond {A = Read Bool} s (Ok (false, bytes)) (cond {A =
    Read Bool} (t && false) (Ok (true, bytes)) (Err (Syntax, left))) ≡ Ok (true, others) → ⊥
not_more bytes others left true t h = false≢true (ap (flag false) h)
not_more bytes others left false true h = absurd cc
not_more bytes others left false false h = absurd cc

pub more_room : (moves : ℕ) (bytes others : List ℕ) → more_at moves bytes ≡ Ok (true, others) → moves < 26
unfolding more_at
more_room moves [] others h = absurd cc
more_room moves (b ∷ bytes) others h =
    elim (cases_Bool (ltb moves 26)) [
      | inl lt ↦ ltb-true moves 26 lt
      | inr ge ↦ absurd (not_more bytes others (b ∷ bytes) (eqb b 93) (eqb b 44) (rw ge at h))
    ]

pub pushed_long : (ms new : List Move) (m : Move) → new ≡ ms ++ m ∷ [] → length new ≡ length ms + 1
pushed_long ms new m h = omega (arith, ap (λ (x : List Move). length x) h, length-append ms (m ∷ []))

-- a pushed move, and what is read behind it
pub record Pushed (tree : List ℕ → Read Bet) (ms new : List Move) (bytes behind : List ℕ) (total : Read Moves) : Type 0 where
  pub room : length ms < 26
  pub so_far : moves_at tree (26 - length ms) (plain_moves ms) bytes ≡ total
  pub next : move_at tree (plain_moves ms) bytes ≡ Ok (plain_moves new, behind)

pub pushed_fails : (e : ReadError) (tree : List ℕ → Read Bet) (ms new : List Move) (bytes behind : List ℕ) (total : Read Moves)
    → Pushed tree ms new bytes behind total → Fails e (more_at (length new) behind) → Fails e total
pushed_fails e tree ms new bytes behind total p h =
    let k : 0 < 26 - length ms = omega (arith, p.room) in
    fails_behind e tree (26 - length ms) (plain_moves ms) (plain_moves new) bytes behind total k p.so_far p.next (rw count_plain h)

pub pushed_ends : (tree : List ℕ → Read Bet) (ms new : List Move) (bytes behind others : List ℕ) (total : Read Moves) → Pushed tree ms new bytes behind total
    → more_at (length new) behind ≡ Ok (false, others) → total ≡ Ok (plain_moves new, others)
pushed_ends tree ms new bytes behind others total p h =
    let k : 0 < 26 - length ms = omega (arith, p.room) in
    sym (goes_on false tree (26 - length ms) (plain_moves ms) (plain_moves new) bytes behind others total k p.so_far p.next (rw count_plain h))

pub pushed_goes : (tree : List ℕ → Read Bet) (ms new : List Move) (bytes behind others : List ℕ) (total : Read Moves) → Pushed tree ms new bytes behind total
    → length new ≡ length ms + 1 → more_at (length new) behind ≡ Ok (true, others)
    → moves_at tree (26 - length new) (plain_moves new) others ≡ total
pushed_goes tree ms new bytes behind others total p len h =
    let k : 0 < 26 - length ms = omega (arith, p.room) in
    let left : 26 - length ms - 1 ≡ 26 - length new = omega (arith, len) in
    rw left at (goes_on true tree (26 - length ms) (plain_moves ms) (plain_moves new) bytes behind others total k p.so_far p.next (rw count_plain h))
