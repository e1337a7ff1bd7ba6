-- The walk keeps what each player has put: the ante and the chips of the moves so far.
use Rattle.std.proofs.{Common.{ℕ, ◌≡◌, ◌+◌, ◌==◌, [], ◌∷◌, ◌++◌, List, inl, inr, refl, arith}, lemmas.Bool.{cases_Bool}, lemmas.List.Sums.{sum_by_push}}
use Rattle.std.specs.Prelude.{if◌then◌else◌}
use Rattle.gs_model.specs.{Betting.{Bet, Moves, act, fold, even, none, move}, Positions.{End}}
use Rattle.gs_model.specs.Walk.{Place, Walked, after_move, fold_end, walk_moves, walk_rounds, walk_start, walk_tree}
use Rattle.gs_worked.specs.Puts.{Paid, PutChips, chips_one, chips_two, ways, ways_through, ways_of}

-- what both have put at a place, behind the moves so far
record HasPut (ante : ℕ) (p : Place) (before : List Paid) : Type 0 where
  one : p.put_one ≡ ante + chips_one before
  two : p.put_two ≡ ante + chips_two before

joined : (ante : ℕ) (xs ys : List End) (vs ws : List (List Paid)) → PutChips ante xs vs → PutChips ante ys ws → PutChips ante (xs ++ ys) (vs ++ ws)
joined ante [] ys [] ws h k = k
joined ante [] ys (v ∷ vs) ws h k = absurd h
joined ante (x ∷ xs) ys [] ws h k = absurd h
joined ante (x ∷ xs) ys (v ∷ vs) ws h k = (h.0, joined ante xs ys vs ws h.1 k)

-- a move puts its chips for its player, and nothing for the other
puts_one : (player point choice chips : ℕ) (p : Place) → (after_move player point choice chips p).put_one ≡ p.put_one + (if player == 1 then chips else 0)
puts_one player point choice chips p = elim (cases_Bool (player == 1)) [
  | inl e ↦ rw e refl
  | inr e ↦ rw e (omega arith)
]

puts_two : (player point choice chips : ℕ) (p : Place) → (after_move player point choice chips p).put_two ≡ p.put_two + (if player == 1 then 0 else chips)
puts_two player point choice chips p = elim (cases_Bool (player == 1)) [
  | inl e ↦ rw e (omega arith)
  | inr e ↦ rw e refl
]

moved : (ante : ℕ) (p : Place) (before : List Paid) (player point choice chips : ℕ) → HasPut ante p before
    → HasPut ante (after_move player point choice chips p) (before ++ record { player = player; chips = chips } ∷ [])
moved ante p before player point choice chips h =
    let m : Paid = record { player = player; chips = chips } in
    let one = sum_by_push (λ (m : Paid). if m.player == 1 then m.chips else 0) before m in
    let two = sum_by_push (λ (m : Paid). if m.player == 1 then 0 else m.chips) before m in
    let a = puts_one player point choice chips p in
    let b = puts_two player point choice chips p in
    record { one = omega arith; two = omega arith }

ended : (ante : ℕ) (p : Place) (before : List Paid) → HasPut ante p before → PutChips ante (fold_end p ∷ []) (before ∷ [])
ended ante p before h = elim (cases_Bool (p.last == 1)) [
  | inl e ↦ rw e (h.one, tt)
  | inr e ↦ rw e (h.two, tt)
]

abbrev GoesOn : ℕ → (Place → Walked) → (List Paid → List (List Paid)) → Type 0
GoesOn ante go_on on = (p : Place) (before : List Paid) → HasPut ante p before → PutChips ante (go_on p).ends (on before)

mutual
  in_tree : (ante : ℕ) (go_on : Place → Walked) (on : List Paid → List (List Paid)) → GoesOn ante go_on on → (t : Bet) (p : Place) (before : List Paid)
      → HasPut ante p before → PutChips ante (walk_tree go_on t p).ends (ways on before t)
  in_tree ante go_on on h (act player moves) p before k =
      in_moves ante go_on on h moves player p.point 0 (record p { point = p.point + 1 }) before (record { one = k.one; two = k.two })
  in_tree ante go_on on h fold p before k = ended ante p before k
  in_tree ante go_on on h even p before k = h p before k

  in_moves : (ante : ℕ) (go_on : Place → Walked) (on : List Paid → List (List Paid)) → GoesOn ante go_on on → (ms : Moves) (player point choice : ℕ)
      (p : Place) (before : List Paid) → HasPut ante p before → PutChips ante (walk_moves go_on ms player point choice p).walked.ends
      (ways_of on before player ms)
  in_moves ante go_on on h none player point choice p before k = tt
  in_moves ante go_on on h (move letter chips next moves) player point choice p before k =
      let here = after_move player point choice chips p in
      let first = walk_tree go_on next here in
      joined ante first.ends _ _ _ (in_tree ante go_on on h next here _ (moved ante p before player point choice chips k))
      (in_moves ante go_on on h moves player point (choice + 1) _ before (record { one = k.one; two = k.two }))

in_rounds : (ante : ℕ) (ts : List Bet) → GoesOn ante (walk_rounds ts) (ways_through ts)
in_rounds ante [] p before k = (k.one, tt)
in_rounds ante (t ∷ ts) p before k =
    in_tree ante (walk_rounds ts) (ways_through ts) (in_rounds ante ts) t (record p { round = p.round + 1 }) before (record { one = k.one; two = k.two })

pub puts_are_chips : (ante : ℕ) (trees : List Bet) → PutChips ante (walk_rounds trees (walk_start ante)).ends (ways_through trees [])
puts_are_chips ante trees = in_rounds ante trees (walk_start ante) [] (record { one = omega arith; two = omega arith })
