-- Signals of one level and key, on boards with the same hands, are alike.
use Rattle.std.proofs.Common.{◌≡◌, ◌+◌, ◌*◌, ◌/◌, ◌%◌, ◌<◌, ◌≤◌, ◌∙◌, ℕ, ℤ, zero, suc, Bool, true, false, cond, eqb, nat_lt, List, ◌∷◌, get_or, map, refl, sym}
use Rattle.std.proofs.{Common.{ap, subst, arith}, lemmas.List.{ext_get_or, get_or-map, length-map}, lemmas.Nat.{div-mul-add, mod-mul-add}}
use Rattle.std.proofs.lemmas.List.Sorted.{IsPermutation-map, IsPermutation-sym, IsPermutation-trans, sum_by-IsPermutation}
use Rattle.std.specs.{Prelude.{◌&&◌, filter, length}, List.{range_with_len}, List.Sorted.{IsPermutation}}
use Rattle.gs_model.specs.{Deals.{Deal}, Game.{Game, round_count}, Outcome.{outcome}, Signals.{signal_at}, ViewTree.{signal_strength}}
use Rattle.gs_model.proofs.Multisets.{permuted_from_times, times, times-cons}
use Rattle.gs_tree.specs.{Boards.{signals_on}, Walk.{deal_at, last_count, shows_same}, Plain.{IsPlain}}
use Rattle.gs_tree.proofs.{Pairs.{row_deals}, Same.{public_self}, Weighed.{path_is, weight_is}}
use Rattle.gs_lossless.specs.{Alike.{AreAlike, seen, seen_by}, Boards.{IsBoard, level_of, levels_in, seat_signals}, Hands.{AreHands, IsMark}}
use Rattle.gs_lossless.specs.{declared.board.Board.{Board}, declared.board.Seat.{Seat}}
use Rattle.gs_lossless.proofs.{Ranks.{TellOutcomes, tell}, Seats.{none}, Taken.{but, taken_out}}

-- one element less of each
cancelled : (x : ℕ) (xs ys : List ℕ) → IsPermutation (x ∷ xs) (x ∷ ys) → IsPermutation xs ys
cancelled x xs ys h = permuted_from_times xs ys (λ v.
    let f : ℕ → ℕ = λ y. cond (eqb y v) 1 0 in
    let e : times v (x ∷ ys) ≡ times v (x ∷ xs) = sum_by-IsPermutation f (x ∷ xs) (x ∷ ys) h in
    omega (arith, e, times-cons v x xs, times-cons v x ys))

-- the number of a hand
abbrev hand_in : List ℕ → (ℕ → ℕ) → ℕ → ℕ
hand_in keys level i = level i * 4294967296 + get_or keys i 0

module _ (g : Game) (keys : List ℕ) (few : (i : ℕ) → i < last_count g → get_or keys i 0 < 4294967296) (level : ℕ
    → ℕ) (plain : IsPlain g) (told : TellOutcomes g level) where
  abbrev hand : ℕ → ℕ
  hand = hand_in keys level

  -- what a deal is to the player of a level against a hand
  abbrev sight : ℕ → ℕ → ℕ × ℤ × ℕ
  sight mine other = (other % 4294967296, told.pays mine (other / 4294967296), 1)

  level_of_hand : (i : ℕ) → i < last_count g → hand i / 4294967296 ≡ level i
  level_of_hand i l = div-mul-add (level i) 4294967296 (get_or keys i 0) (few i l)

  key_of_hand : (i : ℕ) → i < last_count g → hand i % 4294967296 ≡ get_or keys i 0
  key_of_hand i l = mod-mul-add (level i) 4294967296 (get_or keys i 0) (few i l)

  deal_seen : (i k : ℕ) → i < last_count g → k < last_count g → shows_same g i k ≡ true → (deal_at g i k).weight ≡ 1
      → seen_by keys (deal_at g i k) ≡ sight (level i) (hand k)
  deal_seen i k l m same w =
      triple (get_or keys k 0) (hand k % 4294967296) (outcome g.bonus g.ranking (signal_strength g (signal_at g (round_count g) i))
      (signal_strength g (signal_at g (round_count g) k)))
      (told.pays (level i) (hand k / 4294967296)) (deal_at g i k).weight 1 (sym (key_of_hand k m))
      (told.paid i k l m same ∙ ap (told.pays (level i)) (sym (level_of_hand k m))) w
    where
      triple : (a b : ℕ) (x y : ℤ) (v w : ℕ) → a ≡ b → x ≡ y → v ≡ w → (let t : ℕ × ℤ × ℕ = (a, x, v) in t) ≡ (let t : ℕ × ℤ × ℕ = (b, y, w) in t)
      triple a b x y v w p q r = cc

  -- the deals of a run of pairs
  run_seen : (i : ℕ) → i < last_count g → (a n : ℕ) → a + n ≤ last_count g →
      map (seen_by keys) (filter (λ (d : Deal). nat_lt 0 d.weight) (map (deal_at g i) (range_with_len a n)))
      ≡ map (sight (level i)) (map hand (filter (but (shows_same g i) i) (range_with_len a n)))
  run_seen i l a zero h = refl
  run_seen i l a (suc n) h =
      go (but (shows_same g i) i a) (λ e. (both (shows_same g i a) (cond (eqb a i) false true) e)) (weight_is g plain i a l (omega arith))
      (run_seen i l (a + 1) n (omega arith))
    where
      deals' : List Deal
      deals' = filter (λ (d : Deal). nat_lt 0 d.weight) (map (deal_at g i) (range_with_len (a + 1) n))

      places : List ℕ
      places = filter (but (shows_same g i) i) (range_with_len (a + 1) n)

      both : (p q : Bool) → (p && q) ≡ true → p ≡ true
      both true q e = refl
      both false q e = absurd (cc)

      go : (b : Bool) → (b ≡ true → shows_same g i a ≡ true) → (deal_at g i a).weight ≡ cond b 1 0
          → map (seen_by keys) deals' ≡ map (sight (level i)) (map hand places)
          → map (seen_by keys) (cond (nat_lt 0 (deal_at g i a).weight) (deal_at g i a ∷ deals') deals')
          ≡ map (sight (level i)) (map hand (cond b (a ∷ places) places))
      go true same w r =
          ap (λ (x : ℕ). map (seen_by keys) (cond (nat_lt 0 x) (deal_at g i a ∷ deals') deals')) w
          ∙ ap (λ x. x ∷ map (seen_by keys) deals') (deal_seen i a l (omega arith) (same refl) w)
          ∙ ap (λ xs. sight (level i) (hand a) ∷ xs) r
      go false same w r = ap (λ (x : ℕ). map (seen_by keys) (cond (nat_lt 0 x) (deal_at g i a ∷ deals') deals')) w ∙ r

  -- the hands beside a signal
  abbrev others : ℕ → List ℕ
  others i = map hand (filter (but (shows_same g i) i) (range_with_len 0 (last_count g)))

  seen_is : (i : ℕ) → i < last_count g → seen g keys i ≡ map (sight (level i)) (others i)
  seen_is i l = ap (map (seen_by keys)) (row_deals g i l) ∙ run_seen i l 0 (last_count g) (omega arith)

  others_are : (i : ℕ) → i < last_count g → IsPermutation (map hand (signals_on g i)) (hand i ∷ others i)
  others_are i l = taken_out (shows_same g i) hand i 0 (last_count g) (public_self (signal_at g (round_count g) i)) (omega arith) (omega arith)

  -- a signal of the same hand, on a board of the same hands, is alike
  pub place_is : (i r : ℕ) → i < last_count g → r < last_count g → IsPermutation (map hand (signals_on g r)) (map hand (signals_on g i)) → hand r ≡ hand i
      → AreAlike g keys i r
  place_is i r l m board same =
      let strong : level i ≡ level r = sym (level_of_hand i l) ∙ ap (λ (h : ℕ). h / 4294967296) (sym same) ∙ level_of_hand r m in
      let mine = others_are i l in
      let his = others_are r m in
      let both : IsPermutation (hand i ∷ others i) (hand r ∷ others r) =
      IsPermutation-trans (hand i ∷ others i) (map hand (signals_on g i)) (hand r ∷ others r)
      (IsPermutation-sym (map hand (signals_on g i)) (hand i ∷ others i) mine)
      (IsPermutation-trans (map hand (signals_on g i)) (map hand (signals_on g r)) (hand r ∷ others r)
      (IsPermutation-sym (map hand (signals_on g r)) (map hand (signals_on g i)) board) his) in
      let Q : ℕ → Type 0 = λ h. IsPermutation (hand i ∷ others i) (h ∷ others r) in
      let left : IsPermutation (others i) (others r) = cancelled (hand i) (others i) (others r) (subst Q same both) in
      let mapped = IsPermutation-map (sight (level i)) (others i) (others r) left in
      let R : List (ℕ × ℤ × ℕ) → Type 0 = λ x. IsPermutation x (seen g keys r) in
      let S : List (ℕ × ℤ × ℕ) → Type 0 = λ x. IsPermutation (map (sight (level i)) (others i)) x in
      let there : map (sight (level i)) (others r) ≡ seen g keys r = ap (λ s. map (sight s) (others r)) strong ∙ sym (seen_is r m) in
      record {
        key = sym (key_of_hand i l) ∙ ap (λ (h : ℕ). h % 4294967296) (sym same) ∙ key_of_hand r m;
        path = path_is g plain i l ∙ sym (path_is g plain r m);
        deals = subst R (sym (seen_is i l)) (subst S there mapped);
      }

-- the hands of a board's signals
hands_are : (g : Game) (by_rank : Bool) (keys : List ℕ) (board : Board) (hands : List ℕ) → IsBoard g by_rank board → AreHands board keys hands
    → hands ≡ map (hand_in keys (level_of g by_rank)) (seat_signals board.seats.items)
hands_are g by_rank keys board hands b h =
    let sigs : List ℕ = seat_signals board.seats.items in
    let f : ℕ → ℕ = hand_in keys (level_of g by_rank) in
    let long : length sigs ≡ length board.seats.items = length-map board.seats.items (λ (s : Seat). s.signal) in
    ext_get_or 0 hands (map f sigs) (h.long ∙ sym long ∙ sym (length-map sigs f)) (λ i l.
    let m : i < length sigs = omega (arith, l, h.long, long) in
    let level : get_or (levels_in board.seats.items) i 0 ≡ level_of g by_rank (get_or sigs i 0) =
    ap (λ (xs : List ℕ). get_or xs i 0) b.levels ∙ get_or-map (level_of g by_rank) sigs i 0 0 m in
    h.each i (omega (arith, m, long)) ∙ ap (λ (v : ℕ). v * 4294967296 + get_or keys (get_or sigs i 0) 0) level ∙ sym (get_or-map f sigs i 0 0 m))

-- the hands on the board of one of its signals
hands_there : (g : Game) (by_rank : Bool) (keys : List ℕ) (board : Board) (hands : List ℕ) (one i : ℕ) → IsBoard g by_rank board → AreHands board keys hands
    → one < length (seat_signals board.seats.items) → get_or (seat_signals board.seats.items) one 0 ≡ i
    → IsPermutation (map (hand_in keys (level_of g by_rank)) (signals_on g i)) hands × (i < last_count g)
    × (get_or hands one 0 ≡ hand_in keys (level_of g by_rank) i)
hands_there g by_rank keys board hands one i b h l is =
    let sigs : List ℕ = seat_signals board.seats.items in
    let f : ℕ → ℕ = hand_in keys (level_of g by_rank) in
    let m : one < length board.seats.items = omega (arith, l, length-map board.seats.items (λ (s : Seat). s.signal)) in
    let e : hands ≡ map f sigs = hands_are g by_rank keys board hands b h in
    let same : IsPermutation (signals_on g i) sigs = permuted_from_times (signals_on g i) sigs (subst (λ (k : ℕ). (v : ℕ)
    → times v (signals_on g k) ≡ times v sigs) is (b.signals one m)) in (
      subst (IsPermutation (map f (signals_on g i))) (sym e) (IsPermutation-map f (signals_on g i) sigs same),
      subst (λ (k : ℕ). k < last_count g) (sym (get_or-map (λ (s : Seat). s.signal) board.seats.items one none 0 m) ∙ is) (b.within one none m),
      ap (λ (xs : List ℕ). get_or xs one 0) e ∙ get_or-map f sigs one 0 0 l ∙ ap f is,
    )

-- a mark is alike
pub mark_alike : (g : Game) (by_rank : Bool) (keys : List ℕ) → ((i : ℕ) → i < last_count g → get_or keys i 0 < 4294967296)
    → (board other : Board) (hands other_hands : List ℕ)
    → IsBoard g by_rank board → IsBoard g by_rank other → AreHands board keys hands → AreHands other keys other_hands → IsPermutation other_hands hands
    → (i mark : ℕ) → IsMark (seat_signals board.seats.items) hands (seat_signals other.seats.items) other_hands i mark → AreAlike g keys i mark
mark_alike g by_rank keys few board other hands other_hands b o h k moved i mark m =
    let f : ℕ → ℕ = hand_in keys (level_of g by_rank) in
    let mine = hands_there g by_rank keys board hands m.one i b h m.one_in m.signal_is in
    let his = hands_there g by_rank keys other other_hands m.two mark o k m.two_in m.mark_is in
    let all : IsPermutation (map f (signals_on g mark)) (map f (signals_on g i)) =
    IsPermutation-trans (map f (signals_on g mark)) other_hands (map f (signals_on g i)) his.0
    (IsPermutation-trans other_hands hands (map f (signals_on g i)) moved (IsPermutation-sym (map f (signals_on g i)) hands mine.0)) in
    place_is g keys few (level_of g by_rank) b.plain (tell g by_rank b.once) i mark mine.1 his.1 all (sym his.2 ∙ sym m.same ∙ mine.2)
