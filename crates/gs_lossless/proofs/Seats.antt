-- The signals on a board.
use Rattle.std.proofs.Common.{◌≡◌, ◌+◌, ◌<◌, ◌≤◌, ◌∙◌, ℕ, zero, suc, Bool, true, false, cond, eqb, nat_lt, List, [], ◌∷◌, get_or, length, map, refl, sym, ap}
use Rattle.std.proofs.{Common.{subst, arith}, lemmas.List.{get_or-map, length-map, map-id}, lemmas.Simd.{map-map}}
use Rattle.std.proofs.{lemmas.List.Elements.{All-cons, All-head, All-map, All-nil, All-tail, All-weaker}, lemmas.List.FromFn.{length-range_with_len}}
use Rattle.std.proofs.lemmas.List.Sorted.{All-permutation, IsPermutation-map, length_permutation, sum_by-IsPermutation}
use Rattle.std.proofs.lemmas.List.Sums.{count_by-le-length, length-filter}
use Rattle.std.specs.{Prelude.{filter, slice_index}, List.{All, range_with_len}, List.Sorted.{IsNonDecreasing, IsNonDecreasingBy, IsPermutation}}
use Rattle.gs_model.specs.{Game.{Game, round_count}, Signals.{signal_at}}
use Rattle.gs_model.proofs.Multisets.{times}
use Rattle.gs_tree.specs.{Boards.{signals_on}, Plain.{IsPlain}, Walk.{last_count, shows_same}}
use Rattle.gs_tree.proofs.Same.{public_alike, public_self}
use Rattle.gs_lossless.specs.Boards.{HaveSame, IsBoard, PaysOnce, level_of, levels_in, ranked, ranked_in, seat_of, seat_signals, smaller}
use Rattle.gs_lossless.specs.{Boards.{strengths_of}, declared.board.Board.{Board}, declared.board.Seat.{Seat}}

tests_alike : (p q : ℕ → Bool) → ((k : ℕ) → p k ≡ q k) → (xs : List ℕ) → filter p xs ≡ filter q xs
tests_alike p q h [] = refl
tests_alike p q h (x ∷ xs) = ap (λ b. cond b (x ∷ filter p xs) (filter p xs)) (h x) ∙ ap (λ l. cond (q x) (x ∷ l) l) (tests_alike p q h xs)

-- what passes a test in a run
on_board : (p : ℕ → Bool) (a n : ℕ) → All (λ s. (s < a + n) × (p s ≡ true)) (filter p (range_with_len a n))
on_board p a zero = All-nil (λ s. (s < a + zero) × (p s ≡ true))
on_board p a (suc n) =
    go (All-weaker (λ s. (s < a + 1 + n) × (p s ≡ true)) (λ s. (s < a + suc n)
    × (p s ≡ true)) (λ s h. (omega (arith, h.0), h.1)) (filter p (range_with_len (a + 1) n)) (on_board p (a + 1) n)) (p a) refl
  where
    go : All (λ s. (s < a + suc n) × (p s ≡ true)) (filter p (range_with_len (a + 1) n)) → (b : Bool) → p a ≡ b
        → All (λ s. (s < a + suc n) × (p s ≡ true)) (cond b (a ∷ filter p (range_with_len (a + 1) n)) (filter p (range_with_len (a + 1) n)))
    go rest true e = All-cons (λ s. (s < a + suc n) × (p s ≡ true)) a (filter p (range_with_len (a + 1) n)) (omega arith, e) rest
    go rest false e = rest

abbrev pub none : Seat
none = record { level = 0; signal = 0 }

-- ranks leave the signals
signals_kept : (by_rank : Bool) (seats : List Seat) → seat_signals (cond by_rank (ranked seats) seats) ≡ seat_signals seats
signals_kept true seats = map-map (λ (s : Seat). s.signal) (ranked_in seats) seats
signals_kept false seats = refl

levels_ranked : (by_rank : Bool) (seats : List Seat) → levels_in (cond by_rank (ranked seats) seats)
    ≡ cond by_rank (map (λ a. smaller a (levels_in seats)) (levels_in seats)) (levels_in seats)
levels_ranked true seats = map-map (λ (s : Seat). s.level) (ranked_in seats) seats
    ∙ sym (map-map (λ a. smaller a (levels_in seats)) (λ (s : Seat). s.level) seats)
levels_ranked false seats = refl

-- what holds of the signals holds of the seats
pub seats_within : (P : ℕ → Type 0) (seats : List Seat) → All P (seat_signals seats) → All (λ (s : Seat). P s.signal) seats
seats_within P seats all i d l =
    subst P (get_or-map (λ (s : Seat). s.signal) seats i d 0 l) (all i 0 (omega (arith, l, length-map seats (λ (s : Seat). s.signal))))

module _ (g : Game) where
  pub shown_back : (i k : ℕ) → shows_same g i k ≡ true → shows_same g k i ≡ true
  shown_back i k same =
      let r : ℕ = round_count g in sym (public_alike (signal_at g r i) (signal_at g r k) (signal_at g r i) same) ∙ public_self (signal_at g r i)

  -- signals that show the same are on one board
  pub one_board : (i first : ℕ) → shows_same g i first ≡ true → signals_on g i ≡ signals_on g first
  one_board i first e =
      tests_alike (shows_same g i) (shows_same g first)
      (λ k. public_alike (signal_at g (round_count g) i) (signal_at g (round_count g) first) (signal_at g (round_count g) k) e)
      (range_with_len 0 (last_count g))

  pub board_few : (i : ℕ) → length (signals_on g i) ≤ last_count g
  board_few i =
      let r : List ℕ = range_with_len 0 (last_count g) in
      let p : ℕ → Bool = shows_same g i in
      omega (arith, length-filter p r, count_by-le-length p r, length-range_with_len 0 (last_count g))

  strengths_are : (seats : List Seat) → All (λ s. s ≡ seat_of g s.signal) seats → levels_in seats ≡ map (slice_index (strengths_of g)) (seat_signals seats)
  strengths_are [] h = refl
  strengths_are (s ∷ seats) h =
      let P : Seat → Type 0 = λ s. s ≡ seat_of g s.signal in
      let e : s.level ≡ slice_index (strengths_of g) s.signal = ap (λ (x : Seat). x.level) (All-head P s seats h) in
      ap (λ v. v ∷ levels_in seats) e ∙ ap (λ l. slice_index (strengths_of g) s.signal ∷ l) (strengths_are seats (All-tail P s seats h))

  levels_are : (f h : ℕ → ℕ) (xs : List ℕ) → All (λ i. f i ≡ h i) xs → map f xs ≡ map h xs
  levels_are f h [] all = refl
  levels_are f h (x ∷ xs) all =
      let P : ℕ → Type 0 = λ i. f i ≡ h i in ap (λ v. v ∷ map f xs) (All-head P x xs all) ∙ ap (λ l. h x ∷ l) (levels_are f h xs (All-tail P x xs all))

  module _ (first : ℕ) (seats : List Seat) (moved : IsPermutation (map (seat_of g) (signals_on g first)) seats) where
    abbrev sigs : List ℕ
    sigs = seat_signals seats

    abbrev zs : List ℕ
    zs = levels_in seats

    abbrev On : ℕ → Type 0
    On = λ i. (i < last_count g) × (shows_same g first i ≡ true)

    sigs_moved : IsPermutation (signals_on g first) sigs
    sigs_moved =
        let e : map (λ (s : Seat). s.signal) (map (seat_of g) (signals_on g first)) ≡ signals_on g first =
        map-map (λ (s : Seat). s.signal) (seat_of g) (signals_on g first) ∙ map-id (signals_on g first) in
        subst (λ (l : List ℕ). IsPermutation l sigs) e (IsPermutation-map (λ (s : Seat). s.signal) (map (seat_of g) (signals_on g first)) seats moved)

    sigs_on : All On sigs
    sigs_on = All-permutation On (signals_on g first) sigs sigs_moved (All-weaker (λ i. (i < 0 + last_count g)
        × (shows_same g first i ≡ true)) On (λ i h. (omega (arith, h.0), h.1)) (signals_on g first) (on_board (shows_same g first) 0 (last_count g)))

    zs_are : zs ≡ map (slice_index (strengths_of g)) sigs
    zs_are = strengths_are seats (All-permutation (λ s. s ≡ seat_of g s.signal) (map (seat_of g) (signals_on g first)) seats moved
        (All-map (λ s. s ≡ seat_of g s.signal) (seat_of g) (signals_on g first) (λ k d l. refl)))

    rank_there : (i : ℕ) → On i → smaller (slice_index (strengths_of g) i) zs ≡ level_of g true i
    rank_there i on =
        let st : ℕ → ℕ = slice_index (strengths_of g) in
        ap (smaller (st i)) zs_are
        ∙ sum_by-IsPermutation (λ (x : ℕ). cond (nat_lt x (st i)) 1 0) (map st (signals_on g first)) (map st sigs)
        (IsPermutation-map st (signals_on g first) sigs sigs_moved)
        ∙ ap (λ l. smaller (st i) (map st l)) (one_board first i on.1)

    levels_by : (by_rank : Bool) → cond by_rank (map (λ a. smaller a zs) zs) zs ≡ map (level_of g by_rank) sigs
    levels_by false = zs_are
    levels_by true =
        ap (map (λ a. smaller a zs)) zs_are ∙ map-map (λ a. smaller a zs) (slice_index (strengths_of g)) sigs
        ∙ levels_are (λ i. smaller (slice_index (strengths_of g) i) zs) (level_of g true) sigs
        (All-weaker On (λ i. smaller (slice_index (strengths_of g) i) zs ≡ level_of g true i) rank_there sigs sigs_on)

    board_whole : (i : ℕ) → i < length sigs → HaveSame (signals_on g (slice_index sigs i)) sigs
    board_whole i l v =
        let on : On (get_or sigs i 0) = sigs_on i 0 l in
        ap (λ xs. times v xs) (sym (one_board first (get_or sigs i 0) on.1))
        ∙ sym (sum_by-IsPermutation (λ (x : ℕ). cond (eqb x v) 1 0) (signals_on g first) sigs sigs_moved)

    pub board_is : (by_rank : Bool) (board : Board) → IsPlain g → (by_rank ≡ true → PaysOnce g) → board.seats.items ≡ cond by_rank (ranked seats) seats
        → IsBoard g by_rank board
    board_is by_rank board plain once is =
        let signals : seat_signals board.seats.items ≡ sigs = ap seat_signals is ∙ signals_kept by_rank seats in
        let levels : levels_in board.seats.items ≡ cond by_rank (map (λ a. smaller a zs) zs) zs = ap levels_in is ∙ levels_ranked by_rank seats in
        let long : length board.seats.items ≡ length (seat_signals board.seats.items) = sym (length-map board.seats.items (λ (s : Seat). s.signal)) in
        let all : (i : ℕ) → i < length (seat_signals board.seats.items) → HaveSame (signals_on g (slice_index (seat_signals board.seats.items) i))
        (seat_signals board.seats.items) =
        subst (λ l. (i : ℕ) → i < length l → HaveSame (signals_on g (slice_index l i)) l) (sym signals) board_whole in
        record {
          plain = plain;
          once = once;
          within = seats_within (λ i. i < last_count g) board.seats.items
              (subst (All (λ i. i < last_count g)) (sym signals) (All-weaker On (λ i. i < last_count g) (λ i h. h.0) sigs sigs_on));
          signals = λ i l. all i (omega (arith, l, long));
          levels = levels ∙ levels_by by_rank ∙ ap (map (level_of g by_rank)) (sym signals);
        }

    pub seats_few : length seats ≤ last_count g
    seats_few = omega (
      arith,
      length_permutation (map (seat_of g) (signals_on g first)) seats moved,
      length-map (signals_on g first) (seat_of g),
      board_few first,
    )

-- the levels ascend with the seats
pub ascending_in : (seats : List Seat) → IsNonDecreasingBy (λ (s : Seat). s.level) seats → IsNonDecreasing (levels_in seats)
ascending_in seats up i j d le l =
    let f : Seat → ℕ = λ s. s.level in
    let m : j < length seats = omega (arith, l, length-map seats f) in
    let p : get_or (map f seats) i d ≡ f (get_or seats i none) = get_or-map f seats i none d (omega (arith, m, le)) in
    let q : get_or (map f seats) j d ≡ f (get_or seats j none) = get_or-map f seats j none d m in
    omega (arith, p, q, up i j none le m)
