-- Sums modulo 2^32 over the places of one board: both walks give what each signal on the board is paid. Then the same board by board.
use Rattle.std.proofs.Common.{◌≡◌, ◌+◌, ◌*◌, ◌/◌, ◌%◌, ◌^◌, ◌-◌, ◌<◌, ◌≤◌, ◌∙◌, ℕ, ℤ, pos, negsuc, true, false, cond, List, [], drop, get_or, length, map, take}
use Rattle.std.proofs.{Common.{refl, sym, ap, arith, ⊎_elim}, Math.Nat.{add-mul-mod_self_right}, lemmas.Int.{int_rem_euclid_is, ints}}
use Rattle.std.proofs.lemmas.{Bool.{cases_eq}, Bool.Decides.{Decides-eqb}, List.{length-map}, List.Elements.{All-nil}, List.FromFn.{length-range_with_len}}
use Rattle.std.proofs.lemmas.List.{Sorted.{length_permutation}, Sums.{count_by-le-length, length-filter}}
use Rattle.std.specs.{Prelude.{◌==◌, ◌+ℤ◌, All}, List.{range_with_len}, List.Sorted.{IsNonDecreasingBy, IsPermutation}}
use Rattle.gs_model.specs.Game.{Game}
use Rattle.gs_tree.specs.{Boards.{AreBoards, signals_on}, Plain.{IsPlain}, Walk.{last_count, shows_same}}
use Rattle.gs_boards.specs.{Boards.{IsFirstOn, IsPlace, deal_remainder, paid, remainder}, Places.{AreInOrder}, Runs.{paid_by}}
use Rattle.gs_boards.specs.{declared.pays.Pays.TheVariants.{Showdown}, declared.place.Place.{Place}}
use Rattle.gs_boards.proofs.{Deals.{place_paid}, Once.{of_signal, one_passes, places_of}, Placed.{AreOnBoard, in_order, on_board}}
use Rattle.gs_boards.proofs.Telling.{first_of_none, first_shows}

-- ---- remainders

-- an integer plus a multiple of 2^32 is a natural number
record IsLifted (z : ℤ) : Type 0 where
  times : ℕ
  sum : ℕ
  is : z +ℤ pos (times * 2 ^ 32) ≡ pos sum

lifted : (z : ℤ) → IsLifted z
lifted (pos a) = record { times = 0; sum = a; is = omega (arith, ints) }
lifted (negsuc a) = record { times = a + 1; sum = (a + 1) * (2 ^ 32 - 1); is = omega (arith, ints) }

by_lift : (z : ℤ) (k m : ℕ) → z +ℤ pos (k * 2 ^ 32) ≡ pos m → remainder z ≡ pos (m % 2 ^ 32)
by_lift z k m e = int_rem_euclid_is z (pos (2 ^ 32)) (2 ^ 32) k m (omega arith) refl e

-- a summand may be folded first
pub remainder_folded : (a b : ℤ) → remainder (remainder a +ℤ b) ≡ remainder (a +ℤ b)
remainder_folded a b =
    let x = lifted a in
    let y = lifted b in
    let r : ℕ = x.sum % 2 ^ 32 in
    let q : ℕ = x.sum / 2 ^ 32 in
    let here = by_lift a x.times x.sum x.is in
    let left = by_lift (pos r +ℤ b) y.times (r + y.sum) (omega (arith, ints, y.is)) in
    let right = by_lift (a +ℤ b) (x.times + y.times) (r + y.sum + q * 2 ^ 32) (omega (arith, ints, x.is, y.is)) in
    ap (λ z. remainder (z +ℤ b)) here ∙ left ∙ ap pos (sym (add-mul-mod_self_right (r + y.sum) q (2 ^ 32))) ∙ sym right

-- ---- a board

-- the places of one board in order
pub record AreSorted (g : Game) (first : ℕ) (board : List Place) : Type 0 where
  pub on : AreOnBoard g first board
  pub order : AreInOrder board
  pub few : length board ≤ last_count g

pub are_sorted : (g : Game) (n : ℕ) → IsFirstOn g n n → (made board : List Place) → All (IsPlace g) made
    → map (λ (p : Place). p.signal) made ≡ signals_on g n → IsPermutation made board → IsNonDecreasingBy (λ (p : Place). p.strength) board
    → AreSorted g n board
are_sorted g n first made board each all moved rising =
    let on = on_board g n first made board each all moved in
    let all_signals : List ℕ = range_with_len 0 (last_count g) in
    record {
      on = on;
      order = in_order n [] board (λ i j d le l. absurd (omega arith)) (All-nil (λ (p : Place). p.board < n)) on.here rising;
      few = omega (
        arith,
        length_permutation made board moved,
        length-map made (λ (p : Place). p.signal),
        ap length all,
        length-filter (shows_same g n) all_signals,
        count_by-le-length (shows_same g n) all_signals,
        length-range_with_len 0 (last_count g),
      );
    }

-- what the walk up has written for each place
abbrev pub AreFoldedBefore : List ℕ → List ℕ → List Place → Type 0
AreFoldedBefore numbers sums board =
    (n : ℕ) (d : Place) → n < length board → pos (get_or sums (get_or board n d).signal 0)
    ≡ remainder (paid_by (Showdown 1) numbers (get_or board n d) (take n board))

-- what the walk down has added for each place
abbrev pub AreFoldedBehind : List ℕ → List ℕ → List ℕ → List Place → Type 0
AreFoldedBehind numbers sums more board =
    (n : ℕ) (d : Place) → n < length board → pos (get_or more (get_or board n d).signal 0)
    ≡ remainder (pos (get_or sums (get_or board n d).signal 0) +ℤ paid_by (Showdown 1) numbers (get_or board n d) (drop (n + 1) board))

module _ (g : Game) (first : ℕ) (board : List Place) (on : AreOnBoard g first board) where
  -- no place of the board is of a signal that shows other cards
  pub no_place : (s : ℕ) → s < last_count g → shows_same g first s ≡ false → All (λ (p : Place). p.signal ≡ s → ⊥) board
  no_place s l other i d in' is =
      let none = on.whole.once.once s l ∙ ap (λ b. cond {A = ℕ} b 1 0) other in
      let some = one_passes (λ (p : Place). p.signal == s) board i d in' ((Decides-eqb (get_or board i d).signal s).1 is) in
      absurd (omega (arith, none, some))

  -- both walks give what each signal on the board is paid
  pub both_folded : IsPlain g → (numbers sums more : List ℕ) → AreFoldedBefore numbers sums board → AreFoldedBehind numbers sums more board
      → (s : ℕ) → s < last_count g → shows_same g first s ≡ true → pos (get_or more s 0) ≡ deal_remainder g numbers s
  both_folded plain numbers sums more up down s l same =
      let one : places_of s board ≡ 1 = on.whole.once.once s l ∙ ap (λ b. cond {A = ℕ} b 1 0) same in
      of_signal (λ s. pos (get_or more s 0) ≡ deal_remainder g numbers s) board s one (λ n d in'.
      let p : Place = get_or board n d in
      let before : ℤ = paid_by (Showdown 1) numbers p (take n board) in
      let behind : ℤ = paid_by (Showdown 1) numbers p (drop (n + 1) board) in
      down n d in' ∙ ap (λ z. remainder (z +ℤ behind)) (up n d in') ∙ remainder_folded before behind
      ∙ sym (ap remainder (place_paid g plain numbers (paid (Showdown 1)) (shows_same g first) board on.whole n d in')))

-- ---- board by board

-- the signals whose first one is before signal `n` have their sums
pub record AreDoneBefore (g : Game) (firsts numbers : List ℕ) (n : ℕ) (sums : List ℕ) : Type 0 where
  pub long : length sums ≡ last_count g
  each : (s : ℕ) → s < last_count g → get_or firsts s 0 < n → pos (get_or sums s 0) ≡ deal_remainder g numbers s

module _ (g : Game) (firsts nexts : List ℕ) (boards : AreBoards g firsts nexts) (numbers : List ℕ) where
  pub none_done : (sums : List ℕ) → length sums ≡ last_count g → AreDoneBefore g firsts numbers 0 sums
  none_done sums long = record { long = long; each = λ s l b. absurd (omega arith) }

  -- a signal that is not the first on its board is passed over
  pub none_more_done : (n : ℕ) (sums : List ℕ) → (get_or firsts n 0 ≡ n → ⊥) → AreDoneBefore g firsts numbers n sums
      → AreDoneBefore g firsts numbers (n + 1) sums
  none_more_done n sums other are = record {
    long = are.long;
    each = λ s l b.
        (let not_here : get_or firsts s 0 ≡ n → ⊥ = first_of_none boards n other s l in
        are.each s l (omega (arith, b, not_here)));
  }

  pub board_done : (n : ℕ) → n < last_count g → get_or firsts n 0 ≡ n → (old new : List ℕ) → length new ≡ length old
      → ((s : ℕ) → s < last_count g → shows_same g n s ≡ true → pos (get_or new s 0) ≡ deal_remainder g numbers s)
      → ((s : ℕ) → s < last_count g → shows_same g n s ≡ false → get_or new s 0 ≡ get_or old s 0)
      → AreDoneBefore g firsts numbers n old → AreDoneBefore g firsts numbers (n + 1) new
  board_done n l own old new long here others are = record {
    long = long ∙ are.long;
    each = λ s in' b.
        (let shows = first_shows boards n l own s in' in
        ⊎_elim
        (λ (e : get_or firsts s 0 ≡ n). here s in' (shows.0 e))
        (λ (ne : get_or firsts s 0 ≡ n → ⊥). ap pos (others s in' (shows.1 ne)) ∙ are.each s in' (omega (arith, b, ne)))
        (cases_eq (get_or firsts s 0) n));
  }

  pub all_done : (n : ℕ) (sums : List ℕ) → last_count g ≤ n → AreDoneBefore g firsts numbers n sums → (s : ℕ) → s < last_count g
      → pos (get_or sums s 0) ≡ deal_remainder g numbers s
  all_done n sums whole are s l = are.each s l (omega (arith, whole, boards.first_in s l))
