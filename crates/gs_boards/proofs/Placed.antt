-- Places listed board by board are the places of a game in order.
use Rattle.std.proofs.Common.{◌≡◌, ◌+◌, ◌-◌, ◌<◌, ◌≤◌, ◌∙◌, ℕ, pos, Bool, true, false, cond, count_by, nat_lt, List, [], ◌∷◌, ◌++◌, get_or, length}
use Rattle.std.proofs.{Common.{map, sum_by, refl, sym, ap, arith, true≢false, ⊎_elim}, lemmas.Bool.{cases_eq, cases_lt, le-ltb, lt-ltb}}
use Rattle.std.proofs.lemmas.Bool.Decides.{Decides-eqb}
use Rattle.std.proofs.{lemmas.List.{get_or_append_left, get_or-append_right, length-append}, lemmas.List.Elements.{All-append, All-nil, All-weaker}}
use Rattle.std.proofs.lemmas.List.FromFn.{length-range_with_len}
use Rattle.std.proofs.{lemmas.List.Sorted.{All-permutation, sum_by-IsPermutation}, lemmas.List.Sums.{sum_by-append, sum_by-cons}}
use Rattle.std.specs.{Prelude.{◌==◌, All, filter}, List.{range_with_len}, List.Sorted.{IsNonDecreasingBy, IsPermutation}}
use Rattle.gs_model.specs.{Game.{Game}}
use Rattle.gs_model.proofs.{Basics.{pos-injective, sum-ones}, RawBound.{range_once}, Regroup.{sum_z-pos}}
use Rattle.gs_tree.specs.{Boards.{AreBoards, signals_on}, Walk.{last_count, shows_same}}
use Rattle.gs_boards.specs.{Boards.{ArePlaces, IsFirstOn, IsPlace}, Places.{AreInOrder, IsNoLater}, declared.place.Place.{Place}}
use Rattle.gs_boards.proofs.{Deals.{AreWhole}, Once.{AreOnce, by_signals, one_passes, over_places, places_of}}
use Rattle.gs_boards.proofs.Telling.{alike, first_here, first_of_none, first_shows, one_first}

-- ---- the order, with a later board behind

pub in_order : (n : ℕ) (places board : List Place) → AreInOrder places → All (λ (p : Place). p.board < n) places → All (λ (p : Place). p.board ≡ n) board
    → IsNonDecreasingBy (λ (p : Place). p.strength) board → AreInOrder (places ++ board)
in_order n places board order before here rising i j d le l = ⊎_elim
    (λ (j_left : j < length places).
    by_parts (get_or places i d) (get_or places j d) (left i (omega (arith, le, j_left))) (left j j_left) (order i j d le j_left))
    (λ (j_right : length places ≤ j).
    let k : ℕ = j - length places in
    let in' : k < length board = omega (arith, l, j_right, length-append places board) in
    ⊎_elim
    (λ (i_left : i < length places).
    let less : (get_or places i d).board < (get_or board k d).board = omega (arith, before i d i_left, here k d in') in
    by_parts (get_or places i d) (get_or board k d) (left i i_left) (right j j_right)
    (record { board = omega (arith, less); strength = λ e. absurd (omega (arith, less, e)) }))
    (λ (i_right : length places ≤ i).
    let h : ℕ = i - length places in
    let up : h ≤ k = omega (arith, le, i_right) in
    let same : (get_or board h d).board ≡ (get_or board k d).board = omega (arith, here h d (omega (arith, up, in')), here k d in') in
    by_parts (get_or board h d) (get_or board k d) (right i i_right) (right j j_right)
    (record { board = omega (arith, same); strength = λ e. rising h k d up in' }))
    (cases_lt i (length places)))
    (cases_lt j (length places))
  where
    left : (k : ℕ) → k < length places → get_or (places ++ board) k d ≡ get_or places k d
    left k in' = get_or_append_left places board d k in'

    right : (k : ℕ) → length places ≤ k → get_or (places ++ board) k d ≡ get_or board (k - length places) d
    right k past = get_or-append_right places board (length places) k d refl past

    by_parts : (p q : Place) → get_or (places ++ board) i d ≡ p → get_or (places ++ board) j d ≡ q → IsNoLater p q
        → IsNoLater (get_or (places ++ board) i d) (get_or (places ++ board) j d)
    by_parts p q e f h = rw (e, f) h

-- ---- how often a signal is listed

-- what a test keeps of a list has a number as often as the list, if the number passes
kept : (p : ℕ → Bool) (s : ℕ) (xs : List ℕ) → count_by (λ x. s == x) (filter p xs) ≡ cond (p s) (count_by (λ x. s == x) xs) 0
kept p s [] = by (p s)
  where
    by : (b : Bool) → 0 ≡ cond {A = ℕ} b 0 0
    by true = refl
    by false = refl
kept p s (x ∷ xs) = go (p x) (s == x) (p s) refl refl refl (kept p s xs)
  where
    counted : ℕ
    counted = count_by (λ y. s == y) xs

    put : (rest : List ℕ) → count_by (λ y. s == y) (x ∷ rest) ≡ cond {A = ℕ} (s == x) 1 0 + count_by (λ y. s == y) rest
    put rest = sum_by-cons (λ y. cond {A = ℕ} (s == y) 1 0) x rest

    before : (u : Bool) → p s ≡ u → count_by (λ y. s == y) (filter p xs) ≡ cond (p s) counted 0 → count_by (λ y. s == y) (filter p xs) ≡ cond u counted 0
    before u e k = k ∙ ap (λ u. cond u counted 0) e

    go : (b t u : Bool) → p x ≡ b → (s == x) ≡ t → p s ≡ u → count_by (λ y. s == y) (filter p xs) ≡ cond (p s) counted 0
        → count_by (λ y. s == y) (cond b (x ∷ filter p xs) (filter p xs)) ≡ cond u (count_by (λ y. s == y) (x ∷ xs)) 0
    go true true true e f h k = omega (arith, put (filter p xs), put xs, before true h k)
    go true true false e f h k = absurd (let same : p s ≡ p x = ap p ((Decides-eqb s x).0 f) in cc)
    go true false true e f h k = omega (arith, put (filter p xs), put xs, before true h k)
    go true false false e f h k = omega (arith, put (filter p xs), before false h k, ap (λ b. cond {A = ℕ} b 1 0) f)
    go false true true e f h k = absurd (let same : p s ≡ p x = ap p ((Decides-eqb s x).0 f) in cc)
    go false true false e f h k = before false h k
    go false false true e f h k = omega (arith, put xs, before true h k, ap (λ b. cond {A = ℕ} b 1 0) f)
    go false false false e f h k = before false h k

-- one board more
added : (f n : ℕ) (same : Bool) → (f ≡ n → same ≡ true) → ((f ≡ n → ⊥) → same ≡ false)
    → cond {A = ℕ} (nat_lt f n) 1 0 + cond {A = ℕ} same 1 0 ≡ cond {A = ℕ} (nat_lt f (n + 1)) 1 0
added f n same own others = ⊎_elim
    (λ (e : f ≡ n). omega (arith, at (le-ltb f n (omega arith)), at (own e), at (lt-ltb f (n + 1) (omega arith))))
    (λ (other : f ≡ n → ⊥). ⊎_elim
    (λ (l : f < n). omega (arith, at (lt-ltb f n l), at (others other), at (lt-ltb f (n + 1) (omega arith))))
    (λ (l : n ≤ f). omega (arith, at (le-ltb f n l), at (others other), at (le-ltb f (n + 1) (omega arith))))
    (cases_lt f n))
    (cases_eq f n)
  where
    at : {a b : Bool} → a ≡ b → cond {A = ℕ} a 1 0 ≡ cond {A = ℕ} b 1 0
    at e = ap (λ t. cond {A = ℕ} t 1 0) e

passes : (b : Bool) → 0 < cond {A = ℕ} b 1 0 → b ≡ true
passes true l = refl
passes false l = absurd (omega arith)

-- ---- boards

-- the places of one board, all of them
pub record AreOnBoard (g : Game) (first : ℕ) (board : List Place) : Type 0 where
  pub whole : AreWhole g (shows_same g first) board
  pub here : All (λ (p : Place). p.board ≡ first) board

pub on_board : (g : Game) (n : ℕ) → IsFirstOn g n n → (made board : List Place) → All (IsPlace g) made
    → map (λ (p : Place). p.signal) made ≡ signals_on g n → IsPermutation made board → AreOnBoard g n board
on_board g n first made board each all moved = record {
  whole = record {
    each = each_here;
    once = record { within = λ i d l. (each_here i d l).within; once = once };
    closed = λ i d l k e. sym (alike g n (get_or board i d).signal k (same i d l)) ∙ e;
  };
  here = λ i d l. sym (one_first g n (get_or board i d).signal n (get_or board i d).board first (each_here i d l).board (same i d l));
}
  where
    once : (s : ℕ) → s < last_count g → places_of s board ≡ cond {A = ℕ} (shows_same g n s) 1 0
    once s l =
        sum_by-IsPermutation (λ (p : Place). cond {A = ℕ} (p.signal == s) 1 0) made board moved
        ∙ by_signals s made ∙ ap (λ xs. count_by (λ x. s == x) xs) all ∙ kept (shows_same g n) s (range_with_len 0 (last_count g))
        ∙ ap (λ k. cond (shows_same g n s) k 0) (range_once s 0 (last_count g) (omega arith) (omega (arith, l)))

    each_here : All (IsPlace g) board
    each_here = All-permutation (IsPlace g) made board moved each

    same : All (λ (p : Place). shows_same g n p.signal ≡ true) board
    same i d l =
        let p : Place = get_or board i d in
        let some = one_passes (λ (q : Place). q.signal == p.signal) board i d l ((Decides-eqb p.signal p.signal).1 refl) in
        passes (shows_same g n p.signal) (omega (arith, some, once p.signal (each_here i d l).within))

module _ (g : Game) where
  -- the places of the boards whose first signals are before signal `n`
  pub record ArePlacedBefore (firsts : List ℕ) (n : ℕ) (places : List Place) : Type 0 where
    each : All (IsPlace g) places
    before : All (λ (p : Place). p.board < n) places
    once : (s : ℕ) → s < last_count g → places_of s places ≡ cond {A = ℕ} (nat_lt (get_or firsts s 0) n) 1 0
    order : AreInOrder places

  module _ (firsts nexts : List ℕ) (boards : AreBoards g firsts nexts) where
    pub none_placed : ArePlacedBefore firsts 0 []
    none_placed = record {
      each = All-nil (IsPlace g);
      before = All-nil (λ (p : Place). p.board < 0);
      once = λ s l. sym (ap (λ b. cond {A = ℕ} b 1 0) (le-ltb (get_or firsts s 0) 0 (omega arith)));
      order = λ i j d le l. absurd (omega arith);
    }

    -- a signal that is not the first on its board is passed over
    pub passed_over : (n : ℕ) (places : List Place) → (get_or firsts n 0 ≡ n → ⊥) → ArePlacedBefore firsts n places → ArePlacedBefore firsts (n + 1) places
    passed_over n places other are = record {
      each = are.each;
      before = All-weaker (λ (p : Place). p.board < n) (λ p. p.board < n + 1) (λ p l. omega (arith, l)) places are.before;
      once = λ s l.
          omega (
            arith,
            are.once s l,
            added (get_or firsts s 0) n false (λ e. absurd (first_of_none boards n other s l e)) (λ other. refl),
          );
      order = are.order;
    }

    -- the places of a board behind those of the boards before it
    pub board_placed : (n : ℕ) → n < last_count g → get_or firsts n 0 ≡ n → (made board : List Place) → All (IsPlace g) made
        → map (λ (p : Place). p.signal) made ≡ signals_on g n → IsPermutation made board → (places : List Place)
        → IsNonDecreasingBy (λ (p : Place). p.strength) board → ArePlacedBefore firsts n places → ArePlacedBefore firsts (n + 1) (places ++ board)
    board_placed n l own made board each all moved places rising are = record {
      each = All-append (IsPlace g) places board are.each on.whole.each;
      before = All-append (λ (p : Place). p.board < n + 1) places board
          (All-weaker (λ (p : Place). p.board < n) (λ p. p.board < n + 1) (λ p b. omega (arith, b)) places are.before)
          (All-weaker (λ (p : Place). p.board ≡ n) (λ p. p.board < n + 1) (λ p e. omega (arith, e)) board on.here);
      once = λ s in'.
          (let first = first_shows boards n l own s in' in
          omega (
            arith,
            sum_by-append (λ (p : Place). cond {A = ℕ} (p.signal == s) 1 0) places board,
            are.once s in',
            on.whole.once.once s in',
            added (get_or firsts s 0) n (shows_same g n s) first.0 first.1,
          ));
      order = in_order n places board are.order are.before on.here rising;
    }
      where
        on : AreOnBoard g n board
        on = on_board g n (first_here boards n l own) made board each all moved

    -- all boards
    pub all_placed : (n : ℕ) (places : List Place) → last_count g ≤ n → ArePlacedBefore firsts n places → ArePlaces g places
    all_placed n places whole are =
        let once : (s : ℕ) → s < last_count g → places_of s places ≡ 1 = λ s l. are.once s l
        ∙ ap (λ b. cond {A = ℕ} b 1 0) (lt-ltb (get_or firsts s 0) n (omega (arith, boards.first_in s l))) in
        let all : AreOnce (λ s. true) (last_count g) places = record { within = λ i d l. (are.each i d l).within; once = once } in
        let signals = over_places (λ s. pos 1) all (λ s e. absurd (true≢false e)) in
        let counted = pos-injective (sum_by (λ (s : ℕ). 1) (range_with_len 0 (last_count g))) (sum_by (λ (p : Place). 1) places)
        (sym (sum_z-pos (λ (s : ℕ). 1) (range_with_len 0 (last_count g))) ∙ signals ∙ sum_z-pos (λ (p : Place). 1) places) in
        record {
          long = sym (sum-ones places) ∙ sym counted ∙ sum-ones (range_with_len 0 (last_count g)) ∙ length-range_with_len 0 (last_count g);
          each = are.each;
          once = once;
          order = are.order;
        }
