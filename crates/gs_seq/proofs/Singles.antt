-- The row of a class of one signal is made of the signal's deals, and as many pairs are made as there are deals.
use Rattle.std.proofs.Common.{◌≡◌, ℕ, ℤ, pos, zero, suc, ◌+◌, ◌*◌, ◌<◌, ◌≤◌, Bool, true, false, cond, List, [], ◌∷◌, length, get_or, map, refl, sym, ap, ◌∙◌}
use Rattle.std.proofs.Common.{subst, arith, sum_by, count_by, eqb, nat_lt, ⊎_elim}
use Rattle.std.proofs.{Math.IntN.{+ℤ_idl}, lemmas.Bool.{cases_lt}, lemmas.Bool.Decides.{Decides-eqb}, lemmas.Int.{ints}, lemmas.List.{length-map}}
use Rattle.std.proofs.{lemmas.List.Elements.{All-from_recursion, All-head, All-tail, recursion_from_All}, lemmas.List.Sums.{get_or-le-sum_by, sum_by-cons}}
use Rattle.std.specs.{Prelude.{◌==◌, ◌+ℤ◌, ◌*ℤ◌, All, filter}, List.{AllByRecursion, range_with_len}}
use borrow.Author.Differences.{product_is}
use borrow.Author.Tests.{ltb-true}
use Rattle.gs_filter.specs.Filter.{Filter}
use Rattle.gs_game.specs.{Games.{game_of}, declared.valid.ValidGame.{ValidGame}}
use Rattle.gs_model.specs.{Classes.{class_count, class_of, classes_in}, Deals.{Deal, deals}, Frame.{at_round, last_round, signal_count}}
use Rattle.gs_model.specs.{Game.{Game, round_count}, Pairs.{pair_sum}, Sums.{sum_z}}
use Rattle.gs_model.proofs.{Gather.{class_in}, Ranges.{deals_weigh, every-kept, signal_count_is}, RawBound.{range_once}, Regroup.{sum_z-pos}}
use Rattle.gs_model.proofs.{Total.{sum_z-same}, Walked.{last_round_of}, Basics.{pos-cond, sum-same, not_eq}}
use Rattle.gs_tree.specs.Walk.{deal_at, last_count}
use Rattle.gs_tree.proofs.Pairs.{row_deals}
use Rattle.gs_seq.specs.{Cells.{meets, pair_count}, Games.{frame_in}, Rows.{IsRow, IsSingleIn}, Singles.{IsSlight, deal_pair}, declared.pair.Pair.{Pair}}
use Rattle.gs_seq.proofs.{Meeting.{row_long}, RowFacts.{sum-add, sum-times}, RowLaws.{RisesBy, by_index, further}, RowRoom.{table}, SlotLaws.{over}}

-- ---- sums by keys

pub once : (k w a n : ℕ) → a ≤ k → k < a + n → sum_by (λ s. cond (k == s) w 0) (range_with_len a n) ≡ w
once k w a n low high =
    let each : (b : Bool) → cond {A = ℕ} b w 0 ≡ w * cond b 1 0 = λ b. elim b as (λ b. cond {A = ℕ} b w 0
    ≡ w * cond b 1 0) [ true ↦ omega arith | false ↦ omega arith ] in
    let one : sum_by (λ s. cond {A = ℕ} (eqb k s) 1 0) (range_with_len a n) ≡ 1 = range_once k a n low high in
    sum-same (λ s. cond (k == s) w 0) (λ s. w * cond (eqb k s) 1 0) (λ s. each (k == s)) (range_with_len a n)
    ∙ sum-times w (λ s. cond (eqb k s) 1 0) (range_with_len a n) ∙ ap (λ n. w * n) one ∙ omega arith

zeros : (xs : List ℕ) → sum_by (λ x. 0) xs ≡ 0
zeros [] = refl
zeros (x ∷ xs) = omega (arith, sum_by-cons (λ (x : ℕ). 0) x xs, zeros xs)

-- a sum over items whose keys stand in a range, key by key
pub by_keys : {X : Type 0} (key w : X → ℕ) (a n : ℕ) (xs : List X) → AllByRecursion (λ x. (a ≤ key x) × (key x < a + n)) xs
    → sum_by w xs ≡ sum_by (λ s. sum_by (λ x. cond (key x == s) (w x) 0) xs) (range_with_len a n)
by_keys key w a n [] h = sym (zeros (range_with_len a n))
by_keys {X} key w a n (x ∷ xs) h =
    let one = λ (s : ℕ). cond {A = ℕ} (key x == s) (w x) 0 in
    let rest = λ (s : ℕ). sum_by (λ (y : X). cond (key y == s) (w y) 0) xs in
    let both : sum_by (λ s. sum_by (λ (y : X). cond (key y == s) (w y) 0) (x ∷ xs)) (range_with_len a n) ≡ sum_by (λ s. one s + rest s) (range_with_len a n) =
    sum-same (λ s. sum_by (λ (y : X). cond (key y == s) (w y) 0) (x ∷ xs)) (λ s. one s + rest s)
    (λ s. sum_by-cons (λ (y : X). cond (key y == s) (w y) 0) x xs) (range_with_len a n) in
    omega (arith, sum_by-cons w x xs, both, sum-add one rest (range_with_len a n), once (key x) (w x) a n h.0.0 h.0.1, by_keys key w a n xs h.1)

ones_long : {X : Type 0} (xs : List X) → sum_by (λ x. 1) xs ≡ length xs
ones_long [] = refl
ones_long {X} (x ∷ xs) = omega (arith, sum_by-cons (λ (y : X). 1) x xs, ones_long xs)

-- as many items pass as are counted
counted : {X : Type 0} (p : X → Bool) (xs : List X) → length (filter p xs) ≡ sum_by (λ x. cond (p x) 1 0) xs
counted p [] = refl
counted {X} p (x ∷ xs) = by (p x) (counted p xs) ∙ sym (sum_by-cons (λ x. cond (p x) 1 0) x xs)
  where
    by : (b : Bool) → length (filter p xs) ≡ sum_by (λ x. cond (p x) 1 0) xs
        → length (cond {A = List X} b (x ∷ filter p xs) (filter p xs)) ≡ cond b 1 0 + sum_by (λ x. cond (p x) 1 0) xs
    by true h = omega (arith, h)
    by false h = omega (arith, h)

-- ---- the row of a signal

none : (b : Bool) → cond {A = ℤ} b (pos 0) (pos 0) ≡ pos 0
none true = refl
none false = refl

-- a sum over a signal's deals, among all deals
picked : (c s e : ℕ) (one two : Deal → ℕ) (u : Pair → ℤ) (ds : List Deal) → c ≡ s + 1 → All (λ (d : Deal). (one d ≡ d.one + 1) × (two d ≡ d.two + 1)) ds
    → sum_z (λ (p : Pair). cond (p.two == e) (u p) (pos 0)) (map deal_pair (filter (λ (d : Deal). d.one == s) ds))
    ≡ sum_z (λ (d : Deal). cond (two d == e) (cond (one d == c) (u (deal_pair d)) (pos 0)) (pos 0)) ds
picked c s e one two u [] is h = refl
picked c s e one two u (d ∷ ds) is h =
    by (d.one == s) refl (All-head (λ (d : Deal). (one d ≡ d.one + 1) × (two d ≡ d.two + 1)) d ds h)
    (picked c s e one two u ds is (All-tail (λ (d : Deal). (one d ≡ d.one + 1) × (two d ≡ d.two + 1)) d ds h))
  where
    by : (b : Bool) → (d.one == s) ≡ b → (one d ≡ d.one + 1) × (two d ≡ d.two + 1)
        → sum_z (λ (p : Pair). cond (p.two == e) (u p) (pos 0)) (map deal_pair (filter (λ (d : Deal). d.one == s) ds))
        ≡ sum_z (λ (d : Deal). cond (two d == e) (cond (one d == c) (u (deal_pair d)) (pos 0)) (pos 0)) ds
        → sum_z (λ (p : Pair). cond (p.two == e) (u p) (pos 0)) (map deal_pair
        (cond {A = List Deal} b (d ∷ filter (λ (d : Deal). d.one == s) ds) (filter (λ (d : Deal). d.one == s) ds)))
        ≡ cond (two d == e) (cond (one d == c) (u (deal_pair d)) (pos 0)) (pos 0)
        +ℤ sum_z (λ (d : Deal). cond (two d == e) (cond (one d == c) (u (deal_pair d)) (pos 0)) (pos 0)) ds
    by true t here rest =
        let same : d.one ≡ s = (Decides-eqb d.one s).0 t in
        let test : (one d == c) ≡ true = (Decides-eqb (one d) c).1 (omega (arith, here.0, is, same)) in
        let v = u (deal_pair d) in
        let head : cond {A = ℤ} ((d.two + 1) == e) v (pos 0) ≡ cond (two d == e) (cond (one d == c) v (pos 0)) (pos 0) =
        ap (λ (n : ℕ). cond {A = ℤ} (n == e) v (pos 0)) (sym here.1) ∙ ap (λ b. cond {A = ℤ} (two d == e) (cond b v (pos 0)) (pos 0)) (sym test) in
        ap (λ z. z +ℤ sum_z (λ (p : Pair). cond (p.two == e) (u p) (pos 0)) (map deal_pair (filter (λ (d : Deal). d.one == s) ds))) head
        ∙ ap (λ z. cond (two d == e) (cond (one d == c) v (pos 0)) (pos 0) +ℤ z) rest
    by false t here rest =
        let other : d.one ≡ s → ⊥ = λ k. (let w = (Decides-eqb d.one s).1 k in cc) in
        let test : (one d == c) ≡ false = not_eq (one d) c (λ k. other (omega (arith, here.0, is, k))) in
        let v = u (deal_pair d) in
        let head : cond {A = ℤ} (two d == e) (cond (one d == c) v (pos 0)) (pos 0) ≡ pos 0 =
        ap (λ b. cond {A = ℤ} (two d == e) (cond b v (pos 0)) (pos 0)) test ∙ none (two d == e) in
        rest ∙ sym (+ℤ_idl (sum_z (λ (d : Deal). cond (two d == e) (cond (one d == c) (u (deal_pair d)) (pos 0)) (pos 0)) ds))
        ∙ ap (λ z. z +ℤ sum_z (λ (d : Deal). cond (two d == e) (cond (one d == c) (u (deal_pair d)) (pos 0)) (pos 0)) ds) (sym head)

-- the pairs of a signal's row from a place on
abbrev made_in : Game → ℕ → ℕ → ℕ → List Pair
made_in g i a n = map deal_pair (filter (λ (d : Deal). nat_lt 0 d.weight) (map (deal_at g i) (range_with_len a n)))

abbrev made_if : Game → ℕ → ℕ → ℕ → Bool → List Pair
made_if g i a n b =
    let rest = filter (λ (d : Deal). nat_lt 0 d.weight) (map (deal_at g i) (range_with_len (a + 1) n)) in
    map deal_pair (cond {A = List Deal} b (deal_at g i a ∷ rest) rest)

rises_from : (g : Game) (i a n : ℕ) → AllByRecursion (λ (p : Pair). a < p.two) (made_in g i a n) × RisesBy (made_in g i a n)
rises_from g i a zero = (tt, tt)
rises_from g i a (suc n) =
    let rest = rises_from g i (a + 1) n in
    by (nat_lt 0 (deal_at g i a).weight) refl rest (further a (a + 1) (made_in g i (a + 1) n) (omega arith) rest.0)
  where
    by : (b : Bool) → nat_lt 0 (deal_at g i a).weight ≡ b → AllByRecursion (λ (p : Pair). a + 1 < p.two) (made_in g i (a + 1) n)
        × RisesBy (made_in g i (a + 1) n)
        → AllByRecursion (λ (p : Pair). a < p.two) (made_in g i (a + 1) n)
        → AllByRecursion (λ (p : Pair). a < p.two) (made_if g i a n b) × RisesBy (made_if g i a n b)
    by true t rest weaker = ((omega arith, weaker), (ltb-true 0 (deal_at g i a).weight t, rest.0, rest.1))
    by false t rest weaker = (weaker, rest.1)

no_deals : (s n : ℕ) (ds : List Deal) → AllByRecursion (λ (d : Deal). d.one < n) ds → n ≤ s → filter (λ (d : Deal). d.one == s) ds ≡ []
no_deals s n [] h l = refl
no_deals s n (d ∷ ds) h l =
    let test : (d.one == s) ≡ false = not_eq d.one s (λ k. (let b = h.0 in omega arith)) in
    ap (λ b. cond {A = List Deal} b (d ∷ filter (λ (d : Deal). d.one == s) ds) (filter (λ (d : Deal). d.one == s) ds)) test ∙ no_deals s n ds h.1 l

times_one : (w : ℕ) → pos w ≡ pos w *ℤ pos 1
times_one w = omega (arith, ints, product_is (pos w) (pos 1))

module _ (g : ValidGame) (c : Filter) (e : c.parents ≡ (frame_in g).parents) (single : IsSingleIn c.lists (last_round (frame_in g))) where
  abbrev last : ℕ
  last = last_round (frame_in g)

  abbrev count : ℕ
  count = last_count (game_of g.game)

  some : 0 < last
  some = omega (arith, last_round_of (game_of g.game), g.limits.some_round)

  pub count_is : signal_count (frame_in g) last ≡ count
  count_is = ap (signal_count (frame_in g)) (last_round_of (game_of g.game))
      ∙ signal_count_is (game_of g.game) (round_count (game_of g.game)) g.limits.some_round (omega arith)

  class_is : (x : ℕ) → x < signal_count (frame_in g) last → class_of c.lists last x ≡ x + 1
  class_is x l = single x (omega (arith, l, (over (frame_in g) c e).lengths last some (omega arith)))

  own_class : (x : ℕ) → x < signal_count (frame_in g) last → class_of c.lists last (at_round (frame_in g) last x) ≡ x + 1
  own_class x l = ap (class_of c.lists last) ((table g).itself last x) ∙ class_is x l

  keyed : All (λ (d : Deal). (class_of c.lists last (at_round (frame_in g) last d.one) ≡ d.one + 1)
      × (class_of c.lists last (at_round (frame_in g) last d.two) ≡ d.two + 1)) (frame_in g).deals
  keyed = λ i d l. (
    own_class (get_or (frame_in g).deals i d).one ((table g).dealt i d l),
    own_class (get_or (frame_in g).deals i d).two ((table g).dealt_two i d l),
  )

  abbrev pub deals_of : ℕ → List Deal
  deals_of s = filter (λ (d : Deal). d.one == s) (deals (game_of g.game))

  pub below : AllByRecursion (λ (d : Deal). d.one < count) (deals (game_of g.game))
  below = recursion_from_All (λ (d : Deal). d.one < count) (deals (game_of g.game)) (λ i d l. omega (arith, (table g).dealt i d l, count_is))

  rises : (s : ℕ) → RisesBy (map deal_pair (deals_of s))
  rises s = ⊎_elim
      (λ (l : s < count). subst (λ ds. RisesBy (map deal_pair ds)) (sym (row_deals (game_of g.game) s l)) (rises_from (game_of g.game) s 0 count).1)
      (λ (l : count ≤ s). subst (λ ds. RisesBy (map deal_pair ds)) (sym (no_deals s count (deals (game_of g.game)) below l)) tt)
      (cases_lt s count)

  pub made_row : (k s : ℕ) → k ≡ s + 1 → IsRow (frame_in g) c.lists last k (map deal_pair (deals_of s))
  made_row k s is = record {
    rises = by_index (map deal_pair (deals_of s)) (rises s);
    weights = λ x. (
        let row = map deal_pair (deals_of s) in
        let one : Deal → ℕ = λ d. class_of c.lists last (at_round (frame_in g) last d.one) in
        let two : Deal → ℕ = λ d. class_of c.lists last (at_round (frame_in g) last d.two) in
        sym (sum_z-pos (λ (p : Pair). cond (p.two == x) p.weight 0) row)
        ∙ sum_z-same (λ (p : Pair). pos (cond (p.two == x) p.weight 0)) (λ p. cond (p.two == x) (pos p.weight) (pos 0))
        (λ p. sym (pos-cond (p.two == x) p.weight)) row
        ∙ picked k s x one two (λ p. pos p.weight) (deals (game_of g.game)) is keyed
        ∙ sum_z-same (λ (d : Deal). cond (two d == x) (cond (one d == k) (pos d.weight) (pos 0)) (pos 0))
        (λ (d : Deal). cond (two d == x) (cond (one d == k) (pos d.weight *ℤ pos 1) (pos 0)) (pos 0))
        (λ d. ap (λ v. cond {A = ℤ} (two d == x) (cond (one d == k) v (pos 0)) (pos 0)) (times_one d.weight)) (deals (game_of g.game)));
    signed = λ x. (
        let one : Deal → ℕ = λ d. class_of c.lists last (at_round (frame_in g) last d.one) in
        let two : Deal → ℕ = λ d. class_of c.lists last (at_round (frame_in g) last d.two) in
        picked k s x one two (λ p. p.signed) (deals (game_of g.game)) is keyed
        ∙ ap (λ b. cond {A = ℤ} b (pair_sum (frame_in g) c.lists c.lists last (λ o. o) k x) (pos 0)) (sym ((Decides-eqb last last).1 refl)));
  }

  -- its deals are few and light
  pub slight : (s : ℕ) → All IsSlight (deals_of s)
  slight s =
      let all : All IsSlight (deals (game_of g.game)) = λ i d l. record {
        two = omega (arith, (table g).dealt_two i d l, count_is, g.limits.signals_in (round_count (game_of g.game)) (omega arith));
        weight = omega (arith, get_or-le-sum_by (λ (x : Deal). x.weight) (deals (game_of g.game)) i d l, g.limits.weight_in);
      } in
      All-from_recursion IsSlight (deals_of s) (every-kept IsSlight (λ (d : Deal). d.one == s) (deals (game_of g.game))
      (recursion_from_All IsSlight (deals (game_of g.game)) all))

  -- as many pairs as deals
  pub made_count : pair_count (frame_in g) c.lists last ≡ length (deals (game_of g.game))
  made_count =
      let ds = deals (game_of g.game) in
      let k = over (frame_in g) c e in
      let n = class_count c.lists last in
      let own : ℕ → ℕ = λ x. count_by (λ y. meets (frame_in g) c.lists last x y) (classes_in c.lists last) in
      let here : ℕ → ℕ = λ x. sum_by (λ (d : Deal). cond ((d.one + 1) == x) 1 0) ds in
      let each : (s : ℕ) → own (s + 1) ≡ here (s + 1) = λ s.
      sym (row_long (frame_in g) (table g) c.lists k (deals_weigh (game_of g.game)) last some (omega arith) (s + 1) (map deal_pair (deals_of s))
      (made_row (s + 1) s refl))
      ∙ length-map (deals_of s) deal_pair ∙ counted (λ (d : Deal). d.one == s) ds
      ∙ sum-same (λ (d : Deal). cond (d.one == s) 1 0) (λ (d : Deal). cond ((d.one + 1) == (s + 1)) 1 0)
      (λ d. ap (λ b. cond {A = ℕ} b 1 0) (next d.one s)) ds in
      let inside : AllByRecursion (λ (d : Deal). (1 ≤ d.one + 1) × (d.one + 1 < 1 + n)) ds =
      recursion_from_All (λ (d : Deal). (1 ≤ d.one + 1) × (d.one + 1 < 1 + n)) ds (λ i d l.
      (let x = (get_or ds i d).one in
      let in_range = (table g).dealt i d l in
      let is = class_in (frame_in g) c.lists k last x some (omega arith) in_range in
      (omega arith, omega (arith, is.1, class_is x in_range)))) in
      same_range own here 0 n each ∙ sym (by_keys (λ (d : Deal). d.one + 1) (λ d. 1) 1 n ds inside) ∙ ones_long ds
    where
      next : (x s : ℕ) → (x == s) ≡ ((x + 1) == (s + 1))
      next x s = ⊎_elim
          (λ (l : x < s). not_eq x s (λ k. omega arith) ∙ sym (not_eq (x + 1) (s + 1) (λ k. omega arith)))
          (λ (l : s ≤ x). ⊎_elim
          (λ (m : s < x). not_eq x s (λ k. omega arith) ∙ sym (not_eq (x + 1) (s + 1) (λ k. omega arith)))
          (λ (m : x ≤ s). (Decides-eqb x s).1 (omega arith) ∙ sym ((Decides-eqb (x + 1) (s + 1)).1 (omega arith)))
          (cases_lt s x))
          (cases_lt x s)

      same_range : (f h : ℕ → ℕ) (a m : ℕ) → ((s : ℕ) → f (s + 1) ≡ h (s + 1)) → sum_by f (range_with_len (a + 1) m) ≡ sum_by h (range_with_len (a + 1) m)
      same_range f h a zero k = refl
      same_range f h a (suc m) k = omega (
        arith,
        sum_by-cons f (a + 1) (range_with_len (a + 1 + 1) m),
        sum_by-cons h (a + 1) (range_with_len (a + 1 + 1) m),
        k a,
        same_range f h (a + 1) m k,
      )
