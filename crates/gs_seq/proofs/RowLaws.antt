-- The row of a class is its row by definition.
use Rattle.std.proofs.Common.{◌≡◌, ℕ, ℤ, pos, zero, suc, ◌*◌, ◌<◌, ◌≤◌, Bool, true, false, cond, List, [], ◌∷◌, length, get_or, refl, sym, ap, ◌∙◌, arith}
use Rattle.std.proofs.{Common.{count_by, eqb}, Math.IntN.{*ℤ_comm, *ℤ-zero}, Math.Nat.{mul-le-mul_right}, lemmas.Bool.Decides.{Decides-eqb}, lemmas.Int.{ints}}
use Rattle.std.proofs.{lemmas.List.Elements.{All-from_recursion}, lemmas.List.FromFn.{fill_by_all}, lemmas.List.Sums.{get_or-le-sum_by}}
use Rattle.std.specs.{Prelude.{◌==◌, ◌*ℤ◌}, List.{AllByRecursion, range_with_len}, declared.cmp.Ordering.TheVariants.{Less}}
use borrow.Author.Differences.{product_is}
use Rattle.gs_lossless.specs.{Amounts.{AreAmounts}, Sums.{PartsRise as Ascends, key_cmp}, declared.parts.Part.{Part}, declared.aspects.Aspect.TheVariants.{Deals}}
use Rattle.gs_model.specs.{Classes.{ClassLists, class_of, class_size, list_of}, Deals.{Deal}, Frame.{Frame, at_round, last_round, signal_count}}
use Rattle.gs_model.specs.{Lossless.{IsLossless}, Pairs.{pair_sum}, Sums.{sum_z}}
use Rattle.gs_model.proofs.{ClassTotals.{class_size_of}, Known.{Tabled}, Regroup.{sum_z-pos}, Total.{sum_z-same, sum_z-zero}, Basics.{sum_by-map}}
use Rattle.gs_seq.specs.{Cells.{pair_signed, pair_weight}, Rows.{IsRow, Rises, gathered, join, pair_of, signed_in, together, weight_in}}
use Rattle.gs_seq.specs.declared.pair.Pair.{Pair}
use Rattle.gs_seq.proofs.ClassSums.{near, near_parts, pair_is}
use Rattle.gs_seq.proofs.Gathered.{StartsFrom, class_le, gathered-signed, gathered-weight, head_from, part_signed, part_weight}

-- ---- classes ascend

abbrev pub RisesBy : List Pair → Type 0
RisesBy [] = Unit {0}
RisesBy (p ∷ ps) = (0 < p.weight) × AllByRecursion (λ q. p.two < q.two) ps × RisesBy ps

pub further : (c d : ℕ) (row : List Pair) → c < d → AllByRecursion (λ q. d < q.two) row → AllByRecursion (λ q. c < q.two) row
further c d [] l h = tt
further c d (q ∷ qs) l h = (let k = h.0 in omega arith, further c d qs l h.1)

pub join_rises : (p : Pair) (row : List Pair) → 0 < p.weight → RisesBy row → StartsFrom p.two row → RisesBy (join p row)
join_rises p [] w r h = (w, tt, tt)
join_rises p (q ∷ qs) w r h = by (q.two == p.two) refl
  where
    by : (b : Bool) → (q.two == p.two) ≡ b → RisesBy (cond b (together q p ∷ qs) (p ∷ q ∷ qs))
    by true e = (omega arith, r.1, r.2)
    by false e =
        let other : q.two ≡ p.two → ⊥ = λ k. (let t = (Decides-eqb q.two p.two).1 k in cc) in
        let l : p.two < q.two = omega arith in
        (w, (l, further p.two q.two qs l r.1), r)

starts : (m : ℕ) (p : Part) (ps : List Part) → AllByRecursion (λ q. key_cmp p q ≡ Less) ps → StartsFrom p.class (gathered m ps)
starts m p [] h = tt
starts m p (q ∷ qs) h = lower (gathered m (q ∷ qs)) (head_from (pair_of m q) (gathered m qs))
  where
    lower : (row : List Pair) → StartsFrom q.class row → StartsFrom p.class row
    lower [] k = tt
    lower (r ∷ rs) k = let l = class_le p q h.0 in omega arith

gathered_rises : (m : ℕ) → 0 < m → (ps : List Part) → Ascends ps → RisesBy (gathered m ps)
gathered_rises m some [] h = tt
gathered_rises m some (p ∷ ps) h =
    let one : 1 ≤ m = omega arith in
    let w : 0 < m * p.weight = omega (arith, mul-le-mul_right p.weight one, h.0) in
    join_rises (pair_of m p) (gathered m ps) w (gathered_rises m some ps h.2) (starts m p ps h.1)

ascend : (row : List Pair) → RisesBy row → (i j : ℕ) (d : Pair) → i < j → j < length row → (get_or row i d).two < (get_or row j d).two
ascend [] r i j d l m = absurd (omega arith)
ascend (p ∷ ps) r i zero d l m = absurd (omega arith)
ascend (p ∷ ps) r zero (suc j) d l m = All-from_recursion (λ (q : Pair). p.two < q.two) ps r.1 j d (omega arith)
ascend (p ∷ ps) r (suc i) (suc j) d l m = ascend ps r.2 i j d (omega arith) (omega arith)

weigh : (row : List Pair) → RisesBy row → (i : ℕ) (d : Pair) → i < length row → 0 < (get_or row i d).weight
weigh [] r i d l = absurd (omega arith)
weigh (p ∷ ps) r zero d l = r.0
weigh (p ∷ ps) r (suc i) d l = weigh ps r.2 i d (omega arith)

pub by_index : (row : List Pair) → RisesBy row → Rises row
by_index row r = record { ascends = ascend row r; some = weigh row r }

-- ---- what the row holds

plain_one : (w : ℕ) (b : Bool) → pos w *ℤ cond b (pos 1) (pos 0) ≡ pos (cond b w 0)
plain_one w true = omega (arith, ints, product_is (pos w) (pos 1))
plain_one w false = *ℤ-zero (pos w)

plain_own : (w : ℕ) (b : Bool) (o : ℤ) → pos w *ℤ cond b o (pos 0) ≡ cond b (pos w *ℤ o) (pos 0)
plain_own w true o = refl
plain_own w false o = *ℤ-zero (pos w)

nothing : (w : ℕ) (b : Bool) (o : ℤ) → pos w *ℤ cond b (pos 0) (pos 0) ≡ pos 0
nothing w true o = *ℤ-zero (pos w)
nothing w false o = *ℤ-zero (pos w)

module _ (f : Frame) (h : Tabled f) (lists : ClassLists) (g : IsLossless f lists) (round : ℕ) (some : 0 < round) (top : round
    ≤ last_round f) (s c m : ℕ) (ps : List Part) (l : s < signal_count f round)
    (is : class_of lists round s ≡ c) (size : m ≡ class_size_of f lists round c) (a : AreAmounts f lists Deals round s ps) where
  weights : (e : ℕ) → pos (weight_in (gathered m ps) e) ≡ pair_weight f lists round c e
  weights e =
      let plain : sum_z (λ (p : Part). pos p.weight *ℤ cond (eqb p.class e) (pos 1) (pos 0)) ps ≡ pos (part_weight ps e) =
      sum_z-same (λ (p : Part). pos p.weight *ℤ cond (eqb p.class e) (pos 1) (pos 0)) (λ p. pos (cond (p.class == e) p.weight 0))
      (λ p. plain_one p.weight (p.class == e)) ps
      ∙ sum_z-pos (λ (p : Part). cond (p.class == e) p.weight 0) ps in
      let product : pos (m * part_weight ps e) ≡ pos (part_weight ps e) *ℤ pos m = omega (arith, ints, product_is (pos (part_weight ps e)) (pos m)) in
      ap pos (gathered-weight m ps e) ∙ product
      ∙ ap (λ z. z *ℤ pos m) (sym plain ∙ near_parts f h lists g round some top s ps (λ o. pos 1) e a)
      ∙ ap (λ k. near f h lists g round some top s (λ o. pos 1) e *ℤ pos k) size
      ∙ sym (pair_is f h lists g round some top (λ o. pos 1) c e s (λ d. refl) l is)

  own : (e : ℕ) → part_signed ps e ≡ near f h lists g round some top s (λ o. o) e
  own e =
      sym (sum_z-same (λ (p : Part). pos p.weight *ℤ cond (eqb p.class e) p.outcome (pos 0)) (λ p. cond (p.class == e) (pos p.weight *ℤ p.outcome) (pos 0))
      (λ p. plain_own p.weight (p.class == e) p.outcome) ps)
      ∙ near_parts f h lists g round some top s ps (λ o. o) e a

  signed : (e : ℕ) → signed_in (gathered m ps) e ≡ pair_signed f lists round c e
  signed e = gathered-signed m ps e ∙ by (round == last_round f) refl
    where
      by : (b : Bool) → (round == last_round f) ≡ b → pos m *ℤ part_signed ps e ≡ cond b (pair_sum f lists lists round (λ o. o) c e) (pos 0)
      by true t =
          ap (λ z. pos m *ℤ z) (own e) ∙ *ℤ_comm (pos m) (near f h lists g round some top s (λ o. o) e)
          ∙ ap (λ k. near f h lists g round some top s (λ o. o) e *ℤ pos k) size
          ∙ sym (pair_is f h lists g round some top (λ o. o) c e s (λ d. sym (ap (λ b. cond b d.outcome (pos 0)) t)) l is)
      by false t =
          let none : near f h lists g round some top s (λ o. o) e ≡ pos 0 =
          ap (λ b. sum_z (λ (d : Deal). pos (cond (at_round f round d.one == s) d.weight 0)
          *ℤ cond (eqb (class_of lists round (at_round f round d.two)) e) (cond b d.outcome (pos 0)) (pos 0)) f.deals) t
          ∙ sum_z-same (λ (d : Deal). pos (cond (at_round f round d.one == s) d.weight 0)
          *ℤ cond (eqb (class_of lists round (at_round f round d.two)) e) (pos 0) (pos 0)) (λ _. pos 0)
          (λ d. nothing (cond (at_round f round d.one == s) d.weight 0) (eqb (class_of lists round (at_round f round d.two)) e) (pos 0)) f.deals
          ∙ sum_z-zero f.deals in
          ap (λ z. pos m *ℤ z) (own e ∙ none) ∙ *ℤ-zero (pos m)

  pub is_row : 0 < m → IsRow f lists round c (gathered m ps)
  is_row positive = record { rises = by_index (gathered m ps) (gathered_rises m positive ps a.rises); weights = weights; signed = signed }

-- ---- how many members

-- a class has a member
pub size_some : (lists : ClassLists) (round c s : ℕ) → s < length (list_of lists round) → class_of lists round s ≡ c → 0 < class_size lists round c
size_some lists round c s l is =
    let here = get_or-le-sum_by (λ x. cond (x == c) 1 0) (list_of lists round) s 0 l in
    let test = (Decides-eqb (class_of lists round s) c).1 is in
    omega (arith, here, ap (λ b. cond {A = ℕ} b 1 0) test)

pub size_is : (f : Frame) (lists : ClassLists) (round c : ℕ) → length (list_of lists round) ≡ signal_count f round
    → class_size lists round c ≡ class_size_of f lists round c
size_is f lists round c e =
    ap (count_by (λ x. x == c)) (fill_by_all (class_of lists round) (list_of lists round) (signal_count f round) 0 e (λ k l. refl))
    ∙ sum_by-map (λ x. cond (x == c) 1 0) (class_of lists round) (range_with_len 0 (signal_count f round))
