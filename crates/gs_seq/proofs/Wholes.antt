-- All pairs of a row as one, and what an end pays a class where the other player's number is the same at all classes.
use Rattle.std.proofs.Common.{◌≡◌, ℕ, ℤ, pos, ◌-◌, ◌*◌, ◌<◌, ◌≤◌, List, get_or, sym, ap, ◌∙◌, refl, arith}
use Rattle.std.specs.Prelude.{◌*ℤ◌, ◌⊎◌, unsigned_abs}
use Rattle.gs_model.specs.{Classes.{ClassLists, IsClasses, class_count}, Frame.{Frame, end_at, end_count, round_of}, FrameFacts.{InRange, IsWalked}}
use Rattle.gs_model.specs.{Positions.{End, EndKind, Folded1, Folded2, Show, at_end}, Sums.{sum_z}}
use Rattle.gs_model.proofs.{Regroup.{sum_z-pos}, Tables.{is_table}, Total.{sum_z-mul, sum_z-same_all}}
use Rattle.gs_seq.specs.{Payoffs.{number_sum, pair_pays, stake}, Rows.{IsRow, whole_row}, declared.pair.Pair.{Pair}}
use Rattle.gs_seq.proofs.{EndSums.{class_few_weight, row_sum}, RowFacts.{abs_all, row_class, row_signed, row_weighs, sum-times}, Sizes.{AreModest}}

-- what an end pays in the deals of all pairs of a row
whole_pays : (player : ℕ) (z : End) (row : List Pair) → sum_z (λ (p : Pair). pair_pays player z p) row ≡ pair_pays player z (whole_row row)
whole_pays player z row = by z.kind refl
  where
    weights : (a : ℤ) → sum_z (λ (p : Pair). a *ℤ pos p.weight) row ≡ a *ℤ pos (whole_row row).weight
    weights a = sum_z-mul a (λ (p : Pair). pos p.weight) row ∙ ap (λ v. a *ℤ v) (sum_z-pos (λ (p : Pair). p.weight) row)

    by : (k : EndKind) → z.kind ≡ k → sum_z (λ (p : Pair). pair_pays player z p) row ≡ pair_pays player z (whole_row row)
    by Folded1 k = rw k (weights (stake player 1 z.put))
    by Folded2 k = rw k (weights (stake player 2 z.put))
    by Show k = rw k (sum_z-mul (pos z.put) (λ (p : Pair). p.signed) row)

module _ (f : Frame) (r : InRange f) (lists : ClassLists) (k : IsClasses f.parents lists) (player : ℕ) (w : IsWalked f player) (few : AreModest f) (z : ℕ)
    (l : z < end_count f) (c : ℕ) (row : List Pair)
    (h : IsRow f lists (round_of f (at_end z)) c row) where
  -- the sum over the classes is the number times what the end pays the row
  pub same_sum : (player ≡ 1) ⊎ (player ≡ 2) → (numbers : List ℕ) (number : ℕ)
      → ((i : ℕ) → i < class_count lists (round_of f (at_end z)) → get_or numbers i 0 ≡ number)
      → pos number *ℤ pair_pays player (end_at f z) (whole_row row) ≡ number_sum f lists player numbers z c
  same_sum either numbers number same =
      let round = round_of f (at_end z) in
      let pays : Pair → ℤ = λ p. pair_pays player (end_at f z) p in
      let each = sum_z-same_all (λ (p : Pair). pos (get_or numbers (p.two - 1) 0) *ℤ pays p) (λ p. pos number *ℤ pays p) row
      (λ i d m. let a = row_class f (is_table f r) lists k round (w.end_round z l) (w.end_in z l) c row h i d m in
      ap (λ n. pos n *ℤ pays (get_or row i d)) (same ((get_or row i d).two - 1) (omega (arith, a.0, a.1)))) in
      ap (λ v. pos number *ℤ v) (sym (whole_pays player (end_at f z) row))
      ∙ sym (sum_z-mul (pos number) pays row)
      ∙ sym each
      ∙ row_sum f lists player either w z l c row h r k (λ e. get_or numbers (e - 1) 0)

  pub whole_few : (whole_row row).weight ≤ 67108864
  whole_few = omega (
    arith,
    row_weighs f (is_table f r) lists k (round_of f (at_end z)) (w.end_round z l) (w.end_in z l) c row h,
    class_few_weight f r lists k player w few z l c row h,
  )

  pub whole_moderate : unsigned_abs (whole_row row).signed ≤ 9 * (whole_row row).weight
  whole_moderate =
      let signed = row_signed f (is_table f r) lists k (round_of f (at_end z)) (w.end_round z l) (w.end_in z l) c row h few.outcomes in
      omega (
        arith,
        abs_all (λ (p : Pair). p.signed) (λ p. 9 * p.weight) row signed,
        sum-times 9 (λ (p : Pair). p.weight) row,
      )
