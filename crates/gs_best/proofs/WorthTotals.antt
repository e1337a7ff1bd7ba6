-- Over lossless classes the total of a class is its size times what its first member has: at moves, and so at all positions.
use Rattle.std.proofs.{Common.{◌≡◌, ℕ, zero, suc, ◌+◌, ◌-◌, ◌<◌, ◌≤◌, Bool, true, false, cond, refl, sym, ap, ◌∙◌, arith, eqb}, Math.IntN.{*ℤ_comm, *ℤ-zero}}
use Rattle.std.proofs.{lemmas.Bool.Decides.{Decides-eqb}, lemmas.List.Sums.{sum_by-cons}}
use Rattle.std.specs.{Prelude.{◌==◌, ℤ, pos, ◌*ℤ◌, sum_by}, List.{count_by, range_with_len}}
use Rattle.gs_model.specs.BestAnswers.{Values, class_worth, move_worth, spread}
use Rattle.gs_model.specs.Classes.{ClassLists, IsClass, IsClasses, class_count, class_of, class_size, classes_in, first_member}
use Rattle.gs_model.specs.Frame.{Frame, ancestor, last_round, leads_to, move_count, point_count, round_of, signal_count, signals_in}
use Rattle.gs_model.specs.{FrameFacts.{InRange, IsWalked}, Lossless.{IsLossless}, Positions.{at_point}, Sums.{sum_z}}
use Rattle.gs_model.proofs.{Alike.{kin_above}, ClassTotals.{class_size_of, class_total_is, class_total_up}, FirstBest.{sum-same_range}, Total.{sum_z-same}}
use Rattle.gs_model.proofs.{Gather.{grouping_from, member_in}, Lift.{move_alike, one_guard}, RawBound.{All-range}, Regroup.{regroup_weights}, Tables.{is_table}}
use Rattle.gs_seq.proofs.RowLaws.{size_is}
use Rattle.gs_best.specs.ClassTotals.{earlier_class, gathered_below, total_worth}
use Rattle.gs_best.proofs.{Ranges.{sum_same}, Shares.{first_class}}

-- ---- tests in sums

under_test : (a b e : Bool) → (a ≡ true → b ≡ e) → cond {A = ℕ} a (cond b 1 0) 0 ≡ cond e (cond a 1 0) 0
under_test true b e h = ap (λ x. cond {A = ℕ} x 1 0) (h refl)
under_test false b true h = refl
under_test false b false h = refl

none_or_all : (b : Bool) (p : ℕ → Bool) (n : ℕ) → sum_by (λ r. cond {A = ℕ} b (cond (p r) 1 0) 0) (range_with_len 0 n)
    ≡ cond b (sum_by (λ r. cond (p r) 1 0) (range_with_len 0 n)) 0
none_or_all true p n = refl
none_or_all false p n = nothing 0 n
  where
    nothing : (a n : ℕ) → sum_by (λ r. 0) (range_with_len a n) ≡ 0
    nothing a zero = refl
    nothing a (suc n) = omega (arith, sum_by-cons (λ (r : ℕ). 0) a (range_with_len (a + 1) n), nothing (a + 1) n)

times_test : (b : Bool) (n : ℕ) (x : ℤ) → x *ℤ pos (cond {A = ℕ} b n 0) ≡ cond b (pos n *ℤ x) (pos 0)
times_test true n x = *ℤ_comm x (pos n)
times_test false n x = *ℤ-zero x

module _ (f : Frame) (r : InRange f) (lists : ClassLists) (k : IsClasses f.parents lists) where
  -- how many signals of a class of a round descend from a class of an earlier round: all or none
  members_below : (i j c e : ℕ) → 0 < j → j ≤ i → i ≤ last_round f → IsClass lists i c
      → sum_by (λ s. cond (eqb (class_of lists i s) c) (cond (class_of lists j (ancestor f i j s) == e) 1 0) 0) (signals_in f i)
      ≡ cond (earlier_class f lists i j c == e) (class_size_of f lists i c) 0
  members_below i j c e some l top lc =
      let h = is_table f r in
      let g = grouping_from f lists k in
      let at = member_in f lists k i c (omega arith) top lc in
      let first = first_class f lists k i c (omega arith) top lc in
      sum-same_range (λ s. cond (eqb (class_of lists i s) c) (cond (class_of lists j (ancestor f i j s) == e) 1 0) 0)
      (λ s. cond (earlier_class f lists i j c == e) (cond (eqb (class_of lists i s) c) 1 0) 0) (signal_count f i)
      (λ s ls. under_test (eqb (class_of lists i s) c) (class_of lists j (ancestor f i j s) == e) (earlier_class f lists i j c == e)
      (λ t. ap (λ n. n == e)
      (kin_above f h lists g.kin j (i - j) i s (first_member lists i c) some (omega arith) top (record {
        first_in =
            ls;
        second_in = at;
        same = (Decides-eqb (class_of lists i s) c).0 t ∙ sym first;
      }))))
      ∙ none_or_all (earlier_class f lists i j c == e) (λ s. eqb (class_of lists i s) c) (signal_count f i)

  -- a value that hangs on the class alone, over all signals below a class of an earlier round
  below_by_classes : (i j e : ℕ) (v V : ℕ → ℤ) → 0 < j → j ≤ i → i ≤ last_round f → ((c : ℕ) → IsClass lists i c → V c ≡ pos (class_size lists i c) *ℤ v c)
      → sum_z (λ s. cond (class_of lists j (ancestor f i j s) == e) (v (class_of lists i s)) (pos 0)) (signals_in f i) ≡ gathered_below f lists i j V e
  below_by_classes i j e v V some l top sized =
      let g = grouping_from f lists k in
      let w = λ (s : ℕ). cond {A = ℕ} (class_of lists j (ancestor f i j s) == e) 1 0 in
      sum_z-same (λ s. cond (class_of lists j (ancestor f i j s) == e) (v (class_of lists i s)) (pos 0)) (λ s. pos (w s) *ℤ v (class_of lists i s))
      (λ s. one_guard (class_of lists j (ancestor f i j s) == e) (v (class_of lists i s))) (signals_in f i)
      ∙ regroup_weights eqb Decides-eqb (class_of lists i) w v (classes_in lists i) (signals_in f i)
      (All-range (λ s. count_by (eqb (class_of lists i s)) (classes_in lists i) ≡ 1) (signal_count f i) (λ s ls. g.once i s (omega arith) top ls))
      ∙ sum_same (λ c. v c *ℤ pos (sum_by (λ s. cond (eqb (class_of lists i s) c) (w s) 0) (signals_in f i)))
      (λ c. cond (earlier_class f lists i j c == e) (V c) (pos 0)) 1 (class_count lists i)
      (λ c lo hi.
      let lc : IsClass lists i c = (omega arith, omega arith) in
      ap (λ n. v c *ℤ pos n) (members_below i j c e some l top lc)
      ∙ times_test (earlier_class f lists i j c == e) (class_size_of f lists i c) (v c)
      ∙ ap (λ n. cond (earlier_class f lists i j c == e) (pos n *ℤ v c) (pos 0)) (sym (size_is f lists i c (k.lengths i (omega arith) top)))
      ∙ ap (λ x. cond (earlier_class f lists i j c == e) x (pos 0)) (sym (sized c lc)))

  module _ (lossless : IsLossless f lists) (player : ℕ) (w : IsWalked f player) where
    -- what a move is worth to a class as a whole is the class's size times what it is worth to its first member
    pub worth_total : (v V : Values) (q m e : ℕ) → q < point_count f → m < move_count f q → IsClass lists (round_of f (at_point q)) e
        → ((c : ℕ) → IsClass lists (round_of f (leads_to f q m)) c → V (leads_to f q m) c
        ≡ pos (class_size lists (round_of f (leads_to f q m)) c) *ℤ v (leads_to f q m) c)
        → total_worth f lists V q m e ≡ pos (class_size lists (round_of f (at_point q)) e) *ℤ class_worth f lists v q m e
    worth_total v V q m e lq lm le sized =
        let h = is_table f r in
        let i = round_of f (leads_to f q m) in
        let j = round_of f (at_point q) in
        let some = w.some_round q lq in
        let onward = w.onward q m lq lm in
        let top = w.within q m lq lm in
        let at = member_in f lists k j e some (w.point_in q lq) le in
        let first = first_class f lists k j e some (w.point_in q lq) le in
        sym (below_by_classes i j e (v (leads_to f q m)) (V (leads_to f q m)) some onward top sized)
        ∙ sym (class_total_up f h lists j i e (λ s. v (leads_to f q m) (class_of lists i s)) some onward)
        ∙ class_total_is f lists j (move_worth f (spread f lists v) q m) e (class_worth f lists v q m e)
        (λ s ls is. move_alike f h lists lossless v q m s (first_member lists j e) some onward top (record {
          first_in =
              ls;
          second_in = at;
          same = is ∙ sym first;
        }))
        ∙ ap (λ n. class_worth f lists v q m e *ℤ pos n) (sym (size_is f lists j e (k.lengths j some (w.point_in q lq))))
        ∙ *ℤ_comm (class_worth f lists v q m e) (pos (class_size lists j e))
