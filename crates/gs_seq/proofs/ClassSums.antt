-- The sums by pairs of classes, from the sums of one member of the first class: all members of a lossless class have the same.
use Rattle.std.proofs.{Common.{◌≡◌, ℕ, ℤ, pos, ◌<◌, ◌≤◌, Bool, true, false, cond, List, get_or, refl, sym, ap, ◌∙◌, arith, sum_by, eqb}, Math.IntN.{*ℤ-zero}}
use Rattle.std.proofs.{lemmas.Bool.Decides.{Decides-eqb}, lemmas.Int.{ints}}
use Rattle.std.specs.{Prelude.{◌==◌, ◌*ℤ◌}, Ordering.{int_eq}}
use borrow.Author.Differences.{product_is}
use Rattle.gs_lossless.specs.{Amounts.{AreAmounts, amount}, Sums.{weight_at}, declared.parts.Part.{Part}, declared.aspects.Aspect.TheVariants.{Deals}}
use Rattle.gs_model.specs.{Classes.{ClassLists, InOneClass, class_of}, Deals.{Deal}, Frame.{Frame, at_round, last_round, signal_count, signals_in}}
use Rattle.gs_model.specs.{Lossless.{IsLossless, weight_against, weight_with}, Pairs.{pair_sum}, Sums.{sum_z}}
use Rattle.gs_model.proofs.{ClassTotals.{class_size_of, class_total, class_total_is}, Flow.{by_ancestor}, Known.{Tabled}, Basics.{sum-same, sum-cond}}
use Rattle.gs_model.proofs.{Lift.{both_out, one_guard, pair_exact, pair_test}, RawBound.{range_once}, Regroup.{alike_total}, Total.{sum_z-same}}
use Rattle.gs_seq.proofs.ClassRows.{alike_lists}

module _ (f : Frame) (h : Tabled f) (lists : ClassLists) (g : IsLossless f lists) (round : ℕ) (some : 0 < round) (top : round ≤ last_round f) where
  -- the outcome by which a deal counts: its own in the last round, none before it
  abbrev out : Deal → ℤ
  out d = cond (round == last_round f) d.outcome (pos 0)

  abbrev one : Deal → ℕ
  one d = at_round f round d.one

  abbrev two : Deal → ℕ
  two d = class_of lists round (at_round f round d.two)

  -- a signal's deals against a class: weights times a value of the outcome
  abbrev pub near : ℕ → (ℤ → ℤ) → ℕ → ℤ
  near s v e = sum_z (λ (d : Deal). pos (cond (one d == s) d.weight 0) *ℤ cond (eqb (two d) e) (v (out d)) (pos 0)) f.deals

  -- what counts for a class and an outcome, deal by deal
  amount_is : (s : ℕ) (q : ℕ × ℤ) → amount f lists Deals round s q.0 q.1
      ≡ sum_by (λ (d : Deal). cond (pair_test (two d, out d) q) (cond (one d == s) d.weight 0) 0) f.deals
  amount_is s q = by (round == last_round f) refl
    where
      by : (b : Bool) → (round == last_round f) ≡ b → cond b (weight_with f lists s q.0 q.1)
          (cond (int_eq (pos 0) q.1) (weight_against f lists round s q.0) 0)
          ≡ sum_by (λ (d : Deal). cond (pair_test (two d, cond b d.outcome (pos 0)) q) (cond (one d == s) d.weight 0) 0) f.deals
      by true e =
          let last : last_round f ≡ round = sym ((Decides-eqb round (last_round f)).0 e) in
          ap (λ r. sum_by (λ (d : Deal). cond (int_eq d.outcome q.1) (cond (class_of lists r (at_round f r d.two) == q.0)
          (cond (at_round f r d.one == s) d.weight 0) 0) 0) f.deals) last
          ∙ sym (sum-same (λ (d : Deal). cond (pair_test (two d, d.outcome) q) (cond (one d == s) d.weight 0) 0)
          (λ (d : Deal). cond (int_eq d.outcome q.1) (cond (two d == q.0) (cond (one d == s) d.weight 0) 0) 0)
          (λ d. both_out (int_eq d.outcome q.1) (two d == q.0) (cond (one d == s) d.weight 0)) f.deals)
      by false e =
          sym (sum-same (λ (d : Deal). cond (pair_test (two d, pos 0) q) (cond (one d == s) d.weight 0) 0)
          (λ (d : Deal). cond (int_eq (pos 0) q.1) (cond (two d == q.0) (cond (one d == s) d.weight 0) 0) 0)
          (λ d. both_out (int_eq (pos 0) q.1) (two d == q.0) (cond (one d == s) d.weight 0)) f.deals
          ∙ sum-cond (int_eq (pos 0) q.1) (λ (d : Deal). cond (two d == q.0) (cond (one d == s) d.weight 0) 0) f.deals)

  -- by the sums of the signal
  pub near_parts : (s : ℕ) (parts : List Part) (v : ℤ → ℤ) (e : ℕ) → AreAmounts f lists Deals round s parts
      → sum_z (λ (p : Part). pos p.weight *ℤ cond (eqb p.class e) (v p.outcome) (pos 0)) parts ≡ near s v e
  near_parts s parts v e a =
      alike_lists pair_test pair_exact (λ (p : Part). (p.class, p.outcome)) (λ p. p.weight) (λ (d : Deal). (two d, out d)) (λ d. cond (one d == s) d.weight 0)
      (λ q. cond (eqb q.0 e) (v q.1) (pos 0)) parts f.deals
      (λ q. sum-same (λ (p : Part). cond (pair_test (p.class, p.outcome) q) p.weight 0) (weight_at q.0 q.1)
      (λ p. both_out (int_eq p.outcome q.1) (p.class == q.0) p.weight) parts
      ∙ a.sum q.0 q.1 ∙ amount_is s q)

  -- members of one class have the same
  same_amounts : (s t : ℕ) → InOneClass f lists round s t → (q : ℕ × ℤ) → amount f lists Deals round s q.0 q.1 ≡ amount f lists Deals round t q.0 q.1
  same_amounts s t m q = by (round == last_round f) refl
    where
      by : (b : Bool) → (round == last_round f) ≡ b
          → cond b (weight_with f lists s q.0 q.1) (cond (int_eq (pos 0) q.1) (weight_against f lists round s q.0) 0)
          ≡ cond b (weight_with f lists t q.0 q.1) (cond (int_eq (pos 0) q.1) (weight_against f lists round t q.0) 0)
      by true e = (g.alike round s t some top m).outcomes ((Decides-eqb round (last_round f)).0 e) q.0 q.1
      by false e = ap (λ n. cond (int_eq (pos 0) q.1) n 0) ((g.alike round s t some top m).weights q.0)

  pub near_alike : (s t : ℕ) (v : ℤ → ℤ) (e : ℕ) → InOneClass f lists round s t → near s v e ≡ near t v e
  near_alike s t v e m =
      alike_total pair_test pair_exact (λ (d : Deal). (two d, out d)) (λ d. cond (one d == s) d.weight 0) (λ d. cond (one d == t) d.weight 0)
      (λ q. cond (eqb q.0 e) (v q.1) (pos 0)) f.deals
      (λ q. sym (amount_is s q) ∙ same_amounts s t m q ∙ amount_is t q)

  turn : (a b : Bool) (w : ℕ) (x : ℤ) → cond a (cond b (pos w *ℤ x) (pos 0)) (pos 0) ≡ pos (cond a w 0) *ℤ cond b x (pos 0)
  turn true true w x = refl
  turn true false w x = sym (*ℤ-zero (pos w))
  turn false b w x = omega (arith, ints, product_is (pos 0) (cond b x (pos 0)))

  flip : (a b : Bool) (z : ℤ) → cond a (cond b z (pos 0)) (pos 0) ≡ pos (cond b 1 0) *ℤ cond a z (pos 0)
  flip a true z = sym (omega (arith, ints, product_is (pos 1) (cond a z (pos 0))))
  flip true false z = sym (omega (arith, ints, product_is (pos 0) z))
  flip false false z = refl

  -- a sum by a pair of classes, by the members of the first one
  pub pair_by_members : (v : ℤ → ℤ) (c e : ℕ) → ((d : Deal) → v d.outcome ≡ v (out d))
      → pair_sum f lists lists round v c e ≡ class_total f lists round (λ s. near s v e) c
  pair_by_members v c e same =
      let x : Deal → ℤ = λ d. cond (two d == e) (pos d.weight *ℤ v d.outcome) (pos 0) in
      let of : ℕ → Bool = λ s. class_of lists round s == c in
      sum_z-same (λ (d : Deal). cond (two d == e) (cond (of (one d)) (pos d.weight *ℤ v d.outcome) (pos 0)) (pos 0)) (λ d. pos (cond (of (one d)) 1 0) *ℤ x d)
      (λ d. flip (two d == e) (of (one d)) (pos d.weight *ℤ v d.outcome)) f.deals
      ∙ by_ancestor eqb Decides-eqb one (λ s. cond (of s) 1 0) x f.deals (signals_in f round)
      (λ i o l. range_once (one (get_or f.deals i o)) 0 (signal_count f round) (omega arith) (let k =
      h.kept (last_round f) round (get_or f.deals i o).one some top (h.dealt i o l) in omega arith))
      ∙ sum_z-same (λ s. pos (cond (of s) 1 0) *ℤ sum_z (λ d. cond (eqb (one d) s) (x d) (pos 0)) f.deals) (λ s. cond (of s) (near s v e) (pos 0))
      (λ s. sym (one_guard (of s) (sum_z (λ d. cond (eqb (one d) s) (x d) (pos 0)) f.deals))
      ∙ ap (λ z. cond (of s) z (pos 0)) (sum_z-same (λ d. cond (eqb (one d) s) (x d) (pos 0))
      (λ d. pos (cond (one d == s) d.weight 0) *ℤ cond (eqb (two d) e) (v (out d)) (pos 0))
      (λ d. turn (one d == s) (two d == e) d.weight (v d.outcome) ∙ ap (λ z. pos (cond (one d == s) d.weight 0) *ℤ cond (two d == e) z (pos 0)) (same d))
      f.deals)) (signals_in f round)

  -- a class's sum against another: so many times that of its first member
  pub pair_is : (v : ℤ → ℤ) (c e s : ℕ) → ((d : Deal) → v d.outcome ≡ v (out d)) → s < signal_count f round → class_of lists round s ≡ c
      → pair_sum f lists lists round v c e ≡ near s v e *ℤ pos (class_size_of f lists round c)
  pair_is v c e s same l is =
      pair_by_members v c e same
      ∙ class_total_is f lists round (λ s. near s v e) c (near s v e) (λ t lt it. near_alike t s v e (record {
        first_in =
            lt;
        second_in = l;
        same = it ∙ sym is;
      }))
