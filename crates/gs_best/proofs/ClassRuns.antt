-- Over lossless classes the classes of a later round below a class are a run of numbers: those whose first members descend from the class's first member.
use Rattle.std.proofs.Common.{◌≡◌, ℕ, ◌+◌, ◌-◌, ◌<◌, ◌≤◌, Bool, true, false, cond, List, get_or, refl, sym, ap, ◌∙◌, subst, arith, ⊎_elim}
use Rattle.std.proofs.{lemmas.Bool.{cases_eq, cases_lt}, lemmas.Bool.Decides.{Decides-eqb}, lemmas.List.FromFn.{get_or-range_with_len, length-range_with_len}}
use Rattle.std.proofs.lemmas.List.Sums.{get_or-le-sum_by, sum_by-le}
use Rattle.std.specs.{Prelude.{◌==◌, All, sum_by}, List.{position_or_len}}
use Rattle.gs_model.specs.{Classes.{ClassLists, IsClass, IsClasses, class_count, class_of, first_member, list_of}, Numbering.{IsNumbered, greatest}}
use Rattle.gs_model.specs.{Frame.{Frame, ancestor, last_round, signal_count, signals_in}, FrameFacts.{InRange}, Lossless.{IsLossless}}
use Rattle.gs_model.proofs.{Alike.{descend_alike, keeps_from, kin_above}, Gather.{class_in, member_in}, Numbered.{occurs}, Tables.{is_table}}
use Rattle.gs_filter.proofs.TallyLaws.{first_before, first_in, first_member_of}
use Rattle.gs_lossless.specs.Amounts.{IsRunIn}
use Rattle.gs_best.specs.{ClassTotals.{earlier_class}, Runs.{IsClassRun}}
use Rattle.gs_best.proofs.Shares.{first_class}

-- ---- first members

-- first members rise with the numbers of their classes
pub firsts_rise : (xs : List ℕ) → IsNumbered xs → (k m : ℕ) → 0 < k → k < m → m ≤ greatest xs
    → position_or_len (λ x. x == k) xs < position_or_len (λ x. x == m) xs
firsts_rise xs h k m some less top =
    let at = position_or_len (λ x. x == m) xs in
    let in' = first_in xs m h (omega arith) top in
    let here = first_member_of xs m h (omega arith) top in
    let n = h at in' in
    let r = occurs xs h at k (omega arith) some (omega (arith, n.1, here)) in
    let b = r.before in
    let i : position_or_len (λ x. x == k) xs ≤ r.at = subst (λ v. position_or_len (λ x. x == v) xs ≤ r.at) r.here (first_before xs r.at) in
    omega (arith, b, i)

-- ---- ancestors

-- ancestors do not fall along a round
abbrev pub Rising : Frame → Type 0
Rising f = (j i s u : ℕ) → 0 < i → i ≤ j → j ≤ last_round f → s ≤ u → u < signal_count f j → ancestor f j i s ≤ ancestor f j i u

-- ---- counts

none : {X : Type 0} (g : X → ℕ) (xs : List X) → All (λ x. g x ≡ 0) xs → sum_by g xs ≡ 0
none g xs h = let all = sum_by-le g 0 xs (λ n d l. let z = h n d l in omega (arith, z)) in omega (arith, all)

both : (a b : Bool) → a ≡ true → b ≡ true → cond a (cond {A = ℕ} b 1 0) 0 ≡ 1
both a b p q = ap (λ a. cond a (cond {A = ℕ} b 1 0) 0) p ∙ ap (λ b. cond {A = ℕ} b 1 0) q

neither : (a b : Bool) → (a ≡ true → b ≡ true → ⊥) → cond a (cond {A = ℕ} b 1 0) 0 ≡ 0
neither true true h = absurd (h refl refl)
neither true false h = refl
neither false b h = refl

module _ (f : Frame) (r : InRange f) (lists : ClassLists) (k : IsClasses f.parents lists) (lossless : IsLossless f lists) (rising : Rising f)
    (j i c : ℕ) (some : 0 < j) (onward : j ≤ i) (top : i ≤ last_round f) (lc : IsClass lists j c) where
  abbrev above : ℕ → ℕ
  above e = earlier_class f lists i j e

  abbrev member : ℕ → ℕ
  member e = first_member lists i e

  abbrev chief : ℕ
  chief = first_member lists j c

  first_is : (e : ℕ) → IsClass lists i e → class_of lists i (member e) ≡ e
  first_is e le = first_class f lists k i e (omega arith) top le

  chief_is : class_of lists j chief ≡ c
  chief_is = first_class f lists k j c some (omega arith) lc

  -- a class below c has a member among the descendants of c's first member
  meets : (e : ℕ) → IsClass lists i e → above e ≡ c
      → ((x : ℕ) → x < signal_count f i → class_of lists i x ≡ e → ancestor f i j x ≡ chief → ⊥) → ⊥
  meets e le is never =
      let h = is_table f r in
      let x = member e in
      let lx = member_in f lists k i e (omega arith) top le in
      let t = ancestor f i j x in
      let same = descend_alike f h lists lossless j t chief some (record {
        first_in = h.kept i j x some onward lx;
        second_in = member_in f lists k j c some (omega arith) lc;
        same = is ∙ sym chief_is;
      }) (i - j) i e (omega arith) top in
      let term = λ (y : ℕ). cond (class_of lists i y == e) (cond {A = ℕ} (ancestor f i j y == t) 1 0) 0 in
      let at : get_or (signals_in f i) x 0 ≡ x = omega (arith, get_or-range_with_len 0 (signal_count f i) x 0 lx) in
      let one : term (get_or (signals_in f i) x 0) ≡ 1 = ap term at
      ∙ both (class_of lists i x == e) (t == t) ((Decides-eqb (class_of lists i x) e).1 (first_is e le)) ((Decides-eqb t t).1 refl) in
      let some_there = get_or-le-sum_by term (signals_in f i) x 0 (omega (arith, length-range_with_len 0 (signal_count f i), lx)) in
      let none_here : sum_by (λ y. cond (class_of lists i y == e) (cond {A = ℕ} (ancestor f i j y == chief) 1 0) 0) (signals_in f i) ≡ 0 =
      none (λ y. cond (class_of lists i y == e) (cond {A = ℕ} (ancestor f i j y == chief) 1 0) 0) (signals_in f i)
      (λ n d l. let y = get_or (signals_in f i) n d in
      let ln : n < signal_count f i = omega (arith, l, length-range_with_len 0 (signal_count f i)) in
      let ly : y < signal_count f i = omega (arith, get_or-range_with_len 0 (signal_count f i) n d ln, ln) in
      neither (class_of lists i y == e) (ancestor f i j y == chief)
      (λ p q. never y ly ((Decides-eqb (class_of lists i y) e).0 p) ((Decides-eqb (ancestor f i j y) chief).0 q))) in
      absurd (omega (arith, one, some_there, same, none_here))

  -- the first member of a class descends from c's first member exactly where the class is below c
  module _ (a z : ℕ) (run : IsRunIn f i j chief a z) where
    below_back : (e : ℕ) → IsClass lists i e → a ≤ member e → member e < z → above e ≡ c
    below_back e le lo hi = ap (class_of lists j) (run.back (member e) lo hi) ∙ chief_is

    below_in : (e : ℕ) → IsClass lists i e → above e ≡ c → (a ≤ member e) × (member e < z)
    below_in e le is =
        let h = is_table f r in
        let x = member e in
        let lx = member_in f lists k i e (omega arith) top le in
        let t = ancestor f i j x in
        let li = k.lengths i (omega arith) top in
        let lj = k.lengths j some (omega arith) in
        let lt = h.kept i j x some onward lx in
        let early : chief ≤ t = subst (λ v. position_or_len (λ y. y == v) (list_of lists j) ≤ t) is (first_before (list_of lists j) t) in
        let high : x < z = ⊎_elim (λ (under : x < z). under)
        (λ (over : z ≤ x). absurd (meets e le is (λ y ly ey ay.
        let at = run.inside y ly ay in
        let first : x ≤ y = subst (λ v. position_or_len (λ q. q == v) (list_of lists i) ≤ y) ey (first_before (list_of lists i) y) in
        omega (arith, at.0, at.1, first, over)))) (cases_lt x z) in
        let low : a ≤ x = ⊎_elim
        (λ (under : x < a).
        let la : a < z = ⊎_elim (λ (lt : a < z). lt)
        (λ (over : z ≤ a). absurd (meets e le is (λ y ly ey ay. let at = run.inside y ly ay in omega (arith, at.0, at.1, over)))) (cases_lt a z) in
        let from = run.back a (omega arith) la in
        let up = rising i j x a some onward top (omega (arith, under)) (omega (arith, la, run.within)) in
        let t_is : t ≡ chief = omega (arith, up, from, early) in
        (run.inside x lx t_is).0)
        (λ (over : a ≤ x). over) (cases_lt x a) in
        (low, high)

    -- so they are a run: from the class of the first descendant on
    module _ (la : a < z) where
      low_in : IsClass lists i (class_of lists i a)
      low_in = class_in f lists k i a (omega arith) top (omega (arith, la, run.within))

      pub low_below : above (class_of lists i a) ≡ c
      low_below =
          let h = is_table f r in
          kin_above f h lists (keeps_from f lists k.filter) j (i - j) i (member (class_of lists i a)) a some (omega arith) top (record {
            first_in = member_in f lists k i (class_of lists i a) (omega arith) top low_in;
            second_in = omega (arith, la, run.within);
            same = first_is (class_of lists i a) low_in;
          })
          ∙ ap (class_of lists j) (run.back a (omega arith) la) ∙ chief_is

      low_first : member (class_of lists i a) ≡ a
      low_first =
          let lo = (below_in (class_of lists i a) low_in low_below).0 in
          let hi = first_before (list_of lists i) a in
          omega (arith, lo, hi)

      rises : (e m : ℕ) → IsClass lists i e → IsClass lists i m → e < m → member e < member m
      rises e m le lm less = firsts_rise (list_of lists i) (k.numbered i (omega arith) top) e m le.0 less lm.1

      pub below_from : (e : ℕ) → IsClass lists i e → above e ≡ c → class_of lists i a ≤ e
      below_from e le is = ⊎_elim
          (λ (under : e < class_of lists i a). absurd (let lo = (below_in e le is).0 in let up = rises e (class_of lists i a) le low_in under in
          omega (arith, lo, up, low_first)))
          (λ (over : class_of lists i a ≤ e). over) (cases_lt e (class_of lists i a))

      -- from there on each class whose first member is within the run is below c
      pub below_until : (e : ℕ) → class_of lists i a ≤ e → IsClass lists i e → member e < z → above e ≡ c
      below_until e lo le hi = below_back e le (⊎_elim
          (λ (same : e ≡ class_of lists i a). omega (arith, ap (first_member lists i) same, low_first))
          (λ (other : e ≡ class_of lists i a → ⊥). let up = rises (class_of lists i a) e low_in le (omega (arith, lo, other)) in omega (arith, up, low_first))
          (cases_eq e (class_of lists i a))) hi

      -- and behind the first one whose first member is not, none is
      pub below_none : (m e : ℕ) → IsClass lists i m → z ≤ member m → IsClass lists i e → m ≤ e → above e ≡ c → ⊥
      below_none m e lm out le after is =
          let hi = (below_in e le is).1 in
          ⊎_elim
          (λ (same : e ≡ m). omega (arith, ap (first_member lists i) same, hi, out))
          (λ (other : e ≡ m → ⊥). let up = rises m e lm le (omega (arith, after, other)) in omega (arith, up, hi, out))
          (cases_eq e m)

    -- where c's first member has no descendants, no class is below c
    pub below_nothing : z ≤ a → (e : ℕ) → IsClass lists i e → above e ≡ c → ⊥
    below_nothing none e le is = let w = below_in e le is in omega (arith, w.0, w.1, none)

    -- the run, where none is below c from its end on
    pub run_until : (first end : ℕ) → a < z → first ≡ class_of lists i a → first ≤ end → end ≤ class_count lists i + 1
        → ((e : ℕ) → first ≤ e → e < end → above e ≡ c) → ((e : ℕ) → IsClass lists i e → end ≤ e → above e ≡ c → ⊥)
        → IsClassRun f lists i j c first end
    run_until first end la is ordered within back none = record {
      some = omega (arith, is, (low_in la).0);
      ordered = ordered;
      within = within;
      inside = λ e le here. (
        omega (arith, is, below_from la e le here),
        ⊎_elim (λ (under : e < end). under) (λ (over : end ≤ e). absurd (none e le over here)) (cases_lt e end),
      );
      back = back;
    }

    pub run_none : z ≤ a → IsClassRun f lists i j c 1 1
    run_none none = record {
      some = omega arith;
      ordered = omega arith;
      within = omega arith;
      inside = λ e le here. absurd (below_nothing none e le here);
      back = λ e lo hi. absurd (omega arith);
    }
