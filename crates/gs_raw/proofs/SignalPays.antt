-- What the deals of signals pay at an end, from the plan of player 1 and what the end is worth there.
use Rattle.std.proofs.Common.{◌≡◌, ℕ, ℤ, pos, ◌+◌, ◌-◌, ◌*◌, ◌<◌, ◌≤◌, ◌^◌, ◌++◌, ◌∷◌, [], List, Bool, true, false, cond, length, get_or, refl, sym, ap, ◌∙◌}
use Rattle.std.proofs.Common.{subst, arith, sum_by, mul_left_comm, length-append, ⊎_elim}
use Rattle.std.proofs.{Math.IntN.{*ℤ-zero}, Math.Nat.{mul-le-mul_left}, lemmas.Bool.Decides.{Decides-eqb}, lemmas.Bool.{cases_eq, false≢true}}
use Rattle.std.proofs.{lemmas.List.{get_or_append_left, get_or_at}, lemmas.List.Elements.{All-filter}}
use Rattle.std.specs.{Prelude.{◌==◌, ◌*ℤ◌, All, filter, unsigned_abs}, List.{range_with_len}}
use Rattle.gs_filter.specs.Filter.{single_classes}
use Rattle.gs_filter.proofs.ClassLaws.{single_are_classes}
use Rattle.gs_lossless.specs.Amounts.{IsRunIn}
use Rattle.gs_model.specs.{BestAnswers.{end_worth}, Classes.{ClassLists, IsClass, first_member}, Deals.{Deal}}
use Rattle.gs_model.specs.{Frame.{Frame, at_round, end_count, last_round, payoff_to, round_of, signal_count}, FrameFacts.{InRange, IsWalked}}
use Rattle.gs_model.specs.{Payoff.{number_at_end}, Plans.{IsClassPlan, Plan, lift}, Positions.{at_end}}
use Rattle.gs_model.proofs.{Tables.{is_table}, Total.{mul_assoc_z, sum_z-mul, sum_z-same}, Basics.{product_le}}
use Rattle.gs_seq.specs.{Abstracts.{abstract_frame, lists_of}, Plans.{IsPlanOf, class_plan, lifted}, declared.form.Abstract.{Abstract}}
use Rattle.gs_seq.specs.declared.plan.Plan.{Plan as StoredPlan}
use Rattle.gs_seq.proofs.{Forms.{form_in_range, form_walked, form_signals}, Ends.{number_few}, RowFacts.{abs_all, sum-times}}
use Rattle.gs_best.proofs.{Chips.{IsModest, form_modest}, Rooms.{pos-product}}
use Rattle.gs_frac.specs.declared.value.Fraction.{Fraction}
use Rattle.gs_raw.specs.{Answers.{IsHandValueOf}, Hands.{deal_pays, hand_pays_at, plan_number_at_end, signal_pays, signal_weighs, signals_pay}}
use Rattle.gs_raw.proofs.{Numbers.{abs_scaled}, Spread.{single_class, single_member}, Sums.{IsInRun, filter_le, filter_sum, run_sum, run_weight_le}}

-- ---- one signal

-- the own number stands before what the other's makes of a deal
own_before : (w a b : ℕ) (p : ℤ) → pos (w * (a * b)) *ℤ p ≡ pos a *ℤ (pos (w * b) *ℤ p)
own_before w a b p =
    ap (λ n. pos n *ℤ p) (mul_left_comm w a b) ∙ ap (λ v. v *ℤ p) (sym (pos-product a (w * b))) ∙ mul_assoc_z (pos a) (pos (w * b)) p

-- what a plan's own number at a signal has to do with a deal of it
one_deal : (n : ℕ → ℕ) (k s w b : ℕ) (p : ℤ) (t : Bool) → (k == s) ≡ t → cond t (pos (w * (n k * b)) *ℤ p) (pos 0)
    ≡ pos (n s) *ℤ cond t (pos (w * b) *ℤ p) (pos 0)
one_deal n k s w b p true e = own_before w (n k) b p ∙ ap (λ m. pos (n m) *ℤ (pos (w * b) *ℤ p)) ((Decides-eqb k s).0 e)
one_deal n k s w b p false e = sym (*ℤ-zero (pos (n s)))

-- what the deals of a signal pay is the plan's number there times what the end is worth there
pub signal_share : (f : Frame) (x y : Plan) (z s : ℕ) → signal_pays f x y z s ≡ pos (number_at_end f 1 x z s) *ℤ end_worth f 1 y z s
signal_share f x y z s =
    let r = round_of f (at_end z) in
    let worth = λ (d : Deal). pos (d.weight * number_at_end f 2 y z (at_round f r d.two)) *ℤ payoff_to f 1 z d.outcome in
    filter_sum (deal_pays f x y z) (λ (d : Deal). at_round f r d.one == s) f.deals
    ∙ sum_z-same (λ (d : Deal). cond (at_round f r d.one == s) (deal_pays f x y z d) (pos 0))
    (λ d. pos (number_at_end f 1 x z s) *ℤ cond (at_round f r d.one == s) (worth d) (pos 0))
    (λ d. one_deal (number_at_end f 1 x z) (at_round f r d.one) s d.weight (number_at_end f 2 y z (at_round f r d.two)) (payoff_to f 1 z d.outcome)
    (at_round f r d.one == s) refl) f.deals
    ∙ sum_z-mul (pos (number_at_end f 1 x z s)) (λ (d : Deal). cond (at_round f r d.one == s) (worth d) (pos 0)) f.deals

-- ---- sizes

deal_small : (w a b : ℕ) (p : ℤ) → a ≤ 2 ^ 36 → b ≤ 2 ^ 36 → unsigned_abs p ≤ 4096 → unsigned_abs (pos (w * (a * b)) *ℤ p) ≤ (2 ^ 84) * w
deal_small w a b p la lb lp =
    let size = abs_scaled (w * (a * b)) p (pos (w * (a * b)) *ℤ p) refl in
    let both = product_le a b (2 ^ 36) (2 ^ 36) la lb in
    let up = mul-le-mul_left w both in
    let all = product_le (w * (a * b)) (unsigned_abs p) (w * (2 ^ 72)) 4096 (omega (arith, up)) lp in
    omega (arith, size, all)

module _ (f : Frame) (r : InRange f) (m : IsModest f) where
  -- a plan's number at a signal is at most its total
  pub raw_few : (p : ℕ) → (w : IsWalked f p) → (x : Plan) → IsClassPlan f (single_classes f.parents) p x → (z s : ℕ) → z < end_count f
      → s < signal_count f (round_of f (at_end z))
      → number_at_end f p (lift f (single_classes f.parents) x) z s ≤ 2 ^ 36
  raw_few p w x plan z s lz ls =
      let round = round_of f (at_end z) in
      let singles = single_classes f.parents in
      let some = w.end_round z lz in
      let top = w.end_in z lz in
      let here = single_class f round some top s ls in
      let member = single_member f round some top (s + 1) here in
      let is : first_member singles round (s + 1) ≡ s = omega (arith, member.1) in
      let less = number_few f singles p x z (s + 1) r w (single_are_classes f.parents) plan lz here in
      omega (arith, less, plan.total_in.1, ap (number_at_end f p (lift f singles x) z) is)

  module _ (w1 : IsWalked f 1) (w2 : IsWalked f 2) (x y : Plan) (px : IsClassPlan f (single_classes f.parents) 1 x)
      (py : IsClassPlan f (single_classes f.parents) 2 y) (z : ℕ) (lz : z < end_count f) where
    abbrev own : Plan
    own = lift f (single_classes f.parents) x

    abbrev other : Plan
    other = lift f (single_classes f.parents) y

    deals_small : All (λ (d : Deal). unsigned_abs (deal_pays f own other z d) ≤ (2 ^ 84) * d.weight) f.deals
    deals_small k e l =
        let d = get_or f.deals k e in
        let h = is_table f r in
        let some = w1.end_round z lz in
        let top = w1.end_in z lz in
        let j = round_of f (at_end z) in
        deal_small d.weight (plan_number_at_end f 1 own z d.one) (plan_number_at_end f 2 other z d.two) (payoff_to f 1 z d.outcome)
        (raw_few 1 w1 x px z (at_round f j d.one) lz (h.kept (last_round f) j d.one some top (r.ones k e l)))
        (raw_few 2 w2 y py z (at_round f j d.two) lz (h.kept (last_round f) j d.two some top (r.twos k e l)))
        (m.pays 1 z k e lz l)

    -- what the deals of a signal pay is small beside what they weigh
    pub signal_small : (s : ℕ) → unsigned_abs (signal_pays f own other z s) ≤ (2 ^ 84) * signal_weighs f z s
    signal_small s =
        let test = λ (d : Deal). at_round f (round_of f (at_end z)) d.one == s in
        let t = deal_pays f own other z in
        let a = abs_all t (λ d. (2 ^ 84) * d.weight) (filter test f.deals)
        (All-filter test (λ (d : Deal). unsigned_abs (t d) ≤ (2 ^ 84) * d.weight) f.deals deals_small) in
        omega (arith, a, sum-times (2 ^ 84) (λ (d : Deal). d.weight) (filter test f.deals))

-- the deals of a signal weigh no more than all
pub signal_weighs_le : (f : Frame) (z s : ℕ) → signal_weighs f z s ≤ sum_by (λ (d : Deal). d.weight) f.deals
signal_weighs_le f z s = filter_le (λ (d : Deal). d.weight) (λ (d : Deal). at_round f (round_of f (at_end z)) d.one == s) f.deals

-- the weight of the deals of `count` signals of an end's round, from `first` on
abbrev pub signals_weigh : Frame → ℕ → ℕ → ℕ → ℕ
signals_weigh f first count z = sum_by (signal_weighs f z) (range_with_len first count)

-- the deals of a run of signals weigh no more than all
pub signals_weigh_le : (f : Frame) (z first count : ℕ) → signals_weigh f first count z ≤ sum_by (λ (d : Deal). d.weight) f.deals
signals_weigh_le f z first count = run_weight_le (λ (d : Deal). at_round f (round_of f (at_end z)) d.one) (λ (d : Deal). d.weight) first count f.deals

-- ---- a run of signals

module _ (f : Frame) (r : InRange f) (w : IsWalked f 1) (z s first end : ℕ) (lz : z
    < end_count f) (run : IsRunIn f (round_of f (at_end z)) 1 s first end) where
  -- a deal's signal of the end's round is in the run where its signal of round 1 is this one
  dealt : All (λ (d : Deal). IsInRun (at_round f (round_of f (at_end z)) d.one) first (end - first) (at_round f 1 d.one == s)) f.deals
  dealt k e l =
      let x = (get_or f.deals k e).one in
      let h = is_table f r in
      let j = round_of f (at_end z) in
      let last = last_round f in
      let some = w.end_round z lz in
      let top = w.end_in z lz in
      let here = at_round f j x in
      let within = h.kept last j x some top (r.ones k e l) in
      let up = h.chain last j 1 x (omega (arith, some)) top in
      record {
        inside = λ t. (let i = run.inside here within (up ∙ (Decides-eqb (at_round f 1 x) s).0 t) in (i.0, omega (arith, i.0, i.1)));
        outside = λ t i lo hi same. (
            let back = run.back here (omega (arith, lo, same)) (omega (arith, hi, same, run.ordered)) in
            absurd (false≢true (sym t ∙ (Decides-eqb (at_round f 1 x) s).1 (sym up ∙ back))));
      }

  -- what the run's signals pay at an end is what the raw signal of round 1 does
  pub run_pays_hand : (x y : Plan) → signals_pay f x y first (end - first) z ≡ hand_pays_at f x y s z
  run_pays_hand x y = run_sum (λ (d : Deal). at_round f (round_of f (at_end z)) d.one) (λ (d : Deal). at_round f 1 d.one == s) (deal_pays f x y z) first (end
      - first) f.deals dealt

-- ---- of a game in sequence form over single signals

-- the class of a signal, and that signal as its first member
pub single_at : (a : Abstract) (lists : ClassLists) → lists ≡ single_classes (abstract_frame a).parents → (round s : ℕ) → 0 < round
    → round ≤ last_round (abstract_frame a) → s < signal_count (abstract_frame a) round
    → (IsClass lists round (s + 1)) × (first_member lists round (s + 1) ≡ s)
single_at a lists e round s some top ls =
    let f = abstract_frame a in
    let here = single_class f round some top s ls in
    let member = single_member f round some top (s + 1) here in
    let is : first_member (single_classes f.parents) round (s + 1) ≡ s = omega (arith, member.1) in
    (subst (λ ls. IsClass ls round (s + 1)) (sym e) here, ap (λ ls. first_member ls round (s + 1)) e ∙ is)

-- so is a signal of an end's round, and there are few
pub single_end : (a : Abstract) → lists_of a ≡ single_classes (abstract_frame a).parents → (z s : ℕ) → z < end_count (abstract_frame a)
    → s < signal_count (abstract_frame a) (round_of (abstract_frame a) (at_end z))
    → IsClass (lists_of a) (round_of (abstract_frame a) (at_end z)) (s + 1) × (first_member (lists_of a) (round_of (abstract_frame a) (at_end z)) (s + 1) ≡ s)
    × (s < 200000)
single_end a e z s l ls =
    let w = form_walked a 1 (omega arith) (omega arith) in
    let round = round_of (abstract_frame a) (at_end z) in
    let h = single_at a (lists_of a) e round s (w.end_round z l) (w.end_in z l) ls in
    (h.0, h.1, omega (arith, ls, form_signals a round (w.end_round z l) (w.end_in z l)))

-- what the deals of a signal pay is small beside what they weigh
pub small_of : (a : Abstract) (lists : ClassLists) → lists ≡ single_classes (abstract_frame a).parents → (one two : StoredPlan)
    → IsPlanOf (abstract_frame a) lists 1 one
    → IsPlanOf (abstract_frame a) lists 2 two → (z s : ℕ) → z < end_count (abstract_frame a)
    → unsigned_abs (signal_pays (abstract_frame a) (lifted (abstract_frame a) lists one) (lifted (abstract_frame a) lists two) z s) ≤ (2 ^ 84) * signal_weighs
    (abstract_frame a) z s
small_of a lists e one two p q z s lz =
    let f = abstract_frame a in
    let singles = single_classes f.parents in
    let p' = subst (λ ls. IsPlanOf f ls 1 one) e p in
    let q' = subst (λ ls. IsPlanOf f ls 2 two) e q in
    subst (λ ls. unsigned_abs (signal_pays f (lifted f ls one) (lifted f ls two) z s) ≤ (2 ^ 84) * signal_weighs f z s) (sym e)
    (signal_small f (form_in_range a) (form_modest a) (form_walked a 1 (omega arith) (omega arith)) (form_walked a 2 (omega arith) (omega arith))
    (class_plan f singles one) (class_plan f singles two) p'.plan.plan q'.plan.plan z lz s)

-- ---- hands one behind another

-- the values of the first raw signals of round 1
pub record HandsTo (f : Frame) (first : ClassLists) (x : StoredPlan) (second : ClassLists) (y : StoredPlan) (n : ℕ) (hands : List Fraction) : Type 0 where
  pub long : length hands ≡ n
  pub each : (s : ℕ) (d : Fraction) → s < n → IsHandValueOf f first x second y s (get_or hands s d)

module _ (f : Frame) (first : ClassLists) (x : StoredPlan) (second : ClassLists) (y : StoredPlan) where
  pub hands_none : HandsTo f first x second y 0 []
  hands_none = record { long = refl; each = λ s d l. absurd (omega arith) }

  -- one hand more
  pub hands_more : (n : ℕ) (xs ys : List Fraction) (v : Fraction) → HandsTo f first x second y n xs → ys ≡ xs ++ v ∷ [] → IsHandValueOf f first x second y n v
      → HandsTo f first x second y (n + 1) ys
  hands_more n xs ys v h is hand = subst (HandsTo f first x second y (n + 1)) (sym is) (record {
    long = omega (arith, length-append xs (v ∷ []), h.long);
    each = λ s d l. ⊎_elim
        (λ (here : s ≡ n). subst (λ k. IsHandValueOf f first x second y k (get_or (xs ++ v ∷ []) k d)) (sym here)
        (subst (IsHandValueOf f first x second y n) (sym (get_or_at xs v [] d n h.long)) hand))
        (λ other.
        let under : s < n = omega (arith, l, other) in
        subst (IsHandValueOf f first x second y s) (sym (get_or_append_left xs (v ∷ []) d s (omega (arith, under, h.long)))) (h.each s d under))
        (cases_eq s n);
  })
