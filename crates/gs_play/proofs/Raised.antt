-- What one more at a step adds: to what ends pay, and to what is gathered_below of one class.
use Rattle.std.proofs.Common.{◌≡◌, ◌≢◌, ℕ, zero, suc, ◌+◌, ◌<◌, ◌≤◌, Bool, true, cond, refl, sym, ap, ◌∙◌, arith, ⊎_elim, Option, Some, None}
use Rattle.std.specs.{Prelude.{◌==◌, ℤ, pos, ◌+ℤ◌, ◌-ℤ◌, ◌*ℤ◌}, List.{range_with_len}}
use Rattle.std.proofs.{Math.IntN.{*ℤ_comm}, lemmas.Bool.{cases_eq}, lemmas.Bool.Decides.{Decides-eqb}, lemmas.Int.{ints}}
use borrow.Author.Differences.{product_is}
use Rattle.gs_model.specs.{BestAnswers.{Values}, Classes.{ClassLists, IsClass, class_count, classes_in, first_member}, Pairs.{pair_sum}, Sums.{sum_z}}
use Rattle.gs_model.specs.{Frame.{Frame, end_count, last_step, other_player, payoff_to, round_of}, Plans.{Plan, lift, number_before}}
use Rattle.gs_model.specs.Positions.{Step, at_end, at_point}
use Rattle.gs_model.proofs.{Basics.{not_eq}, Sparse.{sum_none}, Total.{mul-add_right, sum_z-add, sum_z-same}}
use Rattle.gs_best.proofs.Ranges.{sum_same}
use Rattle.gs_seq.specs.Payoffs.{end_sum}
use Rattle.gs_best.specs.ClassTotals.{earlier_class, gathered_below}
use Rattle.gs_play.specs.{Jumps.{line}, Tables.{raise_sum}}
use Rattle.gs_play.proofs.{SumLaws.{ArePaid}, Turning.{turned_now}}

-- a plan of a player has one more at a step and a class, and is elsewhere as it was
pub record IsRaised (f : Frame) (lists : ClassLists) (u : Step) (e : ℕ) (old new : Plan) : Type 0 where
  pub total : new.total ≡ old.total
  pub here : new.number u.point e u.choice ≡ old.number u.point e u.choice + 1
  pub elsewhere : (q c m : ℕ) → (q ≡ u.point → c ≡ e → m ≡ u.choice → ⊥) → new.number q c m ≡ old.number q c m

-- ---- ends

one_more : (n : ℕ) (x : ℤ) → pos (n + 1) *ℤ x ≡ pos n *ℤ x +ℤ x
one_more n x =
    let whole : pos (n + 1) ≡ pos n +ℤ pos 1 = omega (arith, ints) in
    let once : x *ℤ pos 1 ≡ x = omega (arith, ints, product_is x (pos 1)) in
    *ℤ_comm (pos (n + 1)) x ∙ ap (λ i. x *ℤ i) whole ∙ mul-add_right x (pos n) (pos 1) ∙ ap (λ i. i +ℤ x *ℤ pos 1) (*ℤ_comm x (pos n))
    ∙ ap (λ i. pos n *ℤ x +ℤ i) once

-- a term of the sum at an end, by whether its class is below the raised one
raised_term : (a e n n' : ℕ) (x : ℤ) → (a ≡ e → n' ≡ n + 1) → (a ≢ e → n' ≡ n) → pos n' *ℤ x ≡ pos n *ℤ x +ℤ cond (a == e) x (pos 0)
raised_term a e n n' x more same = ⊎_elim
    (λ (is : a ≡ e). ap (λ i. pos i *ℤ x) (more is) ∙ one_more n x ∙ ap (λ b. pos n *ℤ x +ℤ cond b x (pos 0)) (sym ((Decides-eqb a e).1 is)))
    (λ (no : a ≡ e → ⊥). ap (λ i. pos i *ℤ x) (same no) ∙ (let z : pos n *ℤ x ≡ pos n *ℤ x +ℤ pos 0 = omega (arith, ints) in z)
    ∙ ap (λ b. pos n *ℤ x +ℤ cond b x (pos 0)) (sym (not_eq a e no)))
    (cases_eq a e)

module _ (f : Frame) (lists : ClassLists) (player : ℕ) (u : Step) (e : ℕ) (old new : Plan) (raised : IsRaised f lists u e old new) where
  -- ends behind the step
  pub end_raised : (z c : ℕ) → last_step f (other_player player) (at_end z) ≡ Some u
      → end_sum f lists player new z c ≡ end_sum f lists player old z c +ℤ raise_sum f lists player z u e c
  end_raised z c is =
      let round = round_of f (at_end z) in
      let pay : ℕ → ℤ = λ k. pair_sum f lists lists round (payoff_to f player z) c k in
      let above : ℕ → ℕ = λ k. earlier_class f lists round (round_of f (at_point u.point)) k in
      let number : Plan → ℕ → ℕ = λ x k. number_before f (lift f lists x) (last_step f (other_player player) (at_end z)) round (first_member lists round k) in
      let at_step : (x : Plan) (k : ℕ) → number x k ≡ x.number u.point (above k) u.choice = λ x k.
      ap (λ o. number_before f (lift f lists x) o round (first_member lists round k)) is in
      sum_z-same (λ k. pos (number new k) *ℤ pay k) (λ k. pos (number old k) *ℤ pay k +ℤ cond (above k == e) (pay k) (pos 0))
      (λ k. raised_term (above k) e (number old k) (number new k) (pay k)
      (λ same. at_step new k ∙ ap (λ i. new.number u.point i u.choice) same ∙ raised.here ∙ ap (λ i. old.number u.point i u.choice + 1) (sym same)
      ∙ ap (λ i. i + 1) (sym (at_step old k)))
      (λ other. at_step new k ∙ raised.elsewhere u.point (above k) u.choice (λ _ same _. other same) ∙ sym (at_step old k)))
      (classes_in lists round)
      ∙ sum_z-add (λ k. pos (number old k) *ℤ pay k) (λ k. cond (above k == e) (pay k) (pos 0)) (classes_in lists round)

  -- and all others
  pub end_kept : (z c : ℕ) → last_step f (other_player player) (at_end z) ≢ Some u → end_sum f lists player new z c ≡ end_sum f lists player old z c
  end_kept z c other =
      let round = round_of f (at_end z) in
      let pay : ℕ → ℤ = λ k. pair_sum f lists lists round (payoff_to f player z) c k in
      sum_z-same
      (λ k. pos (number_before f (lift f lists new) (last_step f (other_player player) (at_end z)) round (first_member lists round k)) *ℤ pay k)
      (λ k. pos (number_before f (lift f lists old) (last_step f (other_player player) (at_end z)) round (first_member lists round k)) *ℤ pay k)
      (λ k. ap (λ n. pos n *ℤ pay k) (by (last_step f (other_player player) (at_end z)) refl k)) (classes_in lists round)
    where
      by : (o : Option Step) → last_step f (other_player player) (at_end z) ≡ o → (k : ℕ)
          → number_before f (lift f lists new) o (round_of f (at_end z)) (first_member lists (round_of f (at_end z)) k)
          ≡ number_before f (lift f lists old) o (round_of f (at_end z)) (first_member lists (round_of f (at_end z)) k)
      by None is k = raised.total
      by (Some w) is k = raised.elsewhere w.point _ w.choice (λ p _ m. other (is ∙ ap Some (step_is w u p m)))
        where
          step_is : (w u : Step) → w.point ≡ u.point → w.choice ≡ u.choice → w ≡ u
          step_is w u p m = ap (λ i. record { point = i; choice = w.choice }) p ∙ ap (λ i. record { point = u.point; choice = i }) m

-- ---- lines that turn at ends

module _ (f : Frame) (lists : ClassLists) (player : ℕ) (y b : Plan) (at slope : Values) (now : ℕ) (paid : ArePaid f lists player y b at slope now) where
  -- the other's plan per turn becomes another one: what it pays more turns the lines, which keep their place of now
  pub paid_turned : (b' : Plan) (at' slope' : Values) (more : ℕ → ℕ → ℤ)
      → ((z c : ℕ) → z < end_count f → IsClass lists (round_of f (at_end z)) c → end_sum f lists player b' z c ≡ end_sum f lists player b z c +ℤ more z c)
      → ((z c : ℕ) → z < end_count f → IsClass lists (round_of f (at_end z)) c → at' (at_end z) c ≡ at (at_end z) c -ℤ pos now *ℤ more z c)
      → ((z c : ℕ) → z < end_count f → IsClass lists (round_of f (at_end z)) c → slope' (at_end z) c ≡ slope (at_end z) c +ℤ more z c)
      → ArePaid f lists player y b' at' slope' now
  paid_turned b' at' slope' more pays a s = record {
    so_far = λ z c lz lc.
        ap (λ x. line x (slope' (at_end z) c) now) (a z c lz lc)
        ∙ ap (λ x. line (at (at_end z) c -ℤ pos now *ℤ more z c) x now) (s z c lz lc)
        ∙ turned_now (at (at_end z) c) (slope (at_end z) c) (more z c) now
        ∙ paid.so_far z c lz lc;
    each = λ z c lz lc. s z c lz lc ∙ ap (λ x. x +ℤ more z c) (paid.each z c lz lc) ∙ sym (pays z c lz lc);
  }

-- ---- one class of a later round

-- a sum in which one term differs
sum_with : (u v : ℕ → ℤ) (k : ℕ) (more : ℤ) (a n : ℕ) → a ≤ k → k < a + n → v k ≡ u k +ℤ more → ((m : ℕ) → a ≤ m → m < a + n → m ≢ k → v m ≡ u m)
    → sum_z v (range_with_len a n) ≡ sum_z u (range_with_len a n) +ℤ more
sum_with u v k more a n lo hi here elsewhere =
    let only : ℕ → ℤ = λ m. cond (m == k) more (pos 0) in
    let term : (m : ℕ) → a ≤ m → m < a + n → v m ≡ u m +ℤ only m = λ m low high. ⊎_elim
    (λ (is : m ≡ k). ap v is ∙ here ∙ ap (λ i. u i +ℤ more) (sym is) ∙ ap (λ c. u m +ℤ cond c more (pos 0)) (sym ((Decides-eqb m k).1 is)))
    (λ (no : m ≡ k → ⊥). elsewhere m low high no ∙ (let z : u m ≡ u m +ℤ pos 0 = omega (arith, ints) in z)
    ∙ ap (λ c. u m +ℤ cond c more (pos 0)) (sym (not_eq m k no)))
    (cases_eq m k) in
    sum_same v (λ m. u m +ℤ only m) a n term ∙ sum_z-add u only (range_with_len a n) ∙ ap (λ s. sum_z u (range_with_len a n) +ℤ s) (single a n lo hi)
  where
    single : (a n : ℕ) → a ≤ k → k < a + n → sum_z (λ m. cond (m == k) more (pos 0)) (range_with_len a n) ≡ more
    single a zero lo hi = absurd (omega (arith, lo, hi))
    single a (suc n) lo hi = ⊎_elim
        (λ (is : a ≡ k).
        let head : cond (a == k) more (pos 0) ≡ more = ap (λ c. cond c more (pos 0)) ((Decides-eqb a k).1 is) in
        let rest = sum_none (λ m. cond (m == k) more (pos 0)) (a + 1) n (λ m lo' hi'. ap (λ c. cond c more (pos 0)) (not_eq m k (omega (arith, lo', is)))) in
        omega (arith, ints, head, rest))
        (λ (no : a ≡ k → ⊥).
        let head : cond (a == k) more (pos 0) ≡ pos 0 = ap (λ c. cond c more (pos 0)) (not_eq a k no) in
        let rest = single (a + 1) n (omega (arith, lo, no)) (omega (arith, hi)) in
        omega (arith, ints, head, rest))
        (cases_eq a k)

-- where the number of one class changes, what is gathered_below changes by as much at the class above it, and nowhere else
pub gathered_with : (f : Frame) (lists : ClassLists) (from to : ℕ) (v w : ℕ → ℤ) (k : ℕ) (more : ℤ) → IsClass lists from k → w k ≡ v k +ℤ more
    → ((m : ℕ) → IsClass lists from m → m ≢ k → w m ≡ v m) → gathered_below f lists from to w (earlier_class f lists from to k) ≡ gathered_below f lists from to
    v (earlier_class f lists from to k) +ℤ more
gathered_with f lists from to v w k more lk here elsewhere =
    let c = earlier_class f lists from to k in
    let b : (m : ℕ) → Bool = λ m. earlier_class f lists from to m == c in
    let yes : (earlier_class f lists from to k == c) ≡ true = (Decides-eqb c c).1 refl in
    sum_with (λ m. cond (earlier_class f lists from to m == c) (v m) (pos 0)) (λ m. cond (earlier_class f lists from to m == c) (w m) (pos 0)) k more 1
    (class_count lists from) lk.0 (omega (arith, lk.1))
    (ap (λ t. cond t (w k) (pos 0)) yes ∙ here ∙ ap (λ t. cond t (v k) (pos 0) +ℤ more) (sym yes))
    (λ m low high no. ap (λ x. cond (earlier_class f lists from to m == c) x (pos 0)) (elsewhere m (low, omega (arith, high)) no))
