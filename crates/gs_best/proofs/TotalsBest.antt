-- Best class totals are best values times sizes: with them come the same first best moves.
use Rattle.std.proofs.{Common.{◌≡◌, ℕ, zero, suc, ◌+◌, ◌*◌, ◌/◌, ◌<◌, ◌≤◌, sym, ap, ◌∙◌, subst, arith, ⊎_elim}, Math.IntN.{*ℤ_comm, pos-*ℤ-pos}}
use Rattle.std.proofs.{Math.Nat.{mul-div_cancel_left, mul-le-mul_left}, lemmas.Bool.{cases_eq, cases_lt}, lemmas.Int.{ints}}
use Rattle.std.specs.Prelude.{ℤ, pos, negsuc, neg_ℤ, ◌*ℤ◌, ◌≤ℤ◌, ◌<ℤ◌}
use borrow.Author.Differences.{up, down, product_is, le_out, lt_out}
use Rattle.gs_model.specs.{BestAnswers.{IsBestValues, Values, class_worth, end_worth}, Classes.{ClassLists, IsClass, IsClasses, class_size, first_member}}
use Rattle.gs_model.specs.{Frame.{Frame, choices_at, end_count, leads_to, move_count, player_at, point_count, round_of}, Sums.{sum_z}}
use Rattle.gs_model.specs.{FrameFacts.{InRange, IsInside, IsWalked}, Lossless.{IsLossless}, Plans.{Plan, lift}, Positions.{Target, at_end, at_point}}
use Rattle.gs_model.proofs.Total.{sum_z-mul}
use Rattle.gs_best.specs.ClassTotals.{AreFirstGreatest, IsFollowed, total_worth}
use Rattle.gs_best.proofs.{Ranges.{sum_same}, Shares.{end_share, some_member}, Last.{IsLast, all_last, next_last}, WorthTotals.{worth_total}}

-- ---- division by a size

abbrev pub share : ℤ → ℕ → ℤ
share (pos a) n = pos (a / n)
share (negsuc a) n = neg_ℤ (pos (suc a / n))

below_zero : (n b : ℕ) (x : ℤ) → 0 < n → up x ≡ 0 → down x ≡ n * suc b → share x n ≡ negsuc b
below_zero n b (pos a) some u d = absurd (omega arith)
below_zero n b (negsuc a) some u d = ap (λ m. neg_ℤ (pos (m / n))) d ∙ ap (λ m. neg_ℤ (pos m)) (mul-div_cancel_left (suc b) {n = n} some)

pub share_times : (n : ℕ) (a : ℤ) → 0 < n → share (pos n *ℤ a) n ≡ a
share_times n (pos b) some = ap (λ x. share x n) (pos-*ℤ-pos n b) ∙ ap pos (mul-div_cancel_left b {n = n} some)
share_times n (negsuc b) some =
    let p = product_is (pos n) (negsuc b) in
    below_zero n b (pos n *ℤ negsuc b) some (omega (arith, p.0)) (omega (arith, p.1))

nat_le_back : (n a b : ℕ) → 0 < n → n * a ≤ n * b → a ≤ b
nat_le_back n a b some l = ⊎_elim (λ (more : b < a). let m = mul-le-mul_left n more in absurd (omega (arith, m, l, some))) (λ le. le) (cases_lt b a)

nat_lt_back : (n a b : ℕ) → n * a < n * b → a < b
nat_lt_back n a b l = ⊎_elim (λ lt. lt) (λ (le : b ≤ a). let m = mul-le-mul_left n le in absurd (omega (arith, m, l))) (cases_lt a b)

pub times_le_back : (n : ℕ) (a b : ℤ) → 0 < n → (pos n *ℤ a) ≤ℤ (pos n *ℤ b) → a ≤ℤ b
times_le_back n a b some l =
    let p = product_is (pos n) a in let q = product_is (pos n) b in
    let wide : n * (up a + down b) ≤ n * (up b + down a) = omega (arith, le_out (pos n *ℤ a) (pos n *ℤ b) l, p.0, p.1, q.0, q.1) in
    let back = nat_le_back n (up a + down b) (up b + down a) some wide in
    omega (arith, ints, back)

pub times_lt_back : (n : ℕ) (a b : ℤ) → (pos n *ℤ a) <ℤ (pos n *ℤ b) → a <ℤ b
times_lt_back n a b l =
    let p = product_is (pos n) a in let q = product_is (pos n) b in
    let wide : n * (up a + down b) < n * (up b + down a) = omega (arith, lt_out (pos n *ℤ a) (pos n *ℤ b) l, p.0, p.1, q.0, q.1) in
    let back = nat_lt_back n (up a + down b) (up b + down a) wide in
    omega (arith, ints, back)

-- ---- values from totals, backwards

module _ (f : Frame) (r : InRange f) (lists : ClassLists) (k : IsClasses f.parents lists) (lossless : IsLossless f lists) (player : ℕ) (w : IsWalked f player)
    (y : Plan) (V : Values) (move : ℕ → ℕ → ℕ)
    (h : IsFollowed f lists player y V move) where
  abbrev size : Target → ℕ → ℕ
  size g c = class_size lists (round_of f g) c

  -- the values of first members
  abbrev W : Values
  W g c = share (V g c) (size g c)

  some_size : (g : Target) (c : ℕ) → IsInside f g → IsClass lists (round_of f g) c → 0 < size g c
  some_size (at_point q) c i lc = some_member f lists k (round_of f (at_point q)) c (w.some_round q i) (w.point_in q i) lc
  some_size (at_end z) c i lc = some_member f lists k (round_of f (at_end z)) c (w.end_round z i) (w.end_in z i) lc

  value_is : (g : Target) (c : ℕ) (a : ℤ) → IsInside f g → IsClass lists (round_of f g) c → V g c ≡ pos (size g c) *ℤ a → W g c ≡ a
  value_is g c a i lc e = ap (λ x. share x (size g c)) e ∙ share_times (size g c) a (some_size g c i lc)

  sized_by : (g : Target) (c : ℕ) (a : ℤ) → IsInside f g → IsClass lists (round_of f g) c → V g c ≡ pos (size g c) *ℤ a → V g c ≡ pos (size g c) *ℤ W g c
  sized_by g c a i lc e = e ∙ ap (λ x. pos (size g c) *ℤ x) (sym (value_is g c a i lc e))

  abbrev AreSized : Target → Type 0
  AreSized g = (c : ℕ) → IsClass lists (round_of f g) c → V g c ≡ pos (size g c) *ℤ W g c

  end_is : (z c : ℕ) → z < end_count f → IsClass lists (round_of f (at_end z)) c
      → V (at_end z) c ≡ pos (size (at_end z) c) *ℤ end_worth f player (lift f lists y) z (first_member lists (round_of f (at_end z)) c)
  end_is z c lz lc =
      h.at_ends z c lz lc ∙ end_share f r lists k lossless player w y z c lz lc
      ∙ *ℤ_comm (end_worth f player (lift f lists y) z (first_member lists (round_of f (at_end z)) c)) (pos (size (at_end z) c))

  own_is : (q c : ℕ) → q < point_count f → player_at f q ≡ player → IsClass lists (round_of f (at_point q)) c → AreSized (leads_to f q (move q c))
      → V (at_point q) c ≡ pos (size (at_point q) c) *ℤ class_worth f lists W q (move q c) c
  own_is q c lq own lc sized = h.reached q c lq own lc ∙ worth_total f r lists k lossless player w W V q (move q c) c lq (h.in_range q c lq own lc) lc sized

  other_is : (q c : ℕ) → q < point_count f → (player_at f q ≡ player → ⊥) → IsClass lists (round_of f (at_point q)) c
      → ((m : ℕ) → m < move_count f q → AreSized (leads_to f q m))
      → V (at_point q) c ≡ pos (size (at_point q) c) *ℤ sum_z (λ m. class_worth f lists W q m c) (choices_at f q)
  other_is q c lq other lc sized =
      h.at_others q c lq other lc
      ∙ sum_same (λ m. total_worth f lists V q m c) (λ m. pos (size (at_point q) c) *ℤ class_worth f lists W q m c) 0 (move_count f q)
      (λ m lo hi. let lm : m < move_count f q = omega arith in worth_total f r lists k lossless player w W V q m c lq lm lc (sized m lm))
      ∙ sum_z-mul (pos (size (at_point q) c)) (λ m. class_worth f lists W q m c) (choices_at f q)

  sized_last : (n : ℕ) (g : Target) → IsInside f g → IsLast f n g → AreSized g
  sized_last n (at_end z) i l c lc = sized_by (at_end z) c (end_worth f player (lift f lists y) z (first_member lists (round_of f (at_end z)) c)) i lc
      (end_is z c i lc)
  sized_last zero (at_point q) i l c lc = absurd (omega arith)
  sized_last (suc n) (at_point q) i l c lc =
      let next : (m : ℕ) → m < move_count f q → AreSized (leads_to f q m) =
      λ m lm. sized_last n (leads_to f q m) (w.inside q m i lm) (next_last f n q (leads_to f q m) l (w.later q m i lm)) in
      ⊎_elim
      (λ (own : player_at f q ≡ player). sized_by (at_point q) c (class_worth f lists W q (move q c) c) i lc
      (own_is q c i own lc (next (move q c) (h.in_range q c i own lc))))
      (λ (other : player_at f q ≡ player → ⊥). sized_by (at_point q) c (sum_z (λ m. class_worth f lists W q m c) (choices_at f q)) i lc
      (other_is q c i other lc next))
      (cases_eq (player_at f q) player)

  sized : (g : Target) → IsInside f g → AreSized g
  sized g i = sized_last (point_count f) g i (all_last f g)

  -- each class total is the class's size times its value
  pub totals_sized : (g : Target) (c : ℕ) → IsInside f g → IsClass lists (round_of f g) c → V g c ≡ pos (size g c) *ℤ W g c
  totals_sized g c i lc = sized g i c lc

  pub totals_are_best : AreFirstGreatest f lists player V move → IsBestValues f lists player (lift f lists y) W move
  totals_are_best first = record {
    at_ends = λ z c lz lc. value_is (at_end z) c (end_worth f player (lift f lists y) z (first_member lists (round_of f (at_end z)) c)) lz lc
        (end_is z c lz lc);
    in_range = h.in_range;
    reached = λ q c lq own lc.
        let lm = h.in_range q c lq own lc in
        value_is (at_point q) c (class_worth f lists W q (move q c) c) lq lc
        (own_is q c lq own lc (sized (leads_to f q (move q c)) (w.inside q (move q c) lq lm)));
    none_more = λ q m c lq own lm lc.
        let e = worth_total f r lists k lossless player w W V q m c lq lm lc (sized (leads_to f q m) (w.inside q m lq lm)) in
        let s = sized (at_point q) lq c lc in
        times_le_back (size (at_point q) c) (class_worth f lists W q m c) (W (at_point q) c) (some_size (at_point q) c lq lc)
        (subst (λ x. (pos (size (at_point q) c) *ℤ class_worth f lists W q m c)
        ≤ℤ x) s (subst (λ x. x ≤ℤ V (at_point q) c) e (first.none_more q m c lq own lm lc)));
    none_before = λ q m c lq own lc before.
        let lm : m < move_count f q = omega (arith, before, h.in_range q c lq own lc) in
        let e = worth_total f r lists k lossless player w W V q m c lq lm lc (sized (leads_to f q m) (w.inside q m lq lm)) in
        let s = sized (at_point q) lq c lc in
        times_lt_back (size (at_point q) c) (class_worth f lists W q m c) (W (at_point q) c)
        (subst (λ x. (pos (size (at_point q) c) *ℤ class_worth f lists W q m c)
        <ℤ x) s (subst (λ x. x <ℤ V (at_point q) c) e (first.none_before q m c lq own lc before)));
    at_others = λ q c lq other lc.
        value_is (at_point q) c (sum_z (λ m. class_worth f lists W q m c) (choices_at f q)) lq lc
        (other_is q c lq other lc (λ m lm. sized (leads_to f q m) (w.inside q m lq lm)));
  }
