-- What a place is paid by what a walk has passed: what the sums of the walk give.
use Rattle.std.proofs.Common.{◌≡◌, ◌*◌, ◌<◌, ◌≤◌, ◌∙◌, ℕ, ℤ, pos, neg_ℤ, Bool, true, false, cond, nat_lt, List, get_or, sym, ap, arith, ⊎_elim, sum_by}
use Rattle.std.proofs.{Math.IntN.{*ℤ_comm}, lemmas.Bool.{cases_eq}, lemmas.Bool.Decides.{Decides-eqb, nat_tests}, lemmas.Int.{ints}}
use Rattle.std.specs.Prelude.{◌==◌, ◌*ℤ◌, All}
use borrow.Author.Differences.{neg_is}
use Rattle.gs_model.specs.Sums.{sum_z}
use Rattle.gs_model.proofs.{Total.{sum_z-mul, sum_z-same_all}, Regroup.{sum_z-pos}, Basics.{not_eq}}
use Rattle.gs_boards.specs.{Runs.{lost_by, number_at, outcome_at, paid_by, won_by, worth_of}, declared.pays.Pays.{Pays}}
use Rattle.gs_boards.specs.{declared.pays.Pays.TheVariants.{Fixed, Showdown}, declared.place.Place.{Place}, declared.running.Running.{Running}}
use Rattle.gs_boards.proofs.Runs.{HasPassed, board_sum, other_sum}

-- what a place counts for the places before it, from the numbers of the signals
abbrev pub place_worth : Pays → List ℕ → Place → ℕ
place_worth pays numbers q = worth_of pays q (number_at numbers q)

-- a sum of multiples of one number
multiples : {X : Type 0} (z : ℤ) (f : X → ℤ) (h : X → ℕ) (xs : List X) → All (λ x. f x ≡ z *ℤ pos (h x)) xs → sum_z f xs ≡ z *ℤ pos (sum_by h xs)
multiples z f h xs each = sum_z-same_all f (λ x. z *ℤ pos (h x)) xs each ∙ sum_z-mul z (λ x. pos (h x)) xs ∙ ap (λ n. z *ℤ n) (sum_z-pos h xs)

-- what a place counts for another of its board and another level
abbrev apart : (Place → ℕ) → Place → Place → ℕ
apart worth p q = cond (q.board == p.board) (cond (q.strength == p.strength) 0 (worth q)) 0

apart_is : (worth : Place → ℕ) (qs : List Place) (r : Running) (p : Place) → HasPassed worth qs r → r.board ≡ p.board → r.strength ≡ p.strength
    → sum_by (apart worth p) qs ≡ r.off_level
apart_is worth qs r p h b s = ap (λ n. other_sum worth p.board n qs) (sym s) ∙ ap (λ n. other_sum worth n r.strength qs) (sym b) ∙ sym h.off_level

-- ---- one place after another

fixed : (stake : ℤ) (numbers : List ℕ) (p q : Place) → cond (q.board == p.board) (pos (number_at numbers q) *ℤ stake) (pos 0)
    ≡ stake *ℤ pos (cond (q.board == p.board) (number_at numbers q) 0)
fixed stake numbers p q = go (q.board == p.board)
  where
    go : (b : Bool) → cond b (pos (number_at numbers q) *ℤ stake) (pos 0) ≡ stake *ℤ pos (cond b (number_at numbers q) 0)
    go true = *ℤ_comm (pos (number_at numbers q)) stake
    go false = omega (arith, ints)

-- the outcomes
wins : (p q : Place) → q.strength < p.strength → outcome_at p q ≡ pos p.win
wins p q l = let t : nat_lt q.strength p.strength ≡ true = grind (arith, nat_tests) in
    ap (λ b. cond b (pos p.win) (cond (nat_lt p.strength q.strength) (neg_ℤ (pos q.win)) (pos 0))) t

ties : (p q : Place) → q.strength ≡ p.strength → outcome_at p q ≡ pos 0
ties p q e =
    let t : nat_lt q.strength p.strength ≡ false = grind (arith, nat_tests) in
    let u : nat_lt p.strength q.strength ≡ false = grind (arith, nat_tests) in
    ap (λ b. cond b (pos p.win) (cond (nat_lt p.strength q.strength) (neg_ℤ (pos q.win)) (pos 0))) t ∙ ap (λ b. cond b (neg_ℤ (pos q.win)) (pos 0)) u

loses : (p q : Place) → p.strength < q.strength → outcome_at p q ≡ neg_ℤ (pos q.win)
loses p q l =
    let t : nat_lt q.strength p.strength ≡ false = grind (arith, nat_tests) in
    let u : nat_lt p.strength q.strength ≡ true = grind (arith, nat_tests) in
    ap (λ b. cond b (pos p.win) (cond (nat_lt p.strength q.strength) (neg_ℤ (pos q.win)) (pos 0))) t ∙ ap (λ b. cond b (neg_ℤ (pos q.win)) (pos 0)) u

-- at a showdown what a place is paid by another one of its board
abbrev shown : ℕ → List ℕ → Place → Place → ℤ
shown chips numbers p q = pos (number_at numbers q) *ℤ (pos chips *ℤ outcome_at p q)

won_of : (chips n win : ℕ) → pos n *ℤ (pos chips *ℤ pos win) ≡ pos (chips * win) *ℤ pos n
won_of chips n win = omega (arith, ints)

times_neg : (a b : ℕ) → pos a *ℤ neg_ℤ (pos b) ≡ neg_ℤ (pos (a * b))
times_neg a b = omega (arith, ints, ap (λ k. a * k) (neg_is (pos b)).0, ap (λ k. a * k) (neg_is (pos b)).1)

neg_times : (a b : ℕ) → neg_ℤ (pos a) *ℤ pos b ≡ neg_ℤ (pos (a * b))
neg_times a b = let m : b * a ≡ a * b = omega arith in *ℤ_comm (neg_ℤ (pos a)) (pos b) ∙ times_neg b a ∙ ap (λ k. neg_ℤ (pos k)) m

lost_of : (chips n win : ℕ) → pos n *ℤ (pos chips *ℤ neg_ℤ (pos win)) ≡ neg_ℤ (pos chips) *ℤ pos (n * win)
lost_of chips n win =
    let m : n * (chips * win) ≡ chips * (n * win) = omega arith in
    ap (λ z. pos n *ℤ z) (times_neg chips win) ∙ times_neg n (chips * win) ∙ ap (λ k. neg_ℤ (pos k)) m ∙ sym (neg_times chips (n * win))

none_of : (chips n : ℕ) → pos n *ℤ (pos chips *ℤ pos 0) ≡ pos 0
none_of chips n = omega (arith, ints)

no_more : (z : ℤ) → z *ℤ pos 0 ≡ pos 0
no_more z = omega (arith, ints)

-- a place of the same board and another strength settles what is paid
settled : (chips : ℕ) (numbers : List ℕ) (p q : Place) (factor : ℤ) (worth : Place → ℕ)
    → (q.board ≡ p.board → (q.strength ≡ p.strength → ⊥) → shown chips numbers p q ≡ factor *ℤ pos (worth q))
    → cond (q.board == p.board) (shown chips numbers p q) (pos 0) ≡ factor *ℤ pos (apart worth p q)
settled chips numbers p q factor worth pays = ⊎_elim
    (λ (b : q.board ≡ p.board).
    let t : (q.board == p.board) ≡ true = (Decides-eqb q.board p.board).1 b in
    ap (λ c. cond c (shown chips numbers p q) (pos 0)) t
    ∙ ⊎_elim
    (λ (s : q.strength ≡ p.strength).
    ap (λ o. pos (number_at numbers q) *ℤ (pos chips *ℤ o)) (ties p q s) ∙ none_of chips (number_at numbers q) ∙ sym (no_more factor)
    ∙ ap (λ c. factor *ℤ pos (cond c 0 (worth q))) (sym ((Decides-eqb q.strength p.strength).1 s)))
    (λ (s : q.strength ≡ p.strength → ⊥). pays b s ∙ ap (λ c. factor *ℤ pos (cond c 0 (worth q))) (sym (not_eq q.strength p.strength s)))
    (cases_eq q.strength p.strength)
    ∙ ap (λ c. factor *ℤ pos (cond c (cond (q.strength == p.strength) 0 (worth q)) 0)) (sym t))
    (λ (b : q.board ≡ p.board → ⊥).
    let t : (q.board == p.board) ≡ false = not_eq q.board p.board b in
    ap (λ c. cond c (shown chips numbers p q) (pos 0)) t ∙ sym (no_more factor)
    ∙ ap (λ c. factor *ℤ pos (cond c (cond (q.strength == p.strength) 0 (worth q)) 0)) (sym t))
    (cases_eq q.board p.board)

weaker : (chips : ℕ) (numbers : List ℕ) (p q : Place) → (q.board ≡ p.board → q.strength ≤ p.strength)
    → cond (q.board == p.board) (shown chips numbers p q) (pos 0) ≡ pos (chips * p.win) *ℤ pos (apart (number_at numbers) p q)
weaker chips numbers p q weak = settled chips numbers p q (pos (chips * p.win)) (number_at numbers)
    (λ b s. ap (λ o. pos (number_at numbers q) *ℤ (pos chips *ℤ o)) (wins p q (omega (arith, weak b, s))) ∙ won_of chips (number_at numbers q) p.win)

stronger : (chips : ℕ) (numbers : List ℕ) (p q : Place) → (q.board ≡ p.board → p.strength ≤ q.strength)
    → cond (q.board == p.board) (shown chips numbers p q) (pos 0) ≡ neg_ℤ (pos chips) *ℤ pos (apart (place_worth (Showdown chips) numbers) p q)
stronger chips numbers p q strong = settled chips numbers p q (neg_ℤ (pos chips)) (place_worth (Showdown chips) numbers)
    (λ b s. ap (λ o. pos (number_at numbers q) *ℤ (pos chips *ℤ o)) (loses p q (omega (arith, strong b, s))) ∙ lost_of chips (number_at numbers q) q.win)

-- ---- all that a walk has passed

fixed_all : (stake : ℤ) (numbers : List ℕ) (qs : List Place) (r : Running) (p : Place) → HasPassed (number_at numbers) qs r → r.board ≡ p.board
    → paid_by (Fixed stake) numbers p qs ≡ stake *ℤ pos r.on_board
fixed_all stake numbers qs r p h b =
    multiples stake (λ q. cond (q.board == p.board) (pos (number_at numbers q) *ℤ stake) (pos 0)) (λ q. cond (q.board == p.board) (number_at numbers q) 0) qs
    (λ i d l. fixed stake numbers p (get_or qs i d))
    ∙ ap (λ n. stake *ℤ pos n) (ap (λ n. board_sum (number_at numbers) n qs) (sym b) ∙ sym h.on_board)

-- what a place is paid by places that are no stronger on its board
pub won_is : (pays : Pays) (numbers : List ℕ) (qs : List Place) (r : Running) (p : Place) → HasPassed (number_at numbers) qs r → r.board ≡ p.board
    → r.strength ≡ p.strength
    → All (λ q. q.board ≡ p.board → q.strength ≤ p.strength) qs → won_by pays p r ≡ paid_by pays numbers p qs
won_is (Fixed stake) numbers qs r p h b s weak = sym (fixed_all stake numbers qs r p h b)
won_is (Showdown chips) numbers qs r p h b s weak =
    ap (λ n. pos (chips * p.win * n)) (sym (apart_is (number_at numbers) qs r p h b s))
    ∙ omega (arith, ints)
    ∙ sym (multiples (pos (chips * p.win)) (λ q. cond (q.board == p.board) (shown chips numbers p q) (pos 0)) (apart (number_at numbers) p) qs
    (λ i d l. weaker chips numbers p (get_or qs i d) (weak i d l)))

-- what a place is paid by places that are no weaker on its board
pub lost_is : (pays : Pays) (numbers : List ℕ) (qs : List Place) (r : Running) (p : Place) → HasPassed (place_worth pays numbers) qs r → r.board ≡ p.board
    → r.strength ≡ p.strength
    → All (λ q. q.board ≡ p.board → p.strength ≤ q.strength) qs → lost_by pays r ≡ paid_by pays numbers p qs
lost_is (Fixed stake) numbers qs r p h b s strong = sym (fixed_all stake numbers qs r p h b)
lost_is (Showdown chips) numbers qs r p h b s strong =
    ap (λ n. neg_ℤ (pos (chips * n))) (sym (apart_is (place_worth (Showdown chips) numbers) qs r p h b s))
    ∙ sym (neg_times chips (sum_by (apart (place_worth (Showdown chips) numbers) p) qs))
    ∙ sym (multiples (neg_ℤ (pos chips)) (λ q. cond (q.board == p.board) (shown chips numbers p q) (pos 0)) (apart (place_worth (Showdown chips) numbers) p) qs
    (λ i d l. stronger chips numbers p (get_or qs i d) (strong i d l)))
