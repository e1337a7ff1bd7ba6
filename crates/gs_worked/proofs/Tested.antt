-- Best values and plans by computing: a test at each point and class, and what it shows where it holds at all of them.
use Rattle.std.proofs.Common.{◌≡◌, ◌≢◌, ℕ, zero, suc, ◌<◌, ◌&&◌, Bool, true, T, cond, eqb, ltb, sym, subst, arith, ◌∙◌}
use Rattle.std.proofs.lemmas.{Bool.{agree_below, agree_below_at, and_parts, cond-false, cond-true, eq-eqb, eqb-true, ltb-true, ne_eqb}, Bool.Decides.{Decides-int_eq}}
use Rattle.std.specs.{Int.Signed.{le_z, le_z_yes, lt_z, lt_z_yes}, Ordering.{int_eq}, Prelude.{ℤ, ◌≤ℤ◌, ◌<ℤ◌}}
use Rattle.gs_model.specs.{BestAnswers.{IsBestValues, Values, class_worth, end_worth}, Classes.{ClassLists, IsClass, class_count, first_member}}
use Rattle.gs_model.specs.Frame.{Frame, choices_at, end_count, move_count, player_at, point_count, round_of}
use Rattle.gs_model.specs.{Plans.{Plan}, Positions.{at_end, at_point}, Sums.{sum_z}}

-- a test holds at each number below n
abbrev holds_below : (ℕ → Bool) → ℕ → Bool
holds_below t n = agree_below t (λ k. true) n

module _ (f : Frame) (lists : ClassLists) where
  -- a test holds at each point and class
  abbrev pub holds : (ℕ → ℕ → Bool) → Bool
  holds t = holds_below (λ q. holds_below (λ c. t q (suc c)) (class_count lists (round_of f (at_point q)))) (point_count f)

  holds_at : (t : ℕ → ℕ → Bool) → holds t ≡ true → (q c : ℕ) → q < point_count f → IsClass lists (round_of f (at_point q)) c → t q c ≡ true
  holds_at t all q zero l m = absurd (omega (arith, m.0))
  holds_at t all q (suc c) l m =
      agree_below_at (λ d. t q (suc d)) (λ d. true) (class_count lists (round_of f (at_point q))) c
      (agree_below_at (λ p. holds_below (λ d. t p (suc d)) (class_count lists (round_of f (at_point p)))) (λ p. true) (point_count f) q all l)
      (omega (arith, m.1))

  -- two numbers are the same for the first few moves at each own point and class
  module _ (player : ℕ) (few : ℕ → ℕ) (a b : ℕ → ℕ → ℕ → ℕ) where
    abbrev is_same : ℕ → ℕ → Bool
    is_same q c = holds_below (λ m. eqb (a q c m) (b q c m)) (few q)

    abbrev pub are_same : Bool
    are_same = holds (λ q c. cond (eqb (player_at f q) player) (is_same q c) true)

    pub same_at : are_same ≡ true → (q c m : ℕ) → q < point_count f → player_at f q ≡ player → IsClass lists (round_of f (at_point q)) c → m < few q
        → a q c m ≡ b q c m
    same_at all q c m l own k lm =
        let here : is_same q c ≡ true = sym (cond-true (eqb (player_at f q) player) (is_same q c) true (eq-eqb _ _ own))
        ∙ holds_at (λ q c. cond (eqb (player_at f q) player) (is_same q c) true) all q c l k in
        eqb-true _ _ (agree_below_at (λ m. eqb (a q c m) (b q c m)) (λ m. true) (few q) m here lm)

  module _ (player : ℕ) (y : Plan) (v : Values) (move : ℕ → ℕ → ℕ) where
    abbrev worth : ℕ → ℕ → ℕ → ℤ
    worth q m c = class_worth f lists v q m c

    -- at an own point the value is what the move is worth, no move is worth more, and no earlier one as much
    abbrev is_best : ℕ → ℕ → Bool
    is_best q c =
        ltb (move q c) (move_count f q) && (int_eq (v (at_point q) c) (worth q (move q c) c)
        && (holds_below (λ m. le_z (worth q m c) (v (at_point q) c)) (move_count f q)
        && holds_below (λ m. lt_z (worth q m c) (v (at_point q) c)) (move q c)))

    -- at another point it is the sum of what the moves are worth
    abbrev is_sum : ℕ → ℕ → Bool
    is_sum q c = int_eq (v (at_point q) c) (sum_z (λ m. worth q m c) (choices_at f q))

    abbrev pub are_best : Bool
    are_best = holds (λ q c. cond (eqb (player_at f q) player) (is_best q c) (is_sum q c))

    module _ (all : are_best ≡ true) (q c : ℕ) (l : q < point_count f) (k : IsClass lists (round_of f (at_point q)) c) where
      here : cond (eqb (player_at f q) player) (is_best q c) (is_sum q c) ≡ true
      here = holds_at (λ q c. cond (eqb (player_at f q) player) (is_best q c) (is_sum q c)) all q c l k

      record Shown : Type 0 where
        in_range : move q c < move_count f q
        reached : v (at_point q) c ≡ worth q (move q c) c
        none_more : (m : ℕ) → m < move_count f q → worth q m c ≤ℤ v (at_point q) c
        none_before : (m : ℕ) → m < move q c → worth q m c <ℤ v (at_point q) c

      shown : player_at f q ≡ player → Shown
      shown own =
          let tested : is_best q c ≡ true = sym (cond-true (eqb (player_at f q) player) (is_best q c) (is_sum q c) (eq-eqb _ _ own)) ∙ here in
          let first = and_parts _ _ tested in
          let second = and_parts _ _ first.1 in
          let third = and_parts _ _ second.1 in
          record {
            in_range = ltb-true _ _ first.0;
            reached = (Decides-int_eq _ _).0 second.0;
            none_more = λ m less. le_z_yes (subst T (sym (agree_below_at (λ m. le_z (worth q m c) (v (at_point q) c)) (λ m. true) (move_count f q) m third.0 less)) tt);
            none_before = λ m less. lt_z_yes (subst T (sym (agree_below_at (λ m. lt_z (worth q m c) (v (at_point q) c)) (λ m. true) (move q c) m third.1 less)) tt);
          }

      summed : player_at f q ≢ player → v (at_point q) c ≡ sum_z (λ m. worth q m c) (choices_at f q)
      summed other = (Decides-int_eq _ _).0 (sym (cond-false (eqb (player_at f q) player) (is_best q c) (is_sum q c) (ne_eqb _ _ other)) ∙ here)

    pub best_at : are_best ≡ true
        → ((z c : ℕ) → z < end_count f → IsClass lists (round_of f (at_end z)) c
        → v (at_end z) c ≡ end_worth f player y z (first_member lists (round_of f (at_end z)) c)) → IsBestValues f lists player y v move
    best_at all ends = record {
      at_ends = ends;
      in_range = λ q c l own k. (shown all q c l k own).in_range;
      reached = λ q c l own k. (shown all q c l k own).reached;
      none_more = λ q m c l own less k. (shown all q c l k own).none_more m less;
      none_before = λ q m c l own k less. (shown all q c l k own).none_before m less;
      at_others = λ q c l other k. summed all q c l k other;
    }
