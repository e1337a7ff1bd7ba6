-- No plan, whatever its numbers are, gains more than its total times the sum at the start of a table that bounds the player's moves. `RawBound` of `gs_model`
-- is the same of raw plans.
use Rattle.std.proofs.Common.{◌≡◌, ◌≢◌, ℕ, ◌*◌, ◌<◌, ◌≤◌, List, get_or, map, refl, sym, ap, ◌∙◌, subst, arith, true, false, eqb, Option, Some, None}
use Rattle.std.proofs.{Common.{true≢false}, lemmas.Bool.Decides.{Decides-eqb}, lemmas.List.Elements.{All-map}}
use Rattle.std.specs.{Prelude.{ℤ, pos, ◌*ℤ◌, ◌≤ℤ◌}, List.{count_by, All, range_with_len}}
use Rattle.gs_model.proofs.{Known.{Known}, RawBound.{All-range, range_once}}
use Rattle.gs_model.specs.{BestAnswers.{Values, end_worth, move_worth, start_sum}, Bounds.{Bounds}, Deals.{Deal}}
use Rattle.gs_model.specs.Frame.{Frame, ancestor, choices_at, end_count, last_round, last_step, leads_to, move_count, other_player, payoff_to, player_at}
use Rattle.gs_model.specs.{Frame.{point_count, round_of, signal_count, signals_in}, Positions.{Step, Target, at_end, at_point}, Sums.{sum_z}}
use Rattle.gs_model.specs.{FrameFacts.{IsWalked, ends_of, next_of, points_of}, Payoff.{number_at_end}, Plans.{Plan}}
use Rattle.gs_real.proofs.{Group.{scaled_kept, transitive}, Sums.{at_most_all, by_ancestor, exchanged, mapped, multiple, multiples, same, same_all, telescope}}
use Rattle.gs_real.specs.{Numbers.{AtMost, IsSome, OrderedGroup, scaled, sum_of}, Plans.{AnyPlan, IsAnyPlan, any_at_end, any_before, any_gain}}

module _ {A P : Type 0} (G : OrderedGroup A P) (t : Frame) (p : ℕ) (w : Known t p) (X : AnyPlan A) (V : Values) where
  -- what a target holds for the plan: its numbers times a table's values
  abbrev amount : Target → A
  amount g = sum_of G (λ s. scaled G (V g s) (any_before t X (last_step t p g) (round_of t g) s)) (signals_in t (round_of t g))

  -- what a move is worth to a number, for each signal of its point's round
  abbrev worths : ℕ → ℕ → (ℕ → A) → A
  worths q c n = sum_of G (λ s. scaled G (move_worth t V q c s) (n s)) (signals_in t (round_of t (at_point q)))

  -- the ancestors of a round's signals are each once among the signals of an earlier round
  once_above : (j i : ℕ) → 0 < i → i ≤ j → All (λ s. count_by (eqb (ancestor t j i s)) (signals_in t i) ≡ 1) (signals_in t j)
  once_above j i hi h = All-range (λ s. count_by (eqb (ancestor t j i s)) (signals_in t i) ≡ 1) (signal_count t j)
      (λ s l. range_once (ancestor t j i s) 0 (signal_count t i) (omega arith) (let k = w.kept j i s hi h l in omega arith))

  -- a move, by the number that its point has for each signal
  by_move : (q c : ℕ) → q < point_count t → c < move_count t q → (n : ℕ → A)
      → ((s : ℕ) → any_before t X (last_step t p (leads_to t q c)) (round_of t (leads_to t q c)) s
      ≡ n (ancestor t (round_of t (leads_to t q c)) (round_of t (at_point q)) s))
      → amount (leads_to t q c) ≡ worths q c n
  by_move q c hq hc n is =
      let j = round_of t (leads_to t q c) in
      let i = round_of t (at_point q) in
      same G (λ s. scaled G (V (leads_to t q c) s) (any_before t X (last_step t p (leads_to t q c)) j s))
      (λ s. scaled G (V (leads_to t q c) s) (n (ancestor t j i s))) (λ s. ap (scaled G (V (leads_to t q c) s)) (is s)) (signals_in t j)
      ∙ by_ancestor G eqb Decides-eqb (ancestor t j i) n (V (leads_to t q c)) (signals_in t j) (signals_in t i)
      (once_above j i (w.some_round q) (w.onward q c hq hc))

  own_move : (q c : ℕ) → q < point_count t → c < move_count t q → player_at t q ≡ p → amount (leads_to t q c) ≡ worths q c (λ s. X.number q s c)
  own_move q c hq hc hp = by_move q c hq hc (λ s. X.number q s c) (λ s. ap (λ (l : Option Step). any_before t X l (round_of t (leads_to t q c)) s)
      (w.own q c hq hc hp))

  held_chain : (l : Option Step) (j i s : ℕ) → i ≤ j → ((u : Step) → l ≡ Some u → round_of t (at_point u.point) ≤ i)
      → any_before t X l j s ≡ any_before t X l i (ancestor t j i s)
  held_chain None j i s h k = refl
  held_chain (Some u) j i s h k = ap (λ r. X.number u.point r u.choice) (sym (w.chain j i (round_of t (at_point u.point)) s (k u refl) h))

  abbrev before : ℕ → ℕ → A
  before q s = any_before t X (last_step t p (at_point q)) (round_of t (at_point q)) s

  other_move : (q c : ℕ) → q < point_count t → c < move_count t q → player_at t q ≢ p → amount (leads_to t q c) ≡ worths q c (before q)
  other_move q c hq hc hp =
      let j = round_of t (leads_to t q c) in
      by_move q c hq hc (before q) (λ s. ap (λ (l : Option Step). any_before t X l j s) (w.others q c hq hc hp)
      ∙ held_chain (last_step t p (at_point q)) j (round_of t (at_point q)) s (w.onward q c hq hc) (λ u e. w.past q u hq e))

  module _ (v : IsWalked t p) (plan : IsAnyPlan G t p X) (Y : Plan) (b : Bounds t p Y V) where
    -- the number of a last step is at least 0
    step_some : (l : Option Step) (j s : ℕ) → s < signal_count t j
        → ((u : Step) → l ≡ Some u → (u.point < point_count t) × ((player_at t u.point ≡ p) × (u.choice < move_count t u.point))
        × (round_of t (at_point u.point) ≤ j))
        → IsSome G (any_before t X l j s)
    step_some None j s hs k = plan.total_some
    step_some (Some u) j s hs k =
        let h = k u refl in
        plan.some u.point (ancestor t j (round_of t (at_point u.point)) s) u.choice h.0 h.1.0
        (w.kept j (round_of t (at_point u.point)) s (w.some_round u.point) h.2 hs) h.1.1

    before_some : (q s : ℕ) → q < point_count t → s < signal_count t (round_of t (at_point q)) → IsSome G (before q s)
    before_some q s hq hs = step_some (last_step t p (at_point q)) (round_of t (at_point q)) s hs
        (λ u e. (let early = v.earlier q u hq e in omega arith, v.chosen q u hq e, w.past q u hq e))

    end_some : (z s : ℕ) → z < end_count t → s < signal_count t (round_of t (at_end z)) → IsSome G (any_at_end t p X z s)
    end_some z s hz hs = step_some (last_step t p (at_end z)) (round_of t (at_end z)) s hs
        (λ u e. (v.earlier_end z u hz e, v.chosen_end z u hz e, v.past_end_own z u hz e))

    -- the moves of a point hold at most what the point holds
    moves_hold : (q : ℕ) → q < point_count t → (n : ℕ → ℕ → A) → ((c : ℕ) → c < move_count t q → amount (leads_to t q c) ≡ worths q c (n c))
        → ((s : ℕ) → s < signal_count t (round_of t (at_point q))
        → AtMost G (sum_of G (λ c. scaled G (move_worth t V q c s) (n c s)) (choices_at t q)) (scaled G (V (at_point q) s) (before q s)))
        → AtMost G (sum_of G amount (next_of t (at_point q))) (amount (at_point q))
    moves_hold q hq n is le =
        let S = signals_in t (round_of t (at_point q)) in
        let e = mapped G amount (leads_to t q) (choices_at t q)
        ∙ same_all G (λ c. amount (leads_to t q c)) (λ c. worths q c (n c)) (choices_at t q)
        (All-range (λ c. amount (leads_to t q c) ≡ worths q c (n c)) (move_count t q) is)
        ∙ exchanged G (λ c s. scaled G (move_worth t V q c s) (n c s)) (choices_at t q) S in
        subst (λ a. AtMost G a (amount (at_point q))) (sym e)
        (at_most_all G (λ s. sum_of G (λ c. scaled G (move_worth t V q c s) (n c s)) (choices_at t q)) (λ s. scaled G (V (at_point q) s) (before q s)) S
        (All-range (λ s. AtMost G (sum_of G (λ c. scaled G (move_worth t V q c s) (n c s)) (choices_at t q)) (scaled G (V (at_point q) s) (before q s)))
        (signal_count t (round_of t (at_point q))) le))

    own_point : (q : ℕ) → q < point_count t → player_at t q ≡ p → AtMost G (sum_of G amount (next_of t (at_point q))) (amount (at_point q))
    own_point q hq hp = moves_hold q hq (λ c s. X.number q s c) (λ c hc. own_move q c hq hc hp)
        (λ s hs.
        let m = V (at_point q) s in
        let e : sum_of G (λ c. scaled G m (X.number q s c)) (choices_at t q) ≡ scaled G m (before q s) =
        multiple G m (λ c. X.number q s c) (choices_at t q) ∙ ap (scaled G m) (plan.flow q s hq hp hs) in
        subst (λ a. AtMost G (sum_of G (λ c. scaled G (move_worth t V q c s) (X.number q s c)) (choices_at t q)) a) e
        (at_most_all G (λ c. scaled G (move_worth t V q c s) (X.number q s c)) (λ c. scaled G m (X.number q s c)) (choices_at t q)
        (All-range (λ c. AtMost G (scaled G (move_worth t V q c s) (X.number q s c)) (scaled G m (X.number q s c))) (move_count t q)
        (λ c hc. scaled_kept G (move_worth t V q c s) m (X.number q s c) (b.at_own q c s hq hp hc hs) (plan.some q s c hq hp hs hc)))))

    other_point : (q : ℕ) → q < point_count t → player_at t q ≢ p → AtMost G (sum_of G amount (next_of t (at_point q))) (amount (at_point q))
    other_point q hq hp = moves_hold q hq (λ c s. before q s) (λ c hc. other_move q c hq hc hp)
        (λ s hs. subst (λ a. AtMost G a (scaled G (V (at_point q) s) (before q s))) (sym (multiples G (λ c. move_worth t V q c s) (before q s) (choices_at t q)))
        (scaled_kept G (sum_z (λ c. move_worth t V q c s) (choices_at t q)) (V (at_point q) s) (before q s) (b.at_others q s hq hp hs) (before_some q s hq hs)))

    -- the gain, regrouped by the deviator's signal of the end's round
    by_signals : any_gain G t p X Y
        ≡ sum_of G (λ z. sum_of G (λ s. scaled G (end_worth t p Y z s) (any_at_end t p X z s)) (signals_in t (round_of t (at_end z)))) (range_with_len 0 (end_count t))
    by_signals =
        same_all G
        (λ z. sum_of G (λ (d : Deal).
        scaled G (pos (d.weight * number_at_end t (other_player p) Y z (ancestor t (last_round t) (round_of t (at_end z)) d.two)) *ℤ payoff_to t p z d.outcome)
        (any_at_end t p X z (ancestor t (last_round t) (round_of t (at_end z)) d.one))) t.deals)
        (λ z. sum_of G (λ s. scaled G (end_worth t p Y z s) (any_at_end t p X z s)) (signals_in t (round_of t (at_end z)))) (range_with_len 0 (end_count t))
        (All-range (λ z. sum_of G (λ (d : Deal).
        scaled G (pos (d.weight * number_at_end t (other_player p) Y z (ancestor t (last_round t) (round_of t (at_end z)) d.two)) *ℤ payoff_to t p z d.outcome)
        (any_at_end t p X z (ancestor t (last_round t) (round_of t (at_end z)) d.one))) t.deals
        ≡ sum_of G (λ s. scaled G (end_worth t p Y z s) (any_at_end t p X z s)) (signals_in t (round_of t (at_end z)))) (end_count t)
        (λ z hz. by_ancestor G eqb Decides-eqb (λ (d : Deal). ancestor t (last_round t) (round_of t (at_end z)) d.one) (λ s. any_at_end t p X z s)
        (λ (d : Deal). pos (d.weight * number_at_end t (other_player p) Y z (ancestor t (last_round t) (round_of t (at_end z)) d.two))
        *ℤ payoff_to t p z d.outcome) t.deals (signals_in t (round_of t (at_end z)))
        (λ k d l. range_once (ancestor t (last_round t) (round_of t (at_end z)) (get_or t.deals k d).one) 0 (signal_count t (round_of t (at_end z))) (omega arith)
        (let h = w.kept (last_round t) (round_of t (at_end z)) (get_or t.deals k d).one (w.end_round z) (w.end_in z hz) (w.dealt k d l) in omega arith))))

    ends_hold : AtMost G (any_gain G t p X Y) (sum_of G amount (ends_of t))
    ends_hold =
        let worth = λ (z : ℕ). sum_of G (λ s. scaled G (end_worth t p Y z s) (any_at_end t p X z s)) (signals_in t (round_of t (at_end z))) in
        subst (λ a. AtMost G a (sum_of G amount (ends_of t))) (sym by_signals)
        (subst (λ a. AtMost G (sum_of G worth (range_with_len 0 (end_count t))) a) (sym (mapped G amount at_end (range_with_len 0 (end_count t))))
        (at_most_all G worth (λ z. amount (at_end z)) (range_with_len 0 (end_count t))
        (All-range (λ z. AtMost G (worth z) (amount (at_end z))) (end_count t)
        (λ z hz. at_most_all G (λ s. scaled G (end_worth t p Y z s) (any_at_end t p X z s)) (λ s. scaled G (V (at_end z) s) (any_at_end t p X z s))
        (signals_in t (round_of t (at_end z)))
        (All-range (λ s. AtMost G (scaled G (end_worth t p Y z s) (any_at_end t p X z s)) (scaled G (V (at_end z) s) (any_at_end t p X z s)))
        (signal_count t (round_of t (at_end z)))
        (λ s hs. scaled_kept G (end_worth t p Y z s) (V (at_end z) s) (any_at_end t p X z s) (b.at_ends z s hz hs) (end_some z s hz hs)))))))

    pub any_bound : AtMost G (any_gain G t p X Y) (scaled G (start_sum t V) X.total)
    any_bound =
        let h = telescope G amount (next_of t) t.start (points_of t) (ends_of t) w.tree
        (All-map (λ x. AtMost G (sum_of G amount (next_of t x)) (amount x)) at_point (range_with_len 0 (point_count t))
        (All-range (λ q. AtMost G (sum_of G amount (next_of t (at_point q))) (amount (at_point q))) (point_count t)
        (λ q hq. elim (eqb (player_at t q) p) as (λ r. (r ≡ eqb (player_at t q) p)
        → AtMost G (sum_of G amount (next_of t (at_point q))) (amount (at_point q))) [
          | true ↦ λ r. own_point q hq ((Decides-eqb (player_at t q) p).0 (sym r))
          | false ↦ λ r. other_point q hq (λ i. true≢false (sym ((Decides-eqb (player_at t q) p).1 i) ∙ sym r))
        ] refl))) in
        let s : amount t.start ≡ scaled G (start_sum t V) X.total =
        ap (λ (l : Option Step). sum_of G (λ s. scaled G (V t.start s) (any_before t X l (round_of t t.start) s)) (signals_in t (round_of t t.start))) w.first
        ∙ multiples G (V t.start) X.total (signals_in t (round_of t t.start)) in
        subst (λ a. AtMost G (any_gain G t p X Y) a) s (transitive G (any_gain G t p X Y) (sum_of G amount (ends_of t)) (amount t.start) ends_hold h)
