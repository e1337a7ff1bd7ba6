-- What moves are worth moves on straight lines with the class totals; best totals are best against all plans that are alike.
use Rattle.std.proofs.{Common.{◌≡◌, ℕ, Bool, true, false, cond, refl, sym, ap, ◌∙◌}, Math.IntN.{*ℤ-zero}}
use Rattle.std.specs.Prelude.{◌==◌, ℤ, pos, ◌+ℤ◌, ◌*ℤ◌}
use Rattle.gs_model.specs.{BestAnswers.{Values}, Classes.{ClassLists, IsClasses, classes_in}, Frame.{Frame, leads_to, other_player, payoff_to, round_of}}
use Rattle.gs_model.specs.{FrameFacts.{InRange, IsWalked}, Plans.{Plan}, Positions.{at_point}, Sums.{sum_z}}
use Rattle.gs_model.proofs.Total.{sum_z-add, sum_z-mul, sum_z-same}
use Rattle.gs_best.specs.ClassTotals.{AreBestTotals, earlier_class, gathered_below, total_worth}
use Rattle.gs_play.specs.{Jumps.{line}, PlanSums.{ArePlansAlike}}
use Rattle.gs_play.proofs.SumLaws.{kept_alike}

-- a table after some turns
abbrev pub tables_after : Values → Values → ℕ → Values
tables_after v d k g c = line (v g c) (d g c) k

gathered_line : (f : Frame) (lists : ClassLists) (from to : ℕ) (v d : ℕ → ℤ) (k c : ℕ)
    → gathered_below f lists from to (λ i. line (v i) (d i) k) c ≡ line (gathered_below f lists from to v c) (gathered_below f lists from to d c) k
gathered_line f lists from to v d k c =
    let t = λ (i : ℕ). earlier_class f lists from to i == c in
    sum_z-same (λ i. cond (t i) (line (v i) (d i) k) (pos 0)) (λ i. cond (t i) (v i) (pos 0) +ℤ pos k *ℤ cond (t i) (d i) (pos 0))
    (λ i. tested (t i) (v i) (d i)) (classes_in lists from)
    ∙ sum_z-add (λ i. cond (t i) (v i) (pos 0)) (λ i. pos k *ℤ cond (t i) (d i) (pos 0)) (classes_in lists from)
    ∙ ap (λ s. sum_z (λ i. cond (t i) (v i) (pos 0)) (classes_in lists from) +ℤ s) (sum_z-mul (pos k) (λ i. cond (t i) (d i) (pos 0)) (classes_in lists from))
  where
    tested : (b : Bool) (x y : ℤ) → cond b (line x y k) (pos 0) ≡ cond b x (pos 0) +ℤ pos k *ℤ cond b y (pos 0)
    tested true x y = refl
    tested false x y = sym (ap (λ p. pos 0 +ℤ p) (*ℤ-zero (pos k)))

-- what moves are worth moves on lines with the table
pub worth_line : (f : Frame) (lists : ClassLists) (v d : Values) (k q m c : ℕ)
    → total_worth f lists (tables_after v d k) q m c ≡ line (total_worth f lists v q m c) (total_worth f lists d q m c) k
worth_line f lists v d k q m c = gathered_line f lists (round_of f (leads_to f q m)) (round_of f (at_point q)) (v (leads_to f q m)) (d (leads_to f q m)) k c

-- plans that are alike are followed alike
pub best_alike : (f : Frame) → InRange f → (lists : ClassLists) → IsClasses f.parents lists → (player : ℕ) → IsWalked f (other_player player) → (x y : Plan)
    → ArePlansAlike f lists (other_player player) x y → (v : Values) (move : ℕ → ℕ → ℕ)
    → AreBestTotals f lists player y v move → AreBestTotals f lists player x v move
best_alike f r lists k player w x y a v move h = record {
  followed = record {
    at_ends = λ z c lz lc. h.followed.at_ends z c lz lc ∙ sym (kept_alike f r lists k (other_player player) w (payoff_to f player z) x y a z c lz);
    in_range = h.followed.in_range;
    reached = h.followed.reached;
    at_others = h.followed.at_others;
  };
  greatest = h.greatest;
}
