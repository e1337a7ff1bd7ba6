-- The first move is taken at the classes to which the answer comes, one class of a point after another, and one point after another.
use Rattle.std.proofs.Common.{◌≡◌, ℕ, ◌+◌, ◌<◌, ◌≤◌, List, length, replicate, set, refl, sym, ap, ◌∙◌, subst, arith, ⊎_elim, get_or-set_same}
use Rattle.std.proofs.{lemmas.Bool.{cases_eq}, lemmas.List.{get_or-replicate}}
use Rattle.gs_model.specs.{Classes.{ClassLists, IsClass, IsClasses}, Frame.{Frame, last_step, player_at, point_count, round_of}, FrameFacts.{InRange, IsWalked}}
use Rattle.gs_model.specs.Positions.{at_point}
use Rattle.gs_best.specs.Tables.{moves_of, start_of}
use Rattle.gs_best.proofs.PointStarts.{place_before}
use Rattle.gs_play.specs.{Answers.{AreKeptBut, AreTakenBut, IsReached, IsRight}, Plots.{cell_place}}
use Rattle.gs_play.proofs.{Again.{AreRightTo, right_before, rights_more}, Lists.{other_cell}}

-- the classes before one are right, the others of the point have the mark of none, and other points what they had
pub record AreFirstTo (f : Frame) (lists : ClassLists) (q n : ℕ) (start now : List ℕ) : Type 0 where
  pub first : AreRightTo f lists q n (moves_of f lists now) (λ q c. 0)
  pub ahead : (c : ℕ) → IsClass lists (round_of f (at_point q)) c → n ≤ c → moves_of f lists now q c ≡ 255
  pub elsewhere : AreKeptBut f lists q start now

module _ (f : Frame) (lists : ClassLists) (q : ℕ) (start : List ℕ) where
  -- one more class
  module _ (r : InRange f) (k : IsClasses f.parents lists) (player : ℕ) (w : IsWalked f player) (lq : q < point_count f) (own : player_at f q ≡ player) (n : ℕ)
      (ln : IsClass lists (round_of f (at_point q)) n) (now : List ℕ) (done : AreFirstTo f lists q n start now) where
    abbrev IsHere : Type 0
    IsHere = IsReached f lists (moves_of f lists now) (last_step f (player_at f q) (at_point q)) (round_of f (at_point q)) n

    pub firsts_on : IsHere → (next : List ℕ) → next ≡ set now (cell_place f lists q n) 0 → cell_place f lists q n < length now
        → AreFirstTo f lists q (n + 1) start next
    firsts_on reached next is inside =
        let other : AreTakenBut f lists q n (moves_of f lists now) (moves_of f lists next) =
        λ p e lp le apart. other_cell f lists now next q n 0 p e is ln le apart in
        let here : moves_of f lists next q n ≡ 0 = ap (λ xs. moves_of f lists xs q n) is ∙ get_or-set_same now (cell_place f lists q n) 0 0 inside in
        record {
          first = rights_more f r lists k player w q n lq own ln (λ q c. 0) (moves_of f lists now) (moves_of f lists next) other 0
              (record { on = λ h. refl; off = λ no_way. absurd (no_way reached) }) done.first here;
          ahead = λ c lc l. other q c lq lc (λ _ e. absurd (omega (arith, l, e))) ∙ done.ahead c lc (omega (arith, l));
          elsewhere = λ p e lp le apart. other p e lp le (λ same _. apart same) ∙ done.elsewhere p e lp le apart;
        }

    pub firsts_off : (IsHere → ⊥) → AreFirstTo f lists q (n + 1) start now
    firsts_off no_way = record {
      first = rights_more f r lists k player w q n lq own ln (λ q c. 0) (moves_of f lists now) (moves_of f lists now) (λ p e lp le apart. refl) 255
          (record { on = λ h. absurd (no_way h); off = λ h. refl }) done.first (done.ahead n ln (omega arith));
      ahead = λ c lc l. done.ahead c lc (omega (arith, l));
      elsewhere = done.elsewhere;
    }

-- ---- the points

-- the own points before one are right, and the others have the mark of none
pub record AreFirstBefore (f : Frame) (lists : ClassLists) (player n : ℕ) (taken : List ℕ) : Type 0 where
  pub first : (q c : ℕ) → q < n → q < point_count f → player_at f q ≡ player → IsClass lists (round_of f (at_point q)) c
      → IsRight f lists (moves_of f lists taken) (λ q c. 0) q c
  pub ahead : (q c : ℕ) → n ≤ q → q < point_count f → IsClass lists (round_of f (at_point q)) c → moves_of f lists taken q c ≡ 255

module _ (f : Frame) (lists : ClassLists) (player : ℕ) where
  pub before_none : AreFirstBefore f lists player 0 (replicate (start_of f lists (point_count f)) 255)
  before_none = record {
    first = λ q c less. absurd (omega (arith, less));
    ahead = λ q c l lq lc.
        get_or-replicate (start_of f lists (point_count f)) (cell_place f lists q c) 255 0 (place_before f lists q c (point_count f) lc lq);
  }

  -- a point of the other player
  pub before_other : (n : ℕ) (taken : List ℕ) → (player_at f n ≡ player → ⊥) → AreFirstBefore f lists player n taken
      → AreFirstBefore f lists player (n + 1) taken
  before_other n taken his done = record {
    first = λ q c less lq own lc. ⊎_elim
        (λ (same : q ≡ n). absurd (his (subst (λ i. player_at f i ≡ player) same own)))
        (λ (other : q ≡ n → ⊥). done.first q c (omega (arith, less, other)) lq own lc)
        (cases_eq q n);
    ahead = λ q c l. done.ahead q c (omega (arith, l));
  }

  -- an own point
  pub before_more : InRange f → IsClasses f.parents lists → IsWalked f player → (n : ℕ) → n < point_count f → (taken next : List ℕ)
      → AreKeptBut f lists n taken next
      → ((c : ℕ) → IsClass lists (round_of f (at_point n)) c → IsRight f lists (moves_of f lists next) (λ q c. 0) n c)
      → AreFirstBefore f lists player n taken → AreFirstBefore f lists player (n + 1) next
  before_more r k w n ln taken next kept here done = record {
    first = λ q c less lq own lc. ⊎_elim
        (λ (same : q ≡ n). subst (λ i. IsRight f lists (moves_of f lists next) (λ q c. 0) i c) (sym same)
        (here c (subst (λ i. IsClass lists (round_of f (at_point i)) c) same lc)))
        (λ (other : q ≡ n → ⊥).
        let before : q < n = omega (arith, less, other) in
        right_before f r lists k player w (moves_of f lists taken) (moves_of f lists next) (λ q c. 0) q c lq own lc (kept q c lq lc other)
        (λ p e l lp le. kept p e lp le (λ same. absurd (omega (arith, l, before, same)))) (done.first q c before lq own lc))
        (cases_eq q n);
    ahead = λ q c l lq lc. kept q c lq lc (λ same. absurd (omega (arith, l, same))) ∙ done.ahead q c (omega (arith, l)) lq lc;
  }
