-- An answer found again, class by class and point by point: what is taken is right where it has been found again, and as it was elsewhere.
use Rattle.std.proofs.{Common.{◌≡◌, ℕ, ◌+◌, ◌<◌, ◌≤◌, Bool, true, false, List, get_or, Some, refl, sym, ap, ◌∙◌, subst, arith, ⊎_elim}, lemmas.Bool.{cases_eq}}
use Rattle.gs_model.specs.{Classes.{ClassLists, IsClass, IsClasses}, Frame.{Frame, last_step, player_at, point_count, round_of}, FrameFacts.{InRange, IsWalked}}
use Rattle.gs_model.specs.Positions.{Step, at_point}
use Rattle.gs_model.proofs.Gather.{class_before}
use Rattle.gs_best.specs.{ClassTotals.{earlier_class}, Tables.{moves_of}}
use Rattle.gs_play.specs.{Answers.{AreTakenBut, IsElsewhere, IsRight, IsRightMove, IsStill, IsTurnedAt}, declared.answers.Answer.{Answer}}
use Rattle.gs_play.proofs.Taken.{reached_same, stays_right}

-- the class above a last step is a class of an earlier point
pub record IsGateOf (f : Frame) (lists : ClassLists) (q c : ℕ) (u : Step) : Type 0 where
  pub earlier : u.point < q
  pub class : IsClass lists (round_of f (at_point u.point)) (earlier_class f lists (round_of f (at_point q)) (round_of f (at_point u.point)) c)

-- the classes of a point before one are right
abbrev pub AreRightTo : Frame → ClassLists → ℕ → ℕ → (ℕ → ℕ → ℕ) → (ℕ → ℕ → ℕ) → Type 0
AreRightTo f lists q n taken move = (e : ℕ) → IsClass lists (round_of f (at_point q)) e → e < n → IsRight f lists taken move q e

-- what is taken at another class of a point changes, which is said
pub turned_more : (f : Frame) (lists : ClassLists) (q n : ℕ) (start now next : Answer) → IsTurnedAt f lists q start now → IsElsewhere f lists q n now next
    → get_or next.turned.items q false ≡ true → IsTurnedAt f lists q start next
turned_more f lists q n start now next turned elsewhere noted = record {
  taken = λ p e lp le other. elsewhere.taken p e lp le (λ same _. other same) ∙ turned.taken p e lp le other;
  turned = λ p other. elsewhere.turned p other ∙ turned.turned p other;
  still = λ no_one. absurd (let t : false ≡ true = sym no_one ∙ noted in cc);
}

-- the points before one are right, or as they were if they are not said to have been changed; the others are as they were
pub record IsAgain (f : Frame) (lists : ClassLists) (player n : ℕ) (move : ℕ → ℕ → ℕ) (start now : Answer) : Type 0 where
  pub right : (q c : ℕ) → q < n → q < point_count f → player_at f q ≡ player → IsClass lists (round_of f (at_point q)) c
      → IsRight f lists (moves_of f lists now.taken.items) move q c
  pub ahead : (q c : ℕ) → n ≤ q → q < point_count f → IsClass lists (round_of f (at_point q)) c
      → moves_of f lists now.taken.items q c ≡ moves_of f lists start.taken.items q c
  pub behind : (q c : ℕ) → q < n → get_or now.turned.items q false ≡ false → IsClass lists (round_of f (at_point q)) c
      → moves_of f lists now.taken.items q c ≡ moves_of f lists start.taken.items q c

module _ (f : Frame) (r : InRange f) (lists : ClassLists) (k : IsClasses f.parents lists) (player : ℕ) (w : IsWalked f player) where
  pub gate_facts : (q c : ℕ) (u : Step) → q < point_count f → player_at f q ≡ player → IsClass lists (round_of f (at_point q)) c
      → last_step f (player_at f q) (at_point q) ≡ Some u → IsGateOf f lists q c u
  gate_facts q c u lq own lc is =
      let made = sym (ap (λ p. last_step f p (at_point q)) own) ∙ is in
      let before = w.earlier q u lq made in
      record {
        earlier = before;
        class = class_before f lists player r w k (round_of f (at_point q)) (round_of f (at_point u.point)) c
            (w.some_round u.point (omega (arith, before, lq))) (w.past q u lq made) (w.point_in q lq) lc;
      }

  -- a class stays right where what is taken changes at points alone that are not before it
  pub right_before : (from to move : ℕ → ℕ → ℕ) (q c : ℕ) → q < point_count f → player_at f q ≡ player → IsClass lists (round_of f (at_point q)) c
      → to q c ≡ from q c → ((p e : ℕ) → p < q → p < point_count f → IsClass lists (round_of f (at_point p)) e → to p e ≡ from p e)
      → IsRight f lists from move q c → IsRight f lists to move q c
  right_before from to move q c lq own lc here before right =
      stays_right f lists from move to move q c here refl
      (λ u is. (let g = gate_facts q c u lq own lc is in
      before u.point (earlier_class f lists (round_of f (at_point q)) (round_of f (at_point u.point)) c) g.earlier
      (let e = g.earlier in omega (arith, e, lq)) g.class)) right

  -- ---- the classes of a point

  -- one more class, at which the right move is taken
  module _ (q n : ℕ) (lq : q < point_count f) (own : player_at f q ≡ player) (ln : IsClass lists (round_of f (at_point q)) n) (move from to : ℕ → ℕ → ℕ)
      (elsewhere : AreTakenBut f lists q n from to) (new : ℕ)
      (right : IsRightMove f lists from move (last_step f (player_at f q) (at_point q)) q n new) where
    points_before : (p e : ℕ) → p < q → p < point_count f → IsClass lists (round_of f (at_point p)) e → to p e ≡ from p e
    points_before p e less lp le = elsewhere p e lp le (λ same _. absurd (omega (arith, less, same)))

    gate_same : (u : Step) → last_step f (player_at f q) (at_point q) ≡ Some u
        → let up = earlier_class f lists (round_of f (at_point q)) (round_of f (at_point u.point)) n in to u.point up ≡ from u.point up
    gate_same u is =
        let g = gate_facts q n u lq own ln is in
        let e = g.earlier in
        points_before u.point (earlier_class f lists (round_of f (at_point q)) (round_of f (at_point u.point)) n) g.earlier (omega (arith, e, lq)) g.class

    pub rights_more : AreRightTo f lists q n from move → to q n ≡ new → AreRightTo f lists q (n + 1) to move
    rights_more done is e le less =
        let round = round_of f (at_point q) in
        let o = last_step f (player_at f q) (at_point q) in
        ⊎_elim
        (λ (same : e ≡ n). subst (IsRight f lists to move q) (sym same)
        (record {
          on = λ h. is ∙ right.on (reached_same f lists from to round n o gate_same h);
          off = λ no_way. is ∙ right.off (λ h. no_way (reached_same f lists to from round n o (λ u made. sym (gate_same u made)) h));
        }))
        (λ (other : e ≡ n → ⊥). right_before from to move q e lq own le (elsewhere q e lq le (λ _ same. other same)) points_before
        (done e le (omega (arith, less, other))))
        (cases_eq e n)

  -- ---- the points

  module _ (n : ℕ) (ln : n < point_count f) (move : ℕ → ℕ → ℕ) (start now : Answer) (done : IsAgain f lists player n move start now) where
    -- where nothing is said to have changed a class is right as it was
    pub again_still : (c : ℕ) (moved : List Bool) → player_at f n ≡ player → IsClass lists (round_of f (at_point n)) c
        → IsRight f lists (moves_of f lists start.taken.items) move n c → IsStill f n moved now.turned.items
        → IsRight f lists (moves_of f lists now.taken.items) move n c
    again_still c moved own lc right still =
        stays_right f lists (moves_of f lists start.taken.items) move (moves_of f lists now.taken.items) move n c
        (done.ahead n c (omega arith) ln lc) refl
        (λ u is. (let g = gate_facts n c u ln own lc is in
        done.behind u.point (earlier_class f lists (round_of f (at_point n)) (round_of f (at_point u.point)) c) g.earlier (still.gate u is) g.class)) right

    -- one more point
    pub again_more : (next : Answer) → IsTurnedAt f lists n now next
        → (player_at f n ≡ player → (c : ℕ) → IsClass lists (round_of f (at_point n)) c → IsRight f lists (moves_of f lists next.taken.items) move n c)
        → IsAgain f lists player (n + 1) move start next
    again_more next turned here = record {
      right = λ q c less lq own lc. ⊎_elim
          (λ (same : q ≡ n). subst (λ i. IsRight f lists (moves_of f lists next.taken.items) move i c) (sym same)
          (here (subst (λ i. player_at f i ≡ player) same own) c (subst (λ i. IsClass lists (round_of f (at_point i)) c) same lc)))
          (λ (other : q ≡ n → ⊥).
          let before : q < n = omega (arith, less, other) in
          right_before (moves_of f lists now.taken.items) (moves_of f lists next.taken.items) move q c lq own lc (turned.taken q c lq lc other)
          (λ p e l lp le. turned.taken p e lp le (λ same. absurd (omega (arith, l, before, same)))) (done.right q c before lq own lc))
          (cases_eq q n);
      ahead = λ q c less lq lc. turned.taken q c lq lc (λ same. absurd (omega (arith, less, same))) ∙ done.ahead q c (omega (arith, less)) lq lc;
      behind = λ q c less no_one lc. ⊎_elim
          (λ (same : q ≡ n).
          let le = subst (λ i. IsClass lists (round_of f (at_point i)) c) same lc in
          ap (λ i. moves_of f lists next.taken.items i c) same
          ∙ turned.still (ap (λ i. get_or next.turned.items i false) (sym same) ∙ no_one) c le
          ∙ done.ahead n c (omega arith) ln le
          ∙ ap (λ i. moves_of f lists start.taken.items i c) (sym same))
          (λ (other : q ≡ n → ⊥).
          let before : q < n = omega (arith, less, other) in
          turned.taken q c (omega (arith, before, ln)) lc other
          ∙ done.behind q c before (sym (turned.turned q other) ∙ no_one) lc)
          (cases_eq q n);
    }
