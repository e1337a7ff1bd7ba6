-- What holds of the totals of plans, and at each own choice follows from the numbers before it, holds of all numbers, and so at the ends.
use Rattle.std.proofs.Common.{◌≡◌, ℕ, zero, suc, ◌+◌, ◌<◌, ◌≤◌, refl, sym, ap, ◌∙◌, arith, Option, Some, None, cond, eqb}
use Rattle.gs_model.proofs.{Gather.{known_from, class_in}, PlanLaws.{le-sum}}
use Rattle.gs_model.specs.{BestAnswers.{PutsAllOn}, Classes.{ClassLists, IsClass, IsClasses, class_of}, FrameFacts.{InRange, IsWalked}, Play.{IsPlanSum}}
use Rattle.gs_model.specs.Frame.{Frame, point_count, player_at, move_count, round_of, last_step, last_round, ancestor, at_round, signal_count}
use Rattle.gs_model.specs.{Plans.{Plan, IsRawPlan, lift, number_before}, Positions.{Step, at_point, at_end}}
use Rattle.gs_converge.proofs.Payoffs.{AtEnds, ends}

module _ (f : Frame) (p : ℕ) (r : InRange f) (w : IsWalked f p) (a b c : Plan) (Rel : ℕ → ℕ → ℕ → Type 0) (totals : Rel a.total b.total c.total) where
  abbrev pub AtChoices : Type 0
  AtChoices = (q s m : ℕ) → q < point_count f → player_at f q ≡ p → s < signal_count f (round_of f (at_point q)) → m < move_count f q
      → Rel (a.number q s m) (b.number q s m) (c.number q s m)

  before : (o : Option Step) (round s : ℕ)
      → ((u : Step) → o ≡ Some u → let s' = ancestor f round (round_of f (at_point u.point)) s in
      Rel (a.number u.point s' u.choice) (b.number u.point s' u.choice) (c.number u.point s' u.choice))
      → Rel (number_before f a o round s) (number_before f b o round s) (number_before f c o round s)
  before None round s h = totals
  before (Some u) round s h = h u refl

  pub from_choices : AtChoices → AtEnds f (λ z s. Rel (ends f p a z s) (ends f p b z s) (ends f p c z s))
  from_choices h z s lz ls =
      let kn = known_from f p r w in
      let round = round_of f (at_end z) in
      let ls' = kn.kept (last_round f) round s (w.end_round z lz) (w.end_in z lz) ls in
      before (last_step f p (at_end z)) round (at_round f round s) (λ u e.
      h u.point (ancestor f round (round_of f (at_point u.point)) (at_round f round s)) u.choice (w.earlier_end z u lz e) (w.chosen_end z u lz e).0
      (kn.kept round (round_of f (at_point u.point)) (at_round f round s) (kn.some_round u.point) (w.past_end_own z u lz e) ls') (w.chosen_end z u lz e).1)

  pub from_before : ((q s m : ℕ) → q < point_count f → player_at f q ≡ p → s < signal_count f (round_of f (at_point q)) → m < move_count f q
      → let o = last_step f p (at_point q) in let round = round_of f (at_point q) in
      Rel (number_before f a o round s) (number_before f b o round s) (number_before f c o round s)
      → Rel (a.number q s m) (b.number q s m) (c.number q s m)) → AtChoices
  from_before step q s m lq hp ls lm = within (suc q) q s m (omega arith) lq hp ls lm
    where
      within : (n q s m : ℕ) → q < n → q < point_count f → player_at f q ≡ p → s < signal_count f (round_of f (at_point q)) → m < move_count f q
          → Rel (a.number q s m) (b.number q s m) (c.number q s m)
      within zero q s m l lq hp ls lm = absurd (omega arith)
      within (suc n) q s m l lq hp ls lm =
          let kn = known_from f p r w in
          step q s m lq hp ls lm (before (last_step f p (at_point q)) (round_of f (at_point q)) s (λ u e.
          let early = w.earlier q u lq e in
          within n u.point (ancestor f (round_of f (at_point q)) (round_of f (at_point u.point)) s) u.choice (omega arith) (omega arith) (w.chosen q u lq e).0
          (kn.kept (round_of f (at_point q)) (round_of f (at_point u.point)) s (kn.some_round u.point) (w.past q u lq e) ls) (w.chosen q u lq e).1))

-- the numbers of a raw plan are at most its total
pub ends_within : (f : Frame) (p : ℕ) → InRange f → IsWalked f p → (x : Plan) → IsRawPlan f p x → AtEnds f (λ z s. ends f p x z s ≤ x.total)
ends_within f p r w x raw =
    from_choices f p r w x x x (λ a b c. a ≤ x.total) (omega arith) (from_before f p r w x x x (λ a b c. a ≤ x.total) (omega arith)
    (λ q s m lq hp ls lm h.
    let flow = raw.flow q s lq hp ls in
    let le = le-sum (λ m. x.number q s m) 0 (move_count f q) m (omega arith) (omega arith) in
    omega arith))

-- plans of one total that put all on the same moves have the same numbers
pub ends_same : (f : Frame) (lists : ClassLists) (p : ℕ) → InRange f → IsWalked f p → IsClasses f.parents lists → (x y : Plan) (move move' : ℕ → ℕ → ℕ)
    → x.total ≡ y.total
    → ((q c : ℕ) → q < point_count f → player_at f q ≡ p → IsClass lists (round_of f (at_point q)) c → move q c ≡ move' q c)
    → PutsAllOn f lists p x move → PutsAllOn f lists p y move' → AtEnds f (λ z s. ends f p x z s ≡ ends f p y z s)
ends_same f lists p r w k x y move move' totals moves h h' =
    from_choices f p r w x y y (λ a b c. a ≡ b) totals (from_before f p r w x y y (λ a b c. a ≡ b) totals
    (λ q s m lq hp ls lm e.
    let round = round_of f (at_point q) in let cl = class_of lists round s in
    let same = moves q cl lq hp (class_in f lists k round s (w.some_round q lq) (w.point_in q lq) ls) in
    h.puts q s m lq hp ls lm
    ∙ ap (λ n. cond (eqb m n) (number_before f x (last_step f p (at_point q)) round s) 0) same
    ∙ ap (λ n. cond (eqb m (move' q cl)) n 0) e
    ∙ sym (h'.puts q s m lq hp ls lm)))

-- a sum of plans over classes, lifted
pub ends_add : (f : Frame) (lists : ClassLists) (p : ℕ) → InRange f → IsWalked f p → IsClasses f.parents lists → (x y z : Plan) → IsPlanSum f lists p x y z
    → AtEnds f (λ e s. ends f p (lift f lists z) e s ≡ ends f p (lift f lists x) e s + ends f p (lift f lists y) e s)
ends_add f lists p r w k x y z h =
    from_choices f p r w (lift f lists z) (lift f lists x) (lift f lists y) (λ a b c. a ≡ b + c) h.total
    (λ q s m lq hp ls lm. let round = round_of f (at_point q) in
    h.numbers q (class_of lists round s) m lq hp (class_in f lists k round s (w.some_round q lq) (w.point_in q lq) ls) lm)
