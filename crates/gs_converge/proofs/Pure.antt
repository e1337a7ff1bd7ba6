-- The pure plans, by number: each best answer is one of them, as far as payoffs go.
use Rattle.std.proofs.Common.{◌≡◌, ℕ, suc, ◌<◌, refl, sym, ap, ◌∙◌, arith, Bool, true, false, cond}
use Rattle.std.proofs.{lemmas.Bool.{lt-ltb, ltb-true}, Math.Dec.{ltb}}
use Rattle.gs_model.proofs.FirstBest.{first_best_exists}
use Rattle.gs_model.specs.{BestAnswers.{PutsAllOn}, Classes.{ClassLists, IsClass, IsClasses, class_count}, FrameFacts.{InRange, IsWalked}}
use Rattle.gs_model.specs.{Frame.{Frame, point_count, player_at, move_count, round_of}, Plans.{Plan, IsRawPlan, lift}, Positions.{at_point}}
use Rattle.gs_converge.specs.BestTurns.{IsBestAnswer}
use Rattle.gs_converge.proofs.{Codes.{size, code, picked, code_below, picked_code, sum_below, le-sum_below}, Numbers.{ends_same}, Payoffs.{AtEnds, ends}}

module _ (f : Frame) (lists : ClassLists) where
  -- more than each point has moves
  abbrev base : ℕ
  base = suc (sum_below (λ q. move_count f q) (point_count f))

  -- more than each class's number
  abbrev width : ℕ
  width = suc (sum_below (λ q. class_count lists (round_of f (at_point q))) (point_count f))

  -- how many numbers stand for pure plans
  abbrev pub pure_count : ℕ
  pure_count = size (size base width) (point_count f)

  abbrev pub number_of : (ℕ → ℕ → ℕ) → ℕ
  number_of move = code base width (point_count f) move

  -- the moves of a number: its digits, and the first move where a digit is no move
  abbrev moves : ℕ → ℕ → ℕ → ℕ
  moves n q c = cond (ltb (picked base width n q c) (move_count f q)) (picked base width n q c) 0

  -- each own point that a class can reach has a move
  abbrev pub HasMoves : ℕ → Type 0
  HasMoves p = (q c : ℕ) → q < point_count f → player_at f q ≡ p → IsClass lists (round_of f (at_point q)) c → 0 < move_count f q

  pub number_in : (move : ℕ → ℕ → ℕ) → number_of move < pure_count
  number_in move = code_below base width (point_count f) move (omega arith)

  guarded : (d n : ℕ) → 0 < n → (b : Bool) → ltb d n ≡ b → cond b d 0 < n
  guarded d n h true e = ltb-true d n e
  guarded d n h false e = h

  moves_in : (p n : ℕ) → HasMoves p → (q c : ℕ) → q < point_count f → player_at f q ≡ p → IsClass lists (round_of f (at_point q)) c
      → moves n q c < move_count f q
  moves_in p n h q c lq hp lc = guarded (picked base width n q c) (move_count f q) (h q c lq hp lc) (ltb (picked base width n q c) (move_count f q)) refl

  moves_of_number : (move : ℕ → ℕ → ℕ) (q c : ℕ) → q < point_count f → IsClass lists (round_of f (at_point q)) c → move q c < move_count f q
      → move q c ≡ moves (number_of move) q c
  moves_of_number move q c lq lc lm =
      let b = le-sum_below (λ q. move_count f q) (point_count f) q lq in
      let w = le-sum_below (λ q. class_count lists (round_of f (at_point q))) (point_count f) q lq in
      let top = lc.1 in
      let e = picked_code base width (point_count f) move q c lq (omega arith) (omega arith) in
      sym (ap (λ d. cond (ltb d (move_count f q)) d 0) e ∙ ap (λ b. cond {A = ℕ} b (move q c) 0) (lt-ltb (move q c) (move_count f q) lm))

  module _ (p : ℕ) (r : InRange f) (w : IsWalked f p) (k : IsClasses f.parents lists) (h : HasMoves p) where
    made : (n : ℕ) → (x : Plan) × IsRawPlan f p x × PutsAllOn f lists p x (moves n) × (x.total ≡ 1)
    made n = first_best_exists f lists p 1 (moves n) w k (omega arith) (moves_in p n h)

    pub pure : ℕ → Plan
    pure n = (made n).0

    pub pure_is_raw : (n : ℕ) → IsRawPlan f p (pure n)
    unfolding pure
    pure_is_raw n = (made n).1

    pub pure_is_one : (n : ℕ) → (pure n).total ≡ 1
    unfolding pure
    pure_is_one n = (made n).3

    pub pure_ends : (y x : Plan) → (b : IsBestAnswer f lists p y x)
        → AtEnds f (λ z s. ends f p (lift f lists x) z s ≡ ends f p (pure (number_of b.move)) z s)
    unfolding pure
    pure_ends y x b =
        let n = number_of b.move in let one = b.one in let one' = (made n).3 in
        ends_same f lists p r w k (lift f lists x) (made n).0 b.move (moves n) (one ∙ sym one')
        (λ q c lq hp lc. moves_of_number b.move q c lq lc (b.in_range q c lq hp lc)) b.puts (made n).2
