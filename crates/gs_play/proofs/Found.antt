-- A class total found again from the worths of its moves: by the first greatest of some lines, or by their sum.
use Rattle.std.proofs.{Common.{◌≡◌, ℕ, ◌+◌, ◌<◌, List, length, refl, sym, ap, ◌∙◌, subst, arith}, lemmas.Int.{ints}}
use Rattle.std.specs.Prelude.{ℤ}
use Rattle.gs_model.specs.{BestAnswers.{Values}, Classes.{ClassLists}, Frame.{Frame, choices_at, leads_to, move_count, point_count}, Sums.{sum_z}}
use Rattle.gs_model.specs.{FrameFacts.{IsFrom, IsWalked}, Positions.{Target, at_point}}
use Rattle.gs_best.proofs.Ranges.{sum_same}
use Rattle.gs_best.specs.ClassTotals.{total_worth}
use Rattle.gs_play.specs.{Jumps.{line}, Lines.{StaysFirst, line_at, value_in}, Tables.{IsOtherSettled, IsOwnSettled, worth_in}, declared.line.Line.{Line}}
use Rattle.gs_play.proofs.Settling.{IsChanged, fed_elsewhere}

-- some lines are what the moves of a point are worth to a class
pub record AreWorthLines (f : Frame) (lists : ClassLists) (at slope : Values) (q c : ℕ) (lines : List Line) : Type 0 where
  pub long : length lines ≡ move_count f q
  pub at_is : (m : ℕ) → m < move_count f q → (line_at lines m).at ≡ total_worth f lists at q m c
  pub slope_is : (m : ℕ) → m < move_count f q → (line_at lines m).slope ≡ total_worth f lists slope q m c

-- a move leads to a later point, or to an end, and so not to its own point
not_here : (q : ℕ) (t : Target) → IsFrom (q + 1) t → t ≡ at_point q → ⊥
not_here q t h e = absurd (omega (arith, subst (IsFrom (q + 1)) e h))

-- what the moves of a point are worth does not hang on the point's own total
pub own_apart : (f : Frame) (lists : ClassLists) (player : ℕ) → IsWalked f player → (v w : Values) (q e c m : ℕ) (more : ℤ) → q < point_count f
    → m < move_count f q → IsChanged f lists v w (at_point q) e more → total_worth f lists w q m c ≡ total_worth f lists v q m c
own_apart f lists player walked v w q e c m more lq lm changed =
    fed_elsewhere f lists v w (at_point q) e more changed q m c (walked.inside q m lq lm) (λ is above. not_here q (leads_to f q m) (walked.later q m lq lm) is)

module _ (f : Frame) (lists : ClassLists) (player : ℕ) (walked : IsWalked f player) (at slope at' slope' : Values) (q c : ℕ) (lq : q < point_count f)
    (more rise : ℤ) (ca : IsChanged f lists at at' (at_point q) c more) (cs : IsChanged f lists slope slope' (at_point q) c rise) (lines : List Line)
    (are : AreWorthLines f lists at slope q c lines) where
  at_now : (m : ℕ) → m < move_count f q → (line_at lines m).at ≡ total_worth f lists at' q m c
  at_now m lm = are.at_is m lm ∙ sym (own_apart f lists player walked at at' q c c m more lq lm ca)

  slope_now : (m : ℕ) → m < move_count f q → (line_at lines m).slope ≡ total_worth f lists slope' q m c
  slope_now m lm = are.slope_is m lm ∙ sym (own_apart f lists player walked slope slope' q c c m rise lq lm cs)

  worth_now : (t m : ℕ) → m < move_count f q → value_in (line_at lines m) t ≡ worth_in f lists at' slope' q c t m
  worth_now t m lm = ap (λ x. line x (line_at lines m).slope t) (at_now m lm) ∙ ap (λ x. line (total_worth f lists at' q m c) x t) (slope_now m lm)

  -- by the first greatest line
  pub own_found : (best now until : ℕ) → best < length lines → StaysFirst lines best now until → at' (at_point q) c ≡ (line_at lines best).at
      → slope' (at_point q) c ≡ (line_at lines best).slope → IsOwnSettled f lists at' slope' q c best now until
  own_found best now until inside stays a s =
      let lb : best < move_count f q = omega (arith, inside, are.long) in
      record {
        in_range = lb;
        at_is = a ∙ at_now best lb;
        slope_is = s ∙ slope_now best lb;
        first = λ t lo hi.
            let h = stays t lo hi in
            record {
              in_range = lb;
              reached = refl;
              none_more = λ m lm.
                  let k = h.none_more m (omega (arith, lm, are.long)) in
                  let x = worth_now t m lm in
                  let y = worth_now t best lb in
                  omega (arith, ints, k, x, y);
              none_before = λ m lm.
                  let k = h.none_before m lm in
                  let x = worth_now t m (omega (arith, lm, lb)) in
                  let y = worth_now t best lb in
                  omega (arith, ints, k, x, y);
            };
      }

  -- by the sum of all lines
  pub other_found : at' (at_point q) c ≡ sum_z (λ m. (line_at lines m).at) (choices_at f q)
      → slope' (at_point q) c ≡ sum_z (λ m. (line_at lines m).slope) (choices_at f q) → IsOtherSettled f lists at' slope' q c
  other_found a s = record {
    at_is = a ∙ sum_same (λ m. (line_at lines m).at) (λ m. total_worth f lists at' q m c) 0 (move_count f q) (λ m lo hi. at_now m (omega arith));
    slope_is = s ∙ sum_same (λ m. (line_at lines m).slope) (λ m. total_worth f lists slope' q m c) 0 (move_count f q) (λ m lo hi. slope_now m (omega arith));
  }
