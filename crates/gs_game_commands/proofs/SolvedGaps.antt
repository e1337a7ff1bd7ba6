-- The gaps that are printed of a solution.
use Rattle.std.proofs.Common.{ℕ, ◌<◌, List, subst}
use Rattle.gs_file.specs.Reading.{FileGame}
use Rattle.gs_model.specs.{Classes.{ClassLists}, Frame.{total_weight}, Plans.{lift}, Verdict.{IsVerdict}}
use Rattle.gs_seq.specs.{Plans.{lifted}, Slots.{plan_of}, declared.plan.Plan.{Plan}}
use Rattle.gs_solve.specs.Solutions.{IsGameSolution}
use Rattle.gs_strategy.specs.{Confirmed.{over}, Values.{Weights, file_frame}}
use Rattle.gs_game_commands.specs.{Solving.{IsSolved}, Texts.{IsSettledText}}
use Rattle.gs_game_commands.proofs.NoGaps.{no_first_gap, no_second_gap, zero_over_one}

-- the raw plan of weights
abbrev plan_at : FileGame → ClassLists → Weights → Rattle.gs_model.specs.Plans.Plan
plan_at g lists w = lift (file_frame g) lists (plan_of (file_frame g) lists w.total w.weights)

module _ (g : FileGame) (lists : ClassLists) (x y : Plan) (text : List ℕ) (told : IsSettledText g lists x y text) where
  -- the strategy's numbers are those of the two plans
  verdict_at : IsVerdict (file_frame g) (lifted (file_frame g) lists x) (lifted (file_frame g) lists y) (over told.strategy.numbers.value)
      (over told.strategy.numbers.gap1) (over told.strategy.numbers.gap2)
  verdict_at =
      let n = told.strategy.numbers in
      let s = told.strategy in
      let at_game = subst (λ (v : FileGame). IsVerdict (file_frame v) (plan_at v s.classes s.one) (plan_at v s.classes s.two) (over n.value) (over n.gap1)
      (over n.gap2)) told.game told.confirmed.numbers.verdict in
      let at_classes = subst (λ (c : ClassLists). IsVerdict (file_frame g) (plan_at g c s.one) (plan_at g c s.two) (over n.value) (over n.gap1) (over n.gap2))
      told.classes at_game in
      let at_first = subst (λ (w : Weights). IsVerdict (file_frame g) (plan_at g lists w) (plan_at g lists s.two) (over n.value) (over n.gap1) (over n.gap2))
      told.first at_classes in
      subst (λ (w : Weights). IsVerdict (file_frame g) (lifted (file_frame g) lists x) (plan_at g lists w) (over n.value) (over n.gap1)
      (over n.gap2)) told.second
      at_first

  pub is_solved : 0 < total_weight (file_frame g) → IsGameSolution (file_frame g) lists x y → IsSolved g lists text
  is_solved deals solution =
      let n = told.strategy.numbers in
      let a = lifted (file_frame g) lists x in
      let b = lifted (file_frame g) lists y in
      let some_one : 0 < x.total = solution.one.plan.plan.total_in.0 in
      let some_two : 0 < y.total = solution.two.plan.plan.total_in.0 in
      let v = verdict_at in
      record {
        one = x;
        two = y;
        solution = solution;
        told = told;
        gap1 = zero_over_one n.gap1.0 n.gap1.1 told.confirmed.numbers.fractions.gap1
            (no_first_gap (file_frame g) a b (over n.gap1).0 (over n.gap1).1 deals some_one some_two v.first_gap solution.first_gap);
        gap2 = zero_over_one n.gap2.0 n.gap2.1 told.confirmed.numbers.fractions.gap2
            (no_second_gap (file_frame g) a b (over n.gap2).0 (over n.gap2).1 deals some_one some_two v.second_gap solution.second_gap);
      }
