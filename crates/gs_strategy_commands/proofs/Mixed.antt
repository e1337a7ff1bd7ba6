-- The plan and the gap of a player in a strategy, and the mixture that is told of them.
use Rattle.std.proofs.Common.{◌≡◌, ℕ, zero, suc, ◌<◌, ◌≤◌, List, sym, ap, ◌∙◌, subst, arith}
use Rattle.std.specs.Prelude.{◌==◌, if◌then◌else◌}
use Rattle.gs_frac.specs.declared.value.Fraction.{Fraction}
use Rattle.gs_lift.specs.Mixtures.{IsMixture}
use Rattle.gs_model.specs.{Classes.{ClassLists}, Frame.{Frame}}
use Rattle.gs_reply.specs.VerdictText.{mix_text}
use Rattle.gs_seq.specs.{Games.{frame_in}, Plans.{IsPlanOf, lifted}, declared.plan.Plan.{Plan}}
use Rattle.gs_strategy.specs.{Views.{parts_of, stored_view}, declared.stored.Stored.{Stored}}
use Rattle.gs_strategy_commands.specs.Queries.{IsToldAt}

module _ (s : Stored) where
  pub player_plan : (f : Frame) (lists : ClassLists) (player : ℕ) (x : Plan) → 0 < player → player ≤ 2 → x ≡ (if player == 1 then s.one else s.two)
      → IsPlanOf f lists 1 s.one → IsPlanOf f lists 2 s.two → IsPlanOf f lists player x
  player_plan f lists zero x some two is one other = absurd (omega arith)
  player_plan f lists (suc zero) x some two is one other = subst (IsPlanOf f lists 1) (sym is) one
  player_plan f lists (suc (suc zero)) x some two is one other = subst (IsPlanOf f lists 2) (sym is) other
  player_plan f lists (suc (suc (suc k))) x some two is one other = absurd (omega arith)

  abbrev Mixes : Plan → ℕ → ℕ → List (ℕ × Fraction) → Type 0
  Mixes x point place moves = IsMixture (frame_in s.game) (lifted (frame_in s.game) s.classes.lists x) point place moves

  pub told_at : (player : ℕ) (x : Plan) (gap : Fraction) (point place : ℕ) (moves : List (ℕ × Fraction)) (text : List ℕ) → 0 < player → player ≤ 2
      → x ≡ (if player == 1 then s.one else s.two) → gap ≡ (if player == 1 then s.verdict.gap1 else s.verdict.gap2) → Mixes x point place moves
      → text ≡ mix_text moves (parts_of gap) → IsToldAt (stored_view s) player point place text
  told_at zero x gap point place moves text some two is gap_is mixes printed = absurd (omega arith)
  told_at (suc zero) x gap point place moves text some two is gap_is mixes printed = record {
    moves = moves;
    mixture = subst (λ (y : Plan). Mixes y point place moves) is mixes;
    printed = printed ∙ ap (λ (g : Fraction). mix_text moves (parts_of g)) gap_is;
  }
  told_at (suc (suc zero)) x gap point place moves text some two is gap_is mixes printed = record {
    moves = moves;
    mixture = subst (λ (y : Plan). Mixes y point place moves) is mixes;
    printed = printed ∙ ap (λ (g : Fraction). mix_text moves (parts_of g)) gap_is;
  }
  told_at (suc (suc (suc k))) x gap point place moves text some two is gap_is mixes printed = absurd (omega arith)
