-- A game with too many raw cells is refused for them.
use Rattle.std.proofs.Common.{◌≡◌, ◌<◌, ℕ, inr, refl, ap, ◌∙◌, subst}
use Rattle.gs_model.specs.Frame.{Frame}
use Rattle.gs_raw.specs.{Answers.{IsRawStopOf}, Cells.{raw_cell_count}, declared.stop.RawStop.{RawStop}, declared.stop.RawStop.TheVariants.{TooManyCells}}
use Rattle.gs_reply.specs.{Refusals.{Too_large}, Replies.{Reply, Refuses, Tells}, declared.refusals.Limit.TheVariants.{RawCells}}
use Rattle.gs_reply.specs.declared.refusals.Refusal.TheVariants as told
use Rattle.gs_strategy.specs.{Confirmed.{strategy_frame}, Values.{Numbers, Strategy}}
use Rattle.gs_raw_commands.specs.Commands.{OnRawCards}

pub too_many : (f : Frame) (one two : Strategy) (says : Numbers → Reply → Type 0) (count : ℕ) (stop : RawStop) → f ≡ strategy_frame one
    → stop ≡ TooManyCells count → IsRawStopOf f stop → Tells (OnRawCards says one two) (told.TooLarge (RawCells count))
too_many f one two says count stop same is h =
    let m = subst (IsRawStopOf f) is h in
    let here : count ≡ raw_cell_count (strategy_frame one) = m.0 ∙ ap raw_cell_count same in
    (Too_large (RawCells count), inr (subst (λ n. 16777216 < n) here m.1, ap (λ n. Refuses (Too_large (RawCells n))) here), refl)
