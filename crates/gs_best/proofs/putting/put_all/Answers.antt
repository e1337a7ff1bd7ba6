use Rattle.std.proofs.Common.{refl}
use Rattle.gs_model.specs.BestAnswers.{IsFirstBestPlan}
use Rattle.gs_seq.specs.{Plans.{lifted}, Slots.{plan_of}}
use Rattle.gs_seq.proofs.Forms.{form_classes, form_in_range}
use Rattle.gs_best.specs.Sides.{frame_at, lists_at, picks_at}
use Rattle.gs_best.proofs.{MemberValues.{filled_best, filled_values}, Players.{walked}, AllOn.{put_is_best, put_is_plan}, putting.put_all.Goals.{In_ok-weights}}
use Rattle.gs_best.proofs.putting.put_all.Goals as goal

best : (c : In_ok-weights) → let s = c.args.side.now in
    IsFirstBestPlan (frame_at s) (lists_at s) s.player (lifted (frame_at s) (lists_at s) s.other.now)
    (plan_of (frame_at s) (lists_at s) 1 c.in_ok-weights.weights.items)
best c =
    let s = c.args.side.now in
    let t = c.args.table.now in
    put_is_best (frame_at s) (lists_at s) s.player (lifted (frame_at s) (lists_at s) s.other.now) (filled_values s t c.requires.filled)
    (picks_at s t.picks.items)
    c.in_ok-weights.weights.items (filled_best s t c.requires.filled) c.in_ok-weights.ensures.puts

pub returns : goal.returns
returns c = record {
  plan = let s = c.args.side.now in
      record {
        player_is = refl;
        plan = put_is_plan (frame_at s) (form_in_range s.form.now) (lists_at s) (form_classes s.form.now) s.player (walked s)
            (lifted (frame_at s) (lists_at s) s.other.now)
            c.in_ok-weights.weights.items c.in_ok-weights.ensures.long (best (goal.at.returns c).In_ok-weights);
      };
  best = best (goal.at.returns c).In_ok-weights;
}
