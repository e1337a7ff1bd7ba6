use Rattle.std.proofs.Common.{◌<◌, sym, ap, ◌∙◌, subst, arith}
use Rattle.gs_game.specs.Seen.{target_of}
use Rattle.gs_model.specs.{Frame.{end_count, point_count}, FrameFacts.{IsInside}}
use Rattle.gs_seq.specs.Abstracts.{abstract_frame}
use Rattle.gs_seq.proofs.Forms.{form_walked}
use Rattle.gs_play.proofs.plot.lay_way.Goals.{In-End, In-Point}
use Rattle.gs_play.proofs.plot.lay_way.Goals as goal

next : (c : In-Point) → c.in-Point.next < point_count (abstract_frame c.args.form.now)
next c = subst (IsInside (abstract_frame c.args.form.now)) (sym c.target_at.ensures ∙ ap target_of c.in-Point.is)
    ((form_walked c.args.form.now 1 (omega arith) (omega arith)).inside c.args.step.point c.args.step.choice c.requires.point c.requires.choice)

end : (c : In-End) → c.in-End.end < end_count (abstract_frame c.args.form.now)
end c = subst (IsInside (abstract_frame c.args.form.now)) (sym c.target_at.ensures ∙ ap target_of c.in-End.is)
    ((form_walked c.args.form.now 1 (omega arith) (omega arith)).inside c.args.step.point c.args.step.choice c.requires.point c.requires.choice)

pub bounds-to_points-next : goal.bounds-to_points-next
bounds-to_points-next c = omega (arith, next (goal.at.bounds-to_points-next c).In-Point)

pub bounds-to_ends-end : goal.bounds-to_ends-end
bounds-to_ends-end c = omega (arith, end (goal.at.bounds-to_ends-end c).In-End)

pub returns-in-End : goal.returns-in-End
returns-in-End c = grind arith

pub returns-in-Point : goal.returns-in-Point
returns-in-Point c = grind arith
