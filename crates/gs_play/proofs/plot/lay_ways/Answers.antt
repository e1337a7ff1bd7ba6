use Rattle.std.proofs.Common.{◌<◌, refl, arith}
use Rattle.gs_model.specs.Frame.{leads_to, move_count}
use Rattle.gs_seq.specs.Abstracts.{abstract_frame}
use Rattle.gs_seq.proofs.Forms.{form_walked}
use Rattle.gs_play.proofs.PlotLaws.{room_inside, ways_more, ways_next}
use Rattle.gs_play.proofs.plot.lay_ways.Goals as goal

pub loop-choice-preserved : goal.loop-choice-preserved
loop-choice-preserved c =
    let f = abstract_frame c.args.form.now in
    let q = c.args.point in
    let m = c.loop-choice.choice in
    let points = c.loop-choice.to_points in
    let ends = c.loop-choice.to_ends in
    let lm : m < move_count f q = omega (arith, c.loop-choice-test.true, c.move_total-choice-end.ensures.value) in
    let room = room_inside f (leads_to f q m) points ends (omega arith) (omega arith)
    ((form_walked c.args.form.now 1 (omega arith) (omega arith)).inside q m c.requires.point lm) in
    ways_more f q m (record { point = q; choice = m }) c.requires.point lm refl points ends c.lay_way.new.to_points c.lay_way.new.to_ends room c.lay_way.ensures
    c.loop-choice.invariant

pub returns : goal.returns
returns c = ways_next (abstract_frame c.args.form.now) c.args.point c.loop-choice.choice c.loop-choice.to_points c.loop-choice.to_ends
    (omega (arith, c.loop-choice-test.false, c.move_total-choice-end.ensures.value)) c.loop-choice.invariant
