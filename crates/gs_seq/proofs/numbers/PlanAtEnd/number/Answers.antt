use Rattle.std.proofs.{Common.{◌≡◌, length, get_or, ap, sym, subst, arith, Some}, lemmas.Grind.{common_steps}}
use Rattle.gs_game.specs.Games.{game_of}
use Rattle.gs_model.specs.{Classes.{IsClass}, Frame.{point_count, round_of}, Positions.{at_end}}
use Rattle.gs_model.proofs.Ranges.{in_range}
use Rattle.gs_seq.specs.{Games.{frame_in}, Plans.{class_plan}, Slots.{slot_count}, Sources.{IsWeightAbove, MatchSource}}
use Rattle.gs_seq.proofs.{Coming.{SourceFacts, end_facts, number_above}, Ends.{end_reads, end_round, no_end, number_few}, Points.{playable, walked}}
use Rattle.gs_seq.proofs.{SlotLaws.{over, slots_few}, numbers.PlanAtEnd.number.Goals.{After-ends, In-Some}}
use Rattle.gs_seq.proofs.numbers.PlanAtEnd.number.Goals as goal

-- the step before the end
source : (c : In-Some) → MatchSource (frame_in c.args.self.now.game.now) c.args.self.now.classes.now.lists c.args.self.now.plan.now.player
    (at_end c.args.self.now.end) (Some c.in-Some.step)
source c = subst (MatchSource (frame_in c.args.self.now.game.now) c.args.self.now.classes.now.lists c.args.self.now.plan.now.player
    (at_end c.args.self.now.end)) c.in-Some.is c.requires.source

facts : (c : In-Some)
    → SourceFacts (frame_in c.args.self.now.game.now) c.args.self.now.classes.now.lists (at_end c.args.self.now.end)
    (slot_count (frame_in c.args.self.now.game.now) c.args.self.now.classes.now.lists c.args.self.now.plan.now.player) (source c).0 c.in-Some.step
facts c =
    let p = c.args.self.now.plan.now.player in
    let h = source c in
    end_facts (frame_in c.args.self.now.game.now) c.args.self.now.classes.now.lists p c.args.self.now.end h.0 c.in-Some.step
    (walked c.args.self.now.game.now p c.args.self.now.some c.args.self.now.two)
    c.args.self.now.within h.1

-- the round that is read is the end's
here : (c : After-ends) → (get_or c.ends.result.now c.args.self.now.end no_end).round ≡ round_of (frame_in c.args.self.now.game.now)
    (at_end c.args.self.now.end)
here c = end_round (frame_in c.args.self.now.game.now) c.args.self.now.end _
    (end_reads c.args.self.now.game.now c.ends.result.now c.args.self.now.end no_end c.ends.ensures c.args.self.now.within)

pub weight_above-requires-clause-some : goal.weight_above-requires-clause-some
weight_above-requires-clause-some c = (facts (goal.at.weight_above-requires-clause-some c).In-Some).some

pub weight_above-requires-clause-earlier : goal.weight_above-requires-clause-earlier
weight_above-requires-clause-earlier c =
    let at = goal.at.weight_above-requires-clause-earlier c in omega (arith, (facts at.In-Some).earlier, here at.After-ends)

pub weight_above-requires-clause-top : goal.weight_above-requires-clause-top
weight_above-requires-clause-top c =
    let w = walked c.args.self.now.game.now c.args.self.now.plan.now.player c.args.self.now.some c.args.self.now.two in
    omega (
      arith,
      here (goal.at.weight_above-requires-clause-top c).After-ends,
      w.end_in c.args.self.now.end c.args.self.now.within,
      (over (frame_in c.args.self.now.game.now) c.args.self.now.classes.now c.args.self.now.parents).rounds,
    )

pub weight_above-requires-clause-class : goal.weight_above-requires-clause-class
weight_above-requires-clause-class c = subst (λ k. IsClass c.args.self.now.classes.now.lists k c.args.class)
    (sym (here (goal.at.weight_above-requires-clause-class c).After-ends)) c.requires.class

pub weight_above-requires-clause-within : goal.weight_above-requires-clause-within
weight_above-requires-clause-within c =
    let long : length c.deref.result.now ≡ length c.args.self.now.plan.now.weights.items = ap length c.deref.ensures.value in
    λ above k. omega (arith, (facts (goal.at.weight_above-requires-clause-within c).In-Some).within above k, c.args.self.now.plan_is.plan.long, long)

pub weight_above-requires-clause-few : goal.weight_above-requires-clause-few
weight_above-requires-clause-few c =
    let few = slots_few c.args.self.now.game.now c.args.self.now.classes.now c.args.self.now.parents c.args.self.now.plan.now.player
    (point_count (frame_in c.args.self.now.game.now)) (omega arith) in
    λ above k. omega (arith, (facts (goal.at.weight_above-requires-clause-few c).In-Some).within above k, few)

pub returns-in-Some-clause-value : goal.returns-in-Some-clause-value
returns-in-Some-clause-value c =
    let at = goal.at.returns-in-Some-clause-value c in
    let g = c.args.self.now.game.now in
    let plan = c.args.self.now.plan.now in
    let h = source at.In-Some in
    let t = subst (λ ws. IsWeightAbove c.args.self.now.classes.now c.in-Some.step (get_or c.ends.result.now c.args.self.now.end no_end).round c.args.class ws
    c.weight_above.result) c.deref.ensures.value c.weight_above.ensures in
    number_above (frame_in g) (in_range (game_of g.game) (playable g)) c.args.self.now.classes.now (sym c.args.self.now.parents) plan.player
    (at_end c.args.self.now.end) _ h.0 c.in-Some.step h.1 (facts at.In-Some) plan.total _ c.args.class
    (here at.After-ends) plan.weights.items c.weight_above.result t

pub returns-in-Some-clause-within : goal.returns-in-Some-clause-within
returns-in-Some-clause-within c =
    let p = c.args.self.now.plan.now in
    let f = frame_in c.args.self.now.game.now in
    let lists = c.args.self.now.classes.now.lists in
    let n = number_few f lists p.player (class_plan f lists p) c.args.self.now.end c.args.class
    (in_range (game_of c.args.self.now.game.now.game) (playable c.args.self.now.game.now))
    (walked c.args.self.now.game.now p.player c.args.self.now.some c.args.self.now.two)
    (over f c.args.self.now.classes.now c.args.self.now.parents) c.args.self.now.plan_is.plan.plan c.args.self.now.within c.requires.class in
    omega (arith, returns-in-Some-clause-value c, n)

pub bounds-ends-self : goal.bounds-ends-self
bounds-ends-self c = grind (arith, common_steps)

pub returns-in-None-clause-value : goal.returns-in-None-clause-value
returns-in-None-clause-value c = grind arith
