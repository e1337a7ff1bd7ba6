use Rattle.std.proofs.{Common.{sym, ◌∙◌, subst}, lemmas.Result.{IfOk-weaker}}
use Rattle.gs_lift.specs.Mixtures.{IsMixture}
use Rattle.gs_seq.specs.{Abstracts.{abstract_frame, lists_of}, Plans.{IsPlanOf, lifted}}
use Rattle.gs_strategy_commands.proofs.{Mixed.{player_plan, told_at}, Moved.{first_plan, moved, second_plan}, queries.told_at.Goals.{After-plan_of-plan}}
use Rattle.gs_strategy_commands.proofs.queries.told_at.Goals as goal

-- the plan is the player's
plan : (c : After-plan_of-plan) → IsPlanOf (abstract_frame c.args.form.now) (lists_of c.args.form.now) c.args.query.now.player c.plan_of-plan.result.now
plan c =
    let l = c.args.form.now.lossless.now in
    let s = c.args.stored.now in
    let q = c.args.query.now in
    player_plan s _ _ q.player c.plan_of-plan.result.now q.some q.two c.plan_of-plan.ensures (first_plan l s c.requires.held) (second_plan l s c.requires.held)

pub mix-requires-clause-own : goal.mix-requires-clause-own
mix-requires-clause-own c = c.requires.spot.point.own ∙ sym (plan (goal.at.mix-requires-clause-own c).After-plan_of-plan).player_is

pub mix-requires-clause-plan : goal.mix-requires-clause-plan
mix-requires-clause-plan c =
    let a = c.args.form.now in
    let h = plan (goal.at.mix-requires-clause-plan c).After-plan_of-plan in
    subst (λ p. IsPlanOf (abstract_frame a) (lists_of a) p c.plan_of-plan.result.now) (sym h.player_is) h

pub returns : goal.returns
returns c =
    let s = c.args.stored.now in
    let q = c.args.query.now in
    let spot = c.args.spot in
    let x = c.plan_of-plan.result.now in
    let moves = c.mix.new.out in
    let mixes = moved (λ f n. IsMixture f (lifted f n x) spot.point spot.signal moves) c.args.form.now.lossless.now s c.requires.held c.mix.ensures in
    IfOk-weaker c.mix_text.result _ _ (λ text. told_at s q.player x c.gap_of.result.now spot.point spot.signal moves text.items q.some q.two
    c.plan_of-plan.ensures c.gap_of.ensures mixes) c.mix_text.ensures
