use Rattle.std.proofs.{Common.{◌∙◌, List, ap, length, ℕ}, lemmas.Result.{IfOk-weaker}}
use Rattle.gs_tree.specs.Trees.{rules_of}
use Rattle.gs_lossless.specs.Alike.{AreStandIns}
use Rattle.gs_lossless.proofs.{Alike.{firsts_of_deals}, Descent.{playable}, AspectOf.{many_last}}
use Rattle.gs_lossless.proofs.standing.stand_ins_at.Goals as goal

pub stand_ins-requires : goal.stand_ins-requires
stand_ins-requires c = ap (λ (l : List ℕ). length l) c.deref.ensures.value ∙ many_last c.args.at.now (c.if-at-rounds.true ∙ c.rounds.ensures.value)

pub returns-then-at-rounds : goal.returns-then-at-rounds
returns-then-at-rounds c =
    let at = c.args.at.now in
    let g = rules_of at.signals.now in
    IfOk-weaker c.stand_ins.result (λ v. AreStandIns g c.deref.result.now v.items) _
    (λ v h some. firsts_of_deals g (playable at.signals.now) at.aspect at.round at.has (c.if-at-rounds.true ∙ c.rounds.ensures.value)
    at.classes.now.lists c.deref.result.now v.items (c.deref.ensures.value ∙ at.are) h)
    c.stand_ins.ensures
