use Rattle.std.proofs.Common.{◌∙◌, sym, subst, arith}
use Rattle.gs_model.specs.Frame.{frame_of}
use Rattle.gs_model.proofs.Walked.{last_round_of}
use Rattle.gs_tree.specs.Trees.{rules_of}
use Rattle.gs_lossless.specs.Amounts.{IsRunIn}
use Rattle.gs_lossless.proofs.runs.descendants.Goals as goal

pub descendants_in-requires-clause-onward : goal.descendants_in-requires-clause-onward
descendants_in-requires-clause-onward c = omega (arith, c.rounds.ensures.value, c.requires.last)

pub descendants_in-requires-clause-top : goal.descendants_in-requires-clause-top
descendants_in-requires-clause-top c = omega (arith, c.rounds.ensures.value)

pub returns : goal.returns
returns c =
    let g = rules_of c.args.signals.now in
    subst (λ k. IsRunIn (frame_of g) k c.args.round c.args.signal c.descendants_in.result.first c.descendants_in.result.end)
    (c.rounds.ensures.value ∙ sym (last_round_of g)) c.descendants_in.ensures
