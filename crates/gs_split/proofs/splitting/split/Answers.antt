use Rattle.std.proofs.Common.{◌≡◌, Option, subst}
use Rattle.std.specs.Prelude.{IfSome}
use Rattle.gs_filter.specs.Filter.{Filter}
use Rattle.gs_model.specs.{Frame.{frame_of}, Refinement.{IsCoarsestLossless}}
use Rattle.gs_tree.specs.Trees.{rules_of}
use Rattle.gs_lossless.proofs.Settled.{if_ok}
use Rattle.gs_split.specs.Proposal.{IsProposal}
use Rattle.gs_split.proofs.Proposed.{coarsest_of}
use Rattle.gs_split.proofs.splitting.split.Goals as goal

pub settled-requires : goal.settled-requires
settled-requires c = subst (λ (o : Option Filter). IfSome o (λ (v : Filter). v.parents ≡ (frame_of (rules_of c.args.signals.now)).parents)) c.in-Some.is
    c.in_ok-proposed.ensures.parents

pub returns-in-Some-clause-coarsest : goal.returns-in-Some-clause-coarsest
returns-in-Some-clause-coarsest c =
    let f = frame_of (rules_of c.args.signals.now) in
    let from = c.args.from.now.lists in
    let start = c.in-Some.proposed.lists in
    let h : IsProposal f from start = subst (λ (o : Option Filter). IfSome o (λ (v : Filter). IsProposal f from v.lists)) c.in-Some.is
    c.in_ok-proposed.ensures.proposal in
    if_ok c.settled.result (λ (v : Filter). IsCoarsestLossless f start v.lists) (λ (v : Filter). IsCoarsestLossless f from v.lists)
    (λ v k. coarsest_of f from start v.lists h k) c.settled.ensures.coarsest
