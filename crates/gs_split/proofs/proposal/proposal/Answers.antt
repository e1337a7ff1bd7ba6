use Rattle.std.proofs.Common.{List, Option, ℕ, subst, sym, Vec, Global}
use Rattle.std.specs.Prelude.{IfSome}
use Rattle.gs_model.specs.{Frame.{frame_of, last_round}, Rows.{rows}}
use Rattle.gs_model.proofs.Ranges.{in_range}
use Rattle.gs_tree.specs.Trees.{rules_of}
use Rattle.gs_lossless.proofs.Descent.{playable}
use Rattle.gs_split.specs.Proposal.{AreFair, AreFairFrom}
use Rattle.gs_split.proofs.{Proposed.{fair_have, parted_proposal}, proposal.proposal.Goals.{After-deref}}
use Rattle.gs_split.proofs.proposal.proposal.Goals as goal

pub all_numbers-requires : goal.all_numbers-requires
all_numbers-requires c =
    let f = frame_of (rules_of c.args.from.now.signals.now) in
    subst (λ (o : Option (Vec ℕ Global)). IfSome o (λ (v : Vec ℕ Global). AreFair f c.args.from.now.classes.now.lists (last_round f) v.items)) c.in-Some.is
    c.in_ok-last.ensures

fair : (c : After-deref) → AreFairFrom (frame_of (rules_of c.args.from.now.signals.now)) c.args.from.now.classes.now.lists 1 (rows c.deref.result.now)
fair c = subst (λ (vs : List (Vec ℕ Global)). AreFairFrom (frame_of (rules_of c.args.from.now.signals.now)) c.args.from.now.classes.now.lists 1 (rows vs))
    (sym c.deref.ensures.value) c.in_ok-numbers.ensures

pub parted-requires : goal.parted-requires
parted-requires c =
    fair_have (frame_of (rules_of c.args.from.now.signals.now)) c.args.from.now.classes.now.lists (rows c.deref.result.now)
    (fair (goal.at.parted-requires c).After-deref)

pub returns : goal.returns
returns c = record {
  parents = c.in_ok-classes.ensures.parents;
  proposal = let g = rules_of c.args.from.now.signals.now in
      parted_proposal (frame_of g) c.args.from.now.classes.now.lists (rows c.deref.result.now) (fair (goal.at.returns c).After-deref)
      (in_range g (playable c.args.from.now.signals.now)) c.in_ok-classes.classes.lists c.in_ok-classes.ensures.parted;
}
