use Rattle.std.proofs.Common.{List, Vec, ℕ, Global, subst, sym}
use Rattle.gs_model.specs.{Frame.{frame_of}, RefinementTurn.{IsTurn}, Rows.{rows}}
use Rattle.gs_filter.specs.Filter.{Filter}
use Rattle.gs_tree.specs.Trees.{rules_of}
use Rattle.gs_lossless.proofs.Settled.{if_ok}
use Rattle.gs_split.specs.Turns.{AreExact, AreParted}
use Rattle.gs_split.proofs.{Turned.{exact_have, turn_of}, turns.turn.Goals.{After-deref}}
use Rattle.gs_split.proofs.turns.turn.Goals as goal

exact : (c : After-deref) → AreExact (frame_of (rules_of c.args.signals.now)) c.args.classes.now.lists (rows c.deref.result.now)
exact c = subst (λ (vs : List (Vec ℕ Global)). AreExact (frame_of (rules_of c.args.signals.now)) c.args.classes.now.lists (rows vs))
    (sym c.deref.ensures.value) c.in_ok-numbers.ensures

pub parted-requires : goal.parted-requires
parted-requires c =
    exact_have (frame_of (rules_of c.args.signals.now)) c.args.classes.now.lists (rows c.deref.result.now) (exact (goal.at.parted-requires c).After-deref)

pub returns-clause-turn : goal.returns-clause-turn
returns-clause-turn c =
    let f = frame_of (rules_of c.args.signals.now) in
    let old = c.args.classes.now.lists in
    if_ok c.parted.result (λ (v : Filter). AreParted f old (rows c.deref.result.now) v.lists) (λ (v : Filter). IsTurn f old v.lists)
    (λ v h. turn_of f old (rows c.deref.result.now) v.lists h (exact (goal.at.returns-clause-turn c).After-deref)) c.parted.ensures.parted
