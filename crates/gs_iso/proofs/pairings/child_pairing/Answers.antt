use Rattle.std.proofs.{Common.{◌+◌, ◌∙◌, length, ap, arith}, lemmas.Result.{IfOk-weaker}}
use Rattle.gs_model.specs.Signals.{signal_at}
use Rattle.gs_tree.specs.Trees.{rules_of}
use Rattle.gs_iso.specs.Pairings.{IsPaired, IsPairingAnswer}
use Rattle.gs_iso.proofs.{Paired.{child_answer, children_few}, Exact.{child_eq}}
use Rattle.gs_iso.proofs.pairings.child_pairing.Goals as goal

pub match_equals-requires : goal.match_equals-requires
match_equals-requires c = record {
  few_ones = omega (
    arith,
    ap length (c.deref.ensures.value ∙ c.in_ok-ones.ensures),
    children_few (rules_of c.args.signals.now) c.args.round
        (c.args.round + 1) c.args.a c.args.below.now c.args.signals.now.game.now.limits c.requires.before_last c.requires.a_in,
  );
  few_twos = omega (
    arith,
    ap length (c.deref-2.ensures.value ∙ c.in_ok-twos.ensures),
    children_few (rules_of c.args.signals.now) c.args.round
        (c.args.round + 1) c.args.b c.args.below.now c.args.signals.now.game.now.limits c.requires.before_last c.requires.b_in,
  );
}

pub returns : goal.returns
returns c =
    let g = rules_of c.args.signals.now in
    let r = c.args.round in
    IfOk-weaker c.match_equals.result (IsPairingAnswer child_eq c.deref.result.now c.deref-2.result.now)
    (IsPaired g r (signal_at g r c.args.a) (signal_at g r c.args.b))
    (child_answer g r (r + 1) (omega arith) c.requires.before_last c.args.below.now c.requires.numbers c.args.a c.args.b c.requires.a_in c.requires.b_in
    c.deref.result.now c.deref-2.result.now
    (c.deref.ensures.value ∙ c.in_ok-ones.ensures) (c.deref-2.ensures.value ∙ c.in_ok-twos.ensures)) c.match_equals.ensures
