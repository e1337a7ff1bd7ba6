use Rattle.std.proofs.{Common.{◌∙◌, length, ap, arith}, lemmas.Result.{IfOk-weaker}}
use Rattle.gs_model.specs.{Game.{round_count}, Signals.{signal_at}}
use Rattle.gs_tree.specs.Trees.{rules_of}
use Rattle.gs_iso.specs.Pairings.{IsPaired, IsPairingAnswer}
use Rattle.gs_iso.proofs.{Paired.{leaf_answer, leaves_few}, Exact.{leaf_eq}}
use Rattle.gs_iso.proofs.pairings.leaf_pairing.Goals as goal

pub match_equals-requires : goal.match_equals-requires
match_equals-requires c = record {
  few_ones = omega (
    arith,
    ap length (c.deref.ensures.value ∙ c.in_ok-ones.ensures),
    leaves_few (rules_of c.args.signals.now) c.args.a c.args.signals.now.game.now.limits
        c.requires.a_in,
  );
  few_twos = omega (
    arith,
    ap length (c.deref-2.ensures.value ∙ c.in_ok-twos.ensures),
    leaves_few
        (rules_of c.args.signals.now) c.args.b c.args.signals.now.game.now.limits c.requires.b_in,
  );
}

pub returns : goal.returns
returns c =
    let g = rules_of c.args.signals.now in
    let s = signal_at g (round_count g) c.args.a in
    let t = signal_at g (round_count g) c.args.b in
    IfOk-weaker c.match_equals.result (IsPairingAnswer leaf_eq c.deref.result.now c.deref-2.result.now) (IsPaired g (round_count g) s t)
    (leaf_answer g s t c.deref.result.now c.deref-2.result.now (c.deref.ensures.value ∙ c.in_ok-ones.ensures) (c.deref-2.ensures.value ∙ c.in_ok-twos.ensures))
    c.match_equals.ensures
