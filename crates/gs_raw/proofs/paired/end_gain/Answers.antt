use Rattle.std.proofs.{Common.{◌+◌, ap, ◌∙◌, subst, arith, rules}, lemmas.Int.{to_z-of_z}}
use mir.Syntax.{w128}
use Rattle.gs_lossless.specs.Amounts.{IsRunIn}
use Rattle.gs_model.specs.{Classes.{first_member}, Frame.{round_of, signal_count}, Positions.{at_end}}
use Rattle.gs_seq.specs.{Abstracts.{abstract_frame, lists_of}, Plans.{lifted}}
use Rattle.gs_seq.proofs.Forms.{form_in_range, form_walked, form_signals}
use Rattle.gs_raw.proofs.SignalPays.{run_pays_hand, single_at}
use Rattle.gs_raw.proofs.paired.end_gain.Goals as goal

pub overflow_add-signal : goal.overflow_add-signal
overflow_add-signal c =
    let a = c.args.side.now.form.now in
    let z = c.args.end in
    let w = form_walked a 1 (omega arith) (omega arith) in
    omega (arith, c.requires.signal, form_signals a 1 (omega arith) (omega (arith, w.end_round z c.requires.end, w.end_in z c.requires.end)))

pub run_below-run-requires-clause-class : goal.run_below-run-requires-clause-class
run_below-run-requires-clause-class c =
    let side = c.args.side.now in
    let a = side.form.now in
    (single_at a (lists_of a) side.singles 1 c.args.signal (omega arith) (omega (arith, c.end_round.ensures.some, c.end_round.ensures.top)) c.requires.signal).0

pub signals_gain-requires-clause-within : goal.signals_gain-requires-clause-within
signals_gain-requires-clause-within c =
    let f = abstract_frame c.args.side.now.form.now in
    omega (arith, c.run_below-run.ensures.within, ap (signal_count f) c.end_round.ensures.value)

pub returns : goal.returns
returns c = record {
  value = let side = c.args.side.now in
      let a = side.form.now in
      let f = abstract_frame a in
      let lists = lists_of a in
      let z = c.args.end in
      let is = (single_at a lists side.singles 1 c.args.signal (omega arith) (omega (arith, c.end_round.ensures.some, c.end_round.ensures.top))
      c.requires.signal).1 in
      let run = subst (λ s. IsRunIn f (round_of f (at_end z)) 1 s c.run_below-run.result.first c.run_below-run.result.end) is
      (subst (λ j. IsRunIn f j 1 (first_member lists 1 (c.args.signal + 1)) c.run_below-run.result.first c.run_below-run.result.end) c.end_round.ensures.value
      c.run_below-run.ensures) in
      to_z-of_z w128 c.signals_gain.result (record { sfits = c.signals_gain.type_inv }) ∙ c.signals_gain.ensures.value
      ∙ run_pays_hand f (form_in_range a) (form_walked a 1 (omega arith) (omega arith)) z c.args.signal c.run_below-run.result.first c.run_below-run.result.end
      c.requires.end run (lifted f lists side.one.now) (lifted f lists side.two.now);
  few = search rules;
}
