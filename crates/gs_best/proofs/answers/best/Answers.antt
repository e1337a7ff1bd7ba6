use Rattle.std.proofs.Common.{arith}
use Rattle.std.proofs.lemmas.Result.{IfOk-weaker}
use Rattle.gs_game.specs.Games.{game_of}
use Rattle.gs_model.proofs.Exchanged.{exchanged_one}
use Rattle.gs_seq.specs.{Abstracts.{abstract_frame, lists_of, game_in}, Plans.{class_plan}}
use Rattle.gs_seq.proofs.Forms.{form_classes, form_in_range, form_lossless, form_walked}
use Rattle.gs_best.proofs.{Paid.{first_is_paid}, Totals.{first_gains_most}}
use Rattle.gs_best.proofs.answers.best.Goals as goal

pub invariant_of-side : goal.invariant_of-side
invariant_of-side c = grind arith

pub returns : goal.returns
returns c = record {
  plan = grind arith;
  best = grind arith;
  bound = let a = c.args.form.now in
      IfOk-weaker c.put_all.result _ _
      (λ x h. first_gains_most (abstract_frame a) (form_in_range a) (lists_of a) (form_classes a) (form_lossless a) c.args.player
      (form_walked a c.args.player c.requires.some c.requires.two) (class_plan (abstract_frame a) (lists_of a) x)
      (class_plan (abstract_frame a) (lists_of a) c.args.other.now) h)
      c.put_all.ensures.best;
  paid = let a = c.args.form.now in
      IfOk-weaker c.put_all.result _ _
      (λ x h. first_is_paid (abstract_frame a) (form_in_range a) (lists_of a) (form_classes a) (form_lossless a) (exchanged_one (game_of (game_in a).game))
      c.args.player c.requires.some c.requires.two
      (form_walked a c.args.player c.requires.some c.requires.two) (class_plan (abstract_frame a) (lists_of a) x)
      (class_plan (abstract_frame a) (lists_of a) c.args.other.now) h)
      c.put_all.ensures.best;
}
