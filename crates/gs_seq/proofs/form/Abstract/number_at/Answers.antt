use Rattle.std.proofs.Common.{◌≡◌, ap, sym}
use Rattle.gs_model.specs.{Classes.{IsClass}, Frame.{round_of}, Pairs.{class_number}, Positions.{at_end}}
use Rattle.gs_seq.specs.{Games.{frame_in}, Plans.{class_plan}}
use Rattle.gs_seq.proofs.Forms.{carried}
use Rattle.gs_seq.proofs.form.Abstract.number_at.Goals as goal

pub number-requires-clause-class : goal.number-requires-clause-class
number-requires-clause-class c =
    carried (λ f ls. IsClass ls (round_of f (at_end c.args.at.now.end)) c.args.class) (sym (ap frame_in c.requires.form.game_is))
    (sym c.requires.form.lists_are) c.requires.class

pub returns-clause-value : goal.returns-clause-value
returns-clause-value c =
    let p = c.args.at.now.plan.now in
    carried (λ f ls. c.number.result ≡ class_number f ls p.player (class_plan f ls p) c.args.at.now.end c.args.class) (ap frame_in c.requires.form.game_is)
    c.requires.form.lists_are c.number.ensures.value
