use Rattle.std.proofs.Common.{refl}
use Rattle.gs_lossless.proofs.Unlike.{IsPairIn, pair_in}
use Rattle.gs_reply.specs.Refusals.{Unlike_pair}
use Rattle.gs_reply.proofs.classes.lossless_classes.Goals.{In-Err-Unlike}
use Rattle.gs_tree.specs.Trees.{rules_of}
use Rattle.gs_reply.proofs.classes.lossless_classes.Goals as goal

-- the two signals of the first unlike pair are signals of the game
pair : (c : In-Err-Unlike) → IsPairIn (rules_of c.args.signals.now) c.in-Err-Unlike.round c.in-Err-Unlike.first c.in-Err-Unlike.second
pair c =
    let e = c.in-Err-Unlike in
    pair_in (rules_of c.args.signals.now) c.args.classes.now.lists e.round e.first e.second (rw e.field-0-is at e.ensures.unlike)

pub unlike-requires-clause-last : goal.unlike-requires-clause-last
unlike-requires-clause-last c = (pair (goal.at.unlike-requires-clause-last c).In-Err-Unlike).last

pub unlike-requires-clause-first : goal.unlike-requires-clause-first
unlike-requires-clause-first c = (pair (goal.at.unlike-requires-clause-first c).In-Err-Unlike).first_in

pub unlike-requires-clause-second : goal.unlike-requires-clause-second
unlike-requires-clause-second c = (pair (goal.at.unlike-requires-clause-second c).In-Err-Unlike).second_in

pub returns-in_ok-unlike-in-Err-Unlike-clause-unlike : goal.returns-in_ok-unlike-in-Err-Unlike-clause-unlike
returns-in_ok-unlike-in-Err-Unlike-clause-unlike c =
    let e = c.in-Err-Unlike in (
      Unlike_pair e.round _ _,
      (
        e.round,
        _,
        _,
        record {
          first = e.first;
          second = e.second;
          unlike = rw e.field-0-is at e.ensures.unlike;
          not_lossless = (rw e.field-0-is at e.ensures.refuted) tt;
          first_text = refl;
          second_text = refl;
        },
        refl,
      ),
      c.in_ok-unlike-in-Err-Unlike.ensures,
    )

pub unlike-requires-clause-some : goal.unlike-requires-clause-some
unlike-requires-clause-some c =
    let e = c.in-Err-Unlike in (rw e.field-0-is at e.ensures.unlike).round_in.0

pub returns-in-Ok-clause-lossless : goal.returns-in-Ok-clause-lossless
returns-in-Ok-clause-lossless c = c.in-Ok.ensures.lossless
