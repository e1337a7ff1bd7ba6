use Rattle.std.proofs.Common.{arith}
use Rattle.std.proofs.{Common.{ap, sym, ◌∙◌, subst}, lemmas.Int.{to_z-of_z}}
use Rattle.std.specs.Prelude.{pos, ◌*ℤ◌}
use mir.Syntax.{w128}
use Rattle.gs_model.specs.{BestAnswers.{end_worth}, Classes.{IsClass, class_size, first_member}, Frame.{round_of}, Positions.{at_end}}
use Rattle.gs_seq.specs.Plans.{lifted}
use Rattle.gs_seq.proofs.Forms.{form_classes, form_in_range, form_lossless}
use Rattle.gs_best.specs.Sides.{frame_at, lists_at, plan_at}
use Rattle.gs_best.proofs.{Players.{walked}, Shares.{end_share}}
use Rattle.gs_best.proofs.sharing.end_value.Goals as goal

pub size_of-members-requires-clause-class : goal.size_of-members-requires-clause-class
size_of-members-requires-clause-class c = subst (λ j. IsClass (lists_at c.args.side.now) j c.args.class) (sym c.end_round.ensures.value) c.requires.class

pub returns : goal.returns
returns c =
    let s = c.args.side.now in
    let f = frame_at s in
    let a = s.form.now in
    let worth = end_worth f s.player (lifted f (lists_at s) s.other.now) c.args.end (first_member (lists_at s) (round_of f (at_end c.args.end)) c.args.class) in
    let share = end_share f (form_in_range a) (lists_at s) (form_classes a) (form_lossless a) s.player (walked s)
    (plan_at s) c.args.end c.args.class c.requires.end c.requires.class in
    let size = c.size_of-members.ensures.value ∙ ap (λ j. class_size (lists_at s) j c.args.class) c.end_round.ensures.value in
    to_z-of_z w128 c.over.result (record { sfits = c.over.type_inv })
    ∙ c.over.ensures.share worth (to_z-of_z w128 c.end_sum-together.result (record { sfits = c.end_sum-together.type_inv }) ∙ c.end_sum-together.ensures ∙ share
    ∙ ap (λ n. worth *ℤ pos n) (sym size))

pub end_sum-together-requires-clause-other : goal.end_sum-together-requires-clause-other
end_sum-together-requires-clause-other c = grind arith

pub size_of-members-requires-clause-top : goal.size_of-members-requires-clause-top
size_of-members-requires-clause-top c = omega arith
