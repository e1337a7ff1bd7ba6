use Rattle.std.proofs.Common.{◌<◌, length, ap, sym, ◌∙◌, subst}
use Rattle.gs_model.specs.Classes.{list_of, class_of}
use Rattle.gs_filter.specs.declared.tally.Tally.{Tally}
use Rattle.gs_filter.proofs.ClassLaws.{first_within, first_own}
use Rattle.gs_filter.proofs.classes.Classes.first.Goals as goal

pub returns-clause-within : goal.returns-clause-within
returns-clause-within c =
    subst (λ s. s < length (list_of c.args.self.now.lists c.args.round)) (sym (ap (λ (t : Tally). t.first) c.tally_at.ensures))
    (first_within c.args.self.now c.args.round c.requires.some c.requires.top c.args.class c.requires.class)

pub returns-clause-member : goal.returns-clause-member
returns-clause-member c =
    ap (λ (t : Tally). class_of c.args.self.now.lists c.args.round t.first) c.tally_at.ensures
    ∙ first_own c.args.self.now c.args.round c.requires.some c.requires.top c.args.class c.requires.class
