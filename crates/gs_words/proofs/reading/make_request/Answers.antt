use Rattle.std.proofs.Common.{codes, ap, ◌∙◌}
use Rattle.std.specs.Prelude.{option_map}
use Rattle.gs_words.specs.Tasks.{task_of}
use Rattle.gs_words.proofs.Making.{makes, no_cap, no_ranks, no_suits, told}
use Rattle.gs_words.proofs.reading.make_request.Goals as goal

pub returns-in_err-ranks-clause-value : goal.returns-in_err-ranks-clause-value
returns-in_err-ranks-clause-value c =
    ap (option_map task_of) c.from_residual-in_err-ranks.ensures
    ∙ no_ranks c.in_ok-value_of.ensures c.in_ok-kind.ensures (told c.args.options.now (codes "ranks")) (told c.args.options.now (codes "suits"))
    (told c.args.options.now (codes "cap")) (told c.args.options.now (codes "summary")) c.in_err-ranks.ensures.value

pub returns-in_err-suits-clause-value : goal.returns-in_err-suits-clause-value
returns-in_err-suits-clause-value c =
    ap (option_map task_of) c.from_residual-in_err-suits.ensures
    ∙ no_suits c.in_ok-value_of.ensures c.in_ok-kind.ensures (told c.args.options.now (codes "ranks")) (told c.args.options.now (codes "suits"))
    (told c.args.options.now (codes "cap")) (told c.args.options.now (codes "summary"))
    c.in_ok-ranks.ensures.value c.in_err-suits.ensures.value

pub returns-in_err-cap-clause-value : goal.returns-in_err-cap-clause-value
returns-in_err-cap-clause-value c =
    ap (option_map task_of) c.from_residual-in_err-cap.ensures
    ∙ no_cap c.in_ok-value_of.ensures c.in_ok-kind.ensures (told c.args.options.now (codes "ranks")) (told c.args.options.now (codes "suits"))
    (told c.args.options.now (codes "cap")) (told c.args.options.now (codes "summary"))
    c.in_ok-ranks.ensures.value c.in_ok-suits.ensures.value c.in_err-cap.ensures.value

pub returns-clause-value : goal.returns-clause-value
returns-clause-value c =
    makes c.in_ok-value_of.ensures c.in_ok-kind.ensures (told c.args.options.now (codes "ranks")) (told c.args.options.now (codes "suits"))
    (told c.args.options.now (codes "cap")) (told c.args.options.now (codes "summary"))
    c.in_ok-ranks.ensures.value c.in_ok-suits.ensures.value c.in_ok-cap.ensures.value
    c.is_set-summary.ensures

pub returns-in_err-suits-clause-within : goal.returns-in_err-suits-clause-within
returns-in_err-suits-clause-within c = rw c.from_residual-in_err-suits.ensures tt

pub returns-in_err-cap-clause-within : goal.returns-in_err-cap-clause-within
returns-in_err-cap-clause-within c = rw c.from_residual-in_err-cap.ensures tt

pub returns-clause-within : goal.returns-clause-within
returns-clause-within c = (c.in_ok-ranks.ensures.within, c.in_ok-suits.ensures.within, c.in_ok-cap.ensures.within.1)

pub returns-in_err-ranks-clause-within : goal.returns-in_err-ranks-clause-within
returns-in_err-ranks-clause-within c = rw c.from_residual-in_err-ranks.ensures tt

pub returns-in_err-kind-clause-within : goal.returns-in_err-kind-clause-within
returns-in_err-kind-clause-within c = rw c.from_residual-in_err-kind.ensures tt

pub returns-in_err-value_of-clause-within : goal.returns-in_err-value_of-clause-within
returns-in_err-value_of-clause-within c = rw c.from_residual.ensures tt
