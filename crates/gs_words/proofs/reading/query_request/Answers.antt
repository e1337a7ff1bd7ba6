use Rattle.std.proofs.Common.{codes, ap, ◌∙◌}
use Rattle.std.specs.Prelude.{option_map}
use Rattle.gs_words.specs.Tasks.{task_of}
use Rattle.gs_words.proofs.Making.{no_line, no_signal, queries, told}
use Rattle.gs_words.proofs.reading.query_request.Goals as goal

pub returns-in_err-line-clause-value : goal.returns-in_err-line-clause-value
returns-in_err-line-clause-value c =
    ap (option_map task_of) c.from_residual-in_err-line.ensures
    ∙ no_line (told c.args.options.now (codes "player")) (told c.args.options.now (codes "line")) (told c.args.options.now (codes "signal"))
    c.in_ok-player.ensures.value c.in_err-line.ensures

pub returns-in_err-signal-clause-value : goal.returns-in_err-signal-clause-value
returns-in_err-signal-clause-value c =
    ap (option_map task_of) c.from_residual-in_err-signal.ensures
    ∙ no_signal (told c.args.options.now (codes "player")) (told c.args.options.now (codes "line")) (told c.args.options.now (codes "signal"))
    c.in_ok-player.ensures.value c.in_ok-line.ensures c.in_err-signal.ensures

pub returns-clause-value : goal.returns-clause-value
returns-clause-value c =
    queries (told c.args.options.now (codes "player")) (told c.args.options.now (codes "line")) (told c.args.options.now (codes "signal"))
    c.in_ok-player.ensures.value c.in_ok-line.ensures c.in_ok-signal.ensures

pub returns-clause-within : goal.returns-clause-within
returns-clause-within c = c.in_ok-player.ensures.within

pub returns-in_err-signal-clause-within : goal.returns-in_err-signal-clause-within
returns-in_err-signal-clause-within c = rw c.from_residual-in_err-signal.ensures tt

pub returns-in_err-line-clause-within : goal.returns-in_err-line-clause-within
returns-in_err-line-clause-within c = rw c.from_residual-in_err-line.ensures tt
