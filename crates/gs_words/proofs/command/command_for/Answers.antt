use Rattle.std.proofs.{Common.{ap, ◌∙◌, arith}, lemmas.Grind.{common_steps}}
use Rattle.clap.specs.Words.{new_app}
use Rattle.gs_words.proofs.Added.{with_next}
use Rattle.gs_words.proofs.command.command_for.Goals as goal

pub loop-choice-preserved : goal.loop-choice-preserved
loop-choice-preserved c = record {
  all = c.loop-choice.invariant.all;
  so_far = with_next _ _ _ _ _ _ _ c.loop-choice-test.true c.loop-choice.invariant.so_far c.arg_of.ensures.rule c.arg_of.ensures.local c.in_ok-command.ensures;
}

pub returns : goal.returns
returns c = grind (arith, common_steps)

pub loop-choice-init : goal.loop-choice-init
loop-choice-init c = record {
  all = c.choices_of-choice-items.ensures;
  so_far = (c.new-command.ensures.app ∙ ap new_app c.word-word.ensures, c.new-command.ensures.local);
}
