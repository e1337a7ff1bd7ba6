use Rattle.std.proofs.Common.{◌≡◌, fold, map, take}
use Rattle.clap.specs.Words.{new_app, with_rule}
use Rattle.gs_words.specs.{Commands.{command_word, options_of}, Program.{Is, rule_by, rule_for}}
use Rattle.gs_words.proofs.command.command_for.Given as goal

abbrev pub invariant-loop-choice : goal.invariant-loop-choice
invariant-loop-choice l = record {
  all : map rule_by l.choice-items ≡ map rule_for (options_of l.fn.name);
  so_far : Is (fold with_rule (new_app (command_word l.fn.name)) (map rule_by (take l.choice-index l.choice-items))) l.command;
}
