use Rattle.gs_strategy_commands.proofs.Lines.{lines_verified}
use Rattle.gs_strategy_commands.proofs.laws.printed_lines_are_verified.Goals as goal

pub returns : goal.returns
returns c s text reply is confirmed h v = lines_verified s text reply is confirmed h v
