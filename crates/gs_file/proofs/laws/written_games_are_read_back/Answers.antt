use Rattle.gs_file.proofs.ValidTold.{valid_read, valid_told}
use Rattle.gs_file.proofs.laws.written_games_are_read_back.Goals as goal

pub returns-clause-told : goal.returns-clause-told
returns-clause-told c = λ version tells. valid_told version c.args.game.now c.args.game.now.deck tells

pub returns-clause-read : goal.returns-clause-read
returns-clause-read c = λ version tells. valid_read version c.args.game.now c.args.game.now.deck tells
