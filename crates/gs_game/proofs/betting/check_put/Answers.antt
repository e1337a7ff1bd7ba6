use Rattle.std.proofs.{Common.{◌≡◌, ◌+◌, ◌∙◌, arith}, lemmas.Grind.{common_steps}}
use Rattle.gs_game.specs.{Games.{plain_trees}, Money.{most_in}}
use Rattle.gs_game.proofs.Deciding.{put_over, put_within}
use Rattle.gs_game.proofs.betting.check_put.Goals as goal

pub returns-then-chips-gt4096 : goal.returns-then-chips-gt4096
returns-then-chips-gt4096 c =
    let most = rw c.deref.ensures.value at c.most_put.ensures.most c.args.game.now.ante in
    let is : most_in (plain_trees c.args.game.now.rounds.items) c.args.game.now.ante c.args.game.now.ante ≡ c.from.result + c.most_put.result =
    omega (arith, most, c.from.ensures) in
    put_over c.args.game.now (c.from.result + c.most_put.result) c.from-2.result is (c.from-2.ensures ∙ rw c.deref-2.ensures.value at c.greatest_bonus.ensures)
    c.if-chips-gt4096.true

pub returns : goal.returns
returns c =
    let most = rw c.deref.ensures.value at c.most_put.ensures.most c.args.game.now.ante in
    let is : most_in (plain_trees c.args.game.now.rounds.items) c.args.game.now.ante c.args.game.now.ante ≡ c.from.result + c.most_put.result =
    omega (arith, most, c.from.ensures) in
    put_within c.args.game.now (c.from.result + c.most_put.result) c.from-2.result is
    (c.from-2.ensures ∙ rw c.deref-2.ensures.value at c.greatest_bonus.ensures) c.if-chips-gt4096.false

pub overflow_mul-chips : goal.overflow_mul-chips
overflow_mul-chips c = grind (arith, common_steps)
