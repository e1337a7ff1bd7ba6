use Rattle.std.proofs.lemmas.Result.{IfOk-weaker}
use Rattle.gs_game_commands.proofs.playing.played.Goals as goal

pub returns : goal.returns
returns c =
    IfOk-weaker c.text_of.result _ _ (λ text told. record { one = c.in_ok-one.one; two = c.in_ok-one.two; played = c.in_ok-one.ensures.played; told = told })
    c.text_of.ensures

pub text_of-requires-clause-one : goal.text_of-requires-clause-one
text_of-requires-clause-one c = c.in_ok-one.ensures.one

pub text_of-requires-clause-two : goal.text_of-requires-clause-two
text_of-requires-clause-two c = c.in_ok-one.ensures.two
