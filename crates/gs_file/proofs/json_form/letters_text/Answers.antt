use Rattle.std.proofs.{Common.{arith}, lemmas.Grind.{common_steps}}
use Rattle.gs_file.proofs.GameMembers.{letter_put}
use Rattle.gs_file.proofs.json_form.letters_text.Goals as goal

pub loop-letter-preserved : goal.loop-letter-preserved
loop-letter-preserved c =
    let i = c.loop-letter.letter-index in
    letter_put _ _ _ c.args.letters.now i c.from.result c.in_ok-push.ensures.bytes c.loop-letter.invariant c.in_ok-push.ensures.ascii c.from.ensures
    (c.requires i 0 c.loop-letter-test.true) c.loop-letter-test.true

pub returns : goal.returns
returns c = grind (arith, common_steps)
