use Rattle.std.proofs.{Common.{arith}, lemmas.List.{length-map}}
use Rattle.gs_game.specs.{Games.{round_rules}, Seen.{target_of}}
use Rattle.gs_game.proofs.{Checked.{lines_follow}, Deciding.{trees_are}, LineWriting.{among_lines}}
use Rattle.gs_game.proofs.valid.ValidGame.line_text.Goals as goal

pub push_from-requires-clause-room : goal.push_from-requires-clause-room
push_from-requires-clause-room c =
    let long = length-map c.args.self.now.game.rounds.items round_rules in
    rw c.deref.ensures.value (lines_follow c.args.self.now.game c.args.self.now.accepted (omega (arith, long, c.args.self.now.limits.few_rounds)))

pub push_from-requires-clause-within : goal.push_from-requires-clause-within
push_from-requires-clause-within c = rw c.deref.ensures.value (among_lines c.args.self.now.game (target_of c.args.at) c.requires)

pub returns : goal.returns
returns c = rw (trees_are c.args.self.now.game) (rw (c.deref.ensures.value, c.new-out.ensures.bytes) at c.in_ok-push_from.ensures)
