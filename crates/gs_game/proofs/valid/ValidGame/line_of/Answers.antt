use Rattle.std.proofs.{Common.{arith}, lemmas.List.{length-map}}
use Rattle.gs_game.specs.Games.{round_rules}
use Rattle.gs_game.proofs.{Checked.{lines_follow}, Deciding.{trees_are}, LineLaws.{line_found, line_only}}
use Rattle.gs_game.proofs.valid.ValidGame.line_of.Goals as goal

pub follow_from-requires : goal.follow_from-requires
follow_from-requires c =
    let long = length-map c.args.self.now.game.rounds.items round_rules in
    rw c.deref.ensures.value (lines_follow c.args.self.now.game c.args.self.now.accepted (omega (arith, long, c.args.self.now.limits.few_rounds)))

pub returns-clause-found : goal.returns-clause-found
returns-clause-found c =
    rw (trees_are c.args.self.now.game) (line_found c.args.self.now.game.rounds.items c.args.text.now c.follow_from.result
    (rw (c.deref.ensures.value, c.as_bytes.ensures.value) at c.follow_from.ensures))

pub returns-clause-only : goal.returns-clause-only
returns-clause-only c at h =
    line_only c.args.self.now.game.rounds.items c.args.text.now c.follow_from.result at
    (rw (c.deref.ensures.value, c.as_bytes.ensures.value) at c.follow_from.ensures) (rw (trees_are c.args.self.now.game) at h)
