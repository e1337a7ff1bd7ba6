use Rattle.std.proofs.{Common.{refl}, lemmas.Result.{err_from_is_err_and}}
use Rattle.gs_game.specs.Games.{game_of}
use Rattle.gs_game.proofs.Checked.{no_refusal, walkable, limits, is_dealable, is_walk}
use Rattle.gs_game.proofs.game.Game.check.Goals as goal

pub returns-in_err-totals-clause-refused : goal.returns-in_err-totals-clause-refused
returns-in_err-totals-clause-refused c =
    let p = err_from_is_err_and c.from_residual.result c.from_residual.ensures.1 in
    rw (p.1, p.2) c.in_err-totals.ensures

pub walk_from-requires : goal.walk_from-requires
walk_from-requires c =
    rw (c.deref.ensures.value, c.new.ensures.items, c.new-2.ensures.items, c.start.ensures)
    (walkable c.args.self c.requires.cards c.requires.bonus c.in_ok-totals.ensures.0 c.in_ok-totals.ensures.1)

pub invariant_of-result : goal.invariant_of-result
invariant_of-result c =
    let grown = rw (c.new.ensures.items, c.new-2.ensures.items, c.deref.ensures.value, c.start.ensures) at c.in_ok-start.ensures in
    record {
      deck = c.in_ok-totals.ensures.5;
      accepted = no_refusal (game_of c.args.self) c.in_ok-totals.ensures.0 c.in_ok-totals.ensures.1 c.in_ok-totals.ensures.2;
      ante = (c.requires.some_ante, c.requires.ante);
      limits = limits c.args.self c.requires.cards c.in_ok-totals.ensures.0 c.in_ok-totals.ensures.2;
      dealable = is_dealable c.args.self c.requires.cards c.requires.bonus c.in_ok-totals.ensures.0;
      walked = is_walk c.args.self c.walk_from.new.walk.points.items c.walk_from.new.walk.ends.items c.in_ok-start.start grown;
      dealt = c.in_ok-totals.ensures.4;
      weighed = c.in_ok-totals.ensures.3;
    }

pub returns-clause-accepted : goal.returns-clause-accepted
returns-clause-accepted c = (no_refusal (game_of c.args.self) c.in_ok-totals.ensures.0 c.in_ok-totals.ensures.1 c.in_ok-totals.ensures.2, refl)
