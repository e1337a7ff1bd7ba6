use Rattle.std.proofs.Common.{refl}
use Rattle.serde_json.specs.View.{view}
use Rattle.gs_strategy.specs.{Reading.{parts_at}, Views.{whole_view}}
use Rattle.gs_strategy.proofs.Steps.{exit}
use Rattle.gs_strategy.proofs.shapes.parts_of.Goals as goal

pub returns-in_err-classes : goal.returns-in_err-classes
unfolding parts_at
returns-in_err-classes c =
    exit whole_view (parts_at (view c.args.value.now)) _ _ c.from_residual.ensures.1 (rw c.in_err-classes.ensures refl)

pub returns-in_err-game : goal.returns-in_err-game
unfolding parts_at
returns-in_err-game c =
    exit whole_view (parts_at (view c.args.value.now)) _ _ c.from_residual-in_err-game.ensures.1 (rw (c.in_ok-classes.ensures, c.in_err-game.ensures) refl)

pub returns-in_err-gap1 : goal.returns-in_err-gap1
unfolding parts_at
returns-in_err-gap1 c =
    exit whole_view (parts_at (view c.args.value.now)) _ _ c.from_residual-in_err-gap1.ensures.1
    (rw (c.in_ok-classes.ensures, c.in_ok-game.ensures, c.in_err-gap1.ensures) refl)

pub returns-in_err-gap2 : goal.returns-in_err-gap2
unfolding parts_at
returns-in_err-gap2 c =
    exit whole_view (parts_at (view c.args.value.now)) _ _ c.from_residual-in_err-gap2.ensures.1
    (rw (c.in_ok-classes.ensures, c.in_ok-game.ensures, c.in_ok-gap1.ensures, c.in_err-gap2.ensures) refl)

pub returns-in_err-player1 : goal.returns-in_err-player1
unfolding parts_at
returns-in_err-player1 c =
    exit whole_view (parts_at (view c.args.value.now)) _ _ c.from_residual-in_err-player1.ensures.1
    (rw (c.in_ok-classes.ensures, c.in_ok-game.ensures, c.in_ok-gap1.ensures, c.in_ok-gap2.ensures, c.in_err-player1.ensures) refl)

pub returns-in_err-player2 : goal.returns-in_err-player2
unfolding parts_at
returns-in_err-player2 c =
    exit whole_view (parts_at (view c.args.value.now)) _ _ c.from_residual-in_err-player2.ensures.1
    (rw (c.in_ok-classes.ensures, c.in_ok-game.ensures, c.in_ok-gap1.ensures, c.in_ok-gap2.ensures, c.in_ok-player1.ensures, c.in_err-player2.ensures) refl)

pub returns-in_err-stated : goal.returns-in_err-stated
unfolding parts_at
returns-in_err-stated c =
    exit whole_view (parts_at (view c.args.value.now)) _ _ c.from_residual-in_err-stated.ensures.1
    (rw (
      c.in_ok-classes.ensures,
      c.in_ok-game.ensures,
      c.in_ok-gap1.ensures,
      c.in_ok-gap2.ensures,
      c.in_ok-player1.ensures,
      c.in_ok-player2.ensures,
      c.in_err-stated.ensures,
    ) refl)

pub returns-in_err-kept : goal.returns-in_err-kept
unfolding parts_at
returns-in_err-kept c =
    exit whole_view (parts_at (view c.args.value.now)) _ _ c.from_residual-in_err-kept.ensures.1
    (rw (
      c.in_ok-classes.ensures,
      c.in_ok-game.ensures,
      c.in_ok-gap1.ensures,
      c.in_ok-gap2.ensures,
      c.in_ok-player1.ensures,
      c.in_ok-player2.ensures,
      c.in_ok-stated.ensures,
      c.in_err-kept.ensures,
    ) refl)

pub returns-in_err-check_no_other : goal.returns-in_err-check_no_other
unfolding parts_at
returns-in_err-check_no_other c =
    exit whole_view (parts_at (view c.args.value.now)) _ _ c.from_residual-in_err-check_no_other.ensures.1
    (rw (
      c.in_ok-classes.ensures,
      c.in_ok-game.ensures,
      c.in_ok-gap1.ensures,
      c.in_ok-gap2.ensures,
      c.in_ok-player1.ensures,
      c.in_ok-player2.ensures,
      c.in_ok-stated.ensures,
      c.in_ok-kept.ensures,
      c.in_err-check_no_other.ensures,
    ) refl)

pub returns : goal.returns
unfolding parts_at
returns c =
    rw (
      c.in_ok-classes.ensures,
      c.in_ok-game.ensures,
      c.in_ok-gap1.ensures,
      c.in_ok-gap2.ensures,
      c.in_ok-player1.ensures,
      c.in_ok-player2.ensures,
      c.in_ok-stated.ensures,
      c.in_ok-kept.ensures,
      c.in_ok-check_no_other.ensures,
    ) refl
