use Rattle.std.proofs.Common.{ℕ, sym, subst, MatchOption}
use Rattle.gs_lift.specs.Queries.{IsLineOfPoint}
use Rattle.gs_lift.proofs.Spots.{no_point, no_point_end}
use Rattle.gs_lift.proofs.query.point_named.Goals as goal

pub returns-in_err-point : goal.returns-in_err-point
returns-in_err-point c =
    let g = c.args.game.now in
    let line = c.args.line.now in
    subst (λ r. MatchOption r ((q : ℕ) → IsLineOfPoint g line q → ⊥) (IsLineOfPoint g line)) (sym c.from_residual.ensures)
    (no_point g line c.line_of.result c.line_of.ensures.only c.in_err-point.was)

pub returns-in-End : goal.returns-in-End
returns-in-End c = no_point_end c.args.game.now c.args.line.now c.line_of.result c.in-End.field-0 c.line_of.ensures.only (cc (c.in_ok-point.was, c.in-End.is))
