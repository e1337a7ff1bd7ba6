use Rattle.std.proofs.{Common.{◌≡◌, arith, get_or, sym, ◌∙◌, subst, MatchResult}, lemmas.Bool.{false≢true}, lemmas.Result.{err_from_is_err_and}}
use Rattle.gs_tree.specs.declared.signals.Signals.{Signals}
use Rattle.gs_seq.proofs.Points.{length-points}
use Rattle.gs_lift.specs.{Queries.{IsFaultOf, IsQuerySpot, IsTextOfSignal, signals_of}, declared.fault.QueryFault.TheVariants.{Round, Signal}}
use Rattle.gs_lift.proofs.{Held.{signals_held}, Spots.{PointAt, line_fault, names_found, names_none, point_at}}
use Rattle.gs_lift.proofs.query.locate.Goals.{After-index-points-point, After-signals-signals}
use Rattle.gs_lift.proofs.query.locate.Goals as goal

-- the signals that are read
same : (c : After-signals-signals) → c.signals-signals.result.now ≡ signals_of c.args.a.now
same c = signals_held c.args.a.now c.lossless.result.now c.signals-signals.result.now c.lossless.ensures c.signals-signals.ensures.held

-- the point that the line names, and the round that is read of it
found : (c : After-index-points-point)
    → PointAt c.signals-signals.result.now c.args.player c.args.line.now c.in_ok-point.point
    (get_or c.points.result.now c.in_ok-point.point c.index-points-point.result).round
found c =
    point_at c.signals-signals.result.now c.game-game.result.now c.points.result.now c.index-points-point.result c.args.player c.args.line.now
    c.in_ok-point.point c.game-game.ensures c.points.ensures c.index-points-point.is
    c.in_ok-point.ensures

pub returns-in_err-point : goal.returns-in_err-point
returns-in_err-point c =
    let s = c.signals-signals.result.now in
    let e = err_from_is_err_and c.from_residual.result c.from_residual.ensures.1 in
    let fault = line_fault s c.game-game.result.now c.args.player c.args.line.now c.args.signal.now c.in_err-point.field-0.0 c.game-game.ensures
    c.in_err-point.ensures in
    let moved = subst (λ (x : Signals). IsFaultOf x c.args.player c.args.line.now c.args.signal.now c.in_err-point.field-0.0)
    (same (goal.at.returns-in_err-point c).After-signals-signals) fault in
    let a = signals_of c.args.a.now in
    subst (λ r. MatchResult r (IsQuerySpot a c.args.player c.args.line.now c.args.signal.now)
    (IsFaultOf a c.args.player c.args.line.now c.args.signal.now)) (sym e.1)
    (subst (IsFaultOf a c.args.player c.args.line.now c.args.signal.now) (sym e.2) moved)

pub index_of-requires-clause-some : goal.index_of-requires-clause-some
index_of-requires-clause-some c = (found (goal.at.index_of-requires-clause-some c).After-index-points-point).some

pub index_of-requires-clause-last : goal.index_of-requires-clause-last
index_of-requires-clause-last c = (found (goal.at.index_of-requires-clause-last c).After-index-points-point).top

pub returns-in-Some : goal.returns-in-Some
returns-in-Some c =
    let at = goal.at.returns-in-Some c in
    let s = c.signals-signals.result.now in
    let r = found at.After-index-points-point in
    subst (λ (x : Signals). IsQuerySpot x c.args.player c.args.line.now c.args.signal.now (record { point = c.in_ok-point.point; signal = c.in-Some.signal }))
    (same at.After-signals-signals)
    (record {
      point = r.own;
      signal = subst (λ n. IsTextOfSignal s n c.args.signal.now c.in-Some.signal) r.same
          (names_found s _ c.in-Some.signal c.args.signal.now r.some r.top c.in-Some.ensures.found);
    })

pub returns-then-is_signal : goal.returns-then-is_signal
returns-then-is_signal c =
    let at = goal.at.returns-then-is_signal c in
    let s = c.signals-signals.result.now in
    let r = found at.After-index-points-point in
    let none = names_none s _ c.args.signal.now c.index_of.result r.some r.top c.index_of.ensures.only c.in_default.is in
    subst (λ (x : Signals). IsFaultOf x c.args.player c.args.line.now c.args.signal.now Round) (same at.After-signals-signals)
    (c.in_ok-point.point, r.own, c.is_signal.ensures.0 c.if-is_signal.true, λ i h. none i (subst (λ n. IsTextOfSignal s n c.args.signal.now i) (sym r.same) h))

pub returns-else-is_signal : goal.returns-else-is_signal
returns-else-is_signal c =
    let at = goal.at.returns-else-is_signal c in
    subst (λ (x : Signals). IsFaultOf x c.args.player c.args.line.now c.args.signal.now Signal) (same at.After-signals-signals)
    (c.in_ok-point.point, (found at.After-index-points-point).own, λ h. false≢true (sym c.if-is_signal.false ∙ c.is_signal.ensures.1 h))

pub bounds-points-point-in_ok-point : goal.bounds-points-point-in_ok-point
bounds-points-point-in_ok-point c = omega (
  arith,
  c.in_ok-point.ensures.in_range,
  length-points c.game-game.result.now c.points.result.now c.points.ensures,
)

pub bounds-points-point : goal.bounds-points-point
bounds-points-point c = omega (
  arith,
  c.in_ok-point.ensures.in_range,
  length-points c.game-game.result.now c.points.result.now c.points.ensures,
)
