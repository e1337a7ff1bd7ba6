use Rattle.std.proofs.Common.{inl, inr, refl}
use Rattle.gs_strategy_commands.proofs.Spots.{bad_query_is, spot_is}
use Rattle.gs_lift.specs.Queries.{signals_of}
use Rattle.gs_reply.specs.Refusals.{Bad_query}
use Rattle.gs_strategy_commands.proofs.queries.located.Goals as goal

pub returns-in-Err : goal.returns-in-Err
returns-in-Err c =
    let q = c.args.query.now in
    let why = c.in-Err.fault in
    let bad = bad_query_is (signals_of c.args.form.now) c.args.stored.now.game q.player q.line.now q.signal.now why c.requires.game c.in-Err.ensures in
    (Bad_query why, inr (why, bad, refl), refl)

pub returns-in_ok-told_at-in-Ok : goal.returns-in_ok-told_at-in-Ok
returns-in_ok-told_at-in-Ok c =
    let q = c.args.query.now in
    let spot = c.in-Ok.spot in
    let named = spot_is (signals_of c.args.form.now) c.args.stored.now.game q.player q.line.now q.signal.now spot c.requires.game c.in-Ok.ensures in
    inl (
      c.in_ok-told_at-in-Ok.field-0.items,
      record { point = spot.point; place = spot.signal; own = named.0; named = named.1; told = c.in_ok-told_at-in-Ok.ensures },
      refl,
    )
