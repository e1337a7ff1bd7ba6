use Rattle.std.proofs.Common.{refl, sym, ap, ◌∙◌, arith}
use Rattle.std.specs.Prelude.{unsigned_abs}
use Rattle.gs_game.specs.Seen.{target_of}
use Rattle.gs_seq.proofs.Signed.{read_back}
use Rattle.gs_best.specs.Sides.{frame_at, lists_at}
use Rattle.gs_best.proofs.Gathered.{gathered_run}
use Rattle.gs_certificate.specs.Claims.{claimed_totals}
use Rattle.gs_certificate.proofs.Together.{here_way, way_round}
use Rattle.gs_certificate.proofs.worths.total_below.Goals as goal

pub classes_below-run-requires-clause-some : goal.classes_below-run-requires-clause-some
classes_below-run-requires-clause-some c = let p = c.args.spot.now in (way_round p.claim.side p.here (here_way p)).0

pub classes_below-run-requires-clause-top : goal.classes_below-run-requires-clause-top
classes_below-run-requires-clause-top c = (way_round c.args.spot.now.claim.side c.args.way c.requires.way).1

pub returns-clause-value : goal.returns-clause-value
returns-clause-value c =
    let p = c.args.spot.now in
    let s = p.claim.side in
    let way = c.args.way in
    let run = c.classes_below-run.result in
    read_back c.totals_between.result _ (record { sfits = c.totals_between.type_inv }) c.totals_between.ensures.value
    ∙ sym (gathered_run (frame_at s) (lists_at s) way.round p.here.round c.args.class run.first run.end (claimed_totals p.claim (target_of way.to))
    c.classes_below-run.ensures)

pub returns-clause-small : goal.returns-clause-small
returns-clause-small c = omega (
  arith,
  ap unsigned_abs (read_back c.totals_between.result c.totals_between.result (record { sfits = c.totals_between.type_inv })
      refl),
  c.totals_between.ensures.small,
)
