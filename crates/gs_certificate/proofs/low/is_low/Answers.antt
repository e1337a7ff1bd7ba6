use Rattle.std.proofs.Common.{sym, ◌∙◌}
use Rattle.gs_best.specs.Sides.{frame_at, lists_at}
use Rattle.gs_certificate.specs.Claims.{claimed}
use Rattle.gs_certificate.proofs.Holding.{others_told, own_told}
use Rattle.gs_certificate.proofs.low.is_low.Goals as goal

pub returns-then-chooser-side : goal.returns-then-chooser-side
returns-then-chooser-side c =
    let p = c.args.spot.now in
    let k = p.claim in
    own_told (frame_at k.side) (lists_at k.side) k.side.player (claimed k) p.point c.args.class (sym c.chooser.ensures ∙ c.if-chooser-side.true) _
    c.is_below_one.ensures

pub returns-else-chooser-side : goal.returns-else-chooser-side
returns-else-chooser-side c =
    let p = c.args.spot.now in
    let k = p.claim in
    others_told (frame_at k.side) (lists_at k.side) k.side.player (claimed k) p.point c.args.class (λ his. c.if-chooser-side.false (c.chooser.ensures ∙ his)) _
    c.is_below_sum.ensures
