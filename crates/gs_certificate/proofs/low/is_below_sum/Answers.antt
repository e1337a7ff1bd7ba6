use Rattle.std.proofs.Common.{◌∙◌}
use Rattle.gs_model.specs.{BestAnswers.{class_worth}, Frame.{choices_at}, Positions.{at_point}, Sums.{sum_z}}
use Rattle.gs_seq.proofs.Signed.{read_back}
use Rattle.gs_best.specs.Sides.{frame_at, lists_at}
use Rattle.gs_certificate.specs.Claims.{claimed}
use Rattle.gs_certificate.proofs.{Compared.{both_tell}, Together.{here_is, here_way, size, some_size, worths_are}}
use Rattle.gs_certificate.proofs.low.is_below_sum.Goals as goal

pub total_at-requires-clause-way : goal.total_at-requires-clause-way
total_at-requires-clause-way c = here_way c.args.spot.now

pub returns : goal.returns
returns c =
    let p = c.args.spot.now in
    let k = p.claim in
    let f = frame_at k.side in
    let n = c.args.class in
    let lc = c.requires.class in
    both_tell (size p n lc) (claimed k (at_point p.point) n) (sum_z (λ m. class_worth f (lists_at k.side) (claimed k) p.point m n) (choices_at f p.point)) _ _
    (some_size p n lc)
    (read_back c.total_at.result _ (record { sfits = c.total_at.type_inv }) c.total_at.ensures.value ∙ here_is p n lc)
    (read_back c.worths_of.result _ (record { sfits = c.worths_of.type_inv }) c.worths_of.ensures ∙ worths_are p n lc)
