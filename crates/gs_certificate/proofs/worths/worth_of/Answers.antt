use Rattle.std.proofs.{Common.{◌≡◌, ◌<◌, ◌^◌, get_or, refl, sym, ap, ◌∙◌, subst, arith}, Math.Nat.{mul-le-mul_right}}
use Rattle.std.specs.Prelude.{unsigned_abs}
use Rattle.gs_game.specs.{Seen.{target_of}, declared.positions.Target.TheVariants.{Point}}
use Rattle.gs_model.specs.{Classes.{IsClass}, Frame.{leads_to, move_count}}
use Rattle.gs_seq.proofs.{Forms.{form_classes, form_in_range}, Signed.{read_back}}
use Rattle.gs_best.specs.{ClassTotals.{gathered_below}, Sides.{frame_at, lists_at}}
use Rattle.gs_best.proofs.Itself.{gathered_itself}
use Rattle.gs_certificate.specs.{Claims.{IsWay, claimed_totals}, declared.way.Way.{Way}}
use Rattle.gs_certificate.proofs.{Together.{here_way, onward, size_few, way_round, worth_at}, worths.worth_of.Goals.{After-from}}
use Rattle.gs_certificate.proofs.worths.worth_of.Goals as goal

abbrev nowhere : Way
nowhere = record { to = Point 0; round = 0; place = 0 }

abbrev to : After-from → Way
to c = get_or c.args.ways.now c.from.result nowhere

in_moves : (c : After-from) → c.from.result < move_count (frame_at c.args.spot.now.claim.side) c.args.spot.now.point
in_moves c = omega (arith, c.from.ensures, c.requires.choice)

way : (c : After-from) → let s = c.args.spot.now.claim.side in IsWay (frame_at s) (lists_at s) (to c)
way c = c.requires.ways.each c.from.result nowhere (in_moves c)

leads : (c : After-from) → target_of (to c).to ≡ leads_to (frame_at c.args.spot.now.claim.side) c.args.spot.now.point c.args.choice
leads c = c.requires.ways.leads c.from.result nowhere (in_moves c) ∙ ap (leads_to (frame_at c.args.spot.now.claim.side) c.args.spot.now.point) c.from.ensures

pub total_at-requires-clause-way : goal.total_at-requires-clause-way
total_at-requires-clause-way c = way (goal.at.total_at-requires-clause-way c).After-from

pub total_at-requires-clause-class : goal.total_at-requires-clause-class
total_at-requires-clause-class c = subst (λ j. IsClass (lists_at c.args.spot.now.claim.side) j c.args.class) c.if-spot-to.true c.requires.class

pub returns-then-spot-to-clause-value : goal.returns-then-spot-to-clause-value
returns-then-spot-to-clause-value c =
    let at = (goal.at.returns-then-spot-to-clause-value c).After-from in
    let p = c.args.spot.now in
    let s = p.claim.side in
    let r = way_round s p.here (here_way p) in
    let v = claimed_totals p.claim (target_of (to at).to) in
    read_back c.total_at.result _ (record { sfits = c.total_at.type_inv }) c.total_at.ensures.value
    ∙ sym (gathered_itself (frame_at s) (form_in_range s.form.now) (lists_at s) (form_classes s.form.now) p.here.round c.args.class v r.0 r.1 c.requires.class)
    ∙ ap (λ i. gathered_below (frame_at s) (lists_at s) i p.here.round v c.args.class) c.if-spot-to.true
    ∙ worth_at p (to at) (way at) c.args.choice c.args.class (leads at)

pub returns-then-spot-to-clause-small : goal.returns-then-spot-to-clause-small
returns-then-spot-to-clause-small c =
    let at = (goal.at.returns-then-spot-to-clause-small c).After-from in
    let s = c.args.spot.now.claim.side in
    let r = way_round s (to at) (way at) in
    let few = mul-le-mul_right (2 ^ 90) (size_few s (to at).round c.args.class r.0 r.1) in
    omega (arith, ap unsigned_abs (read_back c.total_at.result c.total_at.result (record { sfits = c.total_at.type_inv }) refl), c.total_at.ensures.small, few)

pub total_below-requires-clause-way : goal.total_below-requires-clause-way
total_below-requires-clause-way c = way (goal.at.total_below-requires-clause-way c).After-from

pub total_below-requires-clause-onward : goal.total_below-requires-clause-onward
total_below-requires-clause-onward c =
    let at = (goal.at.total_below-requires-clause-onward c).After-from in
    onward c.args.spot.now (to at) (way at) c.args.choice c.requires.choice (leads at)

pub returns-else-spot-to-clause-value : goal.returns-else-spot-to-clause-value
returns-else-spot-to-clause-value c =
    let at = (goal.at.returns-else-spot-to-clause-value c).After-from in
    read_back c.total_below.result _ (record { sfits = c.total_below.type_inv }) c.total_below.ensures.value
    ∙ worth_at c.args.spot.now (to at) (way at) c.args.choice c.args.class (leads at)

pub returns-else-spot-to-clause-small : goal.returns-else-spot-to-clause-small
returns-else-spot-to-clause-small c = omega (
  arith,
  ap unsigned_abs (read_back c.total_below.result c.total_below.result (record { sfits = c.total_below.type_inv }) refl),
  c.total_below.ensures.small,
)
