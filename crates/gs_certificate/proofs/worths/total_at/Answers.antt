use Rattle.std.proofs.{lemmas.Grind.{common_steps}, Math.Nat.{mul-le-mul_left, mul-le-mul_right}}
use Rattle.std.proofs.Common.{◌≡◌, ℕ, ◌+◌, ◌-◌, ◌^◌, ◌<◌, ◌≤◌, length, get_or, sym, ap, ap₂, ◌∙◌, subst, arith, of_z, ◌*◌}
use Rattle.std.proofs.lemmas.Int.{to_z-of_z, unsigned_abs-mul}
use Rattle.std.specs.Prelude.{ℤ, pos, ◌*ℤ◌, unsigned_abs}
use borrow.Author.Differences.{abs_is}
use mir.Syntax.{w128}
use mir.Val.{to_z}
use Rattle.gs_seq.proofs.{Signed.{read_back}, Forms.{form_classes}}
use Rattle.gs_best.specs.Sides.{frame_at, lists_at}
use Rattle.gs_best.proofs.Shares.{some_member}
use Rattle.gs_model.proofs.Basics.{product_le}
use Rattle.gs_game.specs.Seen.{target_of}
use Rattle.gs_model.specs.{Classes.{IsClass, class_size}, Frame.{end_count, point_count, round_of}, FrameFacts.{IsInside}, Positions.{at_end, at_point}}
use Rattle.gs_certificate.specs.Claims.{claimed_totals, first_place_of}
use Rattle.gs_certificate.proofs.{Compared.{kept}, Together.{end_small, place_in, size_few, way_round}, worths.total_at.Goals.{In-Point}}
use Rattle.gs_certificate.proofs.worths.total_at.Goals as goal

pub size_of-members-requires-clause-some : goal.size_of-members-requires-clause-some
size_of-members-requires-clause-some c = (way_round c.args.claim.now.side c.args.way c.requires.way).0

inside : (c : In-Point) → c.args.way.place + c.args.class - 1 < length c.args.claim.now.numbers.now
inside c =
    let k = c.args.claim.now in
    let q = c.in-Point.field-0 in
    let h = c.requires.way in
    let e : target_of c.args.way.to ≡ at_point q = ap target_of c.in-Point.is in
    let lq : q < point_count (frame_at k.side) = subst (IsInside (frame_at k.side)) e h.inside in
    let lc = subst (λ j. IsClass (lists_at k.side) j c.args.class) (h.round_is ∙ ap (round_of (frame_at k.side)) e) c.requires.class in
    omega (arith, place_in k q c.args.class lq lc, h.place_is ∙ ap (first_place_of (frame_at k.side) (lists_at k.side)) e, lc.0)

pub bounds-claim-way : goal.bounds-claim-way
bounds-claim-way c = inside (goal.at.bounds-claim-way c).In-Point

abbrev read : (c : In-Point) → ℤ
read c = to_z w128 (of_z w128 (get_or c.args.claim.now.numbers.now (c.args.way.place + c.args.class - 1) (pos 0)))

small : (c : In-Point) → unsigned_abs (get_or c.args.claim.now.numbers.now (c.args.way.place + c.args.class - 1) (pos 0)) < 2 ^ 90
small c = c.args.claim.now.modest (c.args.way.place + c.args.class - 1) (pos 0) (inside c)

number_is : (c : In-Point) → read c ≡ get_or c.args.claim.now.numbers.now (c.args.way.place + c.args.class - 1) (pos 0)
number_is c = sym (kept _ (small c))

number : (c : In-Point) → unsigned_abs (read c) < 2 ^ 90
number c = subst (λ z. unsigned_abs z < 2 ^ 90) (sym (number_is c)) (small c)

few : (c : In-Point) → class_size (lists_at c.args.claim.now.side) c.args.way.round c.args.class ≤ 200000
few c = let r = way_round c.args.claim.now.side c.args.way c.requires.way in size_few c.args.claim.now.side c.args.way.round c.args.class r.0 r.1

pub scaled-requires : goal.scaled-requires
scaled-requires c =
    let at = (goal.at.scaled-requires c).In-Point in
    let l = few at in
    let m = number at in
    let up = product_le c.from.result (unsigned_abs (read at)) 200000 (2 ^ 90) (omega (arith, l, c.from.ensures, c.size_of-members.ensures.value))
    (omega (arith, m)) in
    omega (arith, up)

pub returns-in-Point-clause-small : goal.returns-in-Point-clause-small
returns-in-Point-clause-small c =
    let at = (goal.at.returns-in-Point-clause-small c).In-Point in
    let m = number at in
    let up = mul-le-mul_left c.from.result (omega (arith, m)) in
    let up' : c.from.result * unsigned_abs (read at) ≤ c.from.result * 2 ^ 90 = up in
    let out = to_z-of_z w128 c.scaled.result (record { sfits = c.scaled.type_inv }) ∙ c.scaled.ensures in
    let n = c.from.ensures ∙ c.size_of-members.ensures.value in
    omega (arith, ap unsigned_abs out, unsigned_abs-mul (pos c.from.result) (read at), abs_is (pos c.from.result), up', ap (λ k. k * 2 ^ 90) n)

pub returns-in-End-clause-small : goal.returns-in-End-clause-small
returns-in-End-clause-small c =
    let k = c.args.claim.now in
    let h = c.requires.way in
    let e : target_of c.args.way.to ≡ at_end c.in-End.end = ap target_of c.in-End.is in
    let lz : c.in-End.end < end_count (frame_at k.side) = subst (IsInside (frame_at k.side)) e h.inside in
    let lc = subst (λ j. IsClass (lists_at k.side) j c.args.class) (h.round_is ∙ ap (round_of (frame_at k.side)) e) c.requires.class in
    let small = end_small k.side c.in-End.end c.args.class lz lc in
    let out = to_z-of_z w128 c.paid_at.result (record { sfits = c.paid_at.type_inv }) ∙ c.paid_at.ensures in
    let r = way_round k.side c.args.way h in
    let some = some_member (frame_at k.side) (lists_at k.side) (form_classes k.side.form.now) c.args.way.round c.args.class r.0 r.1 c.requires.class in
    let one = mul-le-mul_right (2 ^ 90) some in
    omega (arith, ap unsigned_abs out, small, one)

pub size_of-members-requires-clause-top : goal.size_of-members-requires-clause-top
size_of-members-requires-clause-top c = grind (arith, common_steps)

pub returns-in-Point-clause-value : goal.returns-in-Point-clause-value
returns-in-Point-clause-value c =
    let k = c.args.claim.now in
    let f = frame_at k.side in
    let ls = lists_at k.side in
    let class = c.args.class in
    let at = (goal.at.returns-in-Point-clause-value c).In-Point in
    let q = at.in-Point.field-0 in
    let h = c.requires.way in
    let e : target_of c.args.way.to ≡ at_point q = ap target_of c.in-Point.is in
    let size : c.from.result ≡ class_size ls (round_of f (at_point q)) class = c.from.ensures ∙ c.size_of-members.ensures.value
    ∙ ap (λ j. class_size ls j class) (h.round_is ∙ ap (round_of f) e) in
    let place : c.args.way.place + class - 1 ≡ first_place_of f ls (at_point q) + (class - 1) =
    omega (arith, h.place_is ∙ ap (first_place_of f ls) e, c.requires.class.0) in
    to_z-of_z w128 c.scaled.result (record { sfits = c.scaled.type_inv }) ∙ c.scaled.ensures
    ∙ ap₂ (λ (n : ℕ) (z : ℤ). pos n *ℤ z) size (number_is at ∙ ap (λ i. get_or k.numbers.now i (pos 0)) place)
    ∙ ap (λ t. claimed_totals k t class) (sym e)

pub returns-in-End-clause-value : goal.returns-in-End-clause-value
returns-in-End-clause-value c =
    let k = c.args.claim.now in
    read_back c.paid_at.result _ (record { sfits = c.paid_at.type_inv }) c.paid_at.ensures
    ∙ ap (λ t. claimed_totals k t c.args.class) (sym (ap target_of c.in-End.is))

pub paid_at-requires : goal.paid_at-requires
paid_at-requires c = grind (arith, common_steps)
