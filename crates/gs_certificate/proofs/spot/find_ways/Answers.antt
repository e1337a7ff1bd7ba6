use Rattle.std.proofs.{lemmas.Bool.{cases_eq}, lemmas.List.{get_or-set_other}, lemmas.Grind.{get_or-set_at}}
use Rattle.std.proofs.Common.{◌≡◌, ℕ, ◌+◌, ◌<◌, List, length, get_or, set, ap, ◌∙◌, ⊎_elim, sym, subst, arith}
use Rattle.gs_best.specs.Sides.{lists_at, frame_at}
use Rattle.gs_game.specs.Seen.{target_of}
use Rattle.gs_model.specs.{Frame.{leads_to}, FrameFacts.{IsFrom, IsInside}}
use Rattle.gs_best.proofs.Players.{walked}
use Rattle.gs_certificate.specs.{Claims.{IsWay}, declared.way.Way.{Way}}
use Rattle.gs_certificate.proofs.Together.{not_before}
use Rattle.gs_certificate.proofs.spot.find_ways.Goals as goal

pub way_from-requires-clause-inside : goal.way_from-requires-clause-inside
way_from-requires-clause-inside c =
    let p = c.args.spot.now in
    let s = p.claim.side in
    subst (IsInside (frame_at s)) (sym c.target_at-to.ensures)
    ((walked s).inside p.point c.loop-choice.choice p.inside (omega (arith, c.loop-choice-test.true, c.move_total-choice-end.ensures.value)))

pub way_from-requires-clause-onward : goal.way_from-requires-clause-onward
way_from-requires-clause-onward c =
    let p = c.args.spot.now in
    let s = p.claim.side in
    let m = c.loop-choice.choice in
    subst (IsFrom p.point) (sym c.target_at-to.ensures)
    (not_before p.point (leads_to (frame_at s) p.point m)
    ((walked s).later p.point m p.inside (omega (arith, c.loop-choice-test.true, c.move_total-choice-end.ensures.value))))

-- what holds of each way before holds with the next one written
with_next : (P : ℕ → Way → Type 0) (ways : List Way) (n at : ℕ) (w : Way) → at ≡ n → n < length ways → P n w
    → ((m : ℕ) (d : Way) → m < n → P m (get_or ways m d)) → (m : ℕ) (d : Way) → m < n + 1 → P m (get_or (set ways at w) m d)
with_next P ways n at w e room here before m d l = ⊎_elim
    (λ (same : m ≡ n). subst (P m) (sym (get_or-set_at ways at m w d (same ∙ sym e) (omega (arith, e, room)))) (subst (λ k. P k w) (sym same) here))
    (λ (other : m ≡ n → ⊥). subst (P m) (sym (get_or-set_other ways at m w d (λ q. other (q ∙ e)))) (before m d (omega (arith, l, other)))) (cases_eq m n)

pub loop-choice-preserved : goal.loop-choice-preserved
loop-choice-preserved c =
    let p = c.args.spot.now in
    let f = frame_at p.claim.side in
    let ways = c.loop-choice.ways in
    let n = c.loop-choice.choice in
    let w = c.way_from.result in
    let room : n < length ways = omega (arith, c.requires, c.loop-choice-test.true, c.move_total-choice-end.ensures.few, c.loop-choice.auto.ways) in
    record {
      each = with_next (λ m v. IsWay f (lists_at p.claim.side) v) ways n c.from.result w c.from.ensures room c.way_from.ensures.way
          c.loop-choice.invariant.each;
      leads = with_next (λ m v. target_of v.to ≡ leads_to f p.point m) ways n c.from.result w c.from.ensures room
          (ap target_of c.way_from.ensures.to ∙ c.target_at-to.ensures) c.loop-choice.invariant.leads;
    }

pub loop-choice-init : goal.loop-choice-init
loop-choice-init c = record {
  each = λ m d l. absurd (omega (arith, l));
  leads = λ m d l. absurd (omega (arith, l));
}

pub target_at-to-requires-clause-choice : goal.target_at-to-requires-clause-choice
target_at-to-requires-clause-choice c = grind arith
