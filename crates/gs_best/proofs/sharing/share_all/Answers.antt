use Rattle.std.proofs.{Common.{◌≡◌, ℕ, ◌+◌, ◌-◌, get_or, sym, ◌∙◌, subst, arith, ⊎_elim}, lemmas.Bool.{cases_eq}}
use Rattle.std.specs.Prelude.{pos, ◌*ℤ◌}
use Rattle.gs_model.specs.{Classes.{IsClass, class_size}, Frame.{round_of}, Positions.{at_point}}
use Rattle.gs_best.specs.{Tables.{classes_at, start_of}, Sides.{frame_at, lists_at, picks_at}}
use Rattle.gs_best.proofs.{Placed.{place_inside}, MemberValues.{shared_best, shared_small}}
use Rattle.gs_best.proofs.sharing.share_all.Goals as goal

pub loop-point-preserved : goal.loop-point-preserved
loop-point-preserved c =
    let s = c.args.side.now in
    let f = frame_at s in
    let lists = lists_at s in
    let p = c.loop-point.point in
    λ q k share l lc is. ⊎_elim
    (λ (same : q ≡ p).
    let P : ℕ → Type 0 = λ q. IsClass lists (round_of f (at_point q)) (k + 1) → get_or c.args.table.now.totals.items (start_of f lists q + k) (pos 0)
    ≡ share *ℤ pos (class_size lists (round_of f (at_point q)) (k + 1)) → get_or c.share_point.new.values (start_of f lists q + k) (pos 0) ≡ share in
    subst P (sym same) (c.share_point.ensures.here k share) lc is)
    (λ (other : q ≡ p → ⊥).
    let before = place_inside (classes_at f lists) p q (k + 1) (omega (arith, l, other)) lc in
    let at : start_of f lists q + (k + 1 - 1) ≡ start_of f lists q + k = omega arith in
    c.share_point.ensures.before (start_of f lists q + k) (omega (arith, before, at)) ∙ c.loop-point.invariant q k share (omega (arith, l, other)) lc is)
    (cases_eq q p)

pub returns : goal.returns
returns c = record {
  small = let s = c.args.side.now in
      let t = c.args.table.now in
      shared_small s t.totals.items c.loop-point.values (picks_at s t.picks.items) c.requires.best
      (λ q k share lq. c.loop-point.invariant q k share (omega (arith, lq, c.loop-point-test.false, c.point_total-point-end.ensures)));
  best = let s = c.args.side.now in
      let t = c.args.table.now in
      shared_best s t.totals.items c.loop-point.values (picks_at s t.picks.items) c.requires.best
      (λ q k share lq. c.loop-point.invariant q k share (omega (arith, lq, c.loop-point-test.false, c.point_total-point-end.ensures)));
}

pub share_point-requires-clause-laid : goal.share_point-requires-clause-laid
share_point-requires-clause-laid c = grind arith
