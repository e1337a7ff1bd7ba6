use Rattle.std.proofs.Common.{◌≡◌, ◌<◌, ◌≤◌, ℕ, Option, Some, None, Bool, true, false, nat_eq, length, refl, ap, sym, ◌∙◌, subst, arith}
use Rattle.std.specs.{Prelude.{◌&&◌, not, option_map}, Option.{option_eq}}
use Rattle.std.proofs.{lemmas.Bool.Decides.{Decides-eqb}, lemmas.List.{get_or_default}}
use Rattle.gs_game.specs.{Seen.{step_of}, declared.positions.Step.{Step as StoredStep}}
use Rattle.gs_game.specs.contracts.positions.StepPartialEq.TheImpl as eqs
use Rattle.gs_model.specs.{Frame.{end_count, last_step, other_player}, Positions.{Step, at_end}}
use Rattle.gs_seq.specs.Games.{frame_in}
use Rattle.gs_play.specs.{Plots.{span_in}, Pushes.{with_sign}, Sides.{side_frame, side_lists}, Tables.{raise_sum}, declared.plot.Span.{Span}}
use Rattle.gs_play.proofs.{Pushed.{walked}, Risen.{renewed_all, renewed_before, renewed_begun, renewed_kept, renewed_more}, Tells.{choices_kept, choices_next}}
use Rattle.gs_play.proofs.pushing.push.Goals.{After-end_step, After-index-span}
use Rattle.gs_play.proofs.pushing.push.Goals as goal

-- ---- steps that are compared

both : (a b c d : ℕ) → (nat_eq a b && nat_eq c d) ≡ true → (a ≡ b) × (c ≡ d)
both a b c d = by (nat_eq a b) (nat_eq c d) refl refl
  where
    by : (x y : Bool) → nat_eq a b ≡ x → nat_eq c d ≡ y → (x && y) ≡ true → (a ≡ b) × (c ≡ d)
    by true true p q h = ((Decides-eqb a b).0 p, (Decides-eqb c d).0 q)
    by true false p q h = absurd cc
    by false y p q h = absurd cc

same : (o : Option StoredStep) (s : StoredStep) → option_eq eqs.eq-value.it o (Some s) ≡ true → o ≡ Some s
same None s e = absurd cc
same (Some t) s e =
    let h = both t.point s.point t.choice s.choice e in
    ap (λ p. Some (record { point = p; choice = t.choice })) h.0 ∙ ap (λ m. Some (record { point = s.point; choice = m })) h.1

other : (o : Option StoredStep) (s : StoredStep) → not (option_eq eqs.eq-value.it o (Some s)) ≡ true → option_map step_of o ≡ Some (step_of s) → ⊥
other None s e is = absurd cc
other (Some t) s e is =
    let step : step_of t ≡ step_of s = cc in
    let p = (Decides-eqb t.point s.point).1 (ap (λ (u : Step). u.point) step) in
    let m = (Decides-eqb t.choice s.choice).1 (ap (λ (u : Step). u.choice) step) in
    let h : not (nat_eq t.point s.point && nat_eq t.choice s.choice) ≡ true = e in
    absurd (let k = sym h ∙ ap (λ b. not (b && nat_eq t.choice s.choice)) p ∙ ap (λ b. not (true && b)) m in cc)

-- ---- the span of the move's point

read : (c : After-index-span) → span_in c.args.side.now.plot.now.spans.items c.args.change.step.point ≡ c.index-span.result.now
read c =
    let spans = c.args.side.now.plot.now.spans.items in
    let there : c.args.change.step.point < length spans = omega (arith, c.requires.point, c.args.side.now.plotted.spans.long) in
    get_or_default spans c.args.change.step.point _ c.index-span.result.now there ∙ sym c.index-span.ensures

-- the ends before which the other player chose the move last lie in the span
inside : (c : After-index-span) → (z : ℕ) → z < end_count (side_frame c.args.side.now)
    → last_step (side_frame c.args.side.now) (other_player c.args.side.now.player) (at_end z) ≡ Some (step_of c.args.change.step)
    → (c.index-span.result.now.first ≤ z) × (z < c.index-span.result.now.stop)
inside c z lz is =
    let side = c.args.side.now in
    subst (λ (s : Span). (s.first ≤ z) × (z < s.stop)) (read c)
    (side.plotted.spans.all z (other_player side.player) lz (let t = side.two in omega arith) (let l = side.some in omega arith)
    (step_of c.args.change.step) is)

-- and there is none behind the game's
few : (c : After-index-span) → c.index-span.result.now.stop ≤ end_count (side_frame c.args.side.now)
few c =
    let side = c.args.side.now in
    subst (λ (s : Span). s.stop ≤ end_count (side_frame side)) (read c) (side.plotted.spans.within c.args.change.step.point c.requires.point)

-- the other player's last step before the end, as it was read
last : (c : After-end_step)
    → option_map step_of c.end_step.result ≡ last_step (side_frame c.args.side.now) (other_player c.args.side.now.player) (at_end c.loop-end.end)
last c =
    subst (λ g. option_map step_of c.end_step.result ≡ last_step (frame_in g) (other_player c.args.side.now.player) (at_end c.loop-end.end)) c.game-game.ensures
    c.end_step.ensures

-- where it is not another step than the move's, it is the move
chosen : (c : After-end_step) → not (option_eq eqs.eq-value.it c.end_step.result (Some c.args.change.step)) ≡ false
    → last_step (side_frame c.args.side.now) (other_player c.args.side.now.player) (at_end c.loop-end.end) ≡ Some (step_of c.args.change.step)
chosen c e = sym (last c) ∙ ap (option_map step_of) (same c.end_step.result c.args.change.step (is _ e))
  where
    is : (b : Bool) → not b ≡ false → b ≡ true
    is true e = refl
    is false e = absurd cc

pub loop-end-init : goal.loop-end-init
loop-end-init c =
    let side = c.args.side.now in
    let at = (goal.at.loop-end-init c).After-index-span in
    record {
      kept = choices_kept c.requires.room;
      pushed = λ pays rise rise' p h.
          renewed_begun (side_frame side) (side_lists side) side.player (walked side) pays rise rise' c.args.now c.index-span.result.now.first c.args.tally.now
          (λ z k lt lz lk. p.elsewhere z k lz (λ is. (let i = inside at z lz is in omega (arith, i.0, lt))) lk) h;
    }

pub loop-end-preserved : goal.loop-end-preserved
loop-end-preserved c =
    let side = c.args.side.now in
    let at = goal.at.loop-end-preserved c in
    let change = c.args.change in
    let z = c.loop-end.end in
    let lz : z < end_count (side_frame side) = omega (arith, c.loop-end-test.true, few at.After-index-span) in
    let is = chosen at.After-end_step (sym c.ne.ensures ∙ c.if-ne.false) in
    record {
      kept = choices_next c.loop-end.invariant.kept c.push_end.ensures.kept;
      pushed = λ pays rise rise' p h.
          renewed_more (side_frame side) (side_lists side) side.player (walked side) pays rise rise' c.args.now z c.push_end.new.tally
          (λ k. with_sign change.is_on (raise_sum (side_frame side) (side_lists side) side.player z (step_of change.step) change.class k))
          (λ k lk. p.behind z k lz is lk)
          (c.push_end.ensures.pushed pays (renewed_before rise rise' z) (c.loop-end.invariant.pushed pays rise rise' p h));
    }

pub loop-end-preserved-then-ne : goal.loop-end-preserved-then-ne
loop-end-preserved-then-ne c =
    let side = c.args.side.now in
    let at = goal.at.loop-end-preserved-then-ne c in
    let z = c.loop-end.end in
    let lz : z < end_count (side_frame side) = omega (arith, c.loop-end-test.true, few at.After-index-span) in
    record {
      kept = c.loop-end.invariant.kept;
      pushed = λ pays rise rise' p h.
          renewed_kept (side_frame side) (side_lists side) side.player (walked side) pays rise rise' c.args.now z c.loop-end.tally
          (λ k lk. p.elsewhere z k lz (λ is. other c.end_step.result c.args.change.step (sym c.ne.ensures ∙ c.if-ne.true) (last at.After-end_step ∙ is)) lk)
          (c.loop-end.invariant.pushed pays rise rise' p h);
    }

pub push_end-requires-clause-past : goal.push_end-requires-clause-past
push_end-requires-clause-past c =
    let side = c.args.side.now in
    let at = goal.at.push_end-requires-clause-past c in
    (walked side).past_end c.loop-end.end (step_of c.args.change.step) (omega (arith, c.loop-end-test.true, few at.After-index-span))
    (chosen at.After-end_step (sym c.ne.ensures ∙ c.if-ne.false))

pub push_end-requires-clause-room : goal.push_end-requires-clause-room
push_end-requires-clause-room c = c.loop-end.invariant.kept.room

pub end_step-requires : goal.end_step-requires
end_step-requires c =
    subst (λ g. c.loop-end.end < end_count (frame_in g)) (sym c.game-game.ensures)
    (omega (arith, few (goal.at.end_step-requires c).After-index-span, c.loop-end-test.true))

pub push_end-requires-clause-end : goal.push_end-requires-clause-end
push_end-requires-clause-end c = omega (arith, few (goal.at.push_end-requires-clause-end c).After-index-span, c.loop-end-test.true)

pub push_end-requires-clause-point : goal.push_end-requires-clause-point
push_end-requires-clause-point c = c.requires.point

pub index-span-requires : goal.index-span-requires
index-span-requires c = grind arith

pub returns : goal.returns
returns c = record {
  kept = c.loop-end.invariant.kept;
  pushed = let side = c.args.side.now in
      let at = (goal.at.returns c).After-index-span in
      λ pays rise rise' p h.
      renewed_all (side_frame side) (side_lists side) side.player (walked side) pays rise rise' c.args.now c.loop-end.end c.loop-end.tally
      (λ z k ge lz lk. p.elsewhere z k lz (λ is. (let i = inside at z lz is in omega (arith, i.1, ge, c.loop-end-test.false))) lk)
      (c.loop-end.invariant.pushed pays rise rise' p h);
}
