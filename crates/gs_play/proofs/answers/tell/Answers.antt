use Rattle.std.proofs.Common.{ℕ, ℤ, ◌<◌, ◌≤◌, arith}
use Rattle.gs_model.specs.{Frame.{move_count, other_player, point_count}, FrameFacts.{IsWalked}, Plans.{Plan}}
use Rattle.gs_seq.specs.Payoffs.{end_sum}
use Rattle.gs_seq.proofs.Forms.{form_classes, form_in_range, form_moves, form_walked}
use Rattle.gs_play.specs.{Answers.{taken_plan}, Sides.{side_frame, side_lists}, declared.role.Role.{Role}}
use Rattle.gs_play.proofs.{Replaced.{move_off, move_on, only_move_off, only_move_on, plan_without}, Tells.{choices_next}}
use Rattle.gs_play.proofs.answers.tell.Goals as goal

-- the positions hang together for the player who takes the move, seen from the other side
back : (s : Role) → IsWalked (side_frame s) (other_player (other_player s.player))
back s = form_walked s.form.now (other_player (other_player s.player)) (omega (arith, s.some, s.two)) (omega (arith, s.some, s.two))

-- what ends pay the other player against a plan
abbrev pays_on : Role → Plan → ℕ → ℕ → ℤ
pays_on s x = end_sum (side_frame s) (side_lists s) (other_player s.player) x

few : (s : Role) (q n : ℕ) → q < point_count (side_frame s) → 255 ≤ n → move_count (side_frame s) q ≤ n
few s q n lq none = (let m = (form_moves s.form.now q lq).few in omega (arith, m, none))

pub invariant_of-other : goal.invariant_of-other
invariant_of-other c = grind arith

pub invariant_of-other-2 : goal.invariant_of-other-2
invariant_of-other-2 c = grind arith

pub push-requires-then-new-ne-NONE-clause-room : goal.push-requires-then-new-ne-NONE-clause-room
push-requires-then-new-ne-NONE-clause-room c = c.push-2.ensures.kept.room

pub push-requires-clause-room : goal.push-requires-clause-room
push-requires-clause-room c = c.requires.room

pub push-requires-2-clause-room : goal.push-requires-2-clause-room
push-requires-2-clause-room c = c.requires.room

pub push-requires-then-new-ne-NONE-clause-choice : goal.push-requires-then-new-ne-NONE-clause-choice
push-requires-then-new-ne-NONE-clause-choice c = c.requires.new (omega (arith, c.if-new-ne-NONE.true, c.ranges.new.fits))

pub push-requires-clause-choice : goal.push-requires-clause-choice
push-requires-clause-choice c = c.requires.new (omega (arith, c.requires.apart, c.if-old-eq-NONE.true, c.ranges.new.fits))

pub push-requires-2-clause-choice : goal.push-requires-2-clause-choice
push-requires-2-clause-choice c = c.requires.old (omega (arith, c.if-old-eq-NONE.false, c.ranges.old.fits))

pub push-requires-then-new-ne-NONE-clause-point : goal.push-requires-then-new-ne-NONE-clause-point
push-requires-then-new-ne-NONE-clause-point c = c.requires.point

pub returns-then-new-ne-NONE : goal.returns-then-new-ne-NONE
returns-then-new-ne-NONE c = record {
  kept = choices_next c.push-2.ensures.kept c.push-then-new-ne-NONE.ensures.kept;
  passed_on = λ from to h pays tally.
      let s = c.args.side.now in
      let without = plan_without c.args.point c.args.class from in
      c.push-then-new-ne-NONE.ensures.pushed pays (pays_on s without) (pays_on s (taken_plan to))
      (move_on (form_in_range s.form.now) (form_classes s.form.now) (other_player s.player) (back s) c.args.point c.args.class h)
      (c.push-2.ensures.pushed pays (pays_on s (taken_plan from)) (pays_on s without)
      (move_off (form_in_range s.form.now) (form_classes s.form.now) (other_player s.player) (back s) c.args.point c.args.class h) tally);
}

pub push-requires-clause-point : goal.push-requires-clause-point
push-requires-clause-point c = grind arith

pub push-requires-2-clause-point : goal.push-requires-2-clause-point
push-requires-2-clause-point c = grind arith

pub push-requires-then-new-ne-NONE-clause-others : goal.push-requires-then-new-ne-NONE-clause-others
push-requires-then-new-ne-NONE-clause-others c = omega arith

pub returns-else-new-ne-NONE : goal.returns-else-new-ne-NONE
returns-else-new-ne-NONE c = record {
  kept = c.push-2.ensures.kept;
  passed_on = λ from to h pays tally.
      let s = c.args.side.now in
      c.push-2.ensures.pushed pays (pays_on s (taken_plan from)) (pays_on s (taken_plan to))
      (only_move_off (form_in_range s.form.now) (form_classes s.form.now) (other_player s.player) (back s) c.args.point c.args.class h
      (few s c.args.point c.args.new c.requires.point (omega (arith, c.if-new-ne-NONE.false)))) tally;
}

pub returns-then-old-eq-NONE : goal.returns-then-old-eq-NONE
returns-then-old-eq-NONE c = record {
  kept = c.push.ensures.kept;
  passed_on = λ from to h pays tally.
      let s = c.args.side.now in
      c.push.ensures.pushed pays (pays_on s (taken_plan from)) (pays_on s (taken_plan to))
      (only_move_on (form_in_range s.form.now) (form_classes s.form.now) (other_player s.player) (back s) c.args.point c.args.class h
      (few s c.args.point c.args.old c.requires.point (omega (arith, c.if-old-eq-NONE.true)))) tally;
}

pub push-requires-clause-others : goal.push-requires-clause-others
push-requires-clause-others c = grind arith

pub push-requires-2-clause-others : goal.push-requires-2-clause-others
push-requires-2-clause-others c = grind arith
