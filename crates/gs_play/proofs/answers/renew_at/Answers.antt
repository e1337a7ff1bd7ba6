use Rattle.std.proofs.{Common.{ℕ, ◌<◌, Bool, List, false, set, refl, sym, ◌∙◌, subst, arith, rules, get_or-set_other}, lemmas.Grind.{common_steps}}
use Rattle.gs_model.specs.{Frame.{Frame, player_at, point_count}, FrameFacts.{IsWalked}}
use Rattle.gs_seq.specs.Abstracts.{game_in}
use Rattle.gs_seq.proofs.Points.{walked_at}
use Rattle.gs_best.specs.Tables.{moves_of}
use Rattle.gs_play.specs.{Answers.{IsRight, IsStill}, Sides.{side_frame, side_lists}}
use Rattle.gs_play.proofs.{PlotRows.{row_at, row_player}, Retaken.{renewed_none}, Rooms.{has_turned}}
use Rattle.gs_play.proofs.answers.renew_at.Goals.{else-index-side-via-then-index-side+else-is_loose, else-index-side-via-else-index-side}
use Rattle.gs_play.proofs.answers.renew_at.Goals as goal

-- what is said of the point itself does not tell whether anything before it has changed
still_before : (f : Frame) (q : ℕ) → IsWalked f (player_at f q) → q < point_count f → (moved turned : List Bool) → IsStill f q moved (set turned q false)
    → IsStill f q moved turned
still_before f q w lq moved turned h = record {
  own = h.own;
  gate = λ u is.
      (let before = w.earlier q u lq is in sym (get_or-set_other turned q u.point false false (λ same. absurd (omega (arith, before, same)))) ∙ h.gate u is);
}

pub is_loose-requires : goal.is_loose-requires
is_loose-requires c = grind (arith, common_steps)

pub index-requires : goal.index-requires
index-requires c = omega (arith, c.requires.point, c.args.side.now.plotted.many, c.args.side.now.plot.now.rows.ok.0)

pub renew_point-requires : goal.renew_point-requires
renew_point-requires c = record {
  point = c.requires.point;
  own = let s = c.args.side.now in
      let f = side_frame s in
      let row = row_at f (side_lists s) s.plot.now s.plotted c.args.point c.requires.point c.index.result.now c.index.ensures in
      sym (row_player f (side_lists s) c.args.point c.index.result.now row) ∙ c.if-index-side.true;
  renewable = record {
    answer = has_turned (side_frame c.args.side.now) (side_lists c.args.side.now) c.args.side.now.player c.args.now c.args.answer.now c.args.point false
        c.requires.renewable.answer;
    long = grind arith;
    moves = grind arith;
    room = c.requires.renewable.room;
  };
}

-- what is said of the points does not matter for the answer so far
pub returns-then-is_loose : goal.returns-then-is_loose
returns-then-is_loose c = record {
  renewed = let h = c.renew_point.ensures.renewed in
      record { answer = h.answer; plan = h.plan; kept = h.kept; passed_on = h.passed_on };
  right = λ own e le.
      let f = side_frame c.args.side.now in
      let lists = side_lists c.args.side.now in
      let taken = moves_of f lists c.renew_point.new.answer.taken.items in
      subst (λ picks. IsRight f lists taken (moves_of f lists picks) c.args.point e) c.deref-then-is_loose.ensures.value (c.renew_point.ensures.right e le);
  turned = search rules;
}

pub returns-else-index-side-clause-renewed : goal.returns-else-index-side-clause-renewed
returns-else-index-side-clause-renewed c =
    let s = c.args.side.now in
    let has = has_turned (side_frame s) (side_lists s) s.player c.args.now c.args.answer.now c.args.point false c.requires.renewable.answer in
    let h = renewed_none (side_frame s) (side_lists s) s.player c.args.now c.args.answer.now c.args.tally.now c.requires.renewable.answer
    c.requires.renewable.room in
    record { answer = has; plan = h.plan; kept = h.kept; passed_on = h.passed_on }

pub returns-else-index-side-clause-right : goal.returns-else-index-side-clause-right
returns-else-index-side-clause-right c = λ own e le.
    let s = c.args.side.now in
    let f = side_frame s in
    let q = c.args.point in
    let turned = c.args.answer.now.turned.items in
    elim c.else-index-side.branch [
      | else-index-side-via-then-index-side+else-is_loose o ↦
          c.requires.right own
          (still_before f q (walked_at (game_in s.form.now) (player_at f q) q c.requires.point refl) c.requires.point c.args.own.now.moved.items turned
          (subst (λ xs. IsStill f q xs (set turned q false)) o.deref.ensures.value (o.is_loose.ensures o.if-is_loose.false))) e le
      | else-index-side-via-else-index-side o ↦ absurd
          (let row = row_at f (side_lists s) s.plot.now s.plotted q c.requires.point c.index.result.now c.index.ensures in
          o.if-index-side.false (row_player f (side_lists s) q c.index.result.now row ∙ own))
    ]

pub returns-else-index-side-clause-turned : goal.returns-else-index-side-clause-turned
returns-else-index-side-clause-turned c = grind (arith, common_steps)
