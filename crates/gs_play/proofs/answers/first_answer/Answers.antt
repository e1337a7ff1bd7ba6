use Rattle.std.proofs.lemmas.Grind.{common_steps}
use Rattle.std.proofs.Common.{◌≡◌, ℕ, ◌+◌, ◌-◌, ◌<◌, List, length, replicate, sym, ap, ◌∙◌, subst, arith, rules}
use Rattle.std.proofs.lemmas.List.{length-replicate, with_items_is}
use Rattle.gs_model.specs.Frame.{player_at, point_count}
use Rattle.gs_seq.specs.Slots.{slot_count}
use Rattle.gs_seq.proofs.Forms.{form_classes, form_in_range, form_moves, form_walked}
use Rattle.gs_best.specs.Tables.{start_of}
use Rattle.gs_play.specs.{Answers.{AreKeptBut}, Sides.{side_frame, side_lists}}
use Rattle.gs_play.proofs.{FirstMoves.{AreFirstBefore, before_more, before_none, before_other}, PlotRows.{row_at, row_player}, Started.{IsFresh, fresh_has}}
use Rattle.gs_play.proofs.answers.first_answer.Goals.{After-index, In_ok-taken, In_ok-vec-3, else-index-side, then-index-side}
use Rattle.gs_play.proofs.answers.first_answer.Goals as goal

cells : (c : In_ok-taken) → c.len-cells.result ≡ start_of (side_frame c.args.side.now) (side_lists c.args.side.now) (point_count (side_frame c.args.side.now))
cells c = omega (arith, c.len-cells.ensures, c.args.side.now.plotted.long, c.args.side.now.plot.now.points.ok.0)

pub loop-point-init : goal.loop-point-init
loop-point-init c =
    let s = c.args.side.now in
    let f = side_frame s in
    let lists = side_lists s in
    let all = start_of f lists (point_count f) in
    let at = cells (goal.at.loop-point-init c).In_ok-taken in
    let none = c.in_ok-taken.ensures.items_if_clones_equal (λ y k. search rules) ∙ ap (λ n. replicate n 255) at in
    record {
      long = ap (λ (l : List ℕ). length l) none ∙ length-replicate all 255;
      first = subst (AreFirstBefore f lists s.player 0) (sym none) (before_none f lists s.player);
    }

-- who chooses at the point
player : (c : After-index) → c.index.result.now.player ≡ player_at (side_frame c.args.side.now) c.loop-point.point
player c =
    let s = c.args.side.now in
    let q = c.loop-point.point in
    row_player (side_frame s) (side_lists s) q _
    (row_at (side_frame s) (side_lists s) s.plot.now s.plotted q (omega (arith, c.loop-point-test.true, c.point_total-point-end.ensures)) _ c.index.ensures)

pub loop-point-preserved : goal.loop-point-preserved
loop-point-preserved c =
    let s = c.args.side.now in
    let f = side_frame s in
    let lists = side_lists s in
    let a = s.form.now in
    let q = c.loop-point.point in
    let taken = c.loop-point.taken in
    let lq : q < point_count f = omega (arith, c.loop-point-test.true, c.point_total-point-end.ensures) in
    let who = player (goal.at.loop-point-preserved c).After-index in
    let done = c.loop-point.invariant in
    elim c.if-index-side.branch [
      | then-index-side b ↦
          let next = b.take_first.new.taken in
          let same = b.deref_mut.ensures.value in
          let long : length next ≡ length taken.items = omega (arith, b.take_first.auto.taken, ap (λ (l : List ℕ). length l) same) in
          let items = ap (λ v. v.items) b.taken-is ∙ with_items_is taken next (omega (arith, long, taken.ok.0)) in
          let kept : AreKeptBut f lists q taken.items next = subst (λ (xs : List ℕ). AreKeptBut f lists q xs next) same b.take_first.ensures.elsewhere in
          record {
            long = ap (λ (l : List ℕ). length l) items ∙ long ∙ done.long;
            first = subst (AreFirstBefore f lists s.player (q + 1)) (sym items)
                (before_more f lists s.player (form_in_range a) (form_classes a) (form_walked a s.player s.some s.two) q lq taken.items next kept
                b.take_first.ensures.first done.first);
          }
      | else-index-side b ↦ record {
        long = ap (λ v. length v.items) b.taken-is ∙ done.long;
        first = subst (λ v. AreFirstBefore f lists s.player (q + 1) v.items) (sym b.taken-is)
            (before_other f lists s.player q taken.items (λ own. b.if-index-side.false (who ∙ own)) done.first);
      }
    ]

-- the answer in turn 0
fresh : (c : In_ok-vec-3) → c.len-cells.result ≡ start_of (side_frame c.args.side.now) (side_lists c.args.side.now) (point_count (side_frame c.args.side.now))
    → IsFresh (side_frame c.args.side.now) (side_lists c.args.side.now) c.args.side.now.player
    (record { weights = c.in_ok-vec.field-0; taken = c.loop-point.taken; since = c.in_ok-vec-2.field-0; turned = c.in_ok-vec-3.field-0 })
fresh c all =
    let s = c.args.side.now in
    let few : c.sequences.result - 1 ≡ slot_count (side_frame s) (side_lists s) s.player = omega (arith, c.sequences.ensures) in
    record {
      weights = c.in_ok-vec.ensures.items_if_clones_equal (λ y k. search rules) ∙ ap (λ n. replicate n 0) few;
      taken = c.loop-point.invariant.long;
      since = c.in_ok-vec-2.ensures.items_if_clones_equal (λ y k. search rules) ∙ ap (λ n. replicate n 0) all;
      turned = omega (arith, c.in_ok-vec-3.ensures.len, c.in_ok-vec-3.field-0.ok.0, c.len.ensures, s.plotted.many, s.plot.now.rows.ok.0);
      right = λ q c' lq own lc. c.loop-point.invariant.first.first q c' (omega (arith, lq, c.loop-point-test.false, c.point_total-point-end.ensures)) lq own lc;
    }

pub returns : goal.returns
returns c = record {
  answer = let s = c.args.side.now in
      let at = goal.at.returns c in
      fresh_has (side_frame s) (side_lists s) s.player _ (λ q lq. (form_moves s.form.now q lq).some) (fresh at.In_ok-vec-3 (cells at.In_ok-taken));
  right = let at = goal.at.returns c in (fresh at.In_ok-vec-3 (cells at.In_ok-taken)).right;
}

pub take_first-requires : goal.take_first-requires
take_first-requires c = record {
  point = omega (arith, c.loop-point-test.true, c.point_total-point-end.ensures);
  long = ap (λ (l : List ℕ). length l) c.deref_mut.ensures.value ∙ c.loop-point.invariant.long;
  none = grind arith;
}

pub overflow_sub-slots : goal.overflow_sub-slots
overflow_sub-slots c = grind arith

pub overflow_cast-slots : goal.overflow_cast-slots
overflow_cast-slots c = grind arith

pub sequences-requires : goal.sequences-requires
sequences-requires c = grind (arith, common_steps)

pub index-requires : goal.index-requires
index-requires c = omega arith

pub overflow_cast-point : goal.overflow_cast-point
overflow_cast-point c = grind arith
