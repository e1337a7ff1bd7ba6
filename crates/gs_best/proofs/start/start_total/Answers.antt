use Rattle.std.proofs.{Common.{◌≡◌, [], sym, ap, ◌∙◌, subst, arith, of_z}, lemmas.Int.{to_z-of_z}}
use Rattle.std.specs.Prelude.{unsigned_abs}
use mir.Syntax.{w128}
use mir.Val.{to_z}
use Rattle.gs_game.specs.Seen.{target_of}
use Rattle.gs_model.specs.{Classes.{classes_in}, Frame.{round_of}, FrameFacts.{IsInside}, Sums.{sum_z}}
use Rattle.gs_seq.specs.Plans.{lifted}
use Rattle.gs_seq.proofs.Forms.{form_classes, form_in_range, form_lossless}
use Rattle.gs_best.specs.{ClassTotals.{IsBestTotal}, LaterRows.{IsRowOf}, Sides.{frame_at, lists_at, picks_at, plan_at, totals_at}}
use Rattle.gs_best.proofs.{TotalAnswers.{best_total}, Players.{walked}, WalkRows.{laid_from}, Starts.{in_round, round_small, row_small, row_sum}}
use Rattle.gs_best.proofs.start.start_total.Goals.{After-row_to-totals, After-sum_between}
use Rattle.gs_best.proofs.start.start_total.Goals as goal

held : (c : After-row_to-totals) → let s = c.args.side.now in
    IsRowOf (frame_at s) (lists_at s) (totals_at s c.args.table.now.totals.items) (frame_at s).start c.row_to-totals.result
held c = let s = c.args.side.now in
    subst (λ t. IsRowOf (frame_at s) (lists_at s) (totals_at s c.args.table.now.totals.items) t c.row_to-totals.result) c.start_at-target.ensures
    (subst (λ l. IsRowOf (frame_at s) (lists_at s) (totals_at s l) (target_of c.start_at-target.result) c.row_to-totals.result) c.deref-2.ensures.value
    c.row_to-totals.ensures.held)

pub row_to-totals-requires-clause-laid : goal.row_to-totals-requires-clause-laid
row_to-totals-requires-clause-laid c =
    let s = c.args.side.now in
    laid_from (frame_at s) (lists_at s) c.args.table.now c.requires.laid c.deref.result.now c.deref.ensures.value []
    c.deref-2.result.now c.deref-2.ensures.value

pub row_to-totals-requires-clause-inside : goal.row_to-totals-requires-clause-inside
row_to-totals-requires-clause-inside c = subst (IsInside (frame_at c.args.side.now)) (sym c.start_at-target.ensures) (walked c.args.side.now).start_in

pub class_total-count-requires-clause-some : goal.class_total-count-requires-clause-some
class_total-count-requires-clause-some c =
    let s = c.args.side.now in
    let at = in_round (frame_at s) s.player (walked s) (frame_at s).start (walked s).start_in in
    omega (arith, at.0, (held (goal.at.class_total-count-requires-clause-some c).After-row_to-totals).round_is)

pub class_total-count-requires-clause-top : goal.class_total-count-requires-clause-top
class_total-count-requires-clause-top c =
    let s = c.args.side.now in
    let at = in_round (frame_at s) s.player (walked s) (frame_at s).start (walked s).start_in in
    omega (arith, at.1, (held (goal.at.class_total-count-requires-clause-top c).After-row_to-totals).round_is)

pub sum_between-requires-clause-modest : goal.sum_between-requires-clause-modest
sum_between-requires-clause-modest c =
    let s = c.args.side.now in
    let t = c.args.table.now in
    row_small s t.totals.items (frame_at s).start (walked s).start_in (picks_at s t.picks.items) c.requires.best.followed c.row_to-totals.result
    (held (goal.at.sum_between-requires-clause-modest c).After-row_to-totals) c.class_total-count.result c.class_total-count.ensures.value

sum_is : (c : After-sum_between) → let s = c.args.side.now in
    IsRowOf (frame_at s) (lists_at s) (totals_at s c.args.table.now.totals.items) (frame_at s).start c.row_to-totals.result
    → to_z w128 (of_z w128 c.sum_between.result) ≡ sum_z (totals_at s c.args.table.now.totals.items (frame_at s).start)
    (classes_in (lists_at s) (round_of (frame_at s) (frame_at s).start))
sum_is c held =
    let s = c.args.side.now in
    to_z-of_z w128 c.sum_between.result (record { sfits = c.sum_between.type_inv }) ∙ c.sum_between.ensures
    ∙ row_sum s c.args.table.now.totals.items (frame_at s).start (walked s).start_in c.row_to-totals.result held c.class_total-count.result
    c.class_total-count.ensures.value

pub returns : goal.returns
returns c = record {
  total = let s = c.args.side.now in
      let a = s.form.now in
      let t = c.args.table.now in
      let at = goal.at.returns c in
      let round = in_round (frame_at s) s.player (walked s) (frame_at s).start (walked s).start_in in
      subst (IsBestTotal (frame_at s) (lists_at s) s.player (lifted (frame_at s) (lists_at s) s.other.now))
      (sym (sum_is at.After-sum_between (held at.After-row_to-totals)))
      (best_total (frame_at s) (form_in_range a) (lists_at s) (form_classes s.form.now) (form_lossless a) s.player (walked s) (plan_at s)
      (totals_at s t.totals.items) (picks_at s t.picks.items) c.requires.best round.0 round.1);
  small = let s = c.args.side.now in
      let t = c.args.table.now in
      let at = goal.at.returns c in
      let small = round_small s t.totals.items (frame_at s).start (walked s).start_in (picks_at s t.picks.items) c.requires.best.followed in
      omega (arith, small, ap unsigned_abs (sum_is at.After-sum_between (held at.After-row_to-totals)));
}

pub row_to-totals-requires-clause-numbers : goal.row_to-totals-requires-clause-numbers
row_to-totals-requires-clause-numbers c = grind arith

pub row_to-totals-requires-clause-row : goal.row_to-totals-requires-clause-row
row_to-totals-requires-clause-row c = grind arith

pub sum_between-requires-clause-within : goal.sum_between-requires-clause-within
sum_between-requires-clause-within c = grind arith

pub overflow_add-totals : goal.overflow_add-totals
overflow_add-totals c = grind arith

pub sum_between-requires-clause-few : goal.sum_between-requires-clause-few
sum_between-requires-clause-few c = grind arith

pub overflow_cast-count : goal.overflow_cast-count
overflow_cast-count c = grind arith
