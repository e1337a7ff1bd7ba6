use Rattle.std.proofs.{Common.{◌≡◌, ◌+◌, ◌-◌, ◌^◌, ◌<◌, get_or, sym, ap, ◌∙◌, subst, arith}, lemmas.Int.{to_z-of_z}}
use Rattle.std.specs.{Prelude.{pos, unsigned_abs}, List.{range_with_len}}
use mir.Syntax.{w128}
use Rattle.gs_model.specs.Sums.{sum_z}
use Rattle.gs_seq.specs.Abstracts.{abstract_frame, lists_of}
use Rattle.gs_seq.proofs.Forms.{form_class_few}
use Rattle.gs_best.specs.LaterRows.{row_from}
use Rattle.gs_best.proofs.Gathered.{gathered_run, sum_shift}
use Rattle.gs_best.proofs.gathering.sum_below.Goals as goal

pub sum_between-requires-clause-few : goal.sum_between-requires-clause-few
sum_between-requires-clause-few c =
    let a = c.args.form.now in
    let run = c.classes_below-run.ensures in
    let few = form_class_few a c.args.row.round (omega (arith, c.requires.some, c.requires.row.later)) c.requires.row.top in
    omega (arith, run.some, run.ordered, run.within, few)

pub sum_between-requires-clause-modest : goal.sum_between-requires-clause-modest
sum_between-requires-clause-modest c =
    let run = c.classes_below-run.ensures in
    λ k lo hi.
    let m = c.requires.row.modest (k - c.args.row.start) (omega (arith, lo, hi, run.some, run.ordered, run.within)) in
    let at : c.args.row.start + (k - c.args.row.start) ≡ k = omega (arith, lo, run.some) in
    subst (λ i. unsigned_abs (get_or c.args.row.values.now i (pos 0)) < 2 ^ 90) at m

pub returns : goal.returns
returns c =
    let a = c.args.form.now in
    let run = c.classes_below-run.ensures in
    let first = c.classes_below-run.result.first in
    let end = c.classes_below-run.result.end in
    let start = c.args.row.start in
    let v = row_from c.args.row.values.now start in
    let same = sum_shift (λ k. get_or c.args.row.values.now k (pos 0)) v (start + first - 1) first (start + end - 1 - (start + first - 1))
    (λ m l. let e : start + first - 1 + m ≡ start + (first + m - 1) = omega (arith, run.some) in ap (λ k. get_or c.args.row.values.now k (pos 0)) e) in
    let long : start + end - 1 - (start + first - 1) ≡ end - first = omega (arith, run.some, run.ordered) in
    to_z-of_z w128 c.sum_between.result (record { sfits = c.sum_between.type_inv }) ∙ c.sum_between.ensures ∙ same
    ∙ ap (λ n. sum_z v (range_with_len first n)) long
    ∙ sym (gathered_run (abstract_frame a) (lists_of a) c.args.row.round c.args.from c.args.class first end v run)

pub sum_between-requires-clause-ordered : goal.sum_between-requires-clause-ordered
sum_between-requires-clause-ordered c = grind arith
