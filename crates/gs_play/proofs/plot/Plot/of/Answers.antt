use Rattle.std.proofs.{Common.{◌≡◌, List, Option, None, length, get_or, replicate, sym, ap, ◌∙◌, subst, arith, rules}, lemmas.List.{with_items_is}}
use Rattle.gs_game.specs.declared.positions.Step.{Step as StoredStep}
use Rattle.gs_model.specs.{Frame.{end_count, point_count}, Positions.{at_end, at_point}}
use Rattle.gs_seq.specs.Abstracts.{abstract_frame, lists_of}
use Rattle.gs_play.specs.{Plots.{AreRowsBefore, AreSpans, AreMovesNoted, MatchMove, span_in}, declared.plot.PointRow.{PointRow}, declared.plot.Span.{Span}}
use Rattle.gs_play.proofs.{PlotLaws.{no_ends_in, ways_match, ways_none}, plot.Plot.of.Goals.{In_ok-spans, In_ok-to_ends, In_ok-to_points}}
use Rattle.gs_play.proofs.plot.Plot.of.Goals as goal

-- no span has an end yet
no_spans : (c : In_ok-spans) → c.in_ok-spans.spans.items ≡ replicate c.point_total-points.result (record { first = 4294967295; stop = 0 })
no_spans c = c.in_ok-spans.ensures.items_if_clones_equal (λ y k. search rules)

no_points : (c : In_ok-to_points) → c.in_ok-to_points.to_points.items ≡ replicate c.point_total-points.result None
no_points c = c.in_ok-to_points.ensures.items_if_clones_equal (λ y k. search rules)

no_ends : (c : In_ok-to_ends) → c.in_ok-to_ends.to_ends.items ≡ replicate c.end_total.result None
no_ends c = c.in_ok-to_ends.ensures.items_if_clones_equal (λ y k. search rules)

pub returns : goal.returns
returns c =
    let f = abstract_frame c.args.form.now in
    let ways = ways_match f (point_count f) c.lay_all.new.to_points c.lay_all.new.to_ends (omega arith) c.lay_all.ensures in
    let points = with_items_is c.in_ok-to_points.to_points c.lay_all.new.to_points (omega arith) in
    let ends = with_items_is c.in_ok-to_ends.to_ends c.lay_all.new.to_ends (omega arith) in
    let spans = with_items_is c.in_ok-spans.spans c.widen_all.new.spans (omega arith) in
    record {
      many = c.in_ok-rows.ensures.many;
      rows = c.in_ok-rows.ensures.rows;
      worths = c.in_ok-rows.ensures.worths;
      long = c.in_ok-cells.ensures.long;
      points = c.in_ok-cells.ensures.cells;
      many_to_points = omega (
        arith,
        ap (λ (xs : List (Option StoredStep)). length xs) points,
        c.lay_all.auto.to_points,
        c.deref_mut.ensures.len,
        c.in_ok-to_points.ensures.len,
        c.point_total-points.ensures,
      );
      many_to_ends = omega (
        arith,
        ap (λ (xs : List (Option StoredStep)). length xs) ends,
        c.lay_all.auto.to_ends,
        c.deref_mut-2.ensures.len,
        c.in_ok-to_ends.ensures.len,
        c.end_total.ensures,
      );
      to_points = λ q l. subst (λ (xs : List (Option StoredStep)). MatchMove f (at_point q) (get_or xs q None)) (sym points) (ways (at_point q));
      to_ends = λ z l. subst (λ (xs : List (Option StoredStep)). MatchMove f (at_end z) (get_or xs z None)) (sym ends) (ways (at_end z));
      spans = subst (λ (xs : List Span). AreSpans f (end_count f) xs) (sym spans) c.widen_all.ensures;
      gates = c.in_ok-gates.ensures;
    }

pub widen_all-requires : goal.widen_all-requires
widen_all-requires c =
    let at = goal.at.widen_all-requires c in
    let is = c.deref_mut-3.ensures.value ∙ no_spans at.In_ok-spans in
    record {
      none = record {
        long = omega (arith, c.deref_mut-3.ensures.len, c.in_ok-spans.ensures.len, c.point_total-points.ensures);
        within = λ q lq. omega (arith, ap (λ (spans : List Span). (span_in spans q).stop) is, no_ends_in c.point_total-points.result q 4294967295);
        all = λ z player lz. absurd (omega (arith, lz));
      };
    }

pub gates_of-requires : goal.gates_of-requires
gates_of-requires c = record {
  long_rows = ap (λ (rows : List PointRow). length rows) c.deref.ensures.value ∙ c.in_ok-rows.ensures.many;
  rows = subst (λ (rows : List PointRow). AreRowsBefore (abstract_frame c.args.form.now) (lists_of c.args.form.now) (point_count (abstract_frame c.args.form.now)) rows)
      (sym c.deref.ensures.value) c.in_ok-rows.ensures.rows;
}

pub lay_all-requires : goal.lay_all-requires
lay_all-requires c = record {
  points = omega (arith, c.deref_mut.ensures.len, c.in_ok-to_points.ensures.len, c.point_total-points.ensures);
  ends = omega (arith, c.deref_mut-2.ensures.len, c.in_ok-to_ends.ensures.len, c.end_total.ensures);
  none = let at = goal.at.lay_all-requires c in
      let f = abstract_frame c.args.form.now in
      subst (λ (points : List (Option StoredStep)). AreMovesNoted f 0 0 points c.deref_mut-2.result.now)
      (sym (c.deref_mut.ensures.value ∙ no_points at.In_ok-to_points))
      (subst (λ (ends : List (Option StoredStep)). AreMovesNoted f 0 0 (replicate c.point_total-points.result None) ends)
      (sym (c.deref_mut-2.ensures.value ∙ no_ends at.In_ok-to_ends))
      (ways_none f c.point_total-points.result c.end_total.result));
}

pub overflow_cast-end_total : goal.overflow_cast-end_total
overflow_cast-end_total c = grind arith
