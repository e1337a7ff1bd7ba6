use Rattle.std.proofs.{Common.{◌≡◌, ℕ, List, Bool, false, get_or, length, sym, ap, ◌∙◌, rules, true≢false}, lemmas.List.{length-replicate}}
use Rattle.std.specs.Int.{div_ceil}
use Rattle.gs_model.specs.Frame.{point_count}
use Rattle.gs_best.specs.Tables.{start_of}
use Rattle.gs_play.specs.{Lines.{flat, line_at}, declared.line.Line.{Line}}
use Rattle.gs_play.proofs.Clear.{same_at}
use Rattle.gs_play.proofs.tally.tally_of.Goals as goal

pub returns : goal.returns
returns c = record {
  room = λ f lists h.
      let p = c.args.plot.now in
      let cells : c.len-cells.result ≡ start_of f lists (point_count f) = c.len-cells.ensures ∙ p.points.ok.0 ∙ h.long in
      record {
        worths = sym c.in_ok-worths.worths.ok.0 ∙ c.in_ok-worths.ensures.len ∙ h.worths;
        totals = sym c.in_ok-totals.totals.ok.0 ∙ c.in_ok-totals.ensures.len ∙ cells;
        picks = sym c.in_ok-picks.picks.ok.0 ∙ c.in_ok-picks.ensures.len ∙ cells;
        turns = ap (λ (l : List ℕ). length l) c.in_ok-dues.ensures.turns ∙ length-replicate c.len-cells.result 0 ∙ cells;
        dues = c.in_ok-dues.ensures.dues;
        blocks = c.in_ok-dues.ensures.blocks ∙ ap (λ n. div_ceil n 64) cells;
        moved = sym c.in_ok-moved.moved.ok.0 ∙ c.in_ok-moved.ensures.len ∙ c.len.ensures ∙ p.rows.ok.0 ∙ h.many;
      };
  clear = let worths = c.in_ok-worths.ensures.items_if_clones_equal (λ y k. search rules) in
      let totals = c.in_ok-totals.ensures.items_if_clones_equal (λ y k. search rules) in
      let picks = c.in_ok-picks.ensures.items_if_clones_equal (λ y k. search rules) in
      let moved = c.in_ok-moved.ensures.items_if_clones_equal (λ y k. search rules) in
      record {
        worths = λ k. ap (λ (l : List Line). line_at l k) worths ∙ same_at c.args.plot.now.worths k flat;
        totals = λ k. ap (λ (l : List Line). line_at l k) totals ∙ same_at c.len-cells.result k flat;
        due = λ k. ap (λ (l : List ℕ). get_or l k 0) c.in_ok-dues.ensures.turns ∙ same_at c.len-cells.result k 0;
        picks = λ k. ap (λ (l : List ℕ). get_or l k 0) picks ∙ same_at c.len-cells.result k 0;
        still = λ q is. let none = ap (λ (l : List Bool). get_or l q false) moved ∙ same_at c.len.result q false in absurd (true≢false (sym is ∙ none));
      };
}
