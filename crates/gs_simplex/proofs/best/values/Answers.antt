use Rattle.std.proofs.{Common.{◌+◌, length, slice_index, ap, ◌∙◌}, lemmas.List.{length_push}}
use Rattle.gs_frac.specs.declared.value.Fraction.{Fraction}
use Rattle.gs_simplex.specs.{Table.{grid_of}, Values.{IsColumnValue}}
use Rattle.gs_simplex.proofs.Lists.{pushed_all}
use Rattle.gs_simplex.proofs.best.values.Goals as goal

pub loop-j-preserved : goal.loop-j-preserved
loop-j-preserved c =
    let p = c.args.p.now in let grid = grid_of p c.args.table.now in let xs = c.loop-j.value.items in let v = c.loop-j.invariant in
    let items = c.in_ok-push.ensures.items in
    record {
      long = ap length items ∙ length_push xs c.value_at.result ∙ ap (λ t. t + 1) v.long;
      done = pushed_all (λ k (f : Fraction). IsColumnValue p grid (slice_index c.args.rows.now k) k f) xs c.push.new.self.items c.value_at.result c.loop-j.j
          items v.long v.done c.value_at.ensures;
    }
