use Rattle.std.proofs.Common.{arith}
use Rattle.std.proofs.{Common.{◌≡◌, ◌+◌, length, neg_ℤ, ◌*ℤ◌, ap, ◌∙◌}, lemmas.List.{length_push}}
use Rattle.gs_frac.specs.declared.value.Fraction.{Fraction}
use Rattle.gs_simplex.specs.Table.{grid_of, table_aim}
use Rattle.gs_simplex.proofs.Lists.{pushed_all}
use Rattle.gs_simplex.proofs.best.prices.Goals as goal

pub loop-j-preserved : goal.loop-j-preserved
loop-j-preserved c =
    let p = c.args.p.now in let grid = grid_of p c.args.table.now in let v = c.loop-j.invariant in
    record {
      long = ap length c.in_ok-push.ensures.items ∙ length_push c.loop-j.price.items c.price_at.result ∙ ap (λ t. t + 1) v.long;
      done = pushed_all (λ k (f : Fraction). f.num *ℤ table_aim p grid (p.cols + 1) ≡ neg_ℤ (table_aim p grid k) *ℤ f.den) c.loop-j.price.items
          c.push.new.self.items c.price_at.result c.loop-j.j c.in_ok-push.ensures.items v.long v.done c.price_at.ensures;
    }

pub price_at-requires-clause-column : goal.price_at-requires-clause-column
price_at-requires-clause-column c = grind arith
