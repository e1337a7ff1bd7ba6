use Rattle.std.proofs.Common.{◌≡◌, ◌≤◌, ◌∙◌, ℕ, arith, sym}
use Rattle.gs_best.proofs.tables.table_for.Goals as goal

pub returns : goal.returns
returns c = grind arith

-- a list has room for as many places as it is long
room : (long most : ℕ) → long ≡ most → most ≤ long
room long most e = omega (arith, e)

pub lay_out-requires : goal.lay_out-requires
lay_out-requires c = record {
  starts = room _ _ (sym c.in_ok-vec.field-0.ok.0 ∙ c.in_ok-vec.ensures.len ∙ c.point_total-points.ensures);
  totals = room _ _ (sym c.in_ok-vec-2.field-0.ok.0 ∙ c.in_ok-vec-2.ensures.len ∙ c.value_total-values.ensures);
  picks = room _ _ (sym c.in_ok-vec-3.field-0.ok.0 ∙ c.in_ok-vec-3.ensures.len ∙ c.value_total-values.ensures);
}
