use Rattle.std.proofs.Common.{rules, pos, ◌∙◌, ◌≡◌, ◌*◌, ◌≤◌, sym, subst, FitsSigned, of_z, to_z, to_z-of_z}
use Rattle.std.specs.{Int.{w8, w64}, Prelude.{unsigned_abs, ◌*ℤ◌}}
use Rattle.gs_seq.proofs.Gathered.{scaled_size}
use Rattle.gs_seq.proofs.rows.weighed_outcome.Goals as goal

pub returns : goal.returns
returns c = record {
  value = search rules;
  size = let fits : FitsSigned w64 c.product.result = record { sfits = c.product.type_inv } in
      let back : to_z w64 (of_z w64 c.product.result) ≡ c.product.result = to_z-of_z {w = w64} {z = c.product.result} fits in
      let given : to_z w8 (of_z w8 c.args.outcome) ≡ c.args.outcome = to_z-of_z {w = w8} {z = c.args.outcome} c.ranges.outcome in
      let size : unsigned_abs (pos c.args.weight *ℤ to_z w8 (of_z w8 c.args.outcome)) ≤ 128 * c.args.weight =
      subst (λ o. unsigned_abs (pos c.args.weight *ℤ o) ≤ 128 * c.args.weight) (sym given) (scaled_size c.args.weight c.args.outcome c.ranges.outcome) in
      subst (λ z. unsigned_abs z ≤ 128 * c.args.weight) (sym (back ∙ c.product.ensures)) size;
}
