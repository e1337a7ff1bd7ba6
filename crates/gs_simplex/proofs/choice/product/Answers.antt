use Rattle.std.proofs.Common.{◌≤◌, ◌^◌, ℤ, unsigned_abs, sym, subst}
use Rattle.gs_simplex.proofs.Fits.{product_kept, product_small, product_fits}
use Rattle.gs_simplex.proofs.choice.product.Goals as goal

pub overflow_mul-result : goal.overflow_mul-result
overflow_mul-result c =
    product_fits c.args.x c.args.y c.from.result c.from-2.result c.requires.narrow c.requires.narrow_other c.from.ensures c.from-2.ensures

pub returns : goal.returns
returns c =
    let x = c.args.x in let y = c.args.y in
    let kept = product_kept x y c.from.result c.from-2.result c.requires.narrow c.requires.narrow_other c.from.ensures c.from-2.ensures in record {
      value = kept;
      size = (let P : ℤ → Type 0 = λ t. unsigned_abs t ≤ 2 ^ 124 in subst P (sym kept) (product_small x y c.requires.narrow c.requires.narrow_other));
    }
