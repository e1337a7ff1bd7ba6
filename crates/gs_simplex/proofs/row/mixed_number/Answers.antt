use Rattle.gs_simplex.proofs.Fits.{product_fits, product_kept, mixed_fits, mixed_kept, mixed_small}
use Rattle.gs_simplex.proofs.row.mixed_number.Goals as goal

pub overflow_sub-result : goal.overflow_sub-result
overflow_sub-result c =
    let q = c.requires in
    rw (
      product_kept c.args.own c.args.x c.from.result c.from-2.result q.narrow_own q.narrow_x c.from.ensures c.from-2.ensures,
      product_kept c.args.far c.args.y
          c.from-3.result c.from-4.result q.narrow_far q.narrow_y c.from-3.ensures c.from-4.ensures,
    )
    (mixed_fits c.args.own c.args.x c.args.far c.args.y q.narrow_own q.narrow_x q.narrow_far q.narrow_y)

pub returns-clause-value : goal.returns-clause-value
returns-clause-value c =
    let q = c.requires in
    rw (
      product_kept c.args.own c.args.x c.from.result c.from-2.result q.narrow_own q.narrow_x c.from.ensures c.from-2.ensures,
      product_kept c.args.far c.args.y
          c.from-3.result c.from-4.result q.narrow_far q.narrow_y c.from-3.ensures c.from-4.ensures,
    )
    (mixed_kept c.args.own c.args.x c.args.far c.args.y q.narrow_own q.narrow_x q.narrow_far q.narrow_y)

pub returns-clause-within : goal.returns-clause-within
returns-clause-within c =
    let q = c.requires in
    rw (returns-clause-value c) (mixed_small c.args.own c.args.x c.args.far c.args.y q.narrow_own q.narrow_x q.narrow_far q.narrow_y)

pub overflow_mul-first : goal.overflow_mul-first
overflow_mul-first c = product_fits c.args.own c.args.x c.from.result c.from-2.result c.requires.narrow_own c.requires.narrow_x c.from.ensures c.from-2.ensures

pub overflow_mul-second : goal.overflow_mul-second
overflow_mul-second c = product_fits c.args.far c.args.y c.from-3.result c.from-4.result c.requires.narrow_far c.requires.narrow_y c.from-3.ensures c.from-4.ensures
