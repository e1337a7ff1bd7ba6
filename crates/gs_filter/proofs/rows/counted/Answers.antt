use Rattle.std.proofs.{Common.{◌+◌, length, arith, ap}, lemmas.Grind.{common_steps}}
use Rattle.gs_filter.proofs.RowLaws.{round_read, length-rows}
use Rattle.gs_filter.proofs.rows.counted.Goals as goal

pub overflow_cast-len : goal.overflow_cast-len
overflow_cast-len c =
    let e = ap length (round_read c.args.lists.now c.loop-list.list-index c.list-item.result (omega arith) c.list-item.is) in
    let s = c.requires.short (c.loop-list.list-index + 1) (omega arith) (omega (arith, length-rows c.args.lists.now)) in
    omega (arith, c.list-item.result.ok.0)

pub loop-list-preserved : goal.loop-list-preserved
loop-list-preserved c = grind (arith, common_steps)
