use Rattle.std.proofs.{Common.{Bor, String, arith}, lemmas.Result.{err_from_is_err_and}}
use Rattle.std.specs.{BTreeMap.{BTreeMap}, declared.alloc.Global.{Global}}
use Rattle.toml.specs.{Data.{Members}, View.{table_view, view}, declared.value.Value.{Value}}
use Rattle.gs_file.specs.Tables.{table_in}
use Rattle.gs_file.proofs.Loop.{breaks_off, grows, is_done}
use Rattle.gs_file.proofs.lists.each_table.Goals as goal

-- the members of a table
abbrev seen : Bor (BTreeMap (String Global) Value) → Members
seen t = table_view t.now

pub loop-item-preserved : goal.loop-item-preserved
loop-item-preserved c =
    grows seen (λ n. table_in c.args.place) view c.args.items.now c.loop-item.item-index c.loop-item.tables.items c.in_ok-table.table c.item-item.result
    c.item-item.result c.loop-item.invariant c.loop-item-test.true c.item-item.is c.in_ok-table.ensures c.in_ok-push.ensures.items

pub returns : goal.returns
returns c = is_done (λ n. table_in c.args.place) view c.args.items.now c.loop-item.item-index _ c.loop-item.invariant c.loop-item-test.false

pub returns-in_err-table : goal.returns-in_err-table
returns-in_err-table c =
    let e = err_from_is_err_and c.from_residual.result c.from_residual.ensures.1 in
    rw (e.1, e.2) (breaks_off (λ n. table_in c.args.place) view c.args.items.now c.loop-item.item-index _ c.loop-item.invariant
    c.item-item.result c.item-item.result c.loop-item-test.true c.item-item.is _ c.in_err-table.ensures)

pub loop-item-init : goal.loop-item-init
loop-item-init c = grind arith
