use Rattle.std.proofs.Common.{Bor, String, ◌+◌, ap, ◌∙◌, rules}
use Rattle.std.proofs.lemmas.Result.{err_from_is_err_and}
use Rattle.std.specs.{BTreeMap.{BTreeMap}, declared.alloc.Global.{Global}}
use Rattle.toml.specs.{Data.{Members}, View.{table_view}, declared.value.Value.{Value}}
use Rattle.gs_file.specs.{Reading.{round_table_at}, Views.{round_view}}
use Rattle.gs_file.proofs.Loop.{breaks_off, grows, is_done}
use Rattle.gs_file.proofs.rounds.rounds_of.Goals as goal

-- the members of a table
abbrev seen : Bor (BTreeMap (String Global) Value) → Members
seen t = table_view t.now

pub loop-index-preserved : goal.loop-index-preserved
loop-index-preserved c = record {
  so_far = grows round_view (round_table_at c.args.form) seen c.args.tables.now c.loop-index.index c.loop-index.rounds.items c.in_ok-round.round
      c.index-tables-index.result c.index-tables-index.result c.loop-index.invariant.so_far c.loop-index-test.true c.index-tables-index.is
      c.in_ok-round.ensures c.in_ok-push.ensures.items;
  count = c.in_ok-push.ensures.len ∙ ap (λ k. k + 1) c.loop-index.invariant.count;
}

pub returns-clause-gives : goal.returns-clause-gives
returns-clause-gives c =
    is_done (round_table_at c.args.form) seen c.args.tables.now c.loop-index.index _ c.loop-index.invariant.so_far c.loop-index-test.false

pub returns-clause-few : goal.returns-clause-few
returns-clause-few c = search rules

pub returns-in_err-round-clause-gives : goal.returns-in_err-round-clause-gives
returns-in_err-round-clause-gives c =
    let e = err_from_is_err_and c.from_residual.result c.from_residual.ensures.1 in
    rw (e.1, e.2) (breaks_off (round_table_at c.args.form) seen c.args.tables.now c.loop-index.index _ c.loop-index.invariant.so_far
    c.index-tables-index.result c.index-tables-index.result c.loop-index-test.true c.index-tables-index.is _ c.in_err-round.ensures)
