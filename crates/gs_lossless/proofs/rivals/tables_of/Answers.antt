use Rattle.std.proofs.lemmas.Grind.{common_steps}
use Rattle.std.proofs.{Common.{arith, ◌∙◌, List, ap, subst, sym}, lemmas.List.Elements.{All-push}}
use Rattle.std.specs.{Global.{Vec}, List.{All}}
use Rattle.gs_tree.specs.Trees.{rules_of}
use Rattle.gs_lossless.specs.{Rivals.{IsRivalTable}, declared.rivals.RivalTable.{RivalTable}}
use Rattle.gs_lossless.proofs.rivals.tables_of.Goals as goal
use Rattle.gs_lossless.proofs.rivals.tables_of.Goals.{then-first-signal+in_ok-table+in_ok-push, else-first-signal}

pub loop-signal-preserved : goal.loop-signal-preserved
loop-signal-preserved c =
    let P : RivalTable → Type 0 = IsRivalTable (rules_of c.args.signals.now) c.args.keys.now in
    let old : List RivalTable = c.loop-signal.tables.items in
    elim c.if-first-signal.branch [
      | then-first-signal+in_ok-table+in_ok-push w ↦
          subst (All P) (sym (ap (λ (v : Vec RivalTable). v.items) w.tables-is ∙ w.in_ok-push.ensures.items))
          (All-push P old w.in_ok-table.table c.loop-signal.invariant w.in_ok-table.ensures)
      | else-first-signal w ↦ subst (All P) (sym (ap (λ (v : Vec RivalTable). v.items) w.tables-is)) c.loop-signal.invariant
    ]

pub table_at-requires : goal.table_at-requires
table_at-requires c = grind (arith, common_steps)

pub returns : goal.returns
returns c = grind (arith, common_steps)
