use Rattle.std.proofs.{Common.{◌∙◌, List, Vec, ap, arith, map}, lemmas.Grind.{common_steps}, lemmas.List.{take_all}}
use Rattle.std.specs.declared.alloc.Global.{Global}
use Rattle.gs_seq.specs.{Rows.{whole_row}, declared.pair.Pair.{Pair}}
use Rattle.gs_seq.proofs.rows.wholes_in.Goals as goal

pub loop-row-preserved : goal.loop-row-preserved
loop-row-preserved c = grind (arith, common_steps)

pub returns : goal.returns
returns c =
    c.loop-row.invariant ∙ ap (λ (rs : List (Vec Pair Global)). map (λ (r : Vec Pair Global). whole_row r.items) rs)
    (take_all c.loop-row.row-index c.args.rows.now (omega (arith, c.loop-row-test.false)))

pub whole_of-requires : goal.whole_of-requires
whole_of-requires c = grind arith

pub offset_bounds-rows-row-index : goal.offset_bounds-rows-row-index
offset_bounds-rows-row-index c = omega arith
