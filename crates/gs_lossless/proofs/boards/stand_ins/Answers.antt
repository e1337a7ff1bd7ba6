use Rattle.std.proofs.Common.{◌∙◌, ap, subst, sym}
use Rattle.std.specs.Prelude.{IfOk}
use Rattle.gs_tree.specs.{Trees.{rules_of}, Walk.{last_count}, declared.signals.Signals.{Signals}}
use Rattle.gs_lossless.specs.Alike.{AreStandIns}
use Rattle.gs_lossless.proofs.boards.stand_ins.Goals as goal

pub returns : goal.returns
returns c =
    subst (λ (s : Signals). IfOk c.stand_ins.result (λ v. AreStandIns (rules_of s) c.args.keys.now v.items)) c.in_ok-boards.ensures c.stand_ins.ensures

pub stand_ins-requires : goal.stand_ins-requires
stand_ins-requires c = c.requires ∙ ap (λ (s : Signals). last_count (rules_of s)) (sym c.in_ok-boards.ensures)
