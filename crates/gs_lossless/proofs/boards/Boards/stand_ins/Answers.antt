use Rattle.std.proofs.{Common.{ℕ, List}, lemmas.Result.{IfOk-weaker}}
use Rattle.std.specs.Global.{Vec}
use Rattle.gs_model.specs.Game.{Game}
use Rattle.gs_tree.specs.Trees.{rules_of}
use Rattle.gs_lossless.specs.{Alike.{AreStandIns}, Firsts.{AreFirsts}}
use Rattle.gs_lossless.proofs.Items.{firsts_stand}
use Rattle.gs_lossless.proofs.boards.Boards.stand_ins.Goals as goal

pub returns : goal.returns
returns c =
    let g : Game = rules_of c.args.self.now.signals.now in
    let keys : List ℕ = c.args.keys.now in
    let marks : List ℕ = c.in_ok-marks.marks.items in
    IfOk-weaker c.first_items.result (λ (v : Vec ℕ). AreFirsts marks v.items) (λ (v : Vec ℕ). AreStandIns g keys v.items)
    (λ v h. firsts_stand g keys marks v.items c.in_ok-marks.ensures h) c.first_items.ensures
