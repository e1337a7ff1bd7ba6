use Rattle.gs_bet.specs.TreeView.{plain}
use Rattle.gs_file.proofs.Trees.{reads_tree, reads_fault}
use Rattle.gs_file.proofs.build.tree_of_text.Goals as goal

pub returns-in-Ok : goal.returns-in-Ok
returns-in-Ok c = reads_tree c.args.round c.args.text.now (plain c.in-Ok.tree.tree) c.in-Ok.tree.sound c.in-Ok.ensures.found

pub returns-in-Err-Fault : goal.returns-in-Err-Fault
returns-in-Err-Fault c = reads_fault c.args.round c.args.text.now c.in-Err-Fault.fault (rw c.in-Err-Fault.field-0-is at c.in-Err-Fault.ensures.only)
    (rw c.in-Err-Fault.field-0-is at c.in-Err-Fault.ensures.fault)
