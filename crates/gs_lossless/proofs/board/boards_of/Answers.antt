use Rattle.std.proofs.lemmas.Grind.{common_steps}
use Rattle.std.proofs.{Common.{arith, ◌∙◌, List, ap, subst, sym}, lemmas.List.Elements.{All-push}}
use Rattle.std.specs.{Global.{Vec}, List.{All}}
use Rattle.gs_tree.specs.Trees.{rules_of}
use Rattle.gs_lossless.specs.{Boards.{IsBoard}, declared.board.Board.{Board}}
use Rattle.gs_lossless.proofs.board.boards_of.Goals as goal
use Rattle.gs_lossless.proofs.board.boards_of.Goals.{then-first-signal+in_ok-board+in_ok-push, else-first-signal}

pub loop-signal-preserved : goal.loop-signal-preserved
loop-signal-preserved c =
    let P : Board → Type 0 = IsBoard (rules_of c.args.signals.now) c.args.by_rank in
    let old : List Board = c.loop-signal.boards.items in
    elim c.if-first-signal.branch [
      | then-first-signal+in_ok-board+in_ok-push w ↦
          subst (All P) (sym (ap (λ (v : Vec Board). v.items) w.boards-is ∙ w.in_ok-push.ensures.items))
          (All-push P old w.in_ok-board.board c.loop-signal.invariant w.in_ok-board.ensures)
      | else-first-signal w ↦ subst (All P) (sym (ap (λ (v : Vec Board). v.items) w.boards-is)) c.loop-signal.invariant
    ]

pub board_of-requires : goal.board_of-requires
board_of-requires c = grind (arith, common_steps)
