use Rattle.std.proofs.Common.{◌≡◌, ◌-◌, ◌*◌, ◌<◌, ◌≤◌, ◌∙◌, ℕ, zero, suc, ap, arith, refl}
use Rattle.gs_model.specs.Betting.{act, even, fold, move, none}
use Rattle.gs_bet.specs.{Limit.{facing_bet}, MoveLists.{push_move}, TreeView.{plain, plain_moves}, declared.shape.Tree.TheVariants.{Even, Fold}}
use Rattle.gs_bet.proofs.TreeLaws.{plain-even, plain-fold}
use Rattle.gs_bet.proofs.limit.+against_bet.Goals as goal
use Rattle.gs_bet.proofs.limit.+against_bet.Goals.{then-left-gt0+in_ok-raised+in_ok-add-3, else-left-gt0}

with_raise : (bet left player : ℕ) → 0 < left
    → act player (move 102 0 fold (move 99 bet even (move 114 (2 * bet) (facing_bet bet (left - 1) (3 - player)) none))) ≡ facing_bet bet left player
with_raise bet zero player some = absurd (omega arith)
with_raise bet (suc left) player some =
    let e : suc left - 1 ≡ left = omega arith in
    ap (λ k. act player (move 102 0 fold (move 99 bet even (move 114 (2 * bet) (facing_bet bet k (3 - player)) none)))) e

without : (bet left player : ℕ) → left ≤ 0 → act player (move 102 0 fold (move 99 bet even none)) ≡ facing_bet bet left player
without bet zero player none_left = refl
without bet (suc left) player none_left = absurd (omega arith)

pub returns : goal.returns
returns t c =
    let bet : ℕ = c.args.bet in
    let folded : plain_moves c.add.new.moves.items ≡ move 102 0 fold none = c.in_ok-add.ensures
    ∙ ap (λ ms. push_move (plain_moves ms) 102 0 (plain Fold)) c.new-moves.ensures.items ∙ ap (λ t. move 102 0 t none) plain-fold in
    let called : plain_moves c.add-2.new.moves.items ≡ move 102 0 fold (move 99 bet even none) = c.in_ok-add-2.ensures
    ∙ ap (λ ms. push_move ms 99 bet (plain Even)) folded ∙ ap (λ t. move 102 0 fold (move 99 bet t none)) plain-even in
    elim c.if-left-gt0.branch [
      | then-left-gt0+in_ok-raised+in_ok-add-3 w ↦
          c.choice.ensures ∙ ap (λ v. act c.args.player (plain_moves v.items)) w.moves-is
          ∙ ap (act c.args.player) (w.in_ok-add-3.ensures ∙ ap (λ ms. push_move ms 114 (2 * bet) (plain w.in_ok-raised.raised)) called
          ∙ ap (λ t. move 102 0 fold (move 99 bet even (move 114 (2 * bet) t none))) w.in_ok-raised.ensures)
          ∙ with_raise bet c.args.left c.args.player w.if-left-gt0.true
      | else-left-gt0 w ↦
          c.choice.ensures ∙ ap (λ v. act c.args.player (plain_moves v.items)) w.moves-is ∙ ap (act c.args.player) called
          ∙ without bet c.args.left c.args.player w.if-left-gt0.false
    ]

pub overflow_sub-left : goal.overflow_sub-left
overflow_sub-left t c = omega arith

pub overflow_mul-bet : goal.overflow_mul-bet
overflow_mul-bet t c = omega arith
