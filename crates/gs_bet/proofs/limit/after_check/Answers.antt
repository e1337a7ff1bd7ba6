use Rattle.std.proofs.Common.{◌≡◌, ◌-◌, ◌<◌, ◌≤◌, ◌∙◌, ℕ, zero, suc, ap, arith, refl}
use Rattle.gs_model.specs.Betting.{act, even, move, none}
use Rattle.gs_bet.specs.{Limit.{behind_check, facing_bet}, MoveLists.{push_move}, TreeView.{plain, plain_moves}, declared.shape.Tree.TheVariants.{Even}}
use Rattle.gs_bet.proofs.TreeLaws.{plain-even}
use Rattle.gs_bet.proofs.limit.after_check.Goals as goal
use Rattle.gs_bet.proofs.limit.after_check.Goals.{then-cap-gt0+in_ok-against+in_ok-add-2, else-cap-gt0}

with_bet : (bet cap : ℕ) → 0 < cap → act 2 (move 107 0 even (move 98 bet (facing_bet bet (cap - 1) 1) none)) ≡ behind_check bet cap
with_bet bet zero some = absurd (omega arith)
with_bet bet (suc left) some =
    let e : suc left - 1 ≡ left = omega arith in ap (λ k. act 2 (move 107 0 even (move 98 bet (facing_bet bet k 1) none))) e

without : (bet cap : ℕ) → cap ≤ 0 → act 2 (move 107 0 even none) ≡ behind_check bet cap
without bet zero none_left = refl
without bet (suc left) none_left = absurd (omega arith)

pub returns : goal.returns
returns c =
    let check : plain_moves c.add.new.moves.items ≡ move 107 0 even none = c.in_ok-add.ensures
    ∙ ap (λ ms. push_move (plain_moves ms) 107 0 (plain Even)) c.new-moves.ensures.items ∙ ap (λ t. move 107 0 t none) plain-even in
    elim c.if-cap-gt0.branch [
      | then-cap-gt0+in_ok-against+in_ok-add-2 w ↦
          c.choice.ensures ∙ ap (λ v. act 2 (plain_moves v.items)) w.moves-is
          ∙ ap (act 2) (w.in_ok-add-2.ensures ∙ ap (λ ms. push_move ms 98 c.args.bet (plain w.in_ok-against.against)) check
          ∙ ap (λ t. move 107 0 even (move 98 c.args.bet t none)) w.in_ok-against.ensures)
          ∙ with_bet c.args.bet c.args.cap w.if-cap-gt0.true
      | else-cap-gt0 w ↦
          c.choice.ensures ∙ ap (λ v. act 2 (plain_moves v.items)) w.moves-is ∙ ap (act 2) check ∙ without c.args.bet c.args.cap w.if-cap-gt0.false
    ]
