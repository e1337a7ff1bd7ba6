-- What the program's betting trees are to the definitions: an act, a fold, and an act that is made of its moves.
use Rattle.std.proofs.Common.{◌≡◌, ℕ, List, [], ◌∷◌, refl, ◌∙◌, ap, map}
use Rattle.std.specs.Global.{Vec}
use Rattle.gs_bet.specs.{declared.shape.Tree.{fold_out-Tree}, declared.shape.Tree.TheVariants.{Act, Even, Fold, outs-Act, outs-Even, outs-Fold}}
use Rattle.gs_bet.specs.declared.shape.Act.{Act as Choice, fold_out-Act, fold-roll-Act, roll-Act, out-Act}
use Rattle.gs_bet.specs.declared.shape.Move.{Move, fold-Move, fold_out-Move}
use Rattle.gs_bet.specs.TreeView.{plain, plain_act, plain_moves, moves_of_list, tree_step, act_step, move_step, PlainMove}
use Rattle.gs_model.specs.Betting.{Bet, act, even, fold}

pub plain-act : (a : Choice) → plain (Act a) ≡ plain_act a
plain-act a = fold_out-Tree Bet Bet PlainMove tree_step act_step move_step (Act a) ∙ rw (outs-Act a) refl

pub plain-fold : plain Fold ≡ fold
plain-fold = fold_out-Tree Bet Bet PlainMove tree_step act_step move_step Fold ∙ rw outs-Fold refl

pub plain-even : plain Even ≡ even
plain-even = fold_out-Tree Bet Bet PlainMove tree_step act_step move_step Even ∙ rw outs-Even refl

same_moves : (ms : List Move) → moves_of_list (map (fold-Move Bet Bet PlainMove tree_step act_step move_step) ms) ≡ plain_moves ms
same_moves [] = refl
same_moves (m ∷ ms) = cc (fold_out-Move Bet Bet PlainMove tree_step act_step move_step m, same_moves ms)

pub plain_act-out : (a : Choice) → plain_act a ≡ act (out-Act a).player (plain_moves (out-Act a).moves.items)
plain_act-out a = fold_out-Act Bet Bet PlainMove tree_step act_step move_step a ∙ ap (act (out-Act a).player) (same_moves (out-Act a).moves.items)

pub plain-made : (p : ℕ) (ms : Vec Move) → plain (Act (roll-Act record { player = p; moves = ms })) ≡ act p (plain_moves ms.items)
plain-made p ms = plain-act (roll-Act record { player = p; moves = ms })
    ∙ fold-roll-Act Bet Bet PlainMove tree_step act_step move_step record { player = p; moves = ms } ∙ ap (act p) (same_moves ms.items)
