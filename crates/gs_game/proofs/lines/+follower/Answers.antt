use Rattle.std.proofs.{Common.{◌≡◌, ◌-◌, ◌∙◌, ap, List, length, take, drop, arith}, lemmas.Grind.{common_steps}}
use Rattle.gs_model.specs.Betting.{Bet, act}
use Rattle.gs_bet.specs.{TreeView.{plain, plain_moves}, declared.shape.Act.{out-Act}}
use Rattle.gs_bet.proofs.TreeLaws.{plain-act, plain_act-out}
use Rattle.gs_game.specs.{Games.{plain_trees}, declared.game.Round.{Round}}
use Rattle.gs_game.proofs.{EvenRounds.{behind_first, first_follows, moves_follow}, RoundSteps.{split_first, split_number}, Sizes.{steps_of, steps_in}}
use Rattle.gs_game.proofs.lines.+follower.Goals as goal

pub follow_from-numbers_in-requires : goal.follow_from-numbers_in-requires
follow_from-numbers_in-requires t c =
    let e = split_first c.first-item.result c.args.rounds.now c.in-len1-up.len_at_least c.first-item.is in
    let h = behind_first (plain c.first-item.result.tree.tree) (plain_trees (take (length c.args.rounds.now - 1) (drop 1 c.args.rounds.now)))
    c.args.before.points c.args.before.ends (rw e at c.requires) in
    record { evens = h.evens; points = h.points_in_them; ends = h.ends_in_them }

pub follow_from-follow_below-requires : goal.follow_from-follow_below-requires
follow_from-follow_below-requires t c =
    let e = split_first c.first-item.result c.args.rounds.now c.in-len1-up.len_at_least c.first-item.is in
    let steps = ap (λ (rs : List Round). steps_in (plain_trees rs)) e in (
      omega (arith, steps, c.decreases),
      (
        c.numbers_in.ensures.points,
        (
          c.numbers_in.ensures.ends,
          first_follows (plain c.first-item.result.tree.tree) (plain_trees (take (length c.args.rounds.now - 1) (drop 1 c.args.rounds.now)))
              c.args.before.points c.args.before.ends (rw e at c.requires),
        ),
      ),
    )

pub follow_below-follow_act-requires : goal.follow_below-follow_act-requires
follow_below-follow_act-requires t c =
    let is_act : plain c.args.tree.now ≡ act (out-Act c.in-Act.act).player (plain_moves (out-Act c.in-Act.act).moves.items) = rw c.in-Act.is
    (plain-act c.in-Act.act ∙ plain_act-out c.in-Act.act) in
    let steps = ap (λ (b : Bet). steps_of (steps_in (plain_trees c.args.rest.now)) b) is_act in (
      omega (arith, steps, c.decreases),
      (
        c.requires.points,
        (
          c.requires.ends,
          moves_follow (plain_trees c.args.rest.now) (out-Act c.in-Act.act).player c.args.before.points c.args.before.ends
              (plain_moves (out-Act c.in-Act.act).moves.items) (rw is_act at c.requires.room),
        ),
      ),
    )

pub follow_below-returns-in-len1-up : goal.follow_below-returns-in-len1-up
follow_below-returns-in-len1-up t c =
    let is_act : plain c.args.tree.now ≡ act (out-Act c.in-Act.act).player (plain_moves (out-Act c.in-Act.act).moves.items) = rw c.in-Act.is
    (plain-act c.in-Act.act ∙ plain_act-out c.in-Act.act) in
    rw (is_act, split_number c.args.text.now c.in-len1-up.len_at_least) c.follow_act.ensures

pub follow_act-loop-next-preserved : goal.follow_act-loop-next-preserved
follow_act-loop-next-preserved t c = grind (arith, common_steps)

pub follow_act-overflow_add-before-in-loop-next : goal.follow_act-overflow_add-before-in-loop-next
follow_act-overflow_add-before-in-loop-next t c = grind (arith, common_steps)

pub follow_act-overflow_add-before : goal.follow_act-overflow_add-before
follow_act-overflow_add-before t c = grind (arith, common_steps)

pub follow_act-follow_below-requires : goal.follow_act-follow_below-requires
follow_act-follow_below-requires t c = grind (arith, common_steps)

pub follow_from-returns-in-47 : goal.follow_from-returns-in-47
follow_from-returns-in-47 t c = grind (arith, common_steps)

pub follow_act-numbers_below-below-requires-clause-ends : goal.follow_act-numbers_below-below-requires-clause-ends
follow_act-numbers_below-below-requires-clause-ends t c = grind (arith, common_steps)

pub follow_act-numbers_below-below-requires-clause-points : goal.follow_act-numbers_below-below-requires-clause-points
follow_act-numbers_below-below-requires-clause-points t c = grind (arith, common_steps)

pub follow_act-returns-then-next-letter : goal.follow_act-returns-then-next-letter
follow_act-returns-then-next-letter t c = grind (arith, common_steps)

pub follow_below-bounds-text-0 : goal.follow_below-bounds-text-0
follow_below-bounds-text-0 t c = grind arith

pub follow_from-slice_bounds-text-count : goal.follow_from-slice_bounds-text-count
follow_from-slice_bounds-text-count t c = grind arith

pub follow_from-slice_bounds-text-start : goal.follow_from-slice_bounds-text-start
follow_from-slice_bounds-text-start t c = grind arith

pub follow_from-bounds-text-0 : goal.follow_from-bounds-text-0
follow_from-bounds-text-0 t c = grind arith

pub follow_act-returns : goal.follow_act-returns
follow_act-returns t c = grind (arith, common_steps)

pub follow_from-returns-in_default-2 : goal.follow_from-returns-in_default-2
follow_from-returns-in_default-2 t c = grind arith

pub follow_from-returns-in-empty : goal.follow_from-returns-in-empty
follow_from-returns-in-empty t c = grind (arith, common_steps)
