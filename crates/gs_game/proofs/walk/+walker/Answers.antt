use Rattle.std.proofs.{Common.{◌≡◌, ◌∙◌, refl, ap, sym, subst, length, length-append, ◌+◌, arith}, lemmas.Grind.{common_steps}}
use Rattle.std.specs.Prelude.{IfOk}
use Rattle.gs_model.specs.{Walk.{after_move, show_end, fold_end, walk_rounds, walk_tree}, Betting.{Bet, act}}
use Rattle.gs_bet.specs.{TreeView.{plain, plain_act, plain_moves}, declared.shape.Act.{out-Act}}
use Rattle.gs_bet.proofs.TreeLaws.{plain-act, plain-fold, plain_act-out}
use Rattle.gs_game.specs.{Games.{plain_trees}, Walks.{Grows, IsWalkable, place_of}}
use Rattle.gs_game.proofs.{ActWalk.{ended, empty_list, act_begins, act_goes_on, act_ends, few_moves}, WalkRoom.{move_fits, walkable_first, walkable_moves}}
use Rattle.gs_game.proofs.{Sizes.{steps_in, steps_of}, TreeSteps.{moves_step, none_left}}
use Rattle.gs_game.proofs.walk.+walker.Goals as goal

pub walk_from-returns-in-empty : goal.walk_from-returns-in-empty
walk_from-returns-in-empty t c =
    let e = empty_list c.args.rounds.now c.in-empty.len_below in
    ended c.push_end.result _ _ _ _ _ c.shown.result (show_end
    (place_of c.args.place (length c.args.walk.now.points.items) (length c.args.walk.now.ends.items))) _
    (ap (λ v. v.items) c.push_end.ensures.points) c.push_end.ensures.ends refl
    (c.shown.ensures (length c.args.walk.now.points.items) (length c.args.walk.now.ends.items)) (rw e refl)

pub walk_below-returns-in-Fold : goal.walk_below-returns-in-Fold
walk_below-returns-in-Fold t c =
    ended c.push_end.result _ _ _ _ _ c.folded.result (fold_end
    (place_of c.args.place (length c.args.walk.now.points.items) (length c.args.walk.now.ends.items))) _
    (ap (λ v. v.items) c.push_end.ensures.points) c.push_end.ensures.ends refl
    (c.folded.ensures (length c.args.walk.now.points.items) (length c.args.walk.now.ends.items)) (rw (c.in-Fold.is, plain-fold) refl)

pub walk_act-loop-next-init : goal.walk_act-loop-next-init
walk_act-loop-next-init t c =
    let is_act : plain_act c.args.act.now ≡ act (out-Act c.args.act.now).player (plain_moves c.deref-next-items.result.now) =
    rw c.deref-next-items.ensures.value (plain_act-out c.args.act.now) in
    let walkable = rw is_act at c.requires in
    record {
      going = rw c.new-arrows.ensures.items (act_begins (plain_trees c.args.rest.now) (out-Act c.args.act.now).player
          (plain_moves c.deref-next-items.result.now) c.args.place c.args.walk.now.points.items _ _ _ c.in_ok-push.ensures.items
          (rw (c.own.ensures, c.new.ensures.items) refl) (walkable_moves (plain_trees c.args.rest.now) (out-Act c.args.act.now).player
          (plain_moves c.deref-next-items.result.now) _ walkable));
      choice = rw c.new-arrows.ensures.items refl;
      few = few_moves (plain_trees c.args.rest.now) (out-Act c.args.act.now).player c.deref-next-items.result.now _ walkable;
      falls = rw is_act (omega arith);
    }

pub walk_act-after-here-requires-clause-one : goal.walk_act-after-here-requires-clause-one
walk_act-after-here-requires-clause-one t c =
    let step = moves_step c.deref-next-items.result.now c.loop-next.next-index c.next-item.result c.loop-next-test.true c.next-item.is in
    (move_fits c.args.rest.now (out-Act c.args.act.now).player c.next-item.result.letter c.next-item.result.chips
    (plain c.next-item.result.next) _ _ _ c.loop-next.invariant.going.fits step).one_in

pub walk_act-after-here-requires-clause-two : goal.walk_act-after-here-requires-clause-two
walk_act-after-here-requires-clause-two t c =
    let step = moves_step c.deref-next-items.result.now c.loop-next.next-index c.next-item.result c.loop-next-test.true c.next-item.is in
    (move_fits c.args.rest.now (out-Act c.args.act.now).player c.next-item.result.letter c.next-item.result.chips
    (plain c.next-item.result.next) _ _ _ c.loop-next.invariant.going.fits step).two_in

pub walk_act-walk_below-requires : goal.walk_act-walk_below-requires
walk_act-walk_below-requires t c =
    let step = moves_step c.deref-next-items.result.now c.loop-next.next-index c.next-item.result c.loop-next-test.true c.next-item.is in
    let fallen = rw step at c.loop-next.invariant.falls in (
      omega (arith, fallen, c.decreases),
      walkable_first (plain_trees c.args.rest.now) (out-Act c.args.act.now).player c.len-point.result c.len-choice.result c.next-item.result.letter
          c.next-item.result.chips (plain c.next-item.result.next) _ _ _ _
          c.loop-next.invariant.going.fits step (c.after-here.ensures (length c.loop-next.walk.points.items) (length c.loop-next.walk.ends.items)),
    )

pub walk_act-loop-next-preserved : goal.walk_act-loop-next-preserved
walk_act-loop-next-preserved t c =
    let step = moves_step c.deref-next-items.result.now c.loop-next.next-index c.next-item.result c.loop-next-test.true c.next-item.is in
    let fallen = rw step at c.loop-next.invariant.falls in
    let number : c.len-point.result ≡ length c.args.walk.now.points.items = c.len-point.ensures ∙ c.args.walk.now.points.ok.0 in
    let choice : c.len-choice.result ≡ length c.loop-next.arrows.items = c.len-choice.ensures ∙ c.loop-next.arrows.ok.0 in
    let player = (out-Act c.args.act.now).player in
    let from = place_of c.args.place (length c.loop-next.walk.points.items) (length c.loop-next.walk.ends.items) in
    let here = c.after-here.ensures (length c.loop-next.walk.points.items) (length c.loop-next.walk.ends.items)
    ∙ ap (λ n. after_move player n c.len-choice.result c.next-item.result.chips from) number
    ∙ ap (λ n. after_move player (length c.args.walk.now.points.items) n c.next-item.result.chips from) choice in
    let longer : length c.push-in-loop-next.new.self.items ≡ length c.loop-next.arrows.items + 1 = ap length c.in_ok-push-2.ensures.items
    ∙ length-append c.loop-next.arrows.items _ in
    record {
      going = act_goes_on (plain_trees c.args.rest.now) (out-Act c.args.act.now).player c.next-item.result.letter c.next-item.result.chips
          (plain c.next-item.result.next) _ _ _ c.args.place c.after-here.result
          c.args.walk.now.points.items c.loop-next.walk.points.items c.walk_below.new.walk.points.items c.args.walk.now.ends.items c.loop-next.walk.ends.items
          c.walk_below.new.walk.ends.items
          c.loop-next.arrows.items c.push-in-loop-next.new.self.items c.in_ok-to.to c.loop-next.invariant.going step
          here c.in_ok-to.ensures c.in_ok-push-2.ensures.items;
      choice = longer ∙ ap (λ k. k + 1) c.loop-next.invariant.choice;
      few = c.loop-next.invariant.few;
      falls = omega (arith, fallen);
    }

pub walk_act-returns : goal.walk_act-returns
walk_act-returns t c =
    let is_act : plain_act c.args.act.now ≡ act (out-Act c.args.act.now).player (plain_moves c.deref-next-items.result.now) =
    rw c.deref-next-items.ensures.value (plain_act-out c.args.act.now) in
    let number : c.len-point.result ≡ length c.args.walk.now.points.items = c.len-point.ensures ∙ c.args.walk.now.points.ok.0 in
    rw is_act (act_ends (plain_trees c.args.rest.now) (out-Act c.args.act.now).player c.len-point.result (plain_moves c.deref-next-items.result.now) _
    c.args.place c.args.walk.now.points.items c.loop-next.walk.points.items
    c.args.walk.now.ends.items c.loop-next.walk.ends.items c.loop-next.arrows c.index_mut.result.now c.loop-next.invariant.going
    (none_left c.deref-next-items.result.now c.loop-next.next-index c.loop-next-test.false) number
    c.index_mut.ensures.value)

pub walk_act-index_mut-requires : goal.walk_act-index_mut-requires
walk_act-index_mut-requires t c = grind (arith, common_steps)

pub walk_from-walk_below-requires : goal.walk_from-walk_below-requires
walk_from-walk_below-requires t c = grind (arith, common_steps)

pub walk_from-next_round-requires : goal.walk_from-next_round-requires
walk_from-next_round-requires t c = grind arith

pub walk_act-offset_bounds-next-items-next-index : goal.walk_act-offset_bounds-next-items-next-index
walk_act-offset_bounds-next-items-next-index t c = grind arith

pub walk_act-overflow_cast-choice : goal.walk_act-overflow_cast-choice
walk_act-overflow_cast-choice t c = grind arith

pub walk_act-overflow_cast-point-2 : goal.walk_act-overflow_cast-point-2
walk_act-overflow_cast-point-2 t c = grind arith

pub walk_below-walk_act-requires : goal.walk_below-walk_act-requires
walk_below-walk_act-requires t c =
    let act = c.in-Act.act in
    let more = steps_in (plain_trees c.args.rest.now) in
    let same : plain c.args.tree.now ≡ plain_act act = ap plain c.in-Act.is ∙ plain-act act in
    let some = ap (steps_of more) (plain_act-out act) in (
      omega (arith, c.decreases, ap (steps_of more) same, some),
      subst (λ (b : Bet). IsWalkable (plain_trees c.args.rest.now) b
          (place_of c.args.place (length c.args.walk.now.points.items) (length c.args.walk.now.ends.items))) same c.requires,
    )

pub walk_act-loop-next-smaller : goal.walk_act-loop-next-smaller
walk_act-loop-next-smaller t c = omega (arith, c.loop-next-test.true)

pub walk_below-returns-in-Act : goal.walk_below-returns-in-Act
walk_below-returns-in-Act t c =
    let same : plain c.args.tree.now ≡ plain_act c.in-Act.act = ap plain c.in-Act.is ∙ plain-act c.in-Act.act in
    let walk = c.args.walk.now in
    let new = c.walk_act.new.walk in
    let start = place_of c.args.place (length walk.points.items) (length walk.ends.items) in
    subst (λ (b : Bet). IfOk c.walk_act.result (λ to. Grows walk.points.items new.points.items walk.ends.items new.ends.items to start
    (walk_tree (walk_rounds (plain_trees c.args.rest.now)) b start))) (sym same) c.walk_act.ensures

pub walk_from-returns-in-len1-up : goal.walk_from-returns-in-len1-up
walk_from-returns-in-len1-up t c = grind (arith, common_steps)
