use Rattle.std.proofs.{Common.{◌≡◌, ◌-◌, ◌++◌, ◌∷◌, [], ◌∙◌, ℕ, ap, List, length, take, drop, arith}, lemmas.Grind.{common_steps}}
use Rattle.std.specs.{Prelude.{encode_utf8}, String.{string_bytes}}
use Rattle.gs_model.specs.Betting.{Bet, act, even}
use Rattle.gs_bet.specs.{TreeView.{plain, plain_moves}, declared.shape.Act.{out-Act}}
use Rattle.gs_bet.proofs.TreeLaws.{plain-act, plain-even, plain_act-out}
use Rattle.gs_game.specs.{Games.{plain_trees}, Lines.{lines_from}, Seen.{target_of}, declared.game.Round.{Round}}
use Rattle.gs_game.proofs.EvenRounds.{behind_first, even_follows, first_follows, move_follows}
use Rattle.gs_game.proofs.LineWriting.{among_act, among_rest, act_text, act_room, others_room, text_here, text_further, small_letter}
use Rattle.gs_game.proofs.{MoneyLaws.{sound_act, sound_move, tree_sound}, RoundSteps.{split_first}, Sizes.{steps_of, steps_in}, TreeSteps.{moves_step}}
use Rattle.gs_game.proofs.line_texts.+writer.Goals as goal

pub push_from-numbers_in-requires : goal.push_from-numbers_in-requires
push_from-numbers_in-requires t c =
    let e = split_first c.first-item.result c.args.rounds.now c.in-len1-up.len_at_least c.first-item.is in
    let h = behind_first (plain c.first-item.result.tree.tree) (plain_trees (take (length c.args.rounds.now - 1) (drop 1 c.args.rounds.now))) 0 0
    (rw e at c.requires.room) in
    record { evens = h.evens; points = h.points_in_them; ends = h.ends_in_them }

pub push_from-push_below-requires : goal.push_from-push_below-requires
push_from-push_below-requires t c =
    let e = split_first c.first-item.result c.args.rounds.now c.in-len1-up.len_at_least c.first-item.is in
    let steps = ap (λ (rs : List Round). steps_in (plain_trees rs)) e in (
      omega (arith, steps, c.decreases),
      (
        c.numbers_in.ensures.points,
        (
          c.numbers_in.ensures.ends,
          (
            first_follows (plain c.first-item.result.tree.tree) (plain_trees (take (length c.args.rounds.now - 1) (drop 1 c.args.rounds.now))) 0 0
                (rw e at c.requires.room),
            (
              (16, tree_sound (plain c.first-item.result.tree.tree) c.first-item.result.tree.sound),
              rw (c.numbers_in.ensures.points, c.numbers_in.ensures.ends) (rw e at c.requires.within),
            ),
          ),
        ),
      ),
    )

pub push_below-push_act-requires : goal.push_below-push_act-requires
push_below-push_act-requires t c =
    let is_act : plain c.args.tree.now ≡ act (out-Act c.in-Act.act).player (plain_moves (out-Act c.in-Act.act).moves.items) = rw c.in-Act.is
    (plain-act c.in-Act.act ∙ plain_act-out c.in-Act.act) in
    let steps = ap (λ (b : Bet). steps_of (steps_in (plain_trees c.args.rest.now)) b) is_act in
    let s = sound_act c.requires.sound.0 (out-Act c.in-Act.act).player (plain_moves (out-Act c.in-Act.act).moves.items) (rw is_act at c.requires.sound.1) in (
      omega (arith, steps, c.decreases),
      (
        c.requires.points,
        (
          c.requires.ends,
          (
            act_room (plain_trees c.args.rest.now) (out-Act c.in-Act.act).player (plain_moves (out-Act c.in-Act.act).moves.items)
                (rw is_act at c.requires.room),
            ((s.0, s.2), among_act _ _ (target_of c.args.at) _ (rw is_act at c.requires.within) c.in-Some.ensures),
          ),
        ),
      ),
    )

pub push_below-returns-in-Some : goal.push_below-returns-in-Some
push_below-returns-in-Some t c =
    let is_act : plain c.args.tree.now ≡ act (out-Act c.in-Act.act).player (plain_moves (out-Act c.in-Act.act).moves.items) = rw c.in-Act.is
    (plain-act c.in-Act.act ∙ plain_act-out c.in-Act.act) in
    let same = act_text (lines_from (plain_trees c.args.rest.now)) (string_bytes c.args.out.now) (out-Act c.in-Act.act).player
    (plain_moves (out-Act c.in-Act.act).moves.items) (target_of c.args.at) _ c.in-Some.ensures in
    rw (is_act, same) c.push_act.ensures

pub push_act-push_below-requires : goal.push_act-push_below-requires
push_act-push_below-requires t c =
    let step = moves_step c.deref-next-items.result.now c.loop-next.next-index c.next-item.result c.loop-next-test.true c.next-item.is in
    let fallen = rw step at c.loop-next.invariant.falls in
    let sound = sound_move c.loop-next.invariant.sound.0 c.next-item.result.letter c.next-item.result.chips (plain c.next-item.result.next) _
    (rw step at c.loop-next.invariant.sound.1) in (
      omega (arith, fallen, c.decreases),
      (
        c.requires.points,
        (
          c.requires.ends,
          (
            move_follows (plain_trees c.args.rest.now) 0 0 c.next-item.result.letter c.next-item.result.chips
                (plain c.next-item.result.next) _ _ c.loop-next.invariant.room step,
            ((c.loop-next.invariant.sound.0, sound.next), rw (c.numbers_below.ensures.points, c.numbers_below.ensures.ends) at c.in_default.ensures),
          ),
        ),
      ),
    )

pub push_act-returns-in_default : goal.push_act-returns-in_default
push_act-returns-in_default t c =
    let step = moves_step c.deref-next-items.result.now c.loop-next.next-index c.next-item.result c.loop-next-test.true c.next-item.is in
    let small = small_letter c.loop-next.invariant.sound.0 c.next-item.result.letter c.next-item.result.chips (plain c.next-item.result.next) _
    (rw step at c.loop-next.invariant.sound.1) in
    let byte : encode_utf8 c.from.result ≡ c.next-item.result.letter ∷ [] = c.in_ok-push.ensures.ascii (omega (arith, small, c.from.ensures))
    ∙ ap (λ (k : ℕ). k ∷ []) c.from.ensures in
    let pushed : string_bytes c.push.new.self ≡ string_bytes c.args.out.now ++ c.next-item.result.letter ∷ [] =
    c.in_ok-push.ensures.bytes ∙ ap (λ (x : List ℕ). string_bytes c.loop-next.out ++ x) byte
    ∙ ap (λ (x : List ℕ). x ++ c.next-item.result.letter ∷ []) c.loop-next.invariant.out in
    let here = text_here c.args.rest.now (string_bytes c.args.out.now) c.next-item.result.letter c.next-item.result.chips c.args.more.points c.args.more.ends
    (plain c.next-item.result.next) _ _ (target_of c.loop-next.at)
    c.requires.points c.requires.ends step (rw (c.numbers_below.ensures.points, c.numbers_below.ensures.ends) at c.in_default.ensures) in
    rw (c.loop-next.invariant.same ∙ here) (rw pushed at c.push_below.ensures)

pub push_act-loop-next-preserved : goal.push_act-loop-next-preserved
push_act-loop-next-preserved t c =
    let step = moves_step c.deref-next-items.result.now c.loop-next.next-index c.next-item.result c.loop-next-test.true c.next-item.is in
    let fallen = rw step at c.loop-next.invariant.falls in
    let sound = sound_move c.loop-next.invariant.sound.0 c.next-item.result.letter c.next-item.result.chips (plain c.next-item.result.next) _
    (rw step at c.loop-next.invariant.sound.1) in
    let past = rw (c.numbers_below.ensures.points, c.numbers_below.ensures.ends) at c.in-Some.ensures in
    record {
      same = c.loop-next.invariant.same ∙ text_further c.args.rest.now (string_bytes c.args.out.now) c.next-item.result.letter c.next-item.result.chips
          c.args.more.points c.args.more.ends (plain c.next-item.result.next) _ _
          (target_of c.loop-next.at) (target_of c.in-Some.further) c.requires.points c.requires.ends step past;
      out = c.loop-next.invariant.out;
      within = among_rest _ _ _ _ (target_of c.loop-next.at) (target_of c.in-Some.further) (rw step at c.loop-next.invariant.within) past;
      room = others_room (plain_trees c.args.rest.now) c.next-item.result.letter c.next-item.result.chips
          (plain c.next-item.result.next) _ _ c.loop-next.invariant.room step;
      sound = (c.loop-next.invariant.sound.0, sound.others);
      falls = omega (arith, fallen);
    }

pub push_act-loop-next-init : goal.push_act-loop-next-init
push_act-loop-next-init t c = grind (arith, common_steps)

pub push_act-returns : goal.push_act-returns
push_act-returns t c = grind (arith, common_steps)

pub push_act-numbers_below-requires-clause-ends : goal.push_act-numbers_below-requires-clause-ends
push_act-numbers_below-requires-clause-ends t c = grind (arith, common_steps)

pub push_act-numbers_below-requires-clause-points : goal.push_act-numbers_below-requires-clause-points
push_act-numbers_below-requires-clause-points t c = grind (arith, common_steps)

pub push_from-returns-in_ok-push-in-len1-up : goal.push_from-returns-in_ok-push-in-len1-up
push_from-returns-in_ok-push-in-len1-up t c = grind (arith, common_steps)

pub push_from-returns-in-empty : goal.push_from-returns-in-empty
push_from-returns-in-empty t c = grind (arith, common_steps)

pub push_below-push_from-requires : goal.push_below-push_from-requires
push_below-push_from-requires t c =
    let ts : List Bet = plain_trees c.args.rest.now in
    let e : plain c.args.tree.now ≡ even = ap plain c.in-Even.is ∙ plain-even in (
      omega (arith, ap (steps_of (steps_in ts)) e, c.decreases),
      (even_follows ts 0 0 (rw e at c.requires.room), rw (c.requires.points, c.requires.ends) at (rw e at c.requires.within)),
    )

pub push_act-loop-next-smaller : goal.push_act-loop-next-smaller
push_act-loop-next-smaller t c = omega arith
