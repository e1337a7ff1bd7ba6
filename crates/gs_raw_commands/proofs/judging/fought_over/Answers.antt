use Rattle.std.proofs.Common.{◌≡◌, ◌≤◌, ◌++◌, List, map, length, inl, sym, ap, ◌∙◌, subst, arith}
use Rattle.gs_card.specs.Decks.{DeckValue}
use Rattle.gs_file.specs.Reading.{FileGame, file_rules as rules_in}
use Rattle.gs_frac.specs.declared.value.Fraction.{Fraction}
use Rattle.gs_game.specs.{Games.{game_of}, declared.valid.ValidGame.{ValidGame}}
use Rattle.gs_model.specs.{Frame.{Frame, frame_of as frame}, Game.{Game}}
use Rattle.gs_model.proofs.Ranges.{signal_count_is}
use Rattle.gs_raw.specs.Cells.{raw_cell_count}
use Rattle.gs_reply.specs.{Replies.{Prints}, VerdictText.{verdict_text}}
use Rattle.gs_seq.specs.{Games.{frame_in}, Plans.{IsPlanOf}}
use Rattle.gs_strategy.specs.{Values.{FractionParts}, Views.{numbers_of, parts_of, stored_view}}
use Rattle.gs_tree.specs.Trees.{deck_of, rules_of}
use Rattle.gs_raw_commands.specs.Judging.{AreHandValues, hands_text}
use Rattle.gs_raw_commands.proofs.{Judged.{are_hands, are_judged}, TooMany.{too_many}}
use Rattle.gs_raw_commands.proofs.judging.fought_over.Goals as goal

pub invariant_of-facing : goal.invariant_of-facing
invariant_of-facing c =
    let x = c.args.one.now in
    let y = c.args.two.now in
    let held = c.requires.game in
    let frames : frame_in c.args.signals.now.game.now ≡ frame_in y.game = ap frame_in held ∙ ap (λ (v : FileGame). frame (rules_in v)) c.requires.same in
    record {
      first_parents = subst (λ (g : ValidGame). x.classes.parents ≡ (frame_in g).parents) (sym held) x.parents;
      second_parents = y.parents ∙ ap (λ (h : Frame). h.parents) (sym frames);
      one_plan = subst (λ (g : ValidGame). IsPlanOf (frame_in g) x.classes.lists 1 x.one) (sym held) x.first;
      two_plan = subst (λ (h : Frame). IsPlanOf h y.classes.lists 2 y.two) (sym frames) y.second;
    }

pub push_hands-requires : goal.push_hands-requires
push_hands-requires c =
    let s = c.args.signals.now in
    let n = signal_count_is (rules_of s) 1 (omega arith) s.game.now.limits.some_round in
    omega (arith, n, c.in-Ok.ensures.hands.long, ap (λ (l : List Fraction). length l) c.deref.ensures.value)

pub returns-in_ok-push_hands-in-Ok : goal.returns-in_ok-push_hands-in-Ok
returns-in_ok-push_hands-in-Ok c =
    let x = c.args.one.now in
    let y = c.args.two.now in
    let s = c.args.signals.now in
    let f = frame_in s.game.now in
    let v = c.in-Ok.duel.verdict in
    let hands : List FractionParts = map parts_of c.in-Ok.duel.hands.items in
    let first : f ≡ frame_in x.game = ap frame_in c.requires.game in
    let second : f ≡ frame_in y.game = first ∙ ap (λ (v : FileGame). frame (rules_in v)) c.requires.same in
    let deck : deck_of s ≡ x.game.game.deck = ap (λ (v : ValidGame). v.game.deck) c.requires.game in
    let rules : rules_of s ≡ game_of x.game.game = ap (λ (v : ValidGame). game_of v.game) c.requires.game in
    let lines : hands_text (deck_of s) (rules_of s) hands ≡ hands_text x.game.game.deck (game_of x.game.game) hands =
    ap (λ (d : DeckValue). hands_text d (rules_of s) hands) deck ∙ ap (λ (g : Game). hands_text x.game.game.deck g hands) rules in
    inl (
      subst (λ (g : ValidGame). raw_cell_count (frame_in g) ≤ 16777216) c.requires.game c.in-Ok.ensures.small,
      (
        numbers_of v,
        are_judged f x y v first second c.in-Ok.ensures.verdict,
        (
          hands,
          are_hands f x y c.in-Ok.duel.hands.items first second c.in-Ok.ensures.hands,
          ap Prints (c.in_ok-push_hands-in-Ok.ensures ∙ ap (λ (l : List Fraction). c.in_ok-text-in-Ok.text.items
              ++ hands_text (deck_of s) (rules_of s) (map parts_of l)) c.deref.ensures.value
              ∙ ap (λ t. t ++ hands_text (deck_of s) (rules_of s) hands) c.in_ok-text-in-Ok.ensures ∙ ap (λ t. verdict_text (numbers_of v) ++ t) lines),
        ),
      ),
    )

pub returns-in-Err-TooManyCells : goal.returns-in-Err-TooManyCells
returns-in-Err-TooManyCells c =
    let x = stored_view c.args.one.now in
    let y = stored_view c.args.two.now in
    let f = frame_in c.args.signals.now.game.now in
    rw c.in-Err-TooManyCells.field-0-is (too_many f x y (λ n reply. (hands : List FractionParts) × AreHandValues x y hands
    × (reply ≡ Prints (verdict_text n ++ hands_text x.game.deck (rules_in x.game) hands))) c.in-Err-TooManyCells.count c.in-Err-TooManyCells.field-0
    (ap frame_in c.requires.game) c.in-Err-TooManyCells.field-0-is c.in-Err-TooManyCells.ensures.refused)
