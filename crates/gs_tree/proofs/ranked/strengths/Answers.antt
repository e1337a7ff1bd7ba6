use Rattle.std.proofs.{lemmas.Grind.{common_steps}, Common.{◌≡◌, [], ◌<◌, ℕ, List, length, sym, ◌∙◌, subst, arith}, lemmas.List.Elements.{All-push}}
use Rattle.std.specs.Prelude.{All}
use Rattle.gs_card.specs.Rankings.{ranking_of}
use Rattle.gs_rank.specs.Hands.{IsStrength}
use Rattle.gs_game.specs.Games.{game_of}
use Rattle.gs_model.specs.{Game.{Game, round_count}, Signals.{Signal, signals}, ViewTree.{signal_strength}}
use Rattle.gs_tree.proofs.{Parts.{hands_counted, paths_long}, Pushed.{mapped_more}}
use Rattle.gs_tree.proofs.ranked.strengths.Goals as goal

pub loop-signal-preserved : goal.loop-signal-preserved
loop-signal-preserved c =
    let g : Game = game_of c.args.valid.now.game in
    let k = c.args.hands.now in
    let ss : List Signal = signals g (round_count g) in
    let long : length k.paths ≡ length ss = paths_long g (round_count g) k.paths k.owns.items k.publics.items k.own k.public c.requires.hands in
    let here : c.loop-signal.signal < length ss = omega (arith, long, c.len-count.ensures, c.loop-signal-test.true) in
    let P : List ℕ → Type 0 = λ x. All (IsStrength (ranking_of c.args.valid.now.game.ranking)) x in
    record {
      value = c.in_ok-push.ensures.items ∙ mapped_more (signal_strength g) [] c.loop-signal.found.items ss c.loop-signal.signal [] c.strength_of.result here
          c.loop-signal.invariant.value c.strength_of.ensures.value;
      within = subst P (sym c.in_ok-push.ensures.items) (All-push (IsStrength (ranking_of c.args.valid.now.game.ranking)) c.loop-signal.found.items
          c.strength_of.result c.loop-signal.invariant.within c.strength_of.ensures.within);
    }

pub returns : goal.returns
returns c = grind (arith, common_steps)

pub overflow_cast-count : goal.overflow_cast-count
overflow_cast-count c = grind (arith, common_steps)

pub loop-signal-init : goal.loop-signal-init
loop-signal-init c = grind arith

pub strength_of-requires : goal.strength_of-requires
strength_of-requires c = record {
  deck = grind arith;
  hands = grind arith;
  signal_in = omega (
    arith,
    hands_counted (game_of c.args.valid.now.game) c.args.hands.now c.len-count.result c.requires.hands c.len-count.ensures,
    c.loop-signal-test.true,
  );
}
