use Rattle.std.proofs.lemmas.Grind.{common_steps}
use Rattle.std.proofs.Common.{◌≡◌, ◌+◌, ℕ, suc, subst, arith}
use Rattle.gs_model.specs.Game.{Game, round_count}
use Rattle.gs_game.specs.Games.{game_of}
use Rattle.gs_tree.specs.Kept.{AreHands}
use Rattle.gs_tree.proofs.Rounds.{no_hands}
use Rattle.gs_tree.proofs.kept.gather.Goals as goal

pub loop-round-init : goal.loop-round-init
loop-round-init c = no_hands (game_of c.args.valid.now.game) c.in_ok-paths.paths c.new-owns.result.items c.new-publics.result.items c.in_ok-paths.ensures
    c.new-owns.ensures.items c.new-publics.ensures.items

pub loop-round-preserved : goal.loop-round-preserved
loop-round-preserved c =
    let h = c.in_ok-hands.hands in
    let next : suc c.loop-round.round ≡ c.loop-round.round + 1 = omega arith in
    let P : ℕ → Type 0 = λ n. AreHands (game_of c.args.valid.now.game) n h in
    subst P next c.in_ok-hands.ensures

pub returns : goal.returns
returns c =
    let h = c.loop-round.hands in
    let g : Game = game_of c.args.valid.now.game in
    let done : c.loop-round.round ≡ round_count g = omega
    (arith, c.len-round-end.ensures, c.args.tables.now.layers.ok.0, c.requires.all, c.loop-round.auto.round-end, c.loop-round-test.false) in
    let P : ℕ → Type 0 = λ n. AreHands g n h in
    subst P done c.loop-round.invariant

pub next_hands-requires : goal.next_hands-requires
next_hands-requires c = grind (arith, common_steps)
