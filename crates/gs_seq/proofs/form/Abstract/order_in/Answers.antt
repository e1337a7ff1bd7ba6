use Rattle.std.proofs.Common.{ap, arith}
use Rattle.gs_game.specs.Games.{game_of}
use Rattle.gs_model.specs.Game.{round_count}
use Rattle.gs_model.proofs.Walked.{last_round_of}
use Rattle.gs_tree.specs.{Trees.{rules_of}, declared.signals.Signals.{Signals}}
use Rattle.gs_seq.proofs.form.Abstract.order_in.Goals.{in_default-via-in-Some+else-round-rounds, in_default-via-in_default}
use Rattle.gs_seq.proofs.form.Abstract.order_in.Goals as goal

pub returns-in_default-clause-listed : goal.returns-in_default-clause-listed
returns-in_default-clause-listed c =
    let a = c.args.self.now in
    let g = a.lossless.now.signals.now.game.now in
    λ e. elim c.in_default.branch [
      | in_default-via-in-Some+else-round-rounds w ↦ omega (
        arith,
        c.requires,
        w.if-round-rounds.false,
        w.rounds.ensures.value,
        ap (λ (x : Signals). round_count (rules_of x)) w.signals.ensures.held,
        last_round_of (game_of g.game),
        a.paired.fewest,
      )
      | in_default-via-in_default w ↦ omega (arith, c.requires, a.listed w.in_default.is)
    ]

pub returns-in-Some : goal.returns-in-Some
returns-in-Some c = record {
  signals = grind arith;
  last = let g = c.args.self.now.lossless.now.signals.now.game.now in
      omega (
        arith,
        c.if-round-rounds.true,
        c.rounds.ensures.value,
        ap (λ (x : Signals). round_count (rules_of x)) c.signals.ensures.held,
        last_round_of
            (game_of g.game),
      );
  single = c.args.self.now.single c.in-Some.order c.in-Some.is;
  listed = grind arith;
}
