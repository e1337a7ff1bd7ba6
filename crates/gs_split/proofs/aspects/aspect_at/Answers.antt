use Rattle.std.proofs.Common.{◌≡◌, ◌<◌, arith}
use Rattle.gs_model.specs.Frame.{frame_of, last_round}
use Rattle.gs_model.proofs.Walked.{last_round_of}
use Rattle.gs_tree.specs.Trees.{rules_of}
use Rattle.gs_split.proofs.Agreed.{numbers_of_children, numbers_of_deals}
use Rattle.gs_split.proofs.aspects.aspect_at.Goals as goal

pub returns-then-round-rounds : goal.returns-then-round-rounds
returns-then-round-rounds c = record {
  aspect = (
    c.requires.some,
    omega (arith, c.if-round-rounds.true, c.rounds.ensures.value, last_round_of (rules_of c.args.signals.now)),
  );
  turn = let f = frame_of (rules_of c.args.signals.now) in
      let before : c.args.round < last_round f = omega (arith, c.if-round-rounds.true, c.rounds.ensures.value, last_round_of (rules_of c.args.signals.now)) in
      λ lists numbers h. numbers_of_children f lists c.args.round numbers before h;
}

pub returns-else-round-rounds : goal.returns-else-round-rounds
returns-else-round-rounds c = record {
  aspect = (c.requires.some, c.requires.top);
  turn = let f = frame_of (rules_of c.args.signals.now) in
      let last : c.args.round ≡ last_round f = omega (
        arith,
        c.if-round-rounds.false,
        c.rounds.ensures.value,
        last_round_of (rules_of c.args.signals.now),
        c.requires.top,
      ) in
      λ lists numbers h. numbers_of_deals f lists c.args.round numbers last h;
}
