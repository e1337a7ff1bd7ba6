use Rattle.std.proofs.Common.{◌≡◌, ◌++◌, map, drop, take}
use Rattle.std.specs.Prelude.{All}
use Rattle.gs_model.specs.Game.{Round}
use Rattle.gs_game.specs.{Games.{HasFewCards, round_rules}, GoingOn.{unbet}, Sequences.{seen_sizes}}
use Rattle.gs_game.proofs.stopped.stopped_rounds.Given as goal

abbrev pub invariant-loop-round : goal.invariant-loop-round
invariant-loop-round l = record {
  rounds : map round_rules l.stopped.items ≡ map (λ (r : Round). unbet r.private r.public) (map round_rules (take l.round-index l.rounds));
  sizes : seen_sizes (map round_rules l.stopped.items) ++ seen_sizes (map round_rules (drop l.round-index l.rounds)) ≡ seen_sizes (map round_rules l.rounds);
  few : All HasFewCards l.stopped.items;
}
