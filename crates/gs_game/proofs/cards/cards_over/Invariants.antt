use Rattle.std.proofs.Common.{◌≡◌, ◌≤◌, ◌+◌, ◌*◌, drop, sum_by}
use Rattle.gs_game.specs.declared.game.Round.{Round}
use Rattle.gs_game.proofs.cards.cards_over.Given as goal

abbrev pub invariant-loop-round : goal.invariant-loop-round
invariant-loop-round l = record {
  own : l.own + sum_by (λ (r : Round). r.private) (drop l.round-index l.rounds) ≡ sum_by (λ (r : Round). r.private) l.rounds;
  public : l.public + sum_by (λ (r : Round). r.public) (drop l.round-index l.rounds) ≡ sum_by (λ (r : Round). r.public) l.rounds;
  small_own : l.own ≤ 2 * l.round-index;
  small_public : l.public ≤ 3 * l.round-index;
}
