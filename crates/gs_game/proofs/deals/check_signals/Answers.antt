use Rattle.std.proofs.{Common.{◌≡◌, ◌+◌, ◌-◌, ◌*◌, ℕ, length, map, take, refl, sym, ap, ◌∙◌, arith, rules}, lemmas.List.{length-map, length-take-le}}
use Rattle.gs_game.specs.{Games.{game_of, round_rules}, Refusals.{signals_from, signals_refusal}}
use Rattle.gs_game.proofs.DealChecks.{sizes_length, signals_seen, signals_stop, signals_go}
use Rattle.gs_game.proofs.deals.check_signals.Goals as goal

pub slice_bounds-shown-end : goal.slice_bounds-shown-end
slice_bounds-shown-end c =
    let len : c.len-round-end.result ≡ length c.args.game.now.rounds.items = search rules in
    let long = sizes_length (map round_rules c.args.game.now.rounds.items) in
    let same = length-map c.args.game.now.rounds.items round_rules in
    let sizes = ap length c.requires.sizes in
    sym (length-take-le (2 * (c.loop-round.round + 1)) c.args.sizes.now (omega (arith, long, same, sizes, len)))

pub returns-then-count_sequences-gt200000-clause-refusal : goal.returns-then-count_sequences-gt200000-clause-refusal
unfolding signals_refusal
returns-then-count_sequences-gt200000-clause-refusal c =
    let len : c.len-round-end.result ≡ length c.args.game.now.rounds.items = search rules in
    let seen = signals_seen c.args.game.now c.loop-round.left c.args.sizes.now (take (2 * (c.loop-round.round + 1)) c.args.sizes.now)
    (c.loop-round.round + 1) c.count_sequences.result
    (c.loop-round.invariant.kept ∙ c.requires.left) c.requires.sizes refl (omega arith) c.count_sequences.ensures.count in
    ap (λ (n : ℕ). signals_from (game_of c.args.game.now) n 1) (length-map c.args.game.now.rounds.items round_rules) ∙ sym c.loop-round.invariant.rest
    ∙ signals_stop (game_of c.args.game.now) (length c.args.game.now.rounds.items - c.loop-round.round) (c.loop-round.round + 1) (omega arith)
    (seen.over c.if-count_sequences-gt200000.true)

pub loop-round-preserved : goal.loop-round-preserved
loop-round-preserved c =
    let len : c.len-round-end.result ≡ length c.args.game.now.rounds.items = search rules in
    let seen = signals_seen c.args.game.now c.loop-round.left c.args.sizes.now (take (2 * (c.loop-round.round + 1)) c.args.sizes.now)
    (c.loop-round.round + 1) c.count_sequences.result
    (c.loop-round.invariant.kept ∙ c.requires.left) c.requires.sizes refl (omega arith) c.count_sequences.ensures.count in
    record {
      rest = signals_go (game_of c.args.game.now) (length c.args.game.now.rounds.items - c.loop-round.round)
          (length c.args.game.now.rounds.items - (c.loop-round.round + 1)) (c.loop-round.round + 1)
          (omega arith) (seen.within c.if-count_sequences-gt200000.false) ∙ c.loop-round.invariant.rest;
      kept = c.count_sequences.ensures.kept ∙ c.loop-round.invariant.kept;
    }
