use Rattle.std.proofs.Common.{◌≡◌, ◌<◌, ℕ, None, ap, arith, sym, ◌∙◌, subst, Option}
use Rattle.std.specs.Prelude.{unwrap_or}
use Rattle.gs_model.specs.Frame.{frame_of, last_round, signal_count}
use Rattle.gs_model.proofs.{Ranges.{signal_count_is}, Walked.{last_round_of}}
use Rattle.gs_tree.specs.Trees.{rules_of}
use Rattle.gs_lossless.specs.{Scans.{IsFirstApart}, Stops.{MatchUnlike}, declared.aspects.Aspect.TheVariants.{Children}}
use Rattle.gs_lossless.proofs.Scanned.{children_from, end_in, unlike_from}
use Rattle.gs_lossless.proofs.checking.unlike_in.Goals as goal

pub count-requires-clause-in_range : goal.count-requires-clause-in_range
count-requires-clause-in_range c = omega (arith, c.requires.top, last_round_of (rules_of c.args.grouped.now.signals.now))

pub returns-then-round-rounds : goal.returns-then-round-rounds
returns-then-round-rounds c =
    let g = rules_of c.args.grouped.now.signals.now in
    let f = frame_of g in
    let last : c.args.round ≡ last_round f = c.if-round-rounds.true ∙ c.rounds.ensures.value ∙ sym (last_round_of g) in
    unlike_from f c.args.grouped.now.classes.now.lists c.args.round c.requires.some c.in_ok-apart.apart None c.in_ok-apart.ensures
    (λ before. absurd (omega (arith, before, last)))

pub first_apart-requires : goal.first_apart-requires
first_apart-requires c = record {
  aspect = (c.requires.some, omega (arith, c.requires.top, c.if-round-rounds.false, c.rounds.ensures.value, last_round_of (rules_of c.args.grouped.now.signals.now)));
  within = let g = rules_of c.args.grouped.now.signals.now in
      let in' = end_in (frame_of g) c.args.grouped.now.classes.now.lists c.args.round _ c.in_ok-apart.apart c.in_ok-apart.ensures in
      let all = signal_count_is g c.args.round c.requires.some (omega (arith, c.requires.top, last_round_of g)) in
      omega (arith, in', all, c.unwrap_or-end.ensures, ap (unwrap_or c.in_ok-apart.apart) (c.count.ensures.value ∙ sym all));
}

pub returns : goal.returns
returns c =
    let g = rules_of c.args.grouped.now.signals.now in
    let f = frame_of g in
    let lists = c.args.grouped.now.classes.now.lists in
    let apart = c.in_ok-apart.apart in
    let before : c.args.round < last_round f = omega (arith, c.requires.top, c.if-round-rounds.false, c.rounds.ensures.value, last_round_of g) in
    let end : c.unwrap_or-end.result ≡ unwrap_or apart (signal_count f c.args.round) = c.unwrap_or-end.ensures
    ∙ ap (unwrap_or apart) (c.count.ensures.value ∙ sym (signal_count_is g c.args.round c.requires.some (omega (arith, before, last_round_of g)))) in
    let children = children_from f lists c.args.round _ c.in_ok-before.before before
    (subst (λ (n : ℕ). IsFirstApart f lists Children c.args.round n c.in_ok-before.before) end c.in_ok-before.ensures) in
    subst (λ (r : Option ℕ). MatchUnlike f lists c.args.round r) (sym c.or.ensures)
    (unlike_from f lists c.args.round c.requires.some apart c.in_ok-before.before c.in_ok-apart.ensures children)
