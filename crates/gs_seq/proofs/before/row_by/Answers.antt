use Rattle.gs_seq.proofs.{SlotLaws.{over}, Stopped.{row_fits, row_is, same_signals, ways_few}, before.row_by.Goals.{After-deref, Start}}
use Rattle.gs_model.proofs.Walked.{last_round_of}
use Rattle.std.proofs.{Common.{◌≡◌, ◌*◌, ◌<◌, ◌≤◌, sum_by, length, ap, sym, ◌∙◌, subst, arith}, Math.Nat.{mul-le-mul_right}}
use Rattle.std.proofs.lemmas.List.Sums.{count_by-le-length}
use Rattle.std.specs.Prelude.{◌==◌}
use Rattle.gs_lossless.specs.{Amounts.{AreAmounts}, declared.parts.Part.{Part}, declared.aspects.Aspect.TheVariants.{Deals}}
use Rattle.gs_lossless.proofs.{Descent.{list_long}, Settled.{if_ok}, AspectOf.{as_asked}}
use Rattle.gs_model.specs.{Classes.{list_of}, Game.{round_count}, Signals.{signals}}
use Rattle.gs_tree.specs.Trees.{rules_of}
use Rattle.gs_seq.specs.{Games.{frame_in}, Rows.{IsRow, gathered}}
use Rattle.gs_seq.proofs.before.row_by.Goals as goal

top : (c : Start) → c.args.at.now.round ≤ round_count (rules_of c.args.at.now.lossless.now.signals.now)
top c = omega (arith, c.args.at.now.before_last)

-- the sums of the first member
amounts : (c : After-deref) → AreAmounts (frame_in c.args.at.now.stopped.now.game.now) c.args.at.now.seen.now.lists Deals c.args.at.now.round
    c.first-first.result c.deref.result.now
amounts c =
    subst (AreAmounts (frame_in c.args.at.now.stopped.now.game.now) c.args.at.now.seen.now.lists Deals c.args.at.now.round c.first-first.result)
    (sym c.deref.ensures.value)
    (as_asked (λ s k a m. AreAmounts (frame_in s.game.now) k.lists a m c.first-first.result c.in_ok-sums.sums.items) c.requires.signals c.requires.classes
    c.requires.aspect c.in_ok-sums.ensures)

pub sums-requires : goal.sums-requires
sums-requires c =
    let few = top (goal.at.sums-requires c).Start in
    let same = ap length (same_signals c.args.at.now.lossless.now.signals.now.game.now c.args.at.now.stopped.now.game.now c.args.at.now.round c.args.at.now.some few
    c.args.at.now.stops) in
    as_asked (λ s k a m. c.first-first.result < length (signals (rules_of s) m)) (sym c.requires.signals) (sym c.requires.classes)
    (sym c.requires.aspect.0, sym c.requires.aspect.1) (omega (
      arith,
      c.first-first.ensures.within,
      list_long (rules_of c.args.at.now.lossless.now.signals.now) c.args.at.now.lossless.now.classes.now c.args.at.now.lossless.now.parents
          c.args.at.now.round c.args.at.now.some few,
      same,
    ))

pub overflow_mul-from : goal.overflow_mul-from
overflow_mul-from c =
    let g = c.args.at.now.lossless.now.signals.now.game.now in
    let round = c.args.at.now.round in
    let within = top (goal.at.overflow_mul-from c).Start in
    let few = ways_few g c.args.at.now.stopped.now.game.now round c.args.at.now.some within c.args.at.now.stops in
    let long = list_long (rules_of c.args.at.now.lossless.now.signals.now) c.args.at.now.lossless.now.classes.now c.args.at.now.lossless.now.parents round c.args.at.now.some within in
    let most = count_by-le-length (λ x. x == c.args.class) (list_of c.args.at.now.lossless.now.classes.now.lists round) in
    let size : c.from.result ≤ 200000 = omega (arith, c.from.ensures, c.size.ensures, most, long, g.limits.signals_in round within) in
    omega (arith, mul-le-mul_right c.args.ways size, few, c.requires.ways)

pub row_of-requires : goal.row_of-requires
row_of-requires c =
    let at = goal.at.row_of-requires c in
    let sums = c.deref.result.now in
    let fits = row_fits c.args.at.now.lossless.now.signals.now.game.now c.args.at.now.stopped.now.game.now c.args.at.now.round c.args.at.now.some
    (top at.Start) c.args.at.now.stops c.args.at.now.before_last c.args.at.now.lossless.now.classes.now c.args.at.now.lossless.now.parents
    c.args.at.now.lossless.now.lossless c.args.at.now.seen.now.lists c.args.at.now.same c.args.class c.first-first.result c.from.result
    (c.from.ensures ∙ c.size.ensures) sums (amounts at.After-deref) c.first-first.ensures.within
    c.first-first.ensures.member in
    omega (arith, fits, ap (λ n. (c.from.result * n) * sum_by (λ (p : Part). p.weight) sums) c.requires.ways)

pub returns : goal.returns
returns c =
    let at = goal.at.returns c in
    let f = frame_in c.args.at.now.lossless.now.signals.now.game.now in
    let lists = c.args.at.now.lossless.now.classes.now.lists in
    let sums = c.deref.result.now in
    let row = row_is c.args.at.now.lossless.now.signals.now.game.now c.args.at.now.stopped.now.game.now c.args.at.now.round c.args.at.now.some
    (top at.Start) c.args.at.now.stops c.args.at.now.before_last c.args.at.now.lossless.now.classes.now c.args.at.now.lossless.now.parents
    c.args.at.now.lossless.now.lossless c.args.at.now.seen.now.lists c.args.at.now.same c.args.class c.first-first.result c.from.result
    (c.from.ensures ∙ c.size.ensures) sums (amounts at.After-deref) c.first-first.ensures.within
    c.first-first.ensures.member in
    let here = subst (λ n. IsRow f lists c.args.at.now.round c.args.class (gathered (c.from.result * n) sums)) (sym c.requires.ways) row in
    if_ok c.row_of.result (λ v. v.items ≡ gathered (c.from.result * c.args.ways) sums) (λ v. IsRow f lists c.args.at.now.round c.args.class v.items)
    (λ v e. subst (IsRow f lists c.args.at.now.round c.args.class) (sym e) here) c.row_of.ensures

pub size-requires-clause-top : goal.size-requires-clause-top
size-requires-clause-top c =
    omega (
      arith,
      c.args.at.now.before_last,
      last_round_of (rules_of c.args.at.now.lossless.now.signals.now),
      (over (frame_in c.args.at.now.lossless.now.signals.now.game.now) c.args.at.now.lossless.now.classes.now c.args.at.now.lossless.now.parents).rounds,
    )

pub first-first-requires-clause-top : goal.first-first-requires-clause-top
first-first-requires-clause-top c =
    omega (
      arith,
      c.args.at.now.before_last,
      last_round_of (rules_of c.args.at.now.lossless.now.signals.now),
      (over (frame_in c.args.at.now.lossless.now.signals.now.game.now) c.args.at.now.lossless.now.classes.now c.args.at.now.lossless.now.parents).rounds,
    )

pub size-requires-clause-some : goal.size-requires-clause-some
size-requires-clause-some c = grind arith

pub size-requires-clause-class : goal.size-requires-clause-class
size-requires-clause-class c = grind arith
