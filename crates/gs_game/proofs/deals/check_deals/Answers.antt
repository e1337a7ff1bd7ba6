use Rattle.std.proofs.{lemmas.Grind.{common_steps}, Common.{◌≡◌, List, map, sum, ap, ◌∙◌, arith}, lemmas.Result.{err_from_is_err_and}}
use Rattle.gs_game.specs.{Games.{round_rules}, declared.game.Round.{Round}, Sequences.{deal_sizes}}
use Rattle.gs_game.proofs.DealChecks.{cards_pass, sizes_few, copies_few, weight_over, weight_within, counts_fault, counts_within}
use Rattle.gs_game.proofs.deals.check_deals.Goals as goal

pub draws-weight-requires-clause-few : goal.draws-weight-requires-clause-few
draws-weight-requires-clause-few c =
    let deck = c.counts-counts.ensures.deck in
    let most = copies_few c.args.game.now.deck.counts (omega (arith, deck.counted, deck.few)) deck.copies in
    let copies : c.all_copies.result ≡ sum c.args.game.now.deck.counts = c.all_copies.ensures ∙ ap sum c.counts-counts.ensures.counts in
    omega (arith, most, copies)

pub draws-weight-requires-clause-small : goal.draws-weight-requires-clause-small
draws-weight-requires-clause-small c = rw (c.deref-2.ensures.value, c.in_ok-sizes.ensures, c.deref.ensures.value)
    (sizes_few c.args.game.now.rounds.items c.requires.cards)

pub draws-weight-requires-clause-fits : goal.draws-weight-requires-clause-fits
draws-weight-requires-clause-fits c =
    rw (c.deref-2.ensures.value, c.in_ok-sizes.ensures, c.deref.ensures.value) ((cards_pass c.args.game.now c.requires.cards c.requires.checked).fits)

pub returns-then-weight-gt67108864 : goal.returns-then-weight-gt67108864
returns-then-weight-gt67108864 c =
    let sizes = c.deref-2.ensures.value ∙ c.in_ok-sizes.ensures ∙ ap (λ (rs : List Round). deal_sizes (map round_rules rs)) c.deref.ensures.value in
    weight_over c.args.game.now c.all_copies.result c.draws-weight.result c.deref-2.result.now (c.all_copies.ensures ∙ ap sum c.counts-counts.ensures.counts)
    sizes c.draws-weight.ensures.ways c.if-weight-gt67108864.true

pub check_counts-requires-clause-few : goal.check_counts-requires-clause-few
check_counts-requires-clause-few c = (cards_pass c.args.game.now c.requires.cards c.requires.checked).few

pub returns-in_err-count : goal.returns-in_err-count
returns-in_err-count c =
    let p = err_from_is_err_and c.from_residual-in_err-count.result c.from_residual-in_err-count.ensures.1 in
    let sizes = c.deref-2.ensures.value ∙ c.in_ok-sizes.ensures ∙ ap (λ (rs : List Round). deal_sizes (map round_rules rs)) c.deref.ensures.value in
    let weight = weight_within c.args.game.now c.all_copies.result c.draws-weight.result c.deref-2.result.now
    (c.all_copies.ensures ∙ ap sum c.counts-counts.ensures.counts) sizes c.draws-weight.ensures.ways c.if-weight-gt67108864.false in
    rw (p.1, p.2) (counts_fault c.args.game.now c.in_err-count.field-0.0 weight.passes c.in_err-count.ensures)

pub returns : goal.returns
returns c =
    let sizes = c.deref-2.ensures.value ∙ c.in_ok-sizes.ensures ∙ ap (λ (rs : List Round). deal_sizes (map round_rules rs)) c.deref.ensures.value in
    let weight = weight_within c.args.game.now c.all_copies.result c.draws-weight.result c.deref-2.result.now
    (c.all_copies.ensures ∙ ap sum c.counts-counts.ensures.counts) sizes c.draws-weight.ensures.ways c.if-weight-gt67108864.false in
    (counts_within c.args.game.now weight.passes c.in_ok-count.ensures.0, weight.weighs, c.in_ok-count.ensures.1, c.counts-counts.ensures.deck)

pub check_counts-requires-clause-weight : goal.check_counts-requires-clause-weight
check_counts-requires-clause-weight c = grind (arith, common_steps)

pub all_copies-requires : goal.all_copies-requires
all_copies-requires c = grind arith

pub check_counts-requires-clause-sizes : goal.check_counts-requires-clause-sizes
check_counts-requires-clause-sizes c = grind arith

pub check_counts-requires-clause-left : goal.check_counts-requires-clause-left
check_counts-requires-clause-left c = grind arith
