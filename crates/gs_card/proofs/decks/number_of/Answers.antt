use Rattle.std.proofs.{Common.{◌≡◌, ◌/◌, ◌%◌, length, Some, None, sym, ◌∙◌, ap, arith}, lemmas.Grind.{common_steps}}
use Rattle.gs_card.proofs.KindLaws.{some_suits, place_of_rank, place_of_suit, letters_of_places, number_of_places}
use Rattle.gs_card.proofs.decks.number_of.Goals as goal

pub returns-in_err-row-clause-all : goal.returns-in_err-row-clause-all
returns-in_err-row-clause-all c = λ n h.
    let e : None ≡ Some (n / length c.args.suits.now) = sym c.in_err-row.was ∙ c.place_of.ensures ∙ place_of_rank _ _ _ _ n c.requires.ranks_differ h in
    absurd (cc)

pub returns-in_err-column-clause-all : goal.returns-in_err-column-clause-all
returns-in_err-column-clause-all c = λ n h.
    let e : None ≡ Some (n % length c.args.suits.now) = sym c.in_err-column.was ∙ c.place_of-2.ensures ∙ place_of_suit _ _ _ _ n c.requires.suits_differ h in
    absurd (cc)

pub returns-clause-found : goal.returns-clause-found
returns-clause-found c = letters_of_places _ _ _ _ c.in_ok-row.row c.in_ok-column.column (sym c.in_ok-row.ensures) (sym c.in_ok-column.ensures)

pub returns-clause-all : goal.returns-clause-all
returns-clause-all c = λ n h.
    let e : Some c.in_ok-row.row ≡ Some (n / length c.args.suits.now) = c.in_ok-row.ensures ∙ place_of_rank _ _ _ _ n c.requires.ranks_differ h in
    let f : Some c.in_ok-column.column ≡ Some (n % length c.args.suits.now) = c.in_ok-column.ensures ∙ place_of_suit _ _ _ _ n c.requires.suits_differ h in
    ap Some (number_of_places (length c.args.suits.now) _ _ n (some_suits _ _ n h.of_deck) (cc) (cc))

pub overflow_cast-result : goal.overflow_cast-result
overflow_cast-result c = grind (arith, common_steps)

pub overflow_mul-result : goal.overflow_mul-result
overflow_mul-result c = grind (arith, common_steps)

pub overflow_add-result : goal.overflow_add-result
overflow_add-result c = grind (arith, common_steps)

pub returns-in_err-column-clause-found : goal.returns-in_err-column-clause-found
returns-in_err-column-clause-found c = grind arith
