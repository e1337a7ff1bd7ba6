-- A valid game has enough cards for its deals, so after each round there is a way to go on.
use Rattle.std.proofs.Common.{◌≡◌, ℕ, ◌+◌, ◌-◌, ◌*◌, ◌<◌, ◌≤◌, List, [], ◌∷◌, ◌++◌, take, drop, sum, refl, sym, ap, ◌∙◌, arith, inl, inr, nat_lt}
use Rattle.std.proofs.{lemmas.Bool.{cases_Bool, ltb-false}, lemmas.List.{take-append-drop}, lemmas.List.Sums.{sum_by-append, sum_by-cons}}
use Rattle.std.specs.Prelude.{Some, None}
use Rattle.gs_model.specs.{Cards.{choose}, Game.{Game, Round}}
use Rattle.gs_model.proofs.{Basics.{product_positive}, Fits.{choose-some}}
use Rattle.gs_game.specs.{GoingOn.{cards_shown, own_cards_of, ways_on}, Money.{first_of}, Sequences.{deal_sizes, draws, privates, seen_sizes}}
use Rattle.gs_game.specs.Refusals.{betting_refusal, card_refusal, copies_refusal, deal_refusal, first_refusal, not_enough_cards, own_card_total}
use Rattle.gs_game.specs.Refusals.{private_refusal, public_card_total, ranking_refusal, rounds_refusal}
use Rattle.gs_game.proofs.Evenly.{neither}

pub some_draws : (n : ℕ) (ks : List ℕ) → sum ks ≤ n → 0 < draws n ks
some_draws n [] h = omega arith
some_draws n (k ∷ ks) h =
    let c = sum_by-cons (λ (x : ℕ). x) k ks in
    product_positive (choose n k) (draws (n - k) ks) (choose-some n k (omega (arith, h, c))) (some_draws (n - k) ks (omega (arith, h, c)))

pub seen_sum : (rs : List Round) → sum (seen_sizes rs) ≡ cards_shown rs
seen_sum [] = refl
seen_sum (r ∷ rs) = omega (
  arith,
  seen_sum rs,
  sum_by-cons (λ (x : ℕ). x) r.private (r.public ∷ seen_sizes rs),
  sum_by-cons (λ (x : ℕ). x) r.public (seen_sizes rs),
)

pub own_sum : (rs : List Round) → sum (privates rs) ≡ own_cards_of rs
own_sum [] = refl
own_sum (r ∷ rs) = omega (arith, own_sum rs, sum_by-cons (λ (x : ℕ). x) r.private (privates rs))

-- the cards of a deal over some rounds
pub all_cards : (rs : List Round) → 2 * own_card_total rs + public_card_total rs ≡ cards_shown rs + own_cards_of rs
all_cards [] = refl
all_cards (r ∷ rs) = omega (arith, all_cards rs, sum_by-cons (λ (r : Round). r.private) r rs, sum_by-cons (λ (r : Round). r.public) r rs)

shown_append : (rs qs : List Round) → cards_shown (rs ++ qs) ≡ cards_shown rs + cards_shown qs
shown_append [] qs = omega arith
shown_append (r ∷ rs) qs = omega (arith, shown_append rs qs)

own_append : (rs qs : List Round) → own_cards_of (rs ++ qs) ≡ own_cards_of rs + own_cards_of qs
own_append [] qs = omega arith
own_append (r ∷ rs) qs = omega (arith, own_append rs qs)

cards_enough : (g : Game) → copies_refusal g ≡ None → 2 * own_card_total g.rounds + public_card_total g.rounds ≤ sum g.copies
unfolding copies_refusal
cards_enough g h =
    let need = 2 * own_card_total g.rounds + public_card_total g.rounds in
    elim (cases_Bool (nat_lt (sum g.copies) need)) [
      | inl short ↦ absurd (let k : Some (not_enough_cards need (sum g.copies)) ≡ None = sym (rw short refl) ∙ h in cc)
      | inr enough ↦ ltb-false (sum g.copies) need enough
    ]

no_short : (g : Game) → first_refusal g ≡ None → copies_refusal g ≡ None
unfolding first_refusal card_refusal
no_short g h =
    let cards = (neither (card_refusal g) (first_of (betting_refusal g) (deal_refusal g)) h).0 in
    let one = neither (rounds_refusal g) (first_of (private_refusal g) (first_of (ranking_refusal g) (copies_refusal g))) cards in
    let two = neither (private_refusal g) (first_of (ranking_refusal g) (copies_refusal g)) one.1 in
    (neither (ranking_refusal g) (copies_refusal g) two.1).1

pub some_ways : (g : Game) (round : ℕ) → first_refusal g ≡ None → 0 < ways_on g round
some_ways g round h =
    let rs = take round g.rounds in
    let qs = drop round g.rounds in
    let both : rs ++ qs ≡ g.rounds = take-append-drop round g.rounds in
    let shown = ap cards_shown (sym both) ∙ shown_append rs qs in
    let own = ap own_cards_of (sym both) ∙ own_append rs qs in
    let dealt = sum_by-append (λ (x : ℕ). x) (seen_sizes qs) (privates qs) in
    let enough = cards_enough g (no_short g h) in
    some_draws (sum g.copies - cards_shown rs - own_cards_of rs) (deal_sizes qs)
    (omega (arith, shown, own, dealt, enough, all_cards g.rounds, seen_sum qs, own_sum qs))
