-- The tests of signals and deals.
use Rattle.std.proofs.Common.{◌≡◌, ℕ, zero, suc, ◌+◌, ◌*◌, ◌<◌, ◌≤◌, min, true, false, nat_lt, List, [], ◌∷◌, ◌++◌, map, length, take, sum, refl, sym, ap, ◌∙◌}
use Rattle.std.proofs.{Common.{inl, inr, arith, length-append}, lemmas.Bool.{cases_Bool, and_parts, leb-true, eqb-true, eqb-false, lt-ltb, le-ltb}}
use Rattle.std.proofs.{lemmas.List.Elements.{recursion_from_All, All-from_recursion}, lemmas.List.Sums.{sum_by-cons, sum_by-append, sum_by-le}}
use Rattle.std.proofs.lemmas.List.{length-map}
use Rattle.std.specs.{Prelude.{Some, None, All, ◌==◌, ◌&&◌, nat_le}, List.{AllByRecursion}}
use Rattle.gs_model.specs.{Frame.{frame_of, total_weight}, Deals.{deals}}
use Rattle.gs_model.specs.{Game.{Game as Rules, Round as RoundRules, Ranking, High, Pair, Three, round_count, round_at}, Signals.{signals}}
use Rattle.gs_card.specs.{Rankings.{ranking_of}, declared.faults.TheConstants.{MOST_KINDS}}
use Rattle.gs_model.proofs.Basics.{every-append, some-none}
use Rattle.gs_game.specs.{declared.game.Game.{Game}, declared.game.Round.{Round}, declared.faults.GameFault.{GameFault}, FaultOf.{IsFaultOf}}
use Rattle.gs_game.specs.{Games.{HasFewCards, game_of, round_rules}, Money.{first_of}, Refusals.{signals_refusal, deals_refusal, deal_refusal}}
use Rattle.gs_game.specs.Refusals.{rounds, no_private, ranking_cards, too_heavy, too_many_signals, too_many_deals, own_card_total, public_card_total, ranks}
use Rattle.gs_game.specs.Refusals.{rounds_refusal, private_refusal, ranking_refusal, copies_refusal, card_refusal, weight_refusal, signals_from}
use Rattle.gs_game.specs.Sequences.{count_sequences, draws, seen_sizes, privates, deal_sizes}
use Rattle.gs_game.proofs.{Deciding.{fault_first, fault_second}, Evenly.{neither}, Sequencing.{signals_counted, deals_counted, weight_drawn}}

seen-front : (rs : List RoundRules) (n : ℕ) (more : List ℕ) → n ≤ length rs → take (2 * n) (seen_sizes rs ++ more) ≡ seen_sizes (take n rs)
seen-front rs zero more h = refl
seen-front [] (suc n) more h = absurd (omega arith)
seen-front (r ∷ rs) (suc n) more h =
    let e : 2 * suc n ≡ suc (suc (2 * n)) = omega arith in
    rw e (ap (λ (ks : List ℕ). r.private ∷ r.public ∷ ks) (seen-front rs n more (omega arith)))

pub sizes_front : (rs : List RoundRules) (n : ℕ) → n ≤ length rs → take (2 * n) (deal_sizes rs) ≡ seen_sizes (take n rs)
sizes_front rs n h = seen-front rs n (privates rs) h

seen-length : (rs : List RoundRules) → length (seen_sizes rs) ≡ 2 * length rs
seen-length [] = refl
seen-length (r ∷ rs) = omega (arith, seen-length rs)

pub sizes_length : (rs : List RoundRules) → 2 * length rs ≤ length (deal_sizes rs)
sizes_length rs = omega (arith, length-append (seen_sizes rs) (privates rs), seen-length rs)

-- what the program counts, as far as a cap, against the signals of a round
pub record SignalsSeen (g : Rules) (n count : ℕ) : Type 0 where
  pub over : 200000 < count → nat_lt 200000 (length (signals g n)) ≡ true
  pub within : count ≤ 200000 → nat_lt 200000 (length (signals g n)) ≡ false

pub signals_seen : (game : Game) (left sizes shown : List ℕ) (n count : ℕ) → left ≡ game.deck.counts → sizes ≡ deal_sizes (map round_rules game.rounds.items)
    → shown ≡ take (2 * n) sizes
    → n ≤ length game.rounds.items → count ≡ min (count_sequences left shown) 200001 → SignalsSeen (game_of game) n count
signals_seen game left sizes shown n count l s t h c =
    let g = game_of game in
    let few : n ≤ length g.rounds = rw (length-map game.rounds.items round_rules) h in
    let front : shown ≡ seen_sizes (take n g.rounds) = t ∙ ap (take (2 * n)) s ∙ sizes_front g.rounds n few in
    let same : count_sequences left shown ≡ length (signals g n) = rw (l, front) (sym (signals_counted g n few)) in
    let counted : count ≡ min (length (signals g n)) 200001 = c ∙ ap (λ (k : ℕ). min k 200001) same in
    record {
      over = λ o. lt-ltb 200000 (length (signals g n)) (omega (arith, counted, o));
      within = λ w. le-ltb 200000 (length (signals g n)) (omega (arith, counted, w));
    }

pub signals_stop : (g : Rules) (left n : ℕ) → 0 < left → nat_lt 200000 (length (signals g n)) ≡ true → signals_from g left n ≡ Some (too_many_signals n)
signals_stop g zero n h e = absurd (omega arith)
signals_stop g (suc left) n h e = rw e refl

pub signals_go : (g : Rules) (left next n : ℕ) → left ≡ suc next → nat_lt 200000 (length (signals g n)) ≡ false
    → signals_from g next (n + 1) ≡ signals_from g left n
signals_go g left next n h e = rw (h, e) refl

-- ---- what the tests of cards leave

-- whether the tests of cards passed
pub record CardsPass (game : Game) : Type 0 where
  pub some : 1 ≤ length game.rounds.items
  pub few : length game.rounds.items ≤ 4
  pub fits : sum (deal_sizes (map round_rules game.rounds.items)) ≤ 14
  pub dealt : 0 < (round_at (game_of game) 1).private
  pub ranked : ranks (ranking_of game.ranking) (own_card_total (game_of game).rounds)
      (own_card_total (game_of game).rounds + public_card_total (game_of game).rounds) ≡ true

sizes-sum : (rs : List RoundRules) → sum (seen_sizes rs) + sum (privates rs) ≡ 2 * own_card_total rs + public_card_total rs
sizes-sum [] = refl
sizes-sum (r ∷ rs) =
    omega (
      arith,
      sum_by-cons (λ (x : ℕ). x) r.private (r.public ∷ seen_sizes rs),
      sum_by-cons (λ (x : ℕ). x) r.public (seen_sizes rs),
      sum_by-cons (λ (x : ℕ). x) r.private (privates rs),
      sum_by-cons (λ (q : RoundRules). q.private) r rs,
      sum_by-cons (λ (q : RoundRules). q.public) r rs,
      sizes-sum rs,
    )

public-most : (rs : List Round) → AllByRecursion HasFewCards rs → public_card_total (map round_rules rs) ≤ 3 * length rs
public-most [] h = omega arith
public-most (r ∷ rs) h = let few = h.0 in omega (
  arith,
  sum_by-cons (λ (q : RoundRules). q.public) (round_rules r) (map round_rules rs),
  public-most rs h.1,
  few.public,
)

rounds-pass : (g : Rules) → rounds_refusal g ≡ None → (1 ≤ length g.rounds) × (length g.rounds ≤ 4)
unfolding rounds_refusal
rounds-pass g h = elim (cases_Bool (nat_le 1 (round_count g) && nat_le (round_count g) 4)) [
  | inl e ↦ let p = and_parts (nat_le 1 (round_count g)) (nat_le (round_count g) 4) e in (leb-true 1 (round_count g) p.0, leb-true (round_count g) 4 p.1)
  | inr e ↦ absurd (some-none (rounds (round_count g)) (rw e at h))
]

private-pass : (g : Rules) → private_refusal g ≡ None → 0 < (round_at g 1).private
unfolding private_refusal
private-pass g h = elim (cases_Bool ((round_at g 1).private == 0)) [
  | inl e ↦ absurd (some-none no_private (rw e at h))
  | inr e ↦ let n = eqb-false (round_at g 1).private 0 e in omega (arith, n)
]

ranking-pass : (g : Rules) → ranking_refusal g ≡ None → ranks g.ranking (own_card_total g.rounds) (own_card_total g.rounds + public_card_total g.rounds) ≡ true
unfolding ranking_refusal
ranking-pass g h = elim (cases_Bool (ranks g.ranking (own_card_total g.rounds) (own_card_total g.rounds + public_card_total g.rounds))) [
  | inl e ↦ e
  | inr e ↦ absurd (some-none (ranking_cards (own_card_total g.rounds) (own_card_total g.rounds + public_card_total g.rounds)) (rw e at h))
]

ranked : (r : Ranking) (own public : ℕ) → ranks r own (own + public) ≡ true → public ≤ 12 → 2 * own + public ≤ 14
ranked High own public h p = let e = eqb-true own 1 h in omega (arith, e, p)
ranked Pair own public h p = let e = eqb-true own 1 h in omega (arith, e, p)
ranked Three own public h p = let e = eqb-true (own + public) 3 h in omega (arith, e, p)

pub cards_pass : (game : Game) → All HasFewCards game.rounds.items → card_refusal (game_of game) ≡ None → CardsPass game
unfolding card_refusal
cards_pass game few h =
    let g = game_of game in
    let one = neither (rounds_refusal g) (first_of (private_refusal g) (first_of (ranking_refusal g) (copies_refusal g))) h in
    let two = neither (private_refusal g) (first_of (ranking_refusal g) (copies_refusal g)) one.1 in
    let three = neither (ranking_refusal g) (copies_refusal g) two.1 in
    let long : length (map round_rules game.rounds.items) ≡ length game.rounds.items = length-map game.rounds.items round_rules in
    let r = rounds-pass g one.0 in
    let most = public-most game.rounds.items (recursion_from_All HasFewCards game.rounds.items few) in
    let ok = ranked g.ranking (own_card_total g.rounds) (public_card_total g.rounds) (ranking-pass g three.0) (omega (arith, most, r.1, long)) in
    record {
      some = omega (arith, r.0, long);
      few = omega (arith, r.1, long);
      fits = omega (arith, sum_by-append (λ (x : ℕ). x) (seen_sizes g.rounds) (privates g.rounds), sizes-sum g.rounds, ok);
      dealt = private-pass g two.0;
      ranked = ranking-pass g three.0;
    }

sizes-few : (rs : List Round) → AllByRecursion HasFewCards rs → AllByRecursion (λ k. k ≤ 3) (seen_sizes (map round_rules rs))
    × AllByRecursion (λ k. k ≤ 3) (privates (map round_rules rs))
sizes-few [] h = (tt, tt)
sizes-few (r ∷ rs) h =
    let few = h.0 in
    let rest = sizes-few rs h.1 in
    let small : r.private ≤ 3 = omega (arith, few.private) in
    ((small, (few.public, rest.0)), (small, rest.1))

pub sizes_few : (rs : List Round) → All HasFewCards rs → All (λ k. k ≤ 3) (deal_sizes (map round_rules rs))
sizes_few rs h =
    let few = sizes-few rs (recursion_from_All HasFewCards rs h) in
    All-from_recursion (λ k. k ≤ 3) (deal_sizes (map round_rules rs)) (every-append (λ k. k
    ≤ 3) (seen_sizes (map round_rules rs)) (privates (map round_rules rs)) few.0 few.1)

pub copies_few : (counts : List ℕ) → length counts ≤ MOST_KINDS → All (λ n. n ≤ 9) counts → sum counts ≤ 468
copies_few counts short h =
    let s = sum_by-le (λ (x : ℕ). x) 9 counts h in
    omega (arith, s, short)

-- ---- the refusals on deals, in order

pub weight_over : (game : Game) (copies weight : ℕ) (sizes : List ℕ) → copies ≡ sum game.deck.counts → sizes ≡ deal_sizes (map round_rules game.rounds.items)
    → weight ≡ draws copies sizes
    → 67108864 < weight → deal_refusal (game_of game) ≡ Some (too_heavy weight)
unfolding deal_refusal weight_refusal
weight_over game copies weight sizes c s w h =
    let is : total_weight (frame_of (game_of game)) ≡ weight = weight_drawn (game_of game) ∙ sym (w ∙ rw (c, s) refl) in
    rw (is, lt-ltb 67108864 weight h) refl

pub record WeightPass (game : Game) (weight : ℕ) : Type 0 where
  pub passes : weight_refusal (game_of game) ≡ None
  pub weighs : weight ≡ total_weight (frame_of (game_of game))

pub weight_within : (game : Game) (copies weight : ℕ) (sizes : List ℕ) → copies ≡ sum game.deck.counts → sizes ≡ deal_sizes (map round_rules game.rounds.items)
    → weight ≡ draws copies sizes
    → weight ≤ 67108864 → WeightPass game weight
unfolding weight_refusal
weight_within game copies weight sizes c s w h =
    let is : total_weight (frame_of (game_of game)) ≡ weight = weight_drawn (game_of game) ∙ sym (w ∙ rw (c, s) refl) in
    record { passes = rw (is, le-ltb 67108864 weight h) refl; weighs = sym is }

pub counts_fault : (game : Game) (f : GameFault) → weight_refusal (game_of game) ≡ None
    → IsFaultOf (first_of (signals_refusal (game_of game)) (deals_refusal (game_of game))) f → IsFaultOf (deal_refusal (game_of game)) f
unfolding deal_refusal
counts_fault game f w h = fault_second (weight_refusal (game_of game)) _ f w h

pub counts_within : (game : Game) → weight_refusal (game_of game) ≡ None → first_of (signals_refusal (game_of game)) (deals_refusal (game_of game)) ≡ None
    → deal_refusal (game_of game) ≡ None
unfolding deal_refusal
counts_within game w h = rw w h

pub signals_fault : (game : Game) (f : GameFault) → IsFaultOf (signals_refusal (game_of game)) f
    → IsFaultOf (first_of (signals_refusal (game_of game)) (deals_refusal (game_of game))) f
signals_fault game f h = fault_first (signals_refusal (game_of game)) (deals_refusal (game_of game)) f h

deals-same : (game : Game) (left sizes : List ℕ) (count : ℕ) → left ≡ game.deck.counts → sizes ≡ deal_sizes (map round_rules game.rounds.items)
    → count ≡ min (count_sequences left sizes) 8000001
    → count ≡ min (length (deals (game_of game))) 8000001
deals-same game left sizes count l s c = c ∙ ap (λ (k : ℕ). min k 8000001) (rw (l, s) (sym (deals_counted (game_of game))))

pub deals_over : (game : Game) (left sizes : List ℕ) (count : ℕ) → signals_refusal (game_of game) ≡ None → left ≡ game.deck.counts
    → sizes ≡ deal_sizes (map round_rules game.rounds.items)
    → count ≡ min (count_sequences left sizes) 8000001 → 8000000 < count
    → first_of (signals_refusal (game_of game)) (deals_refusal (game_of game)) ≡ Some too_many_deals
unfolding deals_refusal
deals_over game left sizes count g l s c h =
    let over : nat_lt 8000000 (length (deals (game_of game))) ≡ true = lt-ltb _ _ (omega (arith, deals-same game left sizes count l s c, h)) in
    rw (g, over) refl

pub deals_within : (game : Game) (left sizes : List ℕ) (count : ℕ) → signals_refusal (game_of game) ≡ None → left ≡ game.deck.counts
    → sizes ≡ deal_sizes (map round_rules game.rounds.items)
    → count ≡ min (count_sequences left sizes) 8000001 → count ≤ 8000000
    → (first_of (signals_refusal (game_of game)) (deals_refusal (game_of game)) ≡ None) × (count ≡ length (deals (game_of game)))
unfolding deals_refusal
deals_within game left sizes count g l s c h =
    let within : nat_lt 8000000 (length (deals (game_of game))) ≡ false = le-ltb _ _ (omega (arith, deals-same game left sizes count l s c, h)) in
    (rw (g, within) refl, omega (arith, deals-same game left sizes count l s c, h))
