-- A game keeps the rules exactly where no refusal applies to it.
use Rattle.std.proofs.Common.{◌≡◌, ℕ, zero, suc, ◌+◌, ◌*◌, ◌<◌, ◌≤◌, ◌&&◌, ◌==◌, List, [], ◌∷◌, ◌++◌, Bool, true, false, Option, Some, None, length, sum, refl}
use Rattle.std.proofs.Common.{inl, inr, arith, nat_lt, nat_le}
use Rattle.std.proofs.lemmas.Bool.{and_from, and_parts, cases_Bool, cases_eq, eqb-false, leb-true, le-leb, ltb-false, ltb-true, ne_eqb}
use Rattle.std.specs.Prelude.{if◌then◌else◌, option_map}
use Rattle.gs_game.proofs.Evenly.{neither}
use Rattle.gs_game.specs.Money.{first_of, has_even, most_in, one_after, two_after, uneven_move, uneven_path}
use Rattle.gs_game.specs.Refusals.{Refusal, betting_refusal, card_refusal, copies_refusal, deal_refusal, deals_refusal, even_refusal, first_refusal}
use Rattle.gs_game.specs.Refusals.{lines_refusal, no_even_from, own_card_total, private_refusal, public_card_total, put_refusal, ranking_refusal, ranks}
use Rattle.gs_game.specs.Refusals.{rounds_refusal, signals_from, signals_refusal, uneven_from, uneven_refusal, weight_refusal}
use Rattle.gs_game.specs.{Refusals.{rounds, no_private, no_even, uneven, too_many_signals}, Rules.{AreLevel, EachLevel, GoOn, IsLevel, KeepsRules}}
use Rattle.gs_model.specs.{Betting.{Bet, Moves, act, fold, even, none, move}, Deals.{deals}, Frame.{frame_of, total_weight, trees_of}}
use Rattle.gs_model.specs.{Game.{Game, round_at, round_count}, Numbering.{greatest}, Signals.{signals}, Walk.{walk}}

-- ---- tests and refusals

both : {X : Type 0} (a b : Option X) → a ≡ None → b ≡ None → first_of a b ≡ None
both a b p q = rw p q

unless_true : {X : Type 0} (b : Bool) (x : X) → (if b then None else Some x) ≡ None → b ≡ true
unless_true true x e = refl
unless_true false x e = cc

unless_false : {X : Type 0} (b : Bool) (x : X) → (if b then Some x else None) ≡ None → b ≡ false
unless_false true x e = cc
unless_false false x e = refl

not_less : (a b : ℕ) → b ≤ a → nat_lt a b ≡ false
not_less a b l = elim (cases_Bool (nat_lt a b)) [
  | inl e ↦ absurd (let less = ltb-true a b e in omega arith)
  | inr e ↦ e
]

refused : (x : Refusal) → Some x ≡ None → ⊥
refused x e = cc

-- ---- even leaves

same_put : (path : List ℕ) (one two : ℕ) → (if one == two then None else Some path) ≡ None → one ≡ two
same_put path one two h = elim (cases_eq one two) [
  | inl e ↦ e
  | inr d ↦ absurd (let k = ne_eqb one two d in let bad : Some path ≡ None = rw k at h in cc)
]

put_same : (path : List ℕ) (one two : ℕ) → one ≡ two → (if one == two then None else Some path) ≡ None
put_same path one two h = elim (cases_Bool (one == two)) [
  | inl e ↦ rw e refl
  | inr e ↦ absurd (eqb-false one two e h)
]

goes_on : (round : ℕ) (ts : List Bet) → no_even_from round ts ≡ None → GoOn ts
goes_on round [] h = tt
goes_on round (t ∷ []) h = tt
goes_on round (t ∷ u ∷ ts) h = elim (cases_Bool (has_even t)) [
  | inl e ↦ (e, goes_on (round + 1) (u ∷ ts) (rw e at h))
  | inr e ↦ absurd (refused (no_even round) (rw e at h))
]

went_on : (round : ℕ) (ts : List Bet) → GoOn ts → no_even_from round ts ≡ None
went_on round [] h = refl
went_on round (t ∷ []) h = refl
went_on round (t ∷ u ∷ ts) h = let e = h.0 in rw e (went_on (round + 1) (u ∷ ts) h.1)

mutual
  level : (path : List ℕ) (one two : ℕ) (t : Bet) → uneven_path path one two t ≡ None → IsLevel one two t
  level path one two (act player moves) h = are_level path one two player moves h
  level path one two fold h = tt
  level path one two even h = same_put path one two h

  are_level : (path : List ℕ) (one two player : ℕ) (ms : Moves) → uneven_move path one two player ms ≡ None → AreLevel one two player ms
  are_level path one two player none h = tt
  are_level path one two player (move letter chips next moves) h =
      let n = neither (uneven_path (path ++ letter ∷ []) (one_after player chips one) (two_after player chips two) next)
      (uneven_move path one two player moves) h in
      (level (path ++ letter ∷ []) _ _ next n.0, are_level path one two player moves n.1)

mutual
  levelled : (path : List ℕ) (one two : ℕ) (t : Bet) → IsLevel one two t → uneven_path path one two t ≡ None
  levelled path one two (act player moves) h = are_levelled path one two player moves h
  levelled path one two fold h = refl
  levelled path one two even h = put_same path one two h

  are_levelled : (path : List ℕ) (one two player : ℕ) (ms : Moves) → AreLevel one two player ms → uneven_move path one two player ms ≡ None
  are_levelled path one two player none h = refl
  are_levelled path one two player (move letter chips next moves) h =
      both (uneven_path (path ++ letter ∷ []) (one_after player chips one) (two_after player chips two) next) (uneven_move path one two player moves)
      (levelled (path ++ letter ∷ []) _ _ next h.0) (are_levelled path one two player moves h.1)

each_level : (round : ℕ) (ts : List Bet) → uneven_from round ts ≡ None → EachLevel ts
each_level round [] h = tt
each_level round (t ∷ ts) h =
    let n = neither (option_map (uneven round) (uneven_path [] 0 0 t)) (uneven_from (round + 1) ts) h in
    (level [] 0 0 t (no_path (uneven_path [] 0 0 t) n.0), each_level (round + 1) ts n.1)
  where
    no_path : (p : Option (List ℕ)) → option_map (uneven round) p ≡ None → p ≡ None
    no_path None e = refl
    no_path (Some path) e = absurd (refused (uneven round path) e)

each_levelled : (round : ℕ) (ts : List Bet) → EachLevel ts → uneven_from round ts ≡ None
each_levelled round [] h = refl
each_levelled round (t ∷ ts) h =
    let e = levelled [] 0 0 t h.0 in
    both (option_map (uneven round) (uneven_path [] 0 0 t)) (uneven_from (round + 1) ts) (rw e refl) (each_levelled (round + 1) ts h.1)

-- ---- signals

few_from : (g : Game) (left n : ℕ) → signals_from g left n ≡ None → (k : ℕ) → n ≤ k → k < n + left → length (signals g k) ≤ 200000
few_from g zero n h k lo hi = absurd (omega arith)
few_from g (suc left) n h k lo hi = elim (cases_Bool (nat_lt 200000 (length (signals g n)))) [
  | inl e ↦ absurd (refused (too_many_signals n) (rw e at h))
  | inr e ↦ elim (cases_eq k n) [
    | inl same ↦ rw same (ltb-false 200000 (length (signals g n)) e)
    | inr apart ↦ few_from g left (n + 1) (rw e at h) k (omega arith) (omega arith)
  ]
]

none_over : (g : Game) (left n : ℕ) → ((k : ℕ) → n ≤ k → k < n + left → length (signals g k) ≤ 200000) → signals_from g left n ≡ None
none_over g zero n h = refl
none_over g (suc left) n h =
    let e = not_less 200000 (length (signals g n)) (h n (omega arith) (omega arith)) in
    rw e (none_over g left (n + 1) (λ k lo hi. h k (omega arith) (omega arith)))

-- ---- each rule

rounds_kept : (g : Game) → rounds_refusal g ≡ None → (1 ≤ round_count g) × (round_count g ≤ 4)
unfolding rounds_refusal
rounds_kept g h =
    let e = unless_true (nat_le 1 (round_count g) && nat_le (round_count g) 4) (rounds (round_count g)) h in
    let p = and_parts (nat_le 1 (round_count g)) (nat_le (round_count g) 4) e in
    (leb-true 1 (round_count g) p.0, leb-true (round_count g) 4 p.1)

rounds_fine : (g : Game) → (1 ≤ round_count g) × (round_count g ≤ 4) → rounds_refusal g ≡ None
unfolding rounds_refusal
rounds_fine g h =
    let e = and_from (nat_le 1 (round_count g)) (nat_le (round_count g) 4) (le-leb 1 (round_count g) h.0) (le-leb (round_count g) 4 h.1) in rw e refl

private_kept : (g : Game) → private_refusal g ≡ None → 0 < (round_at g 1).private
unfolding private_refusal
private_kept g h =
    let e = unless_false ((round_at g 1).private == 0) no_private h in
    let apart = eqb-false ((round_at g 1).private) 0 e in
    omega arith

private_fine : (g : Game) → 0 < (round_at g 1).private → private_refusal g ≡ None
unfolding private_refusal
private_fine g h = let e = ne_eqb ((round_at g 1).private) 0 (λ z. omega arith) in rw e refl

ranking_kept : (g : Game) → ranking_refusal g ≡ None → ranks g.ranking (own_card_total g.rounds) (own_card_total g.rounds + public_card_total g.rounds) ≡ true
unfolding ranking_refusal
ranking_kept g h = unless_true (ranks g.ranking (own_card_total g.rounds) (own_card_total g.rounds + public_card_total g.rounds)) _ h

ranking_fine : (g : Game) → ranks g.ranking (own_card_total g.rounds) (own_card_total g.rounds + public_card_total g.rounds) ≡ true → ranking_refusal g ≡ None
unfolding ranking_refusal
ranking_fine g h = rw h refl

copies_kept : (g : Game) → copies_refusal g ≡ None → 2 * own_card_total g.rounds + public_card_total g.rounds ≤ sum g.copies
unfolding copies_refusal
copies_kept g h =
    let need = 2 * own_card_total g.rounds + public_card_total g.rounds in ltb-false (sum g.copies) need (unless_false (nat_lt (sum g.copies) need) _ h)

copies_fine : (g : Game) → 2 * own_card_total g.rounds + public_card_total g.rounds ≤ sum g.copies → copies_refusal g ≡ None
unfolding copies_refusal
copies_fine g h = let e = not_less (sum g.copies) (2 * own_card_total g.rounds + public_card_total g.rounds) h in rw e refl

put_kept : (g : Game) → put_refusal g ≡ None → most_in (trees_of g) g.ante g.ante * greatest g.bonus ≤ 4096
unfolding put_refusal
put_kept g h =
    let chips = most_in (trees_of g) g.ante g.ante * greatest g.bonus in ltb-false 4096 chips (unless_false (nat_lt 4096 chips) _ h)

put_fine : (g : Game) → most_in (trees_of g) g.ante g.ante * greatest g.bonus ≤ 4096 → put_refusal g ≡ None
unfolding put_refusal
put_fine g h = let e = not_less 4096 (most_in (trees_of g) g.ante g.ante * greatest g.bonus) h in rw e refl

lines_kept : (g : Game) → lines_refusal g ≡ None → length (walk g.ante (trees_of g)).ends ≤ 8192
unfolding lines_refusal
lines_kept g h =
    let ends = length (walk g.ante (trees_of g)).ends in ltb-false 8192 ends (unless_false (nat_lt 8192 ends) _ h)

lines_fine : (g : Game) → length (walk g.ante (trees_of g)).ends ≤ 8192 → lines_refusal g ≡ None
unfolding lines_refusal
lines_fine g h = let e = not_less 8192 (length (walk g.ante (trees_of g)).ends) h in rw e refl

weight_kept : (g : Game) → weight_refusal g ≡ None → total_weight (frame_of g) ≤ 67108864
unfolding weight_refusal
weight_kept g h = ltb-false 67108864 (total_weight (frame_of g)) (unless_false (nat_lt 67108864 (total_weight (frame_of g))) _ h)

weight_fine : (g : Game) → total_weight (frame_of g) ≤ 67108864 → weight_refusal g ≡ None
unfolding weight_refusal
weight_fine g h = let e = not_less 67108864 (total_weight (frame_of g)) h in rw e refl

deals_kept : (g : Game) → deals_refusal g ≡ None → length (deals g) ≤ 8000000
unfolding deals_refusal
deals_kept g h = ltb-false 8000000 (length (deals g)) (unless_false (nat_lt 8000000 (length (deals g))) _ h)

deals_fine : (g : Game) → length (deals g) ≤ 8000000 → deals_refusal g ≡ None
unfolding deals_refusal
deals_fine g h = let e = not_less 8000000 (length (deals g)) h in rw e refl

-- ---- all of them

-- where no refusal applies, the rules are kept
pub kept : (g : Game) → first_refusal g ≡ None → KeepsRules g
unfolding first_refusal card_refusal betting_refusal deal_refusal even_refusal uneven_refusal signals_refusal
kept g h =
    let (cards, more) = neither (card_refusal g) (first_of (betting_refusal g) (deal_refusal g)) h in
    let (betting, size) = neither (betting_refusal g) (deal_refusal g) more in
    let (c1, c2) = neither (rounds_refusal g) (first_of (private_refusal g) (first_of (ranking_refusal g) (copies_refusal g))) cards in
    let (c3, c4) = neither (private_refusal g) (first_of (ranking_refusal g) (copies_refusal g)) c2 in
    let (c5, c6) = neither (ranking_refusal g) (copies_refusal g) c4 in
    let (b1, b2) = neither (even_refusal g) (first_of (uneven_refusal g) (first_of (put_refusal g) (lines_refusal g))) betting in
    let (b3, b4) = neither (uneven_refusal g) (first_of (put_refusal g) (lines_refusal g)) b2 in
    let (b5, b6) = neither (put_refusal g) (lines_refusal g) b4 in
    let (d1, d2) = neither (weight_refusal g) (first_of (signals_refusal g) (deals_refusal g)) size in
    let (d3, d4) = neither (signals_refusal g) (deals_refusal g) d2 in
    record {
      rounds = rounds_kept g c1;
      private = private_kept g c3;
      ranking = ranking_kept g c5;
      copies = copies_kept g c6;
      evens = goes_on 1 (trees_of g) b1;
      level = each_level 1 (trees_of g) b3;
      put = put_kept g b5;
      lines = lines_kept g b6;
      weight = weight_kept g d1;
      signals = λ round lo hi. few_from g (round_count g) 1 d3 round lo (omega arith);
      deals = deals_kept g d4;
    }

-- where the rules are kept, no refusal applies
pub not_refused : (g : Game) → KeepsRules g → first_refusal g ≡ None
unfolding first_refusal card_refusal betting_refusal deal_refusal even_refusal uneven_refusal signals_refusal
not_refused g k =
    let cards = both (rounds_refusal g) (first_of (private_refusal g) (first_of (ranking_refusal g) (copies_refusal g))) (rounds_fine g k.rounds)
    (both (private_refusal g) (first_of (ranking_refusal g) (copies_refusal g)) (private_fine g k.private)
    (both (ranking_refusal g) (copies_refusal g) (ranking_fine g k.ranking) (copies_fine g k.copies))) in
    let betting = both (even_refusal g) (first_of (uneven_refusal g) (first_of (put_refusal g) (lines_refusal g))) (went_on 1 (trees_of g) k.evens)
    (both (uneven_refusal g) (first_of (put_refusal g) (lines_refusal g)) (each_levelled 1 (trees_of g) k.level)
    (both (put_refusal g) (lines_refusal g) (put_fine g k.put) (lines_fine g k.lines))) in
    let size = both (weight_refusal g) (first_of (signals_refusal g) (deals_refusal g)) (weight_fine g k.weight)
    (both (signals_refusal g) (deals_refusal g) (none_over g (round_count g) 1 (λ n lo hi. k.signals n lo (omega arith))) (deals_fine g k.deals)) in
    both (card_refusal g) (first_of (betting_refusal g) (deal_refusal g)) cards (both (betting_refusal g) (deal_refusal g) betting size)

pub rules_are_refusals : (g : Game) → (first_refusal g ≡ None → KeepsRules g) × (KeepsRules g → first_refusal g ≡ None)
rules_are_refusals g = (kept g, not_refused g)
