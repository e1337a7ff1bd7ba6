-- Lists of equal parts, and the rounds of a signal.
use Rattle.std.proofs.Common.{◌≡◌, ℕ, zero, suc, ◌+◌, ◌-◌, ◌*◌, ◌^◌, ◌/◌, ◌<◌, ◌≤◌, ◌++◌, List, [], ◌∷◌, length, map, take, drop, get_or, refl, sym, ap, ◌∙◌}
use Rattle.std.proofs.{Common.{arith, subst, length-append, ⊎_elim, All}, lemmas.Bool.{cases_lt}, lemmas.List.{length_push}}
use Rattle.std.proofs.lemmas.List.{take_at, drop_at, take_more, drop_more, take-append-drop, get_or_append_left, get_or_push, get_or-map, length-map}
use Rattle.std.proofs.{lemmas.List.Concat.{flat_map-append}, lemmas.Slice.{between_from_start}, Math.Nat.{pow-succ', mul-div_cancel_left}}
use Rattle.std.specs.{Prelude.{flat_map, max}, List.{between}}
use Rattle.gs_model.specs.{Cards.{ways, left_after}, Deals.{own_ways}, Betting.{even}, Game.{Game, Round, round_at, round_count}}
use Rattle.gs_model.specs.Signals.{Seen, Signal, own_cards, parents, signal_at, signals}
use Rattle.gs_game.specs.{Games.{round_rules}, declared.game.Round.{Round as GameRound}, Limits.{IsDealable}}
use Rattle.gs_model.proofs.Basics.{product_le}
use Rattle.gs_tree.specs.{Layers.{last_seen}, Walk.{last_count}}
use Rattle.gs_tree.proofs.{Beside.{own_ways-push}, Dealt.{IsShown, last_is_shown}, Hands.{own_cards-push}, Lookups.{grown_from}, Grown.{nothing_seen}}

-- ---- lists of equal parts

pub parts_length : {X : Type 0} (f : X → List ℕ) (n : ℕ) (xs : List X) (d : X) → ((i : ℕ) → i < length xs → length (f (get_or xs i d)) ≡ n)
    → length (flat_map f xs) ≡ length xs * n
parts_length f n [] d h = omega arith
parts_length f n (x ∷ xs) d h =
    let here : length (f x) ≡ n = h 0 (omega arith) in
    let rest = parts_length f n xs d (λ i l. h (suc i) (omega arith)) in
    let more : suc (length xs) * n ≡ length xs * n + n = omega arith in
    omega (arith, length-append (f x) (flat_map f xs), here, rest, more)

pub part_is : {X : Type 0} (f : X → List ℕ) (n : ℕ) (xs : List X) (d : X) → ((i : ℕ) → i < length xs → length (f (get_or xs i d)) ≡ n) → (i : ℕ)
    → i < length xs → take n (drop (i * n) (flat_map f xs)) ≡ f (get_or xs i d)
part_is f n [] d h i l = absurd (omega arith)
part_is f n (x ∷ xs) d h zero l =
    let start : 0 * n ≡ 0 = omega arith in
    ap (λ k. take n (drop k (f x ++ flat_map f xs))) start ∙ take_at (f x) (flat_map f xs) n (h 0 (omega arith))
part_is f n (x ∷ xs) d h (suc i) l =
    let here : length (f x) ≡ n = h 0 (omega arith) in
    let more : suc i * n ≡ length (f x) + i * n = omega arith in
    ap (λ k. take n (drop k (f x ++ flat_map f xs))) more
    ∙ ap (take n) (past (f x) (flat_map f xs) (i * n))
    ∙ part_is f n xs d (λ j m. h (suc j) (omega arith)) i (omega arith)
  where
    past : (xs ys : List ℕ) (k : ℕ) → drop (length xs + k) (xs ++ ys) ≡ drop k ys
    past [] ys k = let e : 0 + k ≡ k = omega arith in ap (λ j. drop j ys) e
    past (x ∷ xs) ys k = let e : suc (length xs) + k ≡ suc (length xs + k) = omega arith in ap (λ j. drop j (x ∷ (xs ++ ys))) e ∙ past xs ys k

-- the parts end within the list
pub part_in : (i n m : ℕ) → i < n → i * m + m ≤ n * m
part_in i n m l =
    let more : (i + 1) * m ≡ i * m + m = omega arith in
    let within : (i + 1) * m ≤ n * m = product_le (i + 1) m n m (omega arith) (omega arith) in
    omega arith

-- how long each part is, by the length of all
pub part_long : {X : Type 0} (f : X → List ℕ) (n : ℕ) (xs : List X) (d : X) (all each : ℕ) → ((i : ℕ) → i < length xs → length (f (get_or xs i d)) ≡ n)
    → all ≡ length (flat_map f xs) → each ≡ max (length xs) 1 → (i : ℕ) → i < length xs → length (f (get_or xs i d)) ≡ all / each
part_long f n xs d all each h a e i l =
    let some : 0 < length xs = omega arith in
    let count : each ≡ length xs = omega arith in
    let whole : all ≡ length xs * n = a ∙ parts_length f n xs d h in
    h i l ∙ sym (mul-div_cancel_left n some) ∙ ap (λ k. k / length xs) (sym whole) ∙ ap (λ k. all / k) (sym count)

-- ---- the rounds of a signal

-- how many rounds a signal has, and what one of them shows
pub record HasRounds (g : Game) (n : ℕ) (s : Signal) : Type 0 where
  pub long : length s ≡ n
  pub each : (k : ℕ) → k < n → IsShown (length g.copies) (round_at g (suc k)) (get_or s k nothing_seen)

pub has_rounds : (g : Game) (n i : ℕ) → i < length (signals g n) → HasRounds g n (signal_at g n i)
has_rounds g zero zero l = record { long = refl; each = λ k m. absurd (omega arith) }
has_rounds g zero (suc i) l = absurd (omega arith)
has_rounds g (suc n) i l =
    let c = grown_from g n i l in
    let front : Signal = signal_at g n (get_or (parents g (suc n)) i 0) in
    let last : Seen = last_seen (signal_at g (suc n) i) in
    let r = has_rounds g n (get_or (parents g (suc n)) i 0) c.within in
    let P : Signal → Type 0 = HasRounds g (suc n) in
    subst P (sym c.is) (record {
      long = length_push front last ∙ omega (arith, r.long);
      each = λ k m. ⊎_elim
          (λ (h : k < n).
          let R : Seen → Type 0 = IsShown (length g.copies) (round_at g (suc k)) in
          subst R (sym (get_or_append_left front (last ∷ []) nothing_seen k (omega (arith, r.long)))) (r.each k h))
          (λ (h : n ≤ k).
          let same : n ≡ k = omega arith in
          let S : ℕ → Type 0 = λ j. IsShown (length g.copies) (round_at g (suc j)) (get_or (front ++ last ∷ []) j nothing_seen) in
          let R : Seen → Type 0 = IsShown (length g.copies) (round_at g (suc n)) in
          subst S same (subst R (sym (get_or_push front last nothing_seen n r.long)) (last_is_shown g (suc n) i (omega arith) l)))
          (cases_lt k n);
    })

-- as many own cards as the game's list of rounds says
pub width_at : (g : Game) (rounds : List GameRound) (n k : ℕ) (r : GameRound) (s : Signal) → g.rounds ≡ map round_rules rounds → HasRounds g n s → k < n
    → k < length rounds → r ≡ get_or rounds k r → length (get_or s k nothing_seen).own ≡ r.private
width_at g rounds n k r s e h l m at =
    let none : Round = record { private = 0; public = 0; tree = even } in
    let before : suc k - 1 ≡ k = omega arith in
    let private : Round → ℕ = λ x. x.private in
    (h.each k l).own_counted ∙ ap (λ j. private (get_or g.rounds j none)) before ∙ ap (λ (x : List Round). private (get_or x k none)) e
    ∙ ap private (get_or-map round_rules rounds k r none m ∙ ap round_rules (sym at))

-- the own cards of one round more
pub record IsOwnStep (left : List ℕ) (t : Signal) (k start end : ℕ) (own : List ℕ) : Type 0 where
  pub within : end ≤ length own
  pub before : between 0 start own ≡ own_cards (take k t)
  pub here : between start end own ≡ (get_or t k nothing_seen).own
  pub next : end ≡ length (own_cards (take (k + 1) t))
  pub more : own_ways left (take (k + 1) t) ≡ own_ways left (take k t) * ways (left_after left (own_cards (take k t))) (get_or t k nothing_seen).own

pub own_step : (left : List ℕ) (t : Signal) (k start end : ℕ) (own : List ℕ) → own ≡ own_cards t → k < length t → start ≡ length (own_cards (take k t))
    → end ≡ start + length (get_or t k nothing_seen).own → IsOwnStep left t k start end own
own_step left t k start end own e l s w =
    let p : Seen = get_or t k nothing_seen in
    let front : List ℕ = own_cards (take k t) in
    let rest : List ℕ = own_cards (drop (k + 1) t) in
    let split : own ≡ front ++ (p.own ++ rest) =
    e ∙ ap own_cards (sym (take-append-drop k t)) ∙ flat_map-append (λ (q : Seen). q.own) (take k t) (drop k t)
    ∙ ap (λ x. front ++ own_cards x) (drop_more t k nothing_seen l) in
    let one : own_cards (take (k + 1) t) ≡ front ++ p.own = ap own_cards (take_more t k nothing_seen l) ∙ own_cards-push (take k t) p in
    let width : end - start ≡ length p.own = omega arith in
    record {
      within = omega (arith, ap (λ (x : List ℕ). length x) split, length-append front (p.own ++ rest), length-append p.own rest);
      before = between_from_start own start ∙ ap (take start) split ∙ take_at front (p.own ++ rest) start (sym s);
      here = ap (λ x. take (end - start) (drop start x)) split ∙ ap (take (end - start)) (drop_at front (p.own ++ rest) start (sym s))
          ∙ take_at p.own rest (end - start) (sym width);
      next = omega (arith, ap (λ (x : List ℕ). length x) one, length-append front p.own);
      more = ap (own_ways left) (take_more t k nothing_seen l) ∙ own_ways-push left (take k t) p;
    }

-- what a loop over the game's rounds reads in one turn
pub record IsTurn (g : Game) (left : List ℕ) (t : Signal) (k start end : ℕ) (own : List ℕ) : Type 0 where
  pub step : IsOwnStep left t k start end own
  pub own_in : All (λ c. c < length g.copies) (between start end own)
  pub few : length (between start end own) ≤ 3

pub turn : (g : Game) (left : List ℕ) (rounds : List GameRound) (i k : ℕ) (r : GameRound) (start end : ℕ) (own : List ℕ) → IsDealable g
    → g.rounds ≡ map round_rules rounds → i < last_count g → own ≡ own_cards (signal_at g (round_count g) i) → k < length rounds → r ≡ get_or rounds k r
    → start ≡ length (own_cards (take k (signal_at g (round_count g) i))) → end ≡ start + r.private →
    IsTurn g left (signal_at g (round_count g) i) k start end own
turn g left rounds i k r start end own d e l o m at s w =
    let t : Signal = signal_at g (round_count g) i in
    let h = has_rounds g (round_count g) i l in
    let here : k < round_count g = omega (arith, ap (λ (x : List Round). length x) e, length-map rounds round_rules) in
    let width = width_at g rounds (round_count g) k r t e h here m at in
    let step = own_step left t k start end own o (omega (arith, h.long)) s (omega (arith, width)) in
    let none : Round = record { private = 0; public = 0; tree = even } in
    let shown = h.each k here in
    let before : suc k - 1 ≡ k = omega arith in
    let P : List ℕ → Type 0 = λ x. All (λ c. c < length g.copies) x in
    let few : (round_at g (suc k)).private ≤ 2 = (d.small (suc k - 1) none (omega (arith, before))).0 in
    record {
      step = step;
      own_in = subst P (sym step.here) shown.own_in;
      few = omega (arith, ap (λ (x : List ℕ). length x) step.here, shown.own_counted, few);
    }

-- one factor more
pub power_more : (w e k : ℕ) → w ≤ 59049 ^ k → e ≤ 729 → w * e ≤ 59049 ^ (k + 1)
power_more w e k h l =
    let small : w * e ≤ 59049 ^ k * 59049 = product_le w e (59049 ^ k) 59049 h (omega arith) in
    let next : 59049 ^ suc k ≡ 59049 * 59049 ^ k = pow-succ' 59049 k in
    let at : suc k ≡ k + 1 = omega arith in
    omega (arith, ap (λ j. 59049 ^ j) at)
