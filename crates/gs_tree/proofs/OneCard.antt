-- Groups of one card.
use Rattle.std.proofs.Common.{◌≡◌, ℕ, zero, suc, ◌+◌, ◌*◌, ◌-◌, ◌<◌, List, [], ◌∷◌, ◌++◌, length, map, get_or, refl, sym, ap, ◌∙◌, arith, nat_lt, cond, eqb}
use Rattle.std.proofs.Common.{append_assoc, append-nil, true, false}
use Rattle.std.proofs.{lemmas.List.{map-append}, lemmas.List.Concat.{flat_map-append}, lemmas.Grind.{common_steps}}
use Rattle.std.specs.{Prelude.{flat_map, count_by, ◌==◌}, List.{range_with_len}}
use Rattle.gs_model.specs.Cards.{choose, groups, groups_above, groups_with, ways, ways_from}
use Rattle.gs_game.proofs.Powers.{choose-one}

-- the group of one card of a kind that is left, and of one that is not
pub with_some : (left : List ℕ) (kind : ℕ) → 0 < get_or left kind 0 → groups_with (groups_above 0) left kind ≡ (kind ∷ []) ∷ []
with_some left kind h =
    let t : nat_lt 0 (get_or left kind 0) ≡ true = grind (arith, h) in
    ap (λ b. cond b (map (λ g. kind ∷ g) ([] ∷ [])) []) t

choose_none : (n : ℕ) → choose n 0 ≡ 1
choose_none zero = refl
choose_none (suc n) = refl

times_of : (card kind : ℕ) → count_by (λ x. x == kind) (card ∷ []) ≡ cond (eqb card kind) 1 0
times_of card kind = grind (arith, common_steps)

-- kinds above a card do not matter
above : (kind card : ℕ) (left : List ℕ) → card < kind → ways_from kind left (card ∷ []) ≡ 1
above kind card [] l = refl
above kind card (c ∷ cs) l =
    let ne : eqb card kind ≡ false = grind (arith, l) in
    let none : count_by (λ x. x == kind) (card ∷ []) ≡ 0 = times_of card kind ∙ ap {B = ℕ} (λ b. cond b 1 0) ne in
    let rest = above (suc kind) card cs (omega arith) in
    ap (λ n. choose c n * ways_from (suc kind) cs (card ∷ [])) none ∙ ap (λ n. n * ways_from (suc kind) cs (card ∷ [])) (choose_none c) ∙ omega (arith, rest)

-- one card can be taken in as many ways as there are copies
pub ways_card : (left : List ℕ) (card : ℕ) → card < length left → ways left (card ∷ []) ≡ get_or left card 0
ways_card left card l = go 0 card left (omega arith) l
  where
    go : (kind i : ℕ) (left : List ℕ) → kind + i ≡ card → i < length left → ways_from kind left (card ∷ []) ≡ get_or left i 0
    go kind i [] e l = absurd (omega arith)
    go kind zero (c ∷ cs) e l =
        let same : card ≡ kind = omega arith in
        let t : eqb card kind ≡ true = grind (arith, same) in
        let one : count_by (λ x. x == kind) (card ∷ []) ≡ 1 = times_of card kind ∙ ap {B = ℕ} (λ b. cond b 1 0) t in
        ap (λ n. choose c n * ways_from (suc kind) cs (card ∷ [])) one ∙ ap (λ n. n * ways_from (suc kind) cs (card ∷ [])) (choose-one c)
        ∙ ap (λ n. c * n) (above (suc kind) card cs (omega arith)) ∙ omega arith
    go kind (suc i) (c ∷ cs) e l =
        let ne : eqb card kind ≡ false = grind (arith, e) in
        let none : count_by (λ x. x == kind) (card ∷ []) ≡ 0 = times_of card kind ∙ ap {B = ℕ} (λ b. cond b 1 0) ne in
        ap (λ n. choose c n * ways_from (suc kind) cs (card ∷ [])) none ∙ ap (λ n. n * ways_from (suc kind) cs (card ∷ [])) (choose_none c)
        ∙ omega (arith, go (suc kind) i cs (omega arith) (omega arith))

-- the groups of one card, kind by kind
abbrev pub cards_to : List ℕ → ℕ → List (List ℕ)
cards_to left n = flat_map (groups_with (groups_above 0) left) (range_with_len 0 n)

range_push : (a n : ℕ) → range_with_len a (n + 1) ≡ range_with_len a n ++ (a + n) ∷ []
range_push a zero = let e : a ≡ a + 0 = omega arith in ap (λ k. k ∷ []) e
range_push a (suc n) =
    let long : suc n + 1 ≡ suc (n + 1) = omega arith in
    let e : a + 1 + n ≡ a + suc n = omega arith in
    ap (range_with_len a) long ∙ ap (λ l. a ∷ l) (range_push (a + 1) n) ∙ ap (λ k. a ∷ (range_with_len (a + 1) n ++ k ∷ [])) e

pub cards_more : (left : List ℕ) (n : ℕ) → cards_to left (n + 1) ≡ cards_to left n ++ groups_with (groups_above 0) left n
cards_more left n =
    let f : ℕ → List (List ℕ) = groups_with (groups_above 0) left in
    ap (flat_map f) (range_push 0 n) ∙ flat_map-append f (range_with_len 0 n) ((0 + n) ∷ []) ∙ ap (λ l. cards_to left n ++ l) (append-nil (f (0 + n)))
    ∙ (let e : 0 + n ≡ n = omega arith in ap (λ k. cards_to left n ++ f k) e)

-- what is added for all kinds so far, with one more
pub added_more : {Y : Type 0} (h : List ℕ → Y) (left : List ℕ) (n : ℕ) (start before after : List Y) → before ≡ start ++ map h (cards_to left n)
    → after ≡ before ++ map h (groups_with (groups_above 0) left n)
    → after ≡ start ++ map h (cards_to left (n + 1))
added_more h left n start before after b a =
    let f : List (List ℕ) = groups_with (groups_above 0) left n in
    a ∙ ap (λ l. l ++ map h f) b ∙ append_assoc start (map h (cards_to left n)) (map h f)
    ∙ ap (λ l. start ++ l) (sym (map-append h (cards_to left n) f)) ∙ ap (λ l. start ++ map h l) (sym (cards_more left n))

pub all_cards : (left : List ℕ) (n : ℕ) → n ≡ length left → cards_to left n ≡ groups left 1
all_cards left n e = let w : n ≡ length left - 0 = omega arith in ap (λ k. flat_map (groups_with (groups_above 0) left) (range_with_len 0 k)) w
