-- Numbers of lists of cards, and a table of the last place with each list.
use Rattle.std.proofs.Common.{◌≡◌, ◌≢◌, ℕ, zero, suc, ◌+◌, ◌*◌, ◌^◌, ◌<◌, ◌≤◌, ◌++◌, List, [], ◌∷◌, length, get_or, set, replicate, refl, sym, ap, ◌∙◌}
use Rattle.std.proofs.Common.{arith, subst, ⊎_elim, Bool, true, false, cond, Some, None, All, get_or-set_same, get_or-set_other, length-set}
use Rattle.std.proofs.{lemmas.Bool.{cases_lt, lt-ltb, ltb-true}, lemmas.Grind.{get_or_default_zero}, Math.Nat.{pow-zero, pow-succ'}}
use Rattle.std.proofs.{lemmas.List.{get_or-replicate, length-replicate}, lemmas.List.Elements.{recursion_from_All}}
use Rattle.std.specs.{List.{AllByRecursion}, Prelude.{nat_eq, nat_lt}}
use lib.Pointwise.{pointwise}
use Rattle.gs_model.specs.{Game.{Game, round_count}, Signals.{public_cards, signal_at}}
use Rattle.gs_model.proofs.Basics.{product_le}
use Rattle.gs_card.specs.Decks.{DeckValue, IsDeck, kinds}
use Rattle.gs_tree.specs.{Boards.{code_behind, seen_last}, Kept.{AreKeptCards}, Walk.{last_count}}
use Rattle.gs_tree.proofs.{Hands.{dealt}, Linked.{equal, unequal, last_place}}

-- one digit more
pub code_push : (k a : ℕ) (xs : List ℕ) (c : ℕ) → code_behind k a (xs ++ c ∷ []) ≡ code_behind k a xs * k + c
code_push k a [] c = refl
code_push k a (x ∷ xs) c = code_push k (a * k + x) xs c

-- numbers of so many digits
code_above : (k a : ℕ) (xs : List ℕ) → AllByRecursion (λ c. c < k) xs → code_behind k a xs + 1 ≤ (a + 1) * k ^ length xs
code_above k a [] h = omega (arith, ap (λ n. (a + 1) * n) (pow-zero k))
code_above k a (x ∷ xs) h =
    let rest = code_above k (a * k + x) xs h.1 in
    let more : (a + 1) * k ≡ a * k + k = omega arith in
    let within : (a * k + x + 1) * k ^ length xs ≤ ((a + 1) * k) * k ^ length xs =
    product_le (a * k + x + 1) (k ^ length xs) ((a + 1) * k) (k ^ length xs) (omega (arith, h.0, more)) (omega arith) in
    let next : (a + 1) * k ^ suc (length xs) ≡ (a + 1) * (k * k ^ length xs) = ap (λ n. (a + 1) * n) (pow-succ' k (length xs)) in
    let one : ((a + 1) * k) * k ^ length xs ≡ (a + 1) * (k * k ^ length xs) = omega arith in
    omega (arith, rest, within, next, one)

pub code_within : (k : ℕ) (xs : List ℕ) → All (λ c. c < k) xs → code_behind k 0 xs < k ^ length xs
code_within k xs h =
    let r = code_above k 0 xs (recursion_from_All (λ c. c < k) xs h) in
    let one : (0 + 1) * k ^ length xs ≡ k ^ length xs = omega arith in
    omega (arith, r, one)

-- numbers of at most three digits
pub power_small : (k n : ℕ) → k ≤ 52 → n ≤ 3 → k ^ n ≤ 140608
power_small k n h l = at_three n l (k ^ n) (power_below n)
  where
    power_below : (n : ℕ) → k ^ n ≤ 52 ^ n
    power_below zero = omega (arith, pow-zero k, pow-zero 52)
    power_below (suc n) = omega (arith, product_le k (k ^ n) 52 (52 ^ n) h (power_below n), pow-succ' k n, pow-succ' 52 n)

    at_three : (n : ℕ) → n ≤ 3 → (w : ℕ) → w ≤ 52 ^ n → w ≤ 140608
    at_three zero l w h = omega arith
    at_three (suc zero) l w h = omega arith
    at_three (suc (suc zero)) l w h = omega arith
    at_three (suc (suc (suc zero))) l w h = omega arith
    at_three (suc (suc (suc (suc n)))) l w h = absurd (omega arith)

-- the last digit and those before it
digits : (k a b c d : ℕ) → c < k → d < k → a * k + c ≡ b * k + d → (a ≡ b) × (c ≡ d)
digits k a b c d l m e = ⊎_elim
    (λ (h : a < b). absurd (less a b c d h l m e))
    (λ (h : b ≤ a). ⊎_elim
    (λ (i : b < a). absurd (less b a d c i m l (sym e)))
    (λ (i : a ≤ b). let same : a ≡ b = omega arith in let at : a * k ≡ b * k = ap (λ n. n * k) same in (same, omega (arith, at, e)))
    (cases_lt b a))
    (cases_lt a b)
  where
    less : (a b c d : ℕ) → a < b → c < k → d < k → a * k + c ≡ b * k + d → ⊥
    less a b c d h l m e =
        let r : (a + 1) * k ≤ b * k = product_le (a + 1) k b k (omega arith) (omega arith) in
        let more : (a + 1) * k ≡ a * k + k = omega arith in
        omega (arith, r, more, e)

code_same : (k a b : ℕ) (xs ys : List ℕ) → length xs ≡ length ys → AllByRecursion (λ c. c < k) xs → AllByRecursion (λ c. c < k) ys
    → code_behind k a xs ≡ code_behind k b ys → (a ≡ b) × (xs ≡ ys)
code_same k a b [] [] l h i e = (e, refl)
code_same k a b [] (y ∷ ys) l h i e = absurd (omega (arith, l))
code_same k a b (x ∷ xs) [] l h i e = absurd (omega (arith, l))
code_same k a b (x ∷ xs) (y ∷ ys) l h i e =
    let r = code_same k (a * k + x) (b * k + y) xs ys (omega (arith, l)) h.1 i.1 e in
    let d = digits k a b x y h.0 i.0 r.0 in
    (d.0, ap (λ z. z ∷ xs) d.1 ∙ ap (λ zs. y ∷ zs) r.1)

-- lists of one length with one number are one
pub same_code : (k : ℕ) (xs ys : List ℕ) → length xs ≡ length ys → All (λ c. c < k) xs → All (λ c. c < k) ys → code_behind k 0 xs ≡ code_behind k 0 ys
    → xs ≡ ys
same_code k xs ys l h i e = (code_same k 0 0 xs ys l (recursion_from_All (λ c. c < k) xs h) (recursion_from_All (λ c. c < k) ys i) e).1

-- a list of so many cards of the deck
pub record IsBoardOf (k size : ℕ) (b : List ℕ) : Type 0 where
  pub long : length b ≡ size
  pub of_deck : All (λ c. c < k) b

-- the table holds for each list the last place before n that has it
pub record IsTableOf (key : ℕ → List ℕ) (n count k size : ℕ) (last : List ℕ) : Type 0 where
  pub wide : length last ≡ k ^ size
  pub found : (b : List ℕ) → IsBoardOf k size b → seen_last count (get_or last (code_behind k 0 b) 0) ≡ last_place key n b

pub board_in : (k size m : ℕ) (b : List ℕ) → IsBoardOf k size b → m ≡ k ^ size → code_behind k 0 b < m
board_in k size m b h e = omega (arith, e, code_within k b h.of_deck, ap (λ n. k ^ n) h.long)

none_seen : (count : ℕ) → seen_last count count ≡ None
none_seen count = go (nat_lt count count) refl
  where
    go : (t : Bool) → nat_lt count count ≡ t → cond t (Some count) None ≡ None
    go true e = absurd (omega (arith, ltb-true count count e))
    go false e = refl

pub none_in_table : (key : ℕ → List ℕ) (count k size m : ℕ) (last : List ℕ) → last ≡ replicate m count → m ≡ k ^ size → IsTableOf key 0 count k size last
none_in_table key count k size m last e w = record {
  wide = ap (λ (x : List ℕ). length x) e ∙ length-replicate m count ∙ w;
  found = λ b h. ap (λ (x : List ℕ). seen_last count (get_or x (code_behind k 0 b) 0)) e
      ∙ ap (seen_last count) (get_or-replicate m (code_behind k 0 b) count 0 (board_in k size m b h w)) ∙ none_seen count;
}

-- one place more
pub table_more : (key : ℕ → List ℕ) (n count k size : ℕ) (last : List ℕ) → IsTableOf key n count k size last → n < count → IsBoardOf k size (key n)
    → IsTableOf key (n + 1) count k size (set last (code_behind k 0 (key n)) n)
table_more key n count k size last t l h =
    let next : suc n ≡ n + 1 = omega arith in
    let here : code_behind k 0 (key n) < length last = board_in k size (length last) (key n) h t.wide in
    record {
      wide = length-set last (code_behind k 0 (key n)) n ∙ t.wide;
      found = λ b i. go b i here (pointwise nat_eq (key n) b) refl ∙ ap (λ k. last_place key k b) next;
    }
  where
    go : (b : List ℕ) → IsBoardOf k size b → code_behind k 0 (key n) < length last → (t : Bool) → pointwise nat_eq (key n) b ≡ t
        → seen_last count (get_or (set last (code_behind k 0 (key n)) n) (code_behind k 0 b) 0) ≡ cond t (Some n) (last_place key n b)
    go b i here true e =
        let same : key n ≡ b = equal (key n) b e in
        ap (λ x. seen_last count (get_or (set last (code_behind k 0 (key n)) n) (code_behind k 0 x) 0)) (sym same)
        ∙ ap (seen_last count) (get_or-set_same last (code_behind k 0 (key n)) n 0 here)
        ∙ ap (λ c. cond c (Some n) None) (lt-ltb n count l)
    go b i here false e =
        let ne : code_behind k 0 (key n) ≢ code_behind k 0 b = λ s. unequal (key n) b e (same_code k (key n) b (h.long ∙ sym i.long) h.of_deck i.of_deck s) in
        ap (seen_last count) (get_or-set_other last (code_behind k 0 (key n)) (code_behind k 0 b) n 0 (λ e. ne (sym e))) ∙ t.found b i

-- the public cards of a signal are a board of the deck
pub shown_board : (g : Game) (d : DeckValue) (paths owns publics : List ℕ) (own public i : ℕ) → IsDeck d → d.counts ≡ g.copies
    → AreKeptCards g (round_count g) paths owns publics own public → i < last_count g
    → IsBoardOf (kinds d) public (public_cards (signal_at g (round_count g) i))
shown_board g d paths owns publics own public i deck e h l =
    let counted : length g.copies ≡ kinds d = ap (λ (x : List ℕ). length x) (sym e) ∙ deck.counted in
    let P : ℕ → Type 0 = λ n. All (λ c. c < n) (public_cards (signal_at g (round_count g) i)) in
    record { long = h.public_each i l; of_deck = subst P counted (dealt g (round_count g) i (omega arith) l).public_in }

-- what a read of the table gives for the next place
pub table_read : (key : ℕ → List ℕ) (n count k size code entry : ℕ) (last : List ℕ) → IsTableOf key n count k size last → IsBoardOf k size (key n)
    → code ≡ code_behind k 0 (key n) → entry ≡ get_or last code entry → seen_last count entry ≡ last_place key n (key n)
table_read key n count k size code entry last t h e r =
    let within : code < length last = omega (arith, e, board_in k size (length last) (key n) h t.wide) in
    ap (seen_last count) (r ∙ get_or_default_zero last code entry within ∙ ap (λ i. get_or last i 0) e) ∙ t.found (key n) h

-- the number of a card alone
pub code_alone : (k a : ℕ) (cards : List ℕ) → 1 ≤ length cards → length cards < 2 → a ≡ get_or cards 0 a → a ≡ code_behind k 0 cards
code_alone k a [] l m e = absurd (omega (arith, l))
code_alone k a (x ∷ []) l m e = omega (arith, e)
code_alone k a (x ∷ y ∷ rest) l m e = absurd (omega (arith, m))
