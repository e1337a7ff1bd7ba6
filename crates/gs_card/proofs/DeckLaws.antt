-- Texts without a fault make a deck.
use Rattle.std.proofs.Common.{◌≡◌, ◌≢◌, ℕ, ◌-◌, ◌*◌, ◌<◌, ◌≤◌, ◌==◌, ◌||◌, ◌&&◌, not, cond, Bool, true, false, List, [], ◌∷◌, length, nat_lt, nat_le, All}
use Rattle.std.proofs.Common.{get_or, Some, None, arith, refl, ap, sym, ◌∙◌}
use Rattle.std.proofs.{lemmas.List.{length-map, length-replicate}, lemmas.List.Elements.{All-map, All-replicate}, lemmas.List.Sums.{AllPass-from_list_all}}
use Rattle.std.proofs.lemmas.Bool.{or_parts, and_parts, not-false, eqb-false, eqb-true, ltb-false, ne_eqb, leb-true}
use Rattle.std.specs.{List.{list_all}, Char.{is_ascii_alphanumeric, is_ascii_digit}}
use Rattle.gs_card.specs.{Decks.{IsDeck, repeats, counts_of, deck_of_texts}, DeckFaults.{fault_of}, declared.faults.DeckFault.{DeckFault}, declared.faults.TheConstants.{MOST_KINDS}}
use Rattle.gs_card.specs.declared.faults.DeckFault.TheVariants.{NoCards, BadLetter, RepeatedLetter, TooManyKinds, BadCopies}

passes : (a b c d e : Bool) (f g h i j : DeckFault) → cond a (Some f) (cond b (Some g) (cond c (Some h) (cond d (Some i) (cond e (Some j) None)))) ≡ None
    → (a ≡ false) × (b ≡ false) × (c ≡ false) × (d ≡ false) × (e ≡ false)
passes true b c d e f g h i j n = absurd (cc)
passes false true c d e f g h i j n = absurd (cc)
passes false false true d e f g h i j n = absurd (cc)
passes false false false true e f g h i j n = absurd (cc)
passes false false false false true f g h i j n = absurd (cc)
passes false false false false false f g h i j n = (refl, refl, refl, refl, refl)

-- what texts without a fault are
pub record IsFaultless (ranks suits digits : List ℕ) : Type 0 where
  pub some : ((length ranks == 0) || (length suits == 0)) ≡ false
  pub letters : (list_all is_ascii_alphanumeric ranks && list_all is_ascii_alphanumeric suits) ≡ true
  pub differ : (repeats ranks || repeats suits) ≡ false
  pub few : nat_lt MOST_KINDS (length ranks * length suits) ≡ false
  pub copies : ((length digits == 0) || ((length digits == length ranks * length suits) && list_all is_ascii_digit digits)) ≡ true

pub faultless : (ranks suits copies : List ℕ) → fault_of ranks suits copies ≡ None → IsFaultless ranks suits copies
faultless ranks suits copies h =
    let p = passes ((length ranks == 0) || (length suits == 0)) (not (list_all is_ascii_alphanumeric ranks && list_all is_ascii_alphanumeric suits))
    (repeats ranks || repeats suits) (nat_lt MOST_KINDS (length ranks * length suits))
    (not ((length copies == 0) || ((length copies == length ranks * length suits) && list_all is_ascii_digit copies))) NoCards BadLetter
    RepeatedLetter TooManyKinds BadCopies h in
    record { some = p.0; letters = not-false _ p.1; differ = p.2; few = p.3; copies = not-false _ p.4 }

digits_from : (c : ℕ) → is_ascii_digit c ≡ true → (48 ≤ c) × (c ≤ 57)
digits_from c h =
    let parts = and_parts (nat_le 48 c) (nat_le c 57) h in
    (leb-true _ _ parts.0, leb-true _ _ parts.1)

-- the condition on the copies
abbrev AreCopies : ℕ → List ℕ → Type 0
AreCopies k cs = ((length cs == 0) || ((length cs == k) && list_all is_ascii_digit cs)) ≡ true

some_copies : (k c : ℕ) (cs : List ℕ) → AreCopies k (c ∷ cs) → (length (c ∷ cs) ≡ k) × (list_all is_ascii_digit (c ∷ cs) ≡ true)
some_copies k c cs h =
    let some : (length (c ∷ cs) == 0) ≡ false = ne_eqb _ _ (λ (e : length (c ∷ cs) ≡ 0). absurd (omega arith)) in
    let rest = and_parts (length (c ∷ cs) == k) (list_all is_ascii_digit (c ∷ cs))
    (sym (ap (λ b. b || ((length (c ∷ cs) == k) && list_all is_ascii_digit (c ∷ cs))) some) ∙ h) in
    (eqb-true _ _ rest.0, rest.1)

counted : (k : ℕ) (cs : List ℕ) → AreCopies k cs → length (counts_of k cs) ≡ k
counted k [] h = length-replicate k 1
counted k (c ∷ cs) h = length-map (c ∷ cs) (λ digit. digit - 48) ∙ (some_copies k c cs h).0

digit_small : (c : ℕ) → is_ascii_digit c ≡ true → c - 48 ≤ 9
digit_small c h = omega (arith, digits_from c h)

within : (k : ℕ) (cs : List ℕ) → AreCopies k cs → All (λ n. n ≤ 9) (counts_of k cs)
within k [] h = All-replicate (λ n. n ≤ 9) k 1 (omega arith)
within k (c ∷ cs) h =
    All-map (λ n. n ≤ 9) (λ digit. digit - 48) (c ∷ cs) (λ i d l. digit_small _
    (AllPass-from_list_all is_ascii_digit (c ∷ cs) (some_copies k c cs h).1 i d l))

one_or_more : (m n : ℕ) → ((m == 0) || (n == 0)) ≡ false → 0 < m * n
one_or_more m n h =
    let parts = or_parts (m == 0) (n == 0) h in
    let e : m ≢ 0 = eqb-false _ _ parts.0 in
    let f : n ≢ 0 = eqb-false _ _ parts.1 in
    grind arith

-- texts without a fault make a deck
pub sound : (ranks suits copies : List ℕ) → fault_of ranks suits copies ≡ None → IsDeck (deck_of_texts ranks suits copies)
sound ranks suits copies h =
    let p = faultless ranks suits copies h in
    let letters = and_parts _ _ p.letters in
    let differ = or_parts _ _ p.differ in
    record {
      some = one_or_more (length ranks) (length suits) p.some;
      few = ltb-false _ _ p.few;
      rank_letters = AllPass-from_list_all is_ascii_alphanumeric ranks letters.0;
      suit_letters = AllPass-from_list_all is_ascii_alphanumeric suits letters.1;
      ranks_differ = differ.0;
      suits_differ = differ.1;
      counted = counted _ copies p.copies;
      copies = within _ copies p.copies;
    }

-- the digits of copies are 48 to 57
pub digit_at : (cs : List ℕ) (i d : ℕ) → list_all is_ascii_digit cs ≡ true → i < length cs → (48 ≤ get_or cs i d) × (get_or cs i d ≤ 57)
digit_at cs i d h l = digits_from _ (AllPass-from_list_all is_ascii_digit cs h i d l)

-- texts without a fault have digits as copies
pub copied : (ranks suits copies : List ℕ) → fault_of ranks suits copies ≡ None → list_all is_ascii_digit copies ≡ true
copied ranks suits [] h = refl
copied ranks suits (c ∷ cs) h = (some_copies (length ranks * length suits) c cs (faultless ranks suits (c ∷ cs) h).copies).1

-- lists that equal what such texts give are a deck
pub sound_at : (ranks suits copies xs ys zs : List ℕ) → fault_of ranks suits copies ≡ None → xs ≡ ranks → ys ≡ suits
    → zs ≡ counts_of (length ranks * length suits) copies → IsDeck (record { ranks = xs; suits = ys; counts = zs })
sound_at ranks suits copies xs ys zs h e f g = rw (e, f, g) (sound ranks suits copies h)
