-- What a last-round signal is paid in its deals: a sum over the places of its board, before and behind its own.
use Rattle.std.proofs.Common.{◌≡◌, ◌+◌, ◌<◌, ◌≤◌, ◌∙◌, ℕ, zero, suc, ℤ, pos, Bool, true, false, cond, eqb, nat_lt, List, ◌∷◌, drop, length, get_or, map, take}
use Rattle.std.proofs.Common.{refl, sym, ap, subst, arith, true≢false, ⊎_elim}
use Rattle.std.proofs.{Math.IntN.{+ℤ_idl}, lemmas.Bool.{cases_lt}, lemmas.Bool.Decides.{Decides-eqb}, lemmas.Int.{ints}}
use Rattle.std.proofs.lemmas.List.{drop_more, get_or-drop, get_or-take, get_or_default, length-drop, length-take, take-append-drop}
use Rattle.std.specs.{Prelude.{◌==◌, ◌&&◌, ◌+ℤ◌, ◌*ℤ◌, All, filter, slice_index}, List.{range_with_len}}
use Rattle.gs_model.specs.{Deals.{Deal}, Game.{Game, round_count}, Signals.{signal_at}, Sums.{sum_z}, ViewTree.{signal_outcome}}
use Rattle.gs_model.proofs.{Total.{sum_z-append, sum_z-same_all}, Basics.{not_eq}}
use Rattle.gs_tree.specs.{Plain.{IsPlain}, Walk.{deal_at, last_count, shows_same}}
use Rattle.gs_tree.proofs.{Pairs.{row_deals}, Weighed.{weight_is}}
use Rattle.gs_boards.specs.{Boards.{ArePlaces, IsPlace, deal_sum, paid}, Places.{AreApart}, Runs.{number_at, outcome_at, paid_by}, declared.pays.Pays.{Pays}}
use Rattle.gs_boards.specs.declared.place.Place.{Place}
use Rattle.gs_boards.proofs.{Once.{AreOnce, apart_from, of_signal, over_places}, Telling.{board_tells, outcome_tells}}

-- places of whole boards: of the signals that pass a test, and a signal passes if one passes that shows the same
pub record AreWhole (g : Game) (on : ℕ → Bool) (places : List Place) : Type 0 where
  pub each : All (IsPlace g) places
  pub once : AreOnce on (last_count g) places
  pub closed : All (λ (p : Place). (k : ℕ) → on k ≡ false → shows_same g p.signal k ≡ false) places

module _ (g : Game) (plain : IsPlain g) (numbers : List ℕ) (pays : ℤ → ℤ) where
  -- what a deal adds
  abbrev deal_paid : Deal → ℤ
  deal_paid d = pos (slice_index numbers d.two) *ℤ (pos d.weight *ℤ pays d.outcome)

  -- what a signal is paid by another
  abbrev paid_at : ℕ → ℕ → ℤ
  paid_at i k = pos (slice_index numbers k) *ℤ pays (signal_outcome g (signal_at g (round_count g) i) (signal_at g (round_count g) k))

  -- the same where some deal has both
  abbrev beside : ℕ → ℕ → ℤ
  beside i k = cond (shows_same g i k && cond (eqb k i) false true) (paid_at i k) (pos 0)

  once_paid : (i k : ℕ) → (deal_at g i k).weight ≡ 1 → deal_paid (deal_at g i k) ≡ paid_at i k
  once_paid i k w =
      let o : ℤ = pays (deal_at g i k).outcome in
      let one : pos 1 *ℤ o ≡ o = omega (arith, ints) in
      ap (λ n. pos (slice_index numbers k) *ℤ (pos n *ℤ o)) w ∙ ap (λ z. pos (slice_index numbers k) *ℤ z) one

  run_paid : (i : ℕ) → i < last_count g → (a n : ℕ) → a + n ≤ last_count g
      → sum_z deal_paid (filter (λ (d : Deal). nat_lt 0 d.weight) (map (deal_at g i) (range_with_len a n))) ≡ sum_z (beside i) (range_with_len a n)
  run_paid i l a zero h = refl
  run_paid i l a (suc n) h = go (shows_same g i a && cond (eqb a i) false true) (weight_is g plain i a l (omega arith)) (run_paid i l (a + 1) n (omega arith))
    where
      rest : List Deal
      rest = filter (λ (d : Deal). nat_lt 0 d.weight) (map (deal_at g i) (range_with_len (a + 1) n))

      go : (b : Bool) → (deal_at g i a).weight ≡ cond b 1 0 → sum_z deal_paid rest ≡ sum_z (beside i) (range_with_len (a + 1) n)
          → sum_z deal_paid (cond (nat_lt 0 (deal_at g i a).weight) (deal_at g i a ∷ rest) rest)
          ≡ cond b (paid_at i a) (pos 0) +ℤ sum_z (beside i) (range_with_len (a + 1) n)
      go true w r =
          ap (λ (x : ℕ). sum_z deal_paid (cond (nat_lt 0 x) (deal_at g i a ∷ rest) rest)) w
          ∙ ap (λ z. z +ℤ sum_z deal_paid rest) (once_paid i a w) ∙ ap (λ z. paid_at i a +ℤ z) r
      go false w r =
          ap (λ (x : ℕ). sum_z deal_paid (cond (nat_lt 0 x) (deal_at g i a ∷ rest) rest)) w
          ∙ r ∙ sym (+ℤ_idl (sum_z (beside i) (range_with_len (a + 1) n)))

  row_paid : (i : ℕ) → i < last_count g → deal_sum g numbers pays i ≡ sum_z (beside i) (range_with_len 0 (last_count g))
  row_paid i l = ap (sum_z deal_paid) (row_deals g i l) ∙ run_paid i l 0 (last_count g) (omega arith)

  -- what a place is paid by another
  abbrev by_place : Place → Place → ℤ
  by_place p q = cond (q.board == p.board) (pos (number_at numbers q) *ℤ pays (outcome_at p q)) (pos 0)

  other_place : (p q : Place) → IsPlace g p → IsPlace g q → (q.signal ≡ p.signal → ⊥) → beside p.signal q.signal ≡ by_place p q
  other_place p q ip iq ne =
      let v : ℤ = paid_at p.signal q.signal in
      let test : eqb q.signal p.signal ≡ false = not_eq q.signal p.signal ne in
      ap (λ b. cond (shows_same g p.signal q.signal && cond b false true) v (pos 0)) test
      ∙ go (shows_same g p.signal q.signal) v
      ∙ ap (λ b. cond b v (pos 0)) (board_tells g p q ip iq)
      ∙ ap (λ o. cond (q.board == p.board) (pos (number_at numbers q) *ℤ pays o) (pos 0)) (outcome_tells g p q ip iq)
    where
      go : (b : Bool) (v : ℤ) → cond (b && true) v (pos 0) ≡ cond b v (pos 0)
      go true v = refl
      go false v = refl

  own_place : (i : ℕ) → beside i i ≡ pos 0
  own_place i =
      let test : eqb i i ≡ true = (Decides-eqb i i).1 refl in
      ap (λ b. cond (shows_same g i i && cond b false true) (paid_at i i) (pos 0)) test ∙ go (shows_same g i i)
    where
      go : (b : Bool) → cond (b && false) (paid_at i i) (pos 0) ≡ pos 0
      go true = refl
      go false = refl

  -- what a signal is paid: by the places before its own, and by those behind it
  pub place_paid : (on : ℕ → Bool) (places : List Place) → AreWhole g on places → (n : ℕ) (d : Place) → n < length places
      → deal_sum g numbers pays (get_or places n d).signal ≡ sum_z (by_place (get_or places n d)) (take n places)
      +ℤ sum_z (by_place (get_or places n d)) (drop (n + 1) places)
  place_paid on places are n d l =
      row_paid p.signal (are.once.within n d l) ∙ over_places (beside p.signal) are.once unpaid
      ∙ ap (sum_z f) (sym (take-append-drop n places)) ∙ sum_z-append f (take n places) (drop n places)
      ∙ ap (λ xs. sum_z f (take n places) +ℤ sum_z f xs) (drop_more places n d l)
      ∙ ap (λ z. sum_z f (take n places) +ℤ (z +ℤ sum_z f (drop (n + 1) places))) (own_place p.signal)
      ∙ ap (λ z. sum_z f (take n places) +ℤ z) (+ℤ_idl (sum_z f (drop (n + 1) places)))
      ∙ ap (λ z. z +ℤ sum_z f (drop (n + 1) places)) (sum_z-same_all f (by_place p) (take n places) before)
      ∙ ap (λ z. sum_z (by_place p) (take n places) +ℤ z) (sum_z-same_all f (by_place p) (drop (n + 1) places) behind)
    where
      p : Place
      p = get_or places n d

      f : Place → ℤ
      f q = beside p.signal q.signal

      unpaid : (k : ℕ) → on k ≡ false → beside p.signal k ≡ pos 0
      unpaid k e = ap (λ b. cond (b && cond (eqb k p.signal) false true) (paid_at p.signal k) (pos 0)) (are.closed n d l k e)

      at : (k : ℕ) → k < length places → (k ≡ n → ⊥) → f (get_or places k d) ≡ by_place p (get_or places k d)
      at k m ne = other_place p (get_or places k d) (are.each n d l) (are.each k d m) (λ e. ⊎_elim
          (λ (lt : k < n). apart_from are.once k n d lt l e)
          (λ (ge : n ≤ k). apart_from are.once n k d (omega (arith, ge, ne)) m (sym e))
          (cases_lt k n))

      before : All (λ q. f q ≡ by_place p q) (take n places)
      before i e m =
          let lt : i < n = omega (arith, m, length-take n places) in
          let in' : i < length places = omega arith in
          let is : get_or (take n places) i e ≡ get_or places i d = get_or-take n places i e lt ∙ get_or_default places i e d in' in
          subst (λ q. f q ≡ by_place p q) (sym is) (at i in' (λ same. absurd (omega (arith, same, lt))))

      behind : All (λ q. f q ≡ by_place p q) (drop (n + 1) places)
      behind i e m =
          let in' : n + 1 + i < length places = omega (arith, m, length-drop (n + 1) places) in
          let is : get_or (drop (n + 1) places) i e ≡ get_or places (n + 1 + i) d =
          get_or-drop (n + 1) places i e ∙ get_or_default places (n + 1 + i) e d in' in
          subst (λ q. f q ≡ by_place p q) (sym is) (at (n + 1 + i) in' (λ same. absurd (omega (arith, same))))

-- what the walk up has written for each place
abbrev pub ArePaidBefore : List Place → Pays → List ℕ → List ℤ → Type 0
ArePaidBefore places pays numbers sums =
    (n : ℕ) (d : Place) → n < length places → get_or sums (get_or places n d).signal (pos 0) ≡ paid_by pays numbers (get_or places n d) (take n places)

-- what the walk down has added for each place
abbrev pub ArePaidBehind : List Place → Pays → List ℕ → List ℤ → List ℤ → Type 0
ArePaidBehind places pays numbers sums more =
    (n : ℕ) (d : Place) → n < length places
    → get_or more (get_or places n d).signal (pos 0) ≡ get_or sums (get_or places n d).signal (pos 0)
    +ℤ paid_by pays numbers (get_or places n d) (drop (n + 1) places)

-- the places of all boards
all_whole : (g : Game) (places : List Place) → ArePlaces g places → AreWhole g (λ s. true) places
all_whole g places are = record {
  each = are.each;
  once = record { within = λ i d l. (are.each i d l).within; once = are.once };
  closed = λ i d l k e. absurd (true≢false e);
}

-- both walks give what each signal is paid
pub both_ways : (g : Game) → IsPlain g → (places : List Place) → ArePlaces g places → (pays : Pays) (numbers : List ℕ) (sums more : List ℤ)
    → ArePaidBefore places pays numbers sums → ArePaidBehind places pays numbers sums more
    → (signal : ℕ) → signal < last_count g → get_or more signal (pos 0) ≡ deal_sum g numbers (paid pays) signal
both_ways g plain places are pays numbers sums more up down signal l =
    of_signal (λ s. get_or more s (pos 0) ≡ deal_sum g numbers (paid pays) s) places signal (are.once signal l) (λ n d in'.
    down n d in' ∙ ap (λ z. z +ℤ paid_by pays numbers (get_or places n d) (drop (n + 1) places)) (up n d in')
    ∙ sym (place_paid g plain numbers (paid pays) (λ s. true) places (all_whole g places are) n d in'))

-- no signal has two places
pub are_apart : (g : Game) (places : List Place) → ArePlaces g places → AreApart places
are_apart g places are = apart_from (all_whole g places are).once
