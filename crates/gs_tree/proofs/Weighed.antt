-- What the deals of a plain game weigh: one for each two signals on a board.
use Rattle.std.proofs.Common.{◌≡◌, ◌+◌, ◌-◌, ◌*◌, ◌<◌, ◌≤◌, ℕ, List, [], ◌∷◌, length, get_or, refl, sym, ap, ◌∙◌, arith, Bool, true, false, cond, eqb}
use Rattle.std.proofs.{Common.{suc, ⊎_elim}, lemmas.Bool.{cases_eq, cases_lt}, lemmas.Grind.{common_steps}, lemmas.List.Sums.{sum_by-cons}}
use Rattle.std.proofs.lemmas.Nat.Bits.{bit_at-zero, bit_at_and, same_from_bits}
use Rattle.std.specs.{Int.{bit_at}, Prelude.{All, ◌&&◌, min, sum_by}, Int.RustNames.{bit_and}}
use Rattle.gs_model.specs.{Cards.{left_after, ways}, Deals.{own_ways, path_weight, same_cards, same_public}, Game.{Game, round_count}}
use Rattle.gs_model.specs.Signals.{Seen, Signal, edge, left_by, own_cards, public_cards, signal_at}
use Rattle.gs_model.proofs.{Exchanged.{and_both, same_cards-is}, Facing.{leaves_are_deals, signals_differ}, Basics.{factors_positive, product_positive}}
use Rattle.gs_model.proofs.{Listed.{length-after, left_at}, Beside.{length-left_by}, SingleCards.{product-le_one}}
use Rattle.gs_tree.specs.{Walk.{deal_at, last_count, shows_same}, Plain.{IsPlain}}
use Rattle.gs_tree.proofs.{Beside.{left_by_cards, times-append}, Hands.{dealt}, Same.{one_list, parted, shaped, shapes}}
use Rattle.gs_game.proofs.Ways.{Single, single_after, times, ways_one, ways_room, ways_some}

-- the ways to a signal and to own groups are one at most
pub path_one : (left : List ℕ) (s : Signal) → Single left → path_weight left s ≤ 1
path_one left [] h = omega arith
path_one left (p ∷ s) h =
    let l1 = left_after left p.own in
    let l2 = left_after l1 p.public in
    let h1 = single_after left p.own h in
    product-le_one (edge left p) (path_weight l2 s) (product-le_one (ways left p.own) (ways l1 p.public) (ways_one left p.own h) (ways_one l1 p.public h1))
    (path_one l2 s (single_after l1 p.public h1))

own_one : (left : List ℕ) (s : Signal) → Single left → own_ways left s ≤ 1
own_one left [] h = omega arith
own_one left (p ∷ s) h = product-le_one (ways left p.own) (own_ways (left_after left p.own) s) (ways_one left p.own h)
    (own_one (left_after left p.own) s (single_after left p.own h))

-- own groups can be taken just where there are enough copies of each kind
own_some : (left : List ℕ) (s : Signal) → ((card : ℕ) → card < length left → times card (own_cards s) ≤ get_or left card 0) → 0 < own_ways left s
own_some left [] h = omega arith
own_some left (p ∷ s) h =
    let rest = left_after left p.own in
    product_positive (ways left p.own) (own_ways rest s)
    (ways_some left p.own (λ card l. omega (arith, h card l, times-append card p.own (own_cards s))))
    (own_some rest s (λ card l. omega (
      arith,
      h card (omega (arith, l, length-after left p.own)),
      times-append card p.own (own_cards s),
      left_at left p.own card,
    )))

own_room : (left : List ℕ) (s : Signal) → 0 < own_ways left s → (card : ℕ) → card < length left → times card (own_cards s) ≤ get_or left card 0
own_room left [] h card l = omega arith
own_room left (p ∷ s) h card l =
    let rest = left_after left p.own in
    let b = factors_positive (ways left p.own) (own_ways rest s) h in
    omega (
      arith,
      ways_room left p.own b.0 card l,
      own_room rest s b.1 card (omega (arith, l, length-after left p.own)),
      times-append card p.own (own_cards s),
      left_at left p.own card,
    )

-- a signal shows no more copies of a kind than there are
path_room : (left : List ℕ) (s : Signal) → 0 < path_weight left s → (card : ℕ) → card < length left
    → times card (own_cards s) + times card (public_cards s) ≤ get_or left card 0
path_room left [] h card l = omega arith
path_room left (p ∷ s) h card l =
    let l1 = left_after left p.own in
    let l2 = left_after l1 p.public in
    let b = factors_positive (edge left p) (path_weight l2 s) h in
    let e = factors_positive (ways left p.own) (ways l1 p.public) b.0 in
    let in1 : card < length l1 = omega (arith, l, length-after left p.own) in
    let in2 : card < length l2 = omega (arith, in1, length-after l1 p.public) in
    omega (
      arith,
      ways_room left p.own e.0 card l,
      ways_room l1 p.public e.1 card in1,
      path_room l2 s b.1 card in2,
      left_at left p.own card,
      left_at l1 p.public card,
      times-append card p.own (own_cards s),
      times-append card p.public (public_cards s),
    )

-- the copies that a signal leaves
copies_by : (left : List ℕ) (s : Signal) (card : ℕ) → get_or (left_by left s) card 0
    ≡ get_or left card 0 - times card (own_cards s) - times card (public_cards s)
copies_by left s card =
    ap (λ l. get_or l card 0) (left_by_cards left s)
    ∙ omega (arith, left_at (left_after left (own_cards s)) (public_cards s) card, left_at left (own_cards s) card)

single_by : (left : List ℕ) (s : Signal) → Single left → Single (left_by left s)
single_by left s h card = omega (arith, copies_by left s card, h card)

-- a card beyond the deck is not among cards of the deck
times_beyond : (card kinds : ℕ) (xs : List ℕ) → All (λ x. x < kinds) xs → kinds ≤ card → times card xs ≡ 0
times_beyond card kinds [] h le = refl
times_beyond card kinds (x ∷ xs) h le =
    let f : ℕ → ℕ = λ y. cond (eqb y card) 1 0 in
    let below : x < kinds = h 0 0 (omega arith) in
    let other : eqb x card ≡ false = grind (arith, below, le) in
    let here : f x ≡ 0 = ap {B = ℕ} (λ b. cond b 1 0) other in
    let rest : sum_by f xs ≡ 0 = times_beyond card kinds xs (λ k d l. h (suc k) d (omega (arith, l))) le in
    sum_by-cons f x xs ∙ omega (arith, here, rest)

module _ (g : Game) (single : Single g.copies) where
  path_single : (i : ℕ) → i < last_count g → path_weight g.copies (signal_at g (round_count g) i) ≡ 1
  path_single i l = omega (arith, (leaves_are_deals g i l).0, path_one g.copies (signal_at g (round_count g) i) single)

  -- own cards of two signals on a board can be dealt in one way where they have none in common
  own_apart : (i k : ℕ) → i < last_count g → k < last_count g → shows_same g i k ≡ true
      → ((c : ℕ) → min (times c (own_cards (signal_at g (round_count g) i))) (times c (own_cards (signal_at g (round_count g) k))) ≡ 0)
      → own_ways (left_by g.copies (signal_at g (round_count g) i)) (signal_at g (round_count g) k) ≡ 1
  own_apart i k l m same apart =
      let s : Signal = signal_at g (round_count g) i in
      let t : Signal = signal_at g (round_count g) k in
      let left : List ℕ = left_by g.copies s in
      let room : (c : ℕ) → c < length left → times c (own_cards t) ≤ get_or left c 0 = λ c h. omega (
        arith,
        path_room g.copies t (leaves_are_deals g k m).0 c (omega (arith, h, length-left_by g.copies s)),
        copies_by g.copies s c,
        ap (times c) (one_list s t same),
        apart c,
        single c,
      ) in
      omega (arith, own_some left t room, own_one left t (single_by g.copies s single))

  -- and only there
  apart_own : (i k : ℕ) → i < last_count g → 0 < own_ways (left_by g.copies (signal_at g (round_count g) i)) (signal_at g (round_count g) k) → (c : ℕ)
      → min (times c (own_cards (signal_at g (round_count g) i))) (times c (own_cards (signal_at g (round_count g) k))) ≡ 0
  apart_own i k l h c =
      let s : Signal = signal_at g (round_count g) i in
      let t : Signal = signal_at g (round_count g) k in
      let left : List ℕ = left_by g.copies s in
      ⊎_elim
      (λ (in' : c < length g.copies).
      omega (arith, own_room left t h c (omega (arith, in', length-left_by g.copies s)), copies_by g.copies s c, single c))
      (λ (ge : length g.copies ≤ c).
      omega (arith, times_beyond c (length g.copies) (own_cards s) (dealt g (round_count g) i (omega arith) l).own_in ge))
      (cases_lt c (length g.copies))

  -- what the deal of two signals on a board weighs, by the masks of their own cards
  pub mask_weight_is : (i k a b : ℕ) → i < last_count g → k < last_count g → shows_same g i k ≡ true
      → ((c : ℕ) → bit_at a c ≡ min (times c (own_cards (signal_at g (round_count g) i))) 1)
      → ((c : ℕ) → bit_at b c ≡ min (times c (own_cards (signal_at g (round_count g) k))) 1)
      → cond {A = ℕ} (eqb (bit_and a b) 0) 1 0 ≡ (deal_at g i k).weight
  mask_weight_is i k a b l m same x y = ⊎_elim
      (λ (none : bit_and a b ≡ 0).
      let is : eqb (bit_and a b) 0 ≡ true = grind (arith, none) in
      ap {B = ℕ} (λ t. cond t 1 0) is
      ∙ sym (weight ∙ ap (λ w. path * w) (own_apart i k l m same (apart none)) ∙ ap (λ w. w * 1) (path_single i l)))
      (λ (some : bit_and a b ≡ 0 → ⊥).
      let is : eqb (bit_and a b) 0 ≡ false = grind (arith, some) in
      let no_way : own ≡ 0 = ⊎_elim
      (λ (way : 0 < own). absurd (some (same_from_bits (bit_and a b) 0 (no_bit way))))
      (λ (h : own ≤ 0). omega (arith, h))
      (cases_lt 0 own) in
      ap {B = ℕ} (λ t. cond t 1 0) is ∙ sym (weight ∙ ap (λ w. path * w) no_way ∙ omega arith))
      (cases_eq (bit_and a b) 0)
    where
      path : ℕ
      path = path_weight g.copies (signal_at g (round_count g) i)

      own : ℕ
      own = own_ways (left_by g.copies (signal_at g (round_count g) i)) (signal_at g (round_count g) k)

      weight : (deal_at g i k).weight ≡ path * own
      weight = ap (λ t. cond t (path * own) 0) same

      apart : bit_and a b ≡ 0 → (c : ℕ)
          → min (times c (own_cards (signal_at g (round_count g) i))) (times c (own_cards (signal_at g (round_count g) k))) ≡ 0
      apart none c =
          let bit : bit_at (bit_and a b) c ≡ 0 = ap (λ n. bit_at n c) none ∙ bit_at-zero c in
          omega (arith, bit, bit_at_and a b c, x c, y c)

      no_bit : 0 < own → (c : ℕ) → bit_at (bit_and a b) c ≡ bit_at 0 c
      no_bit way c =
          let none : bit_at (bit_and a b) c ≡ 0 = omega (arith, bit_at_and a b c, x c, y c, apart_own i k l way c) in
          none ∙ sym (bit_at-zero c)

-- signals of one shape that show the same public and the same own cards are the same
same_signals : (s t : Signal) → shapes s ≡ shapes t → same_public s t ≡ true → own_cards s ≡ own_cards t → s ≡ t
same_signals [] [] e h o = refl
same_signals [] (q ∷ t) e h o = cc
same_signals (p ∷ s) [] e h o = cc
same_signals (p ∷ s) (q ∷ t) e h o =
    let first : ℕ × ℕ = (length p.own, length p.public) in
    let other : ℕ × ℕ = (length q.own, length q.public) in
    let pair : first ≡ other = cc in
    let tail : shapes s ≡ shapes t = cc in
    let b = and_both (same_cards p.public q.public) (same_public s t) h in
    let r = parted p.own q.own (own_cards s) (own_cards t) (ap (λ (x : ℕ × ℕ). x.0) pair) o in
    let public : p.public ≡ q.public = same_cards-is p.public q.public b.0 in
    let here : p ≡ q = ap (λ (x : List ℕ). let m : Seen = record { own = x; public = p.public } in m) r.0
    ∙ ap (λ (x : List ℕ). let m : Seen = record { own = q.own; public = x } in m) public in
    ap (λ (x : Seen). x ∷ s) here ∙ ap (λ (x : Signal). q ∷ x) (same_signals s t tail b.1 r.1)

-- a list of one
only : (xs : List ℕ) → length xs ≡ 1 → xs ≡ get_or xs 0 0 ∷ []
only [] h = absurd (omega arith)
only (x ∷ []) h = refl
only (x ∷ y ∷ xs) h = absurd (omega arith)

times_self : (card : ℕ) → times card (card ∷ []) ≡ 1
times_self card = grind (arith, common_steps)

times_none : (card other : ℕ) → (other ≡ card → ⊥) → times card (other ∷ []) ≡ 0
times_none card other ne = grind (arith, common_steps, ne)

module _ (g : Game) (plain : IsPlain g) where
  at : ℕ → Signal
  at i = signal_at g (round_count g) i

  -- the own card of a signal
  card : ℕ → ℕ
  card i = get_or (own_cards (signal_at g (round_count g) i)) 0 0

  -- the own cards of a signal
  own_is : (i : ℕ) → i < last_count g → own_cards (signal_at g (round_count g) i) ≡ card i ∷ []
  unfolding card
  own_is i l = only (own_cards (signal_at g (round_count g) i)) (plain.one_own i l)

  times_own : (i k : ℕ) → i < last_count g → times k (own_cards (signal_at g (round_count g) i)) ≡ times k (card i ∷ [])
  times_own i k l = ap (times k) (own_is i l)

  pub path_is : (i : ℕ) → i < last_count g → path_weight g.copies (signal_at g (round_count g) i) ≡ 1
  path_is = path_single g plain.single

  -- two signals on a board have two own cards
  cards_differ : (i k : ℕ) → i < last_count g → k < last_count g → (i ≡ k → ⊥) → shows_same g i k ≡ true → card i ≡ card k → ⊥
  cards_differ i k l m ne same e =
      let s : Signal = signal_at g (round_count g) i in
      let t : Signal = signal_at g (round_count g) k in
      let own : own_cards s ≡ own_cards t = own_is i l ∙ ap (λ c. c ∷ []) e ∙ sym (own_is k m) in
      let one : s ≡ t = same_signals s t (shaped g (round_count g) i l ∙ sym (shaped g (round_count g) k m)) same own in
      ⊎_elim
      (λ (lt : i < k). signals_differ g (round_count g) i k lt m one)
      (λ (ge : k ≤ i). signals_differ g (round_count g) k i (omega (arith, ge, ne)) l (sym one))
      (cases_lt i k)

  -- no deal has one signal twice
  own_self : (i : ℕ) → i < last_count g → own_ways (left_by g.copies (signal_at g (round_count g) i)) (signal_at g (round_count g) i) ≡ 0
  own_self i l = ⊎_elim
      (λ way. absurd (omega (arith, apart_own g plain.single i i l way (card i), times_own i (card i) l, times_self (card i))))
      (λ h. omega (arith, h))
      (cases_lt 0 (own_ways (left_by g.copies (signal_at g (round_count g) i)) (signal_at g (round_count g) i)))

  -- each deal has two signals on a board
  own_other : (i k : ℕ) → i < last_count g → k < last_count g → (i ≡ k → ⊥) → shows_same g i k ≡ true
      → own_ways (left_by g.copies (signal_at g (round_count g) i)) (signal_at g (round_count g) k) ≡ 1
  own_other i k l m ne same = own_apart g plain.single i k l m same (λ c. ⊎_elim
      (λ (e : c ≡ card k). omega (arith, times_own i c l, times_none c (card i) (λ f. cards_differ i k l m ne same (f ∙ e))))
      (λ apart. omega (arith, times_own k c m, times_none c (card k) (λ f. apart (sym f))))
      (cases_eq c (card k)))

  -- what the deal of two signals weighs
  pub weight_is : (i k : ℕ) → i < last_count g → k < last_count g → (deal_at g i k).weight ≡ cond (shows_same g i k && cond (eqb k i) false true) 1 0
  weight_is i k l m = go (shows_same g i k) refl
    where
      all : ℕ
      all = path_weight g.copies (signal_at g (round_count g) i) * own_ways (left_by g.copies (signal_at g (round_count g) i)) (signal_at g (round_count g) k)

      go : (b : Bool) → shows_same g i k ≡ b → cond b all 0 ≡ cond (b && cond (eqb k i) false true) 1 0
      go false e = refl
      go true e = ⊎_elim
          (λ (same : k ≡ i).
          let t : eqb k i ≡ true = grind (arith, same) in
          let own : own_ways (left_by g.copies (signal_at g (round_count g) i)) (signal_at g (round_count g) k) ≡ 0 =
          ap (λ x. own_ways (left_by g.copies (signal_at g (round_count g) i)) (signal_at g (round_count g) x)) same ∙ own_self i l in
          ap (λ w. path_weight g.copies (signal_at g (round_count g) i) * w) own ∙ omega arith ∙ sym (ap {B = ℕ} (λ c. cond (cond c false true) 1 0) t))
          (λ ne.
          let t : eqb k i ≡ false = grind (arith, ne) in
          let own = own_other i k l m (λ e. ne (sym e)) e in
          ap (λ w. path_weight g.copies (signal_at g (round_count g) i) * w) own ∙ ap (λ w. w * 1) (path_is i l)
          ∙ sym (ap {B = ℕ} (λ c. cond (cond c false true) 1 0) t))
          (cases_eq k i)

  -- what the deal of two signals on a board weighs
  pub pair_weight_is : (i k : ℕ) → i < last_count g → k < last_count g → shows_same g i k ≡ true → cond {A = ℕ} (eqb k i) 0 1 ≡ (deal_at g i k).weight
  pair_weight_is i k l m same = go (eqb k i) ∙ sym (ap {B = ℕ} (λ b. cond (b && cond (eqb k i) false true) 1 0) same) ∙ sym (weight_is i k l m)
    where
      go : (t : Bool) → cond {A = ℕ} t 0 1 ≡ cond {A = ℕ} (cond t false true) 1 0
      go true = refl
      go false = refl
