-- A pairing of equal parts is one of isomorphic children, and none is none.
use Rattle.std.proofs.Common.{◌≡◌, ◌↔◌, ℕ, ℤ, pos, suc, ◌+◌, ◌<◌, ◌^◌, List, [], ◌∷◌, ◌==◌, ◌/◌, length, map, drop, get_or, refl, sym, ap, ◌∙◌, subst, arith}
use Rattle.std.proofs.{Common.{Bool, true, not, Option, None, Some}, lemmas.List.{length-map}, lemmas.List.Filters.{length-filter_both}}
use Rattle.std.proofs.lemmas.List.FromFn.{get_or-map-range_with_len, length-map-range_with_len}
use Rattle.std.specs.{Prelude.{MatchOption}, List.{filter, range_with_len}}
use Rattle.gs_game.specs.Limits.{IsWithinLimits}
use Rattle.gs_model.specs.{Deals.{Deal, deals, path_weight}, Game.{Game, Round, round_at, round_count}, Isomorphism.{IsomorphicFor, Matched}}
use Rattle.gs_model.specs.{Signals.{Signal, child_count, children, first_child, last_edge, signal_at, signals}, ViewTree.{leaves}}
use Rattle.gs_model.proofs.{Children.{children-run}, Facing.{leaves_are_deals}, Basics.{drop-all}, SingleCards.{rounds_after, children_within}}
use Rattle.gs_iso.specs.{Numbers.{IsNumbering, child_part}, Pairings.{IsPaired, IsPairedFor, IsPairingAnswer, IsPairingFor, IsPairingOf}}
use Rattle.gs_iso.proofs.{Exact.{leaf_eq, child_eq, child_exact, leaf_exact, pairs}, Pairs.{matched_from_pairing, pairing_from_matched, pairing_like}}

-- a bijection with its places, or none
abbrev Answers : {Y : Type 0} → (Y → Y → Type 0) → List Y → List Y → Option (List ℕ) → Type 0
Answers S us vs m = MatchOption m (Matched S us vs → ⊥) (λ to. Matched S us vs × IsPairingOf S us vs to)

paired_from : {X Y : Type 0} (eq : X → X → Bool) (S : Y → Y → Type 0) (d : X) (e : Y) (xs ys : List X) (us vs : List Y) → length xs ≡ length us
    → length ys ≡ length vs
    → ((k j : ℕ) → k < length xs → j < length ys → (eq (get_or xs k d) (get_or ys j d) ≡ true) ↔ S (get_or us k e) (get_or vs j e))
    → (m : Option (List ℕ)) → IsPairingAnswer eq xs ys m → Answers S us vs m
paired_from eq S d e xs ys us vs p q like None h = λ iso.
    let w = pairing_from_matched S us vs iso in
    h w.0 (pairing_like S (λ x y. eq x y ≡ true) e d us vs xs ys (sym p) (sym q)
    (λ k j l m. (like k j (omega (arith, l, p)) (omega (arith, m, q))).1) w.0 w.1)
paired_from eq S d e xs ys us vs p q like (Some to) h =
    let w = pairing_like (λ x y. eq x y ≡ true) S d e xs ys us vs p q (λ k j l m. (like k j l m).0) to h in
    (matched_from_pairing S us vs to w, w)

as_paired : (g : Game) (rest : List Round) (s t : Signal) (m : Option (List ℕ))
    → MatchOption m (IsomorphicFor g rest s t → ⊥) (λ to. IsomorphicFor g rest s t × IsPairingFor g rest s t to) → IsPairedFor g rest s t m
as_paired g rest s t None h = h
as_paired g rest s t (Some to) h = h

-- ---- in the last round

pub leaf_answer : (g : Game) (s t : Signal) (ones twos : List (ℕ × ℤ)) → ones ≡ leaves g s → twos ≡ leaves g t → (m : Option (List ℕ))
    → IsPairingAnswer leaf_eq ones twos m → IsPaired g (round_count g) s t m
leaf_answer g s t ones twos is js m h =
    let start : ℕ × ℤ = (0, pos 0) in
    let both = paired_from leaf_eq (λ (a : ℕ × ℤ) (b : ℕ × ℤ). a ≡ b) start start (leaves g s) (leaves g t) (leaves g s) (leaves g t) refl refl
    (λ k j l n. leaf_exact (get_or (leaves g s) k start) (get_or (leaves g t) j start)) m
    (subst (λ l. IsPairingAnswer leaf_eq l (leaves g t) m) is (subst (λ l. IsPairingAnswer leaf_eq ones l m) js h)) in
    subst (λ rs. IsPairedFor g rs s t m) (sym (drop-all g.rounds)) (as_paired g [] s t m both)

-- a signal has no more leaves than the game has deals
pub leaves_few : (g : Game) (i : ℕ) → IsWithinLimits g → i < length (signals g (round_count g)) → length (leaves g (signal_at g (round_count g) i)) < 2 ^ 32
leaves_few g i h l =
    let mine = λ (d : Deal). d.one == i in
    let s = signal_at g (round_count g) i in
    let part : Deal → ℕ × ℤ = λ d. (d.weight / path_weight g.copies s, d.outcome) in
    let a = ap length (leaves_are_deals g i l).2 in
    let b = length-map (filter mine (deals g)) part in
    let c = length-filter_both mine (λ d. not (mine d)) (λ d. refl) (deals g) in
    omega (arith, a, b, c, h.deals_in)

-- ---- before the last round

over : {A B : Type 0} (T : A → A → B → B → Type 0) (a a' b b' : A) (u u' v v' : B) → a ≡ a' → b ≡ b' → u ≡ u' → v ≡ v' → T a' b' u' v' → T a b u v
over T a a' b b' u u' v v' e f p q t =
    subst (λ x. T x b u v) (sym e) (subst (λ x. T a' x u v) (sym f) (subst (λ x. T a' b' x v) (sym p) (subst (λ x. T a' b' u' x) (sym q) t)))

module _ (g : Game) (round : ℕ) (l : round < round_count g) (numbers : List ℕ) (n : IsNumbering g (suc round) numbers) where
  abbrev Alike : ℕ × Signal → ℕ × Signal → Type 0
  Alike a b = (a.0 ≡ b.0) × IsomorphicFor g (drop (suc round) g.rounds) a.1 b.1

  abbrev child : ℕ → ℕ × Signal
  child x = (last_edge g.copies (signal_at g (suc round) x), signal_at g (suc round) x)

  abbrev part : ℕ → ℕ × ℕ
  part = child_part g (suc round) numbers

  abbrev places : ℕ → List ℕ
  places i = range_with_len (first_child g round i) (child_count g round i)

  -- equal parts are alike children
  alike : (x y : ℕ) → x < length (signals g (suc round)) → y < length (signals g (suc round))
      → (child_eq (part x) (part y) ≡ true) ↔ Alike (child x) (child y)
  alike x y lx ly =
      let both = n.same x y (omega (arith, lx, n.long)) (omega (arith, ly, n.long)) in
      let exact = child_exact (part x) (part y) in (
        (λ e. (ap (λ (p : ℕ × ℕ). p.0) (exact.0 e), both.0 (ap (λ (p : ℕ × ℕ). p.1) (exact.0 e)))),
        (λ a. exact.1 (pairs (part x) (part y) a.0 (both.1 a.1))),
      )

  child_paired : (i j : ℕ) → i < length (signals g round) → j < length (signals g round) → (m : Option (List ℕ))
      → IsPairingAnswer child_eq (map part (places i)) (map part (places j)) m
      → IsPaired g round (signal_at g round i) (signal_at g round j) m
  child_paired i j li lj m h =
      let start : ℕ × ℕ = (0, 0) in
      let root : ℕ × Signal = (0, []) in
      let long = λ (k : ℕ). length-map-range_with_len part (first_child g round k) (child_count g round k) in
      let long' = λ (k : ℕ). length-map-range_with_len child (first_child g round k) (child_count g round k) in
      let both = paired_from child_eq Alike start root (map part (places i)) (map part (places j)) (map child (places i)) (map child (places j)) (long i
      ∙ sym (long' i)) (long j ∙ sym (long' j))
      (λ a b la lb.
      let fa : a < child_count g round i = omega (arith, la, long i) in
      let fb : b < child_count g round j = omega (arith, lb, long j) in
      let x = first_child g round i + a in
      let y = first_child g round j + b in
      over (λ p q u v. (child_eq p q ≡ true) ↔ Alike u v) (get_or (map part (places i)) a start) (part x) (get_or (map part (places j)) b start) (part y)
      (get_or (map child (places i)) a root) (child x) (get_or (map child (places j)) b root) (child y)
      (get_or-map-range_with_len part (first_child g round i) (child_count g round i) a x start fa refl)
      (get_or-map-range_with_len part (first_child g round j) (child_count g round j) b y start fb refl)
      (get_or-map-range_with_len child (first_child g round i) (child_count g round i) a x root fa refl)
      (get_or-map-range_with_len child (first_child g round j) (child_count g round j) b y root fb refl)
      (alike x y (omega (arith, fa, children_within g round i li)) (omega (arith, fb, children_within g round j lj)))) m h in
      let r = round_at g (suc round) in
      let s = signal_at g round i in
      let t = signal_at g round j in
      subst (λ rs. IsPairedFor g rs s t m) (sym (rounds_after g round l))
      (as_paired g (r ∷ drop (suc round) g.rounds) s t m
      (subst (λ us. Answers Alike us (children g r t) m) (sym (children-run g round i li))
      (subst (λ vs. Answers Alike (map child (places i)) vs m) (sym (children-run g round j lj)) both)))

-- the children's parts, by the numbers of the next round
abbrev pub child_parts : Game → ℕ → ℕ → List ℕ → ℕ → List (ℕ × ℕ)
child_parts g round next numbers i = map (child_part g next numbers) (range_with_len (first_child g round i) (child_count g round i))

pub child_answer : (g : Game) (round next : ℕ) → suc round ≡ next → round < round_count g → (numbers : List ℕ) → IsNumbering g next numbers → (i j : ℕ)
    → i < length (signals g round) → j < length (signals g round)
    → (ones twos : List (ℕ × ℕ)) → ones ≡ child_parts g round next numbers i → twos ≡ child_parts g round next numbers j → (m : Option (List ℕ))
    → IsPairingAnswer child_eq ones twos m
    → IsPaired g round (signal_at g round i) (signal_at g round j) m
child_answer g round next e l numbers n i j li lj ones twos is js m h =
    child_paired g round l numbers (subst (λ r. IsNumbering g r numbers) (sym e) n) i j li lj m
    (subst (λ r. IsPairingAnswer child_eq (child_parts g round r numbers i) (child_parts g round r numbers j) m) (sym e)
    (subst (λ xs. IsPairingAnswer child_eq xs (child_parts g round next numbers j) m) is (subst (λ ys. IsPairingAnswer child_eq ones ys m) js h)))

-- a signal has no more children than the next round has signals
pub children_few : (g : Game) (round next i : ℕ) (numbers : List ℕ) → IsWithinLimits g → round < round_count g → i < length (signals g round)
    → length (child_parts g round next numbers i) < 2 ^ 32
children_few g round next i numbers h l li =
    omega (
      arith,
      length-map-range_with_len (child_part g next numbers) (first_child g round i) (child_count g round i),
      children_within g round i li,
      h.signals_in (suc round) (omega (arith, l)),
    )
