-- Signals with the same public cards, the same own cards and the same strength see the same deals.
use Rattle.std.proofs.Common.{◌≡◌, ℕ, ◌+◌, ◌*◌, ◌-◌, ◌<◌, ◌≤◌, ℤ, List, [], ◌∷◌, length, map, get_or, refl, sym, ap, ◌∙◌, subst, arith, Option, Some, None}
use Rattle.std.proofs.{Common.{Bool, true, false, cond, nat_lt, suc, ◌++◌, ⊎_elim, length-append}, lemmas.Bool.{cases_eq}, lemmas.List.{get_or_append_left}}
use Rattle.std.specs.{Option.{unwrap_or}, HashMap.{HashMap, get}, declared.hash.BuildHasherDefault.{BuildHasherDefault}, declared.hash.FoldHasher.{FoldHasher}}
use Rattle.std.proofs.lemmas.List.Sorted.{IsPermutation-refl}
use Rattle.std.specs.{Prelude.{min, ◌&&◌}, List.{enumerate_from}, List.Sorted.{IsPermutation}, Int.{bit_at}}
use Rattle.gs_lossless.specs.Alike.{AreAlike, AreStandIns, seen, seen_by}
use Rattle.gs_model.specs.{Deals.{deal_of, deal_weight, own_ways, path_weight, same_public}, Cards.{left_after}}
use Rattle.gs_model.specs.{Game.{Game, round_count}, Outcome.{outcome}}
use Rattle.gs_model.specs.{Signals.{Signal, left_by, own_cards, public_cards, signal_at, signals}, ViewTree.{signal_outcome, signal_strength}}
use Rattle.gs_model.proofs.{Basics.{flat_map-same}, Beside.{length-left_by}, Exchanged.{and_both, cell, map-flat_map}}
use Rattle.gs_model.proofs.{Facing.{leaves_are_deals, row-of}, Listed.{left_at}}
use Rattle.gs_iso.proofs.{Exact.{child_eq, child_exact}, Numbered.{at_new}}
use Rattle.gs_tree.specs.{Boards.{AreBoards}, Masks.{AreMasks}, Walk.{last_count, shows_same}}
use Rattle.gs_tree.proofs.{Beside.{left_by_cards, times}, Same.{one_list, public_alike, public_self}, Weighed.{path_one}}

-- lists with the same items
same_items : (xs ys : List ℕ) → length xs ≡ length ys → ((k : ℕ) → get_or xs k 0 ≡ get_or ys k 0) → xs ≡ ys
same_items [] [] l h = refl
same_items [] (y ∷ ys) l h = absurd (omega arith)
same_items (x ∷ xs) [] l h = absurd (omega arith)
same_items (x ∷ xs) (y ∷ ys) l h =
    ap (λ (z : ℕ). z ∷ xs) (h 0) ∙ ap (λ (zs : List ℕ). y ∷ zs) (same_items xs ys (omega (arith, l)) (λ k. h (suc k)))

-- a possible deal as player 1 sees it
abbrev one_seen : List ℕ → ℕ → ℤ → ℕ → List (ℕ × ℤ × ℕ)
one_seen keys weight outcome two = cond (nat_lt 0 weight) ((get_or keys two 0, outcome, weight) ∷ []) []

cell_seen : (g : Game) (keys : List ℕ) (a b : ℕ × Signal) → map (seen_by keys) (cell g a b)
    ≡ one_seen keys (deal_weight g a.1 b.1) (signal_outcome g a.1 b.1) b.0
cell_seen g keys a b = go (nat_lt 0 (deal_weight g a.1 b.1))
  where
    go : (t : Bool) → map (seen_by keys) (cond t (deal_of g a b ∷ []) [])
        ≡ cond t ((get_or keys b.0 0, signal_outcome g a.1 b.1, deal_weight g a.1 b.1) ∷ []) []
    go true = refl
    go false = refl

-- whether two hands are equal
abbrev pub hand_eq : (ℕ × ℕ) × (ℕ × ℕ) → (ℕ × ℕ) × (ℕ × ℕ) → Bool
hand_eq x y = child_eq x.0 y.0 && child_eq x.1 y.1

-- stand-ins of the first signals
pub record AreHanded (g : Game) (keys firsts : List ℕ) (place : ℕ) : Type 0 where
  pub long : length firsts ≡ place
  pub before : (i : ℕ) → i < place → get_or firsts i 0 ≤ i
  pub alike : (i : ℕ) → i < place → AreAlike g keys i (get_or firsts i 0)

pub handed_more : (g : Game) (keys firsts : List ℕ) (place first : ℕ) → AreHanded g keys firsts place → first ≤ place → AreAlike g keys place first
    → AreHanded g keys (firsts ++ first ∷ []) (place + 1)
handed_more g keys firsts place first h le like =
    let span = length-append firsts (first ∷ []) in
    let new : get_or (firsts ++ first ∷ []) place 0 ≡ first = ap (λ k. get_or (firsts ++ first ∷ []) k 0) (sym h.long) ∙ at_new firsts first in
    let old : (i : ℕ) → i < place → get_or (firsts ++ first ∷ []) i 0 ≡ get_or firsts i 0 =
    λ i l. get_or_append_left firsts (first ∷ []) 0 i (omega (arith, l, h.long)) in
    record {
      long = omega (arith, span, h.long);
      before = λ i l. ⊎_elim
          (λ (e : i ≡ place). omega (arith, ap (λ k. get_or (firsts ++ first ∷ []) k 0) e, new, le, e))
          (λ ne. omega (arith, old i (omega (arith, l, ne)), h.before i (omega (arith, l, ne))))
          (cases_eq i place);
      alike = λ i l. ⊎_elim
          (λ (e : i ≡ place). subst (AreAlike g keys i) (sym (ap (λ k. get_or (firsts ++ first ∷ []) k 0) e ∙ new))
          (subst (λ k. AreAlike g keys k first) (sym e) like))
          (λ ne. subst (AreAlike g keys i) (sym (old i (omega (arith, l, ne)))) (h.alike i (omega (arith, l, ne))))
          (cases_eq i place);
    }

-- the hand of a last-round signal: the first signal on its board, its strength, its own cards as bits, and its key
abbrev pub hand_at : Game → List ℕ → List ℕ → List ℕ → ℕ → (ℕ × ℕ) × (ℕ × ℕ)
hand_at g boards masks keys i = ((get_or boards i 0, signal_strength g (signal_at g (round_count g) i)), (get_or masks i 0, get_or keys i 0))

-- the signals that are kept for hands have these hands
abbrev pub FindsHands : Game → List ℕ → List ℕ → List ℕ → HashMap ((ℕ × ℕ) × (ℕ × ℕ)) ℕ (BuildHasherDefault FoldHasher) → ℕ → Type 0
FindsHands g boards masks keys seen signal = (hand : (ℕ × ℕ) × (ℕ × ℕ)) (earlier : ℕ) → get hand_eq seen hand ≡ Some earlier
    → (earlier < signal) × (hand_at g boards masks keys earlier ≡ hand)

hand_exact : (x y : (ℕ × ℕ) × (ℕ × ℕ)) → hand_eq x y ≡ true → x ≡ y
hand_exact x y e =
    let b = and_both (child_eq x.0 y.0) (child_eq x.1 y.1) e in
    ap (λ (h : ℕ × ℕ). (h, x.1)) ((child_exact x.0 y.0).0 b.0) ∙ ap (λ (h : ℕ × ℕ). (y.0, h)) ((child_exact x.1 y.1).0 b.1)

-- one more signal, kept for its hand
pub finds_more : (g : Game) (boards masks keys : List ℕ) (old new : HashMap ((ℕ × ℕ) × (ℕ × ℕ)) ℕ (BuildHasherDefault FoldHasher)) (signal : ℕ)
    (hand : (ℕ × ℕ) × (ℕ × ℕ)) → FindsHands g boards masks keys old signal → hand ≡ hand_at g boards masks keys signal
    → ((q : (ℕ × ℕ) × (ℕ × ℕ)) → get hand_eq new q ≡ cond (hand_eq hand q) (Some signal) (get hand_eq old q))
    → FindsHands g boards masks keys new (signal + 1)
finds_more g boards masks keys old new signal hand h is step q earlier found = go (hand_eq hand q) refl (sym (step q) ∙ found)
  where
    go : (b : Bool) → hand_eq hand q ≡ b → cond b (Some signal) (get hand_eq old q) ≡ Some earlier
        → (earlier < signal + 1) × (hand_at g boards masks keys earlier ≡ q)
    go true same f =
        let e : signal ≡ earlier = cc in
        (omega (arith, e), ap (hand_at g boards masks keys) (sym e) ∙ sym is ∙ hand_exact hand q same)
    go false other f = let r = h q earlier f in (omega (arith, r.0), r.1)

alike_self : (g : Game) (keys : List ℕ) (i : ℕ) → AreAlike g keys i i
alike_self g keys i = record { key = refl; path = refl; deals = IsPermutation-refl (seen g keys i) }

-- a signal with no earlier one of its hand stands for itself
pub handed_itself : (g : Game) (keys firsts : List ℕ) (place : ℕ) → AreHanded g keys firsts place → AreHanded g keys (firsts ++ place ∷ []) (place + 1)
handed_itself g keys firsts place h = handed_more g keys firsts place place h (omega arith) (alike_self g keys place)

module _ (g : Game) (boards nexts masks keys : List ℕ) (on : AreBoards g boards nexts) (held : AreMasks g masks) where
  at : ℕ → Signal
  at i = signal_at g (round_count g) i

  path_is : (i : ℕ) → i < last_count g → path_weight g.copies (signal_at g (round_count g) i) ≡ 1
  path_is i l = omega (arith, (leaves_are_deals g i l).0, path_one g.copies (signal_at g (round_count g) i) held.single)

  module _ (i j : ℕ) (li : i < last_count g) (lj : j < last_count g) (hand : hand_at g boards masks keys i ≡ hand_at g boards masks keys j) where
    abbrev s : Signal
    s = signal_at g (round_count g) i

    abbrev t : Signal
    t = signal_at g (round_count g) j

    board : get_or boards i 0 ≡ get_or boards j 0
    board = ap (λ (h : (ℕ × ℕ) × (ℕ × ℕ)). h.0.0) hand

    strong : signal_strength g s ≡ signal_strength g t
    strong = ap (λ (h : (ℕ × ℕ) × (ℕ × ℕ)). h.0.1) hand

    mask : get_or masks i 0 ≡ get_or masks j 0
    mask = ap (λ (h : (ℕ × ℕ) × (ℕ × ℕ)). h.1.0) hand

    path : path_weight g.copies s ≡ path_weight g.copies t
    path = path_is i li ∙ sym (path_is j lj)

    same : same_public s t ≡ true
    same =
        let f : ℕ = get_or boards j 0 in
        let first : shows_same g i f ≡ true = subst (λ (k : ℕ). shows_same g i k ≡ true) board (on.first_same i li) in
        let other : shows_same g j f ≡ true = on.first_same j lj in
        let back : shows_same g f j ≡ true = sym (public_alike t (signal_at g (round_count g) f) t other) ∙ public_self t in
        public_alike s (signal_at g (round_count g) f) t first ∙ back

    own : (c : ℕ) → min (times c (own_cards s)) 1 ≡ min (times c (own_cards t)) 1
    own c = sym (held.held i c li) ∙ ap (λ (m : ℕ). bit_at m c) mask ∙ held.held j c lj

    left : left_by g.copies s ≡ left_by g.copies t
    left = same_items (left_by g.copies s) (left_by g.copies t) (length-left_by g.copies s ∙ sym (length-left_by g.copies t)) each
      where
        read : (u : Signal) (c : ℕ) → get_or (left_by g.copies u) c 0 ≡ get_or g.copies c 0 - times c (own_cards u) - times c (public_cards u)
        read u c = ap (λ (l : List ℕ). get_or l c 0) (left_by_cards g.copies u)
            ∙ omega (arith, left_at (left_after g.copies (own_cards u)) (public_cards u) c, left_at g.copies (own_cards u) c)

        each : (c : ℕ) → get_or (left_by g.copies s) c 0 ≡ get_or (left_by g.copies t) c 0
        each c = omega (arith, read s c, read t c, own c, held.single c, ap (times c) (one_list s t same))

    weight : (u : Signal) → deal_weight g s u ≡ deal_weight g t u
    weight u =
        ap (λ (b : Bool). cond b (path_weight g.copies s * own_ways (left_by g.copies s) u) 0) (public_alike s t u same)
        ∙ ap (λ (p : ℕ). cond (same_public t u) (p * own_ways (left_by g.copies s) u) 0) path
        ∙ ap (λ (l : List ℕ). cond (same_public t u) (path_weight g.copies t * own_ways l u) 0) left

    result : (u : Signal) → signal_outcome g s u ≡ signal_outcome g t u
    result u = ap (λ (n : ℕ). outcome g.bonus g.ranking n (signal_strength g u)) strong

    cells : (b : ℕ × Signal) → map (seen_by keys) (cell g (i, s) b) ≡ map (seen_by keys) (cell g (j, t) b)
    cells b =
        cell_seen g keys (i, s) b
        ∙ ap (λ (w : ℕ). one_seen keys w (signal_outcome g s b.1) b.0) (weight b.1)
        ∙ ap (λ (o : ℤ). one_seen keys (deal_weight g t b.1) o b.0) (result b.1)
        ∙ sym (cell_seen g keys (j, t) b)

    sees : seen g keys i ≡ seen g keys j
    sees =
        let all : List (ℕ × Signal) = enumerate_from 0 (signals g (round_count g)) in
        ap (map (seen_by keys)) (row-of g i li) ∙ map-flat_map (seen_by keys) (cell g (i, s)) all
        ∙ flat_map-same (λ b. map (seen_by keys) (cell g (i, s) b)) (λ b. map (seen_by keys) (cell g (j, t) b)) cells all
        ∙ sym (map-flat_map (seen_by keys) (cell g (j, t)) all) ∙ sym (ap (map (seen_by keys)) (row-of g j lj))

    -- signals with the same hand are alike
    pub alike_hands : AreAlike g keys i j
    alike_hands = record {
      key = ap (λ (h : (ℕ × ℕ) × (ℕ × ℕ)). h.1.1) hand;
      path = path;
      deals = subst (IsPermutation (seen g keys i)) sees (IsPermutation-refl (seen g keys i));
    }

  -- the next signal has the last one of its hand as stand-in, or itself
  pub handed_next : (old : HashMap ((ℕ × ℕ) × (ℕ × ℕ)) ℕ (BuildHasherDefault FoldHasher)) (firsts : List ℕ) (n first : ℕ) (hand : (ℕ × ℕ) × (ℕ × ℕ))
      (earlier : Option ℕ) → n < last_count g → AreHanded g keys firsts n → FindsHands g boards masks keys old n → hand ≡ hand_at g boards masks keys n
      → earlier ≡ get hand_eq old hand → first ≡ unwrap_or earlier n → AreHanded g keys (firsts ++ first ∷ []) (n + 1)
  handed_next old firsts n first hand None l h f is e k =
      let q : first ≡ n = k in
      subst (λ (x : ℕ). AreHanded g keys (firsts ++ x ∷ []) (n + 1)) (sym q) (handed_itself g keys firsts n h)
  handed_next old firsts n first hand (Some j) l h f is e k =
      let q : first ≡ j = k in
      let r = f hand j (sym e) in
      let in' : j < last_count g = omega (arith, r.0, l) in
      handed_more g keys firsts n first h (omega (arith, q, r.0)) (subst (AreAlike g keys n) (sym q) (alike_hands n j l in' (sym (r.1 ∙ is))))

pub handed_all : (g : Game) (keys firsts : List ℕ) (place : ℕ) → AreHanded g keys firsts place → place ≡ last_count g → AreStandIns g keys firsts
handed_all g keys firsts place h e = record {
  long = h.long ∙ e;
  before = λ i l. h.before i (omega (arith, l, e));
  alike = λ i l. h.alike i (omega (arith, l, e));
}
