-- From the numbers of a round to those of the round before, and from the classes of a round to those of the next.
use Rattle.std.proofs.Common.{◌≡◌, ◌↔◌, ℕ, zero, suc, ◌+◌, ◌-◌, ◌<◌, ◌≤◌, List, [], ◌∷◌, ◌++◌, length, map, take, drop, get_or, refl, sym, ap, ◌∙◌, subst}
use Rattle.std.proofs.{Common.{arith}, lemmas.List.{get_or-drop, length-drop, take_more}}
use Rattle.std.proofs.{lemmas.List.FromFn.{get_or-range_with_len, length-range_with_len, map-range_with_len_more}, lemmas.List.Sorted.{IsPermutation-sym}}
use Rattle.std.specs.List.{All, range_with_len, slice_range}
use Rattle.gs_model.specs.{Game.{Game, round_at, round_count}, Isomorphism.{Isomorphic, IsomorphicFor, Matched}, Numbering.{IsClassesOf}}
use Rattle.gs_model.specs.{SignalClasses.{SameClass}, Signals.{Signal, child_count, children, first_child, last_edge, parents, signal_at, signals}}
use Rattle.gs_model.specs.Signatures.{IsSignature}
use Rattle.gs_model.proofs.{Bijections.{IsPermutation-from_Matched_members, Matched-from_IsPermutation_members}, Children.{children-run}, Order.{sorts_equal}}
use Rattle.gs_model.proofs.{Ranges.{length-parents}, Signatures.{Matched-map, Matched-unmap}, Extends.{before_last, parents_below}}
use Rattle.gs_model.proofs.SingleCards.{rounds_after, children_within}
use Rattle.gs_iso.specs.{KeyNumbers.{IsKeyClasses}, Numbers.{AreMarks, IsNumbering, child_part, class_key, marks_under}, Orders.{mark_lt}}
use Rattle.gs_iso.proofs.{FirstSeen.{classes_like}, Exact.{mark_order, mark_ranks, pairs}}

-- ---- isomorphism before the last round

isomorphic_before : (g : Game) (round : ℕ) → round < round_count g → (s t : Signal)
    → Isomorphic g round s t ≡ IsomorphicFor g (round_at g (suc round) ∷ drop (suc round) g.rounds) s t
isomorphic_before g round l s t = ap (λ rs. IsomorphicFor g rs s t) (rounds_after g round l)

-- a run of numbers by their places
take_run : (xs : List ℕ) (a n : ℕ) → a + n ≤ length xs → take n (drop a xs) ≡ map (λ x. get_or xs x 0) (range_with_len a n)
take_run xs a zero l = refl
take_run xs a (suc n) l =
    let e : suc n ≡ n + 1 = omega arith in
    let long = length-drop a xs in
    let at = λ (x : ℕ). get_or xs x 0 in
    ap (λ k. take k (drop a xs)) e ∙ take_more (drop a xs) n 0 (omega (arith, long, l))
    ∙ ap (λ (ys : List ℕ). ys ++ get_or (drop a xs) n 0 ∷ []) (take_run xs a n (omega (arith, l)))
    ∙ ap (λ (v : ℕ). map at (range_with_len a n) ++ v ∷ []) (get_or-drop a xs n 0)
    ∙ sym (map-range_with_len_more at a n (a + n) refl)
    ∙ ap (λ k. map at (range_with_len a k)) (sym e)

pub slice_run : (xs : List ℕ) (first end n : ℕ) → first + n ≡ end → end ≤ length xs
    → slice_range xs first end ≡ map (λ x. get_or xs x 0) (range_with_len first n)
slice_run xs first end n e l =
    let k : end - first ≡ n = omega (arith, e) in
    ap (λ k. take k (drop first xs)) k ∙ take_run xs first n (omega (arith, e, l))

-- the children of a signal are in the next round
run_in : (g : Game) (round i : ℕ) → i < length (signals g round) → All (λ x. x
    < length (signals g (suc round))) (range_with_len (first_child g round i) (child_count g round i))
run_in g round i l k d lk =
    let n = length-range_with_len (first_child g round i) (child_count g round i) in
    let x = get_or-range_with_len (first_child g round i) (child_count g round i) k d (omega (arith, lk, n)) in
    omega (arith, x, lk, n, children_within g round i l)

module _ (g : Game) (round : ℕ) (l : round < round_count g) (numbers marks : List ℕ) (n : IsNumbering g (suc round) numbers)
    (m : AreMarks g (suc round) numbers marks) where
  abbrev child : ℕ → ℕ × Signal
  child x = (last_edge g.copies (signal_at g (suc round) x), signal_at g (suc round) x)

  abbrev mark : ℕ → ℕ
  mark x = get_or marks x 0

  abbrev Alike : ℕ × Signal → ℕ × Signal → Type 0
  Alike a b = (a.0 ≡ b.0) × IsomorphicFor g (drop (suc round) g.rounds) a.1 b.1

  abbrev IsIn : ℕ → Type 0
  IsIn x = x < length (signals g (suc round))

  -- equal marks are alike children
  alike : (x y : ℕ) → IsIn x → IsIn y → (mark x ≡ mark y) ↔ Alike (child x) (child y)
  alike x y lx ly =
      let both = n.same x y (omega (arith, lx, n.long)) (omega (arith, ly, n.long)) in
      let same = m.same x y (omega (arith, lx, m.long)) (omega (arith, ly, m.long)) in (
        (λ e. (ap (λ (p : ℕ × ℕ). p.0) (same.0 e), both.0 (ap (λ (p : ℕ × ℕ). p.1) (same.0 e)))),
        (λ a. same.1 (pairs (child_part g (suc round) numbers x) (child_part g (suc round) numbers y) a.0 (both.1 a.1))),
      )

  -- equal signatures are isomorphism, where equal numbers are that in the next round
  pub mark_law : (i j : ℕ) → i < length (signals g round) → j < length (signals g round) → (a b : List ℕ)
      → IsSignature mark_lt (marks_under g round marks i) a → IsSignature mark_lt (marks_under g round marks j) b
      → (a ≡ b) ↔ Isomorphic g round (signal_at g round i) (signal_at g round j)
  mark_law i j li lj a b ha hb =
      let r = round_at g (suc round) in
      let s = signal_at g round i in
      let t = signal_at g round j in
      let xs = range_with_len (first_child g round i) (child_count g round i) in
      let ys = range_with_len (first_child g round j) (child_count g round j) in
      let R = λ (x y : ℕ). Alike (child x) (child y) in
      let es = children-run g round i li in
      let et = children-run g round j lj in
      let e = sorts_equal mark_lt mark_ranks mark_order.exact (map mark xs) a (map mark ys) b ha.moved hb.moved ha.sorted hb.sorted in
      subst (λ P. (a ≡ b) ↔ P) (sym (isomorphic_before g round l s t)) (
        (λ q. subst (λ l. Matched Alike l (children g r t)) (sym es) (subst (λ l. Matched Alike (map child xs) l) (sym et) (Matched-map Alike child xs ys
            (Matched-from_IsPermutation_members R mark IsIn IsIn (λ x y p q k. (alike x y p q).0 k) xs ys (run_in g round i li) (run_in g round j lj)
            (IsPermutation-sym (map mark ys) (map mark xs) (e.0 q)))))),
        (λ q. e.1 (IsPermutation-sym (map mark xs) (map mark ys)
            (IsPermutation-from_Matched_members R mark IsIn IsIn (λ x y p q k. (alike x y p q).1 k) xs ys (run_in g round i li) (run_in g round j lj)
            (Matched-unmap Alike child xs ys (subst (λ l. Matched Alike l (map child ys)) es (subst (λ l. Matched Alike (children g r s) l) et q)))))),
      )

-- the same for a number of the next round that is not written as a successor
pub mark_law_at : (g : Game) (round next : ℕ) → suc round ≡ next → round < round_count g → (numbers marks : List ℕ) → IsNumbering g next numbers
    → AreMarks g next numbers marks
    → (i j : ℕ) → i < length (signals g round) → j < length (signals g round) → (a b : List ℕ)
    → IsSignature mark_lt (marks_under g round marks i) a → IsSignature mark_lt (marks_under g round marks j) b
    → (a ≡ b) ↔ Isomorphic g round (signal_at g round i) (signal_at g round j)
mark_law_at g round next e l numbers marks n m =
    mark_law g round l numbers marks (subst (λ r. IsNumbering g r numbers) (sym e) n) (subst (λ r. AreMarks g r numbers marks) (sym e) m)

-- where each edge weighs 1, numbers are marks
pub marks_light : (g : Game) (round : ℕ) (numbers : List ℕ) → IsNumbering g round numbers
    → ((i : ℕ) → i < length (signals g round) → last_edge g.copies (signal_at g round i) ≡ 1) → AreMarks g round numbers numbers
marks_light g round numbers n light = record {
  long = n.long;
  same = λ x y lx ly. (
    (λ e. pairs (child_part g round numbers x) (child_part g round numbers y) (light x (omega (arith, lx, n.long))
        ∙ sym (light y (omega (arith, ly, n.long)))) e),
    (λ e. ap (λ (p : ℕ × ℕ). p.1) e),
  );
}

-- ---- classes of the next round

-- what the classes of a round are
abbrev pub AreRoundClasses : Game → ℕ → List ℕ → Type 0
AreRoundClasses g round classes = IsClassesOf (λ i j. SameClass g round (signal_at g round i) (signal_at g round j)) classes

-- by the classes of a round and the numbers of the next, the classes of equal keys are those of the next round
pub next_classes : (g : Game) (round : ℕ) (above numbers classes : List ℕ) → length above ≡ length (signals g round) → AreRoundClasses g round above
    → IsNumbering g (suc round) numbers → length classes ≡ length numbers → IsKeyClasses (class_key above (parents g (suc round)) numbers) classes
    → AreRoundClasses g (suc round) classes
next_classes g round above numbers classes la ha n long h =
    classes_like (λ i j. key i ≡ key j) (λ i j. SameClass g (suc round) (signal_at g (suc round) i) (signal_at g (suc round) j)) classes like h
  where
    parent : ℕ → ℕ
    parent i = get_or (parents g (suc round)) i 0

    key : ℕ → ℕ × ℕ
    key i = (get_or above (parent i) 0, get_or numbers i 0)

    below : (i : ℕ) → i < length classes → parent i < length above
    below i l = let p = parents_below g round i 0 (omega (arith, l, long, n.long, length-parents g (suc round))) in omega (arith, p, la)

    at : (i : ℕ) → i < length classes → take round (signal_at g (suc round) i) ≡ signal_at g round (parent i)
    at i l = before_last g round i (omega (arith, l, long, n.long))

    like : (i j : ℕ) → i < length classes → j < length classes → (key i ≡ key j)
        ↔ SameClass g (suc round) (signal_at g (suc round) i) (signal_at g (suc round) j)
    like i j li lj =
        let a = n.same i j (omega (arith, li, long)) (omega (arith, lj, long)) in
        let b = ha.same (parent i) (parent j) (below i li) (below j lj) in
        let there : SameClass g round (take round (signal_at g (suc round) i)) (take round (signal_at g (suc round) j))
        ≡ SameClass g round (signal_at g round (parent i)) (signal_at g round (parent j)) =
        ap (λ s. SameClass g round s (take round (signal_at g (suc round) j))) (at i li)
        ∙ ap (λ s. SameClass g round (signal_at g round (parent i)) s) (at j lj) in (
          (λ e. (a.0 (ap (λ (p : ℕ × ℕ). p.1) e), subst (λ (P : Type 0). P) (sym there) (b.0 (ap (λ (p : ℕ × ℕ). p.0) e)))),
          (λ s.
              let m : get_or numbers i 0 ≡ get_or numbers j 0 = a.1 s.0 in
              let c : get_or above (parent i) 0 ≡ get_or above (parent j) 0 = b.1 (subst (λ (P : Type 0). P) there s.1) in
              let f : ℕ → ℕ × ℕ = λ k. (k, get_or numbers i 0) in
              let e : ℕ → ℕ × ℕ = λ k. (get_or above (parent j) 0, k) in
              ap f c ∙ ap e m),
        )
