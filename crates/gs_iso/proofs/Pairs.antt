-- Matchings of equal members, pairings and bijections.
use Rattle.std.proofs.Common.{◌≡◌, ℕ, ◌+◌, ◌<◌, ◌≤◌, ◌==◌, ◌||◌, List, [], ◌∷◌, ◌++◌, length, map, get_or, refl, sym, ap, ◌∙◌, subst, arith, Bool, true, false}
use Rattle.std.proofs.{Common.{true≢false, cond, eqb, IsPermutation, length-append, ⊎_elim}, lemmas.Bool.{cases_eq, cases_lt}, lemmas.Bool.Decides.{Decides-eqb}}
use Rattle.std.proofs.lemmas.List.{get_or-map, get_or_default, get_or_push, get_or_read, length-map, same_lists}
use Rattle.std.proofs.{lemmas.List.Elements.{All-push, AllZip-get_or, length_all_zip}, lemmas.List.Folds.{Any-from_list_any, list_any-append, list_any_at}}
use Rattle.std.proofs.lemmas.List.FromFn.{get_or-map-range_with_len, length-map-range_with_len, length-range_with_len, get_or-range_with_len}
use Rattle.std.proofs.lemmas.List.Sorted.{All-permutation, IsPermutation-map, IsPermutation-refl, IsPermutation-sym, length_permutation}
use Rattle.std.proofs.lemmas.Map.Keys.{IsDistinct-IsPermutation, IsDistinct-from_apart, apart_from_distinct}
use Rattle.std.specs.List.{All, range_with_len, list_any}
use Rattle.gs_model.specs.{Isomorphism.{Matched}, Matching.{AllDiffer, Edges, IsPerfect}}
use Rattle.gs_model.proofs.{Bijections.{AllZip-from_get_or, AllZip-permuted, AllZip-permuted'}, Graph.{places_in_order}, Order.{lifts}}
use Rattle.gs_match.specs.{declared.graph.NoMatch.{NoMatch}, declared.graph.NoMatch.TheVariants.{Hall, Sides}, Refusal.{IsRefusalOf}}
use Rattle.gs_iso.specs.Pairings.{AreEqualEdges, IsEqualGraph, IsPairingOf, JoinsEqual, joins}

both : (p q : Bool) → cond p q false ≡ true → (p ≡ true) × (q ≡ true)
both true q e = (refl, e)
both false q e = absurd (cc)

first : (p q : Bool) → p ≡ true → (p || q) ≡ true
first true q e = refl
first false q e = absurd (cc)

-- what the edges join
joined : (R : ℕ → ℕ → Type 0) (edges : List (ℕ × ℕ)) → All (λ (e : ℕ × ℕ). R e.0 e.1) edges → (a b : ℕ) → joins edges a b ≡ true → R a b
joined R edges h a b e =
    let f = Any-from_list_any (λ (e : ℕ × ℕ). cond (e.0 == a) (e.1 == b) false) edges e in
    let t = both (f.1.0 == a) (f.1.1 == b) f.4 in
    let r = subst (λ (e : ℕ × ℕ). R e.0 e.1) f.3 (h f.0 f.1 f.2) in
    subst (λ x. R x b) ((Decides-eqb f.1.0 a).0 t.0) (subst (λ y. R f.1.0 y) ((Decides-eqb f.1.1 b).0 t.1) r)

-- an edge stays as others come, and the last one is there
joins_kept : (edges : List (ℕ × ℕ)) (e : ℕ × ℕ) (a b : ℕ) → joins edges a b ≡ true → joins (edges ++ e ∷ []) a b ≡ true
joins_kept edges e a b h =
    let p = λ (e : ℕ × ℕ). cond (e.0 == a) (e.1 == b) false in
    list_any-append p edges (e ∷ []) ∙ first (list_any p edges) (list_any p (e ∷ [])) h

joins_last : (edges : List (ℕ × ℕ)) (a b : ℕ) → joins (edges ++ (a, b) ∷ []) a b ≡ true
joins_last edges a b =
    let p = λ (e : ℕ × ℕ). cond (e.0 == a) (e.1 == b) false in
    list_any_at p (edges ++ (a, b) ∷ []) (length edges) (a, b) (omega (arith, length-append edges ((a, b) ∷ [])))
    (ap p (get_or_push edges (a, b) (a, b) (length edges) refl) ∙ same)
  where
    same : cond (a == a) (b == b) false ≡ true
    same = ap (λ t. cond t (b == b) false) ((Decides-eqb a a).1 refl) ∙ (Decides-eqb b b).1 refl

-- a list with a place has a member
some : {X : Type 0} (xs : List X) (a : ℕ) → a < length xs → X
some [] a l = absurd (omega (arith, l))
some (x ∷ xs) a l = x

module _ {X : Type 0} (eq : X → X → Bool) (xs ys : List X) where
  -- a perfect matching along edges of equal members is a pairing of equal members
  pub pairing_from_perfect : (g : Edges) (to : List ℕ) → IsEqualGraph eq xs ys g → g.left ≡ g.right → IsPerfect g to
      → IsPairingOf (λ x y. eq x y ≡ true) xs ys to
  pairing_from_perfect g to h sides p = record {
    as_many = sym h.right ∙ sym sides ∙ h.left;
    one_each = p.one_each ∙ h.left;
    in_range = subst (λ n. All (λ k. k < n) to) h.right p.in_range;
    differ = p.differ;
    related = λ k d l. joined (λ a b. eq (get_or xs a d) (get_or ys b d)
        ≡ true) g.edges (λ i e m. (h.edges.only i e m).2 d) k (get_or to k 0) (p.along k (omega (arith, l, h.left)));
  }

  -- and each such pairing is one
  pub perfect_from_pairing : (g : Edges) (to : List ℕ) → IsEqualGraph eq xs ys g → IsPairingOf (λ x y. eq x y ≡ true) xs ys to → IsPerfect g to
  perfect_from_pairing g to h p = record {
    one_each = p.one_each ∙ sym h.left;
    in_range = subst (λ n. All (λ k. k < n) to) (sym h.right) p.in_range;
    differ = p.differ;
    along = λ a l.
        let la : a < length xs = omega (arith, l, h.left) in
        let r = p.in_range a 0 (omega (arith, la, p.one_each)) in
        let d = some xs a la in
        h.edges.all a (get_or to a 0) d la r (p.related a d la);
  }

  -- where there is no perfect matching of sides of one size, there is no such pairing
  pub unpaired : (g : Edges) (why : NoMatch) (to : List ℕ) → IsEqualGraph eq xs ys g → IsRefusalOf g why → IsPairingOf (λ x y. eq x y ≡ true) xs ys to → ⊥
  unpaired g (Sides left right) to h r p = r.2 (r.0 ∙ h.left ∙ sym p.as_many ∙ sym h.right ∙ sym r.1)
  unpaired g (Hall set) to h r p = r.2 to (perfect_from_pairing g to h p)

  -- the edges of a row so far: those of the members of the first list before `left`, and of that one with the first members of the second list
  pub record AreRowEdges (left done : ℕ) (edges : List (ℕ × ℕ)) : Type 0 where
    pub before : AreEqualEdges eq xs ys left edges
    pub row : (b : ℕ) (d : X) → b < done → eq (get_or xs left d) (get_or ys b d) ≡ true → joins edges left b ≡ true

  -- members that are read, at any default
  read : (left right : ℕ) (x y d : X) → left < length xs → right < length ys → x ≡ get_or xs left x → y ≡ get_or ys right y
      → eq (get_or xs left d) (get_or ys right d) ≡ eq x y
  read left right x y d lx ly hx hy = ap (λ z. eq z (get_or ys right d)) (sym (get_or_read xs left x lx hx d))
      ∙ ap (λ z. eq x z) (sym (get_or_read ys right y ly hy d))

  pub row_apart : (left right : ℕ) (edges : List (ℕ × ℕ)) (x y : X) → left < length xs → right < length ys → x ≡ get_or xs left x → y ≡ get_or ys right y
      → eq x y ≡ false → AreRowEdges left right edges → AreRowEdges left (right + 1) edges
  row_apart left right edges x y lx ly hx hy apart h = record {
    before = h.before;
    row = λ b d l e. ⊎_elim
        (λ same. absurd (true≢false (sym (subst (λ b. eq (get_or xs left d) (get_or ys b d) ≡ true) same e) ∙ read left right x y d lx ly hx hy ∙ apart)))
        (λ ne. h.row b d (omega (arith, l, ne)) e)
        (cases_eq b right);
  }

  pub row_alike : (left right : ℕ) (edges : List (ℕ × ℕ)) (x y : X) → left < length xs → right < length ys → x ≡ get_or xs left x → y ≡ get_or ys right y
      → eq x y ≡ true → AreRowEdges left right edges → AreRowEdges left (right + 1) (edges ++ (left, right) ∷ [])
  row_alike left right edges x y lx ly hx hy alike h = record {
    before = record {
      only = All-push (JoinsEqual eq xs ys) edges (left, right) h.before.only (lx, ly, (λ d. read left right x y d lx ly hx hy ∙ alike));
      all = λ a b d la lb e. joins_kept edges (left, right) a b (h.before.all a b d la lb e);
    };
    row = λ b d l e. ⊎_elim
        (λ same. subst (λ b. joins (edges ++ (left, right) ∷ []) left b ≡ true) (sym same) (joins_last edges left right))
        (λ ne. joins_kept edges (left, right) left b (h.row b d (omega (arith, l, ne)) e))
        (cases_eq b right);
  }

  -- a row that is done is joined as those before it
  pub row_done : (left done : ℕ) (edges : List (ℕ × ℕ)) → AreRowEdges left done edges → length ys ≤ done → AreEqualEdges eq xs ys (left + 1) edges
  row_done left done edges h all = record {
    only = h.before.only;
    all = λ a b d l m e. ⊎_elim
        (λ (less : a < left). h.before.all a b d less m e)
        (λ (at : left ≤ a).
        let is : a ≡ left = omega (arith, l, at) in
        subst (λ k. joins edges k b ≡ true) (sym is)
        (h.row b d (omega (arith, m, all)) (subst (λ k. eq (get_or xs k d) (get_or ys b d) ≡ true) is e)))
        (cases_lt a left);
  }

-- ---- pairings and bijections

whole : {X : Type 0} (ys : List X) (d : X) → map (λ k. get_or ys k d) (range_with_len 0 (length ys)) ≡ ys
whole ys d = same_lists _ ys (length-map-range_with_len (λ k. get_or ys k d) 0 (length ys)) (λ k e l.
    let n = length-map-range_with_len (λ k. get_or ys k d) 0 (length ys) in
    get_or-map-range_with_len (λ k. get_or ys k d) 0 (length ys) k k e (omega (arith, l, n)) (omega arith) ∙ get_or_default ys k d e (omega (arith, l, n)))

-- a permutation of places is of different places in range
places_differ : (n : ℕ) (to : List ℕ) → IsPermutation (range_with_len 0 n) to → AllDiffer to
places_differ n to h i j l m e =
    let start = IsDistinct-from_apart eqb (range_with_len 0 n) (λ i j d l m.
    let long = length-range_with_len 0 n in
    let a = get_or-range_with_len 0 n i d (omega (arith, l, m, long)) in
    let b = get_or-range_with_len 0 n j d (omega (arith, m, long)) in
    eqb_apart (get_or (range_with_len 0 n) i d) (get_or (range_with_len 0 n) j d) (omega (arith, l, a, b))) in
    let apart = apart_from_distinct eqb to i j 0 (IsDistinct-IsPermutation eqb eqb_flips (range_with_len 0 n) to h start) l m in
    true≢false (sym ((Decides-eqb (get_or to i 0) (get_or to j 0)).1 e) ∙ apart)
  where
    eqb_apart : (a b : ℕ) → (a ≡ b → ⊥) → eqb a b ≡ false
    eqb_apart a b ne = grind arith

    eqb_flips : (a b : ℕ) → eqb a b ≡ eqb b a
    eqb_flips a b = grind arith

places_below : (n : ℕ) (to : List ℕ) → IsPermutation (range_with_len 0 n) to → All (λ k. k < n) to
places_below n to h = All-permutation (λ k. k < n) (range_with_len 0 n) to h (λ k d l. let long = length-range_with_len 0 n in
    let r = get_or-range_with_len 0 n k d (omega (arith, l, long)) in omega (arith, r, l, long))

module _ {X : Type 0} (R : X → X → Type 0) where
  matched_at : (d : X) (xs ys : List X) (to : List ℕ) → IsPairingOf R xs ys to → Matched R xs ys
  matched_at d xs ys to p =
      let at : ℕ → X = λ k. get_or ys k d in
      let ws = map at to in
      let moved : IsPermutation ys ws = subst (λ l. IsPermutation l ws) (whole ys d)
      (IsPermutation-map at (range_with_len 0 (length ys)) to (places_in_order to (length ys) (p.one_each ∙ sym p.as_many) p.differ p.in_range)) in
      let zip = AllZip-from_get_or R xs ws (sym p.one_each ∙ sym (length-map to at)) (λ k e f l.
      let lt : k < length to = omega (arith, l, p.one_each) in
      subst (λ y. R (get_or xs k e) y)
      (get_or_default ys (get_or to k 0) e d (p.in_range k 0 lt) ∙ sym (get_or-map at to k 0 f lt))
      (p.related k e l)) in
      let back = AllZip-permuted' R xs ws ys zip (IsPermutation-sym ys ws moved) in
      record { order = back.0; permutes = back.1; related = back.2 }

  pub matched_from_pairing : (xs ys : List X) (to : List ℕ) → IsPairingOf R xs ys to → Matched R xs ys
  matched_from_pairing [] [] to p = record { order = []; permutes = IsPermutation-refl []; related = tt }
  matched_from_pairing [] (y ∷ ys) to p = matched_at y [] (y ∷ ys) to p
  matched_from_pairing (x ∷ xs) ys to p = matched_at x (x ∷ xs) ys to p

  pairing_at : (d : X) (xs ys : List X) → Matched R xs ys → (to : List ℕ) × IsPairingOf R xs ys to
  pairing_at d xs ys m =
      let at : ℕ → X = λ k. get_or ys k d in
      let w = AllZip-permuted R m.order ys xs m.related (IsPermutation-sym xs m.order m.permutes) in
      let ws = w.0 in
      let l = lifts at (range_with_len 0 (length ys)) ws (subst (λ l. IsPermutation l ws) (sym (whole ys d)) w.1) in
      let to = l.order in
      let long = length_all_zip R xs ws w.2 in
      let n : length to ≡ length ys = length_permutation (range_with_len 0 (length ys)) to l.moved ∙ length-range_with_len 0 (length ys) in
      let m' : length ws ≡ length ys = length_permutation ys ws w.1 in (
        to,
        record {
          as_many = sym m' ∙ sym long;
          one_each = n ∙ sym m' ∙ sym long;
          in_range = places_below (length ys) to l.moved;
          differ = places_differ (length ys) to l.moved;
          related = λ k e lt.
              let lk : k < length to = omega (arith, lt, n, m', long) in
              subst (λ y. R (get_or xs k e) y)
              (ap (λ l. get_or l k e) (sym l.keys) ∙ get_or-map at to k 0 e lk
              ∙ get_or_default ys (get_or to k 0) d e (places_below (length ys) to l.moved k 0 lk))
              (AllZip-get_or R xs ws k e e w.2 lt);
        },
      )

  pub pairing_from_matched : (xs ys : List X) → Matched R xs ys → (to : List ℕ) × IsPairingOf R xs ys to
  pairing_from_matched [] [] m = (
    [],
    record {
      as_many = refl;
      one_each = refl;
      in_range = λ k d l. absurd (omega (arith, l));
      differ = λ i j l m e. omega (arith, l, m);
      related = λ k d l. absurd (omega (arith, l));
    },
  )
  pairing_from_matched [] (y ∷ ys) m = pairing_at y [] (y ∷ ys) m
  pairing_from_matched (x ∷ xs) ys m = pairing_at x (x ∷ xs) ys m

-- pairings of two pairs of lists whose members are related alike
pub pairing_like : {X Y : Type 0} (R : X → X → Type 0) (S : Y → Y → Type 0) (d : X) (e : Y) (xs ys : List X) (us vs : List Y) → length xs ≡ length us
    → length ys ≡ length vs
    → ((k j : ℕ) → k < length xs → j < length ys → R (get_or xs k d) (get_or ys j d) → S (get_or us k e) (get_or vs j e))
    → (to : List ℕ) → IsPairingOf R xs ys to → IsPairingOf S us vs to
pairing_like R S d e xs ys us vs m n like to p = record {
  as_many = sym n ∙ p.as_many ∙ m;
  one_each = p.one_each ∙ m;
  in_range = subst (λ n. All (λ k. k < n) to) n p.in_range;
  differ = p.differ;
  related = λ k f l.
      let lk : k < length xs = omega (arith, l, m) in
      let r = p.in_range k 0 (omega (arith, lk, p.one_each)) in
      subst (λ u. S u (get_or vs (get_or to k 0) f)) (get_or_default us k e f l)
      (subst (λ v. S (get_or us k e) v) (get_or_default vs (get_or to k 0) e f (omega (arith, r, n))) (like k (get_or to k 0) lk r (p.related k d lk)));
}
