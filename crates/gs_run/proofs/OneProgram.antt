-- Programs with the same numbers have the same paths.
use Rattle.std.proofs.Common.{◌≡◌, ◌⊎◌, ℕ, zero, suc, ◌+◌, ◌-◌, ◌*◌, ◌<◌, ◌≤◌, false, List, [], ◌∷◌, length, slice_index_or, ℤ, pos, neg_ℤ, ◌*ℤ◌, ◌≤ℤ◌, ◌<ℤ◌}
use Rattle.std.proofs.{Common.{refl, sym, ap, ◌∙◌, subst, inl, inr, arith}, lemmas.Bool.{cases_lt, true≢false}, Math.Path.{fun_ext}}
use Rattle.std.specs.List.{HoldsAt}
use Rattle.gs_simplex.specs.Path.{AllNarrow, Enters, IsFirstWide, IsPath, IsPivot, IsWhole, Leaves, NoneEnters, NoneLeaves, PathStop, PathStops, States, Stops}
use Rattle.gs_simplex.specs.{Path.{ends, pivots, unbounded, wide}, declared.answer.Best.{Best}}
use Rattle.gs_simplex.specs.Program.{ColListed, IsFree, IsOpening, IsRowsOf, IsShaped, Listing, RowListed, aim_of, number, rows_of}
use Rattle.gs_simplex.specs.{Rows.{IsAimRow, IsListedRow, IsNarrow, IsPrimitive, IsUnlistedRow}, declared.program.Program.{Program}, Answer.{IsBest, IsBestAt}}
use Rattle.gs_frac.proofs.OneForm.{one_form}
use Rattle.gs_frac.specs.declared.value.Fraction.{Fraction}
use Rattle.gs_simplex.proofs.{Agree.{Agree, rows_agree}, Bases.{IsFull, col_of, from_cols, in_cols}, OneStop.{stops_agree}, Opening.{path_trail}}
use Rattle.gs_simplex.proofs.{Ring.{cancel, linear, ring, zero_times}, Solutions.{find_col}}
use Rattle.gs_solve.specs.Programs.{IsSequenceProgram, Sizes, first_answer, first_bound, first_slack}

-- two programs with the same numbers
pub record Same (p q : Program) : Type 0 where
  pub rows : p.rows ≡ q.rows
  pub cols : p.cols ≡ q.cols
  pub number_is : number p ≡ number q
  pub aim : aim_of p ≡ aim_of q
  pub free : (j : ℕ) → IsFree p j → IsFree q j
  pub not_free : (j : ℕ) → IsFree q j → IsFree p j

-- ---- from what a program has to be

past_default : {X : Type 0} (xs : List X) (i : ℕ) (d : X) → length xs ≤ i → slice_index_or xs i d ≡ d
past_default [] i d l = refl
past_default (x ∷ xs) zero d l = absurd (omega arith)
past_default (x ∷ xs) (suc i) d l = past_default xs i d (omega arith)

-- a number outside is 0
outside_row : (p : Program) → IsShaped p → (i j : ℕ) → p.rows ≤ i → number p i j ≡ pos 0
outside_row p s i j l =
    let rows = s.rows in
    ap (λ (r : List ℤ). slice_index_or r j (pos 0)) (past_default (rows_of p) i [] (omega arith))

outside_col : (p : Program) → IsShaped p → (i j : ℕ) → i < p.rows → p.cols < j → number p i j ≡ pos 0
outside_col p s i j l m = let long = s.row i l in past_default (slice_index_or (rows_of p) i []) j (pos 0) (omega arith)

module _ (p q : Program) (n : Sizes) (E F A : ℕ → ℕ → ℤ) (sp : IsShaped p) (sq : IsShaped q) (h : IsSequenceProgram p n E F A)
    (k : IsSequenceProgram q n E F A) where
  weights_row : (i j : ℕ) → i < n.one_rows → j ≤ p.cols → number p i j ≡ number q i j
  weights_row i j l m =
      let cp = h.cols in
      let cq = k.cols in
      elim (cases_lt j n.ones) [
        | inl low ↦ h.weights i j l low ∙ sym (k.weights i j l low)
        | inr high ↦ elim (cases_lt j p.cols) [
          | inl inside ↦ h.weights_alone i j l high inside ∙ sym (k.weights_alone i j l high (omega arith))
          | inr last ↦
              let e : j ≡ p.cols = omega arith in
              let g : p.cols ≡ q.cols = omega arith in
              ap (number p i) e ∙ h.weights_side i l ∙ sym (k.weights_side i l) ∙ ap (number q i) (sym (e ∙ g))
        ]
      ]

  answers_row : (t j : ℕ) → t < n.twos → j ≤ p.cols → number p (first_answer n + t) j ≡ number q (first_answer n + t) j
  answers_row t j l m =
      let cp = h.cols in
      let cq = k.cols in
      elim (cases_lt j n.ones) [
        | inl low ↦ h.payoffs t j l low ∙ sym (k.payoffs t j l low)
        | inr high ↦ elim (cases_lt j (first_slack n)) [
          | inl bound ↦
              let e : first_bound n + (j - first_bound n) ≡ j = omega arith in
              ap (number p (first_answer n + t)) (sym e) ∙ h.bounds t (j - first_bound n) l (omega arith)
              ∙ sym (k.bounds t (j - first_bound n) l (omega arith)) ∙ ap (number q (first_answer n + t)) e
          | inr slack ↦ elim (cases_lt j p.cols) [
            | inl inside ↦
                let e : first_slack n + (j - first_slack n) ≡ j = omega arith in
                ap (number p (first_answer n + t)) (sym e) ∙ h.slacks t (j - first_slack n) l (omega arith)
                ∙ sym (k.slacks t (j - first_slack n) l (omega arith)) ∙ ap (number q (first_answer n + t)) e
            | inr last ↦
                let e : j ≡ p.cols = omega arith in
                let g : p.cols ≡ q.cols = omega arith in
                ap (number p (first_answer n + t)) e ∙ h.answers_side t l ∙ sym (k.answers_side t l) ∙ ap (number q (first_answer n + t)) (sym (e ∙ g))
          ]
        ]
      ]

  number_at : (i j : ℕ) → number p i j ≡ number q i j
  number_at i j =
      let rp = h.rows in
      let rq = k.rows in
      let cp = h.cols in
      let cq = k.cols in
      elim (cases_lt i p.rows) [
        | inr past ↦ outside_row p sp i j past ∙ sym (outside_row q sq i j (omega arith))
        | inl inside ↦ elim (cases_lt p.cols j) [
          | inl past ↦ outside_col p sp i j inside past ∙ sym (outside_col q sq i j (omega arith) (omega arith))
          | inr within ↦ elim (cases_lt i n.one_rows) [
            | inl first ↦ weights_row i j first within
            | inr second ↦
                let e : first_answer n + (i - first_answer n) ≡ i = omega arith in
                ap (λ (r : ℕ). number p r j) (sym e) ∙ answers_row (i - first_answer n) j (omega arith) within ∙ ap (λ (r : ℕ). number q r j) e
          ]
        ]
      ]

  aim_at : (j : ℕ) → aim_of p j ≡ aim_of q j
  aim_at j =
      let cp = h.cols in
      let cq = k.cols in
      let ap' = sp.aim in
      let aq = sq.aim in
      elim (cases_lt j p.cols) [
        | inl inside ↦ h.aim j inside ∙ sym (k.aim j (omega arith))
        | inr past ↦ past_default p.parts.aim j (pos 0) (omega arith) ∙ sym (past_default q.parts.aim j (pos 0) (omega arith))
      ]

  free_at : (j : ℕ) → IsFree p j → IsFree q j
  free_at j f =
      let cp = h.cols in
      let cq = k.cols in
      let fp = sp.free in
      elim (cases_lt j p.cols) [
        | inl inside ↦ (k.free j (omega arith)).1 ((h.free j inside).0 f)
        | inr past ↦ absurd (true≢false (sym (sym (past_default p.parts.free j false (omega arith)) ∙ f)))
      ]

pub programs_same : (p q : Program) (n : Sizes) (E F A : ℕ → ℕ → ℤ) → IsShaped p → IsShaped q → IsSequenceProgram p n E F A → IsSequenceProgram q n E F A
    → Same p q
programs_same p q n E F A sp sq h k =
    let rp = h.rows in
    let rq = k.rows in
    let cp = h.cols in
    let cq = k.cols in
    record {
      rows = omega arith;
      cols = omega arith;
      number_is = fun_ext (λ i. fun_ext (λ j. number_at p q n E F A sp sq h k i j));
      aim = fun_ext (λ j. aim_at p q n E F A sp sq h k j);
      free = free_at p q n E F A sp sq h k;
      not_free = free_at q p n E F A sq sp k h;
    }

-- ---- what holds of one holds of the other

pub over_all : (P : ℕ → ℕ → (ℕ → ℕ → ℤ) → (ℕ → ℤ) → Type 0) (p q : Program) → Same p q → P p.rows p.cols (number p) (aim_of p)
    → P q.rows q.cols (number q) (aim_of q)
over_all P p q s h =
    subst (P q.rows q.cols (number q)) s.aim (subst (λ (n : ℕ → ℕ → ℤ). P q.rows q.cols n (aim_of p)) s.number_is
    (subst (λ (c : ℕ). P q.rows c (number p) (aim_of p)) s.cols (subst (λ (r : ℕ). P r p.cols (number p) (aim_of p)) s.rows h)))

module _ (p q : Program) (s : Same p q) where
  cols_over : (P : ℕ → Type 0) → P p.cols → P q.cols
  cols_over P h = subst P s.cols h

  rows_over : (l : Listing) (R : ℕ → ℕ → ℤ) (a : ℕ → ℤ) → IsRowsOf p l R a → IsRowsOf q l R a
  rows_over l R a r = record {
    listed = λ i j h. over_all (λ rows cols n aim. (scale : ℤ) × (multiplier : ℕ → ℤ)
        × IsListedRow rows cols n (RowListed l) (ColListed l) j scale multiplier (R i)) p q s (r.listed i j h);
    unlisted = λ i. over_all (λ rows cols n aim. i < rows → ¬ RowListed l i → (scale : ℤ) × (multiplier : ℕ → ℤ)
        × IsUnlistedRow rows cols n (RowListed l) (ColListed l) i scale multiplier (R i)) p q s (r.unlisted i);
    aim_row = over_all (λ rows cols n aim. (scale : ℤ) × (multiplier : ℕ → ℤ)
        × IsAimRow rows cols n (RowListed l) (ColListed l) aim scale multiplier a) p q s r.aim_row;
    primitive = over_all (λ rows cols n aim. (i : ℕ) → i < rows → IsPrimitive cols (R i)) p q s r.primitive;
    primitive_aim = over_all (λ rows cols n aim. IsPrimitive (cols + 1) a) p q s r.primitive_aim;
  }

  enters_over : (l : Listing) (a : ℕ → ℤ) (e : ℕ) → Enters p l a e → Enters q l a e
  enters_over l a e h = record { column = cols_over (λ c. e < c) h.column; unlisted = h.unlisted; rises = h.rises; least = h.least }

  none_enters_over : (l : Listing) (a : ℕ → ℤ) → NoneEnters p l a → NoneEnters q l a
  none_enters_over l a h = cols_over (λ c. (j : ℕ) → j < c → ¬ ColListed l j → a j ≤ℤ pos 0) h

  leaves_over : (l : Listing) (R : ℕ → ℕ → ℤ) (e r c : ℕ) → Leaves p l R e r c → Leaves q l R e r c
  leaves_over l R e r c h = record {
    listed = h.listed;
    not_free = λ f. h.not_free (s.not_free c f);
    pivot = h.pivot;
    ratio = λ i j il nf up. cols_over (λ n. (R r n *ℤ R i e) ≤ℤ (R i n *ℤ R r e)) (h.ratio i j il (λ f. nf (s.free j f)) up);
    tie = λ i j il nf up. cols_over (λ n. R r n *ℤ R i e ≡ R i n *ℤ R r e → c ≤ j) (h.tie i j il (λ f. nf (s.free j f)) up);
  }

  none_leaves_over : (l : Listing) (R : ℕ → ℕ → ℤ) (e : ℕ) → NoneLeaves p l R e → NoneLeaves q l R e
  none_leaves_over l R e h = λ i j il nf. h i j il (λ f. nf (s.free j f))

  pivot_over : (l : Listing) (R : ℕ → ℕ → ℤ) (a : ℕ → ℤ) (next : Listing) (e c : ℕ) → IsPivot p l R a next e c → IsPivot q l R a next e c
  pivot_over l R a next e c h =
      let (k, r, l1, at, leaves, is) = h.place in
      record { enters = enters_over l a e h.enters; place = (k, r, l1, at, leaves_over l R e r c leaves, is) }

  narrow_over : (R : ℕ → ℕ → ℤ) (a : ℕ → ℤ) → AllNarrow p R a → AllNarrow q R a
  narrow_over R a h = over_all (λ rows cols n aim. ((i j : ℕ) → i < rows → j ≤ cols → IsNarrow (R i j)) × ((j : ℕ) → j ≤ cols + 1 → IsNarrow (a j))) p q s h

  wide_over : (R : ℕ → ℕ → ℤ) (a : ℕ → ℤ) (i j : ℕ) (z : ℤ) → IsFirstWide p R a i j z → IsFirstWide q R a i j z
  wide_over R a i j z h = record {
    row = over_all (λ rows cols n aim. i ≤ rows) p q s h.row;
    here = over_all (λ rows cols n aim. ((i < rows) × (j ≤ cols) × (R i j ≡ z)) ⊎ ((i ≡ rows) × (j ≤ cols + 1) × (a j ≡ z))) p q s h.here;
    wide = h.wide;
    before = over_all (λ rows cols n aim. (u k : ℕ) → u < rows → k ≤ cols → (u < i) ⊎ ((u ≡ i) × (k < j)) → IsNarrow (R u k)) p q s h.before;
    before_aim = over_all (λ rows cols n aim. (k : ℕ) → k < j → i ≡ rows → IsNarrow (a k)) p q s h.before_aim;
  }

  path_over : (o : Listing) (t : ℕ) (x : States) → IsPath p o t x → IsPath q o t x
  path_over o t x h = record {
    opens = h.opens;
    pivots = λ k lo hi. pivot_over (x.lists k) (x.rows k) (x.aim k) (x.lists (suc k)) (x.entering k) (x.leaving k) (h.pivots k lo hi);
    rows = λ k l. rows_over (x.lists k) (x.rows k) (x.aim k) (h.rows k l);
    narrow = λ k lo hi. narrow_over (x.rows k) (x.aim k) (h.narrow k lo hi);
  }

  whole_over : (o : Listing) (limit t : ℕ) (x : States) → IsWhole p o limit t x → IsWhole q o limit t x
  whole_over o limit t x h = record {
    path = path_over o t x h.path;
    whole = h.whole;
    within = h.within;
    narrow = λ l. narrow_over (x.rows t) (x.aim t) (h.narrow l);
  }

  pub stop_over : (o : Listing) (limit t : ℕ) (x : States) (stop : PathStop) → Stops p o limit t x stop → Stops q o limit t x stop
  stop_over o limit t x (ends n l) h = (whole_over o limit t x h.0, none_enters_over (x.lists t) (x.aim t) h.1, h.2, h.3)
  stop_over o limit t x (wide step row col z) h =
      let (i, j, a, b, c) = h.4 in
      (path_over o t x h.0, h.1, h.2, h.3, (i, j, a, b, wide_over (x.rows t) (x.aim t) i j z c))
  stop_over o limit t x pivots h =
      let (e, r, c, a, b) = h.2 in
      (whole_over o limit t x h.0, h.1, (e, r, c, enters_over (x.lists t) (x.aim t) e a, leaves_over (x.lists t) (x.rows t) e r c b))
  stop_over o limit t x (unbounded col) h =
      let (e, is, a, b) = h.1 in
      (whole_over o limit t x h.0, (e, is, enters_over (x.lists t) (x.aim t) e a, none_leaves_over (x.lists t) (x.rows t) e b))

  pub stops_over : (o : Listing) (limit : ℕ) (stop : PathStop) → PathStops p o limit stop → PathStops q o limit stop
  stops_over o limit stop h = record { stops = (h.stops.0, h.stops.1, stop_over o limit h.stops.0 h.stops.1 stop h.stops.2) }

  pub best_at_over : (l : Listing) (R : ℕ → ℕ → ℤ) (a : ℕ → ℤ) (value price : List Fraction) → IsBestAt p l R a value price → IsBestAt q l R a value price
  best_at_over l R a value price h = record {
    rows_of = rows_over l R a h.rows_of;
    listed = λ i j il. cols_over (λ c. HoldsAt (λ f. f.num *ℤ R i j ≡ R i c *ℤ f.den) value j) (h.listed i j il);
    unlisted = cols_over (λ c. (j : ℕ) → j < c → ¬ ColListed l j → HoldsAt (λ f. f.num ≡ pos 0) value j) h.unlisted;
    prices = cols_over (λ c. (j : ℕ) → j < c → HoldsAt (λ f. f.num *ℤ a (c + 1) ≡ neg_ℤ (a j) *ℤ f.den) price j) h.prices;
  }

  pub best_over : (o : Listing) (limit : ℕ) (b : Best) → IsBest p o limit b → IsBest q o limit b
  best_over o limit b h = record {
    small = over_all (λ rows cols n aim. (rows + 1) * (cols + 1) ≤ 1048576) p q s h.small;
    stops = stops_over o limit (ends b.pivots b.basis.items) h.stops;
    values = cols_over (λ c. length b.value.items ≡ c) h.values;
    prices = cols_over (λ c. length b.price.items ≡ c) h.prices;
    last = (h.last.0, h.last.1, best_at_over b.basis.items h.last.0 h.last.1 b.value.items b.price.items h.last.2);
  }

-- ---- the values and prices of a path's end are one

cross_one : (a b c d k m : ℤ) → pos 0 <ℤ k → a *ℤ k ≡ m *ℤ b → c *ℤ k ≡ m *ℤ d → a *ℤ d ≡ c *ℤ b
cross_one a b c d k m some e h =
    let x = simp ring at (ap (λ v. v *ℤ d) e) in
    let y = simp ring at (ap (λ v. v *ℤ b) h) in
    cancel k (a *ℤ d) (c *ℤ b) some (simp ring (omega (arith, linear, x, y)))

-- two fractions with the same parts
abbrev pub SameParts : Fraction → Fraction → Type 0
SameParts x y = (x.num ≡ y.num) × (x.den ≡ y.den)

pub ratio_one : (x y : Fraction) (k m : ℤ) → pos 0 <ℤ k → x.num *ℤ k ≡ m *ℤ x.den → y.num *ℤ k ≡ m *ℤ y.den → SameParts x y
ratio_one x y k m some e h = one_form x.num x.den y.num y.den x.reduced y.reduced (cross_one x.num x.den y.num y.den k m some e h)

zero_one : (x y : Fraction) → x.num ≡ pos 0 → y.num ≡ pos 0 → SameParts x y
zero_one x y e h = one_form x.num x.den y.num y.den x.reduced y.reduced
    (ap (λ v. v *ℤ y.den) e ∙ zero_times y.den ∙ sym (zero_times x.den) ∙ ap (λ v. v *ℤ x.den) (sym h))

-- two lists of fractions whose members have the same parts
abbrev pub SameFractions : ℕ → List Fraction → List Fraction → Type 0
SameFractions n xs ys = (j : ℕ) (d e : Fraction) → j < n → SameParts (slice_index_or xs j d) (slice_index_or ys j e)

last_full : (p : Program) (o : Listing) (limit : ℕ) (b : Best) → IsOpening p o → IsBest p o limit b → IsFull p b.basis.items
last_full p o limit b ok u =
    let t = u.stops.stops.0 in let s = u.stops.stops.1 in let w = u.stops.stops.2 in
    let e : t ≡ length o + b.pivots = w.2 in let el : b.basis.items ≡ s.lists t = w.3 in
    let z = path_trail ok w.0.path b.pivots (omega arith) in
    subst (IsFull p) (sym el) (subst (λ (k : ℕ). IsFull p (s.lists k)) (sym e) z.0)

same_basis : (n m : ℕ) (l k : Listing) → ends n l ≡ ends m k → l ≡ k
same_basis n m l k e = cc

pub record SameEnds (p : Program) (b c : Best) : Type 0 where
  pub values : SameFractions p.cols b.value.items c.value.items
  pub prices : SameFractions p.cols b.price.items c.price.items

pub best_one : (p : Program) (o : Listing) (limit : ℕ) (b c : Best) → IsOpening p o → IsBest p o limit b → IsBest p o limit c → SameEnds p b c
best_one p o limit b c ok u w =
    let basis = same_basis b.pivots c.pivots b.basis.items c.basis.items
    (stops_agree p o limit (ends b.pivots b.basis.items) (ends c.pivots c.basis.items) ok u.stops w.stops) in
    let l = b.basis.items in
    let full = last_full p o limit b ok u in
    let R = u.last.0 in
    let a = u.last.1 in
    let at = u.last.2 in
    let S = w.last.0 in
    let d = w.last.1 in
    let there : IsBestAt p l S d c.value.items c.price.items =
    subst (λ (k : Listing). IsBestAt p k S d c.value.items c.price.items) (sym basis) w.last.2 in
    let same = rows_agree full at.rows_of there.rows_of in
    record {
      values = λ j x y lj. value_at p l R S a d b.value.items c.value.items b.price.items c.price.items full same at there j x y lj;
      prices = λ j x y lj. price_at p l R S a d b.value.items c.value.items b.price.items c.price.items same at there j x y lj;
    }
  where
    value_at : (p : Program) (l : Listing) (R S : ℕ → ℕ → ℤ) (a d : ℕ → ℤ) (vs ws ps rs : List Fraction) → IsFull p l → Agree p R S a d
        → IsBestAt p l R a vs ps → IsBestAt p l S d ws rs → SameFractions p.cols vs ws
    value_at p l R S a d vs ws ps rs full same at there j x y lj = elim (find_col p.rows (col_of l) j) [
      | inl found ↦
          let (i, listed) = from_cols full j found in
          let inside = full.is_list.row_inside i j listed in
          let low : j ≤ p.cols = omega arith in
          let own = (at.rows_of.listed i j listed).2.own in
          let e1 = same.rows i j inside low in
          let e2 = same.rows i p.cols inside (omega arith) in
          let f = slice_index_or ws j y in
          let other : f.num *ℤ R i j ≡ R i p.cols *ℤ f.den =
          ap (λ v. f.num *ℤ v) e1 ∙ there.listed i j listed y ∙ ap (λ v. v *ℤ f.den) (sym e2) in
          ratio_one (slice_index_or vs j x) f (R i j) (R i p.cols) own (at.listed i j listed x) other
      | inr none ↦
          let free : ¬ ColListed l j = λ h. (let z = in_cols full j h in none z.0 z.1 z.2) in
          zero_one (slice_index_or vs j x) (slice_index_or ws j y) (at.unlisted j lj free x) (there.unlisted j lj free y)
    ]

    price_at : (p : Program) (l : Listing) (R S : ℕ → ℕ → ℤ) (a d : ℕ → ℤ) (vs ws ps rs : List Fraction) → Agree p R S a d
        → IsBestAt p l R a vs ps → IsBestAt p l S d ws rs → SameFractions p.cols ps rs
    price_at p l R S a d vs ws ps rs same at there j x y lj =
        let f = slice_index_or rs j y in
        let e1 = same.aim (p.cols + 1) (omega arith) in
        let e2 = same.aim j (omega arith) in
        let next : p.cols + 1 ≡ suc p.cols = omega arith in
        let some : pos 0 <ℤ a (p.cols + 1) = subst (λ (k : ℕ). pos 0 <ℤ a k) (sym next) at.rows_of.aim_row.2.multiple in
        let other : f.num *ℤ a (p.cols + 1) ≡ neg_ℤ (a j) *ℤ f.den =
        ap (λ v. f.num *ℤ v) e1 ∙ there.prices j lj y ∙ ap (λ v. neg_ℤ v *ℤ f.den) (sym e2) in
        ratio_one (slice_index_or ps j x) f (a (p.cols + 1)) (neg_ℤ (a j)) some (at.prices j lj x) other
