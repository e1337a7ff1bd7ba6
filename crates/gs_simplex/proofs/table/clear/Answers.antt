use Rattle.std.proofs.Common.{◌≡◌, ◌≢◌, IfNone, MatchOption, Option, Some, None, ◌⊎◌, inl, inr, ℕ, ◌+◌, ◌-◌, ◌*◌, ◌<◌, ◌≤◌, List, ◌++◌, length, take, drop, ℤ}
use Rattle.std.proofs.lemmas.Grind.{common_steps}
use Rattle.std.proofs.{Common.{pos, sym, ap, subst, ◌∙◌, arith}, lemmas.List.{take_at}, lemmas.List.Edits.{Swapped, swapped_from_swap}}
use Rattle.gs_simplex.specs.{declared.table.WideRow.{WideRow}, Support.{IsSupport}, Numbers.{at, cell, AreTops}}
use Rattle.gs_simplex.specs.Columns.{IsRowLed, IsLive, AreRowsCleared, AreRowsClearedTo, IsPivotDone, IsPivotWide}
use Rattle.gs_simplex.proofs.{Places.{row_ends}, Pivoting.{led_own, live_rows, tops_rows, pivot_wide, pivot_done, last_tops}}
use Rattle.gs_simplex.proofs.table.clear.Goals.{After-take_lead-count, After-deref-pivot, After-deref-filled, After-clear_column-wide, After-swap}
use Rattle.gs_simplex.proofs.table.clear.Goals as goal

-- what take_lead leaves, in rows of this width
record IsTaken (old mid lead : List ℤ) (w r q : ℕ) : Type 0 where
  long : length mid ≡ length old
  wide : length lead ≡ w
  taken : IsRowLed (cell old w r) (at lead) q (w - 1) w
  others : (k : ℕ) → (k < r * w) ⊎ (r * w + w ≤ k) → at mid k ≡ at old k
  same : (j : ℕ) → j < w → at lead j ≡ cell mid w r j

taken_row : (c : After-take_lead-count) → IsTaken c.args.numbers.now c.take_lead-count.new.numbers c.take_lead-count.new.lead c.args.room.now.lead.len c.args.r
    c.args.q
taken_row c =
    let old = c.args.numbers.now in let mid = c.take_lead-count.new.numbers in let lead = c.take_lead-count.new.lead in let w = c.args.room.now.lead.len in
    let r = c.args.r in let q = c.args.q in let t = c.take_lead-count.ensures in
    let long : length lead ≡ w = omega (arith, c.take_lead-count.auto.lead, c.deref_mut.ensures.len) in
    let S : ℕ → Type 0 = λ x. IsTaken old mid lead x r q in
    let P : ℕ → Type 0 = λ n. IsRowLed (λ j. at old (r * c.len.result + j)) (at lead) q (n - 1) n in
    subst S c.len.ensures (record {
      long = c.take_lead-count.auto.numbers;
      wide = long ∙ sym c.len.ensures;
      taken = subst P (long ∙ sym c.len.ensures) t.taken;
      others = λ k s. t.others k (elim s [ inl l ↦ inl l | inr m ↦ inr (omega (arith, m, long, c.len.ensures)) ]);
      same = λ j h. t.same j (omega (arith, long, c.len.ensures, h));
    })

same_lead : (c : After-deref-pivot) → c.deref-pivot.result.now ≡ c.take_lead-count.new.lead
same_lead c =
    let lead = c.take_lead-count.new.lead in let own = c.args.room.now.lead in let g = goal.at.After-deref-pivot c in
    c.deref-pivot.ensures.value ∙ take_at lead (drop (length lead) own.items) own.len (taken_row g.After-take_lead-count).wide

-- the same of the lead as it is passed, and of its width
taken_here : (c : After-deref-pivot) → IsTaken c.args.numbers.now c.take_lead-count.new.numbers c.deref-pivot.result.now (length c.deref-pivot.result.now)
    c.args.r c.args.q
taken_here c =
    let g = goal.at.After-deref-pivot c in
    let old = c.args.numbers.now in let mid = c.take_lead-count.new.numbers in let lead = c.take_lead-count.new.lead in let w = c.args.room.now.lead.len in
    let u = taken_row g.After-take_lead-count in
    let same = same_lead c in
    let L : List ℤ → Type 0 = λ x. IsTaken old mid x w c.args.r c.args.q in
    let W : ℕ → Type 0 = λ n. IsTaken old mid c.deref-pivot.result.now n c.args.r c.args.q in
    subst W (sym (ap length same ∙ u.wide)) (subst L (sym same) u)

wide_here : (c : After-deref-pivot) → length c.deref-pivot.result.now ≡ c.args.room.now.lead.len
wide_here c =
    let g = goal.at.After-deref-pivot c in ap length (same_lead c) ∙ (taken_row g.After-take_lead-count).wide

-- outside the places that take_lead listed the lead is 0
support_here : (c : After-deref-filled) → IsSupport c.deref-filled.result.now c.take_lead-count.result (length c.deref-pivot.result.now)
    (at c.deref-pivot.result.now) (at c.deref-pivot.result.now)
support_here c =
    let g = goal.at.After-deref-filled c in let filled = c.take_lead-count.new.filled in let count = c.take_lead-count.result in
    let own = c.args.room.now.filled in let lead = c.take_lead-count.new.lead in
    let same : c.deref-filled.result.now ≡ filled = c.deref-filled.ensures.value
    ∙ take_at filled (drop (length filled) own.items) own.len (c.take_lead-count.auto.filled ∙ c.deref_mut-2.ensures.len) in
    let F : List ℕ → Type 0 = λ x. IsSupport x count (length lead) (at lead) (at lead) in
    let L : List ℤ → Type 0 = λ x. IsSupport c.deref-filled.result.now count (length x) (at x) (at x) in
    subst L (sym (same_lead g.After-deref-pivot)) (subst F (sym same) c.take_lead-count.ensures.support)

-- the row at `start` is inside the numbers
record IsWithin (c : After-clear_column-wide) : Type 0 where
  some : 0 < length c.deref-pivot.result.now
  long : length c.clear_column-wide.new.numbers ≡ length c.args.tops.now * length c.deref-pivot.result.now
  start : c.args.r * c.len.result ≡ c.args.r * length c.deref-pivot.result.now
  ends : c.args.r * c.len.result + length c.deref-pivot.result.now ≤ length c.clear_column-wide.new.numbers

cleared_here : (c : After-clear_column-wide) → IsWithin c
cleared_here c =
    let g = goal.at.After-clear_column-wide c in let e = wide_here g.After-deref-pivot in let w = length c.deref-pivot.result.now in
    let count = length c.args.tops.now in let r = c.args.r in
    let long : length c.clear_column-wide.new.numbers ≡ count * w = c.clear_column-wide.auto.numbers ∙ (taken_here g.After-deref-pivot).long ∙ c.requires.long
    ∙ ap (λ x. count * x) (sym e) in
    let start : r * c.len.result ≡ r * w = ap (λ x. r * x) (c.len.ensures ∙ sym e) in
    record {
      some = omega (arith, e, c.requires.place);
      long = long;
      start = start;
      ends = omega (arith, start, long, row_ends count w r c.requires.row);
    }

pub clear_column-wide-requires-clause-live : goal.clear_column-wide-requires-clause-live
clear_column-wide-requires-clause-live c =
    let g = goal.at.clear_column-wide-requires-clause-live c in let u = taken_here g.After-deref-pivot in let e = wide_here g.After-deref-pivot in
    let old = c.args.numbers.now in let now = c.deref-pivot.result.now in let count = length c.args.tops.now in
    let L : ℕ → Type 0 = λ n. IsLive c.args.live.now old count n c.args.r c.args.q in
    live_rows old c.take_lead-count.new.numbers now count (length now) c.args.r c.args.q c.requires.row (omega (arith, e, c.requires.place)) u.taken u.others
    u.same c.args.live.now (subst L (sym e) c.requires.live)

pub clear_column-wide-requires-clause-tops : goal.clear_column-wide-requires-clause-tops
clear_column-wide-requires-clause-tops c =
    let g = goal.at.clear_column-wide-requires-clause-tops c in let u = taken_here g.After-deref-pivot in let e = wide_here g.After-deref-pivot in
    let old = c.args.numbers.now in let now = c.deref-pivot.result.now in let count = length c.args.tops.now in
    let T : ℕ → Type 0 = λ n. AreTops count n old c.args.tops.now in
    tops_rows old c.take_lead-count.new.numbers now count (length now) c.args.r c.args.q c.requires.row (omega (arith, e, c.requires.place)) u.taken u.others
    u.same c.args.tops.now (subst T (sym e) c.requires.tops)

-- the pivot by places, from the rows that were cleared
done_of : (old mid lead new last mixed mixed' : List ℤ) (count w r q : ℕ) (res : Option WideRow) → r < count → q + 1 < w → IsTaken old mid lead w r q
    → length new ≡ count * w → length last ≡ length new → mixed' ≡ mixed → Swapped (at new) (at last) (r * w) (r * w + w - 1)
    → MatchOption res (AreRowsCleared mid new count w r q (w - 1) (at lead)) (λ x. AreRowsClearedTo mid mixed count w r q (w - 1) (at lead) x.row x.by)
    → MatchOption res (IsPivotDone old last count w r q) (λ x. IsPivotWide old mixed' count w r q x.row x.by)
done_of old mid lead new last mixed mixed' count w r q None rc qw u long lasts em sw h =
    pivot_done old mid lead count w r q rc qw u.taken u.others u.same new last long lasts h sw
done_of old mid lead new last mixed mixed' count w r q (Some x) rc qw u long lasts em sw h =
    let P : List ℤ → Type 0 = λ t. IsPivotWide old t count w r q x.row x.by in
    subst P (sym em) (pivot_wide old mid lead count w r q rc qw u.taken u.others u.same mixed x.row x.by h)

-- the bounds after the pivot
tops_of : (old mid lead new last : List ℤ) (tops : List ℕ) (count w r q : ℕ) (res : Option WideRow) → r < count → q + 1 < w → IsTaken old mid lead w r q
    → length new ≡ count * w → length last ≡ length new → Swapped (at new) (at last) (r * w) (r * w + w - 1) → (P : WideRow → Type 0)
    → MatchOption res (AreRowsCleared mid new count w r q (w - 1) (at lead)) P → IfNone res (AreTops count w new tops) → IfNone res (AreTops count w last tops)
tops_of old mid lead new last tops count w r q None rc qw u long lasts sw P h t =
    last_tops old mid lead count w r q rc qw u.taken u.others u.same new last long lasts h sw tops t
tops_of old mid lead new last tops count w r q (Some x) rc qw u long lasts sw P h t = t

swapped_at : (f g : ℕ → ℤ) (a b a' b' : ℕ) → a ≡ a' → b ≡ b' → Swapped f g a b → Swapped f g a' b'
swapped_at f g a b a' b' ea eb u = let A : ℕ → Type 0 = λ x. Swapped f g x b in let B : ℕ → Type 0 = λ x. Swapped f g a' x in subst B eb (subst A ea u)

-- the numbers that were put at each other's place, and how long the lists are
record IsPut (c : After-swap) : Type 0 where
  long : length c.clear_column-wide.new.numbers ≡ length c.args.tops.now * length c.deref-pivot.result.now
  lasts : length c.swap.new.self ≡ length c.clear_column-wide.new.numbers
  swapped : Swapped (at c.clear_column-wide.new.numbers) (at c.swap.new.self) (c.args.r * length c.deref-pivot.result.now)
      (c.args.r * length c.deref-pivot.result.now + length c.deref-pivot.result.now - 1)

put_here : (c : After-swap) → IsPut c
put_here c =
    let g = goal.at.After-swap c in let u = cleared_here g.After-clear_column-wide in
    let new = c.clear_column-wide.new.numbers in let last = c.swap.new.self in let w = length c.deref-pivot.result.now in let r = c.args.r in
    let ea = u.start in
    record {
      long = u.long;
      lasts = c.swap.auto.self;
      swapped = swapped_at (at new) (at last) (r * c.len.result) (r * c.len.result + w - 1) (r * w) (r * w + w - 1) ea (ap (λ x. x + w - 1) ea)
          (swapped_from_swap new last (r * c.len.result) (r * c.len.result + w - 1) (pos 0) (omega (arith, u.ends, u.some))
          (omega (arith, u.ends, u.some)) c.swap.ensures.after);
    }

pub returns-clause-pivoted : goal.returns-clause-pivoted
returns-clause-pivoted c =
    let g = goal.at.returns-clause-pivoted c in let u = taken_here g.After-deref-pivot in let e = wide_here g.After-deref-pivot in
    let put = put_here g.After-swap in
    let old = c.args.numbers.now in let mid = c.take_lead-count.new.numbers in let now = c.deref-pivot.result.now in let w = length now in
    let new = c.clear_column-wide.new.numbers in let last = c.swap.new.self in let mixed = c.clear_column-wide.new.mixed in
    let count = length c.args.tops.now in let r = c.args.r in let q = c.args.q in let res = c.clear_column-wide.result in let own = c.args.room.now.mixed in
    let mixed' = take own.len (mixed ++ drop (length mixed) own.items) in
    let R : ℕ → Type 0 = λ n. MatchOption res (IsPivotDone old last count n r q) (λ x. IsPivotWide old mixed' count n r q x.row x.by) in
    subst R e (done_of old mid now new last mixed mixed' count w r q res c.requires.row (omega (arith, e, c.requires.place)) u put.long put.lasts
    (take_at mixed (drop (length mixed) own.items) own.len (omega (arith, c.clear_column-wide.auto.mixed, c.deref_mut-3.ensures.len)))
    put.swapped c.clear_column-wide.ensures.cleared)

pub returns-clause-tops : goal.returns-clause-tops
returns-clause-tops c =
    let g = goal.at.returns-clause-tops c in let u = taken_here g.After-deref-pivot in let e = wide_here g.After-deref-pivot in
    let put = put_here g.After-swap in
    let old = c.args.numbers.now in let mid = c.take_lead-count.new.numbers in let now = c.deref-pivot.result.now in let w = length now in
    let new = c.clear_column-wide.new.numbers in let last = c.swap.new.self in let mixed = c.clear_column-wide.new.mixed in
    let count = length c.args.tops.now in let r = c.args.r in let q = c.args.q in let res = c.clear_column-wide.result in
    let T : ℕ → Type 0 = λ n. IfNone res (AreTops count n last c.clear_column-wide.new.tops) in
    subst T e (tops_of old mid now new last c.clear_column-wide.new.tops count w r q res c.requires.row (omega (arith, e, c.requires.place)) u
    put.long put.lasts put.swapped (λ x. AreRowsClearedTo mid mixed count w r q (w - 1) (at now) x.row x.by)
    c.clear_column-wide.ensures.cleared c.clear_column-wide.ensures.tops)

pub invariant_of-lead : goal.invariant_of-lead
invariant_of-lead c =
    let g = goal.at.invariant_of-lead c in let u = taken_here g.After-deref-pivot in let e = wide_here g.After-deref-pivot in
    let old = c.args.numbers.now in let now = c.deref-pivot.result.now in let w = length now in let r = c.args.r in let q = c.args.q in
    let N : ℕ → Type 0 = λ n. cell old n r q ≢ pos 0 in
    let inside : w - 1 < w = omega (arith, e, c.requires.place) in
    record {
      narrow = u.taken.narrow;
      bound = c.greatest.ensures;
      inside = inside;
      own = led_own (cell old w r) (at now) q (w - 1) w inside u.taken (subst N (sym e) c.requires.nonzero);
      support = support_here g.After-deref-filled;
    }

pub greatest-requires : goal.greatest-requires
greatest-requires c = record { support = support_here (goal.at.greatest-requires c).After-deref-filled }

pub swap-requires-clause-b_in_bounds : goal.swap-requires-clause-b_in_bounds
swap-requires-clause-b_in_bounds c =
    let u = cleared_here (goal.at.swap-requires-clause-b_in_bounds c).After-clear_column-wide in omega (arith, u.ends, u.some)

pub overflow_add-start : goal.overflow_add-start
overflow_add-start c = grind (arith, common_steps)

pub swap-requires-clause-a_in_bounds : goal.swap-requires-clause-a_in_bounds
swap-requires-clause-a_in_bounds c =
    let u = cleared_here (goal.at.swap-requires-clause-a_in_bounds c).After-clear_column-wide in omega (arith, u.ends, u.some)

pub clear_column-wide-requires-clause-lead : goal.clear_column-wide-requires-clause-lead
clear_column-wide-requires-clause-lead c =
    let g = goal.at.clear_column-wide-requires-clause-lead c in λ j h. sym ((taken_here g.After-deref-pivot).same j h)

pub clear_column-wide-requires-clause-long : goal.clear_column-wide-requires-clause-long
clear_column-wide-requires-clause-long c =
    let g = goal.at.clear_column-wide-requires-clause-long c in
    (taken_here g.After-deref-pivot).long ∙ c.requires.long ∙ ap (λ x. length c.args.tops.now * x) (sym (wide_here g.After-deref-pivot))

pub clear_column-wide-requires-clause-narrow : goal.clear_column-wide-requires-clause-narrow
clear_column-wide-requires-clause-narrow c = c.take_lead-count.ensures.narrow

pub take_lead-count-requires : goal.take_lead-count-requires
take_lead-count-requires c = grind (arith, common_steps)

pub clear_column-wide-requires-clause-room : goal.clear_column-wide-requires-clause-room
clear_column-wide-requires-clause-room c = grind arith
