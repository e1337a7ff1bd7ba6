use Rattle.std.proofs.Common.{◌≡◌, ◌≢◌, ℕ, ◌+◌, ◌<◌, List, ◌++◌, length, take, drop, slice_index, vec_len, ℤ, pos, sym, ap, subst, ◌∙◌, arith}
use Rattle.std.proofs.lemmas.List.{take_at, get_or_default, length-take-le}
use Rattle.std.specs.Vec.{with_items}
use Rattle.gs_simplex.specs.{Numbers.{cell, AreTops}, Columns.{IsPivotDone, IsPivotWide}, Table.{IsWideAfter}, declared.table.Table.{Table}}
use Rattle.gs_simplex.specs.Columns.{place_in, in_columns, AreStands, AreStandsAfter, AreLivePlaces, IsLive, IsTimes, IsFirstWideOf, HasWideColumn}
use Rattle.gs_simplex.proofs.Relisting.{place_inside, nonzero_at, stands_next, live_next, laid_next, table_next, has_wide, wide_next}
use Rattle.gs_simplex.proofs.table.Table.list.Goals.{After-make_own, After-place_of-q, After-deref, After-live_places-found, After-clear, After-deref_mut-4}
use Rattle.gs_simplex.proofs.table.Table.list.Goals.{After-deref-in-Some, After-deref-in-Some-2}
use Rattle.gs_simplex.proofs.table.Table.list.Goals as goal

-- the place of column c in row r
place_is : (c : After-place_of-q) → c.place_of-q.result
    ≡ place_in c.args.p.now.rows (vec_len c.args.self.now.room.lead) (slice_index c.args.self.now.stands.items c.args.c) c.args.r
place_is c =
    let s = c.args.self.now.stands.items in let rows = c.args.p.now.rows in
    let e : c.index.result.now ≡ slice_index s c.args.c = c.index.ensures
    ∙ get_or_default s c.args.c c.index.result.now 0 (omega (arith, c.requires.laid.stands_long, c.requires.column)) in
    c.place_of-q.ensures ∙ ap (λ w. place_in rows w c.index.result.now c.args.r) c.len.ensures
    ∙ ap (λ x. place_in rows (vec_len c.args.self.now.room.lead) x c.args.r) e

-- where the columns stand after the pivot
moves : (c : After-make_own) → AreStandsAfter (length c.args.self.now.stands.items) (slice_index c.args.self.now.stands.items)
    (slice_index c.make_own.new.stands) c.args.r c.args.c
moves c = let P : List ℕ → Type 0 = λ x. AreStandsAfter (length x) (slice_index x) (slice_index c.make_own.new.stands) c.args.r c.args.c in
    subst P c.deref_mut.ensures.value c.make_own.ensures

stands_long : (c : After-make_own) → length c.make_own.new.stands ≡ c.args.p.now.cols + 2
stands_long c = c.make_own.auto.stands ∙ ap (λ (x : List ℕ). length x) c.deref_mut.ensures.value ∙ c.requires.laid.stands_long

stands_len : (c : After-make_own) → length c.make_own.new.stands ≡ c.args.self.now.stands.len
stands_len c = c.make_own.auto.stands ∙ c.deref_mut.ensures.len

same_stands : (c : After-deref) → c.deref.result.now ≡ c.make_own.new.stands
same_stands c =
    let g = (goal.at.After-deref c).After-make_own in let s = c.make_own.new.stands in let v = c.args.self.now.stands in
    c.deref.ensures.value ∙ take_at s (drop (length s) v.items) v.len (stands_len g)

-- the places that have columns
live_here : (c : After-live_places-found) → AreLivePlaces c.args.p.now.rows (vec_len c.args.self.now.room.lead) (c.args.p.now.cols + 2)
    (slice_index c.make_own.new.stands) c.live_places-found.new.live c.live_places-found.result
live_here c =
    let g = goal.at.After-live_places-found c in let p = c.args.p.now in let s = c.make_own.new.stands in
    let live = c.live_places-found.new.live in let found = c.live_places-found.result in
    let W : ℕ → Type 0 = λ w. AreLivePlaces p.rows w (length c.deref.result.now) (slice_index c.deref.result.now) live found in
    let S : List ℕ → Type 0 = λ x. AreLivePlaces p.rows (vec_len c.args.self.now.room.lead) (length x) (slice_index x) live found in
    let N : ℕ → Type 0 = λ n. AreLivePlaces p.rows (vec_len c.args.self.now.room.lead) n (slice_index s) live found in
    subst N (stands_long g.After-make_own) (subst S (same_stands g.After-deref) (subst W c.len-2.ensures c.live_places-found.ensures))

live_len : (c : After-live_places-found) → length c.live_places-found.new.live ≡ c.args.self.now.live.len
live_len c = c.live_places-found.auto.live ∙ c.deref_mut-2.ensures.len

pub clear-requires-clause-live : goal.clear-requires-clause-live
clear-requires-clause-live c =
    let g = goal.at.clear-requires-clause-live c in let p = c.args.p.now in let t = c.args.self.now in let w = vec_len t.room.lead in let r = c.args.r in
    let live = c.live_places-found.new.live in let found = c.live_places-found.result in let q = c.place_of-q.result in
    let el : c.deref-2.result.now ≡ live = c.deref-2.ensures.value ∙ take_at live (drop (length live) t.live.items) t.live.len
    (live_len g.After-live_places-found) in
    let ec : length c.deref_mut-4.result.now ≡ p.rows + 1 = ap (λ (x : List ℕ). length x) c.deref_mut-4.ensures.value ∙ c.requires.laid.tops_long in
    let L : List ℕ → Type 0 = λ x. IsLive (take found x) c.deref_mut-3.result.now (length c.deref_mut-4.result.now) w r q in
    let C : ℕ → Type 0 = λ n. IsLive (take found live) c.deref_mut-3.result.now n w r q in
    let Q : ℕ → Type 0 = λ x. IsLive (take found live) c.deref_mut-3.result.now (p.rows + 1) w r x in
    let X : List ℤ → Type 0 = λ x. IsLive (take found live) x (p.rows + 1) w r
    (place_in p.rows w (slice_index t.stands.items c.args.c) r) in
    subst L (sym el) (subst C (sym ec) (subst Q (sym (place_is g.After-place_of-q)) (subst X (sym c.deref_mut-3.ensures.value)
    (live_next c.requires.laid r c.args.c c.requires.row c.requires.column c.requires.nonzero c.make_own.new.stands (moves g.After-make_own) live found
    (live_here g.After-live_places-found)))))

-- the rows that clear was given, and how many they are
same_rows : (c : After-deref_mut-4) → (c.deref_mut-3.result.now ≡ c.args.self.now.numbers.items) × (length c.deref_mut-4.result.now ≡ c.args.p.now.rows + 1)
same_rows c = (
  c.deref_mut-3.ensures.value,
  ap (λ (x : List ℕ). length x) c.deref_mut-4.ensures.value ∙ c.requires.laid.tops_long,
)

-- what holds by the place, the rows and the number of rows of the table
given : (P : List ℤ → ℕ → ℕ → Type 0) (xs xs' : List ℤ) (n n' q q' : ℕ) → xs' ≡ xs → n' ≡ n → q' ≡ q → P xs' n' q' → P xs n q
given P xs xs' n n' q q' ex en eq h =
    let A : List ℤ → Type 0 = λ x. P x n' q' in let B : ℕ → Type 0 = λ x. P xs x q' in let C : ℕ → Type 0 = λ x. P xs n x in
    subst C eq (subst B en (subst A ex h))

-- the numbers times the divisor, as they are passed
wide_pivot : (c : After-deref-in-Some-2) → IsPivotWide c.args.self.now.numbers.items c.deref-in-Some-2.result.now (c.args.p.now.rows + 1)
    (vec_len c.args.self.now.room.lead) c.args.r
    (place_in c.args.p.now.rows (vec_len c.args.self.now.room.lead) (slice_index c.args.self.now.stands.items c.args.c) c.args.r) c.in-Some.wide.row
    c.in-Some.wide.by
wide_pivot c =
    let g = goal.at.After-deref-in-Some-2 c in let e = same_rows g.After-deref_mut-4 in let t = c.args.self.now in let w = vec_len t.room.lead in
    let k = place_in c.args.p.now.rows w (slice_index t.stands.items c.args.c) c.args.r in
    let M : List ℤ → Type 0 = λ x. IsPivotWide t.numbers.items x (c.args.p.now.rows + 1) w c.args.r k c.in-Some.wide.row c.in-Some.wide.by in
    subst M (sym c.deref-in-Some-2.ensures.value)
    (given (λ x n q. IsPivotWide x c.clear.new.room.mixed.items n w c.args.r q c.in-Some.wide.row c.in-Some.wide.by) t.numbers.items c.deref_mut-3.result.now
    (c.args.p.now.rows + 1) (length c.deref_mut-4.result.now) k c.place_of-q.result e.0 e.1 (place_is g.After-place_of-q) c.in-Some.ensures.pivoted)

mixed_long : (c : After-deref-in-Some-2) → length c.deref-in-Some-2.result.now ≡ vec_len c.args.self.now.room.lead
mixed_long c = c.deref-in-Some-2.ensures.len ∙ c.in-Some.ensures.room.mixed

stands_passed : (c : After-deref-in-Some) → c.deref-in-Some.result.now ≡ c.make_own.new.stands
stands_passed c =
    let g = (goal.at.After-deref-in-Some c).After-make_own in let s = c.make_own.new.stands in let v = c.args.self.now.stands in
    c.deref-in-Some.ensures.value ∙ take_at s (drop (length s) v.items) v.len (stands_len g)

pub first_wide-requires-clause-wide : goal.first_wide-requires-clause-wide
first_wide-requires-clause-wide c =
    let g = goal.at.first_wide-requires-clause-wide c in let a = g.After-deref-in-Some-2 in let p = c.args.p.now in
    let S : List ℕ → Type 0 = λ x. HasWideColumn p.rows x c.in-Some.wide.row c.in-Some.wide.by c.deref-in-Some-2.result.now in
    subst S (sym (stands_passed g.After-deref-in-Some))
    (has_wide c.requires.laid c.args.r c.args.c c.requires.row c.requires.column c.requires.nonzero c.make_own.new.stands (moves g.After-make_own)
    c.deref-in-Some-2.result.now c.in-Some.wide.row c.in-Some.wide.by (wide_pivot a) (mixed_long a) (stands_long g.After-make_own))

pub returns-in-Some-clause-listed : goal.returns-in-Some-clause-listed
returns-in-Some-clause-listed c =
    let g = goal.at.returns-in-Some-clause-listed c in let a = g.After-deref-in-Some-2 in let p = c.args.p.now in let f = c.first_wide.ensures in
    let S : List ℕ → Type 0 = λ x. (row : ℕ → ℤ) → IsTimes c.in-Some.wide.by c.deref-in-Some-2.result.now row
    → IsFirstWideOf (length x) (in_columns p.rows (length c.deref-in-Some-2.result.now) (slice_index x) c.in-Some.wide.row row)
    c.first_wide.result.column c.first_wide.result.number in
    let W : ℕ → Type 0 = λ i. IsWideAfter p (Rattle.gs_simplex.specs.Table.grid_of p c.args.self.now) c.args.r c.args.c i c.first_wide.result.column
    c.first_wide.result.number in
    subst W (sym f.row)
    (wide_next c.requires.laid c.args.r c.args.c c.requires.row c.requires.column c.requires.nonzero c.make_own.new.stands (moves g.After-make_own)
    c.deref-in-Some-2.result.now c.in-Some.wide.row c.in-Some.wide.by (wide_pivot a) (mixed_long a) c.requires.table (stands_long g.After-make_own)
    c.first_wide.result.column c.first_wide.result.number (subst S (stands_passed g.After-deref-in-Some) f.first))

-- the lists of the table after the pivot
record IsAfter (c : After-clear) : Type 0 where
  numbers : take c.args.self.now.numbers.len (c.clear.new.numbers ++ drop (length c.clear.new.numbers) c.args.self.now.numbers.items) ≡ c.clear.new.numbers
  stands : take c.args.self.now.stands.len (c.make_own.new.stands ++ drop (length c.make_own.new.stands) c.args.self.now.stands.items)
      ≡ c.make_own.new.stands
  tops : take c.args.self.now.tops.len (c.clear.new.tops ++ drop (length c.clear.new.tops) c.args.self.now.tops.items) ≡ c.clear.new.tops
  live : take c.args.self.now.live.len (c.live_places-found.new.live ++ drop (length c.live_places-found.new.live) c.args.self.now.live.items)
      ≡ c.live_places-found.new.live

after_here : (c : After-clear) → IsAfter c
after_here c =
    let g = goal.at.After-clear c in let t = c.args.self.now in let new = c.clear.new.numbers in let s = c.make_own.new.stands in let tops = c.clear.new.tops in
    let live = c.live_places-found.new.live in
    record {
      numbers = take_at new (drop (length new) t.numbers.items) t.numbers.len (c.clear.auto.numbers ∙ c.deref_mut-3.ensures.len);
      stands = take_at s (drop (length s) t.stands.items) t.stands.len (stands_len g.After-make_own);
      tops = take_at tops (drop (length tops) t.tops.items) t.tops.len (c.clear.auto.tops ∙ c.deref_mut-4.ensures.len);
      live = take_at live (drop (length live) t.live.items) t.live.len (live_len g.After-live_places-found);
    }

numbers_long : (c : After-clear) → take c.args.self.now.numbers.len (c.clear.new.numbers ++ drop (length c.clear.new.numbers) c.args.self.now.numbers.items)
    ≡ c.clear.new.numbers
    → length (take c.args.self.now.numbers.len (c.clear.new.numbers ++ drop (length c.clear.new.numbers) c.args.self.now.numbers.items))
    ≡ length c.args.self.now.numbers.items
numbers_long c e = ap length e ∙ c.clear.auto.numbers ∙ ap length c.deref_mut-3.ensures.value

tops_long : (c : After-clear) → length (take c.args.self.now.tops.len (c.clear.new.tops ++ drop (length c.clear.new.tops) c.args.self.now.tops.items))
    ≡ length c.args.self.now.tops.items
tops_long c = ap (λ (x : List ℕ). length x) (after_here c).tops ∙ c.clear.auto.tops ∙ ap (λ (x : List ℕ). length x) c.deref_mut-4.ensures.value

live_long : (c : After-clear) → length (take c.args.self.now.live.len (c.live_places-found.new.live ++ drop (length c.live_places-found.new.live)
    c.args.self.now.live.items)) ≡ length c.args.self.now.live.items
live_long c = ap (λ (x : List ℕ). length x) (after_here c).live ∙ c.live_places-found.auto.live ∙ ap (λ (x : List ℕ). length x) c.deref_mut-2.ensures.value

-- the pivot by places, in the rows of the table after it
done_here : (c : After-clear) → IsPivotDone c.deref_mut-3.result.now c.clear.new.numbers (length c.deref_mut-4.result.now) (vec_len c.args.self.now.room.lead)
    c.args.r c.place_of-q.result
    → IsPivotDone c.args.self.now.numbers.items (take c.args.self.now.numbers.len (c.clear.new.numbers ++ drop (length c.clear.new.numbers)
    c.args.self.now.numbers.items)) (c.args.p.now.rows + 1) (vec_len c.args.self.now.room.lead) c.args.r
    (place_in c.args.p.now.rows (vec_len c.args.self.now.room.lead) (slice_index c.args.self.now.stands.items c.args.c) c.args.r)
done_here c h =
    let g = goal.at.After-clear c in let e = same_rows g.After-deref_mut-4 in let t = c.args.self.now in let w = vec_len t.room.lead in
    let k = place_in c.args.p.now.rows w (slice_index t.stands.items c.args.c) c.args.r in
    let N : List ℤ → Type 0 = λ x. IsPivotDone t.numbers.items x (c.args.p.now.rows + 1) w c.args.r k in
    subst N (sym (after_here c).numbers)
    (given (λ x n q. IsPivotDone x c.clear.new.numbers n w c.args.r q) t.numbers.items c.deref_mut-3.result.now (c.args.p.now.rows + 1)
    (length c.deref_mut-4.result.now) k c.place_of-q.result e.0 e.1 (place_is g.After-place_of-q) h)

tops_here : (c : After-clear) → AreTops (length c.deref_mut-4.result.now) (vec_len c.args.self.now.room.lead) c.clear.new.numbers c.clear.new.tops
    → AreTops (c.args.p.now.rows + 1) (vec_len c.args.self.now.room.lead)
    (take c.args.self.now.numbers.len (c.clear.new.numbers ++ drop (length c.clear.new.numbers) c.args.self.now.numbers.items))
    (take c.args.self.now.tops.len (c.clear.new.tops ++ drop (length c.clear.new.tops) c.args.self.now.tops.items))
tops_here c h =
    let g = goal.at.After-clear c in let e = same_rows g.After-deref_mut-4 in let w = vec_len c.args.self.now.room.lead in
    let C : ℕ → Type 0 = λ n. AreTops n w c.clear.new.numbers c.clear.new.tops in
    let N : List ℤ → Type 0 = λ x. AreTops (c.args.p.now.rows + 1) w x c.clear.new.tops in
    let T : List ℕ → Type 0 = λ x. AreTops (c.args.p.now.rows + 1) w
    (take c.args.self.now.numbers.len (c.clear.new.numbers ++ drop (length c.clear.new.numbers) c.args.self.now.numbers.items)) x in
    subst T (sym (after_here c).tops) (subst N (sym (after_here c).numbers) (subst C e.1 h))

-- the table after the pivot
abbrev next_table : After-clear → Table
next_table c =
    let t = c.args.self.now in
    record {
      numbers = with_items t.numbers c.clear.new.numbers;
      stands = with_items t.stands c.make_own.new.stands;
      tops = with_items t.tops c.clear.new.tops;
      room = c.clear.new.room;
      live = with_items t.live c.live_places-found.new.live;
    }

pub returns-in-None : goal.returns-in-None
returns-in-None c = record {
  laid = let g = goal.at.returns-in-None c in let a = g.After-clear in
      laid_next c.requires.laid c.args.r c.args.c c.requires.row c.requires.column c.requires.nonzero c.make_own.new.stands (moves g.After-make_own)
      (next_table a) (after_here a).stands c.in-None.ensures.room (numbers_long a (after_here a).numbers) (live_long a) (tops_long a) (done_here a c.in-None.ensures.pivoted)
      (tops_here a c.in-None.ensures.tops) (stands_long g.After-make_own);
  listed = let g = goal.at.returns-in-None c in let a = g.After-clear in
      table_next c.requires.laid c.args.r c.args.c c.requires.row c.requires.column c.requires.nonzero c.make_own.new.stands (moves g.After-make_own)
      (next_table a) (after_here a).stands c.in-None.ensures.room (numbers_long a (after_here a).numbers) (live_long a) (tops_long a) (done_here a c.in-None.ensures.pivoted)
      (tops_here a c.in-None.ensures.tops) c.requires.table;
}

before_spare : (stand rows width long : ℕ) → stand + 1 < rows + width → long ≡ width → stand < rows + long
before_spare stand rows width long h e = omega arith

pub first_wide-requires-clause-inside : goal.first_wide-requires-clause-inside
first_wide-requires-clause-inside c =
    let g = goal.at.first_wide-requires-clause-inside c in let p = c.args.p.now in let s = c.make_own.new.stands in
    let mixed = c.deref-in-Some-2.result.now in let w = vec_len c.args.self.now.room.lead in
    let S : List ℕ → Type 0 = λ x. (j : ℕ) → j < length x → slice_index x j < p.rows + length mixed in
    let u = stands_next c.requires.laid c.args.r c.args.c c.requires.row c.requires.column c.requires.nonzero s (moves g.After-make_own) in
    subst S (sym (stands_passed g.After-deref-in-Some))
    (λ j h. before_spare (slice_index s j) p.rows w (length mixed) (u.inside j (subst (λ n. j < n) (stands_long g.After-make_own) h))
    (mixed_long g.After-deref-in-Some-2))

pub first_wide-requires-clause-within : goal.first_wide-requires-clause-within
first_wide-requires-clause-within c =
    (wide_pivot (goal.at.first_wide-requires-clause-within c).After-deref-in-Some-2).lead.2.here.2.within

pub clear-requires-clause-tops : goal.clear-requires-clause-tops
clear-requires-clause-tops c = grind arith

pub clear-requires-clause-place : goal.clear-requires-clause-place
clear-requires-clause-place c =
    let g = goal.at.clear-requires-clause-place c in
    omega (arith, place_is g.After-place_of-q, place_inside c.requires.laid c.args.r c.args.c c.requires.row c.requires.column c.requires.nonzero)

pub clear-requires-clause-long : goal.clear-requires-clause-long
clear-requires-clause-long c = grind arith

pub clear-requires-clause-row : goal.clear-requires-clause-row
clear-requires-clause-row c = grind arith

pub clear-requires-clause-nonzero : goal.clear-requires-clause-nonzero
clear-requires-clause-nonzero c =
    let g = goal.at.clear-requires-clause-nonzero c in let w = vec_len c.args.self.now.room.lead in
    let X : List ℤ → Type 0 = λ x. cell x w c.args.r c.place_of-q.result ≢ pos 0 in
    let Q : ℕ → Type 0 = λ k. cell c.args.self.now.numbers.items w c.args.r k ≢ pos 0 in
    subst X (sym c.deref_mut-3.ensures.value) (subst Q (sym (place_is g.After-place_of-q))
    (nonzero_at c.requires.laid c.args.r c.args.c c.requires.row c.requires.column c.requires.nonzero))

pub make_own-requires-clause-differ : goal.make_own-requires-clause-differ
make_own-requires-clause-differ c =
    let u = c.requires.laid in
    let P : List ℕ → Type 0 = λ x. (j h : ℕ) → j < length x → h < length x → slice_index x j ≡ slice_index x h → j ≡ h in
    subst P (sym c.deref_mut.ensures.value)
    (λ j h jn hn e. u.stands.differ j h (omega (arith, jn, u.stands_long)) (omega (arith, hn, u.stands_long)) e)

pub slice_bounds-live-end : goal.slice_bounds-live-end
slice_bounds-live-end c =
    let g = goal.at.slice_bounds-live-end c in
    sym (length-take-le c.live_places-found.result c.deref-2.result.now
    (omega (arith, c.deref-2.ensures.len, live_len g.After-live_places-found, c.live_places-found.ensures.few)))

pub clear-requires-clause-room : goal.clear-requires-clause-room
clear-requires-clause-room c = grind arith

pub live_places-found-requires : goal.live_places-found-requires
live_places-found-requires c = record {
  room = let g = goal.at.live_places-found-requires c in
      let long : length c.deref.result.now ≡ c.args.p.now.cols + 2 = ap (λ (x : List ℕ). length x) (same_stands g.After-deref) ∙ stands_long g.After-make_own in
      let room = ap (λ (x : List ℕ). length x) c.deref_mut-2.ensures.value in omega (arith, long, room, c.requires.laid.live_long);
  some = grind arith;
  small = grind arith;
  stands = let g = goal.at.live_places-found-requires c in let p = c.args.p.now in let s = c.make_own.new.stands in
      let W : ℕ → Type 0 = λ w. AreStands p.rows w (length c.deref.result.now) (slice_index c.deref.result.now) in
      let S : List ℕ → Type 0 = λ x. AreStands p.rows (vec_len c.args.self.now.room.lead) (length x) (slice_index x) in
      let N : ℕ → Type 0 = λ n. AreStands p.rows (vec_len c.args.self.now.room.lead) n (slice_index s) in
      subst W (sym c.len-2.ensures) (subst S (sym (same_stands g.After-deref)) (subst N (sym (stands_long g.After-make_own))
      (stands_next c.requires.laid c.args.r c.args.c c.requires.row c.requires.column c.requires.nonzero s (moves g.After-make_own))));
}
