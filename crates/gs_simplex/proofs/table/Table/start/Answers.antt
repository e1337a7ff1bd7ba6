use Rattle.std.proofs.Common.{◌≡◌, ℕ, ◌+◌, ◌*◌, ◌<◌, ◌≤◌, List, ◌^◌, ℤ, pos, length, slice_index, drop, sym, ap, subst, ◌∙◌, arith}
use Rattle.std.proofs.{lemmas.List.{take_at, get_or-replicate, length-replicate}, Math.Nat.{le-mul_of_pos_right, mul-le-mul_left}}
use Rattle.std.specs.Vec.{with_items}
use Rattle.gs_simplex.specs.{Numbers.{AreNarrowNumbers}, State.{raw, AreRaw}, Columns.{place_in, AreStands, AreSlots}}
use Rattle.gs_simplex.proofs.{Starts.{start_of}, Slots.{stands_given, zero_apart}, table.Table.start.Goals.{After-give_slots-width, After-deref-3}}
use Rattle.gs_simplex.proofs.table.Table.start.Goals as goal

-- where the columns stand
slots_here : (c : After-give_slots-width) → AreSlots c.args.p.now.rows (c.args.p.now.cols + 2) c.deref-2.result.now (slice_index c.in_ok-stands.stands.items)
    (slice_index c.give_slots-width.new.stands) c.give_slots-width.result
slots_here c =
    let p = c.args.p.now in let new = c.give_slots-width.new.stands in let owns = c.deref-2.result.now in
    let S : List ℕ → Type 0 = λ x. AreSlots p.rows (length x) owns (slice_index x) (slice_index new) c.give_slots-width.result in
    let N : ℕ → Type 0 = λ n. AreSlots p.rows n owns (slice_index c.in_ok-stands.stands.items) (slice_index new) c.give_slots-width.result in
    subst N c.in_ok-stands.ensures.long (subst S c.deref_mut.ensures.value c.give_slots-width.ensures)

slots_len : (c : After-give_slots-width) → length c.give_slots-width.new.stands ≡ c.in_ok-stands.stands.len
slots_len c = c.give_slots-width.auto.stands ∙ c.deref_mut.ensures.len

slots_long : (c : After-give_slots-width) → length c.give_slots-width.new.stands ≡ c.args.p.now.cols + 2
slots_long c = c.give_slots-width.auto.stands ∙ ap (λ (x : List ℕ). length x) c.deref_mut.ensures.value ∙ c.in_ok-stands.ensures.long

stands_here : (c : After-give_slots-width) → AreStands c.args.p.now.rows (c.give_slots-width.result + 1) (c.args.p.now.cols + 2)
    (slice_index c.give_slots-width.new.stands)
stands_here c =
    let p = c.args.p.now in
    stands_given p.rows (p.cols + 2) c.deref-2.result.now (slice_index c.in_ok-stands.stands.items) (slice_index c.give_slots-width.new.stands)
    c.give_slots-width.result (slots_here c)

same_stands : (c : After-deref-3) → c.deref-3.result.now ≡ c.give_slots-width.new.stands
same_stands c =
    let g = (goal.at.After-deref-3 c).After-give_slots-width in let s = c.give_slots-width.new.stands in let v = c.in_ok-stands.stands in
    c.deref-3.ensures.value ∙ take_at s (drop (length s) v.items) v.len (slots_len g)

raw_small : (m n w : ℕ) → w ≤ n + 2 + 1 → (m + 1) * (n + 1) ≤ 1048576 → (m + 1) * (w + 1) ≤ 2 ^ 32
raw_small m n w few small =
    let wide : (m + 1) * (w + 1) ≤ (m + 1) * (n + 4) = mul-le-mul_left (m + 1) (omega (arith, few)) in omega arith

one_more : (n : ℕ) → 0 < n + 1
one_more n = omega arith

two_wide : (n : ℕ) → 0 < n → 1 < n + 1
two_wide n h = omega (arith, h)

rows_fit : (m n w k : ℕ) → w ≤ n + 2 + 1 → m + 1 ≤ k → k ≤ 1048576 → n < 2 ^ 31 → m + (w + 1) ≤ 2 ^ 32
rows_fit m n w k few h small l = omega (arith, few, h, small, l)

pub returns : goal.returns
returns c =
    let g = goal.at.returns c in let p = c.args.p.now in let s = c.give_slots-width.new.stands in let v = c.in_ok-stands.stands in
    let w = c.give_slots-width.result + 1 in let old = c.deref_mut-2.result.now in let new = c.divide_rows.new.numbers in
    let own = c.in_ok-numbers.numbers in let slots = slots_here g.After-give_slots-width in
    let small : p.rows + 1 ≤ (p.rows + 1) * (p.cols + 1) = le-mul_of_pos_right (p.rows + 1) (one_more p.cols) in
    let S : List ℕ → Type 0 = λ x. AreRaw p w (slice_index x) own.items in let O : List ℤ → Type 0 = λ x. AreRaw p w (slice_index s) x in
    start_of p (record {
      numbers = with_items own new;
      stands = with_items v s;
      tops = c.in_ok-tops.tops;
      room = record { lead = c.in_ok-vec.field-0; mixed = c.in_ok-vec-2.field-0; filled = with_items c.in_ok-vec-3.field-0 c.divide_rows.new.filled };
      live = c.in_ok-live.live;
    }) w s old new (two_wide c.give_slots-width.result slots.some)
    (rows_fit p.rows p.cols c.give_slots-width.result ((p.rows + 1) * (p.cols + 1)) slots.few small c.requires.small c.requires.small_cols)
    (record { lead = c.in_ok-vec.ensures.len; mixed = c.in_ok-vec-2.ensures.len; filled = c.in_ok-vec-3.ensures.len })
    (take_at new (drop (length new) own.items) own.len (c.divide_rows.auto.numbers ∙ c.deref_mut-2.ensures.len))
    (take_at s (drop (length s) v.items) v.len (slots_len g.After-give_slots-width)) (slots_long g.After-give_slots-width)
    (stands_here g.After-give_slots-width)
    (ap (λ (xs : List ℕ). length xs) (c.in_ok-live.ensures.items_if_clones_equal (λ y e. e)) ∙ length-replicate (p.cols + 4) 0)
    (ap (λ (xs : List ℕ). length xs) (c.in_ok-tops.ensures.items_if_clones_equal (λ y e. e)) ∙ length-replicate (p.rows + 1) (2 ^ 62))
    (λ i h. ap (λ (xs : List ℕ). slice_index xs i) (c.in_ok-tops.ensures.items_if_clones_equal (λ y e. e))
    ∙ get_or-replicate (p.rows + 1) i (2 ^ 62) 0 h)
    (subst O (sym c.deref_mut-2.ensures.value) (subst S (same_stands g.After-deref-3) c.in_ok-numbers.ensures))
    c.divide_rows.auto.numbers c.divide_rows.ensures.divided c.divide_rows.ensures.last c.divide_rows.ensures.narrow

pub divide_rows-requires-clause-narrow : goal.divide_rows-requires-clause-narrow
divide_rows-requires-clause-narrow c =
    let N : List ℤ → Type 0 = λ x. AreNarrowNumbers x in subst N (sym c.deref_mut-2.ensures.value) c.in_ok-numbers.ensures.narrow

pub divide_rows-requires-clause-small : goal.divide_rows-requires-clause-small
divide_rows-requires-clause-small c =
    let g = goal.at.divide_rows-requires-clause-small c in omega (arith, (slots_here g.After-give_slots-width).few, c.requires.small_cols)

pub overflow_add-rows : goal.overflow_add-rows
overflow_add-rows c = record { fits = omega (arith, c.requires.small_rows) }

pub raw_numbers-requires : goal.raw_numbers-requires
raw_numbers-requires c = record {
  shaped = c.requires.shaped;
  small = let p = c.args.p.now in let g = goal.at.raw_numbers-requires c in
      raw_small p.rows p.cols c.give_slots-width.result (slots_here g.After-give_slots-width).few c.requires.small;
  long = let g = goal.at.raw_numbers-requires c in
      ap (λ (x : List ℕ). length x) (same_stands g.After-deref-3) ∙ slots_long g.After-give_slots-width;
  stands = let p = c.args.p.now in let g = goal.at.raw_numbers-requires c in
      let S : List ℕ → Type 0 = λ x. AreStands p.rows (c.give_slots-width.result + 1) (p.cols + 2) (slice_index x) in
      subst S (sym (same_stands g.After-deref-3)) (stands_here g.After-give_slots-width);
  apart = let p = c.args.p.now in let g = goal.at.raw_numbers-requires c in let w = c.give_slots-width.result in
      let s = c.give_slots-width.new.stands in
      let S : List ℕ → Type 0 = λ x. (i j : ℕ) → i ≤ p.rows → j < p.cols + 2 → place_in p.rows (w + 1) (slice_index x j) i ≡ w + 1 → raw p i j ≡ pos 0 in
      subst S (sym (same_stands g.After-deref-3)) (zero_apart p c.deref-2.result.now (slice_index c.in_ok-stands.stands.items) (slice_index s) w
      c.requires.small_rows c.in_ok-stands.ensures.only (slots_here g.After-give_slots-width));
}

pub divide_rows-requires-clause-long : goal.divide_rows-requires-clause-long
divide_rows-requires-clause-long c = sym (ap (λ (x : List ℤ). length x) c.deref_mut-2.ensures.value ∙ c.in_ok-numbers.ensures.long)

pub divide_rows-requires-clause-room : goal.divide_rows-requires-clause-room
divide_rows-requires-clause-room c = c.deref_mut-3.ensures.len ∙ c.in_ok-vec-3.ensures.len

pub only_rows-requires-clause-shaped : goal.only_rows-requires-clause-shaped
only_rows-requires-clause-shaped c = c.requires.shaped

stands_fit : (m n k s : ℕ) → k ≡ n + 2 → m + 1 ≤ s → s ≤ 1048576 → n < 2 ^ 31 → m + k < 2 ^ 32
stands_fit m n k s e h small l = omega (arith, e, h, small, l)

pub give_slots-width-requires : goal.give_slots-width-requires
give_slots-width-requires c = record {
  long = ap (λ (x : List ℕ). length x) c.deref-2.ensures.value ∙ c.in_ok-own_columns.ensures;
  small = let p = c.args.p.now in
      stands_fit p.rows p.cols (length c.deref_mut.result.now) ((p.rows + 1) * (p.cols + 1))
      (ap (λ (x : List ℕ). length x) c.deref_mut.ensures.value ∙ c.in_ok-stands.ensures.long)
      (le-mul_of_pos_right (p.rows + 1) (one_more p.cols)) c.requires.small c.requires.small_cols;
}
