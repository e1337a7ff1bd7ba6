-- A list that was written through a slice of it.
use Rattle.std.proofs.Common.{◌≡◌, ℕ, ◌+◌, ◌-◌, ◌<◌, ◌≤◌, ◌++◌, List, get_or, length, drop, take, sym, ap, ◌∙◌, subst, arith, Vec}
use Rattle.std.proofs.lemmas.List.{get_or-append_right, get_or_append_left, get_or-drop, length-drop, length-take-le}
use borrow.Rule.Slice.PartMut.{put_mid}
use Rattle.std.specs.declared.alloc.Global.{Global}
use Rattle.gs_model.specs.Classes.{ClassLists}
use Rattle.gs_best.specs.Rooms.{IsWideTo}
use Rattle.gs_best.proofs.Written.{written}

module _ {A : Type 0} (v : Vec A Global) (slice new : List A) (is : slice ≡ v.items) (same : length new ≡ length slice) where
  full : length new ≡ v.len
  full = same ∙ ap (λ (l : List A). length l) is ∙ sym v.ok.0

  -- it is what was written
  pub through : take v.len (new ++ drop (length new) v.items) ≡ new
  through = written v.len new (drop (length new) v.items) full

  -- so it has what holds of that
  pub kept_through : (P : List A → Type 0) → P new → P (take v.len (new ++ drop (length new) v.items))
  kept_through P h = subst P (sym through) h

  -- it is as long as it was
  pub long_through : (n : ℕ) → n ≤ length v.items → n ≤ length (take v.len (new ++ drop (length new) v.items))
  long_through n l = kept_through (λ l. n ≤ length l) (subst (λ m. n ≤ m) (sym (same ∙ ap (λ (l : List A). length l) is)) l)

  pub wide_through : (rounds : ℕ) (lists : ClassLists) → IsWideTo rounds lists (length v.items)
      → IsWideTo rounds lists (length (take v.len (new ++ drop (length new) v.items)))
  wide_through rounds lists wide j some top = long_through _ (wide j some top)

pub part_long : {A : Type 0} (old : List A) (a n : ℕ) → a + n ≤ length old → length (take n (drop a old)) ≡ n
part_long old a n inside = length-take-le n (drop a old) (omega (arith, inside, length-drop a old))

-- `new` was written in place of the n places from a on
module _ {A : Type 0} (zero : A) (old new : List A) (a n : ℕ) (inside : a + n ≤ length old) (same : length new ≡ n) where
  front : length (take a old) ≡ a
  front = length-take-le a old (omega (arith, inside))

  pub put_here : (k : ℕ) → k < n → get_or (drop a (put_mid a n old new)) k zero ≡ get_or new k zero
  put_here k l =
      let rest = drop n (drop a old) in
      let at : a + k - a ≡ k = omega arith in
      get_or-drop a (put_mid a n old new) k zero ∙ get_or-append_right (take a old) (new ++ rest) a (a + k) zero front (omega arith)
      ∙ ap (λ i. get_or (new ++ rest) i zero) at ∙ get_or_append_left new rest zero k (omega (arith, l, same))

  pub put_behind : (i : ℕ) → a + n ≤ i → get_or (put_mid a n old new) i zero ≡ get_or old i zero
  put_behind i l =
      let rest = drop n (drop a old) in
      let at : a + (n + (i - a - n)) ≡ i = omega (arith, l) in
      get_or-append_right (take a old) (new ++ rest) a i zero front (omega (arith, l))
      ∙ get_or-append_right new rest n (i - a) zero same (omega (arith, l))
      ∙ get_or-drop n (drop a old) (i - a - n) zero ∙ get_or-drop a old (n + (i - a - n)) zero ∙ ap (λ k. get_or old k zero) at
