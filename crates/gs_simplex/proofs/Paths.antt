-- The path up to a table: its first state, one more step of the opening or one more pivot, and each way in which it stops.
use Rattle.std.proofs.Common.{◌≡◌, ◌≢◌, ℕ, suc, ◌+◌, ◌<◌, ◌≤◌, inl, inr, [], ◌∷◌, ◌++◌, length, take, slice_index_or, slice_set, ℤ, pos}
use Rattle.std.proofs.Common.{neg_ℤ, ◌<ℤ◌, ◌≤ℤ◌, Option, Some, None, IfNone, MatchOption, refl, sym, ap, subst, ◌∙◌, arith}
use Rattle.std.proofs.{lemmas.List.{take_more}, Math.Seq.{take-length}}
use Rattle.gs_simplex.specs.{declared.program.Program.{Program}, Rows.{IsPrimitive}, Elimination.{IsEliminated}, Path.{unbounded, PathStops}}
use Rattle.gs_simplex.specs.Program.{Listing, IsPairList, IsRowsOf, CanTake, IsTakenInTurn, IsOpening}
use Rattle.gs_simplex.specs.Path.{States, IsPath, IsWhole, IsPivot, Enters, NoneEnters, Leaves, NoneLeaves, AllNarrow, IsFirstWide, ends, wide, pivots}
use Rattle.gs_simplex.specs.Table.{table_aim, IsTable, IsKept, IsTableOf, IsTableAfter, stated, IsWideAfter}
use Rattle.gs_simplex.specs.{State.{IsSoFar, IsPivoted, IsWidePivot}, Choice.{IsLeaving}}
use Rattle.gs_simplex.proofs.{Ring.{linear}, Steps.{IsList, take_rows}, Pivots.{IsPlace, turn_rows}, Opening.{opened}, Extend.{longer, last_step, path_longer}}
use Rattle.gs_simplex.proofs.{Agree.{Agree, enters_same, leaves_same, lists_same, paths_agree}, Exists.{take_nonzero}}
use Rattle.gs_simplex.proofs.{PairLists.{less_one, pair_list_is_list, opened_pair_list, place_in, changed_pair_list}, Tables.{flipped_other}}
use Rattle.gs_simplex.proofs.Kept.{narrow_kept, aim_zero_kept, nonzero_kept, enters_kept, none_enters_kept, leaves_kept, none_leaves_kept}

module _ {p : Program} {o l : Listing} {grid : ℕ → ℕ → ℤ} {t : ℕ} where
  -- ---- what a table holds
  pub rows_at : (u : IsSoFar p o t l grid) → IsRowsOf p l (u.states.0.rows t) (u.states.0.aim t)
  rows_at u = let s = u.states.0 in let P : Listing → Type 0 = λ x. IsRowsOf p x (s.rows t) (s.aim t) in
      subst P u.states.2 (u.states.1.rows t (omega arith))

  pub rows_of_so_far : IsSoFar p o t l grid → IsTableOf p l grid
  rows_of_so_far u = record { rows_of = (u.states.0.rows t, u.states.0.aim t, rows_at u, u.states.3) }

  narrow_at : (u : IsSoFar p o t l grid) → IsTable p grid → AllNarrow p (u.states.0.rows t) (u.states.0.aim t)
  narrow_at u table = narrow_kept u.states.3 table

-- ---- the first step
pub so_far_start : (p : Program) (o : Listing) (grid : ℕ → ℕ → ℤ) → IsTableOf p [] grid → IsSoFar p o 0 [] grid
so_far_start p o grid u = record {
  states = (
    record { lists = λ k. []; rows = λ k. u.rows_of.0; aim = λ k. u.rows_of.1; entering = λ k. 0; leaving = λ k. 0 },
    record {
      opens = λ k kt ko. (let e : 0 ≡ k = omega arith in let P : ℕ → Type 0 = λ x. [] ≡ take x o in subst P e refl);
      pivots = λ k ok kt. absurd (omega arith);
      rows = λ k kt. u.rows_of.2;
      narrow = λ k k0 kt. absurd (omega arith);
    },
    refl,
    u.rows_of.3,
  );
}

-- ---- one more step
-- the path with the new state after it
pub record IsNext (p : Program) (o : Listing) (t : ℕ) (next : Listing) (Q : ℕ → ℕ → ℤ) (b : ℕ → ℤ) : Type 0 where
  pub states : (s : States) × (IsPath p o (suc t) s) × (s.lists (suc t) ≡ next) × (s.rows (suc t) ≡ Q) × (s.aim (suc t) ≡ b)

taken_next : (o : Listing) (t : ℕ) (r c : ℕ) → t < length o → slice_index_or o t (0, 0) ≡ (r + 1, c + 1) → take (suc t) o ≡ take t o ++ ((r + 1, c + 1) ∷ [])
taken_next o t r c h at = ap (λ x. take x o) (let q : suc t ≡ t + 1 = omega arith in q) ∙ take_more o t (0, 0) h ∙ ap (λ x. take t o ++ (x ∷ [])) at

module _ {p : Program} {o : Listing} where
  module _ {l : Listing} {grid : ℕ → ℕ → ℤ} {t : ℕ} {Q : ℕ → ℕ → ℤ} {b : ℕ → ℤ} {next : Listing} (f d : ℕ) where
    -- an opening step, or a pivot in which column f enters and column d leaves, leads to the new state
    next_step : (u : IsSoFar p o t l grid) → IsTable p grid → IsRowsOf p next Q b → (t < length o → next ≡ take (suc t) o)
        → (length o ≤ t → IsPivot p (u.states.0.lists t) (u.states.0.rows t) (u.states.0.aim t) next f d) → IsNext p o t next Q b
    next_step u table new opens turn =
        let s = u.states.0 in let more : States = longer t s next Q b f d in
        let P : Listing → (ℕ → ℕ → ℤ) → (ℕ → ℤ) → Type 0 = λ l R a. (l ≡ next) × (R ≡ Q) × (a ≡ b) in
        let w : P (more.lists (suc t)) (more.rows (suc t)) (more.aim (suc t)) = last_step t s next Q b f d P (refl, refl, refl) in
        record {
          states = (more, path_longer t s next Q b f d p o u.states.1 (λ z. narrow_at u table) new opens turn, w.0, w.1, w.2);
        }

  module _ {grid : ℕ → ℕ → ℤ} {t : ℕ} {Q : ℕ → ℕ → ℤ} {b : ℕ → ℤ} {r c : ℕ} where
    pub next_opens : IsTakenInTurn p o → t < length o → slice_index_or o t (0, 0) ≡ (r + 1, c + 1) → CanTake p (take t o) r c → IsTable p grid
        → (u : IsSoFar p o t (take t o) grid) → IsEliminated p (u.states.0.rows t) (u.states.0.aim t) r c Q b → IsNext p o t (take (suc t) o) Q b
    next_opens taken h at can table u el =
        let w = opened o taken t (omega arith) in
        let P : Listing → Type 0 = λ x. IsRowsOf p x Q b in
        let new : IsRowsOf p (take (suc t) o) Q b = subst P (sym (taken_next o t r c h at)) (take_rows w.is_list can (rows_at u) el) in
        next_step 0 0 u table new (λ z. refl) (λ z. absurd (omega arith))

  module _ {l : Listing} {grid : ℕ → ℕ → ℤ} {t e : ℕ} {Q : ℕ → ℕ → ℤ} {b : ℕ → ℤ} {r c q : ℕ} where
    pub next_pivots : length o ≤ t → IsPlace p l q r c → IsTable p grid → (u : IsSoFar p o t l grid) → Enters p l (u.states.0.aim t) e
        → Leaves p l (u.states.0.rows t) e r c → IsEliminated p (u.states.0.rows t) (u.states.0.aim t) r e Q b
        → IsNext p o t (slice_set l q (r + 1, e + 1)) Q b
    next_pivots h at table u en lv el =
        let next = slice_set l q (r + 1, e + 1) in
        let s = u.states.0 in
        let same : (j : ℕ) → j ≤ p.cols → Q r j ≡ s.rows t r j = λ j jn. elim el.self [
          | inl s ↦ s j jn
          | inr x ↦ (let x : Q r e ≡ neg_ℤ (s.rows t r e) = x e (omega (arith, en.column)) in let y : pos 0 <ℤ Q r e = el.own in
              let z : pos 0 <ℤ s.rows t r e = lv.pivot in absurd (omega (arith, linear)))
        ] in
        let new : IsRowsOf p next Q b = turn_rows at e en.column en.unlisted lv.pivot (rows_at u) el same in
        let T : Listing → Type 0 = λ x. IsPivot p x (s.rows t) (s.aim t) next e c in
        next_step e c u table new (λ z. absurd (omega arith))
        (λ z. subst T (sym u.states.2) (record { enters = en; place = (q, r, at.inside, at.pair, lv, refl) }))

  module _ {t : ℕ} {Q : ℕ → ℕ → ℤ} {b : ℕ → ℤ} {next : Listing} where
    pub so_far_next : {new : ℕ → ℕ → ℤ} → IsNext p o t next Q b → IsKept p Q b new → IsSoFar p o (suc t) next new
    so_far_next {new} u kept =
        let s = u.states.0 in
        let R : (ℕ → ℕ → ℤ) → Type 0 = λ x. IsKept p x (s.aim (suc t)) new in let S : (ℕ → ℤ) → Type 0 = λ x. IsKept p Q x new in
        record { states = (s, u.states.1, u.states.2, subst R (sym u.states.3) (subst S (sym u.states.4) kept)) }

    -- ---- the stops
    pub wide_stops : {limit i j : ℕ} {z : ℤ} → t < length o + limit → IsNext p o t next Q b → IsFirstWide p Q b i j z
        → PathStops p o limit (wide (t + 1) (i + 1) (j + 1) z)
    wide_stops {i} {j} {z} h u w =
        let s = u.states.0 in
        let R : (ℕ → ℕ → ℤ) → Type 0 = λ x. IsFirstWide p x (s.aim (suc t)) i j z in let S : (ℕ → ℤ) → Type 0 = λ x. IsFirstWide p Q x i j z in
        record {
          stops = (
            suc t,
            s,
            (
              u.states.1,
              omega arith,
              omega arith,
              omega arith,
              (i, j, refl, refl, subst R (sym u.states.3) (subst S (sym u.states.4) w)),
            ),
          );
        }

whole : (p : Program) (o : Listing) (limit t : ℕ) (l : Listing) (grid : ℕ → ℕ → ℤ) (u : IsSoFar p o t l grid) → IsTable p grid → length o ≤ t → t ≤ length
    o + limit
    → IsWhole p o limit t u.states.0
whole p o limit t l grid u table h k =
    record { path = u.states.1; whole = h; within = k; narrow = λ z. narrow_at u table }

module _ {p : Program} {o l : Listing} {grid : ℕ → ℕ → ℤ} where
  pub ends_stops : {limit : ℕ} (n : ℕ) → IsSoFar p o (length o + n) l grid → IsTable p grid → n ≤ limit → NoneEnters p l (table_aim p grid)
      → PathStops p o limit (ends n l)
  ends_stops {limit} n u table h none =
      let s = u.states.0 in let t = length o + n in
      let Q : Listing → Type 0 = λ x. NoneEnters p x (s.aim t) in
      record {
        stops = (
          t,
          s,
          (
            whole p o limit t l grid u table (omega arith) (omega arith),
            subst Q (sym u.states.2) (none_enters_kept u.states.3 l none),
            refl,
            sym u.states.2,
          ),
        );
      }

  enters_at : {t e : ℕ} (u : IsSoFar p o t l grid) → Enters p l (table_aim p grid) e → Enters p (u.states.0.lists t) (u.states.0.aim t) e
  enters_at {t} {e} u en =
      let s = u.states.0 in let Q : Listing → Type 0 = λ x. Enters p x (s.aim t) e in
      subst Q (sym u.states.2) (enters_kept u.states.3 en)

  pub pivots_stops : {e r c limit : ℕ} → IsPairList p l → IsSoFar p o (length o + limit) l grid → IsTable p grid → Enters p l (table_aim p grid) e
      → Leaves p l (grid) e r c → PathStops p o limit pivots
  pivots_stops {e} {r} {c} {limit} pairs u table en lv =
      let s = u.states.0 in let t = length o + limit in
      let Q : Listing → Type 0 = λ x. Leaves p x (s.rows t) e r c in
      record {
        stops = (
          t,
          s,
          (
            whole p o limit t l grid u table (omega arith) (omega arith),
            refl,
            (e, r, c, enters_at u en, subst Q (sym u.states.2) (leaves_kept u.states.3 pairs en.column lv)),
          ),
        );
      }

  pub unbounded_stops : {e limit : ℕ} (n : ℕ) → IsPairList p l → IsSoFar p o (length o + n) l grid → IsTable p grid → n ≤ limit
      → Enters p l (table_aim p grid) e → NoneLeaves p l (grid) e → PathStops p o limit (unbounded (e + 1))
  unbounded_stops {e} {limit} n pairs u table h en none =
      let s = u.states.0 in let t = length o + n in
      let Q : Listing → Type 0 = λ x. NoneLeaves p x (s.rows t) e in
      record {
        stops = (
          t,
          s,
          (
            whole p o limit t l grid u table (omega arith) (omega arith),
            (e, refl, enters_at u en, subst Q (sym u.states.2) (none_leaves_kept u.states.3 pairs en.column none)),
          ),
        );
      }

-- ---- the entering column as it is found in the aim's row
module _ (p : Program) (grid : ℕ → ℕ → ℤ) where
  aim_at : (j : ℕ) → j < p.cols → grid p.rows j ≡ table_aim p grid j
  aim_at j h = sym (flipped_other p.cols (grid p.rows) j (λ s. omega arith))

  pub none_enters_from : (l : Listing) → ((j : ℕ) → j < p.cols → grid p.rows j ≤ℤ pos 0) → NoneEnters p l (table_aim p grid)
  none_enters_from l h j jn out = let P : ℤ → Type 0 = λ t. t ≤ℤ pos 0 in subst P (aim_at j jn) (h j jn)

  pub enters_from : (l : Listing) (k : ℕ) → IsTableOf p l grid → k < p.cols → pos 0 <ℤ grid p.rows k
      → ((j : ℕ) → j < k → grid p.rows j ≤ℤ pos 0) → Enters p l (table_aim p grid) k
  enters_from l k rows column up before =
      let rises : pos 0 <ℤ table_aim p grid k = (let P : ℤ → Type 0 = λ t. pos 0 <ℤ t in subst P (aim_at k column) up) in
      record {
        column = column;
        unlisted = λ h. (let w = rows.rows_of in
            let z : table_aim p grid k ≡ pos 0 = aim_zero_kept w.3 k (omega arith) (w.2.aim_row.2.zeros k h) in omega (arith, linear));
        rises = rises;
        least = λ j jk out. (let P : ℤ → Type 0 = λ t. t ≤ℤ pos 0 in subst P (aim_at j (omega arith)) (before j jk));
      }

pub none_of : {X : Type 0} (r : Option X) (P : Type 0) (Q : X → Type 0) → r ≡ None → MatchOption r P Q → P
none_of None P Q e h = h
none_of (Some x) P Q e h = absurd (cc)

pub if_none : {X : Type 0} (r : Option X) (P : Type 0) → r ≡ None → IfNone r P → P
if_none None P e h = h
if_none (Some x) P e h = absurd (cc)

-- ---- a step of the opening
can_take_at : {p : Program} {r c : ℕ} (o : Listing) (t : ℕ) → IsTakenInTurn p o → t < length o → slice_index_or o t (0, 0) ≡ (r + 1, c + 1)
    → CanTake p (take t o) r c
can_take_at {p} {r} {c} o t taken h at =
    let w = taken t h in
    let q : (w.0 + 1, w.1 + 1) ≡ (r + 1, c + 1) = sym w.2 ∙ at in
    let a : w.0 ≡ r = less_one w.0 r (ap (λ (x : ℕ × ℕ). x.0) q) in let b : w.1 ≡ c = less_one w.1 c (ap (λ (x : ℕ × ℕ). x.1) q) in
    let P : ℕ → Type 0 = λ x. CanTake p (take t o) x w.1 in let Q : ℕ → Type 0 = λ x. CanTake p (take t o) r x in subst Q b (subst P a w.3)

-- at step t of the opening the pair of row r and column c comes next
module _ {p : Program} {o : Listing} {t : ℕ} {grid : ℕ → ℕ → ℤ} (r c : ℕ) (opens : IsOpening p o) (h : t < length o) (at : slice_index_or o t (0, 0)
    ≡ (r + 1, c + 1)) (table : IsTable p grid) (u : IsSoFar p o t (take t o) grid) where
  can : CanTake p (take t o) r c
  can = can_take_at o t opens.taken h at

  pub open_nonzero : grid r c ≢ pos 0
  open_nonzero =
      let w = opened o opens.taken t (omega arith) in let s = u.states.0 in
      nonzero_kept u.states.3 r c can.row (omega (arith, can.column)) (take_nonzero w.is_list w.regular can (rows_at u))

  open_prim : IsPrimitive p.cols (u.states.0.rows t r)
  open_prim = (rows_at u).primitive r can.row

  pub open_wide : (i j : ℕ) (z : ℤ) → IsWideAfter p grid r c i j z → (limit : ℕ) → PathStops p o limit (wide (t + 1) (i + 1) (j + 1) (stated p i j z))
  open_wide i j z w limit =
      let q = w.after (u.states.0.rows t) (u.states.0.aim t) open_prim u.states.3 in
      wide_stops (omega arith) (next_opens opens.taken h at can table u q.2) q.3

  pub open_pairs : (k : ℕ) → k ≤ length o → IsPairList p (take k o)
  open_pairs k l = opened_pair_list (opened o opens.taken k l)

  pub open_next : (new : ℕ → ℕ → ℤ) → IsTableAfter p grid new r c → IsSoFar p o (t + 1) (take (t + 1) o) new
  open_next new w =
      let e : suc t ≡ t + 1 = omega arith in
      let P : ℕ → Type 0 = λ k. IsSoFar p o k (take k o) new in
      let q = w.after (u.states.0.rows t) (u.states.0.aim t) open_prim u.states.3 in
      subst P e (so_far_next (next_opens opens.taken h at can table u q.2) q.3)

pub opening_pairs : {p : Program} {o : Listing} → IsOpening p o → IsPairList p o
opening_pairs {p} {o} u = let P : Listing → Type 0 = λ x. IsPairList p x in subst P (take-length o)
    (opened_pair_list (opened o u.taken (length o) (omega arith)))

pub empty_pairs : (p : Program) → IsPairList p []
empty_pairs p = record {
  named = λ k h. absurd (omega arith);
  rows_differ = λ k h kl hl e. absurd (omega arith);
  columns_differ = λ k h kl hl e. absurd (omega arith);
}

-- ---- a pivot of the path
same_names : (l : Listing) (q r c k d : ℕ) → slice_index_or l q (0, 0) ≡ (r + 1, c + 1) → slice_index_or l q (0, 0) ≡ (k + 1, d + 1) → (r ≡ k) × (c ≡ d)
same_names l q r c k d a b =
    let e : (r + 1, c + 1) ≡ (k + 1, d + 1) = sym a ∙ b in
    (less_one r k (ap (λ (x : ℕ × ℕ). x.0) e), less_one c d (ap (λ (x : ℕ × ℕ). x.1) e))

-- the row that leaves is not 0 in the column that enters
pub leaving_nonzero : {p : Program} {l : Listing} {grid : ℕ → ℕ → ℤ} {e : ℕ} (q : ℕ) → IsLeaving p l grid e (Some q) → (r c : ℕ)
    → slice_index_or l q (0, 0) ≡ (r + 1, c + 1) → grid r e ≢ pos 0
leaving_nonzero {l = l} {grid} {e} q lv r c at z =
    let P : ℕ → Type 0 = λ x. pos 0 <ℤ grid x e in
    let up : pos 0 <ℤ grid r e = subst P (same_names l q lv.0 lv.1 r c lv.3 at).0 lv.4.pivot in absurd (omega (arith, linear))

-- after t steps column e enters and the row at place q leaves
module _ {p : Program} {o : Listing} {t : ℕ} {l : Listing} {grid : ℕ → ℕ → ℤ} {e : ℕ} (q : ℕ) (h : length o ≤ t) (pairs : IsPairList p l) (table : IsTable p
    grid)
    (u : IsSoFar p o t l grid) (en : Enters p l (table_aim p grid) e)
    (lv : IsLeaving p l (grid) e (Some q)) where
  leaves_at : (r c : ℕ) → slice_index_or l q (0, 0) ≡ (r + 1, c + 1) → Leaves p l (u.states.0.rows t) e r c
  leaves_at r c at =
      let s = same_names l q lv.0 lv.1 r c lv.3 at in
      let P : ℕ → Type 0 = λ x. Leaves p l (grid) e x lv.1 in let Q : ℕ → Type 0 = λ x. Leaves p l (grid) e r x in
      leaves_kept u.states.3 pairs en.column (subst Q s.1 (subst P s.0 lv.4))

  enters_kept_at : Enters p l (u.states.0.aim t) e
  enters_kept_at = enters_kept u.states.3 en

  pivot_prim : (r c : ℕ) → slice_index_or l q (0, 0) ≡ (r + 1, c + 1) → IsPrimitive p.cols (u.states.0.rows t r)
  pivot_prim r c at = (rows_at u).primitive r ((pair_list_is_list pairs).row_inside r c (leaves_at r c at).listed)

  pub pivot_next : (next : Listing) (new : ℕ → ℕ → ℤ) → IsPivoted p l next grid new q e → (IsTable p new) × (IsPairList p next) × IsSoFar p o (t + 1) next new
  pivot_next next new w =
      let a = w.pair in let r = a.0 in let c = a.1 in let at : IsPlace p l q r c = place_in pairs lv.2 a.2 in
      let step : suc t ≡ t + 1 = omega arith in
      let P : Listing → Type 0 = λ x. (IsPairList p x) × IsSoFar p o (t + 1) x new in let T : ℕ
      → Type 0 = λ k. IsSoFar p o k (slice_set l q (r + 1, e + 1)) new in
      let both = subst P (sym a.3) (
        changed_pair_list at e pairs en.column en.unlisted,
        (let x = a.4.after (u.states.0.rows t) (u.states.0.aim t) (pivot_prim r c a.2) u.states.3 in
            subst T step (so_far_next (next_pivots h at table u enters_kept_at (leaves_at r c a.2) x.2) x.3)),
      ) in
      (a.4.table, both.0, both.1)

  pub pivot_wide : (i j : ℕ) (z : ℤ) → IsWidePivot p l grid q e i j z → (limit : ℕ) → t < length o + limit
      → PathStops p o limit (wide (t + 1) (i + 1) (j + 1) (stated p i j z))
  pivot_wide i j z w limit k =
      let a = w.pair in let r = a.0 in let c = a.1 in let at : IsPlace p l q r c = place_in pairs lv.2 a.2 in
      let b = a.3.after (u.states.0.rows t) (u.states.0.aim t) (pivot_prim r c a.2) u.states.3 in
      wide_stops k (next_pivots h at table u enters_kept_at (leaves_at r c a.2) b.2) b.3

module _ {p : Program} {o l : Listing} where
  module _ {e r c : ℕ} {R : ℕ → ℕ → ℤ} {a : ℕ → ℤ} {s : States} where
    -- ---- which columns a pivot changes
    -- the path s has this list after t steps, and its rows agree with these: its next pivot is theirs
    pub turn_same_as : (t : ℕ) → length o ≤ t → IsPath p o (t + 1) s → s.lists t ≡ l → Agree p (s.rows t) R (s.aim t) a → IsList p l → Enters p l a e
        → Leaves p l R e r c → (s.entering t ≡ e) × (s.leaving t ≡ c)
    turn_same_as t h path el ag il en lv =
        let pv = path.pivots t h (omega arith) in
        let E : Listing → Type 0 = λ x. Enters p x (s.aim t) (s.entering t) in
        let ee : s.entering t ≡ e = enters_same ag (subst E el pv.enters) en in
        let L : Listing → Type 0 = λ x. Leaves p x (s.rows t) (s.entering t) pv.place.1 (s.leaving t) in
        let M : ℕ → Type 0 = λ x. Leaves p l (s.rows t) x pv.place.1 (s.leaving t) in
        (ee, (leaves_same il en.column ag (subst M ee (subst L el pv.place.4)) lv).1)

  -- the pivot made
  pub turn_at : {grid : ℕ → ℕ → ℤ} {e : ℕ} {next : Listing} {new : ℕ → ℕ → ℤ} (made : ℕ) (q r c : ℕ) → IsOpening p o → IsPairList p l
      → IsSoFar p o (length o + made) l grid → Enters p l (table_aim p grid) e → IsLeaving p l (grid) e (Some q)
      → slice_index_or l q (0, 0) ≡ (r + 1, c + 1) → IsSoFar p o (length o + made + 1) next new
      → (s : States) × (IsPath p o (length o + made + 1) s) × (e + 1 ≡ s.entering (length o + made) + 1) × (c + 1 ≡ s.leaving (length o + made) + 1)
  turn_at made q r c ok pairs u en lv at w =
      let t = length o + made in let s = w.states.0 in let s0 = u.states.0 in
      let path = w.states.1 in
      let same : s.lists t ≡ s0.lists t = lists_same ok
      path u.states.1 made (omega arith) (omega arith) in
      let ag = paths_agree ok path u.states.1 made (omega arith) (omega arith) in
      let n = same_names l q lv.0 lv.1 r c lv.3 at in
      let z = turn_same_as t (omega arith) path (same ∙ u.states.2) ag (pair_list_is_list pairs) (enters_kept u.states.3 en)
      (leaves_kept u.states.3 pairs en.column lv.4) in
      (s, path, ap (λ x. x + 1) (sym z.0), ap (λ x. x + 1) (sym n.1 ∙ sym z.1))
