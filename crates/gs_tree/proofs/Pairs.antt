-- The pairs of last-round signals by number: row by row, all of them, one row, one step.
use Rattle.std.proofs.Common.{◌≡◌, ◌≢◌, ℕ, zero, suc, ◌+◌, ◌-◌, ◌*◌, ◌/◌, ◌%◌, ◌<◌, ◌≤◌, List, [], ◌∷◌, ◌++◌, length, map, get_or, refl, sym, ap, ◌∙◌, arith}
use Rattle.std.proofs.{Common.{Bool, true, false, cond, nat_lt, eqb, ⊎_elim}, lemmas.Nat.{div-mul-add, mod-mul-add}, lemmas.Simd.{map-map}}
use Rattle.std.proofs.{lemmas.Bool.{cases_eq}, lemmas.List.{map-append, append-nil}, lemmas.List.Folds.{flat_map-map}}
use Rattle.std.proofs.{lemmas.List.FromFn.{fill_by_all, length-enumerate_from, get_or-enumerate_from}, lemmas.Bool.Decides.{Decides-eqb}}
use Rattle.std.specs.{Prelude.{filter, flat_map, ◌==◌}, List.{range_with_len, enumerate_from}}
use Rattle.gs_model.specs.{Deals.{Deal, deal_of, deals, pairings}, Game.{Game, round_count}, Signals.{Signal, signal_at, signals}}
use Rattle.gs_model.proofs.{Exchanged.{filter-flat_map}, Basics.{flat_map-same, range_step, range_end}, Sparse.{range_append}}
use Rattle.gs_tree.specs.Walk.{deal_at, deals_between, last_count, pair_at}

-- ---- one step

pub between_step : (g : Game) (from to : ℕ) → from < to → deals_between g from to
    ≡ cond (nat_lt 0 (pair_at g from).weight) (pair_at g from ∷ deals_between g (from + 1) to) (deals_between g (from + 1) to)
between_step g from to l = ap (λ r. filter (λ d. nat_lt 0 d.weight) (map (pair_at g) r)) (range_step from to l)

pub between_end : (g : Game) (from to : ℕ) → to ≤ from → deals_between g from to ≡ []
between_end g from to l = ap (λ r. filter (λ d. nat_lt 0 d.weight) (map (pair_at g) r)) (range_end from to l)

-- ---- rows

-- the numbers of a row, as the places in it
row_of : (n i : ℕ) (F : ℕ → ℕ → Deal) (j m : ℕ) → j + m ≤ n → map (λ k. F (k / n) (k % n)) (range_with_len (i * n + j) m) ≡ map (F i) (range_with_len j m)
row_of n i F j zero l = refl
row_of n i F j (suc m) l =
    let in' : j < n = omega arith in
    let d : (i * n + j) / n ≡ i = div-mul-add i n j in' in
    let r : (i * n + j) % n ≡ j = mod-mul-add i n j in' in
    let next : i * n + j + 1 ≡ i * n + (j + 1) = omega arith in
    ap (λ (x : ℕ). F x ((i * n + j) % n) ∷ map (λ k. F (k / n) (k % n)) (range_with_len (i * n + j + 1) m)) d
    ∙ ap (λ (x : ℕ). F i x ∷ map (λ k. F (k / n) (k % n)) (range_with_len (i * n + j + 1) m)) r
    ∙ ap (λ (x : ℕ). F i j ∷ map (λ k. F (k / n) (k % n)) (range_with_len x m)) next
    ∙ ap (λ l. F i j ∷ l) (row_of n i F (j + 1) m (omega arith))

rows_of : (n : ℕ) (F : ℕ → ℕ → Deal) (a m : ℕ) → map (λ k. F (k / n) (k % n)) (range_with_len (a * n) (m * n))
    ≡ flat_map (λ i. map (F i) (range_with_len 0 n)) (range_with_len a m)
rows_of n F a zero = let e : zero * n ≡ 0 = omega arith in ap (λ k. map (λ k. F (k / n) (k % n)) (range_with_len (a * n) k)) e
rows_of n F a (suc m) =
    let pair = λ (k : ℕ). F (k / n) (k % n) in
    let e : suc m * n ≡ n + m * n = omega arith in
    let f : a * n + n ≡ (a + 1) * n = omega arith in
    let z : a * n + 0 ≡ a * n = omega arith in
    ap (λ k. map pair (range_with_len (a * n) k)) e
    ∙ ap (map pair) (range_append (a * n) n (m * n))
    ∙ map-append pair (range_with_len (a * n) n) (range_with_len (a * n + n) (m * n))
    ∙ ap (λ k. map pair (range_with_len k n) ++ map pair (range_with_len (a * n + n) (m * n))) (sym z)
    ∙ ap (λ l. l ++ map pair (range_with_len (a * n + n) (m * n))) (row_of n a F 0 n (omega arith))
    ∙ ap (λ k. map (F a) (range_with_len 0 n) ++ map pair (range_with_len k (m * n))) f
    ∙ ap (λ l. map (F a) (range_with_len 0 n) ++ l) (rows_of n F (a + 1) m)

numbered : (xs : List Signal) → enumerate_from 0 xs ≡ map (λ i. (i, get_or xs i [])) (range_with_len 0 (length xs))
numbered xs =
    fill_by_all (λ (i : ℕ). let p : ℕ × Signal = (i, get_or xs i []) in p) (enumerate_from 0 xs) (length xs) (0, []) (length-enumerate_from 0 xs)
    (λ k l. get_or-enumerate_from 0 xs k (0, []) l ∙ (let e : 0 + k ≡ k = omega arith in ap (λ (i : ℕ). let p : ℕ × Signal = (i, get_or xs k []) in p) e))

rows : (g : Game) → pairings g ≡ flat_map (λ i. map (deal_at g i) (range_with_len 0 (last_count g))) (range_with_len 0 (last_count g))
rows g =
    let all = enumerate_from 0 (signals g (round_count g)) in
    let at = λ (i : ℕ). let p : ℕ × Signal = (i, signal_at g (round_count g) i) in p in
    let range = range_with_len 0 (last_count g) in
    let e : all ≡ map at range = numbered (signals g (round_count g)) in
    ap (λ l. flat_map (λ a. map (λ b. deal_of g a b) l) l) e
    ∙ flat_map-map (λ a. map (λ b. deal_of g a b) (map at range)) at range
    ∙ flat_map-same (λ i. map (λ b. deal_of g (at i) b) (map at range)) (λ i. map (deal_at g i) range) (λ i. map-map (λ b. deal_of g (at i) b) at range) range

-- all pairs are all deals
pub all_pairs : (g : Game) → deals_between g 0 (last_count g * last_count g) ≡ deals g
all_pairs g =
    let n = last_count g in
    let z : 0 * n ≡ 0 = omega arith in
    let e : n * n - 0 ≡ n * n = omega arith in
    let keep = λ (l : List Deal). filter (λ d. nat_lt 0 d.weight) l in
    ap (λ k. keep (map (pair_at g) (range_with_len 0 k))) e
    ∙ ap (λ k. keep (map (pair_at g) (range_with_len k (n * n)))) (sym z)
    ∙ ap keep (rows_of n (deal_at g) 0 n) ∙ ap keep (sym (rows g))

-- ---- one row

keeps : (g : Game) (i a : ℕ) (xs : List ℕ) → filter (λ (d : Deal). d.one == i) (filter (λ d. nat_lt 0 d.weight) (map (deal_at g a) xs))
    ≡ cond (eqb a i) (filter (λ d. nat_lt 0 d.weight) (map (deal_at g a) xs)) []
keeps g i a [] = go (eqb a i)
  where
    go : (b : Bool) → [] ≡ cond b (filter (λ (d : Deal). nat_lt 0 d.weight) []) []
    go true = refl
    go false = refl
keeps g i a (x ∷ xs) = go (nat_lt 0 (deal_at g a x).weight) (eqb a i) refl (keeps g i a xs)
  where
    rest : List Deal
    rest = filter (λ d. nat_lt 0 d.weight) (map (deal_at g a) xs)

    go : (t b : Bool) → eqb a i ≡ b → filter (λ (d : Deal). d.one == i) rest ≡ cond b rest []
        → filter (λ (d : Deal). d.one == i) (cond t (deal_at g a x ∷ rest) rest) ≡ cond b (cond t (deal_at g a x ∷ rest) rest) []
    go true true e h = ap (λ c. cond c (deal_at g a x ∷ filter (λ (d : Deal). d.one == i) rest) (filter (λ (d : Deal). d.one == i) rest)) e
        ∙ ap (λ l. deal_at g a x ∷ l) h
    go true false e h = ap (λ c. cond c (deal_at g a x ∷ filter (λ (d : Deal). d.one == i) rest) (filter (λ (d : Deal). d.one == i) rest)) e ∙ h
    go false true e h = h
    go false false e h = h

pick_none : (h : ℕ → List Deal) (i a m : ℕ) → i < a → flat_map (λ k. cond (eqb k i) (h k) []) (range_with_len a m) ≡ []
pick_none h i a zero l = refl
pick_none h i a (suc m) l =
    let ne : a ≢ i = λ e. absurd (omega (arith, e)) in
    let f : eqb a i ≡ false = grind (arith, ne) in
    ap (λ b. cond b (h a) [] ++ flat_map (λ k. cond (eqb k i) (h k) []) (range_with_len (a + 1) m)) f ∙ pick_none h i (a + 1) m (omega arith)

pick : (h : ℕ → List Deal) (i a m : ℕ) → a ≤ i → i < a + m → flat_map (λ k. cond (eqb k i) (h k) []) (range_with_len a m) ≡ h i
pick h i a zero low l = absurd (omega arith)
pick h i a (suc m) low l = ⊎_elim
    (λ here. let t : eqb a i ≡ true = (Decides-eqb a i).1 here in
    ap (λ b. cond b (h a) [] ++ flat_map (λ k. cond (eqb k i) (h k) []) (range_with_len (a + 1) m)) t
    ∙ ap (λ l. h a ++ l) (pick_none h i (a + 1) m (omega arith)) ∙ append-nil (h a) ∙ ap h here)
    (λ past. let f : eqb a i ≡ false = grind (arith, past) in
    ap (λ b. cond b (h a) [] ++ flat_map (λ k. cond (eqb k i) (h k) []) (range_with_len (a + 1) m)) f ∙ pick h i (a + 1) m (omega arith) (omega arith))
    (cases_eq a i)

-- the deals of a signal are the pairs of its row that weigh something
pub row_deals : (g : Game) (i : ℕ) → i < last_count g → filter (λ (d : Deal). d.one == i) (deals g)
    ≡ filter (λ d. nat_lt 0 d.weight) (map (deal_at g i) (range_with_len 0 (last_count g)))
row_deals g i l =
    let n = last_count g in
    let keep = λ (l : List Deal). filter (λ d. nat_lt 0 d.weight) l in
    let mine = λ (l : List Deal). filter (λ (d : Deal). d.one == i) l in
    let range = range_with_len 0 n in
    let row = λ (a : ℕ). map (deal_at g a) range in
    ap (λ l. mine (keep l)) (rows g) ∙ ap mine (filter-flat_map (λ d. nat_lt 0 d.weight) row range)
    ∙ filter-flat_map (λ (d : Deal). d.one == i) (λ a. keep (row a)) range
    ∙ flat_map-same (λ a. mine (keep (row a))) (λ a. cond (eqb a i) (keep (row a)) []) (λ a. keeps g i a range) range
    ∙ pick (λ a. keep (row a)) i 0 n (omega arith) (omega arith)

-- the pairs of a row are the deals of its signal
pub row_pairs : (g : Game) (i : ℕ) → i < last_count g → deals_between g (i * last_count g) (i * last_count g + last_count g)
    ≡ filter (λ (d : Deal). d.one == i) (deals g)
row_pairs g i l =
    let n = last_count g in
    let keep = λ (l : List Deal). filter (λ d. nat_lt 0 d.weight) l in
    let e : i * n + n - i * n ≡ n = omega arith in
    let z : i * n + 0 ≡ i * n = omega arith in
    ap (λ k. keep (map (pair_at g) (range_with_len (i * n) k))) e ∙ ap (λ k. keep (map (pair_at g) (range_with_len k n))) (sym z)
    ∙ ap keep (row_of n i (deal_at g) 0 n (omega arith)) ∙ sym (row_deals g i l)
