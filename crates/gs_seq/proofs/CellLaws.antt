-- The pairs of each end's round, and how many there can be.
use Rattle.std.proofs.Common.{◌≡◌, ℕ, zero, suc, ◌+◌, ◌-◌, ◌*◌, ◌<◌, ◌≤◌, ◌^◌, List, [], ◌∷◌, ◌++◌, length, get_or, map, take, sym, ap, ◌∙◌, subst, arith}
use Rattle.std.proofs.Common.{sum_by, count_by, Vec, ⊎_elim}
use Rattle.std.proofs.{Math.Nat.{mul-le-mul_right}, lemmas.Bool.{cases_lt}, lemmas.List.{get_or_append_left, get_or_push, get_or_read, length-map, length_push}}
use Rattle.std.proofs.{lemmas.List.FromFn.{length-range_with_len}, lemmas.List.Sums.{count_by-le-length, sum_by-le, sum_by_more}}
use Rattle.std.specs.{Prelude.{All}, declared.alloc.Global.{Global}}
use Rattle.gs_filter.specs.Filter.{Filter}
use Rattle.gs_game.specs.{Games.{game_of}, Seen.{end_of}, declared.positions.End.{End as StoredEnd}, declared.valid.ValidGame.{ValidGame}}
use Rattle.gs_lossless.specs.declared.checking.Lossless.{Lossless}
use Rattle.gs_model.specs.{Classes.{ClassLists, class_count, classes_in}, Deals.{deals}, Frame.{Frame, end_count, last_round, round_of}}
use Rattle.gs_model.specs.Positions.{End, at_end}
use Rattle.gs_model.proofs.{Ranges.{deals_weigh}, Basics.{sum_by-map}}
use Rattle.gs_seq.specs.{Cells.{AreCounts, cell_count, meets, pair_count}, Games.{frame_in}, Rows.{AreRows, AreRowsIn, IsRow, pairs_of}, declared.pair.Pair.{Pair}}
use Rattle.gs_seq.proofs.{Ends.{end_reads, end_round, length-ends}, Meeting.{rows_long}, Points.{walked}, RowRoom.{table}, Singles.{made_count}}
use Rattle.gs_seq.proofs.SlotLaws.{class_few, over}

-- the rows of a round of a game with lossless classes
abbrev pub AreRowsOf : Lossless → ℕ → List (Vec Pair Global) → Type 0
AreRowsOf s round rows = AreRowsIn (frame_in s.signals.now.game.now) s.classes.now.lists round rows

-- what holds of each item, by place, holds with one more
pub pushed : {X : Type 0} (P : ℕ → X → Type 0) (xs : List X) (x : X) (n : ℕ) → length xs ≡ n → ((k : ℕ) (d : X) → k < n → P k (get_or xs k d)) → P n x
    → (k : ℕ) (d : X) → k < n + 1 → P k (get_or (xs ++ x ∷ []) k d)
pushed P xs x n long before here k d l = ⊎_elim
    (λ under. subst (P k) (sym (get_or_append_left xs (x ∷ []) d k (omega (arith, under, long)))) (before k d under))
    (λ beyond. let e : k ≡ n = omega (arith, beyond, l) in subst (P k) (sym (get_or_push xs x d k (long ∙ sym e))) (subst (λ j. P j x) (sym e) here))
    (cases_lt k n)

pub pushed_to : {X : Type 0} (P : ℕ → X → Type 0) (xs ys : List X) (x : X) (n : ℕ) → ys ≡ xs ++ x ∷ [] → length xs ≡ n
    → ((k : ℕ) (d : X) → k < n → P k (get_or xs k d)) → P n x → (k : ℕ) (d : X) → k < n + 1 → P k (get_or ys k d)
pushed_to P xs ys x n put long before here k d l = subst (λ zs. P k (get_or zs k d)) (sym put) (pushed P xs x n long before here k d l)

-- the rows that were made for each class of a round in turn
pub rows_made : (f : Frame) (lists : ClassLists) (round n : ℕ) (rows : List (Vec Pair Global)) → length rows ≡ n → n ≡ class_count lists round
    → ((k : ℕ) (d : Vec Pair Global) → k < n → IsRow f lists round (k + 1) (get_or rows k d).items) → AreRowsIn f lists round rows
rows_made f lists round n rows long all each = record {
  long = long ∙ all;
  row = λ c d class. (
      let back : c - 1 + 1 ≡ c = omega (arith, class.0) in
      subst (λ j. IsRow f lists round j (get_or rows (c - 1) d).items) back (each (c - 1) d (omega (arith, class.0, class.1, all))));
}

-- what holds of each item, by the number of the first and by place, holds with one more before them
begun_before : {X : Type 0} (P : ℕ → X → Type 0) (xs : List X) (x : X) (n : ℕ) → ((k : ℕ) (d : X) → k < length xs → P (n + 1 + k) (get_or xs k d)) → P n x
    → (k : ℕ) (d : X) → k < length xs + 1 → P (n + k) (get_or (x ∷ xs) k d)
begun_before P xs x n after here zero d l = subst (λ j. P j x) (let e : n ≡ n + 0 = omega arith in e) here
begun_before P xs x n after here (suc k) d l = subst (λ j. P j (get_or xs k d)) (let e : n + 1 + k ≡ n + suc k = omega arith in e) (after k d (omega arith))

pub put_before : {X : Type 0} (P : ℕ → X → Type 0) (xs ys : List X) (x : X) (n : ℕ) → ys ≡ x ∷ xs
    → ((k : ℕ) (d : X) → k < length xs → P (n + 1 + k) (get_or xs k d)) → P n x → (k : ℕ) (d : X) → k < length ys → P (n + k) (get_or ys k d)
put_before P xs ys x n put after here k d l =
    subst (λ zs. P (n + k) (get_or zs k d)) (sym put) (begun_before P xs x n after here k d (omega (arith, l, ap (λ zs. length zs) put)))

-- ---- ends

-- an end stands in a round of the game
pub end_round_in : (g : ValidGame) (es : List StoredEnd) (z : ℕ) (d : StoredEnd) (round : ℕ) → map end_of es ≡ (frame_in g).ends → z < length es
    → round ≡ (get_or es z d).round → (0 < round) × (round ≤ last_round (frame_in g))
end_round_in g es z d round e l is =
    let f = frame_in g in
    let w = walked g 1 (omega arith) (omega arith) in
    let inside : z < end_count f = omega (arith, l, length-ends g es e) in
    let same : round ≡ round_of f (at_end z) = is ∙ end_round f z (get_or es z d) (end_reads g es z d e inside) in
    (omega (arith, same, w.end_round z inside), omega (arith, same, w.end_in z inside))

-- ---- pairs

at_map : {X : Type 0} (f : X → ℕ) (xs : List X) (k n : ℕ) → k < length xs → ((d : X) → f (get_or xs k d) ≡ n) → get_or (map f xs) k 0 ≡ n
at_map f [] k n l h = absurd (omega arith)
at_map f (x ∷ xs) zero n l h = h x
at_map f (x ∷ xs) (suc k) n l h = at_map f xs k n (omega arith) h

module _ (g : ValidGame) (c : Filter) (e : c.parents ≡ (frame_in g).parents) where
  -- the pairs of a round are few
  pub few_pairs : (round : ℕ) → 0 < round → round ≤ last_round (frame_in g) → pair_count (frame_in g) c.lists round ≤ 40000000000
  few_pairs round some top =
      let n = class_count c.lists round in
      let own : ℕ → ℕ = λ k. count_by (λ m. meets (frame_in g) c.lists round k m) (classes_in c.lists round) in
      let long : length (classes_in c.lists round) ≡ n = length-range_with_len 1 n in
      let each : All (λ k. own k ≤ n) (classes_in c.lists round) = λ i d l. (
      let k = get_or (classes_in c.lists round) i d in
      omega (arith, count_by-le-length (λ m. meets (frame_in g) c.lists round k m) (classes_in c.lists round), long)) in
      let most : pair_count (frame_in g) c.lists round ≤ length (classes_in c.lists round) * n = sum_by-le own n (classes_in c.lists round) each in
      let few : n ≤ 200000 = class_few g c e round some top in
      let square : n * n ≤ 200000 * n = mul-le-mul_right n few in
      omega (arith, most, ap (λ k. k * n) long, square, few)

  module _ (rows : List (Vec (Vec Pair Global) Global)) (r : AreRows (frame_in g) c.lists rows) where
    round_pairs : (round : ℕ) (d : Vec (Vec Pair Global) Global) → 0 < round → round ≤ length rows
        → pairs_of (get_or rows (round - 1) d).items ≡ pair_count (frame_in g) c.lists round
    round_pairs round d some top =
        rows_long (frame_in g) (table g) c.lists (over (frame_in g) c e) (deals_weigh (game_of g.game)) round some (omega (arith, top, r.most))
        (get_or rows (round - 1) d).items (r.in_round round d some top)

    -- so they can be counted
    pub rows_fit : All (λ (v : Vec (Vec Pair Global) Global). pairs_of v.items < 2 ^ 64) rows
    rows_fit = λ k d l. (
        let top : k + 1 ≤ length rows = omega (arith, l) in
        let here : k + 1 - 1 ≡ k = omega arith in
        let same = subst (λ j. pairs_of (get_or rows j d).items ≡ pair_count (frame_in g) c.lists (k + 1)) here (round_pairs (k + 1) d (omega arith) top) in
        omega (arith, same, few_pairs (k + 1) (omega arith) (omega (arith, top, r.most))))

    module _ (counts : List ℕ) (is : counts ≡ map (λ (v : Vec (Vec Pair Global) Global). pairs_of v.items) rows) where
      pub counts_long : length counts ≡ length rows
      counts_long = ap (λ (ns : List ℕ). length ns) is ∙ length-map rows (λ (v : Vec (Vec Pair Global) Global). pairs_of v.items)

      listed : (round : ℕ) → 0 < round → round ≤ length rows → get_or counts (round - 1) 0 ≡ pair_count (frame_in g) c.lists round
      listed round some top =
          ap (λ (ns : List ℕ). get_or ns (round - 1) 0) is ∙ at_map (λ (v : Vec (Vec Pair Global) Global). pairs_of v.items) rows (round - 1)
          (pair_count (frame_in g) c.lists round) (omega (arith, some, top)) (λ d. round_pairs round d some top)

      -- the counts are those of the rounds where all are listed
      pub all_listed : last_round (frame_in g) ≤ length counts → AreCounts (frame_in g) c.lists counts
      all_listed l = record { long = omega (arith, l, counts_long, r.most); count = λ round some top. listed round some (omega (arith, top, l, counts_long)) }

      -- and with the deals of the last one where that is not listed
      pub one_more : length counts < last_round (frame_in g) → (n : ℕ) → n ≡ length (deals (game_of g.game))
          → AreCounts (frame_in g) c.lists (counts ++ n ∷ [])
      one_more l n are = record {
        long = omega (arith, l, counts_long, r.fewest, length_push counts n);
        count = λ round some top. ⊎_elim
            (λ (under : round - 1 < length counts). get_or_append_left counts (n ∷ []) 0 (round - 1) under
            ∙ listed round some (omega (arith, under, counts_long)))
            (λ (past : length counts ≤ round - 1). (let at : round ≡ last_round (frame_in g) = omega (arith, past, top, some, l, counts_long, r.fewest) in
            let place : length counts ≡ round - 1 = omega (arith, past, top, some, l, counts_long, r.fewest) in
            get_or_push counts n 0 (round - 1) place ∙ are ∙ sym (made_count g c e (r.single (omega (arith, l, counts_long))))
            ∙ ap (pair_count (frame_in g) c.lists) (sym at)))
            (cases_lt (round - 1) (length counts));
      }

  -- ---- a loop over the ends

  abbrev pub cells_of : List StoredEnd → ℕ
  cells_of es = sum_by (λ (z : StoredEnd). pair_count (frame_in g) c.lists z.round) es

  module _ (counts : List ℕ) (are : AreCounts (frame_in g) c.lists counts) (es : List StoredEnd) (ends : map end_of es ≡ (frame_in g).ends) where
    pub end_inside : (i : ℕ) (d : StoredEnd) (round : ℕ) → i < length es → round ≡ (get_or es i d).round → round - 1 < length counts
    end_inside i d round l at = let r = end_round_in g es i d round ends l at in omega (arith, r.0, r.1, are.long)

    pub end_pairs : (i : ℕ) (d : StoredEnd) (round n : ℕ) → i < length es → round ≡ (get_or es i d).round → n ≡ get_or counts (round - 1) n
        → n ≡ pair_count (frame_in g) c.lists round
    end_pairs i d round n l at read =
        let r = end_round_in g es i d round ends l at in
        get_or_read counts (round - 1) n (omega (arith, r.0, r.1, are.long)) read 0 ∙ are.count round r.0 r.1

    pub end_few : (i : ℕ) (d : StoredEnd) (round n : ℕ) → i < length es → round ≡ (get_or es i d).round → n ≡ get_or counts (round - 1) n → n ≤ 40000000000
    end_few i d round n l at read =
        let r = end_round_in g es i d round ends l at in
        omega (arith, end_pairs i d round n l at read, few_pairs round r.0 r.1)

    pub end_more : (i : ℕ) (d : StoredEnd) (round n count : ℕ) → i < length es → round ≡ (get_or es i d).round → n ≡ get_or counts (round - 1) n
        → count ≡ cells_of (take i es) → count + n ≡ cells_of (take (i + 1) es)
    end_more i d round n count l at read so_far =
        let own : StoredEnd → ℕ = λ z. pair_count (frame_in g) c.lists z.round in
        let more : cells_of (take (i + 1) es) ≡ cells_of (take i es) + own (get_or es i d) = sum_by_more own es i d l in
        let here : n ≡ own (get_or es i d) = end_pairs i d round n l at read ∙ ap (pair_count (frame_in g) c.lists) at in
        omega (arith, more, here, so_far)

    pub all_ends : cells_of es ≡ cell_count (frame_in g) c.lists
    all_ends = sym (sum_by-map (λ (z : End). pair_count (frame_in g) c.lists z.round) end_of es)
        ∙ ap (sum_by (λ (z : End). pair_count (frame_in g) c.lists z.round)) ends
