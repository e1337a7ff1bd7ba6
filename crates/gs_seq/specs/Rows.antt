-- The pairs of a class as a list, one for each class of the other player that it meets.
use Rattle.std.specs.Prelude.{All, map, filter, ℕ, ◌+◌, ◌-◌, ◌*◌, ◌^◌, ◌<◌, ◌≤◌, ◌≡◌, ◌==◌, List, [], ◌∷◌, length, ℤ, pos, ◌+ℤ◌, ◌*ℤ◌, unsigned_abs, get_or}
use Rattle.std.specs.{Prelude.{if◌then◌else◌, sum_by, Vec, vec_len}, declared.alloc.Global.{Global}, List.{range_with_len}}
use Rattle.gs_filter.specs.Filter.{Filter}
use Rattle.gs_model.specs.{Classes.{ClassLists, class_count, class_of, first_member, IsClass, list_of}, Frame.{Frame, last_round}, Sums.{sum_z}}
use Rattle.gs_lossless.specs.declared.parts.Part.{Part}
use Rattle.gs_seq.specs.{Cells.{pair_weight, pair_signed}, declared.pair.Pair.{Pair}}

-- player 2's classes ascend, and each pair has a weight above 0
pub record Rises (row : List Pair) : Type 0 where
  pub ascends : (i j : ℕ) (d : Pair) → i < j → j < length row → (get_or row i d).two < (get_or row j d).two
  pub some : (i : ℕ) (d : Pair) → i < length row → 0 < (get_or row i d).weight

-- the weight of player 2's class `e` in a row
abbrev pub weight_in : List Pair → ℕ → ℕ
weight_in row e = sum_by (λ p. if p.two == e then p.weight else 0) row

-- the signed weight of player 2's class `e` in a row
abbrev pub signed_in : List Pair → ℕ → ℤ
signed_in row e = sum_z (λ (p : Pair). if p.two == e then p.signed else pos 0) row

-- the row of a class of player 1 in a round
pub record IsRow (f : Frame) (lists : ClassLists) (round c : ℕ) (row : List Pair) : Type 0 where
  pub rises : Rises row
  pub weights : (e : ℕ) → pos (weight_in row e) ≡ pair_weight f lists round c e
  pub signed : (e : ℕ) → signed_in row e ≡ pair_signed f lists round c e

-- the rows of all classes of a round
pub record AreRowsIn (f : Frame) (lists : ClassLists) (round : ℕ) (rows : List (Vec Pair Global)) : Type 0 where
  pub long : length rows ≡ class_count lists round
  pub row : (c : ℕ) (d : Vec Pair Global) → IsClass lists round c → IsRow f lists round c (get_or rows (c - 1) d).items

-- each signal of a round is a class of its own, numbered in order
abbrev pub IsSingleIn : ClassLists → ℕ → Type 0
IsSingleIn lists round = (s : ℕ) → s < length (list_of lists round) → class_of lists round s ≡ s + 1

-- the rows of all rounds; the last round may be left out if each of its signals is a class of its own
pub record AreRows (f : Frame) (lists : ClassLists) (rows : List (Vec (Vec Pair Global) Global)) : Type 0 where
  pub most : length rows ≤ last_round f
  pub fewest : last_round f ≤ length rows + 1
  pub single : length rows < last_round f → IsSingleIn lists (last_round f)
  pub in_round : (round : ℕ) (d : Vec (Vec Pair Global) Global) → 0 < round → round ≤ length rows → AreRowsIn f lists round (get_or rows (round - 1) d).items

-- how many pairs some rows have
abbrev pub pairs_of : List (Vec Pair Global) → ℕ
pairs_of rows = sum_by (λ row. vec_len row) rows

-- ---- rows from the sums of one member, in ascending order

-- the pair that a part of one member makes for its class, with the weight of all members
abbrev pub pair_of : ℕ → Part → Pair
pair_of members p = record { two = p.class; weight = members * p.weight; signed = pos (members * p.weight) *ℤ p.outcome }

-- two pairs with one class as one pair, with both weights added
abbrev pub together : Pair → Pair → Pair
together p q = record { two = p.two; weight = p.weight + q.weight; signed = p.signed +ℤ q.signed }

-- puts a pair before a row, or joins it to the first pair if both have the same class
abbrev pub join : Pair → List Pair → List Pair
join p [] = p ∷ []
join p (q ∷ qs) = if q.two == p.two then together q p ∷ qs else p ∷ q ∷ qs

-- the row that parts in ascending order make
abbrev pub gathered : ℕ → List Part → List Pair
gathered members [] = []
gathered members (p ∷ ps) = join (pair_of members p) (gathered members ps)

-- the signed weight is at most 128 times the weight in size
abbrev pub IsModerate : Pair → Type 0
IsModerate p = unsigned_abs p.signed ≤ 128 * p.weight

-- ---- all pairs of a row as one

-- all pairs of a row as one
abbrev pub whole_row : List Pair → Pair
whole_row row = record { two = 0; weight = sum_by (λ p. p.weight) row; signed = sum_z (λ p. p.signed) row }

-- for each row all its pairs as one, round by round
abbrev pub AreWholes : List (Vec (Vec Pair Global) Global) → List (Vec Pair Global) → Type 0
AreWholes rows wholes = map (λ v. v.items) wholes ≡ map (λ v. map (λ r. whole_row r.items) v.items) rows

-- for each class of a round all pairs of its row as one
pub record AreWholesIn (f : Frame) (lists : ClassLists) (round : ℕ) (wholes : List Pair) : Type 0 where
  pub long : length wholes ≡ class_count lists round
  pub each : (c : ℕ) (d : Pair) → IsClass lists round c → (row : List Pair) × IsRow f lists round c row × (get_or wholes (c - 1) d ≡ whole_row row)

-- the pairs of a row weigh less than 2^32, and are moderate
pub record IsSlim (row : List Pair) : Type 0 where
  pub few : sum_by (λ p. p.weight) row < 2 ^ 32
  pub moderate : All IsModerate row

-- ---- rows from those of the next round

-- the class of a round from which class `k` of the next round descends
abbrev pub class_up : Filter → ℕ → ℕ → ℕ
class_up c round k = class_of c.lists round (get_or (list_of c.parents (round + 1)) (first_member c.lists (round + 1) k) 0)

-- the classes, among the first n of the next round, that descend from a class
abbrev pub below_class : Filter → ℕ → ℕ → ℕ → List ℕ
below_class c round class n = filter (λ k. class_up c round k == class) (range_with_len 1 n)

-- for each class of a round, the classes among the first n of the next round that descend from it
pub record AreBelow (c : Filter) (round n : ℕ) (below : List (Vec ℕ Global)) : Type 0 where
  pub long : length below ≡ class_count c.lists round
  pub each : (class : ℕ) (d : Vec ℕ Global) → IsClass c.lists round class → (get_or below (class - 1) d).items ≡ below_class c round class n

-- a pair of the next round as a part: its weight counts at the class from which player 2's class descends, and at outcome 0
abbrev pub part_up : Filter → ℕ → Pair → Part
part_up c round p = record { class = class_up c round p.two; outcome = pos 0; weight = p.weight }

-- the row of class `k`, among the rows of a round
abbrev pub row_at : List (Vec Pair Global) → ℕ → List Pair
row_at rows k = get_or (map (λ row. row.items) rows) (k - 1) []

-- class `k` of the next round has a row, and the row names classes of that round
pub record HasPairsBelow (c : Filter) (round : ℕ) (rows : List (Vec Pair Global)) (k : ℕ) : Type 0 where
  pub some : 0 < k
  pub top : k ≤ length rows
  pub classes : All (λ p. IsClass c.lists (round + 1) p.two) (row_at rows k)
