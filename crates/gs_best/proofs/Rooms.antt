-- Room by the sizes of rounds.
use Rattle.std.proofs.Common.{◌≡◌, ℕ, List, ◌+◌, ◌-◌, ◌*◌, ◌<◌, ◌≤◌, length, get_or, sym, ap, ◌∙◌, subst, arith, sum_by, count_by, eqb}
use Rattle.std.proofs.{Math.Nat.{mul-one, mul_comm}, lemmas.Bool.Decides.{Decides-eqb}, lemmas.Int.{ints}, lemmas.List.{get_or-map, length-map}}
use Rattle.std.proofs.lemmas.List.FromFn.{get_or-range_with_len, length-range_with_len}
use Rattle.std.specs.{Prelude.{ℤ, pos, ◌*ℤ◌}, List.{range_with_len}, Vec.{with_items}}
use borrow.Author.Differences.{product_is}
use Rattle.gs_model.specs.{Classes.{ClassLists, class_count}, Frame.{Frame, last_round, point_count, round_of}, FrameFacts.{IsWalked}, Positions.{at_point}}
use Rattle.gs_model.proofs.{RawBound.{All-range, range_once}, Regroup.{regroup_weights, sum_z-pos}, Total.{sum_z-same}}
use Rattle.gs_model.proofs.Basics.{pos-injective, sum-same, sum-ones, sum_by-map}
use Rattle.gs_best.specs.{Rooms.{HasRows, AreOfLength, HoldsEntries, HoldsAll, IsWideTo}, Tables.{start_of}, declared.tables.Scratch.{Scratch}}
use Rattle.gs_best.specs.{declared.tables.Table.{Table}, Sizes.{IsRoomy, IsWideFor, point_room, points_of_round, sizes_of, value_room}}

pub pos-product : (a b : ℕ) → pos a *ℤ pos b ≡ pos (a * b)
pos-product a b = omega (arith, ints, product_is (pos a) (pos b))

module _ (f : Frame) (p : ℕ) (w : IsWalked f p) where
  -- a number for each point of its round, added up round by round
  by_rounds : (c : ℕ → ℕ) → sum_by (λ j. points_of_round f j * c j) (range_with_len 1 (last_round f))
      ≡ sum_by (λ q. c (round_of f (at_point q))) (range_with_len 0 (point_count f))
  by_rounds c =
      let qs = range_with_len 0 (point_count f) in
      let js = range_with_len 1 (last_round f) in
      let at : ℕ → ℕ = λ q. round_of f (at_point q) in
      let left =
      sum_z-same (λ q. pos 1 *ℤ pos (c (at q))) (λ q. pos (c (at q))) (λ q. omega (arith, ints, product_is (pos 1) (pos (c (at q))))) qs
      ∙ sum_z-pos (λ q. c (at q)) qs in
      let right = sum_z-same (λ j. pos (c j) *ℤ pos (points_of_round f j)) (λ j. pos (points_of_round f j * c j)) (λ j. pos-product (c j) (points_of_round f j)
      ∙ ap pos (mul_comm (c j) (points_of_round f j))) js ∙ sum_z-pos (λ j. points_of_round f j * c j) js in
      let both =
      regroup_weights eqb Decides-eqb at (λ q. 1) (λ j. pos (c j)) js qs
      (All-range (λ q. count_by (eqb (at q)) js ≡ 1) (point_count f) (λ q l. range_once (at q) 1 (last_round f) (w.some_round q l) (let t = w.point_in q l in
      omega arith))) in
      sym (pos-injective (sum_by (λ q. c (at q)) qs) (sum_by (λ j. points_of_round f j * c j) js) (sym left ∙ both ∙ right))

  pub value_room_is : (lists : ClassLists) → value_room (sizes_of f lists) ≡ start_of f lists (point_count f)
  value_room_is lists = sum_by-map (λ (n : ℕ × ℕ). n.0 * n.1) (λ j. (points_of_round f j, class_count lists j)) (range_with_len 1 (last_round f))
      ∙ by_rounds (class_count lists)

  pub point_room_is : (lists : ClassLists) → point_room (sizes_of f lists) ≡ point_count f
  point_room_is lists =
      sum_by-map (λ (n : ℕ × ℕ). n.0) (λ j. (points_of_round f j, class_count lists j)) (range_with_len 1 (last_round f))
      ∙ sum-same (points_of_round f) (λ j. points_of_round f j * 1) (λ j. sym (mul-one (points_of_round f j))) (range_with_len 1 (last_round f))
      ∙ by_rounds (λ j. 1) ∙ sum-ones (range_with_len 0 (point_count f)) ∙ length-range_with_len 0 (point_count f)

-- the classes of a round by the sizes
size_at : (f : Frame) (lists : ClassLists) (i : ℕ) (d : ℕ × ℕ) → i < last_round f → (get_or (sizes_of f lists) i d).1 ≡ class_count lists (1 + i)
size_at f lists i d l =
    let size : ℕ → ℕ × ℕ = λ j. (points_of_round f j, class_count lists j) in
    ap (λ (n : ℕ × ℕ). n.1) (get_or-map size (range_with_len 1 (last_round f)) i 0 d (let e = length-range_with_len 1 (last_round f) in omega arith))
    ∙ ap (class_count lists) (get_or-range_with_len 1 (last_round f) i 0 l)

size_count : (f : Frame) (lists : ClassLists) → length (sizes_of f lists) ≡ last_round f
size_count f lists = length-map (range_with_len 1 (last_round f)) (λ j. (points_of_round f j, class_count lists j)) ∙ length-range_with_len 1 (last_round f)

wide_by : (f : Frame) (lists : ClassLists) (rounds wide : ℕ) → rounds ≤ last_round f → IsWideFor (sizes_of f lists) rounds wide → IsWideTo rounds lists wide
wide_by f lists rounds wide all h round some top =
    let i = round - 1 in
    let e : 1 + i ≡ round = omega arith in
    let a = h i (0, 0) (omega arith) in
    let b = size_at f lists i (0, 0) (omega arith) in
    let k = ap (class_count lists) e in
    omega arith

by_wide : (f : Frame) (lists : ClassLists) (rounds wide : ℕ) → rounds ≤ last_round f → IsWideTo rounds lists wide → IsWideFor (sizes_of f lists) rounds wide
by_wide f lists rounds wide all h i d l =
    let b = size_at f lists i d (omega arith) in
    let a = h (1 + i) (omega arith) (omega arith) in
    omega arith

-- the tests of the rows of a game, and of the rows of its sizes
abbrev AreRowsFor : Frame → ClassLists → ℕ → Scratch → Type 0
AreRowsFor f lists rounds = AreOfLength (IsWideFor (sizes_of f lists) rounds) (IsWideFor (sizes_of f lists) (rounds - 1))

rows_for : (f : Frame) (lists : ClassLists) (s : Scratch) → HasRows f lists s → AreRowsFor f lists (last_round f) s
rows_for f lists s r =
    let n = last_round f in
    record {
      numbers = by_wide f lists n _ (omega arith) r.numbers;
      ends = by_wide f lists n _ (omega arith) r.ends;
      worths = by_wide f lists (n - 1) _ (omega arith) r.worths;
    }

for_rows : (f : Frame) (lists : ClassLists) (s : Scratch) → AreRowsFor f lists (last_round f) s → HasRows f lists s
for_rows f lists s r =
    let n = last_round f in
    record {
      numbers = wide_by f lists n _ (omega arith) r.numbers;
      ends = wide_by f lists n _ (omega arith) r.ends;
      worths = wide_by f lists (n - 1) _ (omega arith) r.worths;
    }

pub roomy : (f : Frame) (lists : ClassLists) → IsWalked f 1 → (t : Table) (s : Scratch) → HoldsAll f lists t → HasRows f lists s
    → IsRoomy (sizes_of f lists) t s
roomy f lists w t s h r = record {
  table = subst (λ n. HoldsEntries n (value_room (sizes_of f lists)) t) (sym (point_room_is f 1 w lists))
      (subst (λ n. HoldsEntries (point_count f) n t) (sym (value_room_is f 1 w lists)) h);
  rows = subst (λ n. AreRowsFor f lists n s) (sym (size_count f lists)) (rows_for f lists s r);
}

pub holds_all : (f : Frame) (lists : ClassLists) → IsWalked f 1 → (t : Table) (s : Scratch) → IsRoomy (sizes_of f lists) t s → HoldsAll f lists t
holds_all f lists w t s r = subst (λ n. HoldsEntries (point_count f) n t) (value_room_is f 1 w lists)
    (subst (λ n. HoldsEntries n (value_room (sizes_of f lists)) t) (point_room_is f 1 w lists) r.table)

pub has_room : (f : Frame) (lists : ClassLists) (t : Table) (s : Scratch) → IsRoomy (sizes_of f lists) t s → HasRows f lists s
has_room f lists t s r = for_rows f lists s (subst (λ n. AreRowsFor f lists n s) (size_count f lists) r.rows)

-- scratch rows that were written are as long as before
pub rows_written : (f : Frame) (lists : ClassLists) (s : Scratch) (numbers : List ℕ) (ends : List ℤ) → HasRows f lists s
    → HasRows f lists (record { numbers = with_items s.numbers numbers; ends = with_items s.ends ends; worths = s.worths })
rows_written f lists s numbers ends r = record {
  numbers = λ i z l. omega (arith, r.numbers i z l, s.numbers.ok.0, (with_items s.numbers numbers).ok.0);
  ends = λ i z l. omega (arith, r.ends i z l, s.ends.ok.0, (with_items s.ends ends).ok.0);
  worths = r.worths;
}
