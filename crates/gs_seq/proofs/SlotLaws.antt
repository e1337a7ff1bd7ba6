-- Slots one point after another, and that they are few.
use Rattle.std.proofs.Common.{◌≡◌, ℕ, zero, suc, ◌+◌, ◌-◌, ◌*◌, ◌<◌, ◌≤◌, ◌^◌, List, [], ap, length, subst, arith, Bool, true, false, cond, sum_by}
use Rattle.std.proofs.{Math.Nat.{mul-le-mul_right}, lemmas.List.Sums.{sum_by-append, sum_by-cons}}
use Rattle.std.specs.{Prelude.{◌==◌}, List.{range_with_len}}
use Rattle.gs_filter.specs.Filter.{Filter}
use Rattle.gs_filter.proofs.ClassLaws.{greatest_within}
use Rattle.gs_game.specs.{Games.{game_of}, declared.positions.Point.{Point}, declared.valid.ValidGame.{ValidGame}}
use Rattle.gs_model.specs.{Classes.{ClassLists, IsClasses, class_count, list_of}, Frame.{Frame, last_round, move_count, player_at, point_count, round_of}}
use Rattle.gs_model.specs.Positions.{at_point}
use Rattle.gs_model.proofs.{Ranges.{signal_count_is}, Sparse.{range_append}, Walked.{last_round_of}}
use Rattle.gs_seq.specs.{Games.{frame_in}, Slots.{slot_count, slots_at, slots_before}}
use Rattle.gs_seq.proofs.Points.{Reads, few, moves_total, round_in, walked}

-- ---- sums over a range

pub sum_range_more : (f : ℕ → ℕ) (n : ℕ) → sum_by f (range_with_len 0 (n + 1)) ≡ sum_by f (range_with_len 0 n) + f n
sum_range_more f n =
    let zero_on : 0 + n ≡ n = omega arith in
    omega (arith, ap (sum_by f) (range_append 0 n 1), sum_by-append f (range_with_len 0 n) (range_with_len (0 + n) 1), sum_by-cons f (0 + n) [], ap f zero_on)

-- a longer range has no smaller sum
pub sum_range_le : (f : ℕ → ℕ) (m n : ℕ) → m ≤ n → sum_by f (range_with_len 0 m) ≤ sum_by f (range_with_len 0 n)
sum_range_le f m n l =
    let e : n ≡ m + (n - m) = omega arith in
    omega (
      arith,
      ap (λ k. sum_by f (range_with_len 0 k)) e,
      ap (sum_by f) (range_append 0 m (n - m)),
      sum_by-append f (range_with_len 0 m) (range_with_len (0 + m) (n - m)),
    )

-- ---- classes

-- class lists over the parents of a frame are classes of the frame
pub over : (f : Frame) (c : Filter) → c.parents ≡ f.parents → IsClasses f.parents c.lists
over f c e = subst (λ (ps : List (List ℕ)). IsClasses ps c.lists) e c.classes

-- the round of a point that was read is one of the classes'
pub classes_in : (g : ValidGame) (c : Filter) → c.parents ≡ (frame_in g).parents → (q : ℕ) (p : Point) → Reads (frame_in g) q p → q < point_count (frame_in g)
    → (0 < p.round) × (p.round ≤ length c.lists)
classes_in g c e q p r l = let h = round_in g q p r l in (h.0, omega (arith, h.1, (over (frame_in g) c e).rounds))

pub class_few : (g : ValidGame) (c : Filter) → c.parents ≡ (frame_in g).parents → (round : ℕ) → 0 < round → round ≤ last_round (frame_in g)
    → class_count c.lists round ≤ 200000
class_few g c e round some top =
    let f = frame_in g in
    let h = over f c e in
    let r = last_round_of (game_of g.game) in
    let n = greatest_within (list_of c.lists round) (h.numbered round some top) in
    omega (
      arith,
      n,
      h.lengths round some top,
      signal_count_is (game_of g.game) round some (omega (arith, top, r)),
      g.limits.signals_in round (omega (arith, top, r)),
    )

-- ---- slots

pub slots_more : (f : Frame) (lists : ClassLists) (player q : ℕ) → slots_before f lists player (q + 1)
    ≡ slots_before f lists player q + slots_at f lists player q
slots_more f lists player q = sum_range_more (slots_at f lists player) q

pub slots_le : (f : Frame) (lists : ClassLists) (player m n : ℕ) → m ≤ n → slots_before f lists player m ≤ slots_before f lists player n
slots_le f lists player m n l = sum_range_le (slots_at f lists player) m n l

-- the slots before an own point are among the player's
pub slots_own_before : (f : Frame) (lists : ClassLists) (player q : ℕ) → player_at f q ≡ player → q < point_count f
    → slots_before f lists (player_at f q) q ≤ slot_count f lists player
slots_own_before f lists player q own l = omega (arith, ap (λ p. slots_before f lists p q) own, slots_le f lists player q (point_count f) (omega arith))

at_few : (b : Bool) (c m : ℕ) → c ≤ 200000 → cond b (c * m) 0 ≤ 200000 * m
at_few true c m l = mul-le-mul_right m l
at_few false c m l = omega arith

before_few : (f : Frame) (lists : ClassLists) (player n : ℕ) → ((q : ℕ) → q < n → class_count lists (round_of f (at_point q)) ≤ 200000)
    → slots_before f lists player n ≤ 200000 * sum_by (move_count f) (range_with_len 0 n)
before_few f lists player zero h = omega arith
before_few f lists player (suc n) h =
    let e : suc n ≡ n + 1 = omega arith in
    let a = at_few (player_at f n == player) (class_count lists (round_of f (at_point n))) (move_count f n) (h n (omega arith)) in
    omega (
      arith,
      ap (slots_before f lists player) e,
      slots_more f lists player n,
      ap (λ k. sum_by (move_count f) (range_with_len 0 k)) e,
      sum_range_more (move_count f) n,
      before_few f lists player n (λ q l. h q (omega arith)),
      a,
    )

-- the slots of a player are fewer than 2^60
pub slots_few : (g : ValidGame) (c : Filter) → c.parents ≡ (frame_in g).parents → (player n : ℕ) → n ≤ point_count (frame_in g)
    → slots_before (frame_in g) c.lists player n < 2 ^ 60
slots_few g c e player n l =
    let f = frame_in g in
    let w = walked g 1 (omega arith) (omega arith) in
    let all = point_count f in
    let b = before_few f c.lists player all (λ q lq. class_few g c e (round_of f (at_point q)) (w.some_round q lq) (w.point_in q lq)) in
    omega (arith, slots_le f c.lists player n all l, b, moves_total f 1 w, (few g).points, (few g).ends)

-- a point has few moves
pub moves_few : (g : ValidGame) (q : ℕ) → q < point_count (frame_in g) → move_count (frame_in g) q < 2 ^ 33
moves_few g q l =
    let f = frame_in g in
    let w = walked g 1 (omega arith) (omega arith) in
    omega (
      arith,
      sum_range_more (move_count f) q,
      sum_range_le (move_count f) (q + 1) (point_count f) (omega arith),
      moves_total f 1 w,
      (few g).points,
      (few g).ends,
    )
