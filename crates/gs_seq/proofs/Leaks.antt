-- Sums of weights side by side, and the first place where they do not add up.
use Rattle.std.proofs.Common.{◌≡◌, ℕ, ◌+◌, ◌-◌, ◌*◌, ◌<◌, ◌≤◌, ◌^◌, List, length, take, drop, get_or, sum, sum_by, refl, sym, ap, ◌∙◌, subst, arith}
use Rattle.std.proofs.{Common.{length-drop, true, false, ⊎_elim}, Math.Nat.{mul-le-mul_right}, lemmas.Bool.Decides.{Decides-eqb}, lemmas.Bool.{cases_eq}}
use Rattle.std.proofs.{lemmas.List.{get_or-drop, get_or-take, length-take}, lemmas.List.FromFn.{fill_by_all}, lemmas.List.Sums.{sum-map}}
use Rattle.std.specs.{Prelude.{◌==◌}, List.{range_with_len}}
use Rattle.gs_filter.specs.Filter.{Filter}
use Rattle.gs_game.specs.{declared.positions.Point.{Point as StoredPoint}, declared.valid.ValidGame.{ValidGame}}
use Rattle.gs_model.specs.{Classes.{ClassLists, IsClass, class_count}, Frame.{Frame, choices_at, move_count, player_at, point_count, round_of}, Plans.{Plan}}
use Rattle.gs_model.specs.Positions.{at_point}
use Rattle.gs_model.proofs.{FirstBest.{sum-same_range}, Basics.{not_eq}}
use Rattle.gs_seq.specs.{Faults.{FlowsAt, FlowsBefore}, Games.{frame_in}, Slots.{plan_of, slot_count, slots_at, slots_before}}
use Rattle.gs_seq.proofs.{Points.{Reads}, SlotLaws.{slots_few, slots_le, slots_more}}

-- some weights side by side
pub slice_sum : (ws : List ℕ) (a n : ℕ) → a + n ≤ length ws → sum (take n (drop a ws)) ≡ sum_by (λ m. get_or ws (a + m) 0) (range_with_len 0 n)
slice_sum ws a n l =
    let long : length (take n (drop a ws)) ≡ n = omega (arith, length-take n (drop a ws), length-drop a ws, l) in
    ap sum (fill_by_all (λ m. get_or ws (a + m) 0) (take n (drop a ws)) n 0 long (λ k lk. get_or-take n (drop a ws) k 0 lk ∙ get_or-drop a ws k 0))
    ∙ sum-map (λ m. get_or ws (a + m) 0) (range_with_len 0 n)

-- the weights of the moves at a class
pub class_sum : (f : Frame) (lists : ClassLists) (player q before first moves total : ℕ) (weights : List ℕ) → player_at f q ≡ player → moves ≡ move_count f q
    → first ≡ slots_before f lists player q
    → first + before * moves + moves ≤ length weights
    → sum (take moves (drop (first + before * moves) weights)) ≡ sum_by (λ m. (plan_of f lists total weights).number q (before + 1) m) (choices_at f q)
class_sum f lists player q before first moves total weights own many at l =
    let a = first + before * moves in
    slice_sum weights a moves l
    ∙ ap (λ k. sum_by (λ m. get_or weights (a + m) 0) (range_with_len 0 k)) many
    ∙ sum-same_range (λ m. get_or weights (a + m) 0) (λ m. (plan_of f lists total weights).number q (before + 1) m) (move_count f q)
    (λ m _. ap (λ k. get_or weights k 0) (
    let one_less : before + 1 - 1 ≡ before = omega arith in
    let same = ap (λ p. slots_before f lists p q) own in
    omega (arith, same, at, ap (λ k. k * move_count f q) one_less, ap (λ k. before * k) many)))

-- one more point
pub flows_more : (f : Frame) (lists : ClassLists) (player : ℕ) (x : Plan) (q : ℕ) → FlowsBefore f lists player x q
    → (player_at f q ≡ player → (c : ℕ) → IsClass lists (round_of f (at_point q)) c → FlowsAt f lists player x q c)
    → FlowsBefore f lists player x (q + 1)
flows_more f lists player x q h here p c l own k = ⊎_elim
    (λ same. subst (λ r. FlowsAt f lists player x r c) (sym same) (here (sym (ap (player_at f) same)
    ∙ own) c (subst (λ r. IsClass lists (round_of f (at_point r)) c) same k)))
    (λ other. h p c (omega arith) own k)
    (cases_eq p q)

-- the weights at a class of a point are among the player's weights
pub row_room : (f : Frame) (lists : ClassLists) (player q before first moves : ℕ) → player_at f q ≡ player → moves ≡ move_count f q
    → first ≡ slots_before f lists player q → q < point_count f
    → before < class_count lists (round_of f (at_point q)) → first + before * moves + moves ≤ slot_count f lists player
row_room f lists player q before first moves own many at lq l =
    let test : (player_at f q == player) ≡ true = (Decides-eqb (player_at f q) player).1 own in
    let here : slots_at f lists player q ≡ class_count lists (round_of f (at_point q)) * move_count f q = rw test refl in
    let up = mul-le-mul_right (move_count f q) l in
    omega (arith, here, up, slots_more f lists player q, slots_le f lists player (q + 1) (point_count f) (omega arith), at, many, ap (λ k. before * k) many)

-- a point of the other player
pub slots_none : (f : Frame) (lists : ClassLists) (player q : ℕ) → (player_at f q ≡ player → ⊥)
    → slots_before f lists player (q + 1) ≡ slots_before f lists player q
slots_none f lists player q other =
    let test : (player_at f q == player) ≡ false = not_eq (player_at f q) player other in
    let here : slots_at f lists player q ≡ 0 = rw test refl in
    omega (arith, slots_more f lists player q, here)

-- where the weights of a class of an own point stand among the player's weights
pub record RowAt (f : Frame) (lists : ClassLists) (player q before first moves : ℕ) : Type 0 where
  pub below : before < class_count lists (round_of f (at_point q))
  pub many : moves ≡ move_count f q
  pub starts : first ≡ slots_before f lists player q
  pub room : first + before * moves + moves ≤ slot_count f lists player
  pub few : slot_count f lists player < 2 ^ 60

pub row_at : (g : ValidGame) (c : Filter) → c.parents ≡ (frame_in g).parents → (player q before first moves count : ℕ) (p : StoredPoint)
    → Reads (frame_in g) q p → player_at (frame_in g) q ≡ player
    → q < point_count (frame_in g) → first ≡ slots_before (frame_in g) c.lists player q → moves ≡ length p.moves.items → count ≡ class_count c.lists p.round
    → before < count
    → RowAt (frame_in g) c.lists player q before first moves
row_at g c e player q before first moves count p r own lq at long all less =
    let f = frame_in g in
    let below : before < class_count c.lists (round_of f (at_point q)) = omega (arith, less, all, ap (class_count c.lists) r.round) in
    let many : moves ≡ move_count f q = omega (arith, long, r.moves) in
    record {
      below = below;
      many = many;
      starts = at;
      room = row_room f c.lists player q before first moves own many at lq below;
      few = slots_few g c e player (point_count f) (omega arith);
    }
