-- The weights of a plan are at most its total: each slot is that of a move at a class of a player's point.
use Rattle.std.proofs.Common.{◌≡◌, ℕ, Bool, true, false, zero, suc, ◌+◌, ◌-◌, ◌*◌, ◌<◌, ◌≤◌, ◌==◌, ◌∙◌, List, length, get_or, refl, ap, subst, inl, inr, arith}
use Rattle.std.proofs.lemmas.Bool.{cases_lt, eqb-true}
use Rattle.gs_model.proofs.PlanLaws.{numbers_within}
use Rattle.gs_model.specs.{Classes.{ClassLists, IsClass, IsClasses, class_count}, Frame.{Frame, move_count, player_at, point_count, round_of}}
use Rattle.gs_model.specs.{FrameFacts.{InRange, IsWalked}, Positions.{at_point}}
use Rattle.gs_seq.proofs.SlotLaws.{slots_more}
use Rattle.gs_seq.specs.Slots.{IsPlan, plan_of, slot_of, slots_at, slots_before}

-- where a slot stands
pub record Place (f : Frame) (lists : ClassLists) (player k : ℕ) : Type 0 where
  pub point : ℕ
  pub class : ℕ
  pub move : ℕ
  pub point_in : point < point_count f
  pub own : player_at f point ≡ player
  pub class_in : IsClass lists (round_of f (at_point point)) class
  pub move_in : move < move_count f point
  pub is : slot_of f lists point class move ≡ k

-- a number below a product is a row and a place in it
record Row (n m j : ℕ) : Type 0 where
  row : ℕ
  at : ℕ
  row_in : row < n
  at_in : at < m
  is : row * m + at ≡ j

rows : (n m j : ℕ) → j < n * m → Row n m j
rows zero m j h = absurd (omega arith)
rows (suc n) m j h = elim (cases_lt j (n * m)) [
  | inl below ↦ let r = rows n m j below in record { row = r.row; at = r.at; row_in = let l = r.row_in in omega arith; at_in = r.at_in; is = r.is }
  | inr past ↦ record { row = n; at = j - n * m; row_in = omega arith; at_in = omega arith; is = omega arith }
]

-- what holds below one more holds below it
below : (n m : ℕ) → suc n ≤ m → n < m
below n m l = omega (arith, l)

-- a slot behind the slots before a point is one of the point's own
own_slot : (k start next size : ℕ) → next ≡ start + size → start ≤ k → k < next → k - start < size
own_slot k start next size e past l = omega (arith, e, past, l)

no_slot : (j : ℕ) → j < 0 → ⊥
no_slot j none = omega (arith, none)

class_of_row : (row n : ℕ) → row < n → (0 < row + 1) × (row + 1 ≤ n)
class_of_row row n l = (omega arith, omega (arith, l))

-- the slot of a row and a place in it
slot_is : (k start first row place m : ℕ) → first ≡ start → start ≤ k → row * m + place ≡ k - start → first + ((row + 1 - 1) * m + place) ≡ k
slot_is k start first row place m e past is =
    let same : (row + 1 - 1) * m ≡ row * m = ap (λ (i : ℕ). i * m) (omega arith) in
    omega (arith, e, past, is, same)

pub place_at : (f : Frame) (lists : ClassLists) (player k n : ℕ) → n ≤ point_count f → k < slots_before f lists player n → Place f lists player k
place_at f lists player k zero h l = absurd (omega arith)
place_at f lists player k (suc n) h l = elim (cases_lt k (slots_before f lists player n)) [
  | inl less ↦ place_at f lists player k n (omega (arith, h)) less
  | inr past ↦ here (player_at f n == player) refl past
]
  where
    here : (b : Bool) → (player_at f n == player) ≡ b → slots_before f lists player n ≤ k → Place f lists player k
    here false is past =
        let start = slots_before f lists player n in
        let none : slots_at f lists player n ≡ 0 = rw is refl in
        let e : suc n ≡ n + 1 = omega arith in
        let all : slots_before f lists player (suc n) ≡ start + 0 =
        ap (slots_before f lists player) e ∙ slots_more f lists player n ∙ ap (λ i. start + i) none in
        absurd (no_slot (k - start) (own_slot k start (slots_before f lists player (suc n)) 0 all past l))
    here true is past =
        let start = slots_before f lists player n in
        let own = eqb-true (player_at f n) player is in
        let c = class_count lists (round_of f (at_point n)) in
        let m = move_count f n in
        let some : slots_at f lists player n ≡ c * m = rw is refl in
        let e : suc n ≡ n + 1 = omega arith in
        let all : slots_before f lists player (suc n) ≡ start + c * m =
        ap (slots_before f lists player) e ∙ slots_more f lists player n ∙ ap (λ i. start + i) some in
        let r = rows c m (k - start) (own_slot k start (slots_before f lists player (suc n)) (c * m) all past l) in
        let before : slots_before f lists (player_at f n) n ≡ start = ap (λ p. slots_before f lists p n) own in
        record {
          point = n;
          class = r.row + 1;
          move = r.at;
          point_in = below n (point_count f) h;
          own = own;
          class_in = class_of_row r.row c r.row_in;
          move_in = r.at_in;
          is = slot_is k start (slots_before f lists (player_at f n) n) r.row r.at m before past r.is;
        }

-- the weights of a plan are at most its total, which is at most 2^36
pub weights_within : (f : Frame) (lists : ClassLists) (player total : ℕ) (weights : List ℕ) → InRange f → IsWalked f player → IsClasses f.parents lists
    → IsPlan f lists player total weights → (k : ℕ) → k < length weights → get_or weights k 0 ≤ total
weights_within f lists player total weights r w c p k l =
    let long = p.long in
    let at = place_at f lists player k (point_count f) (omega arith) (omega arith) in
    let x = plan_of f lists total weights in
    let within = numbers_within f lists player r w c x p.plan at.point at.class at.move at.point_in at.own at.class_in at.move_in in
    subst (λ (i : ℕ). get_or weights i 0 ≤ total) at.is within
