-- Where the values of points start, and how many there are.
use Rattle.std.proofs.{Common.{◌≡◌, ℕ, ◌+◌, ◌-◌, ◌*◌, ◌<◌, ◌≤◌, ◌^◌, ap, arith, cond, ⊎_elim}, Math.Nat.{mul-le-mul_left}, lemmas.Bool.Decides.{Decides-eqb}}
use Rattle.gs_model.specs.{Classes.{ClassLists, IsClass}, Frame.{Frame, move_count, player_at, point_count, round_of}, Positions.{at_point}}
use Rattle.gs_seq.specs.{Abstracts.{abstract_frame, lists_of, game_in}, Slots.{slots_at}, declared.form.Abstract.{Abstract}}
use Rattle.gs_seq.proofs.{Points.{players}, SlotLaws.{sum_range_le, sum_range_more}, Forms.{form_moves}}
use Rattle.gs_best.specs.Tables.{classes_at, start_of}
use Rattle.gs_best.proofs.Ranges.{range_add, range_le}

pub starts_more : (f : Frame) (lists : ClassLists) (q : ℕ) → start_of f lists (q + 1) ≡ start_of f lists q + classes_at f lists q
starts_more f lists q = sum_range_more (classes_at f lists) q

pub starts_le : (f : Frame) (lists : ClassLists) (m n : ℕ) → m ≤ n → start_of f lists m ≤ start_of f lists n
starts_le f lists m n l = sum_range_le (classes_at f lists) m n l

-- the place of a class of a point lies before the next point, and so before any later one
pub place_before : (f : Frame) (lists : ClassLists) (q c later : ℕ) → IsClass lists (round_of f (at_point q)) c → q < later
    → start_of f lists q + (c - 1) < start_of f lists later
place_before f lists q c later lc l = omega (arith, starts_more f lists q, starts_le f lists (q + 1) later (omega arith), lc.0, lc.1)

one_move : (c m : ℕ) → 0 < m → c ≤ c * m
one_move c m some = let x : c * 1 ≤ c * m = mul-le-mul_left c some in omega arith

-- a point has a slot of its player for each class
classes_le : (a : Abstract) (q : ℕ) → q < point_count (abstract_frame a) → classes_at (abstract_frame a) (lists_of a) q
    ≤ slots_at (abstract_frame a) (lists_of a) 1 q + slots_at (abstract_frame a) (lists_of a) 2 q
classes_le a q l =
    let f = abstract_frame a in
    let n = classes_at f (lists_of a) q in
    let up = one_move n (move_count f q) (form_moves a q l).some in
    ⊎_elim
    (λ (one : player_at f q ≡ 1). omega (arith, ap (λ b. cond b (n * move_count f q) 0) ((Decides-eqb (player_at f q) 1).1 one), up))
    (λ (two : player_at f q ≡ 2). omega (arith, ap (λ b. cond b (n * move_count f q) 0) ((Decides-eqb (player_at f q) 2).1 two), up))
    (players (game_in a) q l)

-- all values of a game are few
pub starts_few : (a : Abstract) (q : ℕ) → q ≤ point_count (abstract_frame a) → start_of (abstract_frame a) (lists_of a) q ≤ 2 ^ 31
starts_few a q l =
    let f = abstract_frame a in
    let lists = lists_of a in
    let n = point_count f in
    let all = range_le (classes_at f lists) (λ p. slots_at f lists 1 p + slots_at f lists 2 p) n (classes_le a) in
    omega (arith, starts_le f lists q n l, all, range_add (slots_at f lists 1) (slots_at f lists 2) n, a.few.one, a.few.two)
