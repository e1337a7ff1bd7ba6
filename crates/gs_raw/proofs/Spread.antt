-- Plans over classes spread over raw signals: the weights, one signal and one point after another, and that they are a plan of the same numbers.
use Rattle.std.proofs.Common.{◌≡◌, ℕ, ◌+◌, ◌-◌, ◌*◌, ◌<◌, ◌≤◌, ◌++◌, List, length, map, take, drop, get_or, refl, sym, ap, ◌∙◌, subst, arith, ⊎_elim}
use Rattle.std.proofs.Common.{length-append, length-drop, Option, Some, None, true}
use Rattle.std.proofs.{Math.Nat.{mul-le-mul_right}, lemmas.Bool.{cases_eq, cases_lt}, lemmas.Bool.Decides.{Decides-eqb}}
use Rattle.std.proofs.{lemmas.List.{get_or-append-add, get_or-drop, get_or-take, get_or_append_left, length-take}, lemmas.List.FromFn.{get_or-range_with_len}}
use Rattle.std.specs.Prelude.{◌==◌, slice_index}
use Rattle.gs_filter.specs.Filter.{Filter, single_classes}
use Rattle.gs_filter.proofs.{ClassLaws.{single_are_classes, single_at}, TallyLaws.{first_in, first_member_of}}
use Rattle.gs_game.specs.{Seen.{own_point, point_of}, declared.positions.Point.{Point as StoredPoint}, declared.valid.ValidGame.{ValidGame}}
use Rattle.gs_model.specs.Classes.{ClassLists, IsClass, IsClasses, class_count, class_of, first_member, list_of}
use Rattle.gs_model.specs.Frame.{Frame, ancestor, last_round, last_step, move_count, player_at, point_count, round_of, signal_count}
use Rattle.gs_model.specs.{FrameFacts.{InRange, IsWalked}, Plans.{IsRawPlan, lift, number_before}, Positions.{Step, at_point}}
use Rattle.gs_model.proofs.{Alike.{keeps_from}, Deviations.{lift_is_raw_plan}, FirstBest.{sum-same_range}, Gather.{class_in, firsts_from, known_from, plan_by}}
use Rattle.gs_model.proofs.Tables.{is_table}
use Rattle.gs_seq.specs.{Slots.{IsPlan, plan_of, slot_count, slot_of, slots_at, slots_before}, Games.{frame_in}}
use Rattle.gs_seq.proofs.{Coming.{slot_before}, Leaks.{row_room, slots_none}, Points.{point_reads, walked}, SlotLaws.{over, slots_more}}
use Rattle.gs_raw.specs.Lifts.{AreSame, IsSpreadBehind}

-- ---- the signals of a point

-- one signal more
pub spread_more : (f : Frame) (lists : ClassLists) (q s start moves : ℕ) (weights before mid after : List ℕ) → moves ≡ move_count f q
    → start ≡ slot_of f lists q (class_of lists (round_of f (at_point q)) s) 0
    → start + moves ≤ length weights → after ≡ mid ++ take moves (drop start weights) → IsSpreadBehind f lists q s weights before mid
    → IsSpreadBehind f lists q (s + 1) weights before after
spread_more f lists q s start moves weights before mid after many at room is h =
    let n = move_count f q in
    let row = take moves (drop start weights) in
    let long : length row ≡ moves = omega (arith, length-take moves (drop start weights), length-drop start weights, room) in
    let up : (s + 1) * n ≡ s * n + n = omega arith in
    record {
      long = omega (arith, ap (λ (l : List ℕ). length l) is, length-append mid row, long, h.long, up, many);
      kept = λ k l. ap (λ (xs : List ℕ). get_or xs k 0) is ∙ get_or_append_left mid row 0 k (omega (arith, h.long)) ∙ h.kept k l;
      row = λ t m lt lm. ⊎_elim
          (λ (here : t ≡ s).
          let slot : length before + (t * n + m) ≡ length mid + m = omega (arith, h.long, ap (λ k. k * n) here) in
          let from : start + m ≡ slot_of f lists q (class_of lists (round_of f (at_point q)) t) m =
          omega (arith, at, ap (λ k. (class_of lists (round_of f (at_point q)) k - 1) * n) here) in
          ap (λ (xs : List ℕ). get_or xs (length before + (t * n + m)) 0) is
          ∙ ap (λ k. get_or (mid ++ row) k 0) slot
          ∙ get_or-append-add mid row m 0
          ∙ get_or-take moves (drop start weights) m 0 (omega (arith, lm, many))
          ∙ get_or-drop start weights m 0
          ∙ ap (λ k. get_or weights k 0) from)
          (λ other.
          let less : t + 1 ≤ s = omega (arith, lt, other) in
          let below = mul-le-mul_right n less in
          let one : (t + 1) * n ≡ t * n + n = omega arith in
          ap (λ (xs : List ℕ). get_or xs (length before + (t * n + m)) 0) is
          ∙ get_or_append_left mid row 0 (length before + (t * n + m)) (omega (arith, h.long, below, one, lm))
          ∙ h.row t m (omega (arith, less)) lm)
          (cases_eq t s);
    }

-- ---- single signals as classes

module _ (f : Frame) (round : ℕ) (some : 0 < round) (top : round ≤ last_round f) where
  -- the class of a signal is its place, from 1
  pub single_number : (s : ℕ) → s < signal_count f round → class_of (single_classes f.parents) round s ≡ s + 1
  single_number s l =
      let e : 1 + s ≡ s + 1 = omega arith in
      ap (λ (xs : List ℕ). get_or xs s 0) (single_at f.parents round some top) ∙ get_or-range_with_len 1 (signal_count f round) s 0 l ∙ e

  pub single_class : (s : ℕ) → s < signal_count f round → IsClass (single_classes f.parents) round (s + 1)
  single_class s l = subst (IsClass (single_classes f.parents) round) (single_number s l)
      (class_in f (single_classes f.parents) (single_are_classes f.parents) round s some top l)

  -- and each class is that of its one signal
  pub single_member : (c : ℕ) → IsClass (single_classes f.parents) round c
      → (first_member (single_classes f.parents) round c < signal_count f round) × (c ≡ first_member (single_classes f.parents) round c + 1)
  single_member c l =
      let lists = single_classes f.parents in
      let k = single_are_classes f.parents in
      let s = first_member lists round c in
      let inside : s < signal_count f round = omega (arith, first_in (list_of lists round) c (k.numbered round some top) l.0 l.1, k.lengths round some top) in
      (inside, sym (first_member_of (list_of lists round) c (k.numbered round some top) l.0 l.1) ∙ single_number s inside)

  pub single_count : class_count (single_classes f.parents) round ≡ signal_count f round
  single_count =
      let lists = single_classes f.parents in
      let n = signal_count f round in
      let up : n ≤ class_count lists round = ⊎_elim
      (λ any. let l = single_class (n - 1) (omega arith) in omega (arith, l.1, any))
      (λ none. omega arith)
      (cases_lt 0 n) in
      let down : class_count lists round ≤ n = ⊎_elim
      (λ any. let m = single_member (class_count lists round) (any, omega arith) in omega (arith, m.0, m.1))
      (λ none. omega arith)
      (cases_lt 0 (class_count lists round)) in
      omega arith

-- ---- the points of a player

-- at the player's points before q, each single signal's slot has the weight of its class's slot
abbrev pub AreSpreadBefore : Frame → ClassLists → ℕ → List ℕ → List ℕ → ℕ → Type 0
AreSpreadBefore f lists player weights spread q =
    (p s m : ℕ) → p < q → player_at f p ≡ player → s < signal_count f (round_of f (at_point p)) → m < move_count f p
    → slice_index spread (slot_of f (single_classes f.parents) p (s + 1) m)
    ≡ slice_index weights (slot_of f lists p (class_of lists (round_of f (at_point p)) s) m)

pub before_none : (f : Frame) (lists : ClassLists) (player : ℕ) (weights spread : List ℕ) → AreSpreadBefore f lists player weights spread 0
before_none f lists player weights spread p s m l own ls lm = absurd (omega arith)

module _ (f : Frame) (lists : ClassLists) (player : ℕ) (w : IsWalked f player) (weights before : List ℕ) (q : ℕ) (lq : q
    < point_count f) (long : length before ≡ slots_before f (single_classes f.parents) player q) (h : AreSpreadBefore f lists player weights before q) where
  -- one point more
  pub before_more : (after : List ℕ) → player_at f q ≡ player → IsSpreadBehind f lists q (signal_count f (round_of f (at_point q))) weights before after
      → (length after ≡ slots_before f (single_classes f.parents) player (q + 1)) × AreSpreadBefore f lists player weights after (q + 1)
  before_more after own b =
      let singles = single_classes f.parents in
      let n = move_count f q in
      let round = round_of f (at_point q) in
      let test : (player_at f q == player) ≡ true = (Decides-eqb (player_at f q) player).1 own in
      let here : slots_at f singles player q ≡ class_count singles round * n = rw test refl in
      let count : class_count singles round * n ≡ signal_count f round * n = ap (λ k. k * n) (single_count f round (w.some_round q lq) (w.point_in q lq)) in (
        omega (arith, b.long, long, here, count, slots_more f singles player q),
        λ p s m lp hp ls lm. ⊎_elim
            (λ (same : p ≡ q). let P : ℕ → Type 0 = λ v. s < signal_count f (round_of f (at_point v)) → m < move_count f v
            → get_or after (slot_of f singles v (s + 1) m) 0 ≡ get_or weights (slot_of f lists v (class_of lists (round_of f (at_point v)) s) m) 0 in
            subst P (sym same)
            (λ ls lm.
            let less : s + 1 - 1 ≡ s = omega arith in
            let slot : slot_of f singles q (s + 1) m ≡ length before + (s * n + m) =
            omega (arith, long, ap (λ v. slots_before f singles v q) own, ap (λ v. v * n) less) in
            ap (λ v. get_or after v 0) slot ∙ b.row s m ls lm) ls lm)
            (λ other.
            let earlier : p < q = omega (arith, lp, other) in
            let in_points : p < point_count f = omega (arith, earlier, lq) in
            let under = slot_before f singles player p (s + 1) m q hp (single_class f (round_of f (at_point p)) (w.some_round p in_points)
            (w.point_in p in_points) s ls) lm earlier in
            b.kept (slot_of f singles p (s + 1) m) (omega (arith, long, under, ap (λ v. slots_before f singles v p) hp))
            ∙ h p s m earlier hp ls lm)
            (cases_eq p q),
      )

  -- a point of the other player
  pub before_same : (player_at f q ≡ player → ⊥) → (length before ≡ slots_before f (single_classes f.parents) player (q + 1))
      × AreSpreadBefore f lists player weights before (q + 1)
  before_same other = (
    omega (arith, long, slots_none f (single_classes f.parents) player q other),
    λ p s m lp hp ls lm. h p s m (⊎_elim (λ (same : p ≡ q). absurd (other (sym (ap (player_at f) same) ∙ hp))) (λ ne. omega (arith, lp, ne)) (cases_eq p q))
        hp ls lm,
  )

-- ---- all points

module _ (f : Frame) (lists : ClassLists) (player total : ℕ) (weights spread : List ℕ) (r : InRange f) (w : IsWalked f player) (k : IsClasses f.parents lists)
    (p : IsPlan f lists player total weights)
    (long : length spread ≡ slot_count f (single_classes f.parents) player) (h : AreSpreadBefore f lists player weights spread (point_count f)) where
  -- the raw plans are the same
  pub spread_same : AreSame f player (lift f lists (plan_of f lists total weights))
      (lift f (single_classes f.parents) (plan_of f (single_classes f.parents) total spread))
  spread_same = record {
    total = refl;
    number = λ q s m lq own ls lm. (let singles = single_classes f.parents in
        sym (ap (λ c. get_or spread (slot_of f singles q c m) 0) (single_number f (round_of f (at_point q)) (w.some_round q lq) (w.point_in q lq) s ls)
        ∙ h q s m lq own ls lm));
  }

  came : (q s : ℕ) → q < point_count f → s < signal_count f (round_of f (at_point q)) → (o : Option Step) → last_step f player (at_point q) ≡ o
      → number_before f (lift f lists (plan_of f lists total weights)) o (round_of f (at_point q)) s
      ≡ number_before f (lift f (single_classes f.parents) (plan_of f (single_classes f.parents) total spread)) o (round_of f (at_point q)) s
  came q s lq ls None e = refl
  came q s lq ls (Some u) e =
      let before = w.earlier q u lq e in
      let his = w.chosen q u lq e in
      let j = round_of f (at_point q) in
      let i = round_of f (at_point u.point) in
      let in_points : u.point < point_count f = omega (arith, before, lq) in
      let above = (is_table f r).kept j i s (w.some_round u.point in_points) (w.past q u lq e) ls in
      spread_same.number u.point (ancestor f j i s) u.choice in_points his.0 above his.1

  raw : IsRawPlan f player (lift f lists (plan_of f lists total weights))
  raw = lift_is_raw_plan f (is_table f r) lists (keeps_from f lists k.filter) (firsts_from f lists k) player (known_from f player r w)
      (plan_of f lists total weights) w.point_in (plan_by f lists player (plan_of f lists total weights) w k p.plan)

  pub spread_plan : IsPlan f (single_classes f.parents) player total spread
  spread_plan = record {
    long = long;
    plan = record {
      total_in = p.plan.total_in;
      flow = λ q c lq own lc. (
          let singles = single_classes f.parents in
          let round = round_of f (at_point q) in
          let only = single_member f round (w.some_round q lq) (w.point_in q lq) c lc in
          let s = first_member singles round c in
          sum-same_range (λ m. get_or spread (slot_of f singles q c m) 0) (λ m. get_or weights (slot_of f lists q (class_of lists round s) m) 0)
          (move_count f q)
          (λ m lm. ap (λ v. get_or spread (slot_of f singles q v m) 0) only.1 ∙ h q s m lq own only.0 lm)
          ∙ raw.flow q s lq own only.0
          ∙ came q s lq only.0 (last_step f player (at_point q)) refl);
    };
  }

-- ---- a point as the program reads it

-- a point of a player, for classes of the game
pub record PointFacts (g : ValidGame) (c : Filter) (q round moves : ℕ) : Type 0 where
  pub here : round ≡ round_of (frame_in g) (at_point q)
  pub many : moves ≡ move_count (frame_in g) q
  pub some : 0 < round
  pub top : round ≤ length c.lists
  pub wide : length (list_of c.lists round) ≡ signal_count (frame_in g) (round_of (frame_in g) (at_point q))

pub point_facts : (g : ValidGame) (c : Filter) (ps : List StoredPoint) (q : ℕ) (p : StoredPoint) → c.parents ≡ (frame_in g).parents
    → map point_of ps ≡ map own_point (frame_in g).points
    → q < point_count (frame_in g) → p ≡ get_or ps q p → PointFacts g c q p.round (length p.moves.items)
point_facts g c ps q p parents points lq is =
    let f = frame_in g in
    let r = point_reads g ps q p points lq is in
    let w = walked g 1 (omega arith) (omega arith) in
    let k = over f c parents in
    let some : 0 < p.round = omega (arith, r.round, w.some_round q lq) in
    let top : p.round ≤ last_round f = omega (arith, r.round, w.point_in q lq) in
    record {
      here = r.round;
      many = r.moves;
      some = some;
      top = omega (arith, top, k.rounds);
      wide = k.lengths p.round some top ∙ ap (signal_count f) r.round;
    }

-- where the weights of a class of a point stand among a plan's
pub record RoomFacts (f : Frame) (lists : ClassLists) (player q class first moves : ℕ) : Type 0 where
  pub slot : first + (class - 1) * moves ≡ slot_of f lists q class 0
  pub room : first + (class - 1) * moves + moves ≤ slot_count f lists player

pub room_facts : (f : Frame) (lists : ClassLists) (player q class first moves : ℕ) → player_at f q ≡ player → moves ≡ move_count f q
    → first ≡ slots_before f lists player q → q < point_count f
    → IsClass lists (round_of f (at_point q)) class → RoomFacts f lists player q class first moves
room_facts f lists player q class first moves own many at lq k = record {
  slot = omega (arith, at, ap (λ p. slots_before f lists p q) own, ap (λ n. (class - 1) * n) many);
  room = row_room f lists player q (class - 1) first moves own many at lq (omega (arith, k.0, k.1));
}

-- ---- the loop over the points

-- the weights of the player's points before one, and the slot of its first class and first move
pub record IsSpreadTo (f : Frame) (lists : ClassLists) (player : ℕ) (weights spread : List ℕ) (first q : ℕ) : Type 0 where
  pub long : length spread ≡ slots_before f (single_classes f.parents) player q
  pub first_is : first ≡ slots_before f lists player q
  pub rows : AreSpreadBefore f lists player weights spread q

pub slots_here : (f : Frame) (lists : ClassLists) (player q count moves : ℕ) → player_at f q ≡ player → count ≡ class_count lists (round_of f (at_point q))
    → moves ≡ move_count f q
    → slots_before f lists player (q + 1) ≡ slots_before f lists player q + count * moves
slots_here f lists player q count moves own e n =
    let test : (player_at f q == player) ≡ true = (Decides-eqb (player_at f q) player).1 own in
    let here : slots_at f lists player q ≡ class_count lists (round_of f (at_point q)) * move_count f q = rw test refl in
    omega (arith, slots_more f lists player q, here, ap (λ k. k * moves) e, ap (λ k. class_count lists (round_of f (at_point q)) * k) n)

pub own_point_more : (f : Frame) (lists : ClassLists) (player : ℕ) → IsWalked f player → (weights before after : List ℕ) (first q count moves : ℕ)
    → q < point_count f → player_at f q ≡ player
    → count ≡ class_count lists (round_of f (at_point q)) → moves ≡ move_count f q → IsSpreadTo f lists player weights before first q
    → IsSpreadBehind f lists q (signal_count f (round_of f (at_point q))) weights before after
    → IsSpreadTo f lists player weights after (first + count * moves) (q + 1)
own_point_more f lists player w weights before after first q count moves lq own e n h b =
    let more = before_more f lists player w weights before q lq h.long h.rows after own b in
    record { long = more.0; first_is = omega (arith, slots_here f lists player q count moves own e n, h.first_is); rows = more.1 }

pub other_point_more : (f : Frame) (lists : ClassLists) (player : ℕ) → IsWalked f player → (weights before : List ℕ) (first q : ℕ) → q < point_count f
    → (player_at f q ≡ player → ⊥)
    → IsSpreadTo f lists player weights before first q → IsSpreadTo f lists player weights before first (q + 1)
other_point_more f lists player w weights before first q lq other h =
    let same = before_same f lists player w weights before q lq h.long h.rows other in
    record { long = same.0; first_is = omega (arith, slots_none f lists player q other, h.first_is); rows = same.1 }
