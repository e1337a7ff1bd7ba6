-- Over single signals a player has at most 64 sequences to a raw cell, and the empty one: a point has at most 64 points on each way to an end, and a signal is
-- in some pair of each later round.
use Rattle.std.proofs.Common.{◌≡◌, ℕ, zero, suc, ◌+◌, ◌-◌, ◌*◌, ◌<◌, ◌≤◌, ◌++◌, ◌==◌, ◌&&◌, Bool, true, cond, List, [], ◌∷◌, map, length, get_or, None, refl}
use Rattle.std.proofs.{Common.{sym, ap, ◌∙◌, subst, inl, inr, arith}, Math.Nat.{mul-le-mul_left, mul-le-mul_right}, lemmas.Bool.{cases_Bool, cases_lt, eq-eqb}}
use Rattle.std.proofs.{lemmas.List.FromFn.{get_or-range_with_len, length-range_with_len}, lemmas.List.Sums.{get_or-le-sum_by, sum_by-cons}}
use Rattle.std.specs.{Prelude.{count_by, sum_by}, List.{AllByRecursion, list_any, range_with_len}}
use Rattle.gs_bet.specs.{Grammar.{are_sound, is_sound}, MoveLists.{count, has_move}}
use Rattle.gs_bet.proofs.Letters.{at_most_26}
use Rattle.gs_filter.proofs.ClassLaws.{greatest_within, single_are_classes, single_at}
use Rattle.gs_filter.specs.Filter.{single_classes}
use Rattle.gs_game.proofs.{MoneyLaws.{sound_act, sound_move}, Totals.{sum-total, total, total-append, total-places}}
use Rattle.gs_game.specs.Rules.{KeepsRules}
use Rattle.gs_lossless.proofs.Descent.{first_end}
use Rattle.gs_model.proofs.{Push.{le_greatest}, Ranges.{in_range, signal_count_is}, Tables.{kept}, Walked.{last_round_of, walked_one}}
use Rattle.gs_model.specs.{Betting.{Bet, Moves, act, even, fold, move, none}, Classes.{ClassLists, class_count, class_of, classes_in, list_of}}
use Rattle.gs_model.specs.{Deals.{Deal, deals}, Game.{Game, IsPlayable, Round, round_count}, Positions.{End, Point, at_point}, Signals.{first_child, signals}}
use Rattle.gs_model.specs.Frame.{at_round, frame_of, last_round, move_count, player_at, point, point_count, round_of, signal_count, trees_of}
use Rattle.gs_model.specs.Walk.{Place, Walked, WalkedMoves, after_move, fold_end, walk, walk_moves, walk_rounds, walk_start, walk_tree}
use Rattle.gs_raw.specs.Cells.{raw_cell_count}
use Rattle.gs_seq.specs.{Cells.{meets, pair_count}, Slots.{sequence_count, slot_count, slots_at}}
use Rattle.gs_tree.proofs.Readers.{first_next}
use Rattle.gs_raw.proofs.Dealing.{child_some, met}

-- ---- signals do not get fewer

first_past : (g : Game) → KeepsRules g → (round i : ℕ) → i ≤ length (signals g round) → round < round_count g → i ≤ first_child g round i
first_past g h round zero l top = omega arith
first_past g h round (suc i) l top =
    let e : suc i ≡ i + 1 = omega arith in
    omega (
      arith,
      ap (first_child g round) e,
      first_next g round i (omega arith),
      child_some g h round i (omega arith) top,
      first_past g h round i (omega arith) top,
    )

signals_up : (g : Game) → KeepsRules g → (round : ℕ) → 0 < round → round < round_count g
    → signal_count (frame_of g) round ≤ signal_count (frame_of g) (suc round)
signals_up g h round some top =
    omega (
      arith,
      signal_count_is g round some (omega arith),
      signal_count_is g (suc round) (omega arith) (omega arith),
      first_past g h round (length (signals g round)) (omega arith) top,
      first_end g round,
    )

-- ---- walks, weighed by round

-- points by their moves, and ends
abbrev moves_weigh : (ℕ → ℕ) → List Point → ℕ
moves_weigh W ps = total (λ (x : Point). W x.round * length x.moves) ps

abbrev ends_weigh : (ℕ → ℕ) → List End → ℕ
ends_weigh V zs = total (λ (z : End). V z.round) zs

record Bounded (W V : ℕ → ℕ) (w : Walked) (most low : ℕ) : Type 0 where
  few : moves_weigh W w.points ≤ most * ends_weigh V w.ends
  some : low ≤ ends_weigh V w.ends

record MovesBounded (W V : ℕ → ℕ) (w : WalkedMoves) (most low : ℕ) : Type 0 where
  few : moves_weigh W w.walked.points ≤ most * ends_weigh V w.walked.ends
  many : low * length w.arrows ≤ ends_weigh V w.walked.ends

after_round : (player q choice chips : ℕ) (p : Place) → (after_move player q choice chips p).round ≡ p.round
after_round player q choice chips p = elim (cases_Bool (player == 1)) [ inl e ↦ rw e refl | inr e ↦ rw e refl ]

fold_round : (p : Place) → (fold_end p).round ≡ p.round
fold_round p = elim (cases_Bool (p.last == 1)) [ inl e ↦ rw e refl | inr e ↦ rw e refl ]

wider : (a b c n : ℕ) → a ≤ b * n → b ≤ c → a ≤ c * n
wider a b c n h k = let m = mul-le-mul_right n k in omega (arith, h, m)

joined : (a b m n k : ℕ) → a ≤ k * m → b ≤ k * n → a + b ≤ k * (m + n)
joined a b m n k h i = omega (arith, h, i)

one_more : (x p e k l : ℕ) → x ≤ e → p ≤ k * e → l ≡ suc k → x + p ≤ l * e
one_more x p e k l a b is = rw is (omega (arith, a, b))

-- a point with some move weighs no more than all its moves
some_arrow : (go_on : Place → Walked) (ms : Moves) (player q choice : ℕ) (p : Place) → has_move ms ≡ true
    → 1 ≤ length (walk_moves go_on ms player q choice p).arrows
some_arrow go_on none player q choice p h = absurd (cc)
some_arrow go_on (move letter chips next ms) player q choice p h = omega arith

module _ (W V : ℕ → ℕ) (n : ℕ) (weighs : (r : ℕ) → 0 < r → r ≤ n → W r ≤ V r) where
  mutual
    tree_bound : (t : Bet) (left d : ℕ) (go_on : Place → Walked) (p : Place) → is_sound left t ≡ true → 0 < p.round → p.round ≤ n
        → ((q : Place) → q.round ≡ p.round → Bounded W V (go_on q) d (W p.round)) → Bounded W V (walk_tree go_on t p) (left + d) (W p.round)
    tree_bound (act player ms) left d go_on p sound some top h =
        let s = sound_act left player ms sound in
        let inner : Place = record p { point = p.point + 1 } in
        let below = walk_moves go_on ms player p.point 0 inner in
        let b = moves_bound ms s.0 d go_on player p.point 0 inner s.2 some top h in
        let arrows = some_arrow go_on ms player p.point 0 inner s.3 in
        let once = mul-le-mul_left (W p.round) arrows in
        record {
          few = one_more (W p.round * length below.arrows) (moves_weigh W below.walked.points) (ends_weigh V below.walked.ends) (s.0 + d) (left + d) b.many
              b.few (omega (arith, s.1));
          some = omega (arith, once, b.many);
        }
    tree_bound fold left d go_on p sound some top h = record {
      few = omega arith;
      some = omega (arith, weighs p.round some top, ap V (fold_round p));
    }
    tree_bound even left d go_on p sound some top h =
        let b = h p refl in
        record { few = wider (moves_weigh W (go_on p).points) d (left + d) (ends_weigh V (go_on p).ends) b.few (omega arith); some = b.some }

    moves_bound : (ms : Moves) (left d : ℕ) (go_on : Place → Walked) (player q choice : ℕ) (p : Place) → are_sound left ms ≡ true → 0 < p.round → p.round ≤ n
        → ((x : Place) → x.round ≡ p.round → Bounded W V (go_on x) d (W p.round))
        → MovesBounded W V (walk_moves go_on ms player q choice p) (left + d) (W p.round)
    moves_bound none left d go_on player q choice p sound some top h = record { few = omega arith; many = omega arith }
    moves_bound (move letter chips next ms) left d go_on player q choice p sound some top h =
        let m = sound_move left letter chips next ms sound in
        let here = after_move player q choice chips p in
        let same = after_round player q choice chips p in
        let lift : (x : Place) → x.round ≡ here.round → Bounded W V (go_on x) d (W here.round) =
        λ x e. subst (λ (r : ℕ). Bounded W V (go_on x) d (W r)) (sym same) (h x (e ∙ same)) in
        let low : 0 < here.round = omega (arith, same, some) in
        let high : here.round ≤ n = omega (arith, same, top) in
        let first = walk_tree go_on next here in
        let a = tree_bound next left d go_on here m.next low high lift in
        let there : Place = record p { point = p.point + length first.points; end = p.end + length first.ends } in
        let others = walk_moves go_on ms player q (choice + 1) there in
        let b = moves_bound ms left d go_on player q (choice + 1) there m.others some top h in
        let points = total-append (λ (x : Point). W x.round * length x.moves) first.points others.walked.points in
        let ends = total-append (λ (z : End). V z.round) first.ends others.walked.ends in
        let few = joined (moves_weigh W first.points) (moves_weigh W others.walked.points) (ends_weigh V first.ends) (ends_weigh V others.walked.ends)
        (left + d) a.few b.few in
        let weight = ap W same in
        record {
          few = subst (λ (x : ℕ). x ≤ (left + d) * ends_weigh V (first.ends ++ others.walked.ends)) (sym points)
              (subst (λ (x : ℕ). moves_weigh W first.points + moves_weigh W others.walked.points ≤ (left + d) * x) (sym ends) few);
          many = omega (arith, a.some, b.many, ends, weight);
        }

  -- from a round on
  rounds_bound : ((r : ℕ) → 0 < r → r < n → W r ≤ W (suc r)) → (ts : List Bet) (p : Place) → AllByRecursion (λ t. is_sound 16 t ≡ true) ts → 0 < p.round
      → p.round + length ts ≤ n → Bounded W V (walk_rounds ts p) (16 * length ts) (W p.round)
  rounds_bound up [] p sound some top = record { few = omega arith; some = omega (arith, weighs p.round some (omega arith)) }
  rounds_bound up (t ∷ ts) p sound some top =
      let next : Place = record p { round = p.round + 1 } in
      let b = tree_bound t 16 (16 * length ts) (walk_rounds ts) next sound.0 (omega arith) (omega arith) (λ x e. (
      let r = rounds_bound up ts x sound.1 (omega (arith, e, some)) (omega (arith, e, top)) in
      subst (λ (i : ℕ). Bounded W V (walk_rounds ts x) (16 * length ts) (W i)) e r)) in
      let more = up p.round some (omega arith) in
      let same : p.round + 1 ≡ suc p.round = omega arith in
      record {
        few = wider (moves_weigh W (walk_rounds (t ∷ ts) p).points) (16 + 16 * length ts) (16 * length (t ∷ ts)) (ends_weigh V (walk_rounds (t ∷ ts) p).ends)
            b.few (omega arith);
        some = omega (arith, b.some, more, ap W same);
      }

  all_bound : ((r : ℕ) → 0 < r → r < n → W r ≤ W (suc r)) → (ante : ℕ) (t : Bet) (ts : List Bet) → AllByRecursion (λ u. is_sound 16 u ≡ true) (t ∷ ts)
      → length (t ∷ ts) ≤ n → moves_weigh W (walk ante (t ∷ ts)).points ≤ (16 + 16 * length ts) * ends_weigh V (walk ante (t ∷ ts)).ends
  all_bound up ante t ts sound top =
      let next : Place = record (walk_start ante) { round = 0 + 1 } in
      (tree_bound t 16 (16 * length ts) (walk_rounds ts) next sound.0 (omega arith) (omega arith) (λ x e. (
      let r = rounds_bound up ts x sound.1 (omega (arith, e)) (omega (arith, e, top)) in
      subst (λ (i : ℕ). Bounded W V (walk_rounds ts x) (16 * length ts) (W i)) e r))).few

-- ---- pairs of signals

range_each : (f : ℕ → ℕ) (a n : ℕ) → ((k : ℕ) → a ≤ k → k < a + n → 1 ≤ f k) → n ≤ sum_by f (range_with_len a n)
range_each f a zero h = omega arith
range_each f a (suc n) h =
    omega (
      arith,
      sum_by-cons f a (range_with_len (a + 1) n),
      h a (omega arith) (omega arith),
      range_each f (a + 1) n (λ k lo hi. h k (omega arith) (omega arith)),
    )

counted : {X : Type 0} (p : X → Bool) (xs : List X) (k : ℕ) (d : X) → k < length xs → p (get_or xs k d) ≡ true → 1 ≤ count_by p xs
counted p xs k d l h =
    let le = get_or-le-sum_by (λ x. cond {A = ℕ} (p x) 1 0) xs k d l in
    let here : cond {A = ℕ} (p (get_or xs k d)) 1 0 ≡ 1 = ap (λ (b : Bool). cond {A = ℕ} b 1 0) h in
    omega (arith, le, here)

some_any : (p : Deal → Bool) (xs : List Deal) (k : ℕ) (d : Deal) → k < length xs → p (get_or xs k d) ≡ true → list_any p xs ≡ true
some_any p [] k d l h = absurd (omega arith)
some_any p (x ∷ xs) zero d l h = rw h refl
some_any p (x ∷ xs) (suc k) d l h = elim (cases_Bool (p x)) [ inl e ↦ rw e refl | inr e ↦ rw e (some_any p xs k d (omega arith) h) ]

-- classes of one signal each
abbrev pub single : Game → ClassLists
single g = single_classes (frame_of g).parents

single_class : (g : Game) (round s : ℕ) → 0 < round → round ≤ last_round (frame_of g) → s < signal_count (frame_of g) round
    → class_of (single g) round s ≡ 1 + s
single_class g round s some top l =
    ap (λ (xs : List ℕ). get_or xs s 0) (single_at (frame_of g).parents round some top) ∙ get_or-range_with_len 1 (signal_count (frame_of g) round) s 0 l

single_count : (g : Game) (round : ℕ) → 0 < round → round ≤ last_round (frame_of g) → class_count (single g) round ≡ signal_count (frame_of g) round
single_count g round some top =
    let f = frame_of g in
    let c = single_are_classes f.parents in
    let list = list_of (single g) round in
    let long = c.lengths round some top in
    let le = greatest_within list (c.numbered round some top) in
    elim (cases_lt 0 (signal_count f round)) [
      | inr empty ↦ omega (arith, le, long, empty)
      | inl more ↦
          let s = signal_count f round - 1 in
          let inside : s < signal_count f round = omega arith in
          let at = single_class g round s some top inside in
          omega (arith, le, long, le_greatest list s (omega (arith, long, inside)), at, more)
    ]

module _ (g : Game) (p : IsPlayable g) (lawful : KeepsRules g) where
  pairs_some : (round : ℕ) → 0 < round → round ≤ last_round (frame_of g) → signal_count (frame_of g) round ≤ pair_count (frame_of g) (single g) round
  pairs_some round some top =
      let f = frame_of g in
      let lists = single g in
      let count = single_count g round some top in
      let last = last_round_of g in
      let each : (c : ℕ) → 1 ≤ c → c < 1 + class_count lists round → 1 ≤ count_by (λ e. meets f lists round c e) (classes_in lists round) = λ c lo hi. (
      let i = c - 1 in
      let inside : i < signal_count f round = omega (arith, count, lo, hi) in
      let m = met g p lawful round i some (omega (arith, top, last)) inside in
      let two = at_round f round m.deal.two in
      let deal_in = (in_range g p).twos m.place m.deal m.place_in in
      let two_last : m.deal.two < signal_count f (last_round f) = subst (λ (d : Deal). d.two < signal_count f (last_round f)) m.there deal_in in
      let two_in : two < signal_count f round = kept f (in_range g p) (last_round f) round m.deal.two some top two_last in
      let one_class : class_of lists round (at_round f round m.deal.one) ≡ c =
      ap (class_of lists round) m.one ∙ single_class g round i some top inside ∙ omega (arith, lo) in
      let two_class = single_class g round two some top two_in in
      let test = λ (e : ℕ) (d : Deal). (class_of lists round (at_round f round d.one) == c) && (class_of lists round (at_round f round d.two) == e) in
      let here : test (1 + two) m.deal ≡ true = rw (
        eq-eqb (class_of lists round (at_round f round m.deal.one)) c one_class,
        eq-eqb (class_of lists round two) (1 + two) two_class,
      ) refl in
      let there : test (1 + two) (get_or (deals g) m.place m.deal) ≡ true = ap (test (1 + two)) m.there ∙ here in
      let meeting : meets f lists round c (1 + two) ≡ true = some_any (test (1 + two)) (deals g) m.place m.deal m.place_in there in
      let low : two < class_count lists round = omega (arith, count, two_in) in
      let at : get_or (classes_in lists round) two 0 ≡ 1 + two = get_or-range_with_len 1 (class_count lists round) two 0 low in
      let long = length-range_with_len 1 (class_count lists round) in
      counted (λ e. meets f lists round c e) (classes_in lists round) two 0 (omega (arith, long, low))
      (ap (λ (e : ℕ). meets f lists round c e) at ∙ meeting)) in
      omega (arith, count, range_each (λ c. count_by (λ e. meets f lists round c e) (classes_in lists round)) 1 (class_count lists round) each)

  -- ---- slots
  slots_le : (player q : ℕ) → q < point_count (frame_of g) → slots_at (frame_of g) (single g) player q
      ≤ signal_count (frame_of g) (round_of (frame_of g) (at_point q)) * move_count (frame_of g) q
  slots_le player q l =
      let f = frame_of g in
      let w = walked_one g p in
      let count = single_count g (round_of f (at_point q)) (w.some_round q l) (w.point_in q l) in
      let same = ap (λ (n : ℕ). n * move_count f q) count in
      elim (cases_Bool (player_at f q == player)) [ inl e ↦ rw e (omega (arith, same)) | inr e ↦ rw e (omega arith) ]

  range_le : (f h : ℕ → ℕ) (a n : ℕ) → ((k : ℕ) → a ≤ k → k < a + n → f k ≤ h k) → sum_by f (range_with_len a n) ≤ sum_by h (range_with_len a n)
  range_le f h a zero e = omega arith
  range_le f h a (suc n) e =
      omega (
        arith,
        sum_by-cons f a (range_with_len (a + 1) n),
        sum_by-cons h a (range_with_len (a + 1) n),
        e a (omega arith) (omega arith),
        range_le f h (a + 1) n (λ k lo hi. e k (omega arith) (omega arith)),
      )

  all_points : sum_by (λ q. signal_count (frame_of g) (round_of (frame_of g) (at_point q)) * move_count (frame_of g) q)
      (range_with_len 0 (point_count (frame_of g)))
      ≡ moves_weigh (λ r. signal_count (frame_of g) r) (frame_of g).points
  unfolding round_of move_count
  all_points =
      let f = frame_of g in
      let any : Point = record { player = 0; round = 1; one = None; two = None; moves = [] } in
      let weight = λ (x : Point). signal_count f x.round * length x.moves in
      sum-total (λ q. weight (point f q)) (range_with_len 0 (point_count f)) ∙ sym (total-places weight any f.points)

  slots_all : (player : ℕ) → slot_count (frame_of g) (single g) player ≤ moves_weigh (λ r. signal_count (frame_of g) r) (frame_of g).points
  slots_all player =
      let f = frame_of g in
      omega (
        arith,
        range_le (slots_at f (single g) player) (λ q. signal_count f (round_of f (at_point q)) * move_count f q) 0 (point_count f)
            (λ q lo hi. slots_le player q (omega arith)),
        all_points,
      )

-- ---- the first tree has at most 26 moves at its root

arrows_long : (ms : Moves) (go_on : Place → Walked) (player q choice : ℕ) (p : Place) → length (walk_moves go_on ms player q choice p).arrows ≡ count ms
arrows_long none go_on player q choice p = refl
arrows_long (move letter chips next ms) go_on player q choice p =
    let here = after_move player q choice chips p in
    let first = walk_tree go_on next here in
    omega (arith, arrows_long ms go_on player q (choice + 1) (record p { point = p.point + length first.points; end = p.end + length first.ends }))

root_bound : (W V : ℕ → ℕ) (n : ℕ) → ((r : ℕ) → 0 < r → r ≤ n → W r ≤ V r) → (t : Bet) (d : ℕ) (go_on : Place → Walked) (p : Place)
    → is_sound 16 t ≡ true → 0 < p.round → p.round ≤ n → ((q : Place) → q.round ≡ p.round → Bounded W V (go_on q) d (W p.round))
    → moves_weigh W (walk_tree go_on t p).points ≤ W p.round * 26 + (15 + d) * ends_weigh V (walk_tree go_on t p).ends
root_bound W V n weighs (act player ms) d go_on p sound some top h =
    let s = sound_act 16 player ms sound in
    let inner : Place = record p { point = p.point + 1 } in
    let below = walk_moves go_on ms player p.point 0 inner in
    let b = moves_bound W V n weighs ms s.0 d go_on player p.point 0 inner s.2 some top h in
    let few : length below.arrows ≤ 26 = omega (arith, arrows_long ms go_on player p.point 0 inner, at_most_26 s.0 ms s.2) in
    let once = mul-le-mul_left (W p.round) few in
    let deep : s.0 + d ≡ 15 + d = omega (arith, s.1) in
    let rest : moves_weigh W below.walked.points ≤ (15 + d) * ends_weigh V below.walked.ends =
    subst (λ (m : ℕ). moves_weigh W below.walked.points ≤ m * ends_weigh V below.walked.ends) deep b.few in
    omega (arith, once, rest)
root_bound W V n weighs fold d go_on p sound some top h = omega arith
root_bound W V n weighs even d go_on p sound some top h =
    let b = h p refl in
    let w = wider (moves_weigh W (go_on p).points) d (15 + d) (ends_weigh V (go_on p).ends) b.few (omega arith) in
    omega (arith, w)

first_bound : (W V : ℕ → ℕ) (n : ℕ) → ((r : ℕ) → 0 < r → r ≤ n → W r ≤ V r) → ((r : ℕ) → 0 < r → r < n → W r ≤ W (suc r)) → (ante : ℕ) (t : Bet)
    (ts : List Bet) → AllByRecursion (λ u. is_sound 16 u ≡ true) (t ∷ ts) → length (t ∷ ts) ≤ n
    → moves_weigh W (walk ante (t ∷ ts)).points ≤ W 1 * 26 + (15 + 16 * length ts) * ends_weigh V (walk ante (t ∷ ts)).ends
first_bound W V n weighs up ante t ts sound top =
    let next : Place = record (walk_start ante) { round = 0 + 1 } in
    root_bound W V n weighs t (16 * length ts) (walk_rounds ts) next sound.0 (omega arith) (omega arith) (λ x e. (
    let r = rounds_bound W V n weighs up ts x sound.1 (omega (arith, e)) (omega (arith, e, top)) in
    subst (λ (i : ℕ). Bounded W V (walk_rounds ts x) (16 * length ts) (W i)) e r))

-- ---- games that keep the rules

trees_long : (rs : List Round) → length (map (λ (r : Round). r.tree) rs) ≡ length rs
trees_long [] = refl
trees_long (r ∷ rs) = ap suc (trees_long rs)

-- the cells of single signals, end by end
cells_weigh : (g : Game) → raw_cell_count (frame_of g) ≡ ends_weigh (λ i. pair_count (frame_of g) (single g) i) (frame_of g).ends
cells_weigh g = sum-total (λ (z : End). pair_count (frame_of g) (single g) z.round) (frame_of g).ends

points_few : (g : Game) → IsPlayable g → KeepsRules g → AllByRecursion (λ t. is_sound 16 t ≡ true) (trees_of g)
    → moves_weigh (λ r. signal_count (frame_of g) r) (frame_of g).points ≤ 64 * raw_cell_count (frame_of g)
points_few g p lawful sound =
    let f = frame_of g in
    let n = lawful.rounds in
    let V = λ (i : ℕ). pair_count f (single g) i in
    let b = by (trees_of g) sound (trees_long g.rounds) in
    let wide = wider (moves_weigh (λ (i : ℕ). signal_count f i) f.points) (16 * length g.rounds) 64 (ends_weigh V f.ends) b (omega (arith, n)) in
    omega (arith, cells_weigh g, wide)
  where
    by : (ts : List Bet) → AllByRecursion (λ t. is_sound 16 t ≡ true) ts → length ts ≡ length g.rounds
        → moves_weigh (λ i. signal_count (frame_of g) i) (walk g.ante ts).points
        ≤ 16 * length g.rounds * ends_weigh (λ i. pair_count (frame_of g) (single g) i) (walk g.ante ts).ends
    by [] sound long = let n = lawful.rounds in absurd (omega arith)
    by (t ∷ ts) sound long =
        let last = last_round_of g in
        let a = all_bound (λ i. signal_count (frame_of g) i) (λ i. pair_count (frame_of g) (single g) i) (round_count g)
        (λ i some top. pairs_some g p lawful i some (omega arith)) (λ i some top. signals_up g lawful i some top) g.ante t ts sound (omega arith) in
        let most : 16 + 16 * length ts ≡ 16 * length g.rounds = omega arith in
        subst (λ (m : ℕ). moves_weigh (λ i. signal_count (frame_of g) i) (walk g.ante (t ∷ ts)).points
        ≤ m * ends_weigh (λ i. pair_count (frame_of g) (single g) i) (walk g.ante (t ∷ ts)).ends) most a

pub sequences_few : (g : Game) (player : ℕ) → IsPlayable g → KeepsRules g → AllByRecursion (λ t. is_sound 16 t ≡ true) (trees_of g)
    → sequence_count (frame_of g) (single g) player ≤ 1 + 64 * raw_cell_count (frame_of g)
sequences_few g player p lawful sound = omega (arith, slots_all g p lawful player, points_few g p lawful sound)

-- a game with few raw cells has few sequences over single signals
points_within : (g : Game) → IsPlayable g → KeepsRules g → AllByRecursion (λ t. is_sound 16 t ≡ true) (trees_of g)
    → moves_weigh (λ r. signal_count (frame_of g) r) (frame_of g).points ≤ 200000 * 26 + 63 * raw_cell_count (frame_of g)
points_within g p lawful sound =
    let b = by (trees_of g) sound (trees_long g.rounds) in
    omega (arith, cells_weigh g, b)
  where
    by : (ts : List Bet) → AllByRecursion (λ t. is_sound 16 t ≡ true) ts → length ts ≡ length g.rounds
        → moves_weigh (λ i. signal_count (frame_of g) i) (walk g.ante ts).points
        ≤ 200000 * 26 + 63 * ends_weigh (λ i. pair_count (frame_of g) (single g) i) (walk g.ante ts).ends
    by [] sound long = let n = lawful.rounds in absurd (omega arith)
    by (t ∷ ts) sound long =
        let last = last_round_of g in
        let n = lawful.rounds in
        let W = λ (i : ℕ). signal_count (frame_of g) i in
        let V = λ (i : ℕ). pair_count (frame_of g) (single g) i in
        let a = first_bound W V (round_count g) (λ i some top. pairs_some g p lawful i some (omega arith)) (λ i some top. signals_up g lawful i some top)
        g.ante t ts sound (omega arith) in
        let few : W 1 ≤ 200000 = omega (arith, signal_count_is g 1 (omega arith) (omega arith), lawful.signals 1 (omega arith) (omega arith)) in
        let times = mul-le-mul_right 26 few in
        let deep : 15 + 16 * length ts ≤ 63 = omega arith in
        let wide = mul-le-mul_right (ends_weigh V (walk g.ante (t ∷ ts)).ends) deep in
        omega (arith, a, times, wide)

pub sequences_within : (g : Game) (player : ℕ) → IsPlayable g → KeepsRules g → AllByRecursion (λ t. is_sound 16 t ≡ true) (trees_of g)
    → raw_cell_count (frame_of g) ≤ 16777216 → sequence_count (frame_of g) (single g) player ≤ 1073741824
sequences_within g player p lawful sound few = omega (arith, slots_all g p lawful player, points_within g p lawful sound, few)
