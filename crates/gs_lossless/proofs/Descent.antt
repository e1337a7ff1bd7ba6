-- The signals that descend from a signal stand side by side.
use Rattle.std.proofs.{Common.{◌≡◌, ℕ, zero, suc, ◌+◌, ◌-◌, ◌<◌, ◌≤◌, ◌^◌, List, length, get_or, sym, ap, ◌∙◌, subst, arith, ⊎_elim}, lemmas.Bool.{cases_lt}}
use Rattle.std.proofs.{lemmas.List.Sums.{get_or-le-sum_by}, lemmas.List.{length-map, take_all}, lemmas.List.FromFn.{length-map-range_with_len}}
use Rattle.std.specs.Prelude.{All, flat_map}
use Rattle.gs_game.specs.{Games.{game_of, round_rules}, Limits.{IsWithinLimits}, declared.valid.ValidGame.{ValidGame}}
use Rattle.gs_game.proofs.Playable.{is_playable}
use Rattle.gs_model.specs.{Frame.{ancestor, ancestor_up, at_round, frame_of, last_round, signal_count}, Deals.{Deal, deals}, Classes.{class_of, list_of}}
use Rattle.gs_model.specs.{Game.{Game, IsPlayable, round_at, round_count}, Signals.{Signal, child_count, children, first_child, parents, signals}}
use Rattle.gs_model.proofs.{Children.{child-only}, Known.{Tabled}, Ranges.{in_range, length-flat_map_map, parents_at, signal_count_is}, Tables.{is_table}}
use Rattle.gs_model.proofs.Walked.{last_round_of}
use Rattle.gs_tree.specs.{Trees.{rules_of}, declared.signals.Signals.{Signals}}
use Rattle.gs_tree.proofs.Readers.{first_next}
use Rattle.gs_filter.specs.Filter.{AreParents, Filter}
use Rattle.gs_lossless.specs.{Amounts.{HasAspect, IsRunIn, key_count, keys_of}, declared.aspects.Aspect.{Aspect}, declared.aspects.Aspect.TheVariants.{Deals, Children}}

-- a valid game can be played
pub valid_playable : (v : ValidGame) → IsPlayable (game_of v.game)
valid_playable v = is_playable v.game (omega (arith, v.limits.some_round, length-map v.game.rounds.items round_rules))

pub playable : (s : Signals) → IsPlayable (rules_of s)
playable s = valid_playable s.game.now

pub tabled : (g : Game) → IsPlayable g → Tabled (frame_of g)
tabled g p = is_table (frame_of g) (in_range g p)

-- the ancestor in the round before is the parent
pub parent_is : (g : Game) (below at x : ℕ) → below + 1 ≡ at → at ≤ round_count g → ancestor (frame_of g) at below x ≡ get_or (parents g at) x 0
unfolding ancestor
parent_is g below at x e l =
    let one : at - below ≡ 1 = omega arith in
    ap (λ k. ancestor_up (frame_of g) at k x) one ∙ ap (λ (ps : List ℕ). get_or ps x 0) (parents_at g at (omega arith) l)

first_up : (g : Game) (r i n : ℕ) → i + n ≤ length (signals g r) → first_child g r i ≤ first_child g r (i + n)
first_up g r i zero l = let e : i ≡ i + zero = omega arith in omega (arith, ap (first_child g r) e)
first_up g r i (suc n) l =
    let e : i + suc n ≡ (i + n) + 1 = omega arith in
    omega (arith, ap (first_child g r) e, first_next g r (i + n) (omega arith), first_up g r i n (omega arith))

pub first_le : (g : Game) (r i j : ℕ) → i ≤ j → j ≤ length (signals g r) → first_child g r i ≤ first_child g r j
first_le g r i j l m =
    let e : i + (j - i) ≡ j = omega arith in
    subst (λ k. first_child g r i ≤ first_child g r k) e (first_up g r i (j - i) (omega arith))

pub first_end : (g : Game) (r : ℕ) → first_child g r (length (signals g r)) ≡ length (signals g (suc r))
first_end g r =
    let below = λ (s : Signal). children g (round_at g (suc r)) s in
    let xs = signals g r in
    ap (λ ys. length (flat_map below ys)) (take_all (length xs) xs (omega arith)) ∙ sym (length-flat_map_map (λ (c : ℕ × Signal). c.1) below xs)

-- ---- runs

pub run_start : (g : Game) → IsPlayable g → (round s : ℕ) → s < signal_count (frame_of g) round → IsRunIn (frame_of g) round round s s (s + 1)
run_start g p round s l =
    let h = tabled g p in
    record {
      ordered = omega arith;
      within = omega arith;
      inside = λ x lx e. (let i = h.itself round x in omega (arith, i, e), let i = h.itself round x in omega (arith, i, e));
      back = λ x lo hi. (let e : x ≡ s = omega arith in h.itself round x ∙ e);
    }

module _ (g : Game) (p : IsPlayable g) (at round s first end : ℕ) (some : 0 < round) (le : round ≤ at) (l : at
    < round_count g) (h : IsRunIn (frame_of g) at round s first end) where
  here : signal_count (frame_of g) at ≡ length (signals g at)
  here = signal_count_is g at (omega arith) (omega arith)

  there : signal_count (frame_of g) (suc at) ≡ length (signals g (suc at))
  there = signal_count_is g (suc at) (omega arith) (omega arith)

  parent : ℕ → ℕ
  parent x = ancestor (frame_of g) (suc at) at x

  within' : end ≤ length (signals g at)
  within' = omega (arith, here, h.within)

  parent_in : (x : ℕ) → x < signal_count (frame_of g) (suc at) → ancestor (frame_of g) (suc at) at x < length (signals g at)
  parent_in x lx = let k = (tabled g p).kept (suc at) at x (omega arith) (omega arith) lx in omega (arith, k, here)

  beside : (x : ℕ) → x < signal_count (frame_of g) (suc at) → let a = ancestor (frame_of g) (suc at) at x in
      (first_child g at a ≤ x) × (x < first_child g at (a + 1))
  beside x lx =
      let a = ancestor (frame_of g) (suc at) at x in
      let up : at + 1 ≡ suc at = omega arith in
      let c = child-only g at a (parent_in x lx) x (omega (arith, there, lx)) (sym (parent_is g at (suc at) x up (omega arith))) in
      let n = first_next g at a (parent_in x lx) in
      (c.0, omega (arith, c.1, n))

  chained : (x : ℕ) → ancestor (frame_of g) at round (ancestor (frame_of g) (suc at) at x) ≡ ancestor (frame_of g) (suc at) round x
  chained x = (tabled g p).chain (suc at) at round x le (omega arith)

  run_suc : IsRunIn (frame_of g) (suc at) round s (first_child g at first) (first_child g at end)
  run_suc = record {
    ordered = first_le g at first end h.ordered within';
    within = let a = first_le g at end (length (signals g at)) within' (omega arith) in let b = first_end g at in omega (arith, a, b, there);
    inside = λ x lx e. (
        let a = ancestor (frame_of g) (suc at) at x in
        let i = h.inside a (let k = parent_in x lx in omega (arith, k, here)) (chained x ∙ e) in
        let b = beside x lx in
        let lo = first_le g at first a i.0 (let k = parent_in x lx in omega (arith, k)) in
        let hi = first_le g at (a + 1) end (let j = i.1 in omega (arith, j)) within' in
        (omega (arith, b.0, lo), omega (arith, b.1, hi)));
    back = λ x lo hi. (
        let a = ancestor (frame_of g) (suc at) at x in
        let top = first_le g at end (length (signals g at)) within' (omega arith) in
        let last = first_end g at in
        let lx : x < signal_count (frame_of g) (suc at) = omega (arith, hi, top, last, there) in
        let b = beside x lx in
        let k = parent_in x lx in
        let low : first ≤ a = ⊎_elim (λ under. absurd (let m = first_le g at (a + 1) first (omega (arith, under)) (omega (arith, h.ordered, within')) in
        omega (arith, m, b.1, lo))) (λ over. over) (cases_lt a first) in
        let high : a < end = ⊎_elim (λ under. under) (λ over. absurd (let m = first_le g at end a over (omega (arith, k)) in
        omega (arith, m, b.0, hi))) (cases_lt a end) in
        sym (chained x) ∙ h.back a low high);
  }

  -- a run in the next round
  pub run_more : IsRunIn (frame_of g) (at + 1) round s (first_child g at first) (first_child g at end)
  run_more = let e : suc at ≡ at + 1 = omega arith in subst (λ k. IsRunIn (frame_of g) k round s (first_child g at first) (first_child g at end)) e run_suc

-- one step up to a signal's parent
pub climb : (g : Game) → IsPlayable g → (round at place : ℕ) → 0 < round → round < at → at ≤ round_count g
    → ancestor (frame_of g) (at - 1) round (get_or (parents g at) place 0) ≡ ancestor (frame_of g) at round place
climb g p round at place some l m =
    let e : at - 1 + 1 ≡ at = omega arith in
    ap (ancestor (frame_of g) (at - 1) round) (sym (parent_is g (at - 1) at place e m))
    ∙ (tabled g p).chain at (at - 1) round place (omega arith) (omega arith)

pub climb_in : (g : Game) → IsPlayable g → (at place : ℕ) → 1 < at → at ≤ round_count g → place < length (signals g at)
    → get_or (parents g at) place 0 < length (signals g (at - 1))
climb_in g p at place some m l =
    let e : at - 1 + 1 ≡ at = omega arith in
    let k = (tabled g p).kept at (at - 1) place (omega arith) (omega arith) (let n = signal_count_is g at (omega arith) m in omega (arith, n, l)) in
    let n = signal_count_is g (at - 1) (omega arith) (omega arith) in
    let q = parent_is g (at - 1) at place e m in
    omega (arith, k, n, q)

pub count_last : (g : Game) → IsPlayable g → signal_count (frame_of g) (last_round (frame_of g)) ≡ length (signals g (round_count g))
count_last g p = ap (signal_count (frame_of g)) (last_round_of g) ∙ signal_count_is g (round_count g) p.some (omega arith)

pub twos_in : (g : Game) → IsPlayable g → (n : ℕ) → n ≡ length (signals g (round_count g)) → All (λ (d : Deal). d.two < n) (deals g)
twos_in g p n e = λ k d l. let t = (in_range g p).twos k d l in omega (arith, t, count_last g p, e)

-- a deal weighs no more than all, which is little
pub deals_light : (g : Game) → IsWithinLimits g → All (λ (d : Deal). d.weight < 2 ^ 32) (deals g)
deals_light g limits = λ k d l. omega (arith, get_or-le-sum_by (λ (x : Deal). x.weight) (deals g) k d l, limits.weight_in)

-- the lists of classes over a game's parents are as long as its rounds
pub list_long : (g : Game) (l : Filter) → l.parents ≡ (frame_of g).parents → (round : ℕ) → 0 < round → round ≤ round_count g
    → length (list_of l.lists round) ≡ length (signals g round)
list_long g l e round some le =
    let n = ap (λ (ps : List (List ℕ)). length ps) e in
    l.classes.lengths round some (omega (arith, n, last_round_of g)) ∙ ap (λ (ps : List (List ℕ)). length (list_of ps round)) e
    ∙ signal_count_is g round some le

pub keys_long : (g : Game) (l : Filter) → l.parents ≡ (frame_of g).parents → IsPlayable g → (aspect : Aspect) (round : ℕ)
    → HasAspect (frame_of g) aspect round → length (keys_of (frame_of g) l.lists aspect round) ≡ key_count g aspect round
keys_long g l e p Deals round h = length-map-range_with_len (λ x. class_of l.lists round (at_round (frame_of g) round x)) 0
    (signal_count (frame_of g) (last_round (frame_of g))) ∙ count_last g p
keys_long g l e p Children round h = list_long g l e (round + 1) (omega arith) (omega (arith, h.1, last_round_of g))

-- the children of a signal are a run of the next round
pub child_run : (g : Game) → IsPlayable g → (round s : ℕ) → 0 < round → round < round_count g → s < length (signals g round)
    → IsRunIn (frame_of g) (round + 1) round s (first_child g round s) (first_child g round s + child_count g round s)
child_run g p round s some l ls =
    let start = run_start g p round s (let n = signal_count_is g round some (omega arith) in omega (arith, n, ls)) in
    subst (λ (k : ℕ). IsRunIn (frame_of g) (round + 1) round s (first_child g round s) k) (first_next g round s ls)
    (run_more g p round round s s (s + 1) some (omega arith) l start)

-- the parents of a game's signals are such that classes can stand on them
pub valid_parents : (v : ValidGame) → AreParents (frame_of (game_of v.game)).parents
valid_parents v =
    let g = game_of v.game in
    let h = v.limits in
    record {
      few = omega (arith, last_round_of g, h.few_rounds);
      short = λ round some le. (let n = signal_count_is g round some (omega (arith, le, last_round_of g)) in
          let m = h.signals_in round (omega (arith, le, last_round_of g)) in omega (arith, n, m));
      in_range = λ round x some le l. (in_range g (valid_playable v)).parents round x some l;
    }

pub are_parents : (s : Signals) → AreParents (frame_of (rules_of s)).parents
are_parents s = valid_parents s.game.now
