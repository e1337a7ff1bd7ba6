-- The weights of edges and of the way to a signal.
use Rattle.std.proofs.Common.{◌≡◌, ℕ, zero, suc, ◌-◌, ◌*◌, ◌^◌, ◌<◌, ◌≤◌, List, [], ◌∷◌, length, get_or, refl, sym, ap, ◌∙◌, arith, subst, All}
use Rattle.std.proofs.Math.Nat.{pow-succ'}
use Rattle.gs_model.specs.{Cards.{ways, left_after}, Deals.{path_weight}, Game.{Game, Round, round_at, round_count}}
use Rattle.gs_model.specs.{Signals.{Seen, Signal, signals, signal_at, parents, last_edge, edge, left_by}, Betting.{even}}
use Rattle.gs_model.proofs.{Children.{last_edge-push, path_weight-push}, Basics.{product_le}, Listed.{length-after}, Beside.{length-left_by}}
use Rattle.gs_game.specs.Limits.{IsDealable}
use Rattle.gs_tree.specs.Layers.{last_seen}
use Rattle.gs_tree.proofs.{Taken.{ways_power, few_left}, Dealt.{IsShown, last_is_shown}, Lookups.{IsChild, is_child}}

left_small : (left : List ℕ) (s : Signal) → All (λ c. c ≤ 9) left → All (λ c. c ≤ 9) (left_by left s)
left_small left [] h = h
left_small left (p ∷ s) h = left_small (left_after (left_after left p.own) p.public) s
    (few_left (left_after left p.own) (left_after (left_after left p.own) p.public) p.public refl (few_left left (left_after left p.own) p.own refl h))

at_two : (w n : ℕ) → n ≤ 2 → w ≤ 9 ^ n → w ≤ 81
at_two w zero l h = omega arith
at_two w (suc zero) l h = omega arith
at_two w (suc (suc zero)) l h = omega arith
at_two w (suc (suc (suc n))) l h = absurd (omega arith)

pub at_three : (w n : ℕ) → n ≤ 3 → w ≤ 9 ^ n → w ≤ 729
at_three w zero l h = omega arith
at_three w (suc zero) l h = omega arith
at_three w (suc (suc zero)) l h = omega arith
at_three w (suc (suc (suc zero))) l h = omega arith
at_three w (suc (suc (suc (suc n)))) l h = absurd (omega arith)

-- an edge weighs at most 59,049
edge_small : (left : List ℕ) (r : Round) (p : Seen) → All (λ c. c ≤ 9) left → IsShown (length left) r p → r.private ≤ 2 → r.public ≤ 3 → edge left p ≤ 59049
edge_small left r p few h a b =
    let P : ℕ → Type 0 = λ n. All (λ c. c < n) p.public in
    let own = at_two (ways left p.own) (length p.own) (omega (arith, h.own_counted)) (ways_power left p.own h.own_in few) in
    let public = at_three (ways (left_after left p.own) p.public) (length p.public) (omega (arith, h.public_counted))
    (ways_power (left_after left p.own) p.public (subst P (sym (length-after left p.own)) h.public_in)
    (few_left left (left_after left p.own) p.own refl few)) in
    product_le (ways left p.own) (ways (left_after left p.own) p.public) 81 729 own public

last_edge-is : (g : Game) (round i : ℕ) → IsChild g round i → last_edge g.copies (signal_at g round i)
    ≡ edge (left_by g.copies (signal_at g (round - 1) (get_or (parents g round) i 0))) (last_seen (signal_at g round i))
last_edge-is g round i c = ap (last_edge g.copies) c.signal_is ∙ last_edge-push g.copies (signal_at g (round - 1) (get_or (parents g round) i 0))
    (last_seen (signal_at g round i))

pub last_edge_small : (g : Game) (round i : ℕ) → IsDealable g → All (λ c. c ≤ 9) g.copies → 0 < round → round ≤ round_count g → i < length (signals g round)
    → last_edge g.copies (signal_at g round i) ≤ 59049
last_edge_small g round i h few some le l =
    let c = is_child g round i some l in
    let front : Signal = signal_at g (round - 1) (get_or (parents g round) i 0) in
    let none : Round = record { private = 0; public = 0; tree = even } in
    let small = h.small (round - 1) none (omega arith) in
    let P : ℕ → Type 0 = λ n. IsShown n (round_at g round) (last_seen (signal_at g round i)) in
    let shown = subst P (sym (length-left_by g.copies front)) (last_is_shown g round i some l) in
    let Q : ℕ → Type 0 = λ n. n ≤ 59049 in
    subst Q (sym (last_edge-is g round i c)) (edge_small (left_by g.copies front) (round_at g round) (last_seen (signal_at g round i))
    (left_small g.copies front few) shown small.0 small.1)

-- the ways to a signal, from those to its parent
pub path_step : (g : Game) (round i : ℕ) → IsChild g round i → path_weight g.copies (signal_at g round i)
    ≡ path_weight g.copies (signal_at g (round - 1) (get_or (parents g round) i 0)) * last_edge g.copies (signal_at g round i)
path_step g round i c =
    let front : Signal = signal_at g (round - 1) (get_or (parents g round) i 0) in
    ap (path_weight g.copies) c.signal_is ∙ path_weight-push g.copies front (last_seen (signal_at g round i))
    ∙ ap (λ n. path_weight g.copies front * n) (sym (last_edge-is g round i c))

pub power_step : (w e round : ℕ) → 0 < round → w ≤ 59049 ^ (round - 1) → e ≤ 59049 → w * e ≤ 59049 ^ round
power_step w e zero some h k = absurd (omega arith)
power_step w e (suc n) some h k =
    let before : suc n - 1 ≡ n = omega arith in
    let P : ℕ → Type 0 = λ m. w ≤ 59049 ^ m in
    let small : w * e ≤ 59049 ^ n * 59049 = product_le w e (59049 ^ n) 59049 (subst P before h) k in
    let next : 59049 ^ suc n ≡ 59049 * 59049 ^ n = pow-succ' 59049 n in
    omega (arith, next)

pub power_fits : (w n : ℕ) → n ≤ 4 → w ≤ 59049 ^ n → w ≤ 12157665459056928801
power_fits w zero l h = omega arith
power_fits w (suc zero) l h = omega arith
power_fits w (suc (suc zero)) l h = omega arith
power_fits w (suc (suc (suc zero))) l h = omega arith
power_fits w (suc (suc (suc (suc zero)))) l h = omega arith
power_fits w (suc (suc (suc (suc (suc n))))) l h = absurd (omega arith)

pub few_product : (w s i : ℕ) → i < 3 → w ≤ 9 ^ i → s ≤ 9 → w * s ≤ 729
few_product w s i l h k = product_le w s 81 9 (at_two w i (omega arith) h) k

-- the ways to a signal of a round
pub path_small : (g : Game) (round i : ℕ) → IsDealable g → All (λ c. c ≤ 9) g.copies → round ≤ round_count g → i < length (signals g round)
    → path_weight g.copies (signal_at g round i) ≤ 59049 ^ round
path_small g zero zero h few le l = omega arith
path_small g zero (suc i) h few le l = absurd (omega arith)
path_small g (suc n) i h few le l =
    let c = is_child g (suc n) i (omega arith) l in
    let before : suc n - 1 ≡ n = omega arith in
    let p : ℕ = get_or (parents g (suc n)) i 0 in
    let Q : ℕ → Type 0 = λ k. p < length (signals g k) in
    let R : ℕ → Type 0 = λ k. path_weight g.copies (signal_at g k p) ≤ 59049 ^ k in
    let S : ℕ → Type 0 = λ w. w ≤ 59049 ^ suc n in
    let parent : path_weight g.copies (signal_at g n p) ≤ 59049 ^ n = path_small g n p h few (omega arith) (subst Q before c.parent_in) in
    let edge = last_edge_small g (suc n) i h few (omega arith) le l in
    subst S (sym (path_step g (suc n) i c)) (power_step (path_weight g.copies (signal_at g (suc n - 1) p)) (last_edge g.copies (signal_at g (suc n) i))
    (suc n) (omega arith) (subst R (sym before) parent) edge)
