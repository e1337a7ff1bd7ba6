-- Signals and deals, counted and weighed as sequences of groups.
use Rattle.std.proofs.Common.{◌≡◌, ℕ, zero, suc, ◌+◌, ◌-◌, ◌*◌, ◌<◌, ◌≤◌, List, [], ◌∷◌, ◌++◌, map, length, get_or, take, sum, ℤ, refl, sym, ap, ◌∙◌, arith}
use Rattle.std.proofs.{Common.{append_assoc}, lemmas.List.{append-nil, take_all, take_more}}
use Rattle.std.specs.{Prelude.{filter, ◌==◌}, List.{range_with_len, AllByRecursion}}
use Rattle.gs_model.specs.{Cards.{groups, ways, left_after}, Deals.{Deal, deals, path_weight}, Frame.{frame_of, total_weight}}
use Rattle.gs_model.specs.{Game.{Game, Round, round_at, round_count}, Signals.{Seen, Signal, children, edge, left_by, showings, signal_at, signals}}
use Rattle.gs_model.specs.{ViewTree.{facing, signal_outcome}, Betting.{even}}
use Rattle.gs_model.proofs.{Ranges.{deals-below, every-flat_map}, Facing.{deals_are_facing}, Basics.{every-map, every-weaker, every-range, every-any}}
use Rattle.gs_model.proofs.Listed.{left_by-push}
use Rattle.gs_game.specs.Sequences.{count_sequences, draws, seen_sizes, privates, deal_sizes}
use Rattle.gs_game.proofs.{GroupDraws.{all_ways, leaves_sum}, Totals.{total-keys}}
use Rattle.gs_game.proofs.Totals.{total, sum-total, total-same, total-same_every, total-map, total-flat_map, total-times, total-length, total-places}

-- sequences of groups, each group with a weight by what is left before it
abbrev pub sequences : (List ℕ → List ℕ → ℕ) → List ℕ → List ℕ → ℕ
sequences w left [] = 1
sequences w left (size ∷ sizes) = total (λ g. w left g * sequences w (left_after left g) sizes) (groups left size)

-- each group counts once
abbrev pub once : List ℕ → List ℕ → ℕ
once left g = 1

pub counted : (sizes left : List ℕ) → count_sequences left sizes ≡ sequences once left sizes
counted [] left = refl
counted (size ∷ sizes) left =
    sum-total (λ g. count_sequences (left_after left g) sizes) (groups left size)
    ∙ total-same (λ g. count_sequences (left_after left g) sizes) (λ g. 1 * sequences once (left_after left g) sizes) (λ g. let r =
    counted sizes (left_after left g) in omega (arith, r)) (groups left size)

drawn-each : (left sizes : List ℕ) (size : ℕ) (gs : List (List ℕ)) → ((l : List ℕ) → sequences ways l sizes ≡ draws (sum l) sizes)
    → AllByRecursion (λ g. sum (left_after left g) + size ≡ sum left) gs
    → total (λ g. ways left g * sequences ways (left_after left g) sizes) gs ≡ total (λ g. ways left g) gs * draws (sum left - size) sizes
drawn-each left sizes size [] h a = omega arith
drawn-each left sizes size (g ∷ gs) h a =
    let n : sum (left_after left g) ≡ sum left - size = omega (arith, a.0) in
    let e : sequences ways (left_after left g) sizes ≡ draws (sum left - size) sizes = h (left_after left g) ∙ ap (λ (k : ℕ). draws k sizes) n in
    let f : ways left g * sequences ways (left_after left g) sizes ≡ ways left g * draws (sum left - size) sizes = ap (λ (k : ℕ). ways left g * k) e in
    omega (arith, f, drawn-each left sizes size gs h a.1)

pub drawn : (sizes left : List ℕ) → sequences ways left sizes ≡ draws (sum left) sizes
drawn [] left = refl
drawn (size ∷ sizes) left = drawn-each left sizes size (groups left size) (drawn sizes) (leaves_sum left size)
    ∙ ap (λ (k : ℕ). k * draws (sum left - size) sizes) (all_ways left size)

-- ---- signals

abbrev path : (List ℕ → List ℕ → ℕ) → List ℕ → Signal → ℕ
path w left [] = 1
path w left (p ∷ s) = (w left p.own * w (left_after left p.own) p.public) * path w (left_after (left_after left p.own) p.public) s

path-more : (w : List ℕ → List ℕ → ℕ) (left : List ℕ) (s : Signal) (p : Seen)
    → path w left (s ++ p ∷ []) ≡ path w left s * (w (left_by left s) p.own * w (left_after (left_by left s) p.own) p.public)
path-more w left [] p = omega arith
path-more w left (q ∷ s) p =
    let e = ap (λ (n : ℕ). (w left q.own * w (left_after left q.own) q.public) * n) (path-more w (left_after (left_after left q.own) q.public) s p) in
    omega (arith, e)

-- what a round shows is an own group and a public group
shown : (w : List ℕ → List ℕ → ℕ) (left : List ℕ) (r : Round) (sizes : List ℕ)
    → total (λ (p : Seen). (w left p.own * w (left_after left p.own) p.public) * sequences w (left_after (left_after left p.own) p.public) sizes)
    (showings left r) ≡ sequences w left (r.private ∷ r.public ∷ sizes)
shown w left r sizes =
    total-flat_map (λ (p : Seen). (w left p.own * w (left_after left p.own) p.public) * sequences w (left_after (left_after left p.own) p.public) sizes)
    (λ own. map (λ public. record { own = own; public = public }) (groups (left_after left own) r.public)) (groups left r.private)
    ∙ total-same _ (λ own. w left own * sequences w (left_after left own) (r.public ∷ sizes))
    (λ own. by_own w left own sizes (groups (left_after left own) r.public)) (groups left r.private)
  where
    by_own : (w : List ℕ → List ℕ → ℕ) (left own sizes : List ℕ) (gs : List (List ℕ))
        → total (λ (p : Seen). (w left p.own * w (left_after left p.own) p.public) * sequences w (left_after (left_after left p.own) p.public) sizes)
        (map (λ public. record { own = own; public = public }) gs)
        ≡ w left own * total (λ g. w (left_after left own) g * sequences w (left_after (left_after left own) g) sizes) gs
    by_own w left own sizes [] = omega arith
    by_own w left own sizes (g ∷ gs) = omega (arith, by_own w left own sizes gs)

-- the sizes of what the first rounds show
abbrev pub first_sizes : Game → ℕ → List ℕ
first_sizes g zero = []
first_sizes g (suc round) = first_sizes g round ++ (round_at g (suc round)).private ∷ (round_at g (suc round)).public ∷ []

pub signals_total : (w : List ℕ → List ℕ → ℕ) (g : Game) (round : ℕ) (sizes : List ℕ)
    → total (λ s. path w g.copies s * sequences w (left_by g.copies s) sizes) (signals g round) ≡ sequences w g.copies (first_sizes g round ++ sizes)
signals_total w g zero sizes = omega arith
signals_total w g (suc round) sizes =
    let r = round_at g (suc round) in
    total-flat_map (λ s. path w g.copies s * sequences w (left_by g.copies s) sizes) (λ s. map (λ c. c.1) (children g r s)) (signals g round)
    ∙ total-same _ (λ s. path w g.copies s * sequences w (left_by g.copies s) (r.private ∷ r.public ∷ sizes)) (λ s. child_total w g r s sizes)
    (signals g round)
    ∙ signals_total w g round (r.private ∷ r.public ∷ sizes)
    ∙ ap (sequences w g.copies) (sym (append_assoc (first_sizes g round) (r.private ∷ r.public ∷ []) sizes))
  where
    each : (w : List ℕ → List ℕ → ℕ) (g : Game) (s : Signal) (sizes : List ℕ) (ps : List Seen)
        → total (λ (t : Signal). path w g.copies t * sequences w (left_by g.copies t) sizes) (map (λ p. s ++ p ∷ []) ps)
        ≡ path w g.copies s * total (λ (p : Seen). (w (left_by g.copies s) p.own * w (left_after (left_by g.copies s) p.own) p.public)
        * sequences w (left_after (left_after (left_by g.copies s) p.own) p.public) sizes) ps
    each w g s sizes [] = omega arith
    each w g s sizes (p ∷ ps) = rw (path-more w g.copies s p, left_by-push g.copies s p) (omega (arith, each w g s sizes ps))

    seen_only : (g : Game) (s : Signal) (left : List ℕ) (ps : List Seen)
        → map (λ (c : ℕ × Signal). c.1) (map {B = ℕ × Signal} (λ p. (edge left p, s ++ p ∷ [])) ps) ≡ map (λ p. s ++ p ∷ []) ps
    seen_only g s left [] = refl
    seen_only g s left (p ∷ ps) = ap (λ (xs : List Signal). (s ++ p ∷ []) ∷ xs) (seen_only g s left ps)

    child_total : (w : List ℕ → List ℕ → ℕ) (g : Game) (r : Round) (s : Signal) (sizes : List ℕ)
        → total (λ (t : Signal). path w g.copies t * sequences w (left_by g.copies t) sizes) (map (λ c. c.1) (children g r s))
        ≡ path w g.copies s * sequences w (left_by g.copies s) (r.private ∷ r.public ∷ sizes)
    child_total w g r s sizes =
        ap (total (λ (t : Signal). path w g.copies t * sequences w (left_by g.copies t) sizes))
        (seen_only g s (left_by g.copies s) (showings (left_by g.copies s) r))
        ∙ each w g s sizes (showings (left_by g.copies s) r) ∙ ap (λ (n : ℕ). path w g.copies s * n) (shown w (left_by g.copies s) r sizes)

-- ---- deals

-- the ways of the opponent's signals beside a signal, and their number
pub facing_ways : (rs : List Round) (left : List ℕ) (s : Signal) → length s ≡ length rs
    → total (λ (v : ℕ × Signal). v.0) (facing left rs s) ≡ sequences ways left (privates rs)
facing_ways [] left s h = omega arith
facing_ways (r ∷ rs) left [] h = absurd (omega (arith, h))
facing_ways (r ∷ rs) left (p ∷ s) h =
    total-flat_map (λ (v : ℕ × Signal). v.0) (λ own. map {B = ℕ × Signal} (λ w. (ways left own * w.0, record { own = own; public = p.public } ∷ w.1))
    (facing (left_after left own) rs s)) (groups left r.private)
    ∙ total-same _ (λ own. ways left own * sequences ways (left_after left own) (privates rs))
    (λ own. beside left own p (facing (left_after left own) rs s) ∙ ap (λ (n : ℕ). ways left own * n)
    (facing_ways rs (left_after left own) s (omega (arith, h)))) (groups left r.private)
  where
    beside : (left own : List ℕ) (p : Seen) (vs : List (ℕ × Signal))
        → total (λ (v : ℕ × Signal). v.0) (map {B = ℕ × Signal} (λ w. (ways left own * w.0, record { own = own; public = p.public } ∷ w.1)) vs)
        ≡ ways left own * total (λ (v : ℕ × Signal). v.0) vs
    beside left own p [] = omega arith
    beside left own p (v ∷ vs) = omega (arith, beside left own p vs)

facing_count : (rs : List Round) (left : List ℕ) (s : Signal) → length s ≡ length rs
    → total (λ (v : ℕ × Signal). 1) (facing left rs s) ≡ sequences once left (privates rs)
facing_count [] left s h = omega arith
facing_count (r ∷ rs) left [] h = absurd (omega (arith, h))
facing_count (r ∷ rs) left (p ∷ s) h =
    total-flat_map (λ (v : ℕ × Signal). 1) (λ own. map {B = ℕ × Signal} (λ w. (ways left own * w.0, record { own = own; public = p.public } ∷ w.1))
    (facing (left_after left own) rs s)) (groups left r.private)
    ∙ total-same _ (λ own. 1 * sequences once (left_after left own) (privates rs))
    (λ own. let e = facing_count rs (left_after left own) s (omega (arith, h)) in let b = beside left own p (facing (left_after left own) rs s) in
    omega (arith, e, b)) (groups left r.private)
  where
    beside : (left own : List ℕ) (p : Seen) (vs : List (ℕ × Signal))
        → total (λ (v : ℕ × Signal). 1) (map {B = ℕ × Signal} (λ w. (ways left own * w.0, record { own = own; public = p.public } ∷ w.1)) vs)
        ≡ total (λ (v : ℕ × Signal). 1) vs
    beside left own p [] = refl
    beside left own p (v ∷ vs) = ap (λ (n : ℕ). 1 + n) (beside left own p vs)

-- a signal has a part for each round
longer : (n : ℕ) (p : Seen) (s : Signal) → length s ≡ n → length (s ++ p ∷ []) ≡ suc n
longer n p [] h = omega (arith, h)
longer zero p (q ∷ s) h = absurd (omega (arith, h))
longer (suc n) p (q ∷ s) h = let r = longer n p s (omega (arith, h)) in omega (arith, r)

signals_long : (g : Game) (round : ℕ) → AllByRecursion (λ s. length s ≡ round) (signals g round)
signals_long g zero = (refl, tt)
signals_long g (suc round) =
    every-flat_map (λ s. length s ≡ suc round) (λ s. map (λ c. c.1) (children g (round_at g (suc round)) s)) (λ s. length s ≡ round)
    (λ s long. every-map (λ (t : Signal). length t ≡ suc round) (λ (c : ℕ × Signal). c.1) (children g (round_at g (suc round)) s)
    (every-map (λ (c : ℕ × Signal). length c.1 ≡ suc round) (λ p. (edge (left_by g.copies s) p, s ++ p ∷ []))
    (showings (left_by g.copies s) (round_at g (suc round)))
    (every-any (λ p. length (s ++ p ∷ []) ≡ suc round) (λ p. longer round p s long) (showings (left_by g.copies s) (round_at g (suc round))))))
    (signals g round) (signals_long g round)

-- a property of all members, read at a place
every-at : {X : Type 0} (P : X → Type 0) (xs : List X) (i : ℕ) (d : X) → AllByRecursion P xs → i < length xs → P (get_or xs i d)
every-at P [] i d a h = absurd (omega arith)
every-at P (x ∷ xs) zero d a h = a.0
every-at P (x ∷ xs) (suc i) d a h = every-at P xs i d a.1 (omega (arith, h))

abbrev Triple : Type 0
Triple = Signal × ℕ × ℤ

path-ways : (left : List ℕ) (s : Signal) → path ways left s ≡ path_weight left s
path-ways left [] = refl
path-ways left (p ∷ s) = ap (λ (n : ℕ). edge left p * n) (path-ways (left_after (left_after left p.own) p.public) s)

path-once : (left : List ℕ) (s : Signal) → path once left s ≡ 1
path-once left [] = refl
path-once left (p ∷ s) = let r = path-once (left_after (left_after left p.own) p.public) s in omega (arith, r)

-- the deals of one signal, and the opponent's signals beside it, give the same triples
pub same_triples : (g : Game) (i : ℕ) (f : Triple → ℕ) → i < length (signals g (round_count g))
    → total (λ (d : Deal). f (signal_at g (round_count g) d.two, d.weight, d.outcome)) (filter (λ (d : Deal). d.one == i) (deals g))
    ≡ total (λ (v : ℕ × Signal). f (v.1, path_weight g.copies (signal_at g (round_count g) i) * v.0, signal_outcome g (signal_at g (round_count g) i) v.1))
    (facing (left_by g.copies (signal_at g (round_count g) i)) g.rounds (signal_at g (round_count g) i))
same_triples g i f h =
    let s = signal_at g (round_count g) i in
    let shown_as : Deal → Triple = λ d. (signal_at g (round_count g) d.two, d.weight, d.outcome) in
    let out : ℕ × Signal → Triple = λ v. (v.1, path_weight g.copies s * v.0, signal_outcome g s v.1) in
    sym (total-map f shown_as (filter (λ (d : Deal). d.one == i) (deals g))) ∙ ap (total f) (deals_are_facing g i h)
    ∙ total-map f out (facing (left_by g.copies s) g.rounds s)

long_at : (g : Game) (i : ℕ) → i < length (signals g (round_count g)) → length (signal_at g (round_count g) i) ≡ length g.rounds
long_at g i h = every-at (λ t. length t ≡ round_count g) (signals g (round_count g)) i [] (signals_long g (round_count g)) h

-- what the deals of one signal weigh, and how many they are
weigh_at : (g : Game) (i : ℕ) → i < length (signals g (round_count g))
    → total (λ (d : Deal). d.weight) (filter (λ (d : Deal). d.one == i) (deals g))
    ≡ path ways g.copies (signal_at g (round_count g) i) * sequences ways (left_by g.copies (signal_at g (round_count g) i)) (privates g.rounds)
weigh_at g i h =
    let s = signal_at g (round_count g) i in
    same_triples g i (λ v. v.1) h ∙ total-times (path_weight g.copies s) (λ (v : ℕ × Signal). v.0) (facing (left_by g.copies s) g.rounds s)
    ∙ ap (λ (n : ℕ). path_weight g.copies s * n) (facing_ways g.rounds (left_by g.copies s) s (long_at g i h))
    ∙ ap (λ (n : ℕ). n * sequences ways (left_by g.copies s) (privates g.rounds)) (sym (path-ways g.copies s))

count_at : (g : Game) (i : ℕ) → i < length (signals g (round_count g))
    → total (λ (d : Deal). 1) (filter (λ (d : Deal). d.one == i) (deals g))
    ≡ path once g.copies (signal_at g (round_count g) i) * sequences once (left_by g.copies (signal_at g (round_count g) i)) (privates g.rounds)
count_at g i h =
    let s = signal_at g (round_count g) i in
    let e = same_triples g i (λ v. 1) h ∙ facing_count g.rounds (left_by g.copies s) s (long_at g i h) in
    let f = path-once g.copies s in
    rw f (omega (arith, e))

-- all deals, signal by signal
by_signals : (g : Game) (w : List ℕ → List ℕ → ℕ) (f : Deal → ℕ)
    → ((i : ℕ) → i < length (signals g (round_count g)) → total f (filter (λ (d : Deal). d.one == i) (deals g))
    ≡ path w g.copies (signal_at g (round_count g) i) * sequences w (left_by g.copies (signal_at g (round_count g) i)) (privates g.rounds))
    → total f (deals g) ≡ sequences w g.copies (first_sizes g (round_count g) ++ privates g.rounds)
by_signals g w f h =
    let n = length (signals g (round_count g)) in
    total-keys f (λ (d : Deal). d.one) n (deals g) (every-weaker (λ (d : Deal). (d.one < n)
    × (d.two < n)) (λ (d : Deal). d.one < n) (λ d e. e.0) (deals g) (deals-below g))
    ∙ total-same_every (λ i. total f (filter (λ (d : Deal). d.one == i) (deals g)))
    (λ i. path w g.copies (signal_at g (round_count g) i) * sequences w (left_by g.copies (signal_at g (round_count g) i)) (privates g.rounds))
    (range_with_len 0 n) (every-range _ 0 n (λ k low high. h k (omega arith)))
    ∙ sym (total-places (λ s. path w g.copies s * sequences w (left_by g.copies s) (privates g.rounds)) [] (signals g (round_count g)))
    ∙ signals_total w g (round_count g) (privates g.rounds)

-- ---- in the words of the crate

sizes-append : (xs ys : List Round) → seen_sizes (xs ++ ys) ≡ seen_sizes xs ++ seen_sizes ys
sizes-append [] ys = refl
sizes-append (r ∷ xs) ys = ap (λ (ks : List ℕ). r.private ∷ r.public ∷ ks) (sizes-append xs ys)

pub sizes_are : (g : Game) (n : ℕ) → n ≤ length g.rounds → first_sizes g n ≡ seen_sizes (take n g.rounds)
sizes_are g zero h = refl
sizes_are g (suc n) h =
    let d : Round = record { private = 0; public = 0; tree = even } in
    let e : suc n - 1 ≡ n = omega arith in
    let more : take (suc n) g.rounds ≡ take n g.rounds ++ get_or g.rounds n d ∷ [] =
    ap (λ (k : ℕ). take k g.rounds) plus ∙ take_more g.rounds n d (omega arith) in
    rw (e, more) (ap (λ (ks : List ℕ). ks ++ (get_or g.rounds n d).private ∷ (get_or g.rounds n d).public ∷ []) (sizes_are g n (omega arith))
    ∙ sym (sizes-append (take n g.rounds) (get_or g.rounds n d ∷ [])))
  where
    plus : suc n ≡ n + 1
    plus = omega arith

all_sizes : (g : Game) → first_sizes g (round_count g) ++ privates g.rounds ≡ deal_sizes g.rounds
all_sizes g = ap (λ (ks : List ℕ). ks ++ privates g.rounds) (sizes_are g (length g.rounds) (omega arith)
    ∙ ap seen_sizes (take_all (length g.rounds) g.rounds (omega arith)))

-- the number of deals, and of the raw signals of a round; the weight of all deals
pub deals_counted : (g : Game) → length (deals g) ≡ count_sequences g.copies (deal_sizes g.rounds)
deals_counted g = sym (total-length (deals g)) ∙ by_signals g once (λ d. 1) (count_at g) ∙ ap (sequences once g.copies) (all_sizes g)
    ∙ sym (counted (deal_sizes g.rounds) g.copies)

pub weight_drawn : (g : Game) → total_weight (frame_of g) ≡ draws (sum g.copies) (deal_sizes g.rounds)
weight_drawn g =
    sum-total (λ (d : Deal). d.weight) (deals g) ∙ by_signals g ways (λ (d : Deal). d.weight) (weigh_at g) ∙ ap (sequences ways g.copies) (all_sizes g)
    ∙ drawn (deal_sizes g.rounds) g.copies

pub signals_counted : (g : Game) (n : ℕ) → n ≤ length g.rounds → length (signals g n) ≡ count_sequences g.copies (seen_sizes (take n g.rounds))
signals_counted g n h =
    let e : first_sizes g n ++ [] ≡ seen_sizes (take n g.rounds) = append-nil (first_sizes g n) ∙ sizes_are g n h in
    sym (total-length (signals g n))
    ∙ total-same (λ s. 1) (λ s. path once g.copies s * sequences once (left_by g.copies s) []) (λ s. rw (path-once g.copies s) refl) (signals g n)
    ∙ signals_total once g n [] ∙ ap (sequences once g.copies) e ∙ sym (counted (seen_sizes (take n g.rounds)) g.copies)
