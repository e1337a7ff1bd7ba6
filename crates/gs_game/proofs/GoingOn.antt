-- How many ways there are to go on after some rounds: the same for all pairs of signals.
use Rattle.std.proofs.Common.{◌≡◌, ℕ, zero, suc, ◌+◌, ◌-◌, ◌*◌, ◌≤◌, Bool, true, false, cond, List, [], ◌∷◌, ◌++◌, map, length, get_or, take, sum, refl, sym}
use Rattle.std.proofs.Common.{ap, ◌∙◌, arith, nat_lt}
use Rattle.std.specs.{Prelude.{filter, flat_map}, List.{AllByRecursion}}
use Rattle.gs_model.specs.{Cards.{choose, groups, left_after, left_from, ways}, Deals.{path_weight}, Game.{Round}, Signals.{Seen, Signal, edge, left_by}}
use Rattle.gs_model.specs.ViewTree.{facing}
use Rattle.gs_model.proofs.{Listed.{length-after, listed, seen}, Fits.{groups_of_fewer}, Ranges.{every-flat_map}, Basics.{every-map, every-weaker}}
use Rattle.gs_model.proofs.Exchanged.{left_from-swap, ways_from-swap}
use Rattle.gs_game.specs.{GoingOn.{cards_shown, own_cards_of}, Sequences.{deal_sizes, draws, privates, seen_sizes}}
use Rattle.gs_game.proofs.{GroupDraws.{all_ways, leaves_sum}, Sequencing.{drawn, facing_ways}}
use Rattle.gs_game.proofs.Totals.{total, total-flat_map, total-map, total-same, total-same_every, total-times, total-two}

-- ---- the order in which groups are taken does not matter

-- two groups, and what follows them
turned : (left g own : List ℕ) (h : List ℕ → ℕ)
    → ways left g * (ways (left_after left g) own * h (left_after (left_after left g) own))
    ≡ ways left own * (ways (left_after left own) g * h (left_after (left_after left own) g))
turned left g own h = join (ways left g) (ways (left_after left g) own) (ways left own) (ways (left_after left own) g)
    (h (left_after (left_after left g) own)) (h (left_after (left_after left own) g))
    (ways_from-swap 0 left g own) (ap h (left_from-swap 0 left g own))
  where
    join : (a b c d n m : ℕ) → a * b ≡ c * d → n ≡ m → a * (b * n) ≡ c * (d * m)
    join a b c d n m e i =
        let x : a * (b * n) ≡ (a * b) * n = omega arith in
        let y : c * (d * m) ≡ (c * d) * m = omega arith in
        x ∙ ap (λ (k : ℕ). k * n) e ∙ ap (λ (k : ℕ). (c * d) * k) i ∙ sym y

-- ---- sums

total-none : {X : Type 0} (f : X → ℕ) → ((x : X) → f x ≡ 0) → (xs : List X) → total f xs ≡ 0
total-none f h [] = refl
total-none f h (x ∷ xs) = omega (arith, h x, total-none f h xs)

total-passed : {X : Type 0} (f : X → ℕ) (t : X → Bool) → ((x : X) → t x ≡ false → f x ≡ 0) → (xs : List X) → total f (filter t xs) ≡ total f xs
total-passed f t h [] = refl
total-passed f t h (x ∷ xs) = go (t x) refl (total-passed f t h xs)
  where
    go : (b : Bool) → t x ≡ b → total f (filter t xs) ≡ total f xs → total f (cond b (x ∷ filter t xs) (filter t xs)) ≡ f x + total f xs
    go true e i = ap (λ (n : ℕ). f x + n) i
    go false e i = omega (arith, h x e, i)

total-exchanged : {X Y : Type 0} (f : X → Y → ℕ) (xs : List X) (ys : List Y) → total (λ x. total (f x) ys) xs ≡ total (λ y. total (λ x. f x y) xs) ys
total-exchanged f [] ys = sym (total-none (λ y. 0) (λ y. refl) ys)
total-exchanged f (x ∷ xs) ys = omega (arith, total-exchanged f xs ys, total-two (f x) (λ y. total (λ x. f x y) xs) ys)

from_less : (kind : ℕ) (left g : List ℕ) (k : ℕ) → get_or (left_from kind left g) k 0 ≤ get_or left k 0
from_less kind [] g k = omega arith
from_less kind (c ∷ cs) g zero = omega arith
from_less kind (c ∷ cs) g (suc k) = from_less (suc kind) cs g k

no_ways : (w n : ℕ) → nat_lt 0 w ≡ false → w * n ≡ 0
no_ways w n e = let z : w ≡ 0 = grind (arith, e) in let o : 0 * n ≡ 0 = omega arith in ap (λ (k : ℕ). k * n) z ∙ o

-- of the groups of all copies those count that what is left after a group allows
of_left : (left g : List ℕ) (size : ℕ) (h : List ℕ → ℕ) → total (λ own. ways (left_after left g) own * h own) (groups left size)
    ≡ total (λ own. ways (left_after left g) own * h own) (groups (left_after left g) size)
of_left left g size h =
    let f = λ (own : List ℕ). ways (left_after left g) own * h own in
    sym (total-passed f (λ own. nat_lt 0 (ways (left_after left g) own)) (λ own e. no_ways (ways (left_after left g) own) (h own) e) (groups left size))
    ∙ ap (total f) (groups_of_fewer (left_after left g) left size (length-after left g) (λ k. from_less 0 left g k))

-- ---- the opponent's signals beside a signal

-- what they add up to, each with its ways
abbrev pub beside_sum : (Signal → ℕ) → List ℕ → List Round → Signal → ℕ
beside_sum f left rs s = total (λ (v : ℕ × Signal). v.0 * f v.1) (facing left rs s)

step : (f : Signal → ℕ) (left : List ℕ) (r : Round) (rs : List Round) (p : Seen) (s : Signal)
    → beside_sum f left (r ∷ rs) (p ∷ s) ≡ total (λ own. ways left own * beside_sum (λ t. f (seen own p.public ∷ t)) (left_after left own) rs s)
    (groups left r.private)
step f left r rs p s =
    total-flat_map (λ (v : ℕ × Signal). v.0 * f v.1) (λ own. map {B = ℕ × Signal} (λ w. (ways left own * w.0, seen own p.public ∷ w.1))
    (facing (left_after left own) rs s)) (groups left r.private)
    ∙ total-same _ (λ own. ways left own * beside_sum (λ t. f (seen own p.public ∷ t)) (left_after left own) rs s)
    (λ own. each own (facing (left_after left own) rs s)) (groups left r.private)
  where
    each : (own : List ℕ) (ws : List (ℕ × Signal))
        → total (λ (v : ℕ × Signal). v.0 * f v.1) (map {B = ℕ × Signal} (λ w. (ways left own * w.0, seen own p.public ∷ w.1)) ws)
        ≡ ways left own * total (λ (w : ℕ × Signal). w.0 * f (seen own p.public ∷ w.1)) ws
    each own [] = omega arith
    each own (w ∷ ws) = omega (arith, each own ws)

-- ---- a group that is taken before the opponent's, or after them

after_own : (left own : List ℕ) (k a n : ℕ) (h : List ℕ → ℕ) → sum (left_after left own) + a ≡ sum left
    → total (λ g. ways (left_after left own) g * h (left_after (left_after left own) g)) (groups (left_after left own) k)
    ≡ choose (sum (left_after left own) - n) k * h (left_after left own)
    → total (λ g. ways left g * (ways (left_after left g) own * h (left_after (left_after left g) own))) (groups left k)
    ≡ choose (sum left - (a + n)) k * (ways left own * h (left_after left own))
after_own left own k a n h e i =
    let m : sum (left_after left own) - n ≡ sum left - (a + n) = omega (arith, e) in
    let c = ap (λ (x : ℕ). choose x k) m in
    total-same _ (λ g. ways left own * (ways (left_after left own) g * h (left_after (left_after left own) g))) (λ g. turned left g own h) (groups left k)
    ∙ total-times (ways left own) (λ g. ways (left_after left own) g * h (left_after (left_after left own) g)) (groups left k)
    ∙ ap (λ (x : ℕ). ways left own * x) (of_left left own k (λ g. h (left_after (left_after left own) g)) ∙ i ∙ ap (λ (x : ℕ). x * h (left_after left own)) c)
    ∙ across (ways left own) (choose (sum left - (a + n)) k) (h (left_after left own))
  where
    across : (x y z : ℕ) → x * (y * z) ≡ y * (x * z)
    across x y z = omega arith

exchange : (rs : List Round) (left : List ℕ) (s : Signal) (k : ℕ) (f : Signal → ℕ)
    → total (λ g. ways left g * beside_sum f (left_after left g) rs s) (groups left k) ≡ choose (sum left - own_cards_of rs) k * beside_sum f left rs s
exchange [] left s k f =
    let z : sum left - 0 ≡ sum left = omega arith in
    let c = ap (λ (n : ℕ). choose n k) z in
    total-same (λ g. ways left g * (1 * f [] + 0)) (λ g. f [] * ways left g) (λ g. omega arith) (groups left k)
    ∙ total-times (f []) (λ g. ways left g) (groups left k)
    ∙ ap (λ (n : ℕ). f [] * n) (all_ways left k ∙ sym c)
    ∙ last (f []) (choose (sum left - 0) k)
  where
    last : (x y : ℕ) → x * y ≡ y * (1 * x + 0)
    last x y = omega arith
exchange (r ∷ rs) left [] k f = total-none (λ g. ways left g * 0) (λ g. omega arith) (groups left k)
    ∙ nothing (choose (sum left - (r.private + own_cards_of rs)) k)
  where
    nothing : (n : ℕ) → 0 ≡ n * 0
    nothing n = omega arith
exchange (r ∷ rs) left (p ∷ s) k f =
    let below = λ (own l : List ℕ). beside_sum (λ t. f (seen own p.public ∷ t)) l rs s in
    let c = choose (sum left - (r.private + own_cards_of rs)) k in
    total-same _ (λ g. total (λ own. ways left g * (ways (left_after left g) own * below own (left_after (left_after left g) own))) (groups left r.private))
    (λ g. ap (λ (n : ℕ). ways left g * n) (step f (left_after left g) r rs p s
    ∙ sym (of_left left g r.private (λ own. below own (left_after (left_after left g) own))))
    ∙ sym (total-times (ways left g) (λ own. ways (left_after left g) own * below own (left_after (left_after left g) own)) (groups left r.private)))
    (groups left k)
    ∙ total-exchanged (λ g own. ways left g * (ways (left_after left g) own * below own (left_after (left_after left g) own))) (groups left k)
    (groups left r.private)
    ∙ total-same_every _ (λ own. c * (ways left own * below own (left_after left own))) (groups left r.private)
    (every-weaker (λ own. sum (left_after left own) + r.private ≡ sum left) _
    (λ own e. after_own left own k r.private (own_cards_of rs) (below own) e (exchange rs (left_after left own) s k (λ t. f (seen own p.public ∷ t))))
    (groups left r.private) (leaves_sum left r.private))
    ∙ total-times c (λ own. ways left own * below own (left_after left own)) (groups left r.private)
    ∙ ap (λ (n : ℕ). c * n) (sym (step f left r rs p s))

-- ---- groups one after another

-- sequences of groups of these sizes, each with its ways and with what comes then
abbrev pub onward : (List ℕ → ℕ) → List ℕ → List ℕ → ℕ
onward h left [] = h left
onward h left (k ∷ ks) = total (λ g. ways left g * onward h (left_after left g) ks) (groups left k)

onward_more : (h : List ℕ → ℕ) (left xs ys : List ℕ) → onward (λ l. onward h l ys) left xs ≡ onward h left (xs ++ ys)
onward_more h left [] ys = refl
onward_more h left (k ∷ ks) ys = total-same _ _ (λ g. ap (λ (n : ℕ). ways left g * n) (onward_more h (left_after left g) ks ys)) (groups left k)

onward_same : (h i : List ℕ → ℕ) → ((l : List ℕ) → h l ≡ i l) → (left ks : List ℕ) → onward h left ks ≡ onward i left ks
onward_same h i e left [] = e left
onward_same h i e left (k ∷ ks) = total-same _ _ (λ g. ap (λ (n : ℕ). ways left g * n) (onward_same h i e (left_after left g) ks)) (groups left k)

-- the opponent's signals are as many ways beside each of them
pub onward_sum : (ks left : List ℕ) (rs : List Round) (s : Signal) (f : Signal → ℕ)
    → onward (λ l. beside_sum f l rs s) left ks ≡ draws (sum left - own_cards_of rs) ks * beside_sum f left rs s
onward_sum [] left rs s f = omega arith
onward_sum (k ∷ ks) left rs s f =
    let d = draws (sum left - own_cards_of rs - k) ks in
    total-same_every _ (λ g. d * (ways left g * beside_sum f (left_after left g) rs s)) (groups left k)
    (every-weaker (λ g. sum (left_after left g) + k ≡ sum left) _ (λ g e. one g e (onward_sum ks (left_after left g) rs s f)) (groups left k)
    (leaves_sum left k))
    ∙ total-times d (λ g. ways left g * beside_sum f (left_after left g) rs s) (groups left k)
    ∙ ap (λ (n : ℕ). d * n) (exchange rs left s k f)
    ∙ across d (choose (sum left - own_cards_of rs) k) (beside_sum f left rs s)
  where
    across : (x y z : ℕ) → x * (y * z) ≡ (y * x) * z
    across x y z = omega arith

    turn : (x y z : ℕ) → x * (y * z) ≡ y * (x * z)
    turn x y z = omega arith

    one : (g : List ℕ) → sum (left_after left g) + k ≡ sum left → onward (λ l. beside_sum f l rs s) (left_after left g) ks
        ≡ draws (sum (left_after left g) - own_cards_of rs) ks * beside_sum f (left_after left g) rs s
        → ways left g * onward (λ l. beside_sum f l rs s) (left_after left g) ks
        ≡ draws (sum left - own_cards_of rs - k) ks * (ways left g * beside_sum f (left_after left g) rs s)
    one g e i =
        let m : sum (left_after left g) - own_cards_of rs ≡ sum left - own_cards_of rs - k = omega (arith, e) in
        ap (λ (n : ℕ). ways left g * n) (i ∙ ap (λ (n : ℕ). draws n ks * beside_sum f (left_after left g) rs s) m)
        ∙ turn (ways left g) (draws (sum left - own_cards_of rs - k) ks) (beside_sum f (left_after left g) rs s)

-- what the first rounds of the opponent's signals add up to
pub first_sum : (rs qs : List Round) (left : List ℕ) (s u : Signal) (f : Signal → ℕ) → length s ≡ length rs → length u ≡ length qs
    → beside_sum (λ t. f (take (length rs) t)) left (rs ++ qs) (s ++ u) ≡ draws (sum left - own_cards_of rs) (privates qs) * beside_sum f left rs s
first_sum [] qs left [] u f e l =
    let z : sum left - 0 ≡ sum left = omega arith in
    total-same (λ (v : ℕ × Signal). v.0 * f (take 0 v.1)) (λ v. f [] * v.0) (λ v. turn v.0 (f [])) (facing left qs u)
    ∙ total-times (f []) (λ (v : ℕ × Signal). v.0) (facing left qs u)
    ∙ ap (λ (n : ℕ). f [] * n) (facing_ways qs left u l ∙ drawn (privates qs) left ∙ ap (λ (n : ℕ). draws n (privates qs)) (sym z))
    ∙ last (f []) (draws (sum left - 0) (privates qs))
  where
    turn : (x y : ℕ) → x * y ≡ y * x
    turn x y = omega arith

    last : (x y : ℕ) → x * y ≡ y * (1 * x + 0)
    last x y = omega arith
first_sum [] qs left (p ∷ s) u f e l = absurd (omega (arith, e))
first_sum (r ∷ rs) qs left [] u f e l = absurd (omega (arith, e))
first_sum (r ∷ rs) qs left (p ∷ s) u f e l =
    let below = λ (own : List ℕ). beside_sum (λ t. f (seen own p.public ∷ t)) (left_after left own) rs s in
    let d = draws (sum left - (r.private + own_cards_of rs)) (privates qs) in
    step (λ t. f (take (length (r ∷ rs)) t)) left r (rs ++ qs) p (s ++ u)
    ∙ total-same_every _ (λ own. d * (ways left own * below own)) (groups left r.private)
    (every-weaker (λ own. sum (left_after left own) + r.private ≡ sum left) _
    (λ own h. one own (below own) h (first_sum rs qs (left_after left own) s u (λ t. f (seen own p.public ∷ t)) (omega (arith, e)) l)) (groups left r.private)
    (leaves_sum left r.private))
    ∙ total-times d (λ own. ways left own * below own) (groups left r.private)
    ∙ ap (λ (n : ℕ). d * n) (sym (step f left r rs p s))
  where
    one : (own : List ℕ) (b : ℕ) {x : ℕ} → sum (left_after left own) + r.private ≡ sum left
        → x ≡ draws (sum (left_after left own) - own_cards_of rs) (privates qs) * b
        → ways left own * x ≡ draws (sum left - (r.private + own_cards_of rs)) (privates qs) * (ways left own * b)
    one own b h i =
        let m : sum (left_after left own) - own_cards_of rs ≡ sum left - (r.private + own_cards_of rs) = omega (arith, h) in
        ap (λ (n : ℕ). ways left own * n) (i ∙ ap (λ (n : ℕ). draws n (privates qs) * b) m)
        ∙ turn (ways left own) (draws (sum left - (r.private + own_cards_of rs)) (privates qs)) b
      where
        turn : (x y z : ℕ) → x * (y * z) ≡ y * (x * z)
        turn x y z = omega arith

-- ---- signals as first rounds and further ones

listed_total : (f : Signal → ℕ) (left : List ℕ) (r : Round) (rs : List Round)
    → total f (listed left (r ∷ rs)) ≡ total (λ own. total (λ public. total (λ t. f (seen own public ∷ t))
    (listed (left_after (left_after left own) public) rs)) (groups (left_after left own) r.public)) (groups left r.private)
listed_total f left r rs =
    let tail = λ (own public : List ℕ). map (λ t. seen own public ∷ t) (listed (left_after (left_after left own) public) rs) in
    total-flat_map f (λ own. flat_map (tail own) (groups (left_after left own) r.public)) (groups left r.private)
    ∙ total-same _ _ (λ own. total-flat_map f (tail own) (groups (left_after left own) r.public)
    ∙ total-same _ _ (λ public. total-map f (λ t. seen own public ∷ t) (listed (left_after (left_after left own) public) rs))
    (groups (left_after left own) r.public)) (groups left r.private)

listed_more : (rs qs : List Round) (left : List ℕ) (f : Signal → ℕ) → total f (listed left (rs ++ qs))
    ≡ total (λ s. total (λ u. f (s ++ u)) (listed (left_by left s) qs)) (listed left rs)
listed_more [] qs left f = omega arith
listed_more (r ∷ rs) qs left f =
    listed_total f left r (rs ++ qs)
    ∙ total-same _ _ (λ own. total-same _ _ (λ public. listed_more rs qs (left_after (left_after left own) public) (λ t. f (seen own public ∷ t)))
    (groups (left_after left own) r.public)) (groups left r.private)
    ∙ sym (listed_total (λ s. total (λ u. f (s ++ u)) (listed (left_by left s) qs)) left r rs)

listed_onward : (qs : List Round) (left : List ℕ) (h : List ℕ → ℕ) → total (λ u. path_weight left u * h (left_by left u)) (listed left qs)
    ≡ onward h left (seen_sizes qs)
listed_onward [] left h = omega arith
listed_onward (r ∷ qs) left h =
    listed_total (λ u. path_weight left u * h (left_by left u)) left r qs
    ∙ total-same _ _ (λ own.
    let l = left_after left own in
    total-same _ _ (λ public. inner (ways left own) (ways l public) (left_after l public) (listed_onward qs (left_after l public) h)) (groups l r.public)
    ∙ total-times (ways left own) (λ public. ways l public * onward h (left_after l public) (seen_sizes qs)) (groups l r.public)) (groups left r.private)
  where
    assoc : (a b x y : ℕ) → ((a * b) * x) * y ≡ (a * b) * (x * y)
    assoc a b x y = omega arith

    again : (a b x : ℕ) → (a * b) * x ≡ a * (b * x)
    again a b x = omega arith

    inner : (a b : ℕ) (l : List ℕ) → total (λ u. path_weight l u * h (left_by l u)) (listed l qs) ≡ onward h l (seen_sizes qs)
        → total (λ t. ((a * b) * path_weight l t) * h (left_by l t)) (listed l qs) ≡ a * (b * onward h l (seen_sizes qs))
    inner a b l i =
        total-same _ (λ t. (a * b) * (path_weight l t * h (left_by l t))) (λ t. assoc a b (path_weight l t) (h (left_by l t))) (listed l qs)
        ∙ total-times (a * b) (λ t. path_weight l t * h (left_by l t)) (listed l qs)
        ∙ ap (λ (n : ℕ). (a * b) * n) i
        ∙ again a b (onward h l (seen_sizes qs))

path_more : (left : List ℕ) (s u : Signal) → path_weight left (s ++ u) ≡ path_weight left s * path_weight (left_by left s) u
path_more left [] u = omega arith
path_more left (p ∷ s) u =
    let e = ap (λ (n : ℕ). edge left p * n) (path_more (left_after (left_after left p.own) p.public) s u) in
    omega (arith, e)

left_more : (left : List ℕ) (s u : Signal) → left_by left (s ++ u) ≡ left_by (left_by left s) u
left_more left [] u = refl
left_more left (p ∷ s) u = left_more (left_after (left_after left p.own) p.public) s u

front : (n : ℕ) (s u : Signal) → length s ≡ n → take n (s ++ u) ≡ s
front zero [] u e = refl
front zero (p ∷ s) u e = absurd (omega (arith, e))
front (suc n) [] u e = absurd (omega (arith, e))
front (suc n) (p ∷ s) u e = ap (λ (t : Signal). p ∷ t) (front n s u (omega (arith, e)))

-- how long a signal is, and how many cards it leaves
pub record IsShown (left : List ℕ) (rs : List Round) (s : Signal) : Type 0 where
  pub long : length s ≡ length rs
  pub leaves : sum (left_by left s) + cards_shown rs ≡ sum left

listed_shown : (rs : List Round) (left : List ℕ) → AllByRecursion (IsShown left rs) (listed left rs)
listed_shown [] left = (record { long = refl; leaves = omega arith }, tt)
listed_shown (r ∷ rs) left =
    every-flat_map (IsShown left (r ∷ rs)) (λ own. flat_map (λ public. map (λ t. seen own public ∷ t) (listed (left_after (left_after left own) public) rs))
    (groups (left_after left own) r.public))
    (λ own. sum (left_after left own) + r.private ≡ sum left)
    (λ own e.
    every-flat_map (IsShown left (r ∷ rs)) (λ public. map (λ t. seen own public ∷ t) (listed (left_after (left_after left own) public) rs))
    (λ public. sum (left_after (left_after left own) public) + r.public ≡ sum (left_after left own))
    (λ public f.
    every-map (IsShown left (r ∷ rs)) (λ t. seen own public ∷ t) (listed (left_after (left_after left own) public) rs)
    (every-weaker (IsShown (left_after (left_after left own) public) rs) _
    (λ t k. record { long = omega (arith, k.long); leaves = omega (arith, k.leaves, e, f) })
    (listed (left_after (left_after left own) public) rs) (listed_shown rs (left_after (left_after left own) public))))
    (groups (left_after left own) r.public) (leaves_sum (left_after left own) r.public))
    (groups left r.private) (leaves_sum left r.private)

-- what pairs of signals of some rounds add up to, each pair with the ways to deal it
abbrev pub pair_sum : (Signal → Signal → ℕ) → List ℕ → List Round → ℕ
pair_sum f left rs = total (λ s. path_weight left s * beside_sum (f s) (left_by left s) rs s) (listed left rs)

-- of a number of the first rounds of both signals all pairs below add up to that of the first rounds, times the ways to go on
pub going_on : (rs qs : List Round) (left : List ℕ) (f : Signal → Signal → ℕ)
    → pair_sum (λ s t. f (take (length rs) s) (take (length rs) t)) left (rs ++ qs)
    ≡ draws (sum left - cards_shown rs - own_cards_of rs) (deal_sizes qs) * pair_sum f left rs
going_on rs qs left f =
    let d = draws (sum left - cards_shown rs - own_cards_of rs) (deal_sizes qs) in
    listed_more rs qs left (λ s. path_weight left s * beside_sum (λ t. f (take (length rs) s) (take (length rs) t)) (left_by left s) (rs ++ qs) s)
    ∙ total-same_every _ (λ s. d * (path_weight left s * beside_sum (f s) (left_by left s) rs s)) (listed left rs)
    (every-weaker (IsShown left rs) _ (λ s k. first s k) (listed left rs) (listed_shown rs left))
    ∙ total-times d (λ s. path_weight left s * beside_sum (f s) (left_by left s) rs s) (listed left rs)
  where
    assoc : (a b c : ℕ) → (a * b) * c ≡ a * (b * c)
    assoc a b c = omega arith

    turn : (a b c : ℕ) → a * (b * c) ≡ b * (a * c)
    turn a b c = omega arith

    both : (s u : Signal) → length s ≡ length rs → length u ≡ length qs
        → path_weight left (s ++ u) * beside_sum (λ t. f (take (length rs) (s ++ u)) (take (length rs) t)) (left_by left (s ++ u)) (rs ++ qs) (s ++ u)
        ≡ path_weight left s * (path_weight (left_by left s) u * onward (λ l. beside_sum (f s) l rs s) (left_by (left_by left s) u) (privates qs))
    both s u ls lu =
        let l = left_by (left_by left s) u in
        ap (λ (n : ℕ). n * beside_sum (λ t. f (take (length rs) (s ++ u)) (take (length rs) t)) (left_by left (s ++ u)) (rs ++ qs) (s ++ u))
        (path_more left s u)
        ∙ ap (λ (m : List ℕ). (path_weight left s * path_weight (left_by left s) u)
        * beside_sum (λ t. f (take (length rs) (s ++ u)) (take (length rs) t)) m (rs ++ qs) (s ++ u)) (left_more left s u)
        ∙ ap (λ (x : Signal). (path_weight left s * path_weight (left_by left s) u) * beside_sum (λ t. f x (take (length rs) t)) l (rs ++ qs) (s ++ u))
        (front (length rs) s u ls)
        ∙ ap (λ (n : ℕ). (path_weight left s * path_weight (left_by left s) u) * n) (first_sum rs qs l s u (f s) ls lu
        ∙ sym (onward_sum (privates qs) l rs s (f s)))
        ∙ assoc (path_weight left s) (path_weight (left_by left s) u) (onward (λ m. beside_sum (f s) m rs s) l (privates qs))

    first : (s : Signal) → IsShown left rs s
        → total (λ u. path_weight left (s ++ u) * beside_sum (λ t. f (take (length rs) (s ++ u)) (take (length rs) t)) (left_by left (s ++ u)) (rs ++ qs) (s
        ++ u)) (listed (left_by left s) qs)
        ≡ draws (sum left - cards_shown rs - own_cards_of rs) (deal_sizes qs) * (path_weight left s * beside_sum (f s) (left_by left s) rs s)
    first s k =
        let l = left_by left s in
        let h = λ (m : List ℕ). onward (λ m. beside_sum (f s) m rs s) m (privates qs) in
        let e : sum l - own_cards_of rs ≡ sum left - cards_shown rs - own_cards_of rs = omega (arith, k.leaves) in
        total-same_every _ (λ u. path_weight left s * (path_weight l u * h (left_by l u))) (listed l qs)
        (every-weaker (IsShown l qs) _ (λ u i. both s u k.long i.long) (listed l qs) (listed_shown qs l))
        ∙ total-times (path_weight left s) (λ u. path_weight l u * h (left_by l u)) (listed l qs)
        ∙ ap (λ (n : ℕ). path_weight left s * n) (listed_onward qs l h ∙ onward_more (λ m. beside_sum (f s) m rs s) l (seen_sizes qs) (privates qs)
        ∙ onward_sum (deal_sizes qs) l rs s (f s)
        ∙ ap (λ (n : ℕ). draws n (deal_sizes qs) * beside_sum (f s) l rs s) e)
        ∙ turn (path_weight left s) (draws (sum left - cards_shown rs - own_cards_of rs) (deal_sizes qs)) (beside_sum (f s) l rs s)
