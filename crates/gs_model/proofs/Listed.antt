-- The last-round signals by recursion from the first round, in order; a group stands once in a list of groups.
use Rattle.std.proofs.Common.{◌≡◌, ◌≢◌, ℕ, zero, suc, ◌+◌, ◌-◌, ◌<◌, ◌≤◌, List, [], ◌∷◌, ◌++◌, length, map, get_or, refl, sym, ap, ◌∙◌, subst, arith}
use Rattle.std.proofs.Common.{append_assoc, append-nil, Bool, true, false, cond, eqb, ⊎_elim, slice_set, slice_index, nat_lt}
use Rattle.std.proofs.{lemmas.Bool.{cases_eq, cases_lt}, lemmas.Bool.Decides.{Decides-eqb}, lemmas.Grind.{flat_map-append}, lemmas.List.Folds.{flat_map-map}}
use Rattle.std.specs.{Prelude.{flat_map, filter, ◌&&◌, ◌==◌, count_by}, List.{range_with_len, AllByRecursion}}
use Rattle.gs_model.specs.{Cards.{groups, groups_above, groups_with, ways, left_after, left_from}, Deals.{same_cards}}
use Rattle.gs_model.specs.{Game.{Game, Round, round_at, round_count}, Signals.{Signal, Seen, signals, children, showings, edge, left_by}}
use Rattle.gs_model.proofs.Exchanged.{and_both, filter-flat_map, map-flat_map}
use Rattle.gs_model.proofs.{Fits.{fits_from, fits-ways, fits-one, fits-none, length-set, pred_of, none_filter, map-same_filter}, Ranges.{every-flat_map}}
use Rattle.gs_model.proofs.Basics.{map-map, map-same, flat_map-same, every-range, every-map, every-weaker}

-- ---- lists

pub flat_map-filter : {X Y : Type 0} (b : X → Bool) (h : X → List Y) (xs : List X) → flat_map (λ x. cond (b x) (h x) []) xs ≡ flat_map h (filter b xs)
flat_map-filter b h [] = refl
flat_map-filter b h (x ∷ xs) = go (b x) (flat_map-filter b h xs)
  where
    go : (t : Bool) → flat_map (λ x. cond (b x) (h x) []) xs ≡ flat_map h (filter b xs)
        → cond t (h x) [] ++ flat_map (λ x. cond (b x) (h x) []) xs ≡ flat_map h (cond t (x ∷ filter b xs) (filter b xs))
    go true e = ap (λ l. h x ++ l) e
    go false e = e

flat_map-nested : {X Y Z : Type 0} (f : Y → List Z) (g : X → List Y) (xs : List X) → flat_map f (flat_map g xs) ≡ flat_map (λ x. flat_map f (g x)) xs
flat_map-nested f g [] = refl
flat_map-nested f g (x ∷ xs) = flat_map-append f (g x) (flat_map g xs) ∙ ap (λ l. flat_map f (g x) ++ l) (flat_map-nested f g xs)

pub filter-map_of : {X Y : Type 0} (p : Y → Bool) (q : X → Bool) (f : X → Y) → ((x : X) → p (f x) ≡ q x) → (xs : List X)
    → filter p (map f xs) ≡ map f (filter q xs)
filter-map_of p q f h [] = refl
filter-map_of p q f h (x ∷ xs) = ap (λ b. cond b (f x ∷ filter p (map f xs)) (filter p (map f xs))) (h x) ∙ go (q x) (filter-map_of p q f h xs)
  where
    go : (t : Bool) → filter p (map f xs) ≡ map f (filter q xs) → cond t (f x ∷ filter p (map f xs)) (filter p (map f xs))
        ≡ map f (cond t (x ∷ filter q xs) (filter q xs))
    go true e = ap (λ l. f x ∷ l) e
    go false e = e

pub filter-map_none : {X Y : Type 0} (p : Y → Bool) (f : X → Y) → ((x : X) → p (f x) ≡ false) → (xs : List X) → filter p (map f xs) ≡ []
filter-map_none p f h [] = refl
filter-map_none p f h (x ∷ xs) = ap (λ b. cond b (f x ∷ filter p (map f xs)) (filter p (map f xs))) (h x) ∙ filter-map_none p f h xs

pub filter-alike : {X : Type 0} (p q : X → Bool) → ((x : X) → p x ≡ q x) → (xs : List X) → filter p xs ≡ filter q xs
filter-alike p q h [] = refl
filter-alike p q h (x ∷ xs) = ap (λ b. cond b (x ∷ filter p xs) (filter p xs)) (h x) ∙ ap (λ l. cond (q x) (x ∷ l) l) (filter-alike p q h xs)

pub flat_map-nothing : {X Y : Type 0} (f : X → List Y) → ((x : X) → f x ≡ []) → (xs : List X) → flat_map f xs ≡ []
flat_map-nothing f h [] = refl
flat_map-nothing f h (x ∷ xs) = ap (λ l. l ++ flat_map f xs) (h x) ∙ flat_map-nothing f h xs

pub flat_map-one : {X Y : Type 0} (f : X → Y) (xs : List X) → flat_map (λ x. f x ∷ []) xs ≡ map f xs
flat_map-one f [] = refl
flat_map-one f (x ∷ xs) = ap (λ l. f x ∷ l) (flat_map-one f xs)

range-none : {X : Type 0} (f : ℕ → List X) (a n : ℕ) → ((k : ℕ) → a ≤ k → f k ≡ []) → flat_map f (range_with_len a n) ≡ []
range-none f a zero h = refl
range-none f a (suc n) h = ap (λ l. l ++ flat_map f (range_with_len (a + 1) n)) (h a (omega arith)) ∙ range-none f (a + 1) n (λ k l. h k (omega arith))

range-pick : {X : Type 0} (f : ℕ → List X) (a n c : ℕ) → a ≤ c → c < a + n → ((k : ℕ) → k ≢ c → f k ≡ []) → flat_map f (range_with_len a n) ≡ f c
range-pick f a zero c lo hi h = absurd (omega arith)
range-pick f a (suc n) c lo hi h = ⊎_elim
    (λ e. ap (λ k. f k ++ flat_map f (range_with_len (a + 1) n)) e ∙ ap (λ l. f c
    ++ l) (range-none f (a + 1) n (λ k l. h k (λ q. absurd (omega (arith, q, e))))) ∙ append-nil (f c))
    (λ ne. ap (λ l. l ++ flat_map f (range_with_len (a + 1) n)) (h a ne) ∙ range-pick f (a + 1) n c (omega (arith, ne)) (omega arith) h)
    (cases_eq a c)

-- ---- a group stands once in a list of groups

-- a group of a size: ascending cards from `least` on, below a bound
abbrev pub IsRow : ℕ → ℕ → ℕ → List ℕ → Type 0
IsRow zero bound least [] = Unit {0}
IsRow zero bound least (c ∷ h) = ⊥
IsRow (suc size) bound least [] = ⊥
IsRow (suc size) bound least (c ∷ h) = (least ≤ c) × (c < bound) × IsRow size bound c h

pub rows-listed : (size : ℕ) (left : List ℕ) (least : ℕ) → AllByRecursion (IsRow size (length left) least) (groups_above size left least)
rows-listed zero left least = (tt, tt)
rows-listed (suc size) left least =
    every-flat_map (IsRow (suc size) (length left) least) (groups_with (groups_above size) left) (λ k. (least ≤ k) × (k < length left))
    (λ k h. one k h.0 h.1 (rows-listed size (slice_set left k (slice_index left k - 1)) k) (nat_lt 0 (slice_index left k)))
    (range_with_len least (length left - least)) (every-range (λ k. (least ≤ k)
    × (k < length left)) least (length left - least) (λ k lo hi. (lo, omega arith)))
  where
    one : (k : ℕ) → least ≤ k → k < length left → AllByRecursion (IsRow size (length (slice_set left k (slice_index left k - 1))) k)
        (groups_above size (slice_set left k (slice_index left k - 1)) k) → (t : Bool)
        → AllByRecursion (IsRow (suc size) (length left) least) (cond t
        (map (λ g. k ∷ g) (groups_above size (slice_set left k (slice_index left k - 1)) k)) [])
    one k lo hi rows true =
        let rest = slice_set left k (slice_index left k - 1) in
        every-map (IsRow (suc size) (length left) least) (λ g. k ∷ g) (groups_above size rest k)
        (every-weaker (IsRow size (length rest) k) (λ g. IsRow (suc size) (length left) least (k ∷ g))
        (λ g r. (lo, hi, subst (λ n. IsRow size n k g) (length-set left k (slice_index left k - 1)) r)) (groups_above size rest k) rows)
    one k lo hi rows false = tt

pub once : (size : ℕ) (left : List ℕ) (least : ℕ) (h : List ℕ) → IsRow size (length left) least h → fits_from 0 left h ≡ true
    → filter (same_cards h) (groups_above size left least) ≡ h ∷ []
once zero left least [] r f = refl
once zero left least (c ∷ h) r f = absurd r
once (suc size) left least [] r f = absurd r
once (suc size) left least (c ∷ h) r f =
    filter-flat_map (same_cards (c ∷ h)) (groups_with (groups_above size) left) (range_with_len least (length left - least))
    ∙ range-pick (λ k. filter (same_cards (c ∷ h)) (groups_with (groups_above size) left k)) least (length left - least) c r.0 (let a = r.0 in let b = r.1 in
    omega arith) (λ k n. other k n (nat_lt 0 (slice_index left k)) (groups_above size (slice_set left k (slice_index left k - 1)) k))
    ∙ here (once size (slice_set left c (get_or left c 0 - 1)) c h (subst (λ n. IsRow size n c h) (sym (length-set left c (get_or left c 0 - 1))) r.2))
  where
    other : (k : ℕ) → k ≢ c → (t : Bool) (gs : List (List ℕ)) → filter (same_cards (c ∷ h)) (cond t (map (λ g. k ∷ g) gs) []) ≡ []
    other k n true gs =
        let e : eqb c k ≡ false = grind (arith, n) in
        none_filter (same_cards (c ∷ h)) k (λ g. ap (λ b. b && same_cards h g) e) gs
    other k n false gs = refl

    here : (fits_from 0 (slice_set left c (get_or left c 0 - 1)) h ≡ true
        → filter (same_cards h) (groups_above size (slice_set left c (get_or left c 0 - 1)) c) ≡ h ∷ [])
        → filter (same_cards (c ∷ h)) (groups_with (groups_above size) left c) ≡ (c ∷ h) ∷ []
    here rest =
        let z : 0 + c ≡ c = omega arith in
        let v = get_or left c 0 - 1 in
        ⊎_elim
        (λ some.
        let a : nat_lt 0 (get_or left c 0) ≡ true = grind (arith, some) in
        let g : fits_from 0 left (c ∷ h) ≡ fits_from 0 (slice_set left c v) h =
        ap (λ x. fits_from 0 left (x ∷ h)) (sym z) ∙ fits-one 0 c v left h r.1 (pred_of (get_or left c 0) some) in
        ap (λ t. filter (same_cards (c ∷ h)) (cond t (map (λ g. c ∷ g) (groups_above size (slice_set left c v) c)) [])) a
        ∙ map-same_filter (same_cards (c ∷ h)) (same_cards h) c (λ g. ap (λ b. b && same_cards h g) ((Decides-eqb c c).1 refl))
        (groups_above size (slice_set left c v) c)
        ∙ ap (map (λ g. c ∷ g)) (rest (sym g ∙ f)))
        (λ none.
        let e : get_or left c 0 ≡ 0 = omega arith in
        let n : fits_from 0 left (c ∷ h) ≡ false = ap (λ x. fits_from 0 left (x ∷ h)) (sym z) ∙ fits-none 0 c left h r.1 e in
        let w : true ≡ false = sym f ∙ n in cc)
        (cases_lt 0 (get_or left c 0))

-- ---- counts

abbrev pub times : ℕ → List ℕ → ℕ
times k g = count_by (λ x. x == k) g

get-after : (kind : ℕ) (left g : List ℕ) (k : ℕ) → get_or (left_from kind left g) k 0 ≡ get_or left k 0 - times (kind + k) g
get-after kind [] g k = omega arith
get-after kind (c ∷ cs) g zero = let e : kind + zero ≡ kind = omega arith in ap (λ m. c - times m g) (sym e)
get-after kind (c ∷ cs) g (suc k) = let e : suc kind + k ≡ kind + suc k = omega arith in get-after (suc kind) cs g k ∙ ap (λ m. get_or cs k 0 - times m g) e

pub left_at : (left g : List ℕ) (k : ℕ) → get_or (left_after left g) k 0 ≡ get_or left k 0 - times k g
left_at left g k = let e : 0 + k ≡ k = omega arith in get-after 0 left g k ∙ ap (λ m. get_or left k 0 - times m g) e

length-from : (kind : ℕ) (left g : List ℕ) → length (left_from kind left g) ≡ length left
length-from kind [] g = refl
length-from kind (c ∷ cs) g = ap suc (length-from (suc kind) cs g)

pub length-after : (left g : List ℕ) → length (left_after left g) ≡ length left
length-after left g = length-from 0 left g

fits-counts : (kind : ℕ) (left g : List ℕ) → fits_from kind left g ≡ true → (k : ℕ) → k < length left → times (kind + k) g ≤ get_or left k 0
fits-counts kind [] g f k l = absurd (omega arith)
fits-counts kind (c ∷ cs) g f zero l =
    let a = (and_both (nat_lt (times kind g) (suc c)) (fits_from (suc kind) cs g) f).0 in
    let e : kind + zero ≡ kind = omega arith in
    let b : times kind g ≤ c = grind (arith, a) in
    subst (λ m. times m g ≤ c) (sym e) b
fits-counts kind (c ∷ cs) g f (suc k) l =
    let a = (and_both (nat_lt (times kind g) (suc c)) (fits_from (suc kind) cs g) f).1 in
    let e : suc kind + k ≡ kind + suc k = omega arith in
    subst (λ m. times m g ≤ get_or cs k 0) e (fits-counts (suc kind) cs g a k (omega arith))

counts-fit : (kind : ℕ) (left g : List ℕ) → ((k : ℕ) → k < length left → times (kind + k) g ≤ get_or left k 0) → fits_from kind left g ≡ true
counts-fit kind [] g h = refl
counts-fit kind (c ∷ cs) g h =
    let e : kind + zero ≡ kind = omega arith in
    let a : times kind g ≤ c = subst (λ m. times m g ≤ c) e (h zero (omega arith)) in
    let b : nat_lt (times kind g) (suc c) ≡ true = grind (arith, a) in
    ap (λ t. t && fits_from (suc kind) cs g) b ∙ counts-fit (suc kind) cs g (λ k l. let s : kind + suc k ≡ suc kind + k = omega arith in
    subst (λ m. times m g ≤ get_or cs k 0) s (h (suc k) (omega arith)))

pub taken-counts : (left g : List ℕ) → nat_lt 0 (ways left g) ≡ true → (k : ℕ) → k < length left → times k g ≤ get_or left k 0
taken-counts left g e k l = let z : 0 + k ≡ k = omega arith in subst (λ m. times m g
    ≤ get_or left k 0) z (fits-counts 0 left g (sym (fits-ways 0 left g) ∙ e) k l)

pub counts-fit_all : (left g : List ℕ) → ((k : ℕ) → k < length left → times k g ≤ get_or left k 0) → fits_from 0 left g ≡ true
counts-fit_all left g h = counts-fit 0 left g (λ k l. let z : k ≡ 0 + k = omega arith in subst (λ m. times m g ≤ get_or left k 0) z (h k l))

-- ---- the last-round signals by recursion from the first round

abbrev pub seen : List ℕ → List ℕ → Seen
seen own public = record { own = own; public = public }

abbrev pub listed : List ℕ → List Round → List Signal
listed left [] = [] ∷ []
listed left (r ∷ rs) =
    flat_map (λ own. flat_map (λ public. map (λ t. seen own public ∷ t) (listed (left_after (left_after left own) public) rs))
    (groups (left_after left own) r.public)) (groups left r.private)

listed-showings : (left : List ℕ) (r : Round) (rs : List Round) → listed left (r ∷ rs)
    ≡ flat_map (λ p. map (λ t. p ∷ t) (listed (left_after (left_after left p.own) p.public) rs)) (showings left r)
listed-showings left r rs =
    let q = λ (p : Seen). map (λ t. p ∷ t) (listed (left_after (left_after left p.own) p.public) rs) in
    sym (flat_map-nested q (λ own. map (λ public. seen own public) (groups (left_after left own) r.public)) (groups left r.private)
    ∙ flat_map-same (λ own. flat_map q (map (λ public. seen own public) (groups (left_after left own) r.public)))
    (λ own. flat_map (λ public. q (seen own public)) (groups (left_after left own) r.public))
    (λ own. flat_map-map q (λ public. seen own public) (groups (left_after left own) r.public)) (groups left r.private))

pub left_by-push : (left : List ℕ) (s : Signal) (p : Seen) → left_by left (s ++ p ∷ []) ≡ left_after (left_after (left_by left s) p.own) p.public
left_by-push left [] p = refl
left_by-push left (q ∷ s) p = left_by-push (left_after (left_after left q.own) q.public) s p

ends-none : (xs : List Signal) → flat_map (λ s. map (λ t. s ++ t) ([] ∷ [])) xs ≡ xs
ends-none [] = refl
ends-none (s ∷ xs) = let a : s ++ [] ≡ s = append-nil s in cc (a, ends-none xs)

-- one more round behind a signal
one_more : (copies : List ℕ) (r : Round) (rs : List Round) (s : Signal)
    → map (λ t. s ++ t) (listed (left_by copies s) (r ∷ rs)) ≡ flat_map (λ s. map (λ t. s ++ t) (listed (left_by copies s) rs))
    (map (λ (c : ℕ × Signal). c.1) (map (λ p. (edge (left_by copies s) p, s ++ p ∷ [])) (showings (left_by copies s) r)))
one_more copies r rs s =
    let k = λ (s : Signal). map (λ t. s ++ t) (listed (left_by copies s) rs) in
    let snd = λ (c : ℕ × Signal). c.1 in
    let child = λ (p : Seen). let c : ℕ × Signal = (edge (left_by copies s) p, s ++ p ∷ []) in c in
    let ps = showings (left_by copies s) r in
    let inner = λ (p : Seen). map (λ t. p ∷ t) (listed (left_after (left_after (left_by copies s) p.own) p.public) rs) in
    ap (map (λ t. s ++ t)) (listed-showings (left_by copies s) r rs)
    ∙ map-flat_map (λ t. s ++ t) inner ps
    ∙ flat_map-same (λ p. map (λ t. s ++ t) (inner p)) (λ p. k (s ++ p ∷ []))
    (λ p. map-map (λ t. s ++ t) (λ t. p ∷ t) (listed (left_after (left_after (left_by copies s) p.own) p.public) rs)
    ∙ map-same (λ t. s ++ (p ∷ t)) (λ t. (s ++ p ∷ []) ++ t) (λ t. sym (append_assoc s (p ∷ []) t))
    (listed (left_after (left_after (left_by copies s) p.own) p.public) rs)
    ∙ ap (λ l. map (λ t. (s ++ p ∷ []) ++ t) (listed l rs)) (sym (left_by-push copies s p))) ps
    ∙ sym (flat_map-map k snd (map child ps) ∙ flat_map-map (λ (c : ℕ × Signal). k c.1) child ps)

pub signals-listed : (g : Game) (rest : List Round) (k m : ℕ) (d : Round) → k + length rest ≡ m
    → ((j : ℕ) → j < length rest → get_or rest j d ≡ round_at g (suc (k + j)))
    → flat_map (λ s. map (λ t. s ++ t) (listed (left_by g.copies s) rest)) (signals g k) ≡ signals g m
signals-listed g [] k m d e h = let i : k ≡ m = omega arith in ends-none (signals g k) ∙ ap (signals g) i
signals-listed g (r ∷ rs) k m d e h =
    let z : k + 0 ≡ k = omega arith in
    let here : r ≡ round_at g (suc k) = h 0 (omega arith) ∙ ap (λ j. round_at g (suc j)) z in
    let f = λ (s : Signal). map (λ t. s ++ t) (listed (left_by g.copies s) rs) in
    let next = λ (s : Signal). map (λ (c : ℕ × Signal). c.1) (children g (round_at g (suc k)) s) in
    flat_map-same (λ s. map (λ t. s ++ t) (listed (left_by g.copies s) (r ∷ rs))) (λ s. flat_map f (next s))
    (λ s. one_more g.copies r rs s ∙ ap (λ r. flat_map f (map (λ (c : ℕ × Signal). c.1) (children g r s))) here) (signals g k)
    ∙ sym (flat_map-nested f next (signals g k))
    ∙ signals-listed g rs (suc k) m d (omega arith) (λ j l. let i : k + suc j ≡ suc k + j = omega arith in
    h (suc j) (omega arith) ∙ ap (λ j. round_at g (suc j)) i)

pub map-itself : (xs : List Signal) → map (λ t. [] ++ t) xs ≡ xs
map-itself [] = refl
map-itself (x ∷ xs) = ap (λ l. x ∷ l) (map-itself xs)

pub listed-all : (g : Game) → listed g.copies g.rounds ≡ signals g (round_count g)
listed-all g =
    let d : Round = round_at g 0 in
    sym (append-nil (map (λ t. [] ++ t) (listed g.copies g.rounds)) ∙ map-itself (listed g.copies g.rounds))
    ∙ signals-listed g g.rounds 0 (round_count g) (record {
      private = 0;
      public = 0;
      tree = Rattle.gs_model.specs.Betting.even;
    }) (omega arith) (λ j l. let i : j ≡ suc (0 + j) - 1 = omega arith in
    ap (λ j. get_or g.rounds j (record { private = 0; public = 0; tree = Rattle.gs_model.specs.Betting.even })) i)
