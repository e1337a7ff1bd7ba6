-- The signals that can be dealt beside a last-round signal are those that no deal rules out.
use Rattle.std.proofs.Common.{◌≡◌, ℕ, zero, suc, ◌+◌, ◌*◌, ◌<◌, ◌≤◌, List, [], ◌∷◌, length, map, get_or, refl, sym, ap, ◌∙◌, subst, arith, append-nil, Bool}
use Rattle.std.proofs.{Common.{true, false, cond, ⊎_elim, nat_lt}, lemmas.Bool.{cases_lt}, lemmas.List.Elements.{All-from_recursion}}
use Rattle.std.specs.{Prelude.{flat_map, filter, ◌&&◌}, List.{AllByRecursion}}
use Rattle.gs_model.specs.{Cards.{groups, ways, left_after}, Deals.{deal_weight, path_weight, own_ways, same_cards, same_public}}
use Rattle.gs_model.specs.{Game.{Game, Round, round_count}, Signals.{Signal, Seen, signals, signal_at, edge, left_by}, ViewTree.{facing}}
use Rattle.gs_model.proofs.{Exchanged.{filter-flat_map, map-flat_map}, Fits.{fits_from, some-times, groups_of_fewer, groups_taken}, Ranges.{every-flat_map}}
use Rattle.gs_model.proofs.Listed.{IsRow, counts-fit_all, filter-alike, filter-map_none, filter-map_of, flat_map-filter, flat_map-nothing, left_at}
use Rattle.gs_model.proofs.Listed.{length-after, listed, listed-all, once, rows-listed, seen, taken-counts, times}
use Rattle.gs_model.proofs.Basics.{map-map, flat_map-same, every-both, every-map, every-weaker, product_positive, factors_positive}

-- ---- the opponent's signals beside a signal are those that no deal rules out

abbrev beside : List ℕ → Signal → Signal → Bool
beside left s t = same_public s t && nat_lt 0 (own_ways left t)

abbrev HasRows : ℕ → List Round → Signal → Type 0
HasRows bound [] [] = Unit {0}
HasRows bound [] (p ∷ s) = ⊥
HasRows bound (r ∷ rs) [] = ⊥
HasRows bound (r ∷ rs) (p ∷ s) = IsRow r.public bound 0 p.public × HasRows bound rs s

-- the public cards of a kind
abbrev publics : ℕ → Signal → ℕ
publics k [] = 0
publics k (p ∷ s) = times k p.public + publics k s

-- the public groups still to come can be taken besides
record IsRoom (fewer more : List ℕ) (s : Signal) : Type 0 where
  pub lengths : length fewer ≡ length more
  pub each : (k : ℕ) → k < length more → get_or fewer k 0 + publics k s ≤ get_or more k 0

get-past : (xs : List ℕ) (k : ℕ) → length xs ≤ k → get_or xs k 0 ≡ 0
get-past [] k l = refl
get-past (x ∷ xs) zero l = absurd (omega arith)
get-past (x ∷ xs) (suc k) l = get-past xs k (omega arith)

room-less : (fewer more : List ℕ) (s : Signal) → IsRoom fewer more s → (k : ℕ) → get_or fewer k 0 ≤ get_or more k 0
room-less fewer more s room k = ⊎_elim
    (λ within. let a = room.each k within in omega arith)
    (λ past. let e = room.lengths in let a = get-past fewer k (omega arith) in omega arith)
    (cases_lt k (length more))

and_four : (a b c d : Bool) → ((a && b) && (c && d)) ≡ (a && (c && (b && d)))
and_four true true true true = refl
and_four true true true false = refl
and_four true true false true = refl
and_four true true false false = refl
and_four true false true true = refl
and_four true false true false = refl
and_four true false false true = refl
and_four true false false false = refl
and_four false true true true = refl
and_four false true true false = refl
and_four false true false true = refl
and_four false true false false = refl
and_four false false true true = refl
and_four false false true false = refl
and_four false false false true = refl
and_four false false false false = refl

and_none : (a : Bool) → (a && false) ≡ false
and_none true = refl
and_none false = refl

pub no_and : (b : Bool) → (false && b) ≡ false
no_and true = refl
no_and false = refl

beside-part : (left : List ℕ) (p : Seen) (s : Signal) (own public : List ℕ) (t : Signal)
    → beside left (p ∷ s) (seen own public ∷ t) ≡ (same_cards p.public public && (nat_lt 0 (ways left own) && beside (left_after left own) s t))
beside-part left p s own public t =
    ap (λ b. (same_cards p.public public && same_public s t) && b) (some-times (ways left own) (own_ways (left_after left own) t))
    ∙ and_four (same_cards p.public public) (same_public s t) (nat_lt 0 (ways left own)) (nat_lt 0 (own_ways (left_after left own) t))

-- the signals that begin with one own group
abbrev pub begun : List ℕ → Round → List Round → List ℕ → List Signal
begun more r rs own = flat_map (λ public. map (λ t. seen own public ∷ t) (listed (left_after (left_after more own) public) rs))
    (groups (left_after more own) r.public)

room-next : (fewer more : List ℕ) (p : Seen) (s : Signal) (own : List ℕ) → nat_lt 0 (ways fewer own) ≡ true → IsRoom fewer more (p ∷ s)
    → IsRoom (left_after fewer own) (left_after (left_after more own) p.public) s
room-next fewer more p s own e room =
    let l = length-after fewer own in let m = length-after (left_after more own) p.public in let n = length-after more own in let q = room.lengths in
    record {
      lengths = omega arith;
      each = λ k lt.
          let a = room.each k (omega arith) in let b = taken-counts fewer own e k (omega arith) in
          let c = left_at fewer own k in let d = left_at (left_after more own) p.public k in let f = left_at more own k in
          omega arith;
    }

room-public : (fewer more : List ℕ) (p : Seen) (s : Signal) (own : List ℕ) → nat_lt 0 (ways fewer own) ≡ true → IsRoom fewer more (p ∷ s)
    → fits_from 0 (left_after more own) p.public ≡ true
room-public fewer more p s own e room =
    let n = length-after more own in let q = room.lengths in
    counts-fit_all (left_after more own) p.public (λ k lt. let a = room.each k (omega arith) in let b = taken-counts fewer own e k (omega arith) in
    let f = left_at more own k in omega arith)

one-own : (r : Round) (rs : List Round) (fewer more : List ℕ) (p : Seen) (s : Signal) (own : List ℕ) → IsRow r.public (length more) 0 p.public
    → IsRoom fewer more (p ∷ s)
    → (IsRoom (left_after fewer own) (left_after (left_after more own) p.public) s
    → filter (beside (left_after fewer own) s) (listed (left_after (left_after more own) p.public) rs)
    ≡ map (λ (w : ℕ × Signal). w.1) (facing (left_after fewer own) rs s))
    → filter (beside fewer (p ∷ s)) (begun more r rs own) ≡ cond (nat_lt 0 (ways fewer own))
    (map (λ t. seen own p.public ∷ t) (map (λ (w : ℕ × Signal). w.1) (facing (left_after fewer own) rs s))) []
one-own r rs fewer more p s own row room rest = go (nat_lt 0 (ways fewer own)) refl
  where
    go : (t : Bool) → nat_lt 0 (ways fewer own) ≡ t → filter (beside fewer (p ∷ s)) (begun more r rs own)
        ≡ cond t (map (λ t. seen own p.public ∷ t) (map (λ (w : ℕ × Signal). w.1) (facing (left_after fewer own) rs s))) []
    go false e =
        let f = λ (public : List ℕ). map (λ t. seen own public ∷ t) (listed (left_after (left_after more own) public) rs) in
        filter-flat_map (beside fewer (p ∷ s)) f (groups (left_after more own) r.public)
        ∙ flat_map-nothing (λ public. filter (beside fewer (p ∷ s)) (f public))
        (λ public. filter-map_none (beside fewer (p ∷ s)) (λ t. seen own public ∷ t)
        (λ t. beside-part fewer p s own public t ∙ ap (λ b. same_cards p.public public && (b && beside (left_after fewer own) s t)) e
        ∙ ap (λ b. same_cards p.public public && b) (no_and (beside (left_after fewer own) s t)) ∙ and_none (same_cards p.public public))
        (listed (left_after (left_after more own) public) rs)) (groups (left_after more own) r.public)
    go true e =
        let f = λ (public : List ℕ). map (λ t. seen own public ∷ t) (listed (left_after (left_after more own) public) rs) in
        let h = λ (public : List ℕ). map (λ t. seen own public ∷ t) (filter (beside (left_after fewer own) s)
        (listed (left_after (left_after more own) public) rs)) in
        let n : length more ≡ length (left_after more own) = sym (length-after more own) in
        filter-flat_map (beside fewer (p ∷ s)) f (groups (left_after more own) r.public)
        ∙ flat_map-same (λ public. filter (beside fewer (p ∷ s)) (f public)) (λ public. cond (same_cards p.public public) (h public) [])
        (λ public. inner public (same_cards p.public public) refl) (groups (left_after more own) r.public)
        ∙ flat_map-filter (same_cards p.public) h (groups (left_after more own) r.public)
        ∙ ap (flat_map h) (once r.public (left_after more own) 0 p.public (subst (λ m. IsRow r.public m 0 p.public) n row)
        (room-public fewer more p s own e room))
        ∙ append-nil (h p.public)
        ∙ ap (map (λ t. seen own p.public ∷ t)) (rest (room-next fewer more p s own e room))
      where
        inner : (public : List ℕ) (b : Bool) → same_cards p.public public ≡ b
            → filter (beside fewer (p ∷ s)) (map (λ t. seen own public ∷ t) (listed (left_after (left_after more own) public) rs))
            ≡ cond b (map (λ t. seen own public ∷ t) (filter (beside (left_after fewer own) s) (listed (left_after (left_after more own) public) rs))) []
        inner public true i = filter-map_of (beside fewer (p ∷ s)) (beside (left_after fewer own) s) (λ t. seen own public ∷ t)
            (λ t. beside-part fewer p s own public t ∙ ap (λ b. b && (nat_lt 0 (ways fewer own) && beside (left_after fewer own) s t)) i
            ∙ ap (λ b. b && beside (left_after fewer own) s t) e)
            (listed (left_after (left_after more own) public) rs)
        inner public false i = filter-map_none (beside fewer (p ∷ s)) (λ t. seen own public ∷ t)
            (λ t. beside-part fewer p s own public t ∙ ap (λ b. b && (nat_lt 0 (ways fewer own) && beside (left_after fewer own) s t)) i
            ∙ no_and (nat_lt 0 (ways fewer own) && beside (left_after fewer own) s t))
            (listed (left_after (left_after more own) public) rs)

facing-whole : (rs : List Round) (fewer more : List ℕ) (s : Signal) → HasRows (length more) rs s → IsRoom fewer more s
    → filter (beside fewer s) (listed more rs) ≡ map (λ (w : ℕ × Signal). w.1) (facing fewer rs s)
facing-whole [] fewer more [] h room = refl
facing-whole [] fewer more (p ∷ s) h room = absurd h
facing-whole (r ∷ rs) fewer more [] h room = absurd h
facing-whole (r ∷ rs) fewer more (p ∷ s) h room =
    let snd = λ (w : ℕ × Signal). w.1 in
    let longer = λ (own : List ℕ) (w : ℕ × Signal). let v : ℕ × Signal = (ways fewer own * w.0, record { own = own; public = p.public } ∷ w.1) in v in
    let out = λ (own : List ℕ). map (λ t. seen own p.public ∷ t) (map snd (facing (left_after fewer own) rs s)) in
    filter-flat_map (beside fewer (p ∷ s)) (begun more r rs) (groups more r.private)
    ∙ flat_map-same (λ own. filter (beside fewer (p ∷ s)) (begun more r rs own)) (λ own. cond (nat_lt 0 (ways fewer own)) (out own) [])
    (λ own. one-own r rs fewer more p s own h.0 room
    (facing-whole rs (left_after fewer own) (left_after (left_after more own) p.public) s
    (subst (λ n. HasRows n rs s) (sym (length-after (left_after more own) p.public ∙ length-after more own)) h.1))) (groups more r.private)
    ∙ flat_map-filter (λ own. nat_lt 0 (ways fewer own)) out (groups more r.private)
    ∙ ap (flat_map out) (groups_of_fewer fewer more r.private room.lengths (room-less fewer more (p ∷ s) room))
    ∙ flat_map-same out (λ own. map snd (map (longer own) (facing (left_after fewer own) rs s)))
    (λ own. map-map (λ t. seen own p.public ∷ t) snd (facing (left_after fewer own) rs s)
    ∙ sym (map-map snd (longer own) (facing (left_after fewer own) rs s))) (groups fewer r.private)
    ∙ sym (map-flat_map snd (λ own. map (longer own) (facing (left_after fewer own) rs s)) (groups fewer r.private))

-- ---- what is known of a last-round signal

pub record IsListed (bound : ℕ) (left : List ℕ) (rs : List Round) (s : Signal) : Type 0 where
  pub rows : HasRows bound rs s
  pub weighs : 0 < path_weight left s

listed-known : (rs : List Round) (bound : ℕ) (left : List ℕ) → length left ≡ bound → AllByRecursion (IsListed bound left rs) (listed left rs)
listed-known [] bound left e = (record { rows = tt; weighs = omega arith }, tt)
listed-known (r ∷ rs) bound left e =
    every-flat_map (IsListed bound left (r ∷ rs)) (begun left r rs) (λ own. 0 < ways left own)
    (λ own taken.
    let l = left_after left own in
    let n : length l ≡ bound = length-after left own ∙ e in
    every-flat_map (IsListed bound left (r ∷ rs)) (λ public. map (λ t. seen own public ∷ t) (listed (left_after l public) rs)) (λ public. (0 < ways l public)
    × IsRow r.public (length l) 0 public)
    (λ public known.
    every-map (IsListed bound left (r ∷ rs)) (λ t. seen own public ∷ t) (listed (left_after l public) rs)
    (every-weaker (IsListed bound (left_after l public) rs) (λ t. IsListed bound left (r ∷ rs) (seen own public ∷ t))
    (λ t k. record {
      rows = (subst (λ m. IsRow r.public m 0 public) n known.1, k.rows);
      weighs = product_positive (ways left own * ways l public) (path_weight (left_after l public) t)
          (product_positive (ways left own) (ways l public) taken known.0) k.weighs;
    })
    (listed (left_after l public) rs) (listed-known rs bound (left_after l public) (length-after l public ∙ n))))
    (groups l r.public) (every-both (λ public. 0 < ways l public) (IsRow r.public (length l) 0) (groups l r.public) (groups_taken l r.public)
    (rows-listed r.public l 0)))
    (groups left r.private) (groups_taken left r.private)

pub signal-known : (g : Game) (i : ℕ) → i < length (signals g (round_count g)) → IsListed (length g.copies) g.copies g.rounds (signal_at g (round_count g) i)
signal-known g i l =
    All-from_recursion (IsListed (length g.copies) g.copies g.rounds) (signals g (round_count g))
    (subst (AllByRecursion (IsListed (length g.copies) g.copies g.rounds)) (listed-all g) (listed-known g.rounds (length g.copies) g.copies refl)) i [] l

pub rows-long : (bound : ℕ) (rs : List Round) (s : Signal) → HasRows bound rs s → length s ≡ length rs
rows-long bound [] [] h = refl
rows-long bound [] (p ∷ s) h = absurd h
rows-long bound (r ∷ rs) [] h = absurd h
rows-long bound (r ∷ rs) (p ∷ s) h = ap suc (rows-long bound rs s h.1)

room-start : (left : List ℕ) (s : Signal) → 0 < path_weight left s → (k : ℕ) → k < length left → get_or (left_by left s) k 0 + publics k s ≤ get_or left k 0
room-start left [] h k l = omega arith
room-start left (p ∷ s) h k l =
    let l1 = left_after left p.own in let l2 = left_after l1 p.public in
    let f = factors_positive (edge left p) (path_weight l2 s) h in
    let w = (factors_positive (ways left p.own) (ways l1 p.public) f.0).1 in
    let t : nat_lt 0 (ways l1 p.public) ≡ true = grind (arith, w) in
    let m = length-after left p.own in let n = length-after l1 p.public in
    let a = taken-counts l1 p.public t k (omega arith) in
    let b = left_at left p.own k in let c = left_at l1 p.public k in
    let r = room-start l2 s f.1 k (omega arith) in
    omega arith

pub length-left_by : (left : List ℕ) (s : Signal) → length (left_by left s) ≡ length left
length-left_by left [] = refl
length-left_by left (p ∷ s) = length-left_by (left_after (left_after left p.own) p.public) s ∙ length-after (left_after left p.own) p.public
    ∙ length-after left p.own

-- the signals that some deal has beside a signal are those that face it, in order
pub signals-beside : (g : Game) (i : ℕ) → i < length (signals g (round_count g)) →
    let s = signal_at g (round_count g) i in
    filter (λ t. nat_lt 0 (deal_weight g s t)) (signals g (round_count g)) ≡ map (λ (w : ℕ × Signal). w.1) (facing (left_by g.copies s) g.rounds s)
signals-beside g i l =
    let s = signal_at g (round_count g) i in
    let k = signal-known g i l in
    let w = k.weighs in
    let some : nat_lt 0 (path_weight g.copies s) ≡ true = grind (arith, w) in
    filter-alike (λ t. nat_lt 0 (deal_weight g s t)) (beside (left_by g.copies s) s) (λ t. same s t some (same_public s t)) (signals g (round_count g))
    ∙ ap (filter (beside (left_by g.copies s) s)) (sym (listed-all g))
    ∙ facing-whole g.rounds (left_by g.copies s) g.copies s k.rows (record { lengths = length-left_by g.copies s; each = room-start g.copies s k.weighs })
  where
    same : (s t : Signal) → nat_lt 0 (path_weight g.copies s) ≡ true → (b : Bool)
        → nat_lt 0 (cond b (path_weight g.copies s * own_ways (left_by g.copies s) t) 0) ≡ (b && nat_lt 0 (own_ways (left_by g.copies s) t))
    same s t e true = some-times (path_weight g.copies s) (own_ways (left_by g.copies s) t) ∙ ap (λ b. b && nat_lt 0 (own_ways (left_by g.copies s) t)) e
    same s t e false = let z : nat_lt 0 0 ≡ false = grind arith in z ∙ sym (no_and (nat_lt 0 (own_ways (left_by g.copies s) t)))
