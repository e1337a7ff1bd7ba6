-- The signals of a round, by what each adds to its parent.
use Rattle.std.proofs.Common.{◌≡◌, ℕ, zero, suc, ◌+◌, ◌<◌, List, [], ◌∷◌, ◌++◌, length, map, take, get_or, refl, sym, ap, ◌∙◌, arith, append_assoc, append-nil}
use Rattle.std.proofs.Common.{add-one, length-append, drop, take-append-drop, take_all, replicate, ◌≤◌, ◌-◌}
use Rattle.std.proofs.{lemmas.List.{length-map}, lemmas.List.Concat.{flat_map-append}}
use Rattle.std.specs.Prelude.{flat_map}
use Rattle.gs_model.specs.Game.{Game, Round, round_at}
use Rattle.gs_model.specs.Signals.{Seen, Signal, children, edge, last_edge, left_by, owners, parents, showings, signals, first_child}
use Rattle.gs_model.proofs.{Exchanged.{map-flat_map}, Basics.{map-map, map-same, map-itself, flat_map-same}, Children.{last_edge-push}}
use Rattle.gs_tree.specs.Layers.{last_seen}

pub nothing_seen : Seen
nothing_seen = record { own = []; public = [] }

pub last_seen-push : (s : Signal) (p : Seen) → last_seen (s ++ p ∷ []) ≡ p
last_seen-push [] p = refl
last_seen-push (q ∷ []) p = refl
last_seen-push (q ∷ r ∷ s) p = last_seen-push (r ∷ s) p

-- a function of signals that looks at what the last round adds to the parent
grown : {Y : Type 0} (g : Game) (r : Round) (f : Signal → Y) (h : Signal → Seen → Y) → ((s : Signal) (p : Seen) → f (s ++ p ∷ []) ≡ h s p)
    → (ss : List Signal) →
    map f (flat_map (λ s. map (λ c. c.1) (children g r s)) ss) ≡ flat_map (λ s. map (h s) (showings (left_by g.copies s) r)) ss
grown g r f h e ss =
    map-flat_map f (λ s. map (λ c. c.1) (children g r s)) ss
    ∙ flat_map-same (λ s. map f (map (λ c. c.1) (children g r s))) (λ s. map (h s) (showings (left_by g.copies s) r))
    (λ s. ap (map f) (map-map (λ c. c.1) (λ p. (edge (left_by g.copies s) p, s ++ p ∷ [])) (showings (left_by g.copies s) r))
    ∙ map-map f (λ p. s ++ p ∷ []) (showings (left_by g.copies s) r) ∙ map-same (λ p. f (s ++ p ∷ [])) (h s) (e s) (showings (left_by g.copies s) r)) ss

-- what the signals of the next round show last
pub seen_grown : (g : Game) (round : ℕ) → map last_seen (signals g (suc round))
    ≡ flat_map (λ s. showings (left_by g.copies s) (round_at g (suc round))) (signals g round)
seen_grown g round =
    grown g (round_at g (suc round)) last_seen (λ s p. p) last_seen-push (signals g round)
    ∙ flat_map-same (λ s. map (λ p. p) (showings (left_by g.copies s) (round_at g (suc round)))) (λ s. showings (left_by g.copies s) (round_at g (suc round)))
    (λ s. map-itself _) (signals g round)

-- and their edges
pub edges_grown : (g : Game) (round : ℕ) → map (last_edge g.copies) (signals g (suc round))
    ≡ flat_map (λ s. map (edge (left_by g.copies s)) (showings (left_by g.copies s) (round_at g (suc round)))) (signals g round)
edges_grown g round = grown g (round_at g (suc round)) (last_edge g.copies) (λ s p. edge (left_by g.copies s) p) (last_edge-push g.copies) (signals g round)

length_joined : {X Y Z : Type 0} (f : X → List Y) (h : X → List Z) → ((x : X) → length (f x) ≡ length (h x)) → (xs : List X)
    → length (flat_map f xs) ≡ length (flat_map h xs)
length_joined f h e [] = refl
length_joined f h e (x ∷ xs) = omega (arith, length-append (f x) (flat_map f xs), length-append (h x) (flat_map h xs), e x, length_joined f h e xs)

-- how many children come before a signal
pub first_grown : (g : Game) (round i : ℕ) → first_child g round i ≡ length
    (flat_map (λ s. showings (left_by g.copies s) (round_at g (suc round))) (take i (signals g round)))
first_grown g round i =
    length_joined (λ s. children g (round_at g (suc round)) s) (λ s. showings (left_by g.copies s) (round_at g (suc round)))
    (λ s. length-map (showings (left_by g.copies s) (round_at g (suc round))) (λ p. (edge (left_by g.copies s) p, s ++ p ∷ []))) (take i (signals g round))

owners_step : {X Y : Type 0} (f : X → List Y) (n : ℕ) (xs : List X) (i : ℕ) (d : X) → i < length xs
    → owners f n (take (suc i) xs) ≡ owners f n (take i xs) ++ map (λ _. n + i) (f (get_or xs i d))
owners_step f n [] i d l = absurd (omega arith)
owners_step f n (x ∷ xs) zero d l =
    let e : n ≡ n + zero = omega arith in
    append-nil (map (λ _. n) (f x)) ∙ ap (λ k. map (λ _. k) (f x)) e
owners_step f n (x ∷ xs) (suc i) d l =
    let e : (n + 1) + i ≡ n + suc i = omega arith in
    ap (λ l. map (λ _. n) (f x) ++ l) (owners_step f (n + 1) xs i d (omega arith))
    ∙ sym (append_assoc (map (λ _. n) (f x)) (owners f (n + 1) (take i xs)) (map (λ _. (n + 1) + i) (f (get_or xs i d))))
    ∙ ap (λ k. (map (λ _. n) (f x) ++ owners f (n + 1) (take i xs)) ++ map (λ _. k) (f (get_or xs i d))) e

-- one more owner
pub owners_more : {X Y : Type 0} (f : X → List Y) (n : ℕ) (xs : List X) (i : ℕ) (d : X) → i < length xs
    → owners f n (take (i + 1) xs) ≡ owners f n (take i xs) ++ map (λ _. n + i) (f (get_or xs i d))
owners_more f n xs i d l = rw add-one (owners_step f n xs i d l)

abbrev pub shows_of : Game → ℕ → Signal → List Seen
shows_of g round s = showings (left_by g.copies s) (round_at g (suc round))

-- as many are shown as there are signals in the next round
pub total_shows : (g : Game) (round : ℕ) → length (flat_map (shows_of g round) (signals g round)) ≡ length (signals g (suc round))
total_shows g round = ap (λ (x : List Seen). length x) (sym (seen_grown g round)) ∙ length-map (signals g (suc round)) last_seen

pub few_before : (g : Game) (round i : ℕ) → i ≤ length (signals g round)
    → length (flat_map (shows_of g round) (take i (signals g round))) ≤ length (signals g (suc round))
few_before g round i l =
    let ss = signals g round in
    let split : flat_map (shows_of g round) ss ≡ flat_map (shows_of g round) (take i ss) ++ flat_map (shows_of g round) (drop i ss) =
    ap (flat_map (shows_of g round)) (sym (take-append-drop i ss)) ∙ flat_map-append (shows_of g round) (take i ss) (drop i ss) in
    omega (
      arith,
      ap (λ (x : List Seen). length x) split,
      length-append (flat_map (shows_of g round) (take i ss)) (flat_map (shows_of g round) (drop i ss)),
      total_shows g round,
    )

-- a list that is filled up
pub filled : {Y : Type 0} (old : List ℕ) (n v : ℕ) (ys : List Y) → length old ≤ n → n - length old ≡ length ys
    → take n old ++ replicate (n - length old) v ≡ old ++ map (λ _. v) ys
filled old n v ys l e = ap (λ x. x ++ replicate (n - length old) v) (take_all n old l) ∙ ap (λ k. old ++ replicate k v) e
    ∙ ap (λ x. old ++ x) (copies_of v ys)
  where
    copies_of : {Y : Type 0} (v : ℕ) (ys : List Y) → replicate (length ys) v ≡ map (λ _. v) ys
    copies_of v [] = refl
    copies_of v (y ∷ ys) = ap (λ x. v ∷ x) (copies_of v ys)

-- the parents of a whole round
pub parents_grown : (g : Game) (n i : ℕ) (xs : List ℕ) → length (signals g n) ≤ i
    → xs ≡ owners (λ s. children g (round_at g (suc n)) s) 0 (take i (signals g n)) → xs ≡ parents g (suc n)
parents_grown g n i xs over is = is ∙ ap (owners (λ s. children g (round_at g (suc n)) s) 0) (take_all i (signals g n) over)
