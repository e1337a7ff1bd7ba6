-- What deals weigh by the signals of a round, and that it is the same where the game stops after that round, but for the ways to go on.
use Rattle.std.proofs.Common.{◌≡◌, ℕ, zero, suc, ◌+◌, ◌-◌, ◌*◌, ◌<◌, ◌≤◌, Bool, true, false, cond, List, [], ◌∷◌, ◌++◌, map, length, get_or, take, drop, sum}
use Rattle.std.proofs.Common.{refl, sym, ap, ◌∙◌, subst, arith, length-take}
use Rattle.std.proofs.{lemmas.Bool.Decides.{Decides-eqb}, lemmas.List.{get_or-take, take-append-drop, take-take, take_all}}
use Rattle.std.specs.{Prelude.{filter, flat_map, ◌==◌, ◌&&◌}, List.{range_with_len}}
use Rattle.gs_model.specs.{Betting.{even}, Cards.{groups, left_after, ways}, Classes.{ClassLists, class_of, list_of}}
use Rattle.gs_model.specs.{Deals.{Deal, deals, path_weight, same_cards}, Frame.{ancestor, ancestor_up, at_round, frame_of, last_round, parents_of}}
use Rattle.gs_model.specs.{Game.{Game, Round, round_at, round_count}, Lossless.{weight_against}}
use Rattle.gs_model.specs.{Signals.{Signal, children, left_by, parents, signal_at, signals}, ViewTree.{facing}}
use Rattle.gs_model.proofs.{Exchanged.{and_both, same_cards-is}, Facing.{signals_differ, same_signal, same_signal-self}, Listed.{listed, listed-all, seen}}
use Rattle.gs_model.proofs.{Ranges.{deals-below, kept_pass, parents_at}, Walked.{last_round_of}, Extends.{parent_below, before_last, signal_long}}
use Rattle.gs_model.proofs.Basics.{flat_map-same, every-weaker, every-range}
use Rattle.gs_game.specs.{GoingOn.{StopsAfter, cards_shown, own_cards_of, ways_on}, Sequences.{deal_sizes, draws, seen_sizes}}
use Rattle.gs_game.proofs.{GoingOn.{beside_sum, going_on, pair_sum}, Sequencing.{same_triples}}
use Rattle.gs_game.proofs.Totals.{sum-total, total, total-keys, total-places, total-same, total-same_every, total-times}

-- ---- all deals, each with a number of its two signals

deals_sum : (g : Game) (f : Signal → Signal → ℕ)
    → total (λ (d : Deal). d.weight * f (signal_at g (round_count g) d.one) (signal_at g (round_count g) d.two)) (deals g) ≡ pair_sum f g.copies g.rounds
deals_sum g f =
    let n = length (signals g (round_count g)) in
    let value = λ (d : Deal). d.weight * f (signal_at g (round_count g) d.one) (signal_at g (round_count g) d.two) in
    let of = λ (s : Signal). path_weight g.copies s * beside_sum (f s) (left_by g.copies s) g.rounds s in
    total-keys value (λ (d : Deal). d.one) n (deals g) (every-weaker (λ (d : Deal). (d.one < n)
    × (d.two < n)) (λ (d : Deal). d.one < n) (λ d e. e.0) (deals g) (deals-below g))
    ∙ total-same_every (λ i. total value (filter (λ (d : Deal). d.one == i) (deals g))) (λ i. of (signal_at g (round_count g) i)) (range_with_len 0 n)
    (every-range _ 0 n (λ i low high. at i (omega arith)))
    ∙ sym (total-places of [] (signals g (round_count g)))
    ∙ ap (total of) (sym (listed-all g))
  where
    assoc : (a b c : ℕ) → (a * b) * c ≡ a * (b * c)
    assoc a b c = omega arith

    at : (i : ℕ) → i < length (signals g (round_count g))
        → total (λ (d : Deal). d.weight * f (signal_at g (round_count g) d.one) (signal_at g (round_count g) d.two))
        (filter (λ (d : Deal). d.one == i) (deals g))
        ≡ path_weight g.copies (signal_at g (round_count g) i) * beside_sum (f (signal_at g (round_count g) i))
        (left_by g.copies (signal_at g (round_count g) i)) g.rounds (signal_at g (round_count g) i)
    at i l =
        let s = signal_at g (round_count g) i in
        let found = filter (λ (d : Deal). d.one == i) (deals g) in
        total-same_every _ (λ (d : Deal). d.weight * f s (signal_at g (round_count g) d.two)) found
        (every-weaker (λ (d : Deal). (d.one == i) ≡ true) _ (λ d e. ap (λ (j : ℕ). d.weight
        * f (signal_at g (round_count g) j) (signal_at g (round_count g) d.two)) ((Decides-eqb d.one i).0 e)) found
        (kept_pass (λ (d : Deal). d.one == i) (deals g)))
        ∙ same_triples g i (λ v. v.1 * f s v.0) l
        ∙ total-same _ (λ (v : ℕ × Signal). path_weight g.copies s * (v.0 * f s v.1)) (λ v. assoc (path_weight g.copies s) v.0 (f s v.1))
        (facing (left_by g.copies s) g.rounds s)
        ∙ total-times (path_weight g.copies s) (λ (v : ℕ × Signal). v.0 * f s v.1) (facing (left_by g.copies s) g.rounds s)

-- ---- the first rounds of a signal are its ancestor

-- so many rounds up
front_up : (g : Game) (round k at x : ℕ) → at ≡ round + k → at ≤ round_count g → x < length (signals g at)
    → (take round (signal_at g at x) ≡ signal_at g round (ancestor_up (frame_of g) at k x)) × (ancestor_up (frame_of g) at k x < length (signals g round))
front_up g round zero at x e top l =
    let same : at ≡ round = omega arith in (
      ap (λ (n : ℕ). take round (signal_at g n x)) same ∙ take_all round (signal_at g round x) (let h = signal_long g at x l in
          let i = ap (λ (n : ℕ). length (signal_at g n x)) same in omega (arith, h, i, same)),
      subst (λ (n : ℕ). x < length (signals g n)) same l,
    )
front_up g round (suc k) zero x e top l = absurd (omega (arith, e))
front_up g round (suc k) (suc at) x e top l =
    let p = get_or (parents g (suc at)) x 0 in
    let under : suc at - 1 ≡ at = omega arith in
    let read : get_or (parents_of (frame_of g) (suc at)) x 0 ≡ p = ap (λ (ps : List ℕ). get_or ps x 0) (parents_at g (suc at) (omega arith) top) in
    let up : ancestor_up (frame_of g) at k p ≡ ancestor_up (frame_of g) (suc at) (suc k) x =
    sym (ap (λ (n : ℕ). ancestor_up (frame_of g) n k (get_or (parents_of (frame_of g) (suc at)) x 0)) under ∙ ap (ancestor_up (frame_of g) at k) read) in
    let h = front_up g round k at p (omega (arith, e)) (omega (arith, top)) (parent_below g at x l) in (
      sym (take-take round at (signal_at g (suc at) x) (omega (arith, e))) ∙ ap (take round) (before_last g at x l) ∙ h.0 ∙ ap (signal_at g round) up,
      subst (λ (n : ℕ). n < length (signals g round)) up h.1,
    )

front_is : (g : Game) (round x : ℕ) → round ≤ round_count g → x < length (signals g (round_count g))
    → (take round (signal_at g (round_count g) x) ≡ signal_at g round (at_round (frame_of g) round x))
    × (at_round (frame_of g) round x < length (signals g round))
unfolding ancestor
front_is g round x top l =
    let last = last_round_of g in
    let k = last_round (frame_of g) - round in
    let h = front_up g round k (last_round (frame_of g)) x (omega (arith, last, top)) (omega (arith, last))
    (subst (λ (n : ℕ). x < length (signals g n)) (sym last) l) in
    (ap (λ (n : ℕ). take round (signal_at g n x)) (sym last) ∙ h.0, h.1)

-- ---- the place of a signal

same_is : (s t : Signal) → same_signal s t ≡ true → s ≡ t
same_is [] [] h = refl
same_is [] (q ∷ t) h = cc
same_is (p ∷ s) [] h = cc
same_is (p ∷ s) (q ∷ t) h =
    let b = and_both (same_cards p.own q.own) (same_cards p.public q.public && same_signal s t) h in
    let c = and_both (same_cards p.public q.public) (same_signal s t) b.1 in
    let x = ap (λ (own : List ℕ). let r : Signal = record { own = own; public = p.public } ∷ s in r) (same_cards-is p.own q.own b.0) in
    let y = ap (λ (public : List ℕ). let r : Signal = record { own = q.own; public = public } ∷ s in r) (same_cards-is p.public q.public c.0) in
    x ∙ y ∙ ap (λ (r : Signal). q ∷ r) (same_is s t c.1)

-- the first place where a signal stands
abbrev pub place : Signal → List Signal → ℕ
place t [] = 0
place t (x ∷ xs) = cond (same_signal t x) 0 (suc (place t xs))

place_at : (xs : List Signal) (i : ℕ) → i < length xs → ((j : ℕ) → j < i → get_or xs j [] ≡ get_or xs i [] → ⊥) → place (get_or xs i []) xs ≡ i
place_at [] i l apart = absurd (omega (arith, l))
place_at (x ∷ xs) zero l apart = ap (λ (b : Bool). cond {A = ℕ} b 0 (suc (place x xs))) (same_signal-self x)
place_at (x ∷ xs) (suc i) l apart = go (same_signal (get_or xs i []) x) refl (place_at xs i (omega (arith, l)) (λ j m. apart (suc j) (omega (arith, m))))
  where
    go : (b : Bool) → same_signal (get_or xs i []) x ≡ b → place (get_or xs i []) xs ≡ i → cond {A = ℕ} b 0 (suc (place (get_or xs i []) xs)) ≡ suc i
    go true e r = absurd (apart 0 (omega arith) (sym (same_is (get_or xs i []) x e)))
    go false e r = ap suc r

place_is : (g : Game) (round i : ℕ) → i < length (signals g round) → place (signal_at g round i) (signals g round) ≡ i
place_is g round i l = place_at (signals g round) i l (λ j m e. signals_differ g round j i m l e)

-- ---- the signals of the first rounds

module _ (g : Game) (round : ℕ) where
  abbrev stopped : Game
  stopped = record g { rounds = take round g.rounds }

  rounds_kept : (k : ℕ) → k < round → round_at stopped (suc k) ≡ round_at g (suc k)
  rounds_kept k l = get_or-take round g.rounds (suc k - 1) (record { private = 0; public = 0; tree = even }) (omega (arith, l))

  signals_kept : (k : ℕ) → k ≤ round → signals stopped k ≡ signals g k
  signals_kept zero l = refl
  signals_kept (suc k) l =
      ap (λ (xs : List Signal). flat_map (λ s. map (λ (c : ℕ × Signal). c.1) (children g (round_at stopped (suc k)) s)) xs)
      (signals_kept k (omega (arith, l)))
      ∙ ap (λ (r : Round). flat_map (λ s. map (λ (c : ℕ × Signal). c.1) (children g r s)) (signals g k)) (rounds_kept k (omega (arith, l)))

  first_listed : round ≤ round_count g → listed g.copies (take round g.rounds) ≡ signals g round
  first_listed top =
      let n : length (take round g.rounds) ≡ round = omega (arith, length-take round g.rounds, top) in
      listed-all stopped ∙ ap (signals stopped) n ∙ signals_kept round (omega arith)

-- ---- only the sizes of rounds count

abbrev SameSizes : List Round → List Round → Type 0
SameSizes [] [] = Unit {0}
SameSizes [] (q ∷ qs) = ⊥
SameSizes (r ∷ rs) [] = ⊥
SameSizes (r ∷ rs) (q ∷ qs) = (r.private ≡ q.private) × (r.public ≡ q.public) × SameSizes rs qs

listed_same : (rs qs : List Round) (left : List ℕ) → SameSizes rs qs → listed left rs ≡ listed left qs
listed_same [] [] left h = refl
listed_same [] (q ∷ qs) left h = absurd h
listed_same (r ∷ rs) [] left h = absurd h
listed_same (r ∷ rs) (q ∷ qs) left h =
    let tail = λ (xs : List Round) (own public : List ℕ). map (λ t. seen own public ∷ t) (listed (left_after (left_after left own) public) xs) in
    ap (λ (a : ℕ). flat_map (λ own. flat_map (tail rs own) (groups (left_after left own) r.public)) (groups left a)) h.0
    ∙ ap (λ (b : ℕ). flat_map (λ own. flat_map (tail rs own) (groups (left_after left own) b)) (groups left q.private)) h.1
    ∙ flat_map-same (λ own. flat_map (tail rs own) (groups (left_after left own) q.public))
    (λ own. flat_map (tail qs own) (groups (left_after left own) q.public))
    (λ own. flat_map-same (tail rs own) (tail qs own) (λ public. ap (map (λ (t : Signal). seen own public ∷ t))
    (listed_same rs qs (left_after (left_after left own) public) h.2)) (groups (left_after left own) q.public)) (groups left q.private)

facing_same : (rs qs : List Round) (left : List ℕ) (s : Signal) → SameSizes rs qs → facing left rs s ≡ facing left qs s
facing_same [] [] left s h = refl
facing_same [] (q ∷ qs) left s h = absurd h
facing_same (r ∷ rs) [] left s h = absurd h
facing_same (r ∷ rs) (q ∷ qs) left [] h = refl
facing_same (r ∷ rs) (q ∷ qs) left (p ∷ s) h =
    let longer = λ (own : List ℕ) (ws : List (ℕ × Signal)). map {B = ℕ × Signal} (λ w. (ways left own * w.0, seen own p.public ∷ w.1)) ws in
    ap (λ (a : ℕ). flat_map (λ own. longer own (facing (left_after left own) rs s)) (groups left a)) h.0
    ∙ flat_map-same (λ own. longer own (facing (left_after left own) rs s)) (λ own. longer own (facing (left_after left own) qs s))
    (λ own. ap (longer own) (facing_same rs qs (left_after left own) s h.2)) (groups left q.private)

pair_same : (rs qs : List Round) (left : List ℕ) (f : Signal → Signal → ℕ) → SameSizes rs qs → pair_sum f left rs ≡ pair_sum f left qs
pair_same rs qs left f h =
    total-same _ (λ s. path_weight left s * beside_sum (f s) (left_by left s) qs s)
    (λ s. ap (λ (vs : List (ℕ × Signal)). path_weight left s * total (λ (v : ℕ × Signal). v.0 * f s v.1) vs) (facing_same rs qs (left_by left s) s h))
    (listed left rs)
    ∙ ap (total (λ s. path_weight left s * beside_sum (f s) (left_by left s) qs s)) (listed_same rs qs left h)

-- rounds with the sizes of others and then a round of no cards
record IsStop (rs qs : List Round) : Type 0 where
  pub first : SameSizes (take (length rs) qs) rs
  pub last : deal_sizes (drop (length rs) qs) ≡ 0 ∷ 0 ∷ 0 ∷ []
  pub longer : length rs < length qs

stop_is : (rs qs : List Round) → seen_sizes qs ≡ seen_sizes rs ++ 0 ∷ 0 ∷ [] → IsStop rs qs
stop_is [] [] e = absurd (cc)
stop_is [] (q ∷ []) e =
    let a : q.private ≡ 0 = cc in
    let b : q.public ≡ 0 = cc in
    record { first = tt; last = cc; longer = omega arith }
stop_is [] (q ∷ r ∷ qs) e = absurd (cc)
stop_is (r ∷ rs) [] e = absurd (cc)
stop_is (r ∷ rs) (q ∷ qs) e =
    let a : q.private ≡ r.private = cc in
    let b : q.public ≡ r.public = cc in
    let rest : seen_sizes qs ≡ seen_sizes rs ++ 0 ∷ 0 ∷ [] = cc in
    let h = stop_is rs qs rest in
    record { first = (a, b, h.first); last = h.last; longer = omega (arith, h.longer) }

-- ---- what a signal weighs against a class

-- whether two signals of the round are the ones that count
abbrev counts : List Signal → ClassLists → ℕ → ℕ → ℕ → Signal → Signal → ℕ
counts all lists round s c a b = cond (class_of lists round (place b all) == c) (cond (place a all == s) 1 0) 0

weighed : (a b : Bool) (w : ℕ) → cond a (cond b w 0) 0 ≡ w * cond a (cond b 1 0) 0
weighed true true w = omega arith
weighed true false w = omega arith
weighed false b w = omega arith

against_sum : (g : Game) (round : ℕ) (lists : ClassLists) (s c : ℕ) → round ≤ round_count g
    → weight_against (frame_of g) lists round s c ≡ ways_on g round * pair_sum (counts (listed g.copies (take round g.rounds)) lists round s c) g.copies
    (take round g.rounds)
against_sum g round lists s c top =
    let f = frame_of g in
    let rs = take round g.rounds in
    let qs = drop round g.rounds in
    let all = listed g.copies rs in
    let count = counts all lists round s c in
    let sig = signal_at g (round_count g) in
    let long : length rs ≡ round = omega (arith, length-take round g.rounds, top) in
    let both : rs ++ qs ≡ g.rounds = take-append-drop round g.rounds in
    sum-total _ (deals g)
    ∙ total-same_every _ (λ (d : Deal). d.weight * count (take round (sig d.one)) (take round (sig d.two))) (deals g)
    (every-weaker (λ (d : Deal). (d.one < length (signals g (round_count g))) × (d.two < length (signals g (round_count g)))) _
    (λ d h. cc_term d (at d.one h.0) (at d.two h.1)) (deals g) (deals-below g))
    ∙ deals_sum g (λ a b. count (take round a) (take round b))
    ∙ ap (λ (rounds : List Round). pair_sum (λ a b. count (take round a) (take round b)) g.copies rounds) (sym both)
    ∙ ap (λ (n : ℕ). pair_sum (λ a b. count (take n a) (take n b)) g.copies (rs ++ qs)) (sym long)
    ∙ going_on rs qs g.copies count
  where
    at : (x : ℕ) → x < length (signals g (round_count g)) → place (take round (signal_at g (round_count g) x)) (listed g.copies (take round g.rounds))
        ≡ at_round (frame_of g) round x
    at x l =
        let h = front_is g round x top l in
        ap (λ (t : Signal). place t (listed g.copies (take round g.rounds))) h.0
        ∙ ap (place (signal_at g round (at_round (frame_of g) round x))) (first_listed g round top)
        ∙ place_is g round (at_round (frame_of g) round x) h.1

    cc_term : (d : Deal)
        → place (take round (signal_at g (round_count g) d.one)) (listed g.copies (take round g.rounds)) ≡ at_round (frame_of g) round d.one
        → place (take round (signal_at g (round_count g) d.two)) (listed g.copies (take round g.rounds)) ≡ at_round (frame_of g) round d.two
        → cond (class_of lists round (at_round (frame_of g) round d.two) == c) (cond (at_round (frame_of g) round d.one == s) d.weight 0) 0
        ≡ d.weight * counts (listed g.copies (take round g.rounds)) lists round s c (take round (signal_at g (round_count g) d.one))
        (take round (signal_at g (round_count g) d.two))
    cc_term d e i =
        weighed (class_of lists round (at_round (frame_of g) round d.two) == c) (at_round (frame_of g) round d.one == s) d.weight
        ∙ ap (λ (x : ℕ). d.weight * cond (class_of lists round x == c) (cond (at_round (frame_of g) round d.one == s) 1 0) 0) (sym i)
        ∙ ap (λ (x : ℕ). d.weight * cond (class_of lists round (place (take round (signal_at g (round_count g) d.two))
        (listed g.copies (take round g.rounds))) == c) (cond (x == s) 1 0) 0) (sym e)

none_more : (n : ℕ) → draws n (0 ∷ 0 ∷ 0 ∷ []) ≡ 1
none_more n = omega arith

pub against_stopped : (g h : Game) (round : ℕ) (lists others : ClassLists) → 0 < round → round ≤ round_count g → StopsAfter g round h
    → list_of others round ≡ list_of lists round
    → (s c : ℕ) → weight_against (frame_of g) lists round s c ≡ ways_on g round * weight_against (frame_of h) others round s c
against_stopped g h round lists others some top stops same s c =
    let rs = take round g.rounds in
    let long : length rs ≡ round = omega (arith, length-take round g.rounds, top) in
    let stop = stop_is rs h.rounds stops.sizes in
    let first : SameSizes (take round h.rounds) rs = subst (λ (n : ℕ). SameSizes (take n h.rounds) rs) long stop.first in
    let one : ways_on h round ≡ 1 =
    ap (λ (ks : List ℕ). draws (sum h.copies - cards_shown (take round h.rounds) - own_cards_of (take round h.rounds)) ks)
    (subst (λ (n : ℕ). deal_sizes (drop n h.rounds) ≡ 0 ∷ 0 ∷ 0 ∷ []) long stop.last)
    ∙ none_more (sum h.copies - cards_shown (take round h.rounds) - own_cards_of (take round h.rounds)) in
    let pairs = λ (copies : List ℕ) (ks : List Round) (list : List ℕ). pair_sum
    (λ a b. cond (get_or list (place b (listed copies ks)) 0 == c) (cond (place a (listed copies ks) == s) 1 0) 0) copies ks in
    let there = against_sum h round others s c (omega (arith, stop.longer, long)) in
    let alike : pairs h.copies (take round h.rounds) (list_of others round) ≡ pairs g.copies rs (list_of lists round) =
    ap (λ (l : List ℕ). pairs h.copies (take round h.rounds) l) same
    ∙ ap (λ (copies : List ℕ). pairs copies (take round h.rounds) (list_of lists round)) stops.copies
    ∙ ap (λ (all : List Signal). pair_sum (λ a b. cond (get_or (list_of lists round) (place b all) 0 == c) (cond (place a all == s) 1 0) 0) g.copies
    (take round h.rounds)) (listed_same (take round h.rounds) rs g.copies first)
    ∙ pair_same (take round h.rounds) rs g.copies (counts (listed g.copies rs) lists round s c) first in
    let back : weight_against (frame_of h) others round s c ≡ pairs g.copies rs (list_of lists round) =
    there ∙ ap (λ (n : ℕ). n * pairs h.copies (take round h.rounds) (list_of others round)) one
    ∙ once (pairs h.copies (take round h.rounds) (list_of others round)) ∙ alike in
    against_sum g round lists s c top ∙ ap (λ (n : ℕ). ways_on g round * n) (sym back)
  where
    once : (n : ℕ) → 1 * n ≡ n
    once n = omega arith

-- ---- the rounds and signals of a game that stops

pub stops_later : (g h : Game) (round : ℕ) → round ≤ round_count g → StopsAfter g round h → round < round_count h
stops_later g h round top stops =
    let stop = stop_is (take round g.rounds) h.rounds stops.sizes in
    omega (arith, length-take round g.rounds, top, stop.longer)

pub stops_signals : (g h : Game) (round : ℕ) → round ≤ round_count g → StopsAfter g round h → signals h round ≡ signals g round
stops_signals g h round top stops =
    let rs = take round g.rounds in
    let long : length rs ≡ round = omega (arith, length-take round g.rounds, top) in
    let stop = stop_is rs h.rounds stops.sizes in
    let first : SameSizes (take round h.rounds) rs = subst (λ (n : ℕ). SameSizes (take n h.rounds) rs) long stop.first in
    let later = stops_later g h round top stops in
    sym (first_listed h round (omega (arith, later)))
    ∙ ap (λ (copies : List ℕ). listed copies (take round h.rounds)) stops.copies
    ∙ listed_same (take round h.rounds) rs g.copies first
    ∙ first_listed g round top
