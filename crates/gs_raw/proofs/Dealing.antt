-- Each raw signal of a lawful game is dealt: it has a child in the next round, a last-round signal below it, and a deal.
use Rattle.std.proofs.Common.{◌≡◌, ℕ, zero, suc, ◌+◌, ◌-◌, ◌*◌, ◌<◌, ◌≤◌, ◌++◌, ◌==◌, Bool, true, cond, List, [], ◌∷◌, map, length, get_or, sum, ℤ, refl, sym}
use Rattle.std.proofs.{Common.{ap, ◌∙◌, subst, inl, inr, arith}, lemmas.Bool.{cases_Bool, eqb-true, eq-eqb}, lemmas.List.{length-append, length-map, take_all}}
use Rattle.std.proofs.{lemmas.List.Elements.{All-from_recursion}, lemmas.List.Sums.{get_or-le-sum_by, sum_by-append, sum_by-cons}}
use Rattle.std.specs.{Prelude.{filter, flat_map}, List.{AllByRecursion}}
use Rattle.gs_game.proofs.{GroupDraws.{all_ways, leaves_sum}, Sequencing.{drawn, facing_ways, first_sizes, sizes_are}, Totals.{total}}
use Rattle.gs_game.proofs.SomeWays.{all_cards, own_sum, seen_sum, some_draws}
use Rattle.gs_game.specs.{GoingOn.{cards_shown}, Rules.{KeepsRules}, Sequences.{privates, seen_sizes}}
use Rattle.gs_lossless.proofs.Descent.{child_run, tabled}
use Rattle.gs_model.proofs.{Basics.{every-map, every-weaker}, Extends.{signal_long}, Facing.{deals_are_facing}, Fits.{choose-some}}
use Rattle.gs_model.proofs.{Listed.{left_by-push}, Ranges.{deals_weigh, every-flat_map, signal_count_is}, Walked.{last_round_of}}
use Rattle.gs_model.specs.{Cards.{groups, left_after, ways}, Deals.{Deal, deals}, Frame.{ancestor, at_round, frame_of, signal_count}}
use Rattle.gs_model.specs.{Game.{Game, IsPlayable, Round, round_at, round_count}, Payoff.{hand_weight}}
use Rattle.gs_model.specs.{Signals.{Seen, Signal, child_count, children, edge, first_child, left_by, showings, signal_at, signals}, ViewTree.{facing}}

-- ---- the cards that are left

-- how many cards the first rounds show to one player
abbrev shown_by : Game → ℕ → ℕ
shown_by g round = sum (first_sizes g round)

shown_more : (g : Game) (r : ℕ) → shown_by g (suc r) ≡ shown_by g r + (round_at g (suc r)).private + (round_at g (suc r)).public
shown_more g r =
    let a = (round_at g (suc r)).private in
    let b = (round_at g (suc r)).public in
    omega (
      arith,
      sum_by-append (λ (x : ℕ). x) (first_sizes g r) (a ∷ b ∷ []),
      sum_by-cons (λ (x : ℕ). x) a (b ∷ []),
      sum_by-cons (λ (x : ℕ). x) b [],
    )

shown_up : (g : Game) (n k : ℕ) → shown_by g n ≤ shown_by g (n + k)
shown_up g n zero = let e : n + zero ≡ n = omega arith in omega (arith, ap (shown_by g) e)
shown_up g n (suc k) =
    let e : n + suc k ≡ suc (n + k) = omega arith in
    omega (arith, ap (shown_by g) e, shown_more g (n + k), shown_up g n k)

shown_le : (g : Game) (n m : ℕ) → n ≤ m → shown_by g n ≤ shown_by g m
shown_le g n m l = let e : n + (m - n) ≡ m = omega arith in subst (λ (k : ℕ). shown_by g n ≤ shown_by g k) e (shown_up g n (m - n))

-- what a signal leaves
abbrev IsLeft : Game → ℕ → Signal → Type 0
IsLeft g n s = sum (left_by g.copies s) + n ≡ sum g.copies

left_all : (g : Game) (round : ℕ) → AllByRecursion (IsLeft g (shown_by g round)) (signals g round)
left_all g zero = (omega arith, tt)
left_all g (suc r) =
    every-flat_map (IsLeft g (shown_by g (suc r))) (λ s. map (λ c. c.1) (children g (round_at g (suc r)) s)) (IsLeft g (shown_by g r))
    (λ s hs. every-map (IsLeft g (shown_by g (suc r))) (λ (c : ℕ × Signal). c.1) (children g (round_at g (suc r)) s)
    (every-map (λ (c : ℕ × Signal). IsLeft g (shown_by g (suc r)) c.1) (λ (p : Seen). (edge (left_by g.copies s) p, s ++ p ∷ []))
    (showings (left_by g.copies s) (round_at g (suc r))) (below s hs)))
    (signals g r) (left_all g r)
  where
    below : (s : Signal) → IsLeft g (shown_by g r) s
        → AllByRecursion (λ (p : Seen). IsLeft g (shown_by g (suc r)) (s ++ p ∷ [])) (showings (left_by g.copies s) (round_at g (suc r)))
    below s hs =
        let R = round_at g (suc r) in
        let left = left_by g.copies s in
        every-flat_map (λ (p : Seen). IsLeft g (shown_by g (suc r)) (s ++ p ∷ []))
        (λ own. map {B = Seen} (λ public. record { own = own; public = public }) (groups (left_after left own) R.public))
        (λ own. sum (left_after left own) + R.private ≡ sum left)
        (λ own e. every-map (λ (p : Seen). IsLeft g (shown_by g (suc r)) (s ++ p ∷ [])) (λ public. record { own = own; public = public })
        (groups (left_after left own) R.public)
        (every-weaker (λ public. sum (left_after (left_after left own) public) + R.public ≡ sum (left_after left own))
        (λ public. IsLeft g (shown_by g (suc r)) (s ++ (record { own = own; public = public }) ∷ []))
        (λ public f. omega (arith, e, f, hs, shown_more g r, ap sum (left_by-push g.copies s (record { own = own; public = public }))))
        (groups (left_after left own) R.public) (leaves_sum (left_after left own) R.public)))
        (groups left R.private) (leaves_sum left R.private)

left_at : (g : Game) (round i : ℕ) → i < length (signals g round) → IsLeft g (shown_by g round) (signal_at g round i)
left_at g round i l = All-from_recursion (IsLeft g (shown_by g round)) (signals g round) (left_all g round) i [] l

-- ---- there are cards enough

-- what all rounds show and the opponent's own cards are among the cards
full : (g : Game) → KeepsRules g → shown_by g (round_count g) + sum (privates g.rounds) ≤ sum g.copies
full g h =
    let all = ap seen_sizes (take_all (round_count g) g.rounds (omega arith)) in
    let shown : shown_by g (round_count g) ≡ cards_shown g.rounds =
    ap sum (sizes_are g (round_count g) (omega arith)) ∙ ap sum all ∙ seen_sum g.rounds in
    omega (arith, shown, own_sum g.rounds, all_cards g.rounds, h.copies)

some_listed : {X : Type 0} (f : X → ℕ) (xs : List X) → 0 < total f xs → 0 < length xs
some_listed f [] h = absurd (omega arith)
some_listed f (x ∷ xs) h = omega arith

some_group : (left : List ℕ) (size : ℕ) → size ≤ sum left → 0 < length (groups left size)
some_group left size h = some_listed (λ g. ways left g) (groups left size) (omega (arith, all_ways left size, choose-some (sum left) size h))

some_showing : (left : List ℕ) (r : Round) → r.private + r.public ≤ sum left → 0 < length (showings left r)
some_showing left r h = by (groups left r.private) (leaves_sum left r.private) (some_group left r.private (omega arith))
  where
    by : (gs : List (List ℕ)) → AllByRecursion (λ own. sum (left_after left own) + r.private ≡ sum left) gs → 0 < length gs
        → 0 < length (flat_map (λ own. map {B = Seen} (λ public. record { own = own; public = public }) (groups (left_after left own) r.public)) gs)
    by [] a l = absurd (omega arith)
    by (own ∷ owns) a l =
        let e = a.0 in
        let first = some_group (left_after left own) r.public (omega arith) in
        let each : List ℕ → Seen = λ public. record { own = own; public = public } in
        omega (
          arith,
          first,
          length-map (groups (left_after left own) r.public) each,
          length-append (map each (groups (left_after left own) r.public))
              (flat_map (λ own. map {B = Seen} (λ public. record { own = own; public = public }) (groups (left_after left own) r.public)) owns),
        )

-- ---- children

pub child_some : (g : Game) → KeepsRules g → (round i : ℕ) → i < length (signals g round) → round < round_count g → 0 < child_count g round i
child_some g h round i l top =
    let r = round_at g (suc round) in
    let s = signal_at g round i in
    let left = left_at g round i l in
    let up = shown_le g (suc round) (round_count g) (omega arith) in
    let room : r.private + r.public ≤ sum (left_by g.copies s) = omega (arith, left, shown_more g round, up, full g h) in
    omega (
      arith,
      some_showing (left_by g.copies s) r room,
      length-map {B = ℕ × Signal} (showings (left_by g.copies s) r) (λ (p : Seen). (edge (left_by g.copies s) p, s ++ p ∷ [])),
    )

-- a last-round signal below a signal
pub record Below (g : Game) (round i : ℕ) : Type 0 where
  pub last : ℕ
  pub last_in : last < length (signals g (round_count g))
  pub up : ancestor (frame_of g) (round_count g) round last ≡ i

pub last_below : (g : Game) (p : IsPlayable g) → KeepsRules g → (k round i : ℕ) → round + k ≡ round_count g → 0 < round
    → i < length (signals g round) → Below g round i
last_below g p h zero round i e some l =
    let same : round ≡ round_count g = omega arith in
    record {
      last = i;
      last_in = subst (λ (n : ℕ). i < length (signals g n)) same l;
      up = subst (λ (n : ℕ). ancestor (frame_of g) n round i ≡ i) same ((tabled g p).itself round i);
    }
last_below g p h (suc k) round i e some l =
    let top : round < round_count g = omega arith in
    let run = child_run g p round i some top l in
    let c = first_child g round i in
    let many = child_some g h round i l top in
    let end = run.within in
    let count = signal_count_is g (round + 1) (omega arith) (omega arith) in
    let b = last_below g p h k (round + 1) c (omega arith) (omega arith) (omega arith) in
    record {
      last = b.last;
      last_in = b.last_in;
      up = sym ((tabled g p).chain (round_count g) (round + 1) round b.last (omega arith) (omega arith))
          ∙ ap (ancestor (frame_of g) (round + 1) round) b.up ∙ run.back c (omega arith) (omega arith);
    }

-- ---- deals

pub record Dealt (g : Game) (x : ℕ) : Type 0 where
  pub place : ℕ
  pub deal : Deal
  pub place_in : place < length (deals g)
  pub there : get_or (deals g) place deal ≡ deal
  pub one : deal.one ≡ x

some_filter : (p : Deal → Bool) (xs : List Deal) → 0 < length (filter p xs)
    → (k : ℕ) × (d : Deal) × (k < length xs) × (get_or xs k d ≡ d) × (p d ≡ true)
some_filter p [] h = absurd (omega arith)
some_filter p (x ∷ xs) h = elim (cases_Bool (p x)) [
  | inl good ↦ (0, x, omega arith, refl, good)
  | inr bad ↦ let r = some_filter p xs (rw bad at h) in (suc r.0, r.1, (let l = r.2 in omega arith), r.3, r.4)
]

pub dealt : (g : Game) → KeepsRules g → (x : ℕ) → x < length (signals g (round_count g)) → Dealt g x
dealt g h x l =
    let s = signal_at g (round_count g) x in
    let left = left_by g.copies s in
    let long : length s ≡ length g.rounds = signal_long g (round_count g) x l in
    let room : sum (privates g.rounds) ≤ sum left = omega (arith, left_at g (round_count g) x l, full g h) in
    let faced : 0 < total (λ (v : ℕ × Signal). v.0) (facing left g.rounds s) =
    omega (arith, facing_ways g.rounds left s long, drawn (privates g.rounds) left, some_draws (sum left) (privates g.rounds) room) in
    let some = some_listed (λ (v : ℕ × Signal). v.0) (facing left g.rounds s) faced in
    let same = simp length-map at (ap (λ (vs : List (Signal × ℕ × ℤ)). length vs) (deals_are_facing g x l)) in
    let found = filter (λ (d : Deal). d.one == x) (deals g) in
    let r = some_filter (λ (d : Deal). d.one == x) (deals g) (omega (arith, some, same)) in
    record { place = r.0; deal = r.1; place_in = r.2; there = r.3; one = eqb-true r.1.one x r.4 }

-- a signal of a round, in some deal
pub record Met (g : Game) (round i : ℕ) : Type 0 where
  pub place : ℕ
  pub deal : Deal
  pub place_in : place < length (deals g)
  pub there : get_or (deals g) place deal ≡ deal
  pub one : at_round (frame_of g) round deal.one ≡ i

pub met : (g : Game) (p : IsPlayable g) → KeepsRules g → (round i : ℕ) → 0 < round → round ≤ round_count g → i < signal_count (frame_of g) round
    → Met g round i
met g p h round i some top l =
    let e : round + (round_count g - round) ≡ round_count g = omega arith in
    let count = signal_count_is g round some top in
    let b = last_below g p h (round_count g - round) round i e some (omega arith) in
    let d = dealt g h b.last b.last_in in
    record {
      place = d.place;
      deal = d.deal;
      place_in = d.place_in;
      there = d.there;
      one = ap (λ (n : ℕ). ancestor (frame_of g) n round d.deal.one) (last_round_of g) ∙ ap (ancestor (frame_of g) (round_count g) round) d.one ∙ b.up;
    }

-- each hand weighs something
pub hand_some : (g : Game) (p : IsPlayable g) → KeepsRules g → (s : ℕ) → s < signal_count (frame_of g) 1 → 0 < hand_weight (frame_of g) s
hand_some g p h s l =
    let f = frame_of g in
    let m = met g p h 1 s (omega arith) p.some l in
    let part = λ (d : Deal). cond (at_round f 1 d.one == s) d.weight 0 in
    let le = get_or-le-sum_by part (deals g) m.place m.deal m.place_in in
    let weighs = deals_weigh g m.place m.deal m.place_in in
    let here : part m.deal ≡ m.deal.weight = ap (λ (b : Bool). cond b m.deal.weight 0) (eq-eqb (at_round f 1 m.deal.one) s m.one) in
    let same : part (get_or (deals g) m.place m.deal) ≡ part m.deal = ap part m.there in
    let weight : (get_or (deals g) m.place m.deal).weight ≡ m.deal.weight = ap (λ (d : Deal). d.weight) m.there in
    omega (arith, le, weighs, here, same, weight)
