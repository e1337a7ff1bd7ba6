-- Which refusal comes first.
use Rattle.std.proofs.Common.{◌≡◌, ℕ, ◌-◌, ◌*◌, ◌^◌, ◌<◌, ◌≤◌, ◌≢◌, ◌⊎◌, min, true, false, List, [], ◌∷◌, map, length, refl, sym, ap, arith}
use Rattle.std.proofs.lemmas.Bool.{lt-ltb, le-ltb}
use Rattle.std.specs.Prelude.{◌==◌, ◌&&◌, Option, Some, None, nat_le, nat_lt}
use Rattle.gs_model.specs.{Betting.{Bet}, Frame.{trees_of}, Walk.{walk, walk_start}, Numbering.{greatest}}
use Rattle.gs_model.specs.Game.{Game as Rules, Round as RoundRules, round_at, round_count}
use Rattle.gs_game.specs.{declared.faults.GameError.{GameError}, declared.faults.GameFault.{GameFault}, declared.game.Game.{Game}, declared.game.Round.{Round}, FaultOf.{IsErrorOf, IsFaultOf}, Counts.{ends_in}}
use Rattle.gs_game.specs.{Games.{round_rules, game_of, plain_trees}, Money.{first_of, most_in}, Refusals.{betting_refusal}}
use Rattle.gs_game.specs.Refusals.{Refusal, put_too_large, too_many_lines, no_even_from, uneven_from, even_refusal, uneven_refusal, put_refusal, lines_refusal}
use Rattle.gs_game.specs.Refusals.{card_refusal, no_private, private_refusal, rounds, rounds_refusal}
use Rattle.gs_game.specs.declared.faults.GameError.TheVariants as errors
use Rattle.gs_game.proofs.EndLaws.{rounds_count}

-- a fault of the first test is the fault of both
pub fault_first : (a b : Option Refusal) (f : GameFault) → IsFaultOf a f → IsFaultOf (first_of a b) f
fault_first a b f h = rw h refl

pub error_first : (a b : Option Refusal) (e : GameError) → IsErrorOf a e → IsErrorOf (first_of a b) e
error_first a b errors.Memory h = tt
error_first a b (errors.Fault f) h = fault_first a b f h

-- a fault of the second test, where the first finds none
pub fault_second : (a b : Option Refusal) (f : GameFault) → a ≡ None → IsFaultOf b f → IsFaultOf (first_of a b) f
fault_second a b f e h = rw e h

pub error_second : (a b : Option Refusal) (f : GameError) → a ≡ None → IsErrorOf b f → IsErrorOf (first_of a b) f
error_second a b f e h = rw e h

same_trees : (rs : List Round) → map (λ (r : RoundRules). r.tree) (map round_rules rs) ≡ plain_trees rs
same_trees [] = refl
same_trees (r ∷ rs) = ap (λ (ts : List Bet). (round_rules r).tree ∷ ts) (same_trees rs)

pub trees_are : (g : Game) → trees_of (game_of g) ≡ plain_trees g.rounds.items
trees_are g = same_trees g.rounds.items

pub ends_are : (ante : ℕ) (ts : List Bet) → length (walk ante ts).ends ≡ ends_in ts
ends_are ante ts = (rounds_count ts).ends_are (walk_start ante)

pub lines_over : (g : Game) (n : ℕ) → n ≡ min (ends_in (plain_trees g.rounds.items)) (2 ^ 128 - 1) → 8192 < n
    → lines_refusal (game_of g) ≡ Some (too_many_lines n)
unfolding lines_refusal
lines_over g n is h =
    let over : nat_lt 8192 (ends_in (plain_trees g.rounds.items)) ≡ true = lt-ltb _ _ (omega arith) in
    rw (trees_are g, ends_are g.ante (plain_trees g.rounds.items), over) (rw is refl)

pub lines_within : (g : Game) (n : ℕ) → n ≡ min (ends_in (plain_trees g.rounds.items)) (2 ^ 128 - 1) → n ≤ 8192 → lines_refusal (game_of g) ≡ None
unfolding lines_refusal
lines_within g n is h =
    let within : nat_lt 8192 (ends_in (plain_trees g.rounds.items)) ≡ false = le-ltb _ _ (omega arith) in
    rw (trees_are g, ends_are g.ante (plain_trees g.rounds.items), within) refl

-- the chips that the put's refusal carries
pub put_over : (g : Game) (most top : ℕ) → most_in (plain_trees g.rounds.items) g.ante g.ante ≡ most → top ≡ greatest g.bonus.items → 4096 < most * top
    → put_refusal (game_of g) ≡ Some (put_too_large (most * top))
unfolding put_refusal
put_over g most top is so h = let over : nat_lt 4096 (most * top) ≡ true = lt-ltb _ _ h in rw (trees_are g, is, sym so, over) refl

pub put_within : (g : Game) (most top : ℕ) → most_in (plain_trees g.rounds.items) g.ante g.ante ≡ most → top ≡ greatest g.bonus.items → most * top ≤ 4096
    → put_refusal (game_of g) ≡ None
unfolding put_refusal
put_within g most top is so h = let within : nat_lt 4096 (most * top) ≡ false = le-ltb _ _ h in rw (trees_are g, is, sym so, within) refl

-- ---- the refusals on betting, in order

evens_fine : (g : Game) (rs : List Round) → rs ≡ g.rounds.items → no_even_from 1 (plain_trees rs) ≡ None → even_refusal (game_of g) ≡ None
unfolding even_refusal
evens_fine g rs e h = rw (trees_are g, sym e) h

uneven_fine : (g : Game) (rs : List Round) → rs ≡ g.rounds.items → uneven_from 1 (plain_trees rs) ≡ None → uneven_refusal (game_of g) ≡ None
unfolding uneven_refusal
uneven_fine g rs e h = rw (trees_are g, sym e) h

pub evens_fault : (g : Game) (rs : List Round) (f : GameFault) → rs ≡ g.rounds.items → IsFaultOf (no_even_from 1 (plain_trees rs)) f
    → IsFaultOf (betting_refusal (game_of g)) f
unfolding betting_refusal even_refusal
evens_fault g rs f e h = fault_first (even_refusal (game_of g)) _ f (rw (trees_are g, sym e) h)

pub uneven_fault : (g : Game) (rs ss : List Round) (f : GameError) → rs ≡ g.rounds.items → no_even_from 1 (plain_trees rs) ≡ None → ss ≡ g.rounds.items
    → IsErrorOf (uneven_from 1 (plain_trees ss)) f → IsErrorOf (betting_refusal (game_of g)) f
unfolding betting_refusal uneven_refusal
uneven_fault g rs ss f d fine e h =
    error_second (even_refusal (game_of g)) _ f (evens_fine g rs d fine) (error_first (uneven_refusal (game_of g)) _ f (rw (trees_are g, sym e) h))

-- the trees are even
pub record EvensPass (g : Game) : Type 0 where
  pub evens : even_refusal (game_of g) ≡ None
  pub uneven : uneven_refusal (game_of g) ≡ None

pub evens_pass : (g : Game) (rs ss : List Round) → rs ≡ g.rounds.items → no_even_from 1 (plain_trees rs) ≡ None → ss ≡ g.rounds.items
    → uneven_from 1 (plain_trees ss) ≡ None → EvensPass g
evens_pass g rs ss d fine e also = record { evens = evens_fine g rs d fine; uneven = uneven_fine g ss e also }

pub put_fault : (g : Game) (f : GameFault) → EvensPass g → IsFaultOf (put_refusal (game_of g)) f → IsFaultOf (betting_refusal (game_of g)) f
unfolding betting_refusal
put_fault g f p h = fault_second (even_refusal (game_of g)) _ f p.evens (fault_second (uneven_refusal (game_of g)) _ f p.uneven
    (fault_first (put_refusal (game_of g)) _ f h))

pub lines_fault : (g : Game) (f : GameFault) → EvensPass g → put_refusal (game_of g) ≡ None → IsFaultOf (lines_refusal (game_of g)) f
    → IsFaultOf (betting_refusal (game_of g)) f
unfolding betting_refusal
lines_fault g f p put h =
    fault_second (even_refusal (game_of g)) _ f p.evens (fault_second (uneven_refusal (game_of g)) _ f p.uneven
    (fault_second (put_refusal (game_of g)) _ f put h))

pub betting_fine : (g : Game) → EvensPass g → put_refusal (game_of g) ≡ None → lines_refusal (game_of g) ≡ None → betting_refusal (game_of g) ≡ None
unfolding betting_refusal
betting_fine g p put lines = rw (p.evens, p.uneven, put, lines) refl

-- no round, or too many
pub rounds_refused : (g : Rules) (n : ℕ) → n ≡ round_count g → (n ≡ 0) ⊎ ((n ≢ 0) × (4 < n)) → card_refusal g ≡ Some (rounds n)
unfolding card_refusal rounds_refusal
rounds_refused g n e h =
    let fails : (nat_le 1 (round_count g) && nat_le (round_count g) 4) ≡ false = grind (arith, e, h) in
    rw fails (ap (λ (k : ℕ). Some (rounds k)) (sym e))

-- no private card in round 1
pub private_refused : (g : Rules) → 0 < round_count g → round_count g ≤ 4 → (round_at g 1).private ≡ 0 → card_refusal g ≡ Some no_private
unfolding card_refusal rounds_refusal private_refusal
private_refused g some few p =
    let holds : (nat_le 1 (round_count g) && nat_le (round_count g) 4) ≡ true = grind (arith, some, few) in
    let none : ((round_at g 1).private == 0) ≡ true = grind (arith, p) in
    rw (holds, none) refl
