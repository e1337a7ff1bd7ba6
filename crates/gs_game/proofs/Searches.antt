-- One step of the searches for a round without an even leaf, and for an uneven leaf.
use Rattle.std.proofs.Common.{◌≡◌, ℕ, ◌+◌, Bool, true, false, List, [], ◌∷◌, ◌++◌, length, subst, sym, ap, ◌∙◌}
use Rattle.std.specs.Prelude.{◌==◌, Option, Some, None, if◌then◌else◌, option_map}
use Rattle.gs_model.specs.Betting.{Bet, Moves, move}
use Rattle.gs_bet.specs.TreeView.{plain}
use Rattle.gs_game.specs.{declared.game.Round.{Round}, Games.{plain_trees}, Refusals.{no_even, no_even_from, uneven, uneven_from}}
use Rattle.gs_game.specs.Money.{Searched, first_of, has_even, one_after, two_after, uneven_move, uneven_path}

-- a first round with an even leaf, which is not the last
pub evens_step : (n : ℕ) (rounds rest : List Round) (first : Round) → rounds ≡ first ∷ rest → (length rest == 0) ≡ false
    → has_even (plain first.tree.tree) ≡ true → no_even_from n (plain_trees rounds) ≡ no_even_from (n + 1) (plain_trees rest)
evens_step n rounds [] first is some e = absurd cc
evens_step n rounds (r ∷ rest) first is some e =
    ap (λ (rs : List Round). no_even_from n (plain_trees rs)) is
    ∙ ap (λ (b : Bool). if b then no_even_from (n + 1) (plain_trees (r ∷ rest)) else Some (no_even n)) e

-- a first round without an uneven leaf
pub uneven_step : (n : ℕ) (rounds rest : List Round) (first : Round) → rounds ≡ first ∷ rest → uneven_path [] 0 0 (plain first.tree.tree) ≡ None
    → uneven_from n (plain_trees rounds) ≡ uneven_from (n + 1) (plain_trees rest)
uneven_step n rounds rest first is e =
    ap (λ (rs : List Round). uneven_from n (plain_trees rs)) is
    ∙ ap (λ (o : Option (List ℕ)). first_of (option_map (uneven n) o) (uneven_from (n + 1) (plain_trees rest))) e

-- what a search says that found nothing
pub not_found : (old new : List ℕ) (found : Bool) (sought : Option (List ℕ)) → found ≡ false → Searched old new found sought → (sought ≡ None) × (new ≡ old)
not_found old new found sought e h = subst (λ (b : Bool). Searched old new b sought) e h

-- and one that found a path
pub was_found : (old new : List ℕ) (found : Bool) (sought : Option (List ℕ)) → found ≡ true → Searched old new found sought → sought ≡ Some new
was_found old new found sought e h = subst (λ (b : Bool). Searched old new b sought) e h

-- the search below a move, where the path and the amounts after it have names of their own
pub below_move : (path pushed : List ℕ) (one two player letter chips left right : ℕ) (t : Bet) (ms all : Moves) (sought : Option (List ℕ))
    → all ≡ move letter chips t ms → pushed ≡ path ++ letter ∷ [] → left ≡ one_after player chips one → right ≡ two_after player chips two
    → uneven_path pushed left right t ≡ sought → uneven_move path one two player all ≡ first_of sought (uneven_move path one two player ms)
below_move path pushed one two player letter chips left right t ms all sought is more e f result =
    let a = one_after player chips one in
    let b = two_after player chips two in
    let same : uneven_path (path ++ letter ∷ []) a b t ≡ sought =
    ap (λ (x : List ℕ). uneven_path x a b t) (sym more) ∙ ap (λ (k : ℕ). uneven_path pushed k b t) (sym e)
    ∙ ap (λ (k : ℕ). uneven_path pushed left k t) (sym f) ∙ result in
    ap (uneven_move path one two player) is ∙ ap (λ (o : Option (List ℕ)). first_of o (uneven_move path one two player ms)) same
