-- What a signal shows last: cards of the deck, as many as the round gives.
use Rattle.std.proofs.{Common.{◌≡◌, ℕ, zero, suc, ◌<◌, List, [], ◌∷◌, length, map, sym, arith, subst, All}, lemmas.List.{length-map, get_or-map}}
use Rattle.std.proofs.lemmas.List.Elements.{All-from_recursion, recursion_from_All}
use Rattle.std.specs.{Prelude.{flat_map}, List.{AllByRecursion}}
use Rattle.gs_model.specs.{Cards.{groups, left_after}, Game.{Game, Round, round_at}, Signals.{Seen, Signal, signals, signal_at, showings, left_by}}
use Rattle.gs_model.proofs.{Ranges.{every-flat_map}, Basics.{every-map, every-weaker}, Listed.{length-after}, Beside.{length-left_by}}
use Rattle.gs_card.specs.Groups.{IsGroup}
use Rattle.gs_card.proofs.GroupLaws.{groups_are_groups, cards_within}
use Rattle.gs_tree.specs.Layers.{last_seen, showing}
use Rattle.gs_tree.proofs.Grown.{shows_of, seen_grown, nothing_seen}

-- what a round shows: cards of the deck, and as many as it gives
pub record IsShown (kinds : ℕ) (r : Round) (p : Seen) : Type 0 where
  pub own_in : All (λ c. c < kinds) p.own
  pub public_in : All (λ c. c < kinds) p.public
  pub own_counted : length p.own ≡ r.private
  pub public_counted : length p.public ≡ r.public

showing_is : (left own public : List ℕ) (r : Round) → IsGroup left r.private own → IsGroup (left_after left own) r.public public
    → IsShown (length left) r (showing own public)
showing_is left own public r a b =
    let P : ℕ → Type 0 = λ n. All (λ c. c < n) public in
    record {
      own_in = cards_within left r.private own a;
      public_in = subst P (length-after left own) (cards_within (left_after left own) r.public public b);
      own_counted = a.sized;
      public_counted = b.sized;
    }

showings_are : (left : List ℕ) (r : Round) → AllByRecursion (IsShown (length left) r) (showings left r)
showings_are left r =
    every-flat_map (IsShown (length left) r) (λ own. map (showing own) (groups (left_after left own) r.public)) (IsGroup left r.private)
    (λ own a. every-map (IsShown (length left) r) (showing own) (groups (left_after left own) r.public)
    (every-weaker (IsGroup (left_after left own) r.public) (λ public. IsShown (length left) r (showing own public))
    (λ public b. showing_is left own public r a b) (groups (left_after left own) r.public)
    (recursion_from_All (IsGroup (left_after left own) r.public) (groups (left_after left own) r.public) (groups_are_groups (left_after left own) r.public))))
    (groups left r.private) (recursion_from_All (IsGroup left r.private) (groups left r.private) (groups_are_groups left r.private))

trivially : {X : Type 0} (xs : List X) → AllByRecursion (λ (x : X). Unit {0}) xs
trivially [] = tt
trivially (x ∷ xs) = (tt, trivially xs)

pub last_is_shown : (g : Game) (round i : ℕ) → 0 < round → i < length (signals g round)
    → IsShown (length g.copies) (round_at g round) (last_seen (signal_at g round i))
last_is_shown g zero i some l = absurd (omega arith)
last_is_shown g (suc r) i some l =
    let P : Seen → Type 0 = IsShown (length g.copies) (round_at g (suc r)) in
    let all : AllByRecursion P (flat_map (shows_of g r) (signals g r)) =
    every-flat_map P (shows_of g r) (λ (s : Signal). Unit {0})
    (λ s u. let Q : ℕ → Type 0 = λ n. AllByRecursion (IsShown n (round_at g (suc r))) (shows_of g r s) in
    subst Q (length-left_by g.copies s) (showings_are (left_by g.copies s) (round_at g (suc r))))
    (signals g r) (trivially (signals g r)) in
    let R : List Seen → Type 0 = λ xs. AllByRecursion P xs in
    let here : All P (map last_seen (signals g (suc r))) = All-from_recursion P (map last_seen (signals g (suc r))) (subst R (sym (seen_grown g r)) all) in
    subst P (get_or-map last_seen (signals g (suc r)) i [] nothing_seen l) (here i nothing_seen (omega (arith, length-map (signals g (suc r)) last_seen)))
