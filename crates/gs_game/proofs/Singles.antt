-- Sequences of groups where no kind has more than one copy: each is drawn in one way.
use Rattle.std.proofs.{Common.{◌≡◌, ℕ, ◌*◌, ◌<◌, ◌≤◌, List, [], ◌∷◌, sum, length, refl, ap, ◌∙◌, arith, ⊎_elim, get_or}, Math.ListN.{get_or-eq_default}}
use Rattle.std.proofs.lemmas.Bool.{cases_lt}
use Rattle.std.specs.List.{AllByRecursion}
use Rattle.gs_model.specs.Cards.{groups, ways, left_after}
use Rattle.gs_model.proofs.Fits.{groups_taken}
use Rattle.gs_game.specs.Sequences.{count_sequences, draws}
use Rattle.gs_game.proofs.{Sequencing.{counted, drawn, once, sequences}, Totals.{total-same_every}, Ways.{Single, single_after, ways_one}}

each_once : (left : List ℕ) (f h : List ℕ → ℕ) → Single left → ((g : List ℕ) → f g ≡ h g) → (gs : List (List ℕ)) → AllByRecursion (λ g. 0 < ways left g) gs
    → AllByRecursion (λ g. 1 * f g ≡ ways left g * h g) gs
each_once left f h single e [] a = tt
each_once left f h single e (g ∷ gs) a =
    let some : 0 < ways left g = a.0 in
    let few = ways_one left g single in
    let one : 1 ≡ ways left g = omega arith in
    (ap (λ k. 1 * k) (e g) ∙ ap (λ k. k * h g) one, each_once left f h single e gs a.1)

once_ways : (sizes left : List ℕ) → Single left → sequences once left sizes ≡ sequences ways left sizes
once_ways [] left h = refl
once_ways (size ∷ sizes) left h =
    total-same_every (λ g. 1 * sequences once (left_after left g) sizes) (λ g. ways left g * sequences ways (left_after left g) sizes) (groups left size)
    (each_once left (λ g. sequences once (left_after left g) sizes) (λ g. sequences ways (left_after left g) sizes) h
    (λ g. once_ways sizes (left_after left g) (single_after left g h)) (groups left size) (groups_taken left size))

pub single_drawn : (sizes left : List ℕ) → Single left → count_sequences left sizes ≡ draws (sum left) sizes
single_drawn sizes left h = counted sizes left ∙ once_ways sizes left h ∙ drawn sizes left

-- past the kinds there are no copies
pub single_all : (left : List ℕ) → ((card : ℕ) → card < length left → get_or left card 0 ≤ 1) → Single left
single_all left h card = ⊎_elim
    (λ (l : card < length left). h card l)
    (λ (l : length left ≤ card). omega (arith, get_or-eq_default left 0 l))
    (cases_lt card (length left))
