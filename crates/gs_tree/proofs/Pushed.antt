-- Lists that grow by what the members of another list give.
use Rattle.std.proofs.Common.{◌≡◌, ℕ, ◌+◌, ◌*◌, ◌<◌, All, List, [], ◌∷◌, ◌++◌, length, map, take, get_or, refl, subst, sym, ap, ◌∙◌, append-nil, append_assoc}
use Rattle.std.proofs.lemmas.List.{take_more, map-append, flat_map_more}
use Rattle.std.specs.Prelude.{flat_map}
use Rattle.gs_model.specs.{Cards.{groups, ways, left_after}, Game.{Round}, Signals.{edge, showings}}
use Rattle.gs_model.proofs.Basics.{map-map}
use Rattle.gs_card.proofs.TakenCards.{ways-none}
use Rattle.gs_tree.specs.Layers.{showing}
use Rattle.gs_tree.proofs.Taken.{taken_none}

-- one more member
pub mapped_more : {X Y : Type 0} (f : X → Y) (start now : List Y) (xs : List X) (i : ℕ) (d : X) (y : Y) → i < length xs → now ≡ start ++ map f (take i xs)
    → y ≡ f (get_or xs i d) → now ++ y ∷ [] ≡ start ++ map f (take (i + 1) xs)
mapped_more f start now xs i d y l h e =
    ap (λ n. n ++ y ∷ []) h ∙ append_assoc start (map f (take i xs)) (y ∷ [])
    ∙ ap (λ z. start ++ (map f (take i xs) ++ z ∷ [])) e
    ∙ ap (λ n. start ++ n) (sym (map-append f (take i xs) (get_or xs i d ∷ [])) ∙ ap (map f) (sym (take_more xs i d l)))

-- one more member, which gives a list
pub joined_more : {X Y : Type 0} (f : X → List Y) (start now more : List Y) (xs : List X) (i : ℕ) (d : X) → i < length xs
    → now ≡ start ++ flat_map f (take i xs) → more ≡ f (get_or xs i d) → now ++ more ≡ start ++ flat_map f (take (i + 1) xs)
joined_more f start now more xs i d l h e =
    ap (λ n. n ++ more) h ∙ ap (λ z. (start ++ flat_map f (take i xs)) ++ z) e ∙ flat_map_more f start (take i xs) (get_or xs i d)
    ∙ ap (λ ys. start ++ flat_map f ys) (sym (take_more xs i d l))

-- the edges of all that a round can show
pub edges_of : (left : List ℕ) (size : ℕ) (owns : List (List ℕ)) →
    map (edge left) (flat_map (λ own. map (showing own) (groups (left_after left own) size)) owns)
    ≡ flat_map (λ own. map (λ g. ways left own * ways (left_after left own) g) (groups (left_after left own) size)) owns
edges_of left size [] = refl
edges_of left size (own ∷ owns) =
    map-append (edge left) (map (showing own) (groups (left_after left own) size)) (flat_map (λ o. map (showing o) (groups (left_after left o) size)) owns)
    ∙ ap (λ l. l ++ map (edge left) (flat_map (λ o. map (showing o) (groups (left_after left o) size)) owns))
    (map-map (edge left) (showing own) (groups (left_after left own) size))
    ∙ ap (λ l. map (λ g. ways left own * ways (left_after left own) g) (groups (left_after left own) size) ++ l) (edges_of left size owns)

-- what a round shows that deals no own cards
pub shown_alone : (left : List ℕ) (r : Round) → r.private ≡ 0 → showings left r ≡ map (showing []) (groups left r.public)
shown_alone left r e =
    ap (λ n. flat_map (λ own. map (showing own) (groups (left_after left own) r.public)) (groups left n)) e
    ∙ append-nil (map (showing []) (groups (left_after left []) r.public))
    ∙ ap (λ l. map (showing []) (groups l r.public)) (taken_none left)

-- the edges of all that it shows
pub edges_alone : (left : List ℕ) (r : Round) → r.private ≡ 0 → map (edge left) (showings left r) ≡ map (λ g. 1 * ways left g) (groups left r.public)
edges_alone left r e =
    ap (map (edge left)) (shown_alone left r e)
    ∙ map-map (edge left) (showing []) (groups left r.public)
    ∙ ap (λ n. map (λ g. n * ways (left_after left []) g) (groups left r.public)) (ways-none left)
    ∙ ap (λ l. map (λ g. 1 * ways l g) (groups left r.public)) (taken_none left)

-- what holds of each member of a list holds of the one that a loop reads
pub item_has : {X : Type 0} (P : X → Type 0) (items now : List X) (i : ℕ) (x : X) → now ≡ items → All P items → i < length now → x ≡ get_or now i x → P x
item_has P items now i x same all here is =
    subst P (sym (is ∙ ap (λ (l : List _). get_or l i x) same)) (all i x (subst (λ (l : List _). i < length l) same here))
