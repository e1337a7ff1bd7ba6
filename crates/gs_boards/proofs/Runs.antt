-- Sums that run along the places of the boards, and what a place is paid by what a walk has passed.
use Rattle.std.proofs.Common.{◌≡◌, ◌+◌, ◌≤◌, ◌∙◌, ℕ, Bool, true, false, cond, List, [], ◌∷◌, get_or, refl, sym, ap, arith, ⊎_elim, sum_by}
use Rattle.std.proofs.{lemmas.Bool.{cases_eq}, lemmas.Bool.Decides.{Decides-eqb, nat_tests}, lemmas.List.Elements.{All-head, All-tail}}
use Rattle.std.proofs.lemmas.List.Sums.{sum_by-cons}
use Rattle.std.specs.Prelude.{◌==◌, All, if◌then◌else◌}
use Rattle.gs_boards.specs.{Runs.{arrived, passed_by}, declared.place.Place.{Place}, declared.running.Running.{Running}}
use Rattle.gs_model.proofs.Basics.{not_eq}

-- among some places, the sum of the worths of those on a board
abbrev pub board_sum : (Place → ℕ) → ℕ → List Place → ℕ
board_sum worth board qs = sum_by (λ q. if q.board == board then worth q else 0) qs

-- among some places, the sum of the worths of those on a board with another strength
abbrev pub other_sum : (Place → ℕ) → ℕ → ℕ → List Place → ℕ
other_sum worth board strength qs = sum_by (λ q. if q.board == board then (if q.strength == strength then 0 else worth q) else 0) qs

-- the sums of a walk that has passed some places
pub record HasPassed (worth : Place → ℕ) (qs : List Place) (r : Running) : Type 0 where
  pub on_board : r.on_board ≡ board_sum worth r.board qs
  pub off_level : r.off_level ≡ other_sum worth r.board r.strength qs

-- ---- sums over lists

none_add : {X : Type 0} (f : X → ℕ) (xs : List X) → All (λ x. f x ≡ 0) xs → sum_by f xs ≡ 0
none_add f [] h = refl
none_add f (x ∷ xs) h = omega (arith, sum_by-cons f x xs, All-head (λ x. f x ≡ 0) x xs h, none_add f xs (All-tail (λ x. f x ≡ 0) x xs h))

less_add : {X : Type 0} (f g : X → ℕ) → ((x : X) → f x ≤ g x) → (xs : List X) → sum_by f xs ≤ sum_by g xs
less_add f g h [] = omega arith
less_add f g h (x ∷ xs) = omega (arith, sum_by-cons f x xs, sum_by-cons g x xs, h x, less_add f g h xs)

same_add : {X : Type 0} (f g : X → ℕ) (xs : List X) → All (λ x. f x ≡ g x) xs → sum_by f xs ≡ sum_by g xs
same_add f g [] h = refl
same_add f g (x ∷ xs) h =
    let rest = same_add f g xs (All-tail (λ x. f x ≡ g x) x xs h) in
    omega (arith, sum_by-cons f x xs, sum_by-cons g x xs, All-head (λ x. f x ≡ g x) x xs h, rest)

-- ---- a walk comes to a place, and passes it

-- what a walk has passed stands before a place: where the place is on another board or level than the walk, none of it is there
pub record IsBefore (qs : List Place) (r : Running) (p : Place) : Type 0 where
  pub boards : (p.board ≡ r.board → ⊥) → All (λ q. q.board ≡ p.board → ⊥) qs
  pub levels : p.board ≡ r.board → (p.strength ≡ r.strength → ⊥) → All (λ q. q.board ≡ p.board → q.strength ≡ p.strength → ⊥) qs

off_board : (worth : Place → ℕ) (qs : List Place) (board : ℕ) → All (λ q. q.board ≡ board → ⊥) qs → board_sum worth board qs ≡ 0
off_board worth qs board h = none_add (λ q. cond (q.board == board) (worth q) 0) qs (λ i d l. off (get_or qs i d) (h i d l))
  where
    off : (q : Place) → (q.board ≡ board → ⊥) → cond (q.board == board) (worth q) 0 ≡ 0
    off q ne = grind (arith, nat_tests, ne)

-- where no place of a board has a strength, all that is passed there has another one
all_others : (worth : Place → ℕ) (qs : List Place) (board strength : ℕ) → All (λ q. q.board ≡ board → q.strength ≡ strength → ⊥) qs
    → board_sum worth board qs ≡ other_sum worth board strength qs
all_others worth qs board strength h =
    same_add (λ q. cond (q.board == board) (worth q) 0) (λ q. cond (q.board == board) (cond (q.strength == strength) 0 (worth q)) 0)
    qs (λ i d l. one (get_or qs i d) (h i d l))
  where
    one : (q : Place) → (q.board ≡ board → q.strength ≡ strength → ⊥)
        → cond (q.board == board) (worth q) 0 ≡ cond (q.board == board) (cond (q.strength == strength) 0 (worth q)) 0
    one q ne = ⊎_elim
        (λ (b : q.board ≡ board). ap (λ t. cond {A = ℕ} (q.board == board) (cond t 0 (worth q)) 0) (sym (not_eq q.strength strength (ne b))))
        (λ (b : q.board ≡ board → ⊥). ap (λ t. cond {A = ℕ} t (worth q) 0) (not_eq q.board board b)
        ∙ ap (λ t. cond {A = ℕ} t (cond (q.strength == strength) 0 (worth q)) 0) (sym (not_eq q.board board b)))
        (cases_eq q.board board)

others_less : (worth : Place → ℕ) (qs : List Place) (board strength : ℕ) → other_sum worth board strength qs ≤ board_sum worth board qs
others_less worth qs board strength = less_add (λ q. cond (q.board == board) (cond (q.strength == strength) 0 (worth q)) 0)
    (λ q. cond (q.board == board) (worth q) 0) (λ q. by (q.board == board) (q.strength == strength) (worth q)) qs
  where
    by : (a b : Bool) (n : ℕ) → cond {A = ℕ} a (cond b 0 n) 0 ≤ cond {A = ℕ} a n 0
    by true true n = omega arith
    by true false n = omega arith
    by false b n = omega arith

pub arrives : (worth : Place → ℕ) (qs : List Place) (r : Running) (p : Place) → HasPassed worth qs r → IsBefore qs r p → HasPassed worth qs (arrived r p)
arrives worth qs r p h before = record {
  on_board = ⊎_elim
      (λ (b : p.board ≡ r.board).
      ap (λ t. cond {A = ℕ} t r.on_board 0) ((Decides-eqb p.board r.board).1 b) ∙ h.on_board ∙ ap (λ n. board_sum worth n qs) (sym b))
      (λ (b : p.board ≡ r.board → ⊥).
      ap (λ t. cond {A = ℕ} t r.on_board 0) (not_eq p.board r.board b) ∙ sym (off_board worth qs p.board (before.boards b)))
      (cases_eq p.board r.board);
  off_level = ⊎_elim
      (λ (b : p.board ≡ r.board).
      ap (λ t. cond {A = ℕ} t (cond (p.strength == r.strength) r.off_level r.on_board) 0) ((Decides-eqb p.board r.board).1 b) ∙ ⊎_elim
      (λ (s : p.strength ≡ r.strength).
      ap (λ t. cond {A = ℕ} t r.off_level r.on_board) ((Decides-eqb p.strength r.strength).1 s) ∙ h.off_level
      ∙ ap (λ n. other_sum worth n r.strength qs) (sym b) ∙ ap (λ n. other_sum worth p.board n qs) (sym s))
      (λ (s : p.strength ≡ r.strength → ⊥).
      ap (λ t. cond {A = ℕ} t r.off_level r.on_board) (not_eq p.strength r.strength s) ∙ h.on_board ∙ ap (λ n. board_sum worth n qs) (sym b)
      ∙ all_others worth qs p.board p.strength (before.levels b s))
      (cases_eq p.strength r.strength))
      (λ (b : p.board ≡ r.board → ⊥).
      let none = off_board worth qs p.board (before.boards b) in
      ap (λ t. cond {A = ℕ} t (cond (p.strength == r.strength) r.off_level r.on_board) 0) (not_eq p.board r.board b)
      ∙ omega (arith, none, others_less worth qs p.board p.strength))
      (cases_eq p.board r.board);
}

-- a place that is passed is added to what the walk has passed, at either end
pub passes : (worth : Place → ℕ) (qs more : List Place) (r : Running) (p : Place) → r.board ≡ p.board → r.strength ≡ p.strength
    → ((f : Place → ℕ) → sum_by f more ≡ sum_by f qs + f p) → HasPassed worth qs r → HasPassed worth more (passed_by r (worth p))
passes worth qs more r p b s one h =
    let board : (p.board == r.board) ≡ true = (Decides-eqb p.board r.board).1 (sym b) in
    let strength : (p.strength == r.strength) ≡ true = (Decides-eqb p.strength r.strength).1 (sym s) in
    let here : cond {A = ℕ} (p.board == r.board) (worth p) 0 ≡ worth p = ap (λ t. cond {A = ℕ} t (worth p) 0) board in
    let there : cond {A = ℕ} (p.board == r.board) (cond (p.strength == r.strength) 0 (worth p)) 0 ≡ 0 =
    ap (λ t. cond {A = ℕ} t (cond (p.strength == r.strength) 0 (worth p)) 0) board ∙ ap (λ t. cond {A = ℕ} t 0 (worth p)) strength in
    record {
      on_board = omega (arith, h.on_board, here, one (λ q. cond (q.board == r.board) (worth q) 0));
      off_level = omega (arith, h.off_level, there, one (λ q. cond (q.board == r.board) (cond (q.strength == r.strength) 0 (worth q)) 0));
    }

-- what a walk has passed off its level is part of what it has passed on its board, and that is no more than so many worths
pub level_within : (worth : Place → ℕ) (qs : List Place) (r : Running) → HasPassed worth qs r → r.off_level ≤ r.on_board
level_within worth qs r h = omega (arith, h.on_board, h.off_level, others_less worth qs r.board r.strength)
