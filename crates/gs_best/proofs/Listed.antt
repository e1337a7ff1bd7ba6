-- Choices listed point by point.
use Rattle.std.proofs.Common.{◌≡◌, ℕ, ◌+◌, ◌-◌, ◌<◌, ◌≤◌, ◌++◌, cond, List, drop, length, take, get_or, sym, ap, ◌∙◌, subst, arith, ⊎_elim}
use Rattle.std.proofs.{lemmas.Bool.{cases_eq}, lemmas.Bool.Decides.{Decides-eqb}}
use Rattle.std.proofs.lemmas.List.{get_or-append-add, get_or-drop, get_or-take, get_or_append_left, length-append, length-drop, length-take-le}
use Rattle.std.specs.Prelude.{◌==◌}
use Rattle.gs_model.specs.{Classes.{ClassLists, IsClass}, Frame.{Frame, player_at, round_of}, Positions.{at_point}}
use Rattle.gs_model.proofs.Basics.{not_eq}
use Rattle.gs_seq.proofs.SlotLaws.{sum_range_le, sum_range_more}
use Rattle.gs_best.specs.{Tables.{classes_at, moves_of, start_of}, Answers.{choices_before}}

module _ (f : Frame) (lists : ClassLists) (player : ℕ) where
  abbrev choices_at_point : ℕ → ℕ
  choices_at_point p = cond (player_at f p == player) (classes_at f lists p) 0

  pub choices_own : (q : ℕ) → player_at f q ≡ player → choices_before f lists player (q + 1) ≡ choices_before f lists player q + classes_at f lists q
  choices_own q own = sum_range_more choices_at_point q ∙ ap (λ b. choices_before f lists player q + cond b (classes_at f lists q) 0)
      ((Decides-eqb (player_at f q) player).1 own)

  pub choices_none : (q : ℕ) → (player_at f q ≡ player → ⊥) → choices_before f lists player (q + 1) ≡ choices_before f lists player q
  choices_none q other =
      let e = ap (λ b. choices_before f lists player q + cond b (classes_at f lists q) 0) (not_eq (player_at f q) player other) in
      omega (arith, sum_range_more choices_at_point q, e)

  pub choices_le : (m n : ℕ) → m ≤ n → choices_before f lists player m ≤ choices_before f lists player n
  choices_le m n l = sum_range_le choices_at_point m n l

  -- the choices at the points before one are listed
  abbrev pub AreListed : List ℕ → List ℕ → ℕ → Type 0
  AreListed picks xs q = (p c : ℕ) → p < q → player_at f p ≡ player → IsClass lists (round_of f (at_point p)) c
      → get_or xs (choices_before f lists player p + (c - 1)) 0 ≡ moves_of f lists picks p c

  module _ (picks xs : List ℕ) (q start count : ℕ) (own : player_at f q ≡ player) (long : length xs ≡ choices_before f lists player q) (at : start
      ≡ start_of f lists q) (all : count ≡ classes_at f lists q) (room : start + count ≤ length picks) where
    abbrev row : List ℕ
    row = take count (drop start picks)

    pub longer : length (xs ++ row) ≡ choices_before f lists player (q + 1)
    longer = omega (
      arith,
      length-append xs row,
      length-take-le count (drop start picks) (omega (arith, length-drop start picks, room)),
      long,
      all,
      choices_own q own,
    )

    pub listed_more : AreListed picks xs q → AreListed picks (xs ++ row) (q + 1)
    listed_more listed p c lp whose h = ⊎_elim
        (λ (e : p ≡ q). subst (λ n. IsClass lists (round_of f (at_point n)) c
        → get_or (xs ++ row) (choices_before f lists player n + (c - 1)) 0 ≡ moves_of f lists picks n c) (sym e) here h)
        (λ other.
        let l : p < q = omega arith in
        let inside : choices_before f lists player p + (c - 1) < length xs =
        omega (arith, choices_own p whose, choices_le (p + 1) q (omega (arith, l)), long, h.0, h.1) in
        get_or_append_left xs row 0 (choices_before f lists player p + (c - 1)) inside ∙ listed p c l whose h)
        (cases_eq p q)
      where
        here : IsClass lists (round_of f (at_point q)) c → get_or (xs ++ row) (choices_before f lists player q + (c - 1)) 0 ≡ moves_of f lists picks q c
        here k =
            ap (λ n. get_or (xs ++ row) (n + (c - 1)) 0) (sym long) ∙ get_or-append-add xs row (c - 1) 0
            ∙ get_or-take count (drop start picks) (c - 1) 0 (omega (arith, all, k.0, k.1)) ∙ get_or-drop start picks (c - 1) 0
            ∙ ap (λ n. get_or picks (n + (c - 1)) 0) at

  pub listed_same : (picks xs : List ℕ) (q : ℕ) → (player_at f q ≡ player → ⊥) → AreListed picks xs q → AreListed picks xs (q + 1)
  listed_same picks xs q other listed p c lp whose h = ⊎_elim (λ e. absurd (other (sym (ap (player_at f) e) ∙ whose)))
      (λ ne. listed p c (omega arith) whose h) (cases_eq p q)
