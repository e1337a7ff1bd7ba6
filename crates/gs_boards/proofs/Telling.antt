-- What the places and the boards of two signals tell: whether they show the same public cards, and the outcome of their deal.
use Rattle.std.proofs.Common.{◌≡◌, ◌<◌, ◌≤◌, ◌∙◌, ℕ, ℤ, pos, neg_ℤ, Bool, true, false, cond, nat_lt, List, get_or, refl, sym, ap, subst}
use Rattle.std.proofs.Common.{arith, true≢false, ⊎_elim}
use Rattle.std.proofs.{lemmas.Bool.{cases_lt}, lemmas.Bool.Decides.{Decides-eqb}}
use Rattle.std.specs.Prelude.{◌==◌, slice_index}
use Rattle.gs_model.specs.{Game.{Game, round_count}, Outcome.{category}, Signals.{Signal, signal_at}, ViewTree.{signal_outcome, signal_strength}}
use Rattle.gs_model.proofs.Basics.{not_eq}
use Rattle.gs_tree.specs.{Boards.{AreBoards}, Walk.{last_count, shows_same}}
use Rattle.gs_tree.proofs.Same.{public_alike, public_self}
use Rattle.gs_boards.specs.{Boards.{IsFirstOn, IsPlace}, Runs.{outcome_at}, declared.place.Place.{Place}}

module _ (g : Game) where
  at : ℕ → Signal
  at i = signal_at g (round_count g) i

  -- who shows the same as one shows the same as all that do
  pub alike : (i j k : ℕ) → shows_same g i j ≡ true → shows_same g i k ≡ shows_same g j k
  alike i j k = public_alike (signal_at g (round_count g) i) (signal_at g (round_count g) j) (signal_at g (round_count g) k)

  turned : (i j : ℕ) → shows_same g i j ≡ true → shows_same g j i ≡ true
  turned i j h = sym (alike i j i h) ∙ public_self (signal_at g (round_count g) i)

  -- signals that show the same have one first signal
  pub one_first : (i j a b : ℕ) → IsFirstOn g i a → IsFirstOn g j b → shows_same g i j ≡ true → a ≡ b
  one_first i j a b f h same = ⊎_elim
      (λ (lt : a < b). absurd (true≢false (sym (sym (alike i j a same) ∙ f.same) ∙ h.none_before a lt)))
      (λ (le : b ≤ a). ⊎_elim
      (λ (lt : b < a). absurd (true≢false (sym (alike i j b same ∙ h.same) ∙ f.none_before b lt)))
      (λ (ge : a ≤ b). omega (arith, le, ge))
      (cases_lt b a))
      (cases_lt a b)

  pub board_tells : (p q : Place) → IsPlace g p → IsPlace g q → shows_same g p.signal q.signal ≡ (q.board == p.board)
  board_tells p q ip iq = by (shows_same g p.signal q.signal) refl
    where
      by : (b : Bool) → shows_same g p.signal q.signal ≡ b → b ≡ (q.board == p.board)
      by true e =
          sym ((Decides-eqb q.board p.board).1 (sym (one_first p.signal q.signal p.board q.board ip.board iq.board e)))
      by false e = sym (not_eq q.board p.board (λ is.
          let there : shows_same g q.signal p.board ≡ true = ap (λ (k : ℕ). shows_same g q.signal k) (sym is) ∙ iq.board.same in
          let back : shows_same g p.board q.signal ≡ true = turned q.signal p.board there in
          true≢false (sym (alike p.signal p.board q.signal ip.board.same ∙ back) ∙ e)))

  pub outcome_tells : (p q : Place) → IsPlace g p → IsPlace g q → signal_outcome g (signal_at g (round_count g) p.signal)
      (signal_at g (round_count g) q.signal) ≡ outcome_at p q
  outcome_tells p q ip iq =
      let bonus : ℕ → ℤ = λ s. pos (slice_index g.bonus (category g.ranking s)) in
      let F : ℕ → ℕ → ℤ = λ a b. cond (nat_lt b a) (bonus a) (cond (nat_lt a b) (neg_ℤ (bonus b)) (pos 0)) in
      ap (λ a. F a (signal_strength g (signal_at g (round_count g) q.signal))) (sym ip.strength) ∙ ap (F p.strength) (sym iq.strength)
      ∙ ap (λ w. cond (nat_lt q.strength p.strength) (pos w) (cond (nat_lt p.strength q.strength) (neg_ℤ (bonus q.strength)) (pos 0))) (sym ip.win)
      ∙ ap (λ w. cond (nat_lt q.strength p.strength) (pos p.win) (cond (nat_lt p.strength q.strength) (neg_ℤ (pos w)) (pos 0))) (sym iq.win)

-- ---- the first signals of all boards

pub first_of : {g : Game} {firsts nexts : List ℕ} → AreBoards g firsts nexts → (s : ℕ) → s < last_count g → IsFirstOn g s (get_or firsts s 0)
first_of boards s l = record { within = boards.first_in s l; same = boards.first_same s l; none_before = λ k b. boards.none_before s k l b }

pub first_here : {g : Game} {firsts nexts : List ℕ} → AreBoards g firsts nexts → (n : ℕ) → n < last_count g → get_or firsts n 0 ≡ n → IsFirstOn g n n
first_here {g} boards n l own = subst (IsFirstOn g n) own (first_of boards n l)

-- a signal that is not the first on its board is the first of none
pub first_of_none : {g : Game} {firsts nexts : List ℕ} → AreBoards g firsts nexts → (n : ℕ) → (get_or firsts n 0 ≡ n → ⊥) → (s : ℕ) → s < last_count g
    → get_or firsts s 0 ≡ n → ⊥
first_of_none {g} {firsts} boards n other s l e =
    let f : ℕ = get_or firsts s 0 in
    let again : f ≡ get_or firsts f 0 =
    one_first g s f f (get_or firsts f 0) (first_of boards s l) (first_of boards f (boards.first_in s l)) (boards.first_same s l) in
    other (sym (ap (λ k. get_or firsts k 0) e) ∙ sym again ∙ e)

-- a signal shows the same as the first one on its board, and as no other first one
pub first_shows : {g : Game} {firsts nexts : List ℕ} → AreBoards g firsts nexts → (n : ℕ) → n < last_count g → get_or firsts n 0 ≡ n
    → (s : ℕ) → s < last_count g → (get_or firsts s 0 ≡ n → shows_same g n s ≡ true) × ((get_or firsts s 0 ≡ n → ⊥) → shows_same g n s ≡ false)
first_shows {g} {firsts} boards n l own s in' = (
  λ e. turned g s n (ap (λ k. shows_same g s k) (sym e) ∙ boards.first_same s in'),
  λ other. by other (shows_same g n s) refl,
)
  where
    by : (get_or firsts s 0 ≡ n → ⊥) → (b : Bool) → shows_same g n s ≡ b → b ≡ false
    by other false e = refl
    by other true e = absurd (other (sym (one_first g n s n (get_or firsts s 0) (first_here boards n l own) (first_of boards s in') e)))
