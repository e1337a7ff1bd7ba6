-- The verdict on Kuhn's game after one turn of play: best values of both players, tested by computing, and what follows from them.
use Rattle.std.proofs.{Common.{◌≡◌, ℕ, zero, suc, ◌-◌, ◌<◌, ◌≤◌, [], ◌∷◌, get_or, length, refl, arith, inl, inr, All}}
use Rattle.std.specs.Prelude.{pos, negsuc}
use Rattle.gs_model.specs.{BestAnswers.{IsBestValues, Values}, Classes.{InOneClass, IsClasses, list_of}}
use Rattle.gs_model.specs.Frame.{frame_of, leads_to, move_count, payoff_to, player_at, round_of, last_step, ancestor, signal_count}
use Rattle.gs_model.specs.{Game.{IsPlayable, Round}, Betting.{HasPlayers}, Lossless.{IsLossless}, Numbering.{IsNumbered}, Plans.{lift}}
use Rattle.gs_model.proofs.{Exchanged.{exchanged_one}, Few.{IsNumberedAt, below_three, from_one_to_one}, FirstBest.{verdict_from}, Ranges.{in_range}}
use Rattle.gs_model.proofs.{Unlike.{single_signals_are_lossless}, Walked.{walked_one, walked_two}}
use Rattle.gs_worked.proofs.{Kuhn.{moves_by, values_by}, Tested.{best_at}}
use Rattle.gs_worked.specs.Kuhn.{KuhnVerdict, apart, kuhn, kuhn_tree, turn_one, turn_two}

-- player 1 against player 2's plan
abbrev one_values : Values
one_values = values_by 1 turn_two ((pos 4 ∷ pos 4 ∷ pos 6 ∷ []) ∷ (negsuc 3 ∷ pos 1 ∷ pos 6 ∷ []) ∷ (negsuc 0 ∷ pos 2 ∷ pos 4 ∷ []) ∷ (pos 4 ∷ pos 4 ∷ pos 4 ∷ []) ∷ [])

abbrev one_move : ℕ → ℕ → ℕ
one_move = moves_by ((1 ∷ 1 ∷ 0 ∷ []) ∷ [] ∷ (0 ∷ 1 ∷ 1 ∷ []) ∷ [] ∷ [])

one_best : IsBestValues (frame_of kuhn) apart 1 (lift (frame_of kuhn) apart turn_two) one_values one_move
unfolding ancestor round_of last_step payoff_to player_at move_count leads_to
one_best = best_at (frame_of kuhn) apart 1 (lift (frame_of kuhn) apart turn_two) one_values one_move refl (λ z c l m. refl)

-- player 2 against player 1's plan
abbrev two_values : Values
two_values = values_by 2 turn_one ((pos 2 ∷ pos 5 ∷ pos 6 ∷ []) ∷ (pos 3 ∷ pos 3 ∷ pos 2 ∷ []) ∷ (pos 3 ∷ pos 3 ∷ pos 2 ∷ []) ∷ (negsuc 0 ∷ pos 2 ∷ pos 4 ∷ []) ∷ [])

abbrev two_move : ℕ → ℕ → ℕ
two_move = moves_by ([] ∷ (1 ∷ 1 ∷ 0 ∷ []) ∷ [] ∷ (0 ∷ 1 ∷ 1 ∷ []) ∷ [])

two_best : IsBestValues (frame_of kuhn) apart 2 (lift (frame_of kuhn) apart turn_one) two_values two_move
unfolding ancestor round_of last_step payoff_to player_at move_count leads_to
two_best = best_at (frame_of kuhn) apart 2 (lift (frame_of kuhn) apart turn_one) two_values two_move refl (λ z c l m. refl)

-- ---- the game

playable : IsPlayable kuhn
playable = record { some = omega arith; players = players }
  where
    has : HasPlayers kuhn_tree
    has = (inl refl, ((inr refl, (tt, ((inl refl, (tt, (tt, tt))), tt))), ((inr refl, (tt, (tt, tt))), tt)))

    players : All (λ (r : Round). HasPlayers r.tree) kuhn.rounds
    players zero d l = has
    players (suc k) d l = absurd (omega arith)

numbered : IsNumbered (1 ∷ 2 ∷ 3 ∷ [])
numbered = below_three (λ k. IsNumberedAt (1 ∷ 2 ∷ 3 ∷ []) k) (omega arith, omega arith) (omega arith, omega arith) (omega arith, omega arith)

classes : IsClasses (frame_of kuhn).parents apart
classes = record { rounds = refl; lengths = lengths; numbered = numbers; filter = λ round s t lo hi. absurd (omega arith) }
  where
    lengths : (round : ℕ) → 0 < round → round ≤ 1 → length (list_of apart round) ≡ length (list_of (frame_of kuhn).parents round)
    lengths = from_one_to_one (λ n. length (list_of apart n) ≡ length (list_of (frame_of kuhn).parents n)) refl

    numbers : (round : ℕ) → 0 < round → round ≤ 1 → IsNumbered (list_of apart round)
    numbers = from_one_to_one (λ n. IsNumbered (list_of apart n)) numbered

-- no two cards are of one class
one_signal : (s t : ℕ) → s < 3 → t < 3 → ◌≡◌ {A = ℕ} (get_or (1 ∷ 2 ∷ 3 ∷ []) s 0) (get_or (1 ∷ 2 ∷ 3 ∷ []) t 0) → s ≡ t
one_signal zero zero l m e = refl
one_signal zero (suc zero) l m e = absurd (omega (arith, e))
one_signal zero (suc (suc zero)) l m e = absurd (omega (arith, e))
one_signal (suc zero) zero l m e = absurd (omega (arith, e))
one_signal (suc zero) (suc zero) l m e = refl
one_signal (suc zero) (suc (suc zero)) l m e = absurd (omega (arith, e))
one_signal (suc (suc zero)) zero l m e = absurd (omega (arith, e))
one_signal (suc (suc zero)) (suc zero) l m e = absurd (omega (arith, e))
one_signal (suc (suc zero)) (suc (suc zero)) l m e = refl
one_signal (suc (suc (suc s))) t l m e = absurd (omega arith)
one_signal s (suc (suc (suc t))) l m e = absurd (omega arith)

none_later : (round : ℕ) → signal_count (frame_of kuhn) (suc (suc round)) ≡ 0
none_later round = let e : suc (suc round) - 1 ≡ suc round = omega arith in rw e refl

lossless : IsLossless (frame_of kuhn) apart
lossless = single_signals_are_lossless (frame_of kuhn) apart apart_all
  where
    apart_all : (round s t : ℕ) → InOneClass (frame_of kuhn) apart round s t → s ≡ t
    apart_all zero s t i = one_signal s t i.first_in i.second_in i.same
    apart_all (suc zero) s t i = one_signal s t i.first_in i.second_in i.same
    apart_all (suc (suc round)) s t i = let within = i.first_in in absurd (omega (arith, none_later round))

pub kuhn_verdict : KuhnVerdict
unfolding ancestor round_of last_step payoff_to player_at move_count leads_to
kuhn_verdict =
    verdict_from (frame_of kuhn) apart turn_one turn_two one_values two_values one_move two_move (pos 1, 12) (pos 13, 12) (pos 7, 6) (in_range kuhn playable)
    (walked_one kuhn playable) (walked_two kuhn playable) (exchanged_one kuhn) classes lossless one_best two_best (omega arith, omega arith, omega arith) refl
    refl refl
