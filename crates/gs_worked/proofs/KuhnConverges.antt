-- Kuhn's game meets the premises of the law on the gaps of fictitious play.
use Rattle.std.proofs.Common.{◌≡◌, ◌<◌, ℕ, zero, suc, List, [], ◌∷◌, length, get_or, refl, subst, arith, inl, inr, All, ◌-◌}
use Rattle.gs_converge.proofs.Converged.{gaps_converge}
use Rattle.gs_model.specs.{Classes.{IsClasses, IsFilter, InOneClass, class_of, list_of}, Frame.{Frame, frame_of, signal_count, total_weight}}
use Rattle.gs_model.specs.{Betting.{HasPlayers}, Game.{IsPlayable, Round}, Lossless.{IsLossless}, Numbering.{IsNumbered}}
use Rattle.gs_model.proofs.{Few.{IsNumberedAt, below_three, from_one_to_one}, Unlike.{single_signals_are_lossless}}
use Rattle.gs_worked.specs.Kuhn.{KuhnConverges, apart, kuhn}

playable : IsPlayable kuhn
playable = record { some = omega arith; players = players }
  where
    players : All (λ (r : Round). HasPlayers r.tree) kuhn.rounds
    players zero d l = (inl refl, ((inr refl, (tt, ((inl refl, (tt, (tt, tt))), tt))), ((inr refl, (tt, (tt, tt))), tt)))
    players (suc k) d l = absurd (omega arith)

abbrev cards : List ℕ
cards = 1 ∷ 2 ∷ 3 ∷ []

numbered : IsNumbered cards
numbered = below_three (IsNumberedAt cards) (omega arith, omega arith) (omega arith, omega arith) (omega arith, omega arith)

are_classes : IsClasses (frame_of kuhn).parents apart
are_classes = record {
  rounds = refl;
  lengths = λ round lo hi. from_one_to_one (λ n. length (list_of apart n) ≡ length (list_of (frame_of kuhn).parents n)) refl round lo hi;
  numbered = λ round lo hi. from_one_to_one (λ n. IsNumbered (list_of apart n)) numbered round lo hi;
  filter = λ round s t lo hi. absurd (omega arith);
}

-- no two cards share a class
single : (s t : ℕ) → s < 3 → t < 3 → get_or cards s 0 ≡ get_or cards t 0 → s ≡ t
single zero zero l m e = refl
single zero (suc zero) l m e = absurd (omega (arith, e))
single zero (suc (suc zero)) l m e = absurd (omega (arith, e))
single (suc zero) zero l m e = absurd (omega (arith, e))
single (suc zero) (suc zero) l m e = refl
single (suc zero) (suc (suc zero)) l m e = absurd (omega (arith, e))
single (suc (suc zero)) zero l m e = absurd (omega (arith, e))
single (suc (suc zero)) (suc zero) l m e = absurd (omega (arith, e))
single (suc (suc zero)) (suc (suc zero)) l m e = refl
single s (suc (suc (suc t))) l m e = absurd (omega arith)
single (suc (suc (suc s))) t l m e = absurd (omega arith)

in_one : (round s t : ℕ) → InOneClass (frame_of kuhn) apart round s t → s ≡ t
in_one zero s t o = single s t o.first_in o.second_in o.same
in_one (suc zero) s t o = single s t o.first_in o.second_in o.same
in_one (suc (suc n)) s t o = absurd (omega (arith, none))
  where
    less : suc (suc n) - 1 ≡ suc n
    less = omega arith

    none : s < 0
    none = subst (λ k. s < length (get_or (frame_of kuhn).parents k [])) less o.first_in

pub kuhn_converges : KuhnConverges
kuhn_converges p q some = gaps_converge kuhn apart playable are_classes (single_signals_are_lossless (frame_of kuhn) apart in_one) weighs p q some
  where
    weighs : 0 < total_weight (frame_of kuhn)
    weighs = omega arith
