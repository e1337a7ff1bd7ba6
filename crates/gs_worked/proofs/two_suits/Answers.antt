use Rattle.std.proofs.Common.{◌≡◌, [], pos, negsuc, refl}
use Rattle.gs_model.proofs.Isomorphism.{IsomorphicFor-refl}
use Rattle.gs_worked.specs.Decks.{card_signal, two_suits}
use Rattle.gs_worked.proofs.Sums.{leaf_sums}
use Rattle.gs_worked.proofs.two_suits.Goals as goal

pub returns : goal.returns
returns c = record {
  hands = refl;
  count = refl;
  weight = refl;
  jack = refl;
  queen = refl;
  king = refl;
  jacks = (IsomorphicFor-refl two_suits [] (card_signal 0), tt);
  queens = (IsomorphicFor-refl two_suits [] (card_signal 2), tt);
  kings = (IsomorphicFor-refl two_suits [] (card_signal 4), tt);
  jack_is_no_queen = λ h. let e : negsuc 3 ≡ pos 0 = leaf_sums two_suits (card_signal 0) (card_signal 2) h.0 in absurd (cc);
  queen_is_no_king = λ h. let e : pos 0 ≡ pos 4 = leaf_sums two_suits (card_signal 2) (card_signal 4) h.0 in absurd (cc);
  jack_is_no_king = λ h. let e : negsuc 3 ≡ pos 4 = leaf_sums two_suits (card_signal 0) (card_signal 4) h.0 in absurd (cc);
}
