use Rattle.std.proofs.Common.{[], refl}
use Rattle.gs_model.proofs.Isomorphism.{IsomorphicFor-refl}
use Rattle.gs_model.specs.SignalClasses.{SameClass}
use Rattle.gs_worked.specs.Decks.{one_rank, card_signal}
use Rattle.gs_worked.proofs.one_rank.Goals as goal

pub returns : goal.returns
returns c =
    let same : SameClass one_rank 1 (card_signal 0) (card_signal 0) = (IsomorphicFor-refl one_rank [] (card_signal 0), tt) in
    record { hands = refl; count = refl; weight = refl; ties = refl; alike = (same, same, same, same) }
