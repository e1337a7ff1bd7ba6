use Rattle.std.proofs.{Common.{◌≡◌, Option, Some, None, Result, Err, ap, arith}, lemmas.Grind.{common_steps}}
use Rattle.std.specs.Prelude.{IfSome, IfNone}
use Rattle.gs_card.specs.{Decks.{DeckValue, deck_of_texts}, DeckFaults.{fault_of}}
use Rattle.gs_card.specs.{declared.faults.DeckError.{DeckError}, declared.faults.DeckFault.{DeckFault}}
use Rattle.gs_card.specs.declared.faults.DeckError.TheVariants as errors
use Rattle.gs_file.specs.{Reading.{deck_made}, Faults.{deck}}
use Rattle.gs_file.proofs.build.deck_of.Goals as goal

pub returns-in-Ok : goal.returns-in-Ok
returns-in-Ok c = grind (arith, common_steps)

abbrev failed : DeckError → Result DeckValue DeckError
failed error = Err error

refused : (why : Option DeckFault) (made : DeckValue) (fault : DeckFault) → IfSome why (λ f. failed (errors.Fault fault) ≡ failed (errors.Fault f))
    → IfNone why (errors.Fault fault ≡ errors.Memory) → deck_made made why ≡ Err (deck fault)
refused None made fault _ h = cc
refused (Some why) made fault e _ = let same : why ≡ fault = cc in ap (λ f. deck_made made (Some f)) same

pub returns-in-Err-Fault : goal.returns-in-Err-Fault
returns-in-Err-Fault c =
    let ranks = c.args.ranks.now in
    let suits = c.args.suits.now in
    let copies = c.args.copies.now in
    refused (fault_of ranks suits copies) (deck_of_texts ranks suits copies) c.in-Err-Fault.fault
    (rw c.in-Err-Fault.field-0-is at c.in-Err-Fault.ensures.refused) (rw c.in-Err-Fault.field-0-is at c.in-Err-Fault.ensures.made)
