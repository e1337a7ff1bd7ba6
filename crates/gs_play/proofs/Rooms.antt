-- There is room for class totals that are found again, and for an answer in which it is noted what has changed.
use Rattle.std.proofs.{Common.{◌≡◌, ℕ, Bool, List, length, ap, ◌∙◌, Vec}, lemmas.List.{length-set}}
use Rattle.std.specs.{Prelude.{slice_index}, Vec.{with_item}, declared.alloc.Global.{Global}}
use Rattle.gs_model.specs.{Classes.{ClassLists}, Frame.{Frame}}
use Rattle.gs_play.specs.{Answers.{HasAnswer}, DueTurns.{IsDues}, Lines.{line_at}, Tallies.{HasTallyRoom, IsAddedUp, IsChosen}}
use Rattle.gs_play.specs.{declared.answers.Answer.{Answer}, declared.line.Line.{Line}, declared.tally.Tally.{Tally}}

module _ (f : Frame) (lists : ClassLists) (lines : List Line) where
  -- where a choice is found again
  pub room_chosen : (point cell now last : ℕ) (old new : Tally) → HasTallyRoom f lists old → new.worths ≡ old.worths → IsDues new.dues
      → length new.dues.soonest.items ≡ length old.dues.soonest.items → IsChosen lines point cell now last old new → HasTallyRoom f lists new
  room_chosen point cell now last old new room worths dues blocks found =
      let best = slice_index new.picks.items cell in
      record {
        worths = ap (λ (v : Vec Line Global). length v.items) worths ∙ room.worths;
        totals = ap (λ (l : List Line). length l) found.totals ∙ length-set old.totals.items cell (line_at lines best) ∙ room.totals;
        picks = ap (λ (l : List ℕ). length l) found.picked.picks ∙ length-set old.picks.items cell best ∙ room.picks;
        turns = ap (λ (l : List ℕ). length l) found.dues ∙ length-set old.dues.turns.items cell (slice_index new.dues.turns.items cell) ∙ room.turns;
        dues = dues;
        blocks = blocks ∙ room.blocks;
        moved = found.picked.long ∙ room.moved;
      }

  -- where worths are added up
  pub room_added : (cell last : ℕ) (old new : Tally) → HasTallyRoom f lists old → new.worths ≡ old.worths → IsDues new.dues
      → length new.dues.soonest.items ≡ length old.dues.soonest.items → new.moved ≡ old.moved → IsAddedUp lines cell last old new → HasTallyRoom f lists new
  room_added cell last old new room worths dues blocks moved found = record {
    worths = ap (λ (v : Vec Line Global). length v.items) worths ∙ room.worths;
    totals = ap (λ (l : List Line). length l) found.totals ∙ length-set old.totals.items cell found.total ∙ room.totals;
    picks = ap (λ (v : Vec ℕ Global). length v.items) found.picks ∙ room.picks;
    turns = ap (λ (l : List ℕ). length l) found.dues ∙ length-set old.dues.turns.items cell last ∙ room.turns;
    dues = dues;
    blocks = blocks ∙ room.blocks;
    moved = ap (λ (v : Vec Bool Global). length v.items) moved ∙ room.moved;
  }

-- an answer in which it is noted of a point whether it was changed
pub has_turned : (f : Frame) (lists : ClassLists) (player now : ℕ) (a : Answer) (q : ℕ) (is : Bool) → HasAnswer f lists player now a
    → HasAnswer f lists player now (record { weights = a.weights; taken = a.taken; since = a.since; turned = with_item a.turned q is })
has_turned f lists player now a q is h = record {
  weights = h.weights;
  taken = h.taken;
  since = h.since;
  turned = length-set a.turned.items q is ∙ h.turned;
  moves = h.moves;
  begun = h.begun;
  few = h.few;
}
