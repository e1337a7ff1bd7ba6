-- What a check of a game's classes finds is what `check` says.
use Rattle.std.proofs.Common.{◌≡◌, ◌⊎◌, ⊎_elim, inl, inr, ℕ, List, Bool, length, arith, refl, sym, ap, ◌∙◌, subst}
use Rattle.gs_file.specs.Reading.{FileGame, file_rules}
use Rattle.gs_filter.specs.Filter.{single_classes}
use Rattle.gs_filter.proofs.ClassLaws.{single_are_classes}
use Rattle.gs_iso.proofs.Whole.{all_parents, parents_at, parents_long}
use Rattle.gs_lossless.proofs.Settled.{singles}
use Rattle.gs_model.specs.{Classes.{ClassLists, IsClasses, list_of}, Frame.{frame_of}, Game.{Game}, Lossless.{IsLossless}}
use Rattle.gs_model.proofs.Ranges.{length-parents}
use Rattle.gs_reply.specs.{Replies.{Prints, Refuses, Reply}, Troubles.{SaysUnlike}}
use Rattle.gs_text.specs.ClassText.{AreListsOf}
use Rattle.gs_words.specs.{declared.request.Grouping.{Grouping}, declared.request.Grouping.TheVariants.{Isomorphism, Coarsest, Single}}
use Rattle.gs_game_commands.specs.Checking.{ChecksGame, IsGrouping, SaysNotLossless}

-- classes over the parents of a game's signals have a number for each signal
pub lists_of : (g : Game) (parents : List (List ℕ)) (lists : ClassLists) → parents ≡ all_parents g → IsClasses parents lists → AreListsOf g lists
lists_of g parents lists e h =
    let n = parents_long g in
    let m : length parents ≡ length (all_parents g) = ap length e in
    record {
      rounds = omega (arith, h.rounds, m, n);
      lengths = λ round some le.
          let l = h.lengths round some (omega (arith, le, m, n)) in
          let at = ap length (ap (λ ps. list_of ps round) e ∙ parents_at g round some le) in
          let p = length-parents g round in
          omega (arith, l, at, p);
    }

-- coarsest classes are lossless, and so are signals by themselves
pub always_lossless : (grouping : Grouping) (g : Game) (lists : ClassLists) → (grouping ≡ Coarsest) ⊎ (grouping ≡ Single) → IsGrouping grouping g lists
    → IsLossless (frame_of g) lists
always_lossless grouping g lists one are = ⊎_elim
    (λ e. let h = subst (λ (x : Grouping). IsGrouping x g lists) e are in h.2.lossless)
    (λ e.
    let h : lists ≡ single_classes (frame_of g).parents = subst (λ (x : Grouping). IsGrouping x g lists) e are in
    subst (IsLossless (frame_of g)) (sym h) (singles (frame_of g) (single_are_classes (frame_of g).parents)))
    one

-- only signal classes can have an unlike pair, since those of the other groupings are lossless
pub unlike_so : (grouping : Grouping) (v : FileGame) (lists : ClassLists) → IsGrouping grouping (file_rules v) lists → (r : Reply) → SaysUnlike v lists r
    → SaysNotLossless grouping v r
unlike_so Isomorphism v lists are r said = (refl, lists, are, said)
unlike_so Coarsest v lists are r said = absurd (said.3.not_lossless (always_lossless Coarsest (file_rules v) lists (inl refl) are))
unlike_so Single v lists are r said = absurd (said.3.not_lossless (always_lossless Single (file_rules v) lists (inr refl) are))

-- so `check` refuses them
pub check_refuses : (grouping : Grouping) (summary : Bool) (v : FileGame) (r : Reply) → SaysNotLossless grouping v r → ChecksGame grouping summary v r
check_refuses grouping summary v (Prints text) (single, classes, are, (round, one, two, pair, told)) = cc
check_refuses grouping summary v (Refuses why) said = said
