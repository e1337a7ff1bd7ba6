-- What is said of choices, where none is written, where one is, and over several steps.
use Rattle.std.proofs.{Common.{◌≡◌, ℕ, Bool, false, List, get_or, refl, set, sym, ap, ◌∙◌, ⊎_elim, Vec}, lemmas.Bool.{cases_eq}, lemmas.List.{set-get_or}}
use Rattle.std.specs.declared.alloc.Global.{Global}
use Rattle.gs_model.specs.{Classes.{ClassLists, IsClass}, Frame.{Frame, round_of}, Positions.{at_point}}
use Rattle.gs_best.specs.Tables.{moves_of}
use Rattle.gs_play.specs.{Plots.{cell_place}, Tallies.{HasTallyRoom, IsPicked, IsSwept, KeepsChoices, TellsMoves}, declared.tally.Tally.{Tally}}
use Rattle.gs_play.proofs.Lists.{other_cell}

module _ {f : Frame} {lists : ClassLists} where
  pub choices_kept : {t : Tally} → HasTallyRoom f lists t → KeepsChoices f lists t t
  choices_kept room = record { room = room; moved = refl; picks = refl }

  pub choices_next : {old mid new : Tally} → KeepsChoices f lists old mid → KeepsChoices f lists mid new → KeepsChoices f lists old new
  choices_next first second = record { room = second.room; moved = second.moved ∙ first.moved; picks = second.picks ∙ first.picks }

module _ (f : Frame) (lists : ClassLists) where
  -- where no choice is written
  pub tells_same : (old new : Tally) → new.picks ≡ old.picks → new.moved ≡ old.moved → TellsMoves f lists old new
  tells_same old new picks moved p lp still = (
    λ was. still (ap (λ (v : Vec Bool Global). get_or v.items p false) moved ∙ was),
    λ c lc. ap (λ (v : Vec ℕ Global). moves_of f lists v.items p c) picks,
  )

  pub tells_next : (old mid new : Tally) → TellsMoves f lists old mid → TellsMoves f lists mid new → TellsMoves f lists old new
  tells_next old mid new first second p lp still =
      let b = second p lp still in
      let a = first p lp b.0 in
      (a.0, λ c lc. b.1 c lc ∙ a.1 c lc)

  -- no class total is found again
  pub swept_none : (player now : ℕ) (t : Tally) → HasTallyRoom f lists t → IsSwept f lists player now t t
  swept_none player now t room = record { room = room; tells = tells_same t t refl refl; kept = λ pays rise few h. h }

  -- and more are
  pub swept_next : (player now : ℕ) (old mid new : Tally) → IsSwept f lists player now old mid → IsSwept f lists player now mid new
      → IsSwept f lists player now old new
  swept_next player now old mid new first second = record {
    room = second.room;
    tells = tells_next old mid new first.tells second.tells;
    kept = λ pays rise few h. second.kept pays rise few (first.kept pays rise few h);
  }

  -- where one is
  pub tells_picked : (q c best : ℕ) (old new : Tally) → IsClass lists (round_of f (at_point q)) c → IsPicked q (cell_place f lists q c) best old new
      → TellsMoves f lists old new
  tells_picked q c best old new lc h p lp still = ⊎_elim
      (λ (same : p ≡ q).
      let cell = cell_place f lists q c in
      let here = h.here (λ at. still (ap (λ i. get_or new.moved.items i false) same ∙ at)) in
      let kept : new.picks.items ≡ old.picks.items = h.picks ∙ ap (λ b. set old.picks.items cell b) (sym here.1) ∙ set-get_or old.picks.items cell 0 in
      (λ was. here.0 (ap (λ i. get_or old.moved.items i false) (sym same) ∙ was), λ e le. ap (λ (xs : List ℕ). moves_of f lists xs p e) kept))
      (λ (other : p ≡ q → ⊥). (
        λ was. still (h.others p other ∙ was),
        λ e le. other_cell f lists old.picks.items new.picks.items q c best p e h.picks lc le (λ s i. other s),
      ))
      (cases_eq p q)
