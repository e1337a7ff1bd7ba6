-- What `solve`, `play` and `upgrade` print is the text of a confirmed strategy: it fits into an input, and `evaluate` takes it.
use Rattle.std.proofs.Common.{◌≡◌, ℕ, ◌≤◌, List, ap, arith, inl, inr, length}
use Rattle.gs_file.specs.declared.version.Version.TheVariants.{Two}
use Rattle.gs_length.proofs.Length.{text_fits}
use Rattle.gs_length.specs.Length.{EvaluatesWell, OfPrinted}
use Rattle.gs_run.proofs.Concluded.{told_in_two}
use Rattle.gs_run.specs.{Endings.{EndsWell}, Meanings.{IsStrategyFile, Means, OfGameFile}, Running.{most_bytes}, declared.status.Status.{Status}}
use Rattle.gs_run.specs.declared.status.Status.TheVariants as status
use Rattle.gs_strategy.specs.{Confirmed.{IsConfirmed}, Laws.{IsStrategy}, Texts.{strategy_text}, Values.{Strategy}}
use Rattle.gs_words.specs.{Tasks.{of_strategy, Evaluate, Upgrade}, declared.request.Grouping.{Grouping}}

-- the text is that of a confirmed strategy, in version 2
record IsConfirmedText (text : List ℕ) : Type 0 where
  strategy : Strategy
  is : IsStrategy Two strategy
  confirmed : IsConfirmed strategy
  text_is : text ≡ strategy_text Two strategy

file_text : (grouping : Grouping) (says : Strategy → Type 0) (bytes text : List ℕ) → OfGameFile (IsStrategyFile grouping says) bytes text
    → IsConfirmedText text
file_text grouping says bytes text h =
    let f = h.said in
    record { strategy = f.strategy; is = f.is; confirmed = f.confirmed; text_is = f.text_is }

upgraded_text : (bytes text : List ℕ) → Means (of_strategy Upgrade) bytes text → IsConfirmedText text
upgraded_text bytes text h =
    record { strategy = h.strategy; is = told_in_two h.version h.strategy h.is; confirmed = h.said.0; text_is = h.said.1 }

of_printed : (says : List ℕ → Type 0) → ((text : List ℕ) → IsConfirmedText text → says text) → OfPrinted says
of_printed says all = record {
  solved = λ grouping bytes text h. all text (file_text grouping _ bytes text h);
  played = λ grouping turns bytes text h. all text (file_text grouping _ bytes text h);
  upgraded = λ bytes text h. all text (upgraded_text bytes text h);
}

fits : (text : List ℕ) → IsConfirmedText text → length text ≤ most_bytes
fits text c =
    let same = ap (λ (l : List ℕ). length l) c.text_is in
    omega (arith, same, text_fits Two c.strategy c.is c.confirmed.small)

pub printed_fit : OfPrinted (λ text. length text ≤ most_bytes)
printed_fit = of_printed (λ text. length text ≤ most_bytes) fits

well_at_last : (s : Status) → EndsWell s → (s ≡ status.Memory → ⊥) → s ≡ status.Ok
well_at_last s (inl e) no_memory = e
well_at_last s (inr e) no_memory = absurd (no_memory e)

evaluates_well : (text : List ℕ) → IsConfirmedText text → EvaluatesWell text
evaluates_well text c = record {
  run = λ r does asked there nothing. (does.ends (of_strategy Evaluate) text asked (there, fits text c) nothing Two c.strategy c.is c.text_is).1 c.confirmed;
  in_memory = λ words s printed told does asked.
      let ends = does.ends (of_strategy Evaluate) asked (fits text c) in
      well_at_last s ((ends.0 Two c.strategy c.is c.text_is).1 c.confirmed) ends.1;
}

pub printed_well : OfPrinted EvaluatesWell
printed_well = of_printed EvaluatesWell evaluates_well
