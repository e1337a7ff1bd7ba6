use Rattle.std.proofs.Common.{◌≡◌, [], Global, List, Vec, sym, subst, true≢false, ◌∙◌}
use Rattle.gs_frac.specs.declared.value.Fraction.{Fraction}
use Rattle.gs_seq.specs.Abstracts.{abstract_frame, lists_of}
use Rattle.gs_raw.specs.Answers.{AreHandValuesOf}
use Rattle.gs_raw.proofs.judging.duel_over.Goals.{then-with_hands+in_ok-hands, else-with_hands}
use Rattle.gs_raw.proofs.judging.duel_over.Goals as goal

pub returns-clause-hands : goal.returns-clause-hands
returns-clause-hands c asked =
    let s = c.args.side.now in
    let f = abstract_frame s.form.now in
    let lists = lists_of s.form.now in
    let Hands : List Fraction → Type 0 = AreHandValuesOf f lists s.one.now lists s.two.now in
    elim c.if-with_hands.branch [
      | then-with_hands+in_ok-hands w ↦ subst (λ (v : Vec Fraction Global). Hands v.items) (sym w.hands-is) w.in_ok-hands.ensures
      | else-with_hands w ↦ absurd (true≢false (sym asked ∙ w.if-with_hands.false))
    ]

pub returns-clause-none : goal.returns-clause-none
returns-clause-none c asked =
    elim c.if-with_hands.branch [
      | then-with_hands+in_ok-hands w ↦ absurd (true≢false (sym w.if-with_hands.true ∙ asked))
      | else-with_hands w ↦ subst (λ (v : Vec Fraction Global). v.items ≡ []) (sym w.hands-is) w.new-hands.ensures.items
    ]
