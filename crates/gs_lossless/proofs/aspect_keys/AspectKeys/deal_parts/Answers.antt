use Rattle.std.proofs.{Common.{◌≡◌, ◌∙◌, ℕ, List, true, ap, arith, length, map, subst, sym}, lemmas.Result.{IfOk-weaker}}
use Rattle.std.specs.Prelude.{◌==◌, filter, slice_index}
use Rattle.gs_model.specs.{Frame.{frame_of}, Game.{round_count}}
use Rattle.gs_model.proofs.Walked.{last_round_of}
use Rattle.gs_tree.specs.{Trees.{rules_of}, Walk.{shows_same}}
use Rattle.gs_lossless.specs.{Amounts.{ArePartsOf, key_count}, Boards.{strengths_of}, Rivals.{IsRivalTable, is_other, part_against}, declared.aspects.Aspect.{Aspect}}
use Rattle.gs_lossless.specs.{declared.parts.Part.{Part}, declared.rivals.Rival.{Rival}, declared.rivals.RivalTable.{RivalTable}}
use Rattle.gs_lossless.proofs.{Descent.{count_last, playable}, AspectOf.{many}}
use Rattle.gs_lossless.proofs.{PartsOf.{of_deals, of_last, same_parts}, Ranks.{strength_at}, Faced.{met_some, table_met}, Scanned.{aspect_in, aspect_signals}}
use Rattle.gs_lossless.proofs.aspect_keys.AspectKeys.deal_parts.Goals as goal

pub returns-in-Some : goal.returns-in-Some
returns-in-Some c =
    let at = c.args.self.now in
    let g = rules_of at.signals.now in
    let f = frame_of g in
    let lists = at.classes.now.lists in
    let signal = c.args.signal in
    let place = c.in-Some.place in
    let found = c.in-Some.ensures.within in
    let table : RivalTable = c.index.result.now in
    let is : IsRivalTable g at.keys.items table = subst (IsRivalTable g at.keys.items) (sym c.index.ensures) (at.each place table found.0) in
    let beside : shows_same g signal table.first ≡ true = subst (λ (t : RivalTable). shows_same g signal t.first ≡ true) (sym c.index.ensures)
    (c.in-Some.ensures.same table) in
    let last : at.round ≡ round_count g = at.last (omega (arith, found.0)) in
    let strong : c.strength.result ≡ slice_index (strengths_of g) signal = c.strength.ensures.value ∙ sym (strength_at g signal found.1) in
    let met : List Part = map (part_against (slice_index (strengths_of g) signal)) (filter (is_other signal) table.rivals.items) in
    let read : map (part_against c.strength.result) (filter (is_other signal) c.deref.result.now) ≡ met =
    ap (λ (n : ℕ). map (part_against n) (filter (is_other signal) c.deref.result.now)) strong
    ∙ ap (λ (l : List Rival). map (part_against (slice_index (strengths_of g) signal)) (filter (is_other signal) l)) c.deref.ensures.value in
    let deals = of_last at.signals.now lists at.aspect at.round signal at.keys.items c.requires.aspect at.are (last ∙ sym (last_round_of g))
    (omega (arith, c.requires.in_range, aspect_signals g at.aspect at.round at.has)) in
    let parts : ArePartsOf f lists at.aspect at.round signal met =
    same_parts f lists at.aspect at.round signal _ met deals
    (met_some g is.plain is.once at.keys.items signal found.1 (filter (is_other signal) table.rivals.items))
    (table_met g is.plain is.once at.keys.items signal found.1 table is beside) in
    IfOk-weaker c.parts_against.result (λ v. v.items ≡ map (part_against c.strength.result) (filter (is_other signal) c.deref.result.now))
    (λ v. ArePartsOf f lists at.aspect at.round signal v.items)
    (λ v e. subst (ArePartsOf f lists at.aspect at.round signal) (sym (e ∙ read)) parts) c.parts_against.ensures

pub descendants-run-requires-clause-last : goal.descendants-run-requires-clause-last
descendants-run-requires-clause-last c =
    let at = c.args.self.now in
    let g = rules_of at.signals.now in
    omega (arith, (aspect_in (frame_of g) at.aspect at.round at.has).1, last_round_of g)

pub run_parts-requires-clause-all : goal.run_parts-requires-clause-all
run_parts-requires-clause-all c =
    let at = c.args.self.now in
    ap (λ (l : List ℕ). length l) c.deref-2.ensures.value ∙ many at ∙ ap (λ (s : Aspect). key_count (rules_of at.signals.now) s at.round) c.requires.aspect

pub run_parts-requires-clause-within : goal.run_parts-requires-clause-within
run_parts-requires-clause-within c =
    let at = c.args.self.now in
    omega (arith, c.descendants-run.ensures.within, count_last (rules_of at.signals.now) (playable at.signals.now))

pub returns : goal.returns
returns c =
    let at = c.args.self.now in
    let g = rules_of at.signals.now in
    let lists = at.classes.now.lists in
    let keys = c.deref-2.result.now in
    let by = ap (λ (k : ℕ). at.round == k) (c.rounds.ensures.value ∙ sym (last_round_of g)) in
    IfOk-weaker c.run_parts.result _ (λ v. ArePartsOf (frame_of g) lists at.aspect at.round c.args.signal v.items)
    (λ v e. of_deals at.signals.now lists at.aspect at.round c.args.signal keys v.items _ _ _ c.requires.aspect (c.deref-2.ensures.value ∙ at.are) by
    c.descendants-run.ensures e) c.run_parts.ensures

pub descendants-run-requires-clause-some : goal.descendants-run-requires-clause-some
descendants-run-requires-clause-some c = grind arith
