use Rattle.std.proofs.lemmas.Grind.{common_steps}
use Rattle.std.proofs.{Common.{◌≡◌, ◌+◌, ◌-◌, ◌<◌, ◌^◌, ℕ, List, ◌++◌, ap, length, map, sym, ◌∙◌, subst, arith}, lemmas.List.Elements.{All-filter}}
use Rattle.std.specs.{Prelude.{◌==◌, All, filter, flat_map}, List.{range_with_len}}
use Rattle.gs_model.specs.Deals.{Deal, deals}
use Rattle.gs_model.proofs.GroupSteps.{flat_map_range_more}
use Rattle.gs_tree.specs.Trees.{rules_of}
use Rattle.gs_lossless.specs.{Amounts.{deal_part}, declared.parts.Part.{Part}}
use Rattle.gs_lossless.proofs.Descent.{deals_light, playable, twos_in}
use Rattle.gs_lossless.proofs.aspects.run_parts.Goals as goal

pub push_parts-requires : goal.push_parts-requires
push_parts-requires c = record {
  in_range = let g = rules_of c.args.signals.now in
      let p : Deal → Type 0 = λ d. d.two < length c.args.keys.now in
      subst (All p) (sym c.deals_of.ensures)
      (All-filter (λ (d : Deal). d.one == c.loop-place.place) p (deals g) (twos_in g (playable c.args.signals.now) (length c.args.keys.now) c.requires.all));
  few = let g = rules_of c.args.signals.now in
      let light : Deal → Type 0 = λ d. d.weight < 2 ^ 32 in
      subst (All light) (sym c.deals_of.ensures)
      (All-filter (λ (d : Deal). d.one == c.loop-place.place) light (deals g) (deals_light g c.args.signals.now.game.now.limits));
}

pub loop-place-preserved : goal.loop-place-preserved
loop-place-preserved c =
    let g = rules_of c.args.signals.now in
    let part = deal_part c.args.keys.now c.args.by_outcome in
    let at : ℕ → List Part = λ x. map part (filter (λ (d : Deal). d.one == x) (deals g)) in
    let first = c.args.run.first in
    let x = c.loop-place.place in
    let here : first + (x - first) ≡ x = omega arith in
    let more : x - first + 1 ≡ x + 1 - first = omega arith in
    c.in_ok-push_parts.ensures
    ∙ ap (λ (l : List Deal). c.loop-place.parts.items ++ map part l) c.deals_of.ensures
    ∙ ap (λ (xs : List Part). xs ++ at x) c.loop-place.invariant
    ∙ sym (flat_map_range_more at first (x - first) x here)
    ∙ ap (λ (n : ℕ). flat_map at (range_with_len first n)) more

pub loop-place-init : goal.loop-place-init
loop-place-init c = grind (arith, common_steps)

pub returns : goal.returns
returns c =
    let part = deal_part c.args.keys.now c.args.by_outcome in
    let at : ℕ → List Part = λ x. map part (filter (λ (d : Deal). d.one == x) (deals (rules_of c.args.signals.now))) in
    let first = c.args.run.first in
    let all : c.loop-place.place ≡ c.args.run.end = omega (arith, c.loop-place.auto, c.loop-place-test.false, c.requires.ordered) in
    c.loop-place.invariant ∙ ap (λ (n : ℕ). flat_map at (range_with_len first (n - first))) all
