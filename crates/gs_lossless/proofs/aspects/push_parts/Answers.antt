use Rattle.std.proofs.{Common.{◌≡◌, ◌<◌, ◌^◌, ◌++◌, ◌∷◌, [], List, ap, length, map, sym, ◌∙◌, subst, append_assoc}, lemmas.List.Elements.{All-head, All-tail}}
use Rattle.std.specs.Prelude.{All}
use Rattle.gs_model.specs.Deals.{Deal}
use Rattle.gs_lossless.specs.{Amounts.{deal_part}, declared.parts.Part.{Part}}
use Rattle.gs_lossless.proofs.aspects.push_parts.Goals as goal

pub loop-deal-preserved : goal.loop-deal-preserved
loop-deal-preserved c =
    let part = deal_part c.args.keys.now c.args.by_outcome in
    let deal = c.in-Some.deal in
    let rest : List Deal = c.next.new.self in
    let before : List Deal = c.loop-deal.deal-iterator in
    let first : before ≡ deal ∷ rest = c.in-Some.ensures.steps in
    let parts = c.loop-deal.parts.items in
    let inside : Deal → Type 0 = λ d. d.two < length c.args.keys.now in
    let light : Deal → Type 0 = λ d. d.weight < 2 ^ 32 in
    record {
      done = ap (λ (xs : List Part). xs ++ map part rest) (c.in_ok-push.ensures.items ∙ ap (λ (p : Part). parts ++ p ∷ []) c.part_of.ensures)
          ∙ append_assoc parts (part deal ∷ []) (map part rest)
          ∙ ap (λ (l : List Deal). parts ++ map part l) (sym first)
          ∙ c.loop-deal.invariant.done;
      inside = All-tail inside deal rest (subst (All inside) first c.loop-deal.invariant.inside);
      few = All-tail light deal rest (subst (All light) first c.loop-deal.invariant.few);
    }

pub part_of-requires : goal.part_of-requires
part_of-requires c = record {
  in_range = let inside : Deal → Type 0 = λ d. d.two < length c.args.keys.now in
      All-head inside c.in-Some.deal c.next.new.self (subst (All inside) c.in-Some.ensures.steps c.loop-deal.invariant.inside);
  few = let light : Deal → Type 0 = λ d. d.weight < 2 ^ 32 in
      All-head light c.in-Some.deal c.next.new.self (subst (All light) c.in-Some.ensures.steps c.loop-deal.invariant.few);
}
