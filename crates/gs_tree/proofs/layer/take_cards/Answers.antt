use Rattle.std.proofs.Common.{◌≡◌, ℕ, List, length, sym, ap, ◌∙◌, arith}
use Rattle.gs_model.specs.Cards.{left_after}
use Rattle.gs_tree.proofs.Taken.{taken_none, taken_step, taken_end, few_left}
use Rattle.gs_tree.proofs.layer.take_cards.Goals as goal
use Rattle.gs_model.proofs.Listed.{length-after}

pub loop-card-init : goal.loop-card-init
loop-card-init c = sym (taken_none c.args.rest.now.items)

pub loop-card-preserved : goal.loop-card-preserved
loop-card-preserved c = taken_step c.args.rest.now.items c.loop-card.rest.items c.take_copy.new.rest.items c.args.cards.now c.loop-card.card-index
    c.card-item.result c.from.result (omega arith) c.card-item.is (c.from.ensures ∙ c.number.ensures) c.loop-card.invariant c.take_copy.ensures

pub returns : goal.returns
returns c =
    let old : List ℕ = c.args.rest.now.items in
    let value : c.loop-card.rest.items ≡ left_after old c.args.cards.now =
    taken_end old c.loop-card.rest.items c.args.cards.now c.loop-card.card-index (omega arith) c.loop-card.invariant in
    record {
      value = value;
      few = few_left old c.loop-card.rest.items c.args.cards.now value c.requires;
      len = ap (λ (l : List ℕ). length l) value ∙ length-after old c.args.cards.now;
    }
