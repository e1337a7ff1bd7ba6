use Rattle.std.proofs.Common.{◌≡◌, ◌+◌, ◌-◌, ◌∙◌, Vec, [], ap, arith, flat_map, get_or, map, subst, sym}
use Rattle.std.proofs.lemmas.{Grind.{common_steps}, List.{get_or-map, take_all}}
use Rattle.std.specs.{declared.alloc.Global.{Global}, Prelude.{All}}
use Rattle.gs_model.specs.Classes.{IsClass}
use Rattle.gs_seq.specs.{Rows.{part_up, row_at}, declared.pair.Pair.{Pair}}
use Rattle.gs_seq.proofs.earlier.parts_above.Goals as goal

pub loop-class-preserved : goal.loop-class-preserved
loop-class-preserved c = grind (arith, common_steps)

pub returns : goal.returns
returns c =
    c.loop-class.invariant ∙ ap (λ ks. flat_map (λ k. map (part_up c.args.classes.now c.args.round) (row_at c.args.rows.now k)) ks)
    (take_all c.loop-class.class-index c.args.below.now (omega (arith, c.loop-class-test.false)))

pub overflow_sub-class : goal.overflow_sub-class
overflow_sub-class c = grind arith

pub bounds-rows-class : goal.bounds-rows-class
bounds-rows-class c = grind arith

pub push_above-requires : goal.push_above-requires
push_above-requires c = record {
  some = grind arith;
  before_last = grind arith;
  classes = let k = get_or c.args.below.now c.loop-class.class-index 0 in
      let pairs = c.requires.below c.loop-class.class-index 0 c.loop-class-test.true in
      let here : row_at c.args.rows.now k ≡ c.deref.result.now =
      get_or-map (λ (v : Vec Pair Global). v.items) c.args.rows.now (k - 1) c.index-rows-class.result [] (omega (arith, pairs.some, pairs.top))
      ∙ ap (λ (v : Vec Pair Global). v.items) (sym c.index-rows-class.is) ∙ sym c.deref.ensures.value in
      subst (All (λ (p : Pair). IsClass c.args.classes.now.lists (c.args.round + 1) p.two)) here pairs.classes;
}
