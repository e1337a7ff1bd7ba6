use Rattle.std.proofs.{Common.{◌≡◌, ◌+◌, All, get_or, sym, ap, ◌∙◌, subst, arith, map, rules, sum_by}, lemmas.List.Sorted.{IsNonDecreasingBy-from_sort_by_key}}
use Rattle.std.specs.Prelude.{flat_map}
use Rattle.gs_filter.specs.Filter.{Filter}
use Rattle.gs_lossless.proofs.Settled.{if_ok}
use Rattle.gs_lossless.specs.declared.parts.Part.{Part}
use Rattle.gs_model.specs.Classes.{class_count}
use Rattle.gs_seq.specs.{Games.{frame_in}, Rows.{HasPairsBelow, IsRow, below_class, gathered, part_up, row_at}}
use Rattle.gs_seq.proofs.{EarlierRows.{classes_in, pairs_in, parts_fit, row_from}, earlier.row_above.Goals.{After-classes-classes, In_ok-parts}}
use Rattle.gs_seq.proofs.earlier.row_above.Goals as goal

-- what holds of the classes
parents : (c : After-classes-classes) → c.args.lossless.now.classes.now.parents ≡ (frame_in c.args.lossless.now.signals.now.game.now).parents
parents c = subst (λ (x : Filter). x.parents ≡ (frame_in c.args.lossless.now.signals.now.game.now).parents) c.classes-classes.ensures.held
    c.classes-classes.ensures.parents

-- the parts are those of the rows of the classes below
parts_are : (c : In_ok-parts)
    → c.in_ok-parts.parts.items
    ≡ flat_map (λ k. map (part_up c.args.lossless.now.classes.now c.args.round) (row_at c.args.rows.now k))
    (below_class c.args.lossless.now.classes.now c.args.round c.args.class (class_count c.args.lossless.now.classes.now.lists (c.args.round + 1)))
parts_are c =
    c.in_ok-parts.ensures ∙ ap (λ (x : Filter). flat_map (λ k. map (part_up x c.args.round) (row_at c.args.rows.now k)) c.args.below.now)
    c.classes-classes.ensures.held
    ∙ ap (flat_map (λ k. map (part_up c.args.lossless.now.classes.now c.args.round) (row_at c.args.rows.now k))) c.requires.below

pub parts_above-requires-clause-below : goal.parts_above-requires-clause-below
parts_above-requires-clause-below c =
    let at = (goal.at.parts_above-requires-clause-below c).After-classes-classes in
    let g = c.args.lossless.now.signals.now.game.now in
    let f = c.args.lossless.now.classes.now in
    let round = c.args.round in
    let rows = c.args.rows.now in
    let ks = below_class f round c.args.class (class_count f.lists (round + 1)) in
    let each : All (HasPairsBelow f round rows) ks = λ i d l. (
    let h = classes_in g f (parents at) round c.requires.some c.requires.before_last rows c.requires.rows c.args.class i d l in
    record {
      some = h.0;
      top = omega (arith, h.1, c.requires.rows.long);
      classes = pairs_in g f (parents at) round c.requires.some c.requires.before_last rows
          c.requires.rows (get_or ks i d) h;
    }) in
    subst (λ (x : Filter). All (HasPairsBelow x round rows) c.args.below.now) (sym c.classes-classes.ensures.held)
    (subst (All (HasPairsBelow f round rows)) (sym c.requires.below) each)

pub row_of-requires : goal.row_of-requires
row_of-requires c =
    let at = goal.at.row_of-requires c in
    let sorted = c.sort_unstable_by_key.new.self.items in
    let few = parts_fit c.args.lossless.now.signals.now.game.now c.args.lossless.now.classes.now (parents at.After-classes-classes) c.args.round c.requires.some
    c.requires.before_last c.args.rows.now
    c.requires.rows c.args.class c.in_ok-parts.parts.items sorted (parts_are at.In_ok-parts) c.sort_unstable_by_key.ensures.permutation in
    omega (arith, few, ap (sum_by (λ (p : Part). p.weight)) c.deref.ensures.value)

pub returns : goal.returns
returns c =
    let at = goal.at.returns c in
    let g = c.args.lossless.now.signals.now.game.now in
    let f = c.args.lossless.now.classes.now in
    let sorted = c.sort_unstable_by_key.new.self.items in
    let row = row_from g f (parents at.After-classes-classes) c.args.round c.requires.some c.requires.before_last c.args.rows.now c.requires.rows c.args.class
    c.in_ok-parts.parts.items sorted
    (parts_are at.In_ok-parts) c.sort_unstable_by_key.ensures.permutation
    (IsNonDecreasingBy-from_sort_by_key (λ (p : Part). p.class) _ c.sort_unstable_by_key.ensures.sorted (λ a r q k. search rules)) in
    if_ok c.row_of.result (λ v. v.items ≡ gathered 1 c.deref.result.now) (λ v. IsRow (frame_in g) f.lists c.args.round c.args.class v.items)
    (λ v e. subst (IsRow (frame_in g) f.lists c.args.round c.args.class) (sym (e ∙ ap (gathered 1) c.deref.ensures.value)) row) c.row_of.ensures

pub parts_above-requires-clause-before_last : goal.parts_above-requires-clause-before_last
parts_above-requires-clause-before_last c = grind arith
