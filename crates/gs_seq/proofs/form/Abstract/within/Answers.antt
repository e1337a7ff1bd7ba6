use Rattle.std.proofs.{Common.{◌≡◌, ◌≤◌, ℕ, List, Vec, ap, refl, sym, true, ◌∙◌, subst, arith, ⊎_elim}, lemmas.Result.{err_from_is_err_and}}
use Rattle.std.specs.{declared.alloc.Global.{Global}, Prelude.{All, IfErr, None, Option, Some, is_some}}
use Rattle.gs_filter.specs.Filter.{Filter}
use Rattle.gs_game.specs.declared.valid.ValidGame.{ValidGame}
use Rattle.gs_model.specs.{Classes.{ClassLists}, Frame.{Frame}}
use Rattle.gs_tree.specs.declared.signals.Signals.{Signals}
use Rattle.gs_seq.specs.{Cells.{cell_count}, Games.{frame_in}, Rows.{AreRows, AreWholes, IsSlim}, Slots.{AreOffsets, slot_count}}
use Rattle.gs_seq.specs.{Stops.{HasSequencesWithin, IsErrorAt, IsFaultAt, IsTooLong}, declared.stop.SeqFault.TheVariants.{TooManySequences, TooManyCells}}
use Rattle.gs_seq.specs.{declared.limits.Limits.{Limits}, declared.pair.Pair.{Pair}, declared.stop.SeqFault.{SeqFault}}
use Rattle.gs_seq.proofs.{Carried.{carried}, Wholed.{rows_slim}, form.Abstract.within.Goals.{After-game-game, In_ok-count}}
use Rattle.gs_seq.proofs.form.Abstract.within.Goals as goal

too_long : (most : Limits) (f : Frame) (lists : ClassLists) (e : SeqFault) → IsTooLong most.sequences f lists e → IsFaultAt most f lists e
too_long most f lists (TooManySequences player count) h = h
too_long most f lists (TooManyCells count) h = ⊎_elim (λ one. absurd one) (λ two. absurd two.1) h

fewer : (n most top : ℕ) → n ≤ most → most ≤ top → n ≤ top
fewer n most top l m = omega (arith, l, m)

-- what holds of the game and classes as they are called here holds of those that came in
moved : (c : After-game-game) (P : Frame → ClassLists → Type 0) → P (frame_in c.game-game.result.now) c.classes-classes.result.now.lists
    → P (frame_in c.args.lossless.now.signals.now.game.now) c.args.lossless.now.classes.now.lists
moved c P = carried c.game-game.result.now c.args.lossless.now.signals.now.game.now c.classes-classes.result.now c.args.lossless.now.classes.now P
    (c.game-game.ensures ∙ ap (λ (x : Signals). x.game.now) c.signals-signals.ensures.held) c.classes-classes.ensures.held

-- the classes stand over the game
over : (c : After-game-game) → c.classes-classes.result.now.parents ≡ (frame_in c.game-game.result.now).parents
over c =
    let same = c.game-game.ensures ∙ ap (λ (x : Signals). x.game.now) c.signals-signals.ensures.held in
    ap (λ (x : Filter). x.parents) c.classes-classes.ensures.held ∙ c.args.lossless.now.parents ∙ ap (λ (g : ValidGame). (frame_in g).parents) (sym same)

-- how many sequences and cells there are
few : (c : In_ok-count) → HasSequencesWithin c.args.most.sequences (frame_in c.args.lossless.now.signals.now.game.now) c.args.lossless.now.classes.now.lists
few c = moved (goal.at.In_ok-count c).After-game-game (HasSequencesWithin c.args.most.sequences) c.in_ok-one.ensures.few

count : (c : In_ok-count) → c.in_ok-count.count ≡ cell_count (frame_in c.args.lossless.now.signals.now.game.now) c.args.lossless.now.classes.now.lists
count c = moved (goal.at.In_ok-count c).After-game-game (λ f lists. c.in_ok-count.count ≡ cell_count f lists) c.in_ok-count.ensures

pub returns-in_err-one-clause-refused : goal.returns-in_err-one-clause-refused
returns-in_err-one-clause-refused c =
    let f = frame_in c.args.lossless.now.signals.now.game.now in
    let lists = c.args.lossless.now.classes.now.lists in
    let long = moved (goal.at.returns-in_err-one-clause-refused c).After-game-game (λ f lists. IsTooLong c.args.most.sequences f lists c.in_err-one.field-0.0)
    c.in_err-one.ensures.refused in
    let e = err_from_is_err_and c.from_residual.result c.from_residual.ensures.1 in
    subst (λ r. IfErr r (IsErrorAt c.args.most f lists)) (sym e.1)
    (subst (IsErrorAt c.args.most f lists) (sym e.2) (too_long c.args.most f lists c.in_err-one.field-0.0 long))

-- what holds if there is a value holds if there is one
where_some : {X : Type 0} (o : Option X) (P : Type 0) → ((x : X) → o ≡ Some x → P) → is_some o ≡ true → P
where_some (Some x) P h t = h x refl
where_some None P h t = absurd cc

pub rows_of-requires : goal.rows_of-requires
rows_of-requires c = λ t. where_some c.in_ok-order.order _ c.in_ok-order.ensures.single (sym c.is_some.ensures ∙ t)

pub wholes_of-requires : goal.wholes_of-requires
wholes_of-requires c =
    let s = c.args.lossless.now in
    subst (All (λ (v : Vec (Vec Pair Global) Global). All (λ (r : Vec Pair Global). IsSlim r.items) v.items)) (sym c.deref.ensures.value)
    (rows_slim s.signals.now.game.now s.classes.now s.parents c.in_ok-rows.rows.items c.in_ok-rows.ensures.rows)

pub invariant_of-result : goal.invariant_of-result
invariant_of-result c =
    let at = (goal.at.invariant_of-result c).After-game-game in
    let sequences = few (goal.at.invariant_of-result c).In_ok-count in
    record {
      few = record { one = fewer _ _ _ sequences.one c.requires; two = fewer _ _ _ sequences.two c.requires };
      placed = moved at (λ f lists. AreOffsets f lists c.in_ok-offsets.offsets.items) c.in_ok-offsets.ensures;
      ones = moved at (λ f lists. c.in_ok-one.one ≡ slot_count f lists 1) c.in_ok-one.ensures.one;
      twos = moved at (λ f lists. c.in_ok-one.two ≡ slot_count f lists 2) c.in_ok-one.ensures.two;
      paired = c.in_ok-rows.ensures.rows;
      wholed = subst (λ (rows : List (Vec (Vec Pair Global) Global)). AreWholes rows c.in_ok-wholes.wholes.items) c.deref.ensures.value c.in_ok-wholes.ensures;
      ordered = c.in_ok-order.ensures.sums;
      single = c.in_ok-order.ensures.single;
      listed = λ none. c.in_ok-rows.ensures.all (c.is_some.ensures ∙ ap is_some none);
    }

pub offsets_of-requires-clause-parents : goal.offsets_of-requires-clause-parents
offsets_of-requires-clause-parents c = over (goal.at.offsets_of-requires-clause-parents c).After-game-game

pub few_slots-requires : goal.few_slots-requires
few_slots-requires c = over (goal.at.few_slots-requires c).After-game-game

pub cells-requires : goal.cells-requires
cells-requires c = record {
  parents = over (goal.at.cells-requires c).After-game-game;
  rows = let s = c.args.lossless.now in
      let game = c.game-game.result.now in
      let classes = c.classes-classes.result.now in
      let same : s.signals.now.game.now ≡ game = sym (c.game-game.ensures ∙ ap (λ (x : Signals). x.game.now) c.signals-signals.ensures.held) in
      subst (AreRows (frame_in game) classes.lists) (sym c.deref-2.ensures.value)
      (carried s.signals.now.game.now game s.classes.now classes (λ f lists. AreRows f lists c.in_ok-rows.rows.items) same
      (sym c.classes-classes.ensures.held) c.in_ok-rows.ensures.rows);
}

pub returns-then-count-most : goal.returns-then-count-most
returns-then-count-most c = record {
  held = omega arith;
  small = omega arith;
  refused = let at = (goal.at.returns-then-count-most c).In_ok-count in (few at, count at, c.if-count-most.true);
}

pub returns : goal.returns
returns c = record {
  held = grind arith;
  small = let at = (goal.at.returns c).In_ok-count in record
      { sequences = few at; cells = omega (arith, count at, c.if-count-most.false) };
  refused = omega arith;
}
