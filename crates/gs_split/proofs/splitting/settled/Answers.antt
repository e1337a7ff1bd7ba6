use Rattle.std.proofs.lemmas.Grind.{common_steps}
use Rattle.std.proofs.lemmas.Result.{IfOk-from_err}
use Rattle.std.proofs.Common.{◌-◌, ◌<◌, ◌^◌, ◌∙◌, ℕ, Bool, List, arith, refl, rules, subst, sym}
use Rattle.gs_model.specs.{Classes.{IsClasses}, Frame.{frame_of}}
use Rattle.gs_model.proofs.{Ranges.{in_range}, Walked.{last_round_of}}
use Rattle.gs_tree.specs.Trees.{rules_of}
use Rattle.gs_lossless.proofs.{Descent.{playable}, Settled.{over}}
use Rattle.gs_split.specs.Turns.{AreKnown}
use Rattle.gs_split.proofs.{Known.{none_known}, Splits.{ended, one_more}}
use Rattle.gs_split.proofs.splitting.settled.Goals as goal

-- more classes leave fewer to come
less : (total now : ℕ) → total < now → now < 2 ^ 40 → 2 ^ 40 - now < 2 ^ 40 - total
less total now more few = omega (arith, more, few)

pub turn-requires-clause-known : goal.turn-requires-clause-known
turn-requires-clause-known c =
    let g = rules_of c.args.signals.now in
    none_known (frame_of g) c.args.from.now.lists c.deref.result.now c.from.result
    (c.deref.ensures.value ∙ c.in_ok-known.ensures.items_if_clones_equal (λ y k. search rules))
    (omega (arith, c.from.ensures, c.rounds.ensures.value, last_round_of g))

pub loop-total-init : goal.loop-total-init
loop-total-init c =
    let g = rules_of c.args.signals.now in
    record {
      parents = c.in_ok-classes.ensures.parents;
      known = none_known (frame_of g) c.in_ok-classes.classes.lists c.in_ok-known.known.items c.from.result
          (c.in_ok-known.ensures.items_if_clones_equal (λ y k. search rules)) (omega (arith, c.from.ensures, c.rounds.ensures.value, last_round_of g));
      underway = record {
        old = c.args.from.now.lists;
        classes = subst (λ (ps : List (List ℕ)). IsClasses ps c.args.from.now.lists) c.requires c.class_total-total.ensures.classes;
        refines = λ round s t some le both. both.same;
        keeps = λ other lossless refines. refines;
        turn = c.in_ok-classes.ensures.turn;
        counted = c.class_total-total.ensures.value;
      };
    }

pub loop-total-preserved : goal.loop-total-preserved
loop-total-preserved c =
    let g = rules_of c.args.signals.now in
    let f = frame_of g in
    let now = c.loop-total.classes in
    let k = over f now c.loop-total.invariant.parents c.class_total.ensures.classes in
    record {
      parents = c.in_ok-finer.ensures.parents;
      known = c.in_ok-known-2.ensures;
      underway = one_more f (in_range g (playable c.args.signals.now)) c.args.from.now.lists now.lists c.loop-total.total k c.loop-total.invariant.underway
          c.in_ok-finer.finer.lists
          c.class_total-total-in-loop-total.result c.in_ok-finer.ensures.turn c.class_total-total-in-loop-total.ensures.value;
    }

pub loop-total-smaller : goal.loop-total-smaller
loop-total-smaller c =
    let n = c.class_total-total-in-loop-total in
    less c.loop-total.total n.result
    (subst (λ k. c.loop-total.total < k) (c.class_total.ensures.value ∙ sym n.ensures.value) c.loop-total-test.true) n.ensures.few

pub known_rounds-requires : goal.known_rounds-requires
known_rounds-requires c = grind (arith, common_steps)

pub turn-requires-in-loop-total : goal.turn-requires-in-loop-total
turn-requires-in-loop-total c = record {
  parents = c.loop-total.invariant.parents;
  known = subst (λ (k : List Bool). AreKnown (frame_of (rules_of c.args.signals.now)) c.loop-total.classes.lists k) (sym c.deref-in-loop-total.ensures.value)
      c.loop-total.invariant.known;
}

pub returns : goal.returns
returns c = record {
  coarsest = let g = rules_of c.args.signals.now in
      let f = frame_of g in
      let p = playable c.args.signals.now in
      let now = c.loop-total.classes in
      let k = over f now c.loop-total.invariant.parents c.class_total.ensures.classes in
      ended f (in_range g p) c.args.from.now.lists now.lists c.loop-total.total k c.loop-total.invariant.underway (omega (arith, last_round_of g, p.some))
      (omega (arith, c.loop-total-test.false, c.class_total.ensures.value));
  parents = c.loop-total.invariant.parents;
}

pub same-finer : goal.same-finer
same-finer c = refl

pub returns-in_err-classes : goal.returns-in_err-classes
returns-in_err-classes c = let failed = c.from_residual-in_err-classes.ensures.0 in record {
  coarsest = IfOk-from_err _ _ failed;
  parents = IfOk-from_err _ _ failed;
}

pub returns-in_err-finer : goal.returns-in_err-finer
returns-in_err-finer c = let failed = c.from_residual-in_err-finer.ensures.0 in record {
  coarsest = IfOk-from_err _ _ failed;
  parents = IfOk-from_err _ _ failed;
}

pub returns-in_err-known-2 : goal.returns-in_err-known-2
returns-in_err-known-2 c = let failed = c.from_residual-in_err-known-2.ensures.0 in record {
  coarsest = IfOk-from_err _ _ failed;
  parents = IfOk-from_err _ _ failed;
}
