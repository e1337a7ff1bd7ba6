use Rattle.std.proofs.lemmas.Result.{IfOk-from_err}
use Rattle.std.proofs.Common.{◌+◌, ◌∷◌, ◌++◌, ◌∙◌, [], ℕ, List, ap, subst, sym}
use Rattle.gs_iso.specs.{KeyNumbers.{HasClassOf}, Numbers.{class_key}}
use Rattle.gs_iso.proofs.{FirstSeen.{AreSeen, seen_again, seen_more, seen_none}, Exact.{child_eq, child_exact}}
use Rattle.gs_iso.proofs.classes.classes_each.Goals.{in-Some, in-None+in_ok-class-in-None}
use Rattle.gs_iso.proofs.classes.classes_each.Goals as goal

pub loop-at-init : goal.loop-at-init
loop-at-init c =
    let key = class_key c.args.items.above.now c.args.items.parents.now c.args.items.numbers.now in
    seen_none child_eq child_exact key _ _ c.requires.unseen c.in_ok-classes.ensures.items

pub loop-at-preserved : goal.loop-at-preserved
loop-at-preserved c =
    let key = class_key c.args.items.above.now c.args.items.parents.now c.args.items.numbers.now in
    let pushed = c.push.new.self.items in
    elim c.match-class_again.branch [
      | in-Some w ↦
          let found = subst (λ (xs : List ℕ). HasClassOf key xs c.key-key.result w.in-Some.class) c.deref.ensures.value w.in-Some.ensures in
          subst (λ ks. AreSeen child_eq child_exact key ks pushed (c.loop-at.at + 1)) (sym (ap (λ s. s.keys) w.seen-is))
          (seen_again child_eq child_exact key _ _ _ _ _ _ c.loop-at.invariant (sym c.key-key.ensures) found
          (c.in_ok-push.ensures.items ∙ ap (λ k. c.loop-at.classes.items ++ k ∷ []) w.class-is))
      | in-None+in_ok-class-in-None w ↦
          let n = w.in_ok-class-in-None.ensures in
          subst (λ ks. AreSeen child_eq child_exact key ks pushed (c.loop-at.at + 1)) (sym (ap (λ s. s.keys) w.seen-is))
          (seen_more child_eq child_exact key _ _ _ _ _ _ _ c.loop-at.invariant (sym c.key-key.ensures) n.stored n.grown n.few n.unique n.some
          (c.in_ok-push.ensures.items ∙ ap (λ k. c.loop-at.classes.items ++ k ∷ []) w.class-is))
    ]

pub returns-in_err-classes : goal.returns-in_err-classes
returns-in_err-classes c = let failed = c.from_residual.ensures.0 in record {
  long = IfOk-from_err _ _ failed;
  classes = IfOk-from_err _ _ failed;
}

pub returns-in_err-class-in-None : goal.returns-in_err-class-in-None
returns-in_err-class-in-None c = let failed = c.from_residual-in_err-class-in-None.ensures.0 in record {
  long = IfOk-from_err _ _ failed;
  classes = IfOk-from_err _ _ failed;
}

pub returns-in_err-push : goal.returns-in_err-push
returns-in_err-push c = let failed = c.from_residual-in_err-push.ensures.0 in record {
  long = IfOk-from_err _ _ failed;
  classes = IfOk-from_err _ _ failed;
}
