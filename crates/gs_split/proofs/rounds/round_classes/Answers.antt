use Rattle.std.proofs.lemmas.Result.{IfOk-from_err}
use Rattle.std.proofs.Common.{◌+◌, ◌-◌, ◌<◌, ◌≡◌, ◌^◌, ◌∷◌, ◌++◌, ◌∙◌, [], ℕ, List, ap, arith, length, slice_get, subst, sym}
use Rattle.gs_iso.specs.KeyNumbers.{HasClassOf}
use Rattle.gs_iso.proofs.FirstSeen.{AreSeen, seen_again, seen_more, seen_none}
use Rattle.gs_split.specs.Turns.{turn_key}
use Rattle.gs_split.proofs.Agreed.{key_eq, key_exact, one_more}
use Rattle.gs_split.proofs.rounds.round_classes.Goals.{in-Some, in-None+in_ok-class-in-None, In_ok-class-in-None}
use Rattle.gs_split.proofs.rounds.round_classes.Goals as goal

-- the number of a key fits 32 bits
fits : (c : In_ok-class-in-None) → c.in_ok-class-in-None.field-0.0 + 1 < 2 ^ 32
fits c =
    let n = c.in_ok-class-in-None.ensures in
    omega (
      arith,
      n.within,
      n.len,
      one_more c.in_ok-class-in-None.field-0.1 (length c.loop-at.seen.keys),
      c.loop-at.invariant.few,
      c.loop-at-test.true,
      c.requires,
    )

pub loop-at-init : goal.loop-at-init
loop-at-init c = seen_none key_eq key_exact _ _ _ c.new-seen.ensures.empty c.in_ok-classes.ensures.items

pub loop-at-preserved : goal.loop-at-preserved
loop-at-preserved c =
    let key = turn_key c.args.keys.now.before.now c.args.keys.now.above.now c.args.keys.now.parents.now c.args.keys.now.numbers.now in
    let pushed = c.push.new.self.items in
    elim c.match-class_again.branch [
      | in-Some w ↦
          let found = subst (λ (xs : List ℕ). HasClassOf key xs c.key_at-key.result w.in-Some.class) c.deref.ensures.value w.in-Some.ensures in
          subst (λ ks. AreSeen key_eq key_exact key ks pushed (c.loop-at.at + 1)) (sym (ap (λ s. s.keys) w.seen-is))
          (seen_again key_eq key_exact key _ _ _ _ _ _ c.loop-at.invariant (sym c.key_at-key.ensures) found
          (c.in_ok-push.ensures.items ∙ ap (λ k. c.loop-at.classes.items ++ k ∷ []) w.class-is))
      | in-None+in_ok-class-in-None w ↦
          let n = w.in_ok-class-in-None.ensures in
          let at = w.in_ok-class-in-None.field-0.0 in
          let place : at + 1 - 1 ≡ at = omega arith in
          subst (λ ks. AreSeen key_eq key_exact key ks pushed (c.loop-at.at + 1)) (sym (ap (λ s. s.keys) w.seen-is))
          (seen_more key_eq key_exact key _ _ _ _ _ _ _ c.loop-at.invariant (sym c.key_at-key.ensures)
          (n.stored.0, ap (slice_get w.insert_full.new.self.keys) place ∙ n.stored.1, n.stored.2) n.keys
          (omega (arith, n.len, one_more w.in_ok-class-in-None.field-0.1 (length c.loop-at.seen.keys))) n.unique (omega arith)
          (c.in_ok-push.ensures.items ∙ ap (λ k. c.loop-at.classes.items ++ k ∷ []) w.class-is))
    ]

pub returns : goal.returns
returns c = record {
  long = omega (arith, c.loop-at.invariant.long, c.loop-at-test.false, c.loop-at.auto.at-end);
  classes = c.loop-at.invariant.seen.grouped;
}

pub class_again-requires : goal.class_again-requires
class_again-requires c =
    omega (arith, ap (λ (l : List ℕ). length l) c.deref.ensures.value, c.loop-at.invariant.long, c.loop-at-test.true)

pub returns-in_err-last : goal.returns-in_err-last
returns-in_err-last c = let failed = c.from_residual.ensures.0 in record {
  long = IfOk-from_err _ _ failed;
  classes = IfOk-from_err _ _ failed;
}

pub returns-in_err-classes : goal.returns-in_err-classes
returns-in_err-classes c = let failed = c.from_residual-in_err-classes.ensures.0 in record {
  long = IfOk-from_err _ _ failed;
  classes = IfOk-from_err _ _ failed;
}

pub returns-in_err-class-in-None : goal.returns-in_err-class-in-None
returns-in_err-class-in-None c = let failed = c.from_residual-in_err-class-in-None.ensures.0 in record {
  long = IfOk-from_err _ _ failed;
  classes = IfOk-from_err _ _ failed;
}

pub returns-in_err-push : goal.returns-in_err-push
returns-in_err-push c = let failed = c.from_residual-in_err-push.ensures.0 in record {
  long = IfOk-from_err _ _ failed;
  classes = IfOk-from_err _ _ failed;
}

pub overflow_cast-class : goal.overflow_cast-class
overflow_cast-class c = omega (arith, fits c)

pub overflow_add-class : goal.overflow_add-class
overflow_add-class c = omega (arith, fits c)
