use Rattle.std.proofs.{Common.{◌≡◌, ◌+◌, ◌-◌, ◌∙◌, Err, Ok, Result, Some, true, ap, arith, slice_get, subst, sym}, lemmas.Result.{IfOk-from_err, on_ok_weaker}}
use Rattle.std.specs.Prelude.{IfOk}
use lib.Pointwise.{pointwise}
use Rattle.gs_iso.specs.KeyNumbers.{IsNumberOf, same_parts}
use Rattle.gs_iso.proofs.{Numbered.{find_passes, slice_get-insert}, Grown.{parts_insert, parts_stay}}
use Rattle.gs_iso.proofs.numbers.number_of_list.Goals as goal

pub returns-in-Some-clause-number : goal.returns-in-Some-clause-number
returns-in-Some-clause-number g c =
    let index = c.in-Some.index in
    let found = c.in-Some._found.now in
    let place : index + 1 - 1 ≡ index = omega arith in
    record {
      some = omega arith;
      key = found;
      stands = ap (slice_get c.args.lists.now.keys) place ∙ c.in-Some.ensures.stored;
      same = find_passes _ c.args.lists.now.keys found (sym c.in-Some.ensures.key);
    }

pub returns-clause-kept : goal.returns-clause-kept
returns-clause-kept g c = on_ok_weaker c.number_of.result
    (λ grown i k e. subst (λ ks. slice_get ks i ≡ Some k) (sym grown)
    (slice_get-insert (same_parts g.P.PartialEq.eq) c.args.lists.now.keys c.in_ok-key.key i k e)) c.number_of.ensures.grown

-- what holds of a value by two facts
by_both : {X E : Type 0} (r : Result X E) (P Q R : X → Type 0) → ((x : X) → P x → Q x → R x) → IfOk r P → IfOk r Q → IfOk r R
by_both (Ok x) P Q R f p q = f x p q
by_both (Err e) P Q R f p q = q

pub returns-clause-number : goal.returns-clause-number
returns-clause-number g c =
    let keys = c.number_of.new.keys.keys in
    by_both c.number_of.result _ _ (λ n. IsNumberOf g.P.PartialEq.eq keys c.args.list.now n)
    (λ n some stored. record {
      some = some;
      key = stored.0;
      stands = stored.1;
      same = subst (λ l. pointwise g.P.PartialEq.eq l stored.0.items ≡ true) c.in_ok-key.ensures.items stored.2;
    }) c.number_of.ensures.some c.number_of.ensures.stored

pub returns-in-Some-clause-grown : goal.returns-in-Some-clause-grown
returns-in-Some-clause-grown g c = parts_stay g.P.PartialEq.eq c.args.lists.now.keys c.args.list.now (sym c.in-Some.ensures.found)

pub returns-clause-grown : goal.returns-clause-grown
returns-clause-grown g c = on_ok_weaker c.number_of.result
    (λ grown. parts_insert g.P.PartialEq.eq c.args.lists.now.keys c.number_of.new.keys.keys c.in_ok-key.key c.args.list.now c.in_ok-key.ensures.items grown)
    c.number_of.ensures.grown

pub returns-clause-unique : goal.returns-clause-unique
returns-clause-unique g c = on_ok_weaker c.number_of.result (λ grown. c.number_of.ensures.unique) c.number_of.ensures.grown

pub returns-in_err-key : goal.returns-in_err-key
returns-in_err-key g c = let failed = c.from_residual.ensures.0 in record {
  grown = IfOk-from_err _ _ failed;
  kept = IfOk-from_err _ _ failed;
  number = IfOk-from_err _ _ failed;
  few = IfOk-from_err _ _ failed;
  unique = IfOk-from_err _ _ failed;
}
