use Rattle.std.proofs.{Common.{ℕ, List, subst}, lemmas.Result.{IfOk-from_err, on_ok_weaker}}
use Rattle.std.specs.Prelude.{IfOk, nat_eq}
use Rattle.gs_model.specs.Signatures.{IsSignature}
use Rattle.gs_iso.specs.{KeyNumbers.{IsNumberOf}, Orders.{mark_lt}}
use Rattle.gs_iso.proofs.leaves.signature_number.Goals as goal

pub returns-clause-signs : goal.returns-clause-signs
returns-clause-signs c =
    let sorted = c.sort_unstable.new.self.items in
    on_ok_weaker c.number_of_list.result
    (λ kept. record {
      signs = subst (λ (ms : List ℕ). IsSignature mark_lt ms sorted) c.in_ok-mark_leaves.ensures.marks
          (record { moved = c.sort_unstable.ensures.permutation; sorted = c.sort_unstable.ensures.sorted });
      small = c.in_ok-mark_leaves.ensures.small;
    })
    c.number_of_list.ensures.kept

pub returns-clause-number : goal.returns-clause-number
returns-clause-number c =
    subst (λ (l : List ℕ). IfOk c.number_of_list.result (IsNumberOf nat_eq c.number_of_list.new.lists.keys l)) c.deref.ensures.value
    c.number_of_list.ensures.number

pub returns-in_err-mark_leaves : goal.returns-in_err-mark_leaves
returns-in_err-mark_leaves c = let failed = c.from_residual.ensures.0 in record {
  signs = IfOk-from_err _ _ failed;
  kept = IfOk-from_err _ _ failed;
  number = IfOk-from_err _ _ failed;
  few = IfOk-from_err _ _ failed;
  unique = IfOk-from_err _ _ failed;
}
