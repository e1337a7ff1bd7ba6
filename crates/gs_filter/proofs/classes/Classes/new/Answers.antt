use Rattle.std.proofs.{Common.{◌≡◌, ◌∙◌, ℕ, List, ap, length, refl, subst, sym, Vec, Global, Result, Ok, Err, arith}, lemmas.Result.{IfOk-from_err}}
use Rattle.std.specs.Result.{IfErr, IsErrAnd}
use Rattle.gs_model.specs.{Classes.{IsClasses}, Rows.{rows}}
use Rattle.gs_filter.specs.{Filter.{AreParents}, Faults.{Agree, AllNumbered, AllTogether, IsErrorOf, IsFirstLength}}
use Rattle.gs_filter.specs.{declared.fault.ClassError.{ClassError}, declared.fault.ClassError.TheVariants.{Memory}}
use Rattle.gs_filter.proofs.RowLaws.{length-rows}
use Rattle.gs_filter.proofs.ApartLaws.{classes_from}
use Rattle.gs_filter.proofs.classes.Classes.new.Goals as goal

-- out of memory says nothing of the lists
memory_says : {T : Type 0} (parents lists : List (List ℕ)) (r : Result T ClassError) → IsErrAnd r (λ e. e ≡ Memory) → IfErr r (IsErrorOf parents lists)
memory_says parents lists (Ok x) is = tt
memory_says parents lists (Err e) is = subst (IsErrorOf parents lists) (sym is) tt

module _ (c : goal.In_ok-copy_of) where
  are_classes : IsClasses (rows c.args.parents.now) (rows c.args.lists.items)
  are_classes = classes_from (rows c.args.parents.now) (rows c.args.lists.items)
      (subst (λ (vs : List (Vec ℕ Global)). Agree (rows c.args.parents.now) (rows vs)) c.deref.ensures.value c.in_default.ensures)
      (subst (λ (vs : List (Vec ℕ Global)). AllNumbered (rows vs)) c.deref-2.ensures.value c.in_ok-tallies.ensures.numbered)
      (subst (λ (vs : List (Vec ℕ Global)). AllTogether (rows c.args.parents.now) (rows vs)) c.deref-3.ensures.value c.in_default-first_apart.ensures)

pub invariant_of-result : goal.invariant_of-result
invariant_of-result c = (
  subst AreParents (sym c.in_ok-copy_of.ensures) c.requires,
  (subst (λ (ps : List (List ℕ)). IsClasses ps (rows c.args.lists.items)) (sym c.in_ok-copy_of.ensures) (are_classes c), tt),
)

pub returns-clause-classes : goal.returns-clause-classes
returns-clause-classes c = grind arith

pub returns-in-Some-first_apart-clause-refused : goal.returns-in-Some-first_apart-clause-refused
returns-in-Some-first_apart-clause-refused c = grind arith

pub first_apart-requires-clause-agree : goal.first_apart-requires-clause-agree
first_apart-requires-clause-agree c =
    subst (λ (vs : List (Vec ℕ Global)). Agree (rows c.args.parents.now) (rows vs)) (c.deref.ensures.value ∙ sym c.deref-3.ensures.value) c.in_default.ensures

pub first_apart-requires-clause-numbered : goal.first_apart-requires-clause-numbered
first_apart-requires-clause-numbered c =
    subst (λ (vs : List (Vec ℕ Global)). AllNumbered (rows vs)) (c.deref-2.ensures.value ∙ sym c.deref-3.ensures.value) c.in_ok-tallies.ensures.numbered

pub tally_lists-requires-clause-few : goal.tally_lists-requires-clause-few
tally_lists-requires-clause-few c =
    let agree = subst (λ (vs : List (Vec ℕ Global)). Agree (rows c.args.parents.now) (rows vs)) c.deref.ensures.value c.in_default.ensures in
    let here = ap (λ (vs : List (Vec ℕ Global)). length vs) c.deref-2.ensures.value in
    omega (arith, here, c.requires.few, agree.rounds, length-rows c.args.lists.items)

pub returns-in-Some-clause-refused : goal.returns-in-Some-clause-refused
returns-in-Some-clause-refused c =
    subst (λ (vs : List (Vec ℕ Global)). IsFirstLength (rows c.args.parents.now) (rows vs) c.in-Some.round) c.deref.ensures.value c.in-Some.ensures

pub returns-clause-lists : goal.returns-clause-lists
returns-clause-lists c = refl

pub returns-in_err-copy_of : goal.returns-in_err-copy_of
returns-in_err-copy_of c =
    let failed = c.from_residual-in_err-copy_of.ensures in
    record {
      parents = IfOk-from_err _ _ failed.0;
      lists = IfOk-from_err _ _ failed.0;
      classes = IfOk-from_err _ _ failed.0;
      refused = memory_says _ _ _ failed.1;
    }
