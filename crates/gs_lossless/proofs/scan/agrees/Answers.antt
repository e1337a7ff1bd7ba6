use Rattle.std.proofs.lemmas.Result.{IfOk-from_err}
use Rattle.std.proofs.Common.{◌∙◌, ℕ, Vec, Global, ap, arith, subst, sym}
use Rattle.gs_model.specs.{Classes.{first_member}, Frame.{frame_of}}
use Rattle.gs_tree.specs.Trees.{rules_of}
use Rattle.gs_lossless.specs.{Amounts.{HaveEqualAmounts}, declared.parts.Part.{Part}}
use Rattle.gs_lossless.proofs.{Scanned.{aspect_classes}, Settled.{agree_if_same, same_if_agree}}
use Rattle.gs_lossless.proofs.scan.agrees.Goals as goal

pub class_of-class-requires-clause-within : goal.class_of-class-requires-clause-within
class_of-class-requires-clause-within c =
    let at = c.args.at.now in
    omega (arith, c.requires.in_range, aspect_classes (rules_of at.signals.now) at.classes.now at.parents at.aspect at.round at.has)

pub keep_first-requires : goal.keep_first-requires
keep_first-requires c = record {
  class = c.class_of-class.ensures.class;
  within = omega (arith, c.class_of-class.ensures.value, c.requires.within);
  kept = c.requires.kept;
}

pub index-requires : goal.index-requires
index-requires c =
    let class = c.class_of-class.ensures in
    omega (arith, class.class.0, class.value, c.requires.within, c.in_ok-keep_first.ensures.long, c.keep_first.new.kept.ok.0)

pub returns : goal.returns
returns c =
    let at = c.args.at.now in
    let f = frame_of (rules_of at.signals.now) in
    let lists = at.classes.now.lists in
    let signal = c.args.signal in
    let first = first_member lists at.round c.class_of-class.result in
    let v = c.index.result.now in
    let before = c.in_ok-keep_first.ensures.first v in
    let here = c.in_ok-sums.ensures in
    let left = c.deref.ensures.value ∙ ap (λ (x : Vec Part Global). x.items) c.index.ensures in
    let right = c.deref-2.ensures.value in
    let is = c.class_of-class.ensures.value in
    let P : ℕ → Type 0 = λ x. HaveEqualAmounts f lists at.aspect at.round (first_member lists at.round x) signal in
    record {
      kept = c.in_ok-keep_first.ensures.kept;
      long = c.in_ok-keep_first.ensures.long;
      agrees = (
        (λ yes. subst P is (agree_if_same f lists at.aspect at.round first signal _ _ before here (sym left ∙ c.are_same.ensures.0 yes ∙ right))),
        (λ a. c.are_same.ensures.1 (left ∙ same_if_agree f lists at.aspect at.round first signal _ _ before here (subst P (sym is) a) ∙ sym right)),
      );
    }

pub class_of-class-requires-clause-some : goal.class_of-class-requires-clause-some
class_of-class-requires-clause-some c = grind arith

pub returns-in_err-keep_first : goal.returns-in_err-keep_first
returns-in_err-keep_first c = let failed = c.from_residual.ensures.0 in record {
  kept = IfOk-from_err _ _ failed;
  long = IfOk-from_err _ _ failed;
  agrees = IfOk-from_err _ _ failed;
}

pub returns-in_err-sums : goal.returns-in_err-sums
returns-in_err-sums c = let failed = c.from_residual-in_err-sums.ensures.0 in record {
  kept = IfOk-from_err _ _ failed;
  long = IfOk-from_err _ _ failed;
  agrees = IfOk-from_err _ _ failed;
}
