use Rattle.std.proofs.lemmas.Result.{IfOk-from_err}
use Rattle.std.proofs.lemmas.Grind.{common_steps}
use Rattle.std.proofs.{Common.{◌≡◌, ◌==◌, ◌∙◌, ◌-◌, ℕ, List, Vec, Global, ap, arith, length, refl, sym, subst, true≢false, ⊎_elim}, lemmas.List.{length-set}}
use Rattle.gs_model.specs.Frame.{frame_of}
use Rattle.gs_tree.specs.Trees.{rules_of}
use Rattle.gs_lossless.specs.{Amounts.{AreAmounts}, declared.parts.Part.{Part}}
use Rattle.gs_lossless.proofs.Scanned.{kept_here, kept_more, aspect_classes}
use Rattle.gs_lossless.proofs.scan.keep_first.Goals as goal

pub index-requires : goal.index-requires
index-requires c = omega (arith, c.requires.class.0, c.requires.within, c.args.kept.now.ok.0)

pub index_mut-requires : goal.index_mut-requires
index_mut-requires c = omega (arith, c.requires.class.0, c.requires.within, c.args.kept.now.ok.0)

pub sums-requires : goal.sums-requires
sums-requires c =
    let at = c.args.at.now in
    omega (arith, c.first.ensures.within, aspect_classes (rules_of at.signals.now) at.classes.now at.parents at.aspect at.round at.has)

pub returns-then-not-is_empty : goal.returns-then-not-is_empty
returns-then-not-is_empty c = record {
  kept = c.requires.kept;
  first = ⊎_elim
      (λ none.
      let v = c.index.result.now in
      let zero : v.len ≡ 0 = omega (arith, v.ok.0, ap (λ (l : List Part). length l) (ap (λ (x : Vec Part Global). x.items) c.index.ensures ∙ none v)) in
      absurd (true≢false (sym (c.is_empty.ensures ∙ ap (λ (n : ℕ). n == 0) zero) ∙ c.if-not-is_empty.true)))
      (λ has. has)
      (c.requires.kept c.args.class c.requires.class.0 c.requires.within);
  long = refl;
}

pub returns : goal.returns
returns c =
    let at = c.args.at.now in
    let f = frame_of (rules_of at.signals.now) in
    let lists = at.classes.now.lists in
    let kept = c.args.kept.now.items in
    let class = c.args.class in
    let fit = c.shrink_to_fit.new.self in
    let shrunk = subst (AreAmounts f lists at.aspect at.round c.first.result) (sym c.shrink_to_fit.ensures.items) c.in_ok-sums.ensures in
    let here = subst (λ (s : ℕ). AreAmounts f lists at.aspect at.round s fit.items) c.first.ensures.value shrunk in
    record {
      kept = kept_more f lists at.aspect at.round class kept fit c.requires.class.0 c.requires.within here c.requires.kept;
      first = kept_here f lists at.aspect at.round class kept fit c.requires.class.0 c.requires.within here;
      long = length-set kept (class - 1) fit;
    }

pub first-requires : goal.first-requires
first-requires c = grind (arith, common_steps)

pub returns-in_err-sums : goal.returns-in_err-sums
returns-in_err-sums c = let failed = c.from_residual.ensures.0 in record {
  kept = IfOk-from_err _ _ failed;
  first = IfOk-from_err _ _ failed;
  long = IfOk-from_err _ _ failed;
}
