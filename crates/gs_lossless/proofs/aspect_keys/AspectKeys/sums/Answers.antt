use Rattle.std.proofs.{Common.{◌≡◌, ◌+◌, ◌∙◌, suc, Vec, Global, ap, arith, length, subst, sym}, lemmas.Result.{IfOk-weaker}}
use Rattle.gs_model.specs.{Frame.{frame_of}, Signals.{signals}}
use Rattle.gs_model.proofs.{SingleCards.{children_within}, Walked.{last_round_of}}
use Rattle.gs_tree.specs.Trees.{rules_of}
use Rattle.gs_lossless.specs.{Amounts.{ArePartsOf, key_count}, declared.parts.Part.{Part}}
use Rattle.gs_lossless.proofs.{PartsOf.{amounts_from, before_last, of_children}, AspectOf.{many}}
use Rattle.gs_lossless.proofs.aspect_keys.AspectKeys.sums.Goals.{Joined-self, in-Children+in_ok-parts-in-Children, in-Deals+in_ok-parts-in-Deals}
use Rattle.gs_lossless.proofs.aspect_keys.AspectKeys.sums.Goals as goal

pub children-first-requires-clause-before_last : goal.children-first-requires-clause-before_last
children-first-requires-clause-before_last c =
    let at = c.args.self.now in
    let g = rules_of at.signals.now in
    omega (arith, before_last (frame_of g) at.aspect at.round c.in-Children.is at.has, last_round_of g)

pub child_parts-requires : goal.child_parts-requires
child_parts-requires c = record {
  ordered = omega (arith, c.children-first.ensures.first, c.children-first.ensures.end);
  within = let at = c.args.self.now in
      let g = rules_of at.signals.now in
      let next : at.round + 1 ≡ suc at.round = omega arith in
      let all = ap length c.deref.ensures.value ∙ many at ∙ ap (λ aspect. key_count g aspect at.round) c.in-Children.is ∙ ap (λ k. length (signals g k)) next in
      omega (arith, all, children_within g at.round c.args.signal c.requires, c.children-first.ensures.end);
}

-- the parts, of whichever aspect
known : (c : Joined-self) → let at = c.args.self.now in
    ArePartsOf (frame_of (rules_of at.signals.now)) at.classes.now.lists at.aspect at.round c.args.signal c.match-self.parts.items
known c =
    let at = c.args.self.now in
    let items = λ (v : Vec Part Global). v.items in
    elim c.match-self.branch [
      | in-Children+in_ok-parts-in-Children w ↦ of_children at.signals.now at.classes.now.lists at.aspect at.round c.args.signal w.deref.result.now _ _ _
          w.in-Children.is at.has (w.deref.ensures.value ∙ at.are) c.requires
          w.children-first.ensures.first w.children-first.ensures.end (ap items w.parts-is ∙ w.in_ok-parts-in-Children.ensures)
      | in-Deals+in_ok-parts-in-Deals w ↦
          subst (λ v. ArePartsOf (frame_of (rules_of at.signals.now)) at.classes.now.lists at.aspect at.round c.args.signal v.items) (sym w.parts-is)
          w.in_ok-parts-in-Deals.ensures
    ]

pub sums_of-requires : goal.sums_of-requires
sums_of-requires c = record {
  some = (known (goal.at.sums_of-requires c).Joined-self).some;
  fits = (known (goal.at.sums_of-requires c).Joined-self).fits;
}

pub returns : goal.returns
returns c =
    let at = c.args.self.now in
    let f = frame_of (rules_of at.signals.now) in
    let parts = known (goal.at.returns c).Joined-self in
    IfOk-weaker c.sums_of.result _ _ (λ v are. amounts_from f at.classes.now.lists at.aspect at.round c.args.signal _ _ parts are)
    c.sums_of.ensures
