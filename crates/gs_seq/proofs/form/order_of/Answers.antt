use Rattle.std.proofs.lemmas.Grind.{common_steps}
use Rattle.std.proofs.{Common.{arith, ◌≡◌, ap, ◌∙◌, refl, subst, sym}, lemmas.Result.{IfOk-weaker}}
use Rattle.std.specs.Prelude.{MatchOption, Option, Some}
use Rattle.gs_boards.specs.declared.board_order.BoardOrder.{BoardOrder}
use Rattle.gs_filter.specs.Filter.{Filter}
use Rattle.gs_model.specs.Frame.{last_round}
use Rattle.gs_tree.specs.{Plain.{IsPlain}, Trees.{rules_of}, Walk.{last_count}, declared.signals.Signals.{Signals}}
use Rattle.gs_seq.specs.{Games.{frame_in}, Rows.{IsSingleIn}, Singles.{HasSumsOf}}
use Rattle.gs_seq.proofs.Carried.{carried}
use Rattle.gs_seq.proofs.form.order_of.Goals as goal

-- the signals of one game have the same sums
same_sums : (s t : Signals) → s ≡ t → HasSumsOf (rules_of s) (rules_of t)
same_sums s t e = subst (λ (x : Signals). HasSumsOf (rules_of s) (rules_of x)) e (record { count = refl; sums = λ numbers pays signal. refl })

pub returns-then-are_made : goal.returns-then-are_made
returns-then-are_made c = record {
  sums = let s = c.args.lossless.now.signals.now in
      let mine = c.signals-signals.result.now in
      let Nothing : Type 0 = IsPlain (rules_of mine) → last_count (rules_of mine) ≡ 0 in
      IfOk-weaker c.of.result (λ (o : Option BoardOrder). MatchOption o Nothing (λ (y : BoardOrder). y.signals.now ≡ mine))
      (λ (o : Option BoardOrder). (b : BoardOrder) → o ≡ Some b → HasSumsOf (rules_of b.signals.now) (rules_of s))
      (λ o h b is. same_sums b.signals.now s (subst (λ (x : Option BoardOrder). MatchOption x Nothing (λ (y : BoardOrder). y.signals.now ≡ mine)) is h
      ∙ c.signals-signals.ensures.held)) c.of.ensures;
  single = let s = c.args.lossless.now in
      let single = carried c.signals-signals.result.now.game.now s.signals.now.game.now c.classes.result.now s.classes.now
      (λ f lists. IsSingleIn lists (last_round f)) (ap (λ (x : Signals). x.game.now) c.signals-signals.ensures.held) c.classes.ensures.held
      (c.are_made.ensures c.if-are_made.true) in
      let mine = c.signals-signals.result.now in
      IfOk-weaker c.of.result (λ (o : Option BoardOrder). MatchOption o (IsPlain (rules_of mine) → last_count (rules_of mine) ≡ 0)
      (λ (y : BoardOrder). y.signals.now ≡ mine))
      (λ (o : Option BoardOrder). (b : BoardOrder) → o ≡ Some b → IsSingleIn s.classes.now.lists (last_round (frame_in s.signals.now.game.now)))
      (λ o h b is. single) c.of.ensures;
}

pub are_made-requires : goal.are_made-requires
are_made-requires c =
    ap (λ (x : Filter). x.parents) c.classes.ensures.held ∙ c.args.lossless.now.parents
    ∙ ap (λ (x : Signals). (frame_in x.game.now).parents) (sym c.signals-signals.ensures.held)

pub returns-else-are_made : goal.returns-else-are_made
returns-else-are_made c = grind (arith, common_steps)
