use Rattle.std.proofs.lemmas.Result.{IfOk-from_err}
use Rattle.std.proofs.{Common.{◌≡◌, [], All, length, ap, ◌∙◌, subst, sym, arith, Vec, Global}, lemmas.List.{length_push}, lemmas.List.Elements.{All-push}}
use Rattle.gs_lossless.proofs.lists.empty_lists.Goals as goal

pub loop-n-preserved : goal.loop-n-preserved
loop-n-preserved g c =
    let i = c.loop-n.invariant in
    let lists = c.loop-n.lists.items in
    record {
      long = ap length c.in_ok-push.ensures.items ∙ (let n = length_push lists c.new.result in let o = i.long in omega arith);
      empty = subst (All (λ (v : Vec g.row.T.Denot Global). v.items ≡ [])) (sym c.in_ok-push.ensures.items)
          (All-push (λ (v : Vec g.row.T.Denot Global). v.items ≡ []) lists c.new.result i.empty c.new.ensures.items);
    }

pub loop-n-init : goal.loop-n-init
loop-n-init g c = grind arith

pub returns-in_err-lists : goal.returns-in_err-lists
returns-in_err-lists g c = let failed = c.from_residual.ensures.0 in record { long = IfOk-from_err _ _ failed; empty = IfOk-from_err _ _ failed }

pub returns-in_err-push : goal.returns-in_err-push
returns-in_err-push g c = let failed = c.from_residual-in_err-push.ensures.0 in record { long = IfOk-from_err _ _ failed; empty = IfOk-from_err _ _ failed }
