use Rattle.std.proofs.{Common.{◌≡◌, ℕ, [], ap, ◌∙◌, subst, sym, List, Vec, Global, arith, length}, lemmas.List.{length_push}}
use Rattle.gs_model.specs.Rows.{rows}
use Rattle.gs_match.specs.Adjacency.{row_of}
use Rattle.gs_match.proofs.AdjacencyLaws.{empty_more}
use Rattle.gs_match.proofs.adjacency.empty_lists.Goals as goal

pub loop-n-preserved : goal.loop-n-preserved
loop-n-preserved c = record {
  long = ap length c.in_ok-push.ensures.items ∙ (let n = length_push c.loop-n.lists.items c.new.result in let o = c.loop-n.invariant.long in omega arith);
  empty = subst (λ (vs : List (Vec ℕ Global)). (k : ℕ) → row_of (rows vs) k ≡ []) (sym c.in_ok-push.ensures.items)
      (empty_more c.loop-n.lists.items c.new.result c.new.ensures.items c.loop-n.invariant.empty);
}
