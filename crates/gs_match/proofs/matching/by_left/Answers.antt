use Rattle.std.proofs.{lemmas.Grind.{common_steps}, Common.{◌+◌, ℕ, List, length, arith, ap, subst, sym, ◌∙◌, Vec, Global}, lemmas.List.{length-set}}
use Rattle.gs_match.proofs.{ByLeftLaws.{by_left-some, by_left-none, FoundBelow}, matching.by_left.Goals.{in-Some, in_default}}
use Rattle.gs_match.proofs.matching.by_left.Goals as goal

pub loop-right-preserved : goal.loop-right-preserved
loop-right-preserved c = elim c.match-left.branch [
  | in-Some w ↦
      let e = ap (λ (v : Vec ℕ Global). v.items) w.to-is in
      let within = c.requires.within c.loop-right.right w.in-Some.left w.in-Some.is in
      let long = c.loop-right.invariant.long in
      record {
        long = ap length e ∙ length-set c.loop-right.to.items w.in-Some.left c.loop-right.right ∙ c.loop-right.invariant.long;
        each = subst (λ (l : List ℕ). FoundBelow c.args.holders.now l (c.loop-right.right + 1)) (sym e)
            (by_left-some c.args.holders.now c.loop-right.to.items c.loop-right.right c.loop-right.invariant.each w.in-Some.left
            (omega arith) w.in-Some.is c.requires.once);
      }
  | in_default w ↦
      let e = ap (λ (v : Vec ℕ Global). v.items) w.to-is in record {
        long = ap length e ∙ c.loop-right.invariant.long;
        each = subst (λ (l : List ℕ). FoundBelow c.args.holders.now l (c.loop-right.right + 1)) (sym e)
            (by_left-none c.args.holders.now c.loop-right.to.items c.loop-right.right c.loop-right.invariant.each w.in_default.is);
      }
]

pub returns-clause-each : goal.returns-clause-each
returns-clause-each c = grind (arith, common_steps)

pub index_mut-requires : goal.index_mut-requires
index_mut-requires c =
    omega (arith, c.requires.within c.loop-right.right c.in-Some.left c.in-Some.is, c.loop-right.invariant.long, c.loop-right.to.ok.0)
