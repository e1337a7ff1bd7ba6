use Rattle.std.proofs.{Common.{◌∙◌, refl, sym, arith}, lemmas.Int.{ints}}
use Rattle.std.specs.Prelude.{pos}
use Rattle.gs_play.specs.Lines.{line_at}
use Rattle.gs_play.proofs.Wrapped.{unwrapped, wrapped_more}
use Rattle.gs_play.proofs.tally.sum_of.Goals as goal

pub loop-line-init : goal.loop-line-init
loop-line-init c = record { at_is = sym (unwrapped (pos 0) (omega (arith, ints))); slope_is = sym (unwrapped (pos 0) (omega (arith, ints))) }

pub loop-line-preserved : goal.loop-line-preserved
loop-line-preserved c = record {
  at_is = c.sum-all.ensures.at ∙ wrapped_more (λ m. (line_at c.args.lines.now m).at) c.loop-line.line-index _ _ c.loop-line.invariant.at_is refl;
  slope_is = c.sum-all.ensures.slope ∙ wrapped_more (λ m. (line_at c.args.lines.now m).slope) c.loop-line.line-index _ _ c.loop-line.invariant.slope_is refl;
}
