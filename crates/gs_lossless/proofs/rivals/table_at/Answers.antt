use Rattle.std.proofs.{Common.{◌∙◌, List, ap, sum_by}, lemmas.List.Sorted.{sum_by-IsPermutation}}
use Rattle.gs_lossless.specs.declared.rivals.Rival.{Rival}
use Rattle.gs_lossless.proofs.rivals.table_at.Goals as goal

pub returns : goal.returns
returns c = record {
  plain = c.requires.plain;
  once = c.requires.once;
  rivals = λ h. sum_by-IsPermutation h _ _ c.sort_rivals.ensures ∙ ap (λ (l : List Rival). sum_by h l) c.in_ok-rivals.ensures;
}
