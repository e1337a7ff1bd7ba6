use Rattle.std.proofs.{Common.{arith, ◌<◌, ◌≡◌, ap, sym, ◌∙◌, subst, IsPermutation, pos}, lemmas.List.{take_all}, lemmas.List.Sorted.{All-permutation}}
use Rattle.gs_lossless.specs.{Sums.{AreSumsOf, merged}, declared.parts.Part.{Part}}
use Rattle.gs_lossless.proofs.Merge.{fits_more, merge_more, sums_from}
use Rattle.gs_lossless.proofs.parts.sums_of.Goals as goal

pub add-requires : goal.add-requires
add-requires c =
    let sorted = c.deref-part-items.result.now in
    let same = subst (IsPermutation c.args.parts.items) (sym c.deref-part-items.ensures.value) c.sort_unstable.ensures.permutation in
    let f = fits_more c.args.parts.items sorted c.loop-part.sums.items c.loop-part.part-index (record { class = 0; outcome = pos 0; weight = 0 }) same
    c.loop-part-test.true c.loop-part.invariant in
    omega (arith, f, c.requires.fits)

pub loop-part-preserved : goal.loop-part-preserved
loop-part-preserved c =
    merge_more c.deref-part-items.result.now c.loop-part.sums.items c.add.new.sums.items c.loop-part.part-index
    (record { class = 0; outcome = pos 0; weight = 0 }) c.loop-part-test.true
    c.loop-part.invariant c.in_ok-add.ensures

pub returns : goal.returns
returns c =
    let sorted = c.sort_unstable.new.self.items in
    let items = c.deref-part-items.result.now in
    let whole : c.loop-part.sums.items ≡ merged sorted = c.loop-part.invariant ∙ ap merged (take_all c.loop-part.part-index items c.loop-part-test.false)
    ∙ ap merged c.deref-part-items.ensures.value in
    subst (AreSumsOf c.args.parts.items) (sym whole)
    (sums_from c.args.parts.items sorted c.sort_unstable.ensures.permutation c.sort_unstable.ensures.sorted
    (All-permutation (λ (p : Part). 0 < p.weight) c.args.parts.items sorted c.sort_unstable.ensures.permutation c.requires.some))
