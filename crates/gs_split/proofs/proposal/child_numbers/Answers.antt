use Rattle.std.proofs.Common.{◌≡◌, ◌<◌, ℕ, List, ap, arith, get_or, length, refl, slice_set, subst, sym, ◌∙◌}
use Rattle.std.proofs.lemmas.{Grind.{common_steps}, List.{length-set}}
use Rattle.std.specs.Prelude.{◌+◌, ◌*◌, ◌%◌, ◌^◌}
use Rattle.gs_split.specs.Proposal.{child_term, mixed}
use Rattle.gs_split.proofs.Proposed.{child_more, terms_to}
use Rattle.gs_split.proofs.proposal.child_numbers.Goals as goal
use Rattle.gs_lossless.proofs.Items.{get_or-in}

pub loop-child-preserved : goal.loop-child-preserved
loop-child-preserved c =
    let ps = c.args.parents.now in
    let classes = c.args.classes.now in
    let numbers = c.args.numbers.now in
    let n = c.loop-child.child in
    let sums = c.loop-child.sums.items in
    let place : ℕ = get_or ps n 0 in
    let term = c.mixed-term.result in
    let i = c.loop-child.invariant in
    let inside : place < length sums = omega (arith, c.requires.in_range n 0 c.loop-child-test.true, i.long) in
    let here : get_or sums place 0 ≡ c.index.result.now = get_or-in sums place c.index.result.now c.index.ensures inside in
    let new : ℕ → List ℕ = λ v. slice_set sums place ((v + term) % 2 ^ 32) in
    let one : c.from.result ≡ get_or classes n 0 = c.from.ensures in
    let two : c.from-in-loop-child.result ≡ get_or numbers n 0 = c.from-in-loop-child.ensures in
    let is : term ≡ child_term classes numbers n = c.mixed-term.ensures ∙ ap (λ k. mixed (k + c.from-in-loop-child.result * 2 ^ 32)) one
    ∙ ap (λ k. mixed (get_or classes n 0 + k * 2 ^ 32)) two in
    let long : (v : ℕ) → length (new v) ≡ length sums = λ v. length-set sums place ((v + term) % 2 ^ 32) in
    record {
      long = long c.index.result.now ∙ i.long;
      each = λ s l. subst (λ v. get_or (new v) s 0 ≡ terms_to ps classes numbers (n + 1) s % 2 ^ 32) here
          (child_more ps classes numbers sums n place term refl inside is i.each s (omega (arith, l, long c.index.result.now)));
    }

pub loop-child-init : goal.loop-child-init
loop-child-init c = grind (arith, common_steps)

pub index_mut-requires : goal.index_mut-requires
index_mut-requires c = grind arith

pub index-requires : goal.index-requires
index-requires c = grind arith

pub returns-clause-each : goal.returns-clause-each
returns-clause-each c =
    let i = c.loop-child.invariant in
    let end : c.loop-child.child ≡ length c.args.parents.now = omega (arith, c.loop-child-test.false, c.loop-child.auto.child-end) in
    λ s l. i.each s (subst (λ n. s < n) (sym i.long) l)
    ∙ ap (λ n. terms_to c.args.parents.now c.args.classes.now c.args.numbers.now n s % 2 ^ 32) end
