use Rattle.std.proofs.Common.{◌≡◌, ◌+◌, ◌⊎◌, ◌<◌, ◌∙◌, ◌++◌, ℕ, List, ap, arith, drop, get_or, length, replicate, rules, set, subst, sym, take, length-set}
use Rattle.std.proofs.Common.{⊎_elim}
use Rattle.gs_lossless.proofs.{Items.{AreMade, all_made, get_or-in, none_made, one_made}, Marked.{whole}}
use Rattle.gs_lossless.proofs.firsts.first_items.Goals as goal

pub loop-item-init : goal.loop-item-init
loop-item-init c =
    let marks : List ℕ = c.args.marks.items in
    let free : c.in_ok-kept.kept.items ≡ replicate c.len.result 4294967295 = c.in_ok-kept.ensures.items_if_clones_equal (λ y k. search rules) in
    let long : c.len.result ≡ length marks = omega (arith, c.len.ensures, c.args.marks.ok.0) in
    none_made marks c.in_ok-kept.kept.items 4294967295 (free ∙ ap (λ (n : ℕ). replicate n 4294967295) long) (omega (arith, c.requires))

pub loop-item-preserved : goal.loop-item-preserved
loop-item-preserved c =
    let marks : List ℕ = c.args.marks.items in
    let item : ℕ = c.loop-item.item in
    let now : List ℕ = c.loop-item.marks.items in
    let kept : List ℕ = c.loop-item.kept.items in
    let new : List ℕ = c.first_of-first.new.kept in
    let mark : ℕ = c.index.result.now in
    let l : item < length marks = omega (arith, c.loop-item-test.true, c.len-item-end.ensures, c.args.marks.ok.0) in
    let in' : item < length now = omega (arith, l, c.loop-item.invariant.long) in
    let is : mark ≡ get_or now item 0 = sym (get_or-in now item mark c.index.ensures in') in
    let read : c.deref_mut.result.now ≡ kept = c.deref_mut.ensures.value in
    let earlier = subst (λ (k : List ℕ). c.first_of-first.result < item → (mark < length k) × (get_or k mark 0 ≡ c.first_of-first.result)) read
    c.first_of-first.ensures.earlier in
    let step : (new ≡ kept) ⊎ (new ≡ set kept mark item) = subst (λ (k : List ℕ). (new ≡ k) ⊎ (new ≡ set k mark item)) read c.first_of-first.ensures.kept in
    let long : length new ≡ length kept = ⊎_elim (λ e. ap (λ (k : List ℕ). length k) e)
    (λ e. ap (λ (k : List ℕ). length k) e ∙ length-set kept mark item) step in
    let all : take c.loop-item.kept.len (new ++ drop (length new) kept) ≡ new = whole c.loop-item.kept.len new kept long
    (omega (arith, c.loop-item.kept.ok.0)) in
    subst (AreMade marks (item + 1) (set now item c.first_of-first.result)) (sym all)
    (one_made marks item now kept new mark c.first_of-first.result l c.loop-item.invariant is c.first_of-first.ensures.before earlier step)

pub returns : goal.returns
returns c = all_made c.args.marks.items c.loop-item.item c.loop-item.marks.items c.loop-item.kept.items (omega arith) c.loop-item.invariant
