use Rattle.std.proofs.lemmas.Grind.{common_steps}
use Rattle.std.proofs.Common.{◌≡◌, ◌<◌, ◌≢◌, ◌*◌, ◌%◌, ◌^◌, ℕ, List, ap, arith, eqb, false, get_or, true, ⊎_elim, ◌∙◌}
use Rattle.std.proofs.{lemmas.Bool.{cases_eq}, lemmas.List.Sums.{count_by_more_no, count_by_more_yes}, lemmas.Nat.Bits.{bit_at_set_other, bit_at_set_same}}
use Rattle.std.specs.{Int.{bit_at, w64}, Int.RustNames.{bit_or}}
use Rattle.gs_tree.proofs.masks.mask_of.Goals as goal

pub loop-card-preserved : goal.loop-card-preserved
loop-card-preserved c card =
    let cards : List ℕ = c.args.cards.now in
    let i : ℕ = c.loop-card.card-index in
    let k : ℕ = c.from.result in
    let mask : ℕ = c.loop-card.mask in
    let before = c.loop-card.invariant card in
    let read : ℕ = c.card-item.result in
    let at : get_or cards i read ≡ k = omega (arith, c.from.ensures, c.number.ensures, c.card-item.is) in
    let small : k < 64 = omega (arith, c.from.ensures, c.number.ensures, c.card-item.is, c.requires i c.card-item.result (omega (arith, c.loop-card-test.true)))
    in
    ⊎_elim
    (λ (same : card ≡ k).
    let here : eqb (get_or cards i read) card ≡ true = grind (arith, at, same) in
    let more = count_by_more_yes (λ other. eqb other card) cards i read (omega (arith, c.loop-card-test.true)) here in
    let set : bit_at (bit_or mask (1 * 2 ^ k % 18446744073709551616)) card ≡ 1 =
    ap (bit_at (bit_or mask (1 * 2 ^ k % 18446744073709551616))) same ∙ bit_at_set_same w64 mask k small in
    omega (arith, set, more))
    (λ (other : card ≢ k).
    let here : eqb (get_or cards i read) card ≡ false = grind (arith, at, other) in
    let more = count_by_more_no (λ other. eqb other card) cards i read (omega (arith, c.loop-card-test.true)) here in
    omega (arith, bit_at_set_other w64 mask k small card other, more, before))
    (cases_eq card k)

pub returns : goal.returns
returns c = grind (arith, common_steps)
