use Rattle.std.proofs.lemmas.Grind.{common_steps}
use Rattle.std.proofs.{Common.{◌≡◌, ℕ, ◌+◌, ◌<◌, ◌≤◌, List, length, drop, slice_index, ℤ, sym, ap, subst, ◌∙◌, arith}, lemmas.List.{take_at}}
use Rattle.gs_simplex.specs.{Numbers.{at}, Columns.{IsNoted}, State.{AreOnly}}
use Rattle.gs_simplex.proofs.Slots.{only_more}
use Rattle.gs_simplex.proofs.start.only_rows.Goals as goal

pub loop-i-preserved : goal.loop-i-preserved
loop-i-preserved c =
    let p = c.args.p.now in let i = c.loop-i.i in let own = c.loop-i.stands in let new = c.note_row.new.stands in let row = c.in_ok-full_row.ensures in
    let v = c.loop-i.invariant in
    let len : length new ≡ own.len = c.note_row.auto.stands ∙ c.deref_mut.ensures.len in
    let same = take_at new (drop (length new) own.items) own.len len in
    let R : List ℤ → Type 0 = λ x. (j : ℕ) → j < length x → IsNoted i (at x j) (slice_index c.deref_mut.result.now j) (slice_index new j) in
    let S : List ℕ → Type 0 = λ x. (j : ℕ) → j < length c.in_ok-full_row.field-0.items
    → IsNoted i (at c.in_ok-full_row.field-0.items j) (slice_index x j) (slice_index new j) in
    let noted = subst S c.deref_mut.ensures.value (subst R c.deref.ensures.value c.note_row.ensures) in
    let only : AreOnly p (i + 1) (slice_index new) = only_more p i (slice_index own.items) (slice_index new) c.loop-i-test.true c.requires.small_rows v.only
    (λ j jn. let N : ℤ → Type 0 = λ z. IsNoted i z (slice_index own.items j) (slice_index new j) in
    subst N (row.each j jn) (noted j (omega (arith, row.long, jn)))) in
    let O : List ℕ → Type 0 = λ x. AreOnly p (i + 1) (slice_index x) in
    record {
      long = ap (λ (x : List ℕ). length x) same ∙ c.note_row.auto.stands ∙ ap (λ (x : List ℕ). length x) c.deref_mut.ensures.value ∙ v.long;
      only = subst O (sym same) only;
    }

pub full_row-requires : goal.full_row-requires
full_row-requires c = grind (arith, common_steps)

at_end : (a b : ℕ) → a ≤ b → b ≤ a → a ≡ b
at_end a b h k = omega arith

pub returns-clause-only : goal.returns-clause-only
returns-clause-only c =
    subst (λ n. AreOnly c.args.p.now n (slice_index c.loop-i.stands.items))
    (at_end c.loop-i.i (c.args.p.now.rows + 1) c.loop-i.auto.i-end c.loop-i-test.false) c.loop-i.invariant.only

pub note_row-requires : goal.note_row-requires
note_row-requires c =
    ap (λ (x : List ℤ). length x) c.deref.ensures.value ∙ c.in_ok-full_row.ensures.long
    ∙ sym (ap (λ (x : List ℕ). length x) c.deref_mut.ensures.value ∙ c.loop-i.invariant.long)
