use Rattle.std.proofs.Common.{◌≡◌, ◌≤◌, ◌-◌, ◌∷◌, ◌∙◌, [], ℕ, List, Vec, Global, Some, ap, arith, get_or, length, refl, slice_get, subst, sym}
use Rattle.std.proofs.lemmas.List.{get_or-map, length-map}
use Rattle.std.proofs.lemmas.Option.{get_or_from_slice_get}
use Rattle.gs_model.specs.Rows.{rows}
use Rattle.gs_iso.specs.Numbers.{classes_above}
use Rattle.gs_iso.proofs.signal_classes.last_classes.Goals as goal

the_last : (lists : List (Vec ℕ Global)) (last : Vec ℕ Global) → Some last ≡ slice_get lists (length lists - 1) → last.items ≡ classes_above (rows lists)
the_last [] last e = absurd (cc)
the_last (l ∷ ls) last e =
    let items = λ (v : Vec ℕ Global). v.items in
    let place : length (l ∷ ls) - 1 ≡ length ls = omega arith in
    let read = get_or_from_slice_get (l ∷ ls) (length ls) last l (sym (subst (λ (k : ℕ). Some last ≡ slice_get (l ∷ ls) k) place e)) in
    ap items (sym read) ∙ sym (get_or-map items (l ∷ ls) (length ls) l [] (omega arith))
    ∙ ap (λ (k : ℕ). get_or (rows (l ∷ ls)) k []) (sym (length-map ls items))

none_before : (lists : List (Vec ℕ Global)) → length lists ≤ 0 → 1 ∷ [] ≡ classes_above (rows lists)
none_before [] l = refl
none_before (x ∷ xs) l = absurd (omega (arith, l))

pub returns-in-Some : goal.returns-in-Some
returns-in-Some c = c.deref.ensures.value ∙ the_last c.args.lists.now c.in-Some.list.now c.in-Some.ensures.value

pub returns-in-None : goal.returns-in-None
returns-in-None c = none_before c.args.lists.now c.in-None.ensures.item.3
