-- In its own round a class gathers itself alone.
use Rattle.std.proofs.Common.{◌≡◌, ℕ, ◌+◌, ◌-◌, ◌<◌, ◌≤◌, Bool, true, false, cond, List, drop, take, refl, sym, ap, ◌∙◌, arith, eqb}
use Rattle.std.proofs.{lemmas.Bool.Decides.{Decides-eqb}, lemmas.List.{get_or-drop, get_or-take}}
use Rattle.std.specs.Prelude.{◌==◌, ℤ, pos}
use Rattle.gs_model.specs.{Classes.{ClassLists, IsClass, IsClasses, class_count, class_of, classes_in, first_member}, Frame.{Frame, last_round}}
use Rattle.gs_model.specs.FrameFacts.{InRange}
use Rattle.gs_model.proofs.{RawBound.{range_once}, Tables.{is_table}, Total.{pick_one}, Basics.{eqb-turn}}
use Rattle.gs_best.specs.{ClassTotals.{earlier_class, gathered_below}, LaterRows.{AreGathered, row_from}}
use Rattle.gs_best.proofs.{Ranges.{sum_same}, Shares.{first_class}}

picked : (b : Bool) (x y : ℤ) → (b ≡ true → x ≡ y) → cond b x (pos 0) ≡ cond b y (pos 0)
picked true x y h = h refl
picked false x y h = refl

pub gathered_itself : (f : Frame) → InRange f → (lists : ClassLists) → IsClasses f.parents lists → (i c : ℕ) (v : ℕ → ℤ) → 0 < i → i ≤ last_round f
    → IsClass lists i c → gathered_below f lists i i v c ≡ v c
gathered_itself f r lists k i c v some top lc =
    let h = is_table f r in
    sum_same (λ e. cond (earlier_class f lists i i e == c) (v e) (pos 0)) (λ e. cond (eqb c e) (v c) (pos 0)) 1 (class_count lists i)
    (λ e lo hi.
    let le : IsClass lists i e = (omega arith, omega arith) in
    let above : earlier_class f lists i i e ≡ e = ap (class_of lists i) (h.itself i (first_member lists i e)) ∙ first_class f lists k i e some top le in
    ap (λ n. cond (n == c) (v e) (pos 0)) above ∙ ap (λ b. cond b (v e) (pos 0)) (eqb-turn e c)
    ∙ picked (eqb c e) (v e) (v c) (λ t. ap v (sym ((Decides-eqb c e).0 t))))
    ∙ pick_one (eqb c) (v c) (classes_in lists i) (range_once c 1 (class_count lists i) lc.0 (let top_c = lc.1 in omega arith))

-- so a row of its own round is gathered as it stands in its list
pub row_gathers : (f : Frame) → InRange f → (lists : ClassLists) → IsClasses f.parents lists → (from to : ℕ) → from ≡ to → 0 < to → to ≤ last_round f
    → (values : List ℤ) (start count : ℕ) → count ≡ class_count lists to
    → AreGathered f lists from to values start (take (start + count - start) (drop start values))
row_gathers f r lists k from to same some top values start count all c lc =
    let inside : c - 1 < start + count - start = omega (arith, lc.0, lc.1, all) in
    get_or-take (start + count - start) (drop start values) (c - 1) (pos 0) inside ∙ get_or-drop start values (c - 1) (pos 0)
    ∙ sym (gathered_itself f r lists k to c (row_from values start) some top lc)
    ∙ ap (λ i. gathered_below f lists i to (row_from values start) c) (sym same)
