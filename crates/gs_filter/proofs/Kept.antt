-- Where lists keep the rules of classes, no fault tells that one is broken.
use Rattle.std.proofs.{Common.{◌≡◌, ℕ, ◌+◌, ◌-◌, ◌<◌, ◌≤◌, ◌==◌, List, length, get_or, inl, inr, subst, arith}, lemmas.Bool.{eqb-true}}
use Rattle.std.proofs.lemmas.List.Sums.{passes_at_first}
use Rattle.gs_filter.proofs.TallyLaws.{first_before}
use Rattle.gs_filter.specs.{Faults.{IsFaultOf, first_beside, StaysTogether}, declared.fault.ClassFault.{ClassFault}}
use Rattle.gs_filter.specs.declared.fault.ClassFault.TheVariants.{Length, NotFirstSeen, ParentsApart}
use Rattle.gs_model.specs.Classes.{ClassLists, IsClasses, class_of, list_of}

-- signals of one class have parents of one class, where the round above is named
abbrev FilterAt : List (List ℕ) → ClassLists → ℕ → ℕ → Type 0
FilterAt parents lists above r = (s t : ℕ) → s < length (list_of parents r) → t < length (list_of parents r) → class_of lists r s ≡ class_of lists r t
    → class_of lists above (get_or (list_of parents r) s 0) ≡ class_of lists above (get_or (list_of parents r) t 0)

-- the first member of a signal's class is no later, and of its class
together : (parents : List (List ℕ)) (lists : ClassLists) (round b : ℕ) → IsClasses parents lists → 1 < round → round ≤ length parents
    → b < length (list_of lists round) → StaysTogether (list_of parents round) (list_of lists (round - 1)) (list_of lists round) b
together parents lists round b h later top within =
    let list = list_of lists round in
    let a = first_beside list b in
    let before : a ≤ b = first_before list b in
    let same : get_or list a 0 ≡ get_or list b 0 = eqb-true (get_or list a 0) (get_or list b 0)
    (passes_at_first (λ x. x == get_or list b 0) list 0 (omega arith)) in
    let long : length list ≡ length (list_of parents round) = h.lengths round (omega arith) top in
    let back : (round - 1) + 1 ≡ round = omega arith in
    let filter : FilterAt parents lists (round - 1) ((round - 1) + 1) = λ s t. h.filter (round - 1) s t (omega arith) (omega arith) in
    let filtered : FilterAt parents lists (round - 1) round = subst (λ r. FilterAt parents lists (round - 1) r) back filter in
    filtered a b (omega arith) (omega arith) same

pub classes_kept : (parents : List (List ℕ)) (lists : ClassLists) (why : ClassFault) → IsClasses parents lists → IsFaultOf parents lists why → ⊥
classes_kept parents lists (Length round) h f =
    let top : round ≤ length parents = elim f.with_one [ inl e ↦ e | inr e ↦ omega (arith, h.rounds, e) ] in
    f.here (record { with_parents = top; with_classes = omega (arith, h.rounds, top); lengths = h.lengths round f.some top })
classes_kept parents lists (NotFirstSeen round at) h f = f.1.here.here (h.numbered round f.1.some (omega (arith, h.rounds, f.1.top)) at f.1.here.within)
classes_kept parents lists (ParentsApart round a b) h f = f.2.here.here
    (together parents lists round b h f.2.some (omega (arith, h.rounds, f.2.top)) f.2.here.within)
