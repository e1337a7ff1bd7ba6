-- What bytes are read as is one: each rule has one first fault.
use Rattle.std.proofs.Common.{◌≡◌, ◌≢◌, ℕ, ◌-◌, ◌<◌, ◌≤◌, List, length, get_or, Result, Ok, Err, refl, sym, ap, ◌∙◌, subst, inl, inr, arith}
use Rattle.std.proofs.{lemmas.Bool.{cases_lt}, lemmas.List.{get_or-take}}
use Rattle.gs_file.specs.{Reading.{FileGame}, declared.version.Version.{Version}}
use Rattle.gs_filter.proofs.Kept.{classes_kept}
use Rattle.gs_filter.specs.Faults.{Agree, AllNumbered, AreFirstApart, AreFirstApartIn, AreTogether, IsFaultOf as IsClassFaultOf, IsFirstLength, IsFirstUnseen}
use Rattle.gs_filter.specs.{Faults.{first_beside}, Tallies.{IsFirstUnseenIn}, declared.fault.ClassFault.{ClassFault}}
use Rattle.gs_filter.specs.declared.fault.ClassFault.TheVariants as class
use Rattle.gs_json.specs.{Differences.{IsFirstDifference}, Steps.{Then}}
use Rattle.gs_model.specs.{Classes.{ClassLists, list_of}, Frame.{Frame}, Numbering.{IsNumbered}, Plans.{Plan}}
use Rattle.gs_seq.proofs.Kept.{plan_kept}
use Rattle.gs_seq.specs.{Faults.{FlowsAt, IsFaultOf as IsPlanFaultOf, IsFirstLeak}, Slots.{plan_of}, declared.fault.PlanFault.{PlanFault}}
use Rattle.gs_seq.specs.declared.fault.PlanFault.TheVariants as slot
use Rattle.serde_json.specs.Data.{Data}
use Rattle.gs_strategy.specs.Checks.{AreClasses, After, Checked, IsCanonical, IsClassFault, IsPlanFault, Reads, ReadResult, ReadsClasses, ReadsParts, ReadsPlan}
use Rattle.gs_strategy.specs.{Faults.{Fault, classes, not_canonical, plan}, Texts.{strategy_text}, Values.{ArePlanWeights, Strategy, Weights, file_frame}}
use Rattle.gs_strategy.specs.Reading.{Whole, class_lists_at, stored_game_at, json_at, numbers_at, parts_at, stored_version_at, weights_at}
use Rattle.gs_strategy.specs.declared.fault.FilePart.{FilePart}
use Rattle.gs_strategy.specs.declared.fault.FilePart.TheVariants as part

-- neither is less
pub one_least : (r s : ℕ) → (r < s → ⊥) → (s < r → ⊥) → r ≡ s
one_least r s a b = elim (cases_lt r s) [ inl l ↦ absurd (a l) | inr l ↦ elim (cases_lt s r) [ inl m ↦ absurd (b m) | inr m ↦ omega arith ] ]

-- ---- classes

lengths_one : (parents : List (List ℕ)) (lists : ClassLists) (r s : ℕ) → IsFirstLength parents lists r → IsFirstLength parents lists s → r ≡ s
lengths_one parents lists r s h k = one_least r s (λ l. h.here (k.before r h.some l)) (λ l. k.here (h.before s k.some l))

agree_or_length : (parents : List (List ℕ)) (lists : ClassLists) (r : ℕ) → Agree parents lists → IsFirstLength parents lists r → ⊥
agree_or_length parents lists r h f =
    let top : r ≤ length parents = elim f.with_one [ inl e ↦ e | inr e ↦ omega (arith, h.rounds, e) ] in
    f.here (record { with_parents = top; with_classes = omega (arith, h.rounds, top); lengths = h.lengths r f.some top })

unseen_in_one : (list : List ℕ) (at to : ℕ) → IsFirstUnseenIn list at → IsFirstUnseenIn list to → at ≡ to
unseen_in_one list at to h k = one_least at to (λ l. h.here (k.before at l)) (λ l. k.here (h.before to l))

numbered_or_unseen : (list : List ℕ) (at : ℕ) → IsNumbered list → IsFirstUnseenIn list at → ⊥
numbered_or_unseen list at h k = k.here (h at k.within)

unseen_one : (lists : ClassLists) (r at s to : ℕ) → IsFirstUnseen lists r at → IsFirstUnseen lists s to → (r ≡ s) × (at ≡ to)
unseen_one lists r at s to h k =
    let e : r ≡ s = one_least r s (λ l. numbered_or_unseen (list_of lists r) at (k.before r h.some l) h.here)
    (λ l. numbered_or_unseen (list_of lists s) to (h.before s k.some l) k.here) in
    (e, unseen_in_one (list_of lists s) at to (subst (λ (i : ℕ). IsFirstUnseenIn (list_of lists i) at) e h.here) k.here)

apart_in_one : (parents above list : List ℕ) (a b c d : ℕ) → AreFirstApartIn parents above list a b → AreFirstApartIn parents above list c d
    → (a ≡ c) × (b ≡ d)
apart_in_one parents above list a b c d h k =
    let e : b ≡ d = one_least b d (λ l. h.here (k.before b l)) (λ l. k.here (h.before d l)) in
    (h.first ∙ ap (first_beside list) e ∙ sym k.first, e)

together_or_apart : (parents above list : List ℕ) (a b : ℕ) → AreTogether parents above list → AreFirstApartIn parents above list a b → ⊥
together_or_apart parents above list a b h k = k.here (h b k.within)

apart_one : (parents : List (List ℕ)) (lists : ClassLists) (r a b s c d : ℕ) → AreFirstApart parents lists r a b → AreFirstApart parents lists s c d
    → (r ≡ s) × (a ≡ c) × (b ≡ d)
apart_one parents lists r a b s c d h k =
    let e : r ≡ s = one_least r s
    (λ l. together_or_apart (list_of parents r) (list_of lists (r - 1)) (list_of lists r) a b (k.before r h.some l) h.here)
    (λ l. together_or_apart (list_of parents s) (list_of lists (s - 1)) (list_of lists s) c d (h.before s k.some l) k.here) in
    let both = apart_in_one (list_of parents s) (list_of lists (s - 1)) (list_of lists s) a b c d
    (subst (λ (i : ℕ). AreFirstApartIn (list_of parents i) (list_of lists (i - 1)) (list_of lists i) a b) e h.here) k.here in
    (e, both.0, both.1)

unseen_or_apart : (parents : List (List ℕ)) (lists : ClassLists) (r at : ℕ) → AllNumbered lists → IsFirstUnseen lists r at → ⊥
unseen_or_apart parents lists r at h k = numbered_or_unseen (list_of lists r) at (h r k.some k.top) k.here

pub class_fault_one : (parents : List (List ℕ)) (lists : ClassLists) (v w : ClassFault) → IsClassFaultOf parents lists v → IsClassFaultOf parents lists w → v ≡ w
class_fault_one parents lists (class.Length r) (class.Length s) h k = ap (λ (i : ℕ). class.Length i) (lengths_one parents lists r s h k)
class_fault_one parents lists (class.Length r) (class.NotFirstSeen s at) h k = absurd (agree_or_length parents lists r k.0 h)
class_fault_one parents lists (class.Length r) (class.ParentsApart s a b) h k = absurd (agree_or_length parents lists r k.0 h)
class_fault_one parents lists (class.NotFirstSeen r at) (class.Length s) h k = absurd (agree_or_length parents lists s h.0 k)
class_fault_one parents lists (class.NotFirstSeen r at) (class.NotFirstSeen s to) h k = let e = unseen_one lists r at s to h.1 k.1 in
    let a = e.0 in let b = e.1 in cc
class_fault_one parents lists (class.NotFirstSeen r at) (class.ParentsApart s a b) h k = absurd (unseen_or_apart parents lists r at k.1 h.1)
class_fault_one parents lists (class.ParentsApart r a b) (class.Length s) h k = absurd (agree_or_length parents lists s h.0 k)
class_fault_one parents lists (class.ParentsApart r a b) (class.NotFirstSeen s at) h k = absurd (unseen_or_apart parents lists s at h.1 k.1)
class_fault_one parents lists (class.ParentsApart r a b) (class.ParentsApart s c d) h k =
    let e = apart_one parents lists r a b s c d h.2 k.2 in let x = e.0 in let y = e.1 in let z = e.2 in cc

-- ---- plans

leak_one : (f : Frame) (lists : ClassLists) (player : ℕ) (x : Plan) (q c p d : ℕ) → IsFirstLeak f lists player x q c → IsFirstLeak f lists player x p d
    → (q ≡ p) × (c ≡ d)
leak_one f lists player x q c p d h k =
    let e : q ≡ p = one_least q p (λ l. h.here (k.points q c l h.own h.class_in)) (λ l. k.here (h.points p d l k.own k.class_in)) in
    let here : FlowsAt f lists player x p c → ⊥ = subst (λ (i : ℕ). FlowsAt f lists player x i c → ⊥) e h.here in
    let below : (i : ℕ) → 0 < i → i < c → FlowsAt f lists player x p i =
    subst (λ (j : ℕ). (i : ℕ) → 0 < i → i < c → FlowsAt f lists player x j i) e h.classes in
    (e, one_least c d (λ l. here (k.classes c h.class_in.0 l)) (λ l. k.here (below d k.class_in.0 l)))

pub plan_fault_one : (f : Frame) (lists : ClassLists) (player total : ℕ) (weights : List ℕ) (v w : PlanFault)
    → IsPlanFaultOf f lists player total weights v → IsPlanFaultOf f lists player total weights w → v ≡ w
plan_fault_one f lists player total weights (slot.Length a) (slot.Length b) h k = ap (λ (i : ℕ). slot.Length i) (h.0 ∙ sym k.0)
plan_fault_one f lists player total weights (slot.Length a) slot.Total h k = absurd (h.1 (k.0 ∙ sym h.0))
plan_fault_one f lists player total weights (slot.Length a) (slot.Flow q c) h k = absurd (h.1 (k.0 ∙ sym h.0))
plan_fault_one f lists player total weights slot.Total (slot.Length b) h k = absurd (k.1 (h.0 ∙ sym k.0))
plan_fault_one f lists player total weights slot.Total slot.Total h k = refl
plan_fault_one f lists player total weights slot.Total (slot.Flow q c) h k = let a = k.1 in let b = k.2 in
    elim h.1 [ inl e ↦ absurd (omega arith) | inr e ↦ absurd (omega arith) ]
plan_fault_one f lists player total weights (slot.Flow q c) (slot.Length b) h k = absurd (k.1 (h.0 ∙ sym k.0))
plan_fault_one f lists player total weights (slot.Flow q c) slot.Total h k = let a = h.1 in let b = h.2 in
    elim k.1 [ inl e ↦ absurd (omega arith) | inr e ↦ absurd (omega arith) ]
plan_fault_one f lists player total weights (slot.Flow q c) (slot.Flow p d) h k =
    let e = leak_one f lists player (plan_of f lists total weights) q c p d h.3 k.3 in let x = e.0 in let y = e.1 in cc

-- ---- differences

not_before : (a b : List ℕ) (at to : ℕ) → IsFirstDifference a b at → IsFirstDifference a b to → at < to → ⊥
not_before a b at to h k l =
    let fa = k.within_first in
    let fb = k.within_second in
    h.differs (omega arith) (omega arith)
    (sym (get_or-take to a at 0 l) ∙ ap (λ (xs : List ℕ). get_or xs at 0) k.same ∙ get_or-take to b at 0 l)

pub difference_one : (a b : List ℕ) (at to : ℕ) → IsFirstDifference a b at → IsFirstDifference a b to → at ≡ to
difference_one a b at to h k = one_least at to (λ l. not_before a b at to h k l) (λ l. not_before a b to at k h l)

-- ---- steps

pub then_one : {A E R : Type 0} (r : Result A E) (next : A → Result R E → Type 0) (x y : Result R E)
    → ((a : A) → next a x → next a y → x ≡ y) → Then r next x → Then r next y → x ≡ y
then_one (Ok a) next x y h p q = h a p q
then_one (Err why) next x y h p q = p ∙ sym q

after_one : {A B : Type 0} (step : Result A Fault → Type 0) (next : A → Result B Fault → Type 0) (x y : Result B Fault)
    → ((a b : Result A Fault) → step a → step b → a ≡ b) → ((a : A) → next a x → next a y → x ≡ y) → After step next x → After step next y → x ≡ y
after_one step next x y one h p q = then_one p.0 next x y h p.2 (subst (λ r. Then r next y) (one q.0 p.0 q.1 p.1) q.2)

abbrev told_as : {A F : Type 0} → (F → Fault) → F → Result A Fault
told_as told v = Err (told v)

checked_one : {A F : Type 0} (Keeps : A → Type 0) (Breaks : A → F → Type 0) (told : F → Fault) (a : A) (x y : Result A Fault)
    → ((why : F) → Keeps a → Breaks a why → ⊥) → ((v w : F) → Breaks a v → Breaks a w → v ≡ w) → Checked Keeps Breaks told a x
    → Checked Keeps Breaks told a y → x ≡ y
checked_one Keeps Breaks told a x y none one (inl p) (inl q) = p.1 ∙ sym q.1
checked_one Keeps Breaks told a x y none one (inl p) (inr q) = absurd (none q.0 p.0 q.1)
checked_one Keeps Breaks told a x y none one (inr p) (inl q) = absurd (none p.0 q.0 p.1)
checked_one Keeps Breaks told a x y none one (inr p) (inr q) = p.2 ∙ ap (told_as told) (one p.0 q.0 p.1 q.1) ∙ sym q.2

classes_one : (g : FileGame) (d : Data) (x y : Result ClassLists Fault) → ReadsClasses g d x → ReadsClasses g d y → x ≡ y
classes_one g d x y = then_one (class_lists_at d) (Checked (AreClasses g) (IsClassFault g) classes) x y
    (λ lists. checked_one (AreClasses g) (IsClassFault g) classes lists x y
    (λ why p f. classes_kept (file_frame g).parents lists why p f)
    (λ v w p q. class_fault_one (file_frame g).parents lists v w p q))

plan_one : (g : FileGame) (lists : ClassLists) (player : ℕ) (of_player : FilePart) (d : Data) (x y : Result Weights Fault)
    → ReadsPlan g lists player of_player d x → ReadsPlan g lists player of_player d y → x ≡ y
plan_one g lists player of_player d x y =
    then_one (weights_at of_player d) (Checked (ArePlanWeights g lists player) (IsPlanFault g lists player) (plan player)) x y
    (λ w. checked_one (ArePlanWeights g lists player) (IsPlanFault g lists player) (plan player) w x y
    (λ why p f. plan_kept (file_frame g) lists player w.total w.weights why p f)
    (λ v u p q. plan_fault_one (file_frame g) lists player w.total w.weights v u p q))

parts_one : (version : Version) (parts : Whole) (x y : ReadResult) → ReadsParts version parts x → ReadsParts version parts y → x ≡ y
parts_one version parts x y =
    then_one (stored_game_at version parts.game) _ x y (λ g.
    after_one (ReadsClasses g parts.classes) _ x y (classes_one g parts.classes) (λ lists.
    after_one (ReadsPlan g lists 1 part.Player1 parts.player1) _ x y (plan_one g lists 1 part.Player1 parts.player1) (λ one.
    after_one (ReadsPlan g lists 2 part.Player2 parts.player2) _ x y (plan_one g lists 2 part.Player2 parts.player2) (λ two.
    then_one (numbers_at parts) _ x y (λ numbers p q. p ∙ sym q)))))

canonical_one : (version : Version) (bytes : List ℕ) (s : Strategy) (x y : ReadResult) → IsCanonical version bytes s x → IsCanonical version bytes s y → x ≡ y
canonical_one version bytes s x y =
    let text = strategy_text version s in
    checked_one (λ s. bytes ≡ strategy_text version s)
    (λ s at. (bytes ≢ strategy_text version s) × IsFirstDifference bytes (strategy_text version s) at) not_canonical s x y (λ at e f. f.0 e)
    (λ v w p q. difference_one bytes text v w p.1 q.1)

-- bytes are read as one thing
pub reads_one : (bytes : List ℕ) (x y : ReadResult) → Reads bytes x → Reads bytes y → x ≡ y
reads_one bytes x y =
    then_one (json_at bytes) _ x y (λ d.
    then_one (stored_version_at d) _ x y (λ version.
    then_one (parts_at d) _ x y (λ parts.
    after_one (ReadsParts version parts) (IsCanonical version bytes) x y (parts_one version parts) (λ s. canonical_one version bytes s x y))))
