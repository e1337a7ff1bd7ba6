use Rattle.std.proofs.Common.{◌≡◌, ◌+◌, ◌-◌, ◌<◌, ◌∙◌, ⊎_elim, ℕ, Bool, false, true≢false, List, Vec, Global, ap, arith, below_more, get_or, length, length-set}
use Rattle.std.proofs.Common.{set, subst, sym}
use Rattle.std.proofs.{lemmas.Bool.{cases_eq}, lemmas.List.{get_or-set_other, get_or-set_same}}
use Rattle.gs_model.specs.Classes.{ClassLists, class_of, first_member}
use Rattle.gs_split.specs.Turns.{IsSettled}
use Rattle.gs_split.proofs.aspects.settled_classes.Goals.{then-firsts-signal, else-firsts-signal}
use Rattle.gs_split.proofs.aspects.settled_classes.Goals as goal

module _ (lists : ClassLists) (round : ℕ) (firsts : List ℕ) (signal : ℕ) where
  -- where the class of a signal is settled, its stand-in is the first member
  abbrev Stands : List Bool → ℕ → Type 0
  Stands settled s = IsSettled lists round settled s → get_or firsts s 0 ≡ first_member lists round (class_of lists round s)

  -- a signal whose stand-in is not the first member
  parted : (settled : List Bool) (place : ℕ) → place ≡ class_of lists round signal - 1 → place < length settled
      → ((s : ℕ) → s < signal → Stands settled s) → (s : ℕ) → s < signal + 1 → Stands (set settled place false) s
  parted settled place is within old s l marked = ⊎_elim
      (λ (here : class_of lists round s - 1 ≡ place).
      absurd (true≢false (sym marked ∙ ap (λ k. get_or (set settled place false) k false) here ∙ get_or-set_same settled place false false within)))
      (λ other. old s (before s l other) (sym (get_or-set_other settled place (class_of lists round s - 1) false false other) ∙ marked))
      (cases_eq (class_of lists round s - 1) place)
    where
      before : (s : ℕ) → s < signal + 1 → (class_of lists round s - 1 ≡ place → ⊥) → s < signal
      before s l other = ⊎_elim (λ (e : s ≡ signal). absurd (other (ap (λ k. class_of lists round k - 1) e ∙ sym is))) (λ ne. omega (arith, l, ne)) (cases_eq s signal)

pub loop-signal-preserved : goal.loop-signal-preserved
loop-signal-preserved c =
    let lists = c.args.classes.now.lists in
    let firsts = c.args.firsts.now in
    let i = c.loop-signal.invariant in
    let settled = c.loop-signal.settled.items in
    let signal = c.loop-signal.signal in
    let class = c.class_of-class.ensures in
    elim c.if-firsts-signal.branch [
      | then-firsts-signal w ↦
          let now = ap (λ (v : Vec Bool Global). v.items) w.settled-is in
          let place = c.class_of-class.result - 1 in
          record {
            long = ap (λ (l : List Bool). length l) now ∙ length-set settled place false ∙ i.long;
            first = subst (λ (l : List Bool). (s : ℕ) → s < signal + 1 → Stands lists c.args.round firsts signal l s) (sym now)
                (parted lists c.args.round firsts signal settled place (ap (λ k. k - 1) class.value) (omega (arith, class.class, i.long)) i.first);
          }
      | else-firsts-signal w ↦
          let now = ap (λ (v : Vec Bool Global). v.items) w.settled-is in
          record {
            long = ap (λ (l : List Bool). length l) now ∙ i.long;
            first = subst (λ (l : List Bool). (s : ℕ) → s < signal + 1 → Stands lists c.args.round firsts signal l s) (sym now)
                (below_more _ _ i.first (λ _. w.if-firsts-signal.false ∙ c.first.ensures.value ∙ ap (first_member lists c.args.round) class.value));
          }
    ]
