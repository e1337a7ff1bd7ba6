-- The classes of all rounds together: they are an information filter over the parents of the signals.
use Rattle.std.proofs.Common.{◌≡◌, ℕ, suc, ◌+◌, ◌-◌, ◌<◌, ◌≤◌, List, [], length, map, take, get_or, sym, ap, ◌∙◌, subst, arith}
use Rattle.std.proofs.lemmas.List.FromFn.{get_or-map-range_with_len, length-map-range_with_len}
use Rattle.std.specs.List.{range_with_len}
use Rattle.gs_model.specs.{Classes.{ClassLists, IsClasses, IsFilter, class_of, list_of}, Game.{Game, round_count}, SignalClasses.{IsSignalClasses, SameClass}}
use Rattle.gs_model.specs.Signals.{parents, signal_at}
use Rattle.gs_model.proofs.{Ranges.{length-parents}, Extends.{before_last, parents_below}}

-- for each round the parents of its signals
abbrev pub all_parents : Game → List (List ℕ)
all_parents g = map (parents g) (range_with_len 1 (round_count g))

pub parents_long : (g : Game) → length (all_parents g) ≡ round_count g
parents_long g = length-map-range_with_len (parents g) 1 (round_count g)

pub parents_at : (g : Game) (round : ℕ) → 0 < round → round ≤ round_count g → list_of (all_parents g) round ≡ parents g round
parents_at g round some le = get_or-map-range_with_len (parents g) 1 (round_count g) (round - 1) round [] (omega (arith, some, le)) (omega (arith, some))

pub are_classes : (g : Game) (lists : ClassLists) → IsSignalClasses g lists → IsClasses (all_parents g) lists
are_classes g lists h =
    let n = parents_long g in
    record {
      rounds = h.rounds ∙ sym n;
      lengths = λ round some le.
          let e = ap length (parents_at g round some (omega (arith, le, n))) in
          let p = length-parents g round in
          let q = h.lengths round some (omega (arith, le, n)) in
          omega (arith, e, p, q);
      numbered = λ round some le. (h.classes round some (omega (arith, le, n))).numbered;
      filter = kept;
    }
  where
    kept : IsFilter (all_parents g) lists
    kept round s t some lt ls lt' same =
        let n = parents_long g in
        let one : round + 1 ≡ suc round = omega arith in
        let here : list_of (all_parents g) (round + 1) ≡ parents g (suc round) =
        ap (list_of (all_parents g)) one ∙ parents_at g (suc round) (omega arith) (omega (arith, lt, n)) in
        let e = ap length here in
        let p = length-parents g (suc round) in
        let ins : s < length (parents g (suc round)) = omega (arith, ls, e) in
        let inst : t < length (parents g (suc round)) = omega (arith, lt', e) in
        let q = h.lengths (suc round) (omega arith) (omega (arith, lt, n)) in
        let both = (h.classes (suc round) (omega arith) (omega (arith, lt, n))).same s t (omega (arith, ins, p, q)) (omega (arith, inst, p, q)) in
        let alike = (both.0 (sym (ap (λ r. class_of lists r s) one) ∙ same ∙ ap (λ r. class_of lists r t) one)).1 in
        let ps = get_or (parents g (suc round)) s 0 in
        let pt = get_or (parents g (suc round)) t 0 in
        let up : SameClass g round (signal_at g round ps) (signal_at g round pt) =
        subst (λ a. SameClass g round a (signal_at g round pt)) (before_last g round s (omega (arith, ins, p)))
        (subst (λ b. SameClass g round (take round (signal_at g (suc round) s)) b) (before_last g round t (omega (arith, inst, p))) alike) in
        let rs = parents_below g round s 0 ins in
        let rt = parents_below g round t 0 inst in
        let u = h.lengths round some (omega (arith, lt, n)) in
        let equal : class_of lists round ps ≡ class_of lists round pt = ((h.classes round some (omega (arith, lt, n))).same ps pt (omega (arith, rs, u))
        (omega (arith, rt, u))).1 up in
        ap (λ (l : List ℕ). class_of lists round (get_or l s 0)) here ∙ equal ∙ sym (ap (λ (l : List ℕ). class_of lists round (get_or l t 0)) here)
