-- From the keys of a round to the new classes of all rounds, and to a turn.
use Rattle.std.proofs.Common.{◌≡◌, ◌↔◌, ℕ, suc, ◌+◌, ◌-◌, ◌<◌, ◌≤◌, List, [], ◌∷◌, ◌++◌, length, map, get_or, sym, ap, ◌∙◌, subst, arith, ⊎_elim, length-append}
use Rattle.std.proofs.{Common.{Vec, Global, Result, Ok, Err}, lemmas.Bool.{cases_eq, cases_lt}, lemmas.List.{get_or_append_left, get_or_default, get_or_push}}
use Rattle.std.proofs.lemmas.List.Elements.{All-from_recursion}
use Rattle.std.specs.{Prelude.{IfOk}, List.{All, AllByRecursion}}
use Rattle.gs_model.specs.{Classes.{ClassLists, IsClasses, IsFilter, class_of, list_of}, RefinementTurn.{IsTurn}, Signals.{children, parents}, Rows.{rows}}
use Rattle.gs_model.specs.{Frame.{Frame, ancestor, ancestor_up, frame_of, last_round, parents_of, signal_count}, Game.{Game, round_at, round_count}}
use Rattle.gs_model.proofs.Ranges.{in_range, parents_at}
use Rattle.gs_filter.proofs.RowLaws.{length-rows, row_read}
use Rattle.gs_tree.specs.{Trees.{rules_of}, declared.signals.Signals.{Signals}}
use Rattle.gs_lossless.proofs.Descent.{playable}
use Rattle.gs_iso.specs.{KeyNumbers.{IsKeyClasses}, Numbers.{classes_above}}
use Rattle.gs_iso.proofs.FirstSeen.{classes_like}
use Rattle.gs_split.specs.Turns.{AreExact, AreParted, AreTurnNumbers, HaveNumbers, IsRoundParted, StayInRound, turn_key}
use Rattle.gs_split.proofs.Agreed.{triples}

-- ---- parents

zeros : {X : Type 0} (ys : List X) → AllByRecursion (λ p. p < 1) (map (λ (_ : X). 0) ys ++ [])
zeros [] = tt
zeros (y ∷ ys) = (omega arith, zeros ys)

-- the parents of round 1 are the root
roots : (g : Game) → All (λ p. p < 1) (parents g 1)
roots g = All-from_recursion (λ p. p < 1) (parents g 1) (zeros (children g (round_at g 1) []))

module _ (s : Signals) where
  -- the parents of a round are signals of the round before; in round 1 they are all one
  pub parents_under : (round n : ℕ) → 0 < round → round ≤ round_count (rules_of s) → (round ≡ 1 → 0 < n)
      → (1 < round → n ≡ signal_count (frame_of (rules_of s)) (round - 1)) → All (λ p. p < n) (parents (rules_of s) round)
  parents_under round n some top any above = ⊎_elim
      (λ more. λ k d l.
      let g = rules_of s in
      let at = parents_at g round some top in
      let e = above more in
      let r : get_or (parents g round) k d ≡ get_or (parents_of (frame_of g) round) k 0 =
      get_or_default (parents g round) k d 0 l ∙ ap (λ (ps : List ℕ). get_or ps k 0) (sym at) in
      let lt = (in_range g (playable s)).parents round k more (omega (arith, l, ap (λ (ps : List ℕ). length ps) at)) in
      omega (arith, e, r, lt))
      (λ first. let one : round ≡ 1 = omega (arith, some, first) in
      λ k d l. let z : get_or (parents (rules_of s) round) k d < 1 = subst (λ r. All (λ p. p < 1) (parents (rules_of s) r)) (sym one)
      (roots (rules_of s)) k d l in omega (arith, z, any one))
      (cases_lt 1 round)

  pub first_parents : (round i : ℕ) → round ≡ 1 → i < signal_count (frame_of (rules_of s)) round → get_or (parents_of (frame_of (rules_of s)) round) i 0 ≡ 0
  first_parents round i one l =
      let g = rules_of s in
      let at = parents_at g round (omega (arith, one)) (omega (arith, one, (playable s).some)) in
      let r = ap (λ (ps : List ℕ). get_or ps i 0) at in
      let z : get_or (parents g round) i 0 < 1 = subst (λ r. All (λ p. p < 1) (parents g r)) (sym one) (roots g) i 0
      (omega (arith, l, ap (λ (ps : List ℕ). length ps) at)) in
      omega (arith, r, z)

-- ---- one round

-- signals with one key stay together
round_turned : (f : Frame) (old : ClassLists) (round : ℕ) (above numbers list : List ℕ) → length numbers ≡ signal_count f round
    → ((i : ℕ) → round ≡ 1 → i < signal_count f round → get_or (parents_of f round) i 0 ≡ 0) → 0 < round → length list ≡ length numbers
    → IsKeyClasses (turn_key (list_of old round) above (parents_of f round) numbers) list → IsRoundParted f old above numbers round list
round_turned f old round above numbers list n first some long h = record {
  long = long ∙ n;
  classes = classes_like (λ i j. key i ≡ key j) (StayInRound f old above numbers round) list both h;
}
  where
    key : ℕ → ℕ × ℕ × ℕ
    key i = turn_key (list_of old round) above (parents_of f round) numbers i

    both : (i j : ℕ) → i < length list → j < length list → (turn_key (list_of old round) above (parents_of f round) numbers i
        ≡ turn_key (list_of old round) above (parents_of f round) numbers j) ↔ StayInRound f old above numbers round i j
    both i j li lj =
        let place : ℕ → ℕ = λ i. get_or (parents_of f round) i 0 in (
          (λ e. record { before = ap (λ (p : ℕ × ℕ × ℕ). p.0) e; parents = λ _. ap (λ (p : ℕ × ℕ × ℕ). p.1) e; number = ap (λ (p : ℕ × ℕ × ℕ). p.2) e }),
          (λ st.
              let up : get_or above (place i) 0 ≡ get_or above (place j) 0 = ⊎_elim (λ more. st.parents more)
              (λ less. let one : round ≡ 1 = omega (arith, some, less) in
              ap (λ p. get_or above p 0) (first i one (omega (arith, li, long, n)) ∙ sym (first j one (omega (arith, lj, long, n)))))
              (cases_lt 1 round) in
              triples (turn_key (list_of old round) above (parents_of f round) numbers i)
              (turn_key (list_of old round) above (parents_of f round) numbers j) st.before up st.number),
        )

pub round_made : (f : Frame) (old : ClassLists) (round : ℕ) (above numbers list before ps : List ℕ) → before ≡ list_of old round → ps ≡ parents_of f round
    → length numbers ≡ signal_count f round
    → ((i : ℕ) → round ≡ 1 → i < signal_count f round → get_or (parents_of f round) i 0 ≡ 0) → 0 < round → length list ≡ length numbers
    → IsKeyClasses (turn_key before above ps numbers) list → IsRoundParted f old above numbers round list
round_made f old round above numbers list before ps eb ep n first some long h =
    let h1 = subst (λ b. IsKeyClasses (turn_key b above ps numbers) list) eb h in
    let h2 = subst (λ p. IsKeyClasses (turn_key (list_of old round) above p numbers) list) ep h1 in
    round_turned f old round above numbers list n first some long h2

-- the list of a round that is read
pub list_read : (ls : List (Vec ℕ Global)) (lists : ClassLists) (i round : ℕ) (v : Vec ℕ Global) (now : List ℕ) → rows ls ≡ lists → i ≡ round → 0 < round
    → round ≤ length lists → v ≡ get_or ls (i - 1) v → now ≡ v.items
    → now ≡ list_of lists round
list_read ls lists i round v now e r some le is at =
    at ∙ row_read ls (i - 1) v (omega (arith, r, some, le, ap (λ (l : ClassLists). length l) e, length-rows ls)) is
    ∙ ap (λ (l : ClassLists). get_or l (i - 1) []) e ∙ ap (λ k. get_or lists (k - 1) []) r

-- the list of the round after one
pub list_next : (ls : List (Vec ℕ Global)) (lists : ClassLists) (i round : ℕ) (v : Vec ℕ Global) (now : List ℕ) → rows ls ≡ lists → i ≡ round
    → round < length lists → v ≡ get_or ls i v → now ≡ v.items
    → now ≡ list_of lists (round + 1)
list_next ls lists i round v now e r le is at =
    let j : round ≡ round + 1 - 1 = omega arith in
    at ∙ row_read ls i v (omega (arith, r, le, ap (λ (l : ClassLists). length l) e, length-rows ls)) is ∙ ap (λ (l : ClassLists). get_or l i []) e
    ∙ ap (λ k. get_or lists k []) (r ∙ j)

pub both_ok : {T E : Type 0} (r : Result T E) (P Q R : T → Type 0) → ((x : T) → P x → Q x → R x) → IfOk r P → IfOk r Q → IfOk r R
both_ok (Ok x) P Q R h p q = h x p q
both_ok (Err e) P Q R h p q = p

-- ---- rounds so far

pub above_some : (new : ClassLists) → length new ≡ 0 → 0 < length (classes_above new)
above_some [] e = omega arith
above_some (x ∷ xs) e = absurd (omega (arith, e))

-- below a round the classes above are its own
above_last : (new : ClassLists) → 0 < length new → classes_above new ≡ get_or new (length new - 1) []
above_last [] some = absurd (omega (arith, some))
above_last (x ∷ xs) some = let e : length xs ≡ length (x ∷ xs) - 1 = omega arith in ap (λ k. get_or (x ∷ xs) k []) e

-- the first rounds are parted
abbrev pub ArePartedTo : Frame → ClassLists → ClassLists → ClassLists → Type 0
ArePartedTo f old numbers new = (k : ℕ) → k < length new → IsRoundParted f old (list_of new k) (list_of numbers (suc k)) (suc k) (get_or new k [])

pub above_long : (f : Frame) (old numbers new : ClassLists) → ArePartedTo f old numbers new → 0 < length new
    → length (classes_above new) ≡ signal_count f (length new)
above_long f old numbers new each some =
    let e : suc (length new - 1) ≡ length new = omega (arith, some) in
    ap (λ (l : List ℕ). length l) (above_last new some) ∙ (each (length new - 1) (omega (arith, some))).long
    ∙ ap (signal_count f) e

-- above round 1 any classes do
turn_like : (f : Frame) (old : ClassLists) (above other numbers : List ℕ) (round : ℕ) (list : List ℕ) → (1 < round → above ≡ other)
    → IsRoundParted f old above numbers round list → IsRoundParted f old other numbers round list
turn_like f old above other numbers round list e h = record {
  long = h.long;
  classes = classes_like (StayInRound f old above numbers round) (StayInRound f old other numbers round) list
      (λ i j li lj.
      let P : List ℕ → Type 0 = λ a. get_or a (get_or (parents_of f round) i 0) 0 ≡ get_or a (get_or (parents_of f round) j 0) 0 in (
        (λ st. record { before = st.before; parents = λ more. subst P (e more) (st.parents more); number = st.number }),
        (λ st. record { before = st.before; parents = λ more. subst P (sym (e more)) (st.parents more); number = st.number }),
      ))
      h.classes;
}

pub turned_more : (f : Frame) (old numbers new : ClassLists) (above x : List ℕ) → above ≡ classes_above new → ArePartedTo f old numbers new
    → IsRoundParted f old above (list_of numbers (suc (length new))) (suc (length new)) x → ArePartedTo f old numbers (new ++ x ∷ [])
turned_more f old numbers new above x is each here k l = ⊎_elim
    (λ e.
    let at : get_or (new ++ x ∷ []) k [] ≡ x = get_or_push new x [] k (sym e) in
    let up : 1 < suc k → above ≡ list_of (new ++ x ∷ []) k = λ more.
    is ∙ above_last new (omega (arith, e, more)) ∙ ap (λ j. get_or new (j - 1) []) (sym e)
    ∙ sym (get_or_append_left new (x ∷ []) [] (k - 1) (omega (arith, e, more))) in
    let r = subst (λ j. IsRoundParted f old above (list_of numbers (suc j)) (suc j) x) (sym e) here in
    subst (λ y. IsRoundParted f old (list_of (new ++ x ∷ []) k) (list_of numbers (suc k)) (suc k) y) (sym at)
    (turn_like f old above (list_of (new ++ x ∷ []) k) (list_of numbers (suc k)) (suc k) x up r))
    (λ ne.
    let lt : k < length new = omega (arith, l, length-append new (x ∷ []), ne) in
    let at : get_or (new ++ x ∷ []) k [] ≡ get_or new k [] = get_or_append_left new (x ∷ []) [] k lt in
    let up : list_of (new ++ x ∷ []) k ≡ list_of new k = get_or_append_left new (x ∷ []) [] (k - 1) (omega (arith, lt)) in
    subst (λ y. IsRoundParted f old (list_of (new ++ x ∷ []) k) (list_of numbers (suc k)) (suc k) y) (sym at)
    (subst (λ a. IsRoundParted f old a (list_of numbers (suc k)) (suc k) (get_or new k [])) (sym up) (each k lt)))
    (cases_eq k (length new))

pub all_turned : (f : Frame) (old numbers new : ClassLists) → length new ≡ last_round f → ArePartedTo f old numbers new → AreParted f old numbers new
all_turned f old numbers new all each = record {
  rounds = all;
  each = λ round some le.
      let e : suc (round - 1) ≡ round = omega (arith, some) in
      subst (λ r. IsRoundParted f old (list_of new (round - 1)) (list_of numbers r) r (list_of new round)) e
      (each (round - 1) (omega (arith, some, le, all)));
}

-- ---- all rounds

pub up_one : (f : Frame) (round s : ℕ) → 0 < round → ancestor f round (round - 1) s ≡ get_or (parents_of f round) s 0
unfolding ancestor
up_one f round s some = let one : round - (round - 1) ≡ 1 = omega (arith, some) in ap (λ k. ancestor_up f round k s) one

-- the numbers of the first rounds are exact
abbrev pub AreExactTo : Frame → ClassLists → ClassLists → Type 0
AreExactTo f lists numbers = (k : ℕ) → k < length numbers → AreTurnNumbers f lists (suc k) (get_or numbers k [])

pub exact_more : (f : Frame) (lists numbers : ClassLists) (x : List ℕ) → AreExactTo f lists numbers → AreTurnNumbers f lists (suc (length numbers)) x
    → AreExactTo f lists (numbers ++ x ∷ [])
exact_more f lists numbers x each here k l = ⊎_elim
    (λ e. subst (AreTurnNumbers f lists (suc k)) (sym (get_or_push numbers x [] k (sym e))) (subst (λ j. AreTurnNumbers f lists (suc j) x) (sym e) here))
    (λ ne.
    let lt : k < length numbers = omega (arith, l, length-append numbers (x ∷ []), ne) in
    subst (AreTurnNumbers f lists (suc k)) (sym (get_or_append_left numbers (x ∷ []) [] k lt)) (each k lt))
    (cases_eq k (length numbers))

pub all_exact : (f : Frame) (lists numbers : ClassLists) → length numbers ≡ last_round f → AreExactTo f lists numbers → AreExact f lists numbers
all_exact f lists numbers all each = record {
  rounds = all;
  each = λ round some le.
      let e : suc (round - 1) ≡ round = omega (arith, some) in
      subst (λ r. AreTurnNumbers f lists r (list_of numbers round)) e (each (round - 1) (omega (arith, some, le, all)));
}

-- exact numbers are numbers for each signal
pub exact_have : (f : Frame) (lists numbers : ClassLists) → AreExact f lists numbers → HaveNumbers f numbers
exact_have f lists numbers h = record { rounds = h.rounds; each = λ round some le. (h.each round some le).long }

module _ (f : Frame) (old numbers new : ClassLists) (h : AreParted f old numbers new) where
  pub turn_of : AreExact f old numbers → IsTurn f old new
  turn_of exact round s t some le ls lt =
      let e = h.each round some le in
      let n = exact.each round some le in
      let same = e.classes.same s t (omega (arith, ls, e.long)) (omega (arith, lt, e.long)) in
      let up : (x : ℕ) → class_of new (round - 1) (ancestor f round (round - 1) x) ≡ class_of new (round - 1) (get_or (parents_of f round) x 0) =
      λ x. ap (class_of new (round - 1)) (up_one f round x some) in
      let equal = n.same s t (omega (arith, ls, n.long)) (omega (arith, lt, n.long)) in (
        (λ c.
            let st = same.0 c in
            let sums = (equal st.before).0 st.number in
            record { before = st.before; parents = λ more. up s ∙ st.parents more ∙ sym (up t); sums = sums.sums; children = sums.children }),
        (λ st. same.1 (record {
          before = st.before;
          parents = λ more. sym (up s) ∙ st.parents more ∙ up t;
          number = (equal st.before).1 (record { sums = st.sums; children = st.children });
        })),
      )

  pub classes_of : IsClasses f.parents new
  classes_of = record {
    rounds = h.rounds;
    lengths = λ round some le. (h.each round some le).long;
    numbered = λ round some le. (h.each round some le).classes.numbered;
    filter = kept;
  }
    where
      kept : IsFilter f.parents new
      kept round s t some lt ls lt' same =
          let e = h.each (round + 1) (omega arith) (omega (arith, lt)) in
          let down : round + 1 - 1 ≡ round = omega arith in
          let st = (e.classes.same s t (omega (arith, ls, e.long)) (omega (arith, lt', e.long))).0 same in
          subst (λ r. get_or (list_of new r) (get_or (parents_of f (round + 1)) s 0) 0
          ≡ get_or (list_of new r) (get_or (parents_of f (round + 1)) t 0) 0) down (st.parents (omega (arith, some)))
