-- Lists for the rounds so far, and one more.
use Rattle.std.proofs.Common.{◌≡◌, ◌↔◌, ℕ, zero, suc, ◌+◌, ◌-◌, ◌<◌, ◌≤◌, ◌^◌, List, [], ◌∷◌, ◌++◌, length, get_or, refl, sym, ap, ◌∙◌, subst, arith, Vec}
use Rattle.std.proofs.Common.{Global}
use Rattle.std.specs.List.{All}
use Rattle.gs_model.specs.{Classes.{list_of}, Game.{Game, round_count}, Numbering.{IsNumbered}, SignalClasses.{IsSignalClasses}, Signals.{parents, signals}}
use Rattle.gs_model.specs.Rows.{rows}
use Rattle.gs_model.proofs.{Ranges.{length-parents}, Extends.{parents_below}}
use Rattle.gs_game.specs.Limits.{IsWithinLimits}
use Rattle.gs_filter.proofs.RowLaws.{length-rows, row_read}
use Rattle.gs_iso.specs.{KeyNumbers.{IsKeyClasses}, Numbers.{AreNumberings, IsNumbering, class_key, classes_above}}
use Rattle.gs_iso.proofs.Below.{AreRoundClasses, next_classes}

-- what holds of each list and of one more
pub rows_more : (P : ℕ → List ℕ → Type 0) (vs : List (Vec ℕ Global)) (v : Vec ℕ Global) → ((k : ℕ) → k < length vs → P k (get_or (rows vs) k []))
    → P (length vs) v.items
    → (k : ℕ) → k < length (vs ++ v ∷ []) → P k (get_or (rows (vs ++ v ∷ [])) k [])
rows_more P [] v old here zero l = here
rows_more P [] v old here (suc k) l = absurd (omega (arith, l))
rows_more P (w ∷ vs) v old here zero l = old zero (omega arith)
rows_more P (w ∷ vs) v old here (suc k) l = rows_more (λ j. P (suc j)) vs v (λ j m. old (suc j) (omega (arith, m))) here k (omega (arith, l))

-- the classes of a round, one number for each signal
pub record AreClassesIn (g : Game) (round : ℕ) (classes : List ℕ) : Type 0 where
  pub long : length classes ≡ length (signals g round)
  pub grouped : AreRoundClasses g round classes

-- the classes before round 1: the root's alone
abbrev root_classes : List ℕ
root_classes = 1 ∷ []

root_class : (g : Game) → AreClassesIn g 0 root_classes
root_class g = record { long = refl; grouped = record { numbered = numbered; same = same } }
  where
    numbered : IsNumbered root_classes
    numbered zero l = (omega arith, omega arith)
    numbered (suc k) l = absurd (omega (arith, l))

    same : (i j : ℕ) → i < 1 → j < 1 → (get_or root_classes i 0 ≡ get_or root_classes j 0) ↔ Unit {0}
    same zero zero li lj = (λ e. tt, λ u. refl)
    same zero (suc j) li lj = absurd (omega (arith, lj))
    same (suc i) j li lj = absurd (omega (arith, li))

pub above_classes : (g : Game) (lists : List (List ℕ)) → ((k : ℕ) → k < length lists → AreClassesIn g (suc k) (get_or lists k []))
    → AreClassesIn g (length lists) (classes_above lists)
above_classes g [] h = root_class g
above_classes g (x ∷ xs) h = h (length xs) (omega arith)

pub above_in : (g : Game) (vs : List (Vec ℕ Global)) (done : ℕ) (above : List ℕ) → length vs ≡ done → above ≡ classes_above (rows vs)
    → ((k : ℕ) → k < length vs → AreClassesIn g (suc k) (get_or (rows vs) k []))
    → AreClassesIn g done above
above_in g vs done above long is each =
    let n = length-rows vs in
    subst (AreClassesIn g done) (sym is) (subst (λ n. AreClassesIn g n (classes_above (rows vs))) (n
    ∙ long) (above_classes g (rows vs) (λ k l. each k (omega (arith, l, n)))))

-- numbers of a round by their place
pub numbers_in : (g : Game) (all : List (List ℕ)) (i round : ℕ) (numbers : List ℕ) → AreNumberings g all → i < length all → round_count g - i ≡ round
    → numbers ≡ get_or all i [] → IsNumbering g round numbers
numbers_in g all i round numbers h l e is = subst (IsNumbering g round) (sym is) (subst (λ r. IsNumbering g r (get_or all i [])) e (h.each i l))

pub numbers_below : (g : Game) (all : List (Vec ℕ Global)) (round i : ℕ) (v : Vec ℕ Global) (numbers : List ℕ) → AreNumberings g (rows all)
    → i + round + 1 ≡ round_count g → v ≡ get_or all i v → numbers ≡ v.items
    → IsNumbering g (round + 1) numbers
numbers_below g all round i v numbers h e is same =
    let n = length-rows all in
    let lt : i < length all = omega (arith, n, h.rounds, e) in
    numbers_in g (rows all) i (round + 1) numbers h (omega (arith, n, lt)) (omega (arith, e)) (same ∙ row_read all i v lt is)

-- the classes of a round, the parents and the numbers of the next are ready for its classes
pub record AreReady (above ps numbers : List ℕ) : Type 0 where
  pub all : length ps ≡ length numbers
  pub few : length numbers + 1 < 2 ^ 32
  pub in_range : All (λ p. p < length above) ps

pub ready : (g : Game) (round : ℕ) (above ps numbers : List ℕ) → IsWithinLimits g → round < round_count g → AreClassesIn g round above
    → ps ≡ parents g (suc round) → IsNumbering g (suc round) numbers
    → AreReady above ps numbers
ready g round above ps numbers limits l a is n = record {
  all = ap length is ∙ length-parents g (suc round) ∙ sym n.long;
  few = omega (arith, n.long, limits.signals_in (suc round) (omega (arith, l)));
  in_range = subst (λ ps. All (λ p. p < length above) ps) (sym is) (subst (λ k. All (λ p. p < k) (parents g (suc round))) (sym a.long)
      (parents_below g round));
}

-- with the classes of a round, those of the next
pub classes_next : (g : Game) (round : ℕ) (above numbers classes : List ℕ) → AreClassesIn g round above → IsNumbering g (suc round) numbers
    → length classes ≡ length numbers → (ps : List ℕ) → ps ≡ parents g (suc round) → IsKeyClasses (class_key above ps numbers) classes
    → AreClassesIn g (suc round) classes
classes_next g round above numbers classes a n long ps is h = record {
  long = long ∙ n.long;
  grouped = next_classes g round above numbers classes a.long a.grouped n long (subst (λ ps. IsKeyClasses (class_key above ps numbers) classes) is h);
}

-- the lists of all rounds are signal classes
pub all_classes : (g : Game) (lists : List (List ℕ)) → length lists ≡ round_count g
    → ((k : ℕ) → k < length lists → AreClassesIn g (suc k) (get_or lists k [])) → IsSignalClasses g lists
all_classes g lists all h = record {
  rounds = all;
  lengths = λ round some le. (at round some le).long;
  classes = λ round some le. (at round some le).grouped;
}
  where
    at : (round : ℕ) → 0 < round → round ≤ round_count g → AreClassesIn g round (list_of lists round)
    at round some le =
        let e : suc (round - 1) ≡ round = omega (arith, some) in
        subst (λ r. AreClassesIn g r (list_of lists round)) e (h (round - 1) (omega (arith, some, le, all)))
