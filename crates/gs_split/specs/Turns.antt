-- What a turn of the refinement compares, round by round.
use Rattle.std.specs.Prelude.{ℕ, ◌-◌, ◌<◌, ◌≤◌, ◌≡◌, ◌↔◌, ℤ, Bool, true, false, List, get_or, length}
use Rattle.gs_model.specs.{Classes.{ClassLists, InOneClass, class_count, class_of, first_member, list_of}, Frame.{Frame, last_round, parents_of, signal_count}}
use Rattle.gs_model.specs.{Lossless.{children_in, weight_with}, Numbering.{IsClassesOf}}
use Rattle.gs_lossless.specs.{Amounts.{HaveEqualAmounts}, declared.aspects.Aspect.{Aspect}}

-- ---- sums

-- the class of a signal is settled; `settled` has an entry for each class
abbrev pub IsSettled : ClassLists → ℕ → List Bool → ℕ → Type 0
IsSettled lists round settled s = get_or settled (class_of lists round s - 1) false ≡ true

-- for each member of a settled class, `firsts` has the first member of the class
pub record AreSettled (lists : ClassLists) (round : ℕ) (firsts : List ℕ) (settled : List Bool) : Type 0 where
  pub long : length settled ≡ class_count lists round
  pub first : (s : ℕ) → s < length firsts → IsSettled lists round settled s → get_or firsts s 0 ≡ first_member lists round (class_of lists round s)

-- numbers of the members of one class: equal exactly where the members agree on one aspect
abbrev pub AreMemberNumbers : Frame → ClassLists → Aspect → ℕ → ℕ → List ℕ → Type 0
AreMemberNumbers f lists aspect round class numbers = (i j : ℕ) → i < length numbers → j < length numbers → class_of lists round i ≡ class
    → class_of lists round j ≡ class → (get_or numbers i 0 ≡ get_or numbers j 0) ↔ HaveEqualAmounts f lists aspect round i j

-- numbers of the signals of a round: within a class equal exactly where the signals agree on one aspect
pub record AreAspectNumbers (f : Frame) (lists : ClassLists) (aspect : Aspect) (round : ℕ) (numbers : List ℕ) : Type 0 where
  pub long : length numbers ≡ signal_count f round
  pub same : (i j : ℕ) → i < length numbers → j < length numbers → class_of lists round i ≡ class_of lists round j
      → (get_or numbers i 0 ≡ get_or numbers j 0) ↔ HaveEqualAmounts f lists aspect round i j

-- two signals have, in the last round, the same weights by class and outcome and, before it, the same number of children in each class
pub record HaveSameSums (f : Frame) (lists : ClassLists) (round s t : ℕ) : Type 0 where
  pub sums : round ≡ last_round f → (c : ℕ) (o : ℤ) → weight_with f lists s c o ≡ weight_with f lists t c o
  pub children : round < last_round f → (c : ℕ) → children_in f lists round s c ≡ children_in f lists round t c

-- numbers of the signals of a round: within a class equal exactly where the signals have the same sums
pub record AreTurnNumbers (f : Frame) (lists : ClassLists) (round : ℕ) (numbers : List ℕ) : Type 0 where
  pub long : length numbers ≡ signal_count f round
  pub same : (i j : ℕ) → i < length numbers → j < length numbers → class_of lists round i ≡ class_of lists round j
      → (get_or numbers i 0 ≡ get_or numbers j 0) ↔ HaveSameSums f lists round i j

-- in the rounds that are marked, members of a class have the same sums
pub record AreKnown (f : Frame) (lists : ClassLists) (known : List Bool) : Type 0 where
  pub long : length known ≡ last_round f
  pub same : (round s t : ℕ) → 0 < round → round ≤ last_round f → get_or known (round - 1) false ≡ true → InOneClass f lists round s t
      → HaveSameSums f lists round s t

-- ---- keys

-- the key that decides a signal's new class: its old class, the new class of its parent, and the number of its sums
abbrev pub turn_key : List ℕ → List ℕ → List ℕ → List ℕ → ℕ → ℕ × ℕ × ℕ
turn_key before above parents numbers i = (get_or before i 0, get_or above (get_or parents i 0) 0, get_or numbers i 0)

-- ---- rounds

-- two signals of a round stay together: they have the same old class, the same number and, from round 2 on, the same new class of the parent.
-- `above` has the new classes of the round before
pub record StayInRound (f : Frame) (old : ClassLists) (above numbers : List ℕ) (round s t : ℕ) : Type 0 where
  pub before : class_of old round s ≡ class_of old round t
  pub parents : 1 < round → get_or above (get_or (parents_of f round) s 0) 0 ≡ get_or above (get_or (parents_of f round) t 0) 0
  pub number : get_or numbers s 0 ≡ get_or numbers t 0

-- the new classes of a round, numbered by first member: two signals are in one class exactly if they stay together
pub record IsRoundParted (f : Frame) (old : ClassLists) (above numbers : List ℕ) (round : ℕ) (list : List ℕ) : Type 0 where
  pub long : length list ≡ signal_count f round
  pub classes : IsClassesOf (StayInRound f old above numbers round) list

-- the new classes of all rounds, made with a number for each signal of each round
pub record AreParted (f : Frame) (old numbers new : ClassLists) : Type 0 where
  pub rounds : length new ≡ last_round f
  pub each : (round : ℕ) → 0 < round → round ≤ last_round f → IsRoundParted f old (list_of new (round - 1)) (list_of numbers round) round (list_of new round)

-- for each round a number for each of its signals
pub record HaveNumbers (f : Frame) (numbers : ClassLists) : Type 0 where
  pub rounds : length numbers ≡ last_round f
  pub each : (round : ℕ) → 0 < round → round ≤ last_round f → length (list_of numbers round) ≡ signal_count f round

-- in each round the numbers are equal, within a class, exactly where the signals have the same sums
pub record AreExact (f : Frame) (lists numbers : ClassLists) : Type 0 where
  pub rounds : length numbers ≡ last_round f
  pub each : (round : ℕ) → 0 < round → round ≤ last_round f → AreTurnNumbers f lists round (list_of numbers round)
