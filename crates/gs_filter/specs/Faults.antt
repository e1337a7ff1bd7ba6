-- The rules for class lists, in the order in which they are checked, and the first place that breaks a rule.
use Rattle.std.specs.{Prelude.{ℕ, ◌-◌, ◌<◌, ◌≤◌, ◌≡◌, ◌==◌, ◌⊎◌, List, length, get_or}, List.{position_or_len}}
use Rattle.gs_model.specs.{Numbering.{IsNumbered}, Classes.{ClassLists, list_of}}
use Rattle.gs_filter.specs.{Tallies.{IsFirstUnseenIn}, declared.fault.ClassError.{ClassError}, declared.fault.ClassFault.{ClassFault}}
use Rattle.gs_filter.specs.declared.fault.ClassFault.TheVariants.{Length, NotFirstSeen, ParentsApart}
use Rattle.gs_filter.specs.declared.fault.ClassError.TheVariants.{Fault, Memory}

-- ---- lengths

-- `parents` and `lists` both have the round, and their lists for it have the same length
pub record AgreeIn (parents : List (List ℕ)) (lists : ClassLists) (round : ℕ) : Type 0 where
  pub with_parents : round ≤ length parents
  pub with_classes : round ≤ length lists
  pub lengths : length (list_of lists round) ≡ length (list_of parents round)

-- there is one list for each round, with one number for each signal of that round
pub record Agree (parents : List (List ℕ)) (lists : ClassLists) : Type 0 where
  pub rounds : length lists ≡ length parents
  pub lengths : (round : ℕ) → 0 < round → round ≤ length parents → length (list_of lists round) ≡ length (list_of parents round)

-- the first round in which `parents` and `lists` do not agree; at least one of them has it
pub record IsFirstLength (parents : List (List ℕ)) (lists : ClassLists) (round : ℕ) : Type 0 where
  pub some : 0 < round
  pub with_one : (round ≤ length parents) ⊎ (round ≤ length lists)
  pub before : (r : ℕ) → 0 < r → r < round → AgreeIn parents lists r
  pub here : ¬ AgreeIn parents lists round

-- ---- numbers

-- every round is numbered by first member
abbrev pub AllNumbered : ClassLists → Type 0
AllNumbered lists = (round : ℕ) → 0 < round → round ≤ length lists → IsNumbered (list_of lists round)

-- the first number, by round and place, that is 0 or more than one above the greatest before it in its round
pub record IsFirstUnseen (lists : ClassLists) (round at : ℕ) : Type 0 where
  pub some : 0 < round
  pub top : round ≤ length lists
  pub before : (r : ℕ) → 0 < r → r < round → IsNumbered (list_of lists r)
  pub here : IsFirstUnseenIn (list_of lists round) at

-- ---- parents: `parents` and `list` are of one round, `above` has the classes of the round before

-- the class of a signal's parent
abbrev pub class_above : List ℕ → List ℕ → ℕ → ℕ
class_above parents above s = get_or above (get_or parents s 0) 0

-- the first member of a signal's class
abbrev pub first_beside : List ℕ → ℕ → ℕ
first_beside list s = position_or_len (λ x. x == get_or list s 0) list

-- the parent of a signal and the parent of the first member of its class are in one class
abbrev pub StaysTogether : List ℕ → List ℕ → List ℕ → ℕ → Type 0
StaysTogether parents above list s = class_above parents above (first_beside list s) ≡ class_above parents above s

-- `StaysTogether` holds for every signal of the list
abbrev pub AreTogether : List ℕ → List ℕ → List ℕ → Type 0
AreTogether parents above list = (s : ℕ) → s < length list → StaysTogether parents above list s

-- `b` is the first signal whose parent is in a different class than the parent of `a`, the first member of the class of `b`
pub record AreFirstApartIn (parents above list : List ℕ) (a b : ℕ) : Type 0 where
  pub within : b < length list
  pub first : a ≡ first_beside list b
  pub before : (s : ℕ) → s < b → StaysTogether parents above list s
  pub here : ¬ StaysTogether parents above list b

-- `AreTogether` holds in every round from the second on
abbrev pub AllTogether : List (List ℕ) → ClassLists → Type 0
AllTogether parents lists = (round : ℕ) → 1 < round → round ≤ length lists
    → AreTogether (list_of parents round) (list_of lists (round - 1)) (list_of lists round)

-- `a` and `b` as in `AreFirstApartIn`, in the first round that has such signals
pub record AreFirstApart (parents : List (List ℕ)) (lists : ClassLists) (round a b : ℕ) : Type 0 where
  pub some : 1 < round
  pub top : round ≤ length lists
  pub before : (r : ℕ) → 1 < r → r < round → AreTogether (list_of parents r) (list_of lists (r - 1)) (list_of lists r)
  pub here : AreFirstApartIn (list_of parents round) (list_of lists (round - 1)) (list_of lists round) a b

-- ---- faults

-- a fault names the first broken rule, in the order lengths, numbers, parents
abbrev pub IsFaultOf : List (List ℕ) → ClassLists → ClassFault → Type 0
IsFaultOf parents lists (Length round) = IsFirstLength parents lists round
IsFaultOf parents lists (NotFirstSeen round at) = Agree parents lists × IsFirstUnseen lists round at
IsFaultOf parents lists (ParentsApart round a b) = Agree parents lists × AllNumbered lists × AreFirstApart parents lists round a b

-- an error is the fault of the lists; memory may run out for any lists
abbrev pub IsErrorOf : List (List ℕ) → ClassLists → ClassError → Type 0
IsErrorOf parents lists Memory = Unit {0}
IsErrorOf parents lists (Fault why) = IsFaultOf parents lists why

-- why reading the numbers fails: the first invalid number; memory may run out for any lists
abbrev pub IsUnseen : ClassLists → ClassError → Type 0
IsUnseen lists Memory = Unit {0}
IsUnseen lists (Fault (NotFirstSeen round at)) = IsFirstUnseen lists round at
IsUnseen lists (Fault (Length round)) = ⊥
IsUnseen lists (Fault (ParentsApart round a b)) = ⊥

-- the fault that comparing the parents can find: two members of one class with parents in different classes
abbrev pub IsApart : List (List ℕ) → ClassLists → ClassFault → Type 0
IsApart parents lists (ParentsApart round a b) = AreFirstApart parents lists round a b
IsApart parents lists (NotFirstSeen round at) = ⊥
IsApart parents lists (Length round) = ⊥
