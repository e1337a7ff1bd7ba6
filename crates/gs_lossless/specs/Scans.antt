-- The first signal of a round that differs from the first member of its class.
use Rattle.std.specs.{Prelude.{ℕ, ◌-◌, ◌<◌, ◌≤◌, ◌≡◌, ◌⊎◌, List, [], Option, Some, None, Vec, get_or, length}, declared.alloc.Global.{Global}}
use Rattle.gs_model.specs.{Classes.{ClassLists, class_of, class_size, first_member}, Frame.{Frame}}
use Rattle.gs_lossless.specs.{Amounts.{AgreesWithFirst, AreAmounts, AreAspectFirsts}, declared.parts.Part.{Part}, declared.aspects.Aspect.{Aspect}}

-- the signals of a round before `end` agree with the first members of their classes
abbrev pub AgreeBelow : Frame → ClassLists → Aspect → ℕ → ℕ → Type 0
AgreeBelow f lists aspect round end = (s : ℕ) → s < end → AgreesWithFirst f lists aspect round s

-- the first signal before `end` that does not agree with the first member of its class; `None` if all agree
abbrev pub IsFirstApart : Frame → ClassLists → Aspect → ℕ → ℕ → Option ℕ → Type 0
IsFirstApart f lists aspect round end None = AgreeBelow f lists aspect round end
IsFirstApart f lists aspect round end (Some s) = (s < end) × AgreeBelow f lists aspect round s × (AgreesWithFirst f lists aspect round s → ⊥)

-- if `firsts` is not empty, it gives each signal of the round a stand-in on this aspect
abbrev pub StandFor : Frame → ClassLists → Aspect → ℕ → List ℕ → Type 0
StandFor f lists aspect round firsts = 0 < length firsts → AreAspectFirsts f lists aspect round firsts

-- the signals of a round before `end` are the only members of their classes
abbrev pub AreAloneBelow : ClassLists → ℕ → ℕ → Type 0
AreAloneBelow lists round end = (s : ℕ) → s < end → class_size lists round (class_of lists round s) ≡ 1

-- `kept` has the sums of the first member of a class
abbrev pub IsFirstKept : Frame → ClassLists → Aspect → ℕ → ℕ → List (Vec Part Global) → Type 0
IsFirstKept f lists aspect round class kept = (d : Vec Part Global)
    → AreAmounts f lists aspect round (first_member lists round class) (get_or kept (class - 1) d).items

-- for each class `kept` has an empty list, or the sums of the first member
abbrev pub AreFirstsKept : Frame → ClassLists → Aspect → ℕ → List (Vec Part Global) → Type 0
AreFirstsKept f lists aspect round kept = (class : ℕ) → 0 < class → class ≤ length kept
    → ((d : Vec Part Global) → (get_or kept (class - 1) d).items ≡ []) ⊎ IsFirstKept f lists aspect round class kept
