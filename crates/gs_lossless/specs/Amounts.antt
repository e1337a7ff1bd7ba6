-- What members of a class must agree in, as weights by class and outcome.
use Rattle.std.specs.Prelude.{ℕ, ◌+◌, ◌-◌, ◌<◌, ◌≤◌, ◌^◌, ◌≡◌, ◌==◌, ℤ, pos, All, Bool, List, map, length, get_or, if◌then◌else◌, filter, flat_map, sum_by}
use Rattle.std.specs.{Coded.{×_prop, le_prop}, List.{range_with_len}, Ordering.{int_eq}}
use Rattle.gs_model.specs.{Classes.{ClassLists, class_of, first_member, list_of}, Deals.{Deal}}
use Rattle.gs_model.specs.{Frame.{Frame, ancestor, last_round, signal_count, signals_in, at_round}, Game.{Game, round_count}}
use Rattle.gs_model.specs.{Lossless.{children_in, weight_against, weight_with}, Signals.{signals}}
use Rattle.gs_lossless.specs.{declared.parts.Part.{Part}, declared.aspects.Aspect.{Aspect}, declared.aspects.Aspect.TheVariants.{Deals, Children}}
use Rattle.gs_lossless.specs.Sums.{PartsRise, sum_at}

-- what counts for a signal at a class and an outcome: the weight of its deals, or the number of its children.
-- Only the deals of the last round are told apart by outcome; every other amount stands at outcome 0
abbrev pub amount : Frame → ClassLists → Aspect → ℕ → ℕ → ℕ → ℤ → ℕ
amount f lists Deals round s c o =
    if round == last_round f then weight_with f lists s c o else (if int_eq (pos 0) o then weight_against f lists round s c else 0)
amount f lists Children round s c o = if int_eq (pos 0) o then children_in f lists round s c else 0

-- two signals have equal amounts on one aspect, for every class and outcome
abbrev pub HaveEqualAmounts : Frame → ClassLists → Aspect → ℕ → ℕ → ℕ → Type 0
HaveEqualAmounts f lists aspect round s t = (c : ℕ) (o : ℤ) → amount f lists aspect round s c o ≡ amount f lists aspect round t c o

-- a signal agrees with the first member of its class
abbrev pub AgreesWithFirst : Frame → ClassLists → Aspect → ℕ → ℕ → Type 0
AgreesWithFirst f lists aspect round s = HaveEqualAmounts f lists aspect round (first_member lists round (class_of lists round s)) s

-- `firsts` gives each signal of a round a stand-in on one aspect: of its class, at the same or an earlier place, and with equal amounts
pub record AreAspectFirsts (f : Frame) (lists : ClassLists) (aspect : Aspect) (round : ℕ) (firsts : List ℕ) : Type 0 where
  pub long : length firsts ≡ signal_count f round
  pub before : (s : ℕ) → s < length firsts → get_or firsts s 0 ≤ s
  pub class : (s : ℕ) → s < length firsts → class_of lists round (get_or firsts s 0) ≡ class_of lists round s
  pub agree : (s : ℕ) → s < length firsts → HaveEqualAmounts f lists aspect round (get_or firsts s 0) s

-- the amounts of a signal on one aspect, as sums in ascending order of class and outcome
pub record AreAmounts (f : Frame) (lists : ClassLists) (aspect : Aspect) (round s : ℕ) (sums : List Part) : Type 0 where
  pub rises : PartsRise sums
  pub sum : (c : ℕ) (o : ℤ) → sum_at sums c o ≡ amount f lists aspect round s c o

-- the round has this aspect: every round has deals, and every round before the last has children
abbrev pub HasAspect : Frame → Aspect → ℕ → Type 0
HasAspect f Deals round = (0 < round) × (round ≤ last_round f)
HasAspect f Children round = (0 < round) × (round < last_round f)

-- that a round has an aspect is one fact
pub HasAspect-prop : (f : Frame) (aspect : Aspect) (round : ℕ) → IsProp (HasAspect f aspect round)
HasAspect-prop f Deals round = ×_prop le_prop le_prop
HasAspect-prop f Children round = ×_prop le_prop le_prop

-- the classes by which an aspect counts: for children those of the next round's signals, for deals those of the last-round signals' ancestors in the round
abbrev pub keys_of : Frame → ClassLists → Aspect → ℕ → List ℕ
keys_of f lists Deals round = map (λ x. class_of lists round (at_round f round x)) (signals_in f (last_round f))
keys_of f lists Children round = list_of lists (round + 1)

-- how many signals an aspect counts: those of the last round for deals, of the next round for children
abbrev pub key_count : Game → Aspect → ℕ → ℕ
key_count g Deals round = length (signals g (round_count g))
key_count g Children round = length (signals g (round + 1))

-- the descendants in round `at` of the signal `s` of `round` stand at exactly the places from `first` up to but not including `end`
pub record IsRunIn (f : Frame) (at round s first end : ℕ) : Type 0 where
  pub ordered : first ≤ end
  pub within : end ≤ signal_count f at
  pub inside : (x : ℕ) → x < signal_count f at → ancestor f at round x ≡ s → (first ≤ x) × (x < end)
  pub back : (x : ℕ) → first ≤ x → x < end → ancestor f at round x ≡ s

-- the descendants of a signal in the last round stand at exactly the places from `first` up to but not including `end`
abbrev pub IsRun : Frame → ℕ → ℕ → ℕ → ℕ → Type 0
IsRun f round s first end = IsRunIn f (last_round f) round s first end

-- a deal as a part: its weight counts at the key of player 2's signal and, with `by_outcome`, at its outcome; otherwise at outcome 0
abbrev pub deal_part : List ℕ → Bool → Deal → Part
deal_part keys by_outcome d = record { class = get_or keys d.two 0; outcome = if by_outcome then d.outcome else pos 0; weight = d.weight }

-- a signal of the next round as a part: it counts once, at its class and outcome 0
abbrev pub counted_part : List ℕ → ℕ → Part
counted_part keys x = record { class = get_or keys x 0; outcome = pos 0; weight = 1 }

-- the parts of the deals of a run of last-round signals
abbrev pub deal_parts : List Deal → List ℕ → Bool → ℕ → ℕ → List Part
deal_parts deals keys by_outcome first end =
    flat_map (λ x. map (deal_part keys by_outcome) (filter (λ (d : Deal). d.one == x) deals)) (range_with_len first (end - first))

-- parts of weight that add up to what an aspect counts for a signal
pub record ArePartsOf (f : Frame) (lists : ClassLists) (aspect : Aspect) (round s : ℕ) (parts : List Part) : Type 0 where
  pub some : All (λ (p : Part). 0 < p.weight) parts
  pub fits : sum_by (λ (p : Part). p.weight) parts < 2 ^ 32
  pub sum : (c : ℕ) (o : ℤ) → sum_at parts c o ≡ amount f lists aspect round s c o
