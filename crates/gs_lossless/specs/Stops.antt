-- What a failed check says about the classes.
use Rattle.std.specs.Prelude.{ℕ, ◌<◌, Option, Some, None}
use Rattle.gs_model.specs.{Classes.{ClassLists, class_of, first_member}, Frame.{Frame, signal_count}, Lossless.{Alike, IsFirstUnlike}}
use Rattle.gs_lossless.specs.declared.stop.CheckStop.{CheckStop}
use Rattle.gs_lossless.specs.declared.stop.CheckStop.TheVariants.{Unlike, Memory}

-- the stop names the first unlike pair; `Memory` says nothing about the classes
abbrev pub IsUnlikeIn : Frame → ClassLists → CheckStop → Type 0
IsUnlikeIn f lists (Unlike round first second) = IsFirstUnlike f lists round first second
IsUnlikeIn f lists Memory = Unit {0}

-- the stop names an unlike pair: it is not `Memory`
abbrev pub IsUnlike : CheckStop → Type 0
IsUnlike (Unlike round first second) = Unit {0}
IsUnlike Memory = ⊥

-- the signals of a round before `end` are like the first members of their classes
abbrev pub AreAlikeBelow : Frame → ClassLists → ℕ → ℕ → Type 0
AreAlikeBelow f lists round end = (s : ℕ) → s < end → Alike f lists round (first_member lists round (class_of lists round s)) s

-- the first signal of a round that is not like the first member of its class; `None` if all are alike
abbrev pub MatchUnlike : Frame → ClassLists → ℕ → Option ℕ → Type 0
MatchUnlike f lists round None = AreAlikeBelow f lists round (signal_count f round)
MatchUnlike f lists round (Some s) = (s < signal_count f round) × AreAlikeBelow f lists round s
    × (Alike f lists round (first_member lists round (class_of lists round s)) s → ⊥)
