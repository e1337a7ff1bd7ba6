-- What the commands that read a strategy file say of its bytes.
use Rattle.std.specs.Prelude.{◌≡◌, ◌⊎◌, ℕ, List}
use Rattle.gs_file.specs.declared.version.Version.TheVariants.{Two}
use Rattle.gs_lift.specs.declared.fault.QueryFault.{QueryFault}
use Rattle.gs_reply.specs.{Refusals.{Bad_query}, Replies.{OfFile, Reply, Prints, Refuses}, declared.refusals.Which.TheVariants.{Only}}
use Rattle.gs_reply.specs.VerdictText.{verdict_text}
use Rattle.gs_strategy.specs.{Confirmed.{IsConfirmed}, Texts.{strategy_text}, Values.{Strategy}}
use Rattle.gs_strategy_commands.specs.{Queries.{IsBadQuery, IsQueried}, Troubles.{IsUnconfirmed}}

-- the reply to the bytes of the only strategy file of a command
abbrev pub OfStrategy : (Strategy → Reply → Type 0) → List ℕ → Reply → Type 0
OfStrategy = OfFile Only

-- `says` holds of a confirmed strategy and the reply; a strategy that is not confirmed is refused for its first trouble
abbrev pub OfConfirmed : (Strategy → Reply → Type 0) → Strategy → Reply → Type 0
OfConfirmed says s reply = (IsConfirmed s × says s reply) ⊎ IsUnconfirmed s reply

-- the reply prints the three lines of the strategy's numbers
abbrev pub SaysNumbers : Strategy → Reply → Type 0
SaysNumbers s reply = reply ≡ Prints (verdict_text s.numbers)

-- the reply prints the strategy's text in version 2
abbrev pub SaysUpgraded : Strategy → Reply → Type 0
SaysUpgraded s reply = reply ≡ Prints (strategy_text Two s)

-- the reply prints the player's mixture at the information set that the texts name, or refuses texts that name none
abbrev pub SaysQueried : ℕ → List ℕ → List ℕ → Strategy → Reply → Type 0
SaysQueried player line signal s reply =
    ((text : List ℕ) × IsQueried s player line signal text × (reply ≡ Prints text))
    ⊎ ((why : QueryFault) × IsBadQuery s.game player line signal why × (reply ≡ Refuses (Bad_query why)))

-- ---- the three commands

-- what `evaluate` says of the bytes of a strategy file
abbrev pub Evaluates : List ℕ → Reply → Type 0
Evaluates = OfStrategy (OfConfirmed SaysNumbers)

-- what `upgrade` says of the bytes of a strategy file
abbrev pub Upgrades : List ℕ → Reply → Type 0
Upgrades = OfStrategy (OfConfirmed SaysUpgraded)

-- what `query` says of the bytes of a strategy file, for its player, line and signal
abbrev pub Queries : ℕ → List ℕ → List ℕ → List ℕ → Reply → Type 0
Queries player line signal = OfStrategy (OfConfirmed (SaysQueried player line signal))
