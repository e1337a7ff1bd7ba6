-- What a command says of a confirmed strategy, by what it wants of it. It stands in contracts of private functions.
use Rattle.gs_reply.specs.Replies.{Reply}
use Rattle.gs_strategy.specs.Values.{Strategy}
use Rattle.gs_strategy_commands.specs.{Certificates.{SaysCertified}, Commands.{SaysNumbers, SaysQueried, SaysUpgraded}, declared.wanted.Wanted.{Wanted}}
use Rattle.gs_strategy_commands.specs.declared.wanted.Wanted.TheVariants.{Numbers, Upgrade, Certificate, Mixture}

-- the reply tells what is wanted of the confirmed strategy
abbrev pub says_wanted : Wanted → Strategy → Reply → Type 0
says_wanted Numbers = SaysNumbers
says_wanted Upgrade = SaysUpgraded
says_wanted Certificate = SaysCertified
says_wanted (Mixture query) = SaysQueried query.player query.line.now query.signal.now
