-- What a certificate says of a strategy, and what `certify` prints.
use Rattle.std.specs.Prelude.{◌≡◌, List, ◌++◌, ℕ}
use Rattle.gs_best.specs.Answers.{AreBestValues}
use Rattle.gs_certificate.specs.{Checks.{AreSmall, IsSound}, Promises.{AreReached, BoundsAll}, Texts.{certificate_text}, Views.{certificate_view}}
use Rattle.gs_certificate.specs.declared.certificate.Certificate.{Certificate}
use Rattle.gs_strategy_commands.specs.Commands.{OfConfirmed, OfStrategy}
use Rattle.gs_file.specs.declared.version.Version.TheVariants.{Two}
use Rattle.gs_reply.specs.Replies.{Reply, Prints}
use Rattle.gs_strategy.specs.{Confirmed.{strategy_frame, raw_plan}, Texts.{strategy_text}, Values.{Strategy}}

-- The certificate is valid for the strategy's plans, with numbers below 2^90 in size. So each bound holds for all raw plans: no raw plan of the player is
-- paid more against the other's plan.
pub record IsCertificateOf (s : Strategy) (c : Certificate) : Type 0 where
  pub small : AreSmall c
  pub sound : IsSound (strategy_frame s) s.classes (raw_plan s s.one) (raw_plan s s.two) c
  pub bounds : BoundsAll (strategy_frame s) (raw_plan s s.one) (raw_plan s s.two) c

-- The text is the strategy's in version 2, followed by that of a valid certificate. The certificate has both players' best values, and raw plans reach its
-- bounds.
pub record IsCertified (s : Strategy) (text : List ℕ) : Type 0 where
  pub certificate : Certificate
  pub holds : IsCertificateOf s certificate
  pub first : AreBestValues (strategy_frame s) s.classes 1 (raw_plan s s.two) certificate.values1.items
  pub second : AreBestValues (strategy_frame s) s.classes 2 (raw_plan s s.one) certificate.values2.items
  pub reached : AreReached (strategy_frame s) (raw_plan s s.one) (raw_plan s s.two) certificate
  pub printed : text ≡ strategy_text Two s ++ certificate_text (certificate_view certificate)

-- the reply prints the strategy with its certificate
abbrev pub SaysCertified : Strategy → Reply → Type 0
SaysCertified s reply = (text : List ℕ) × IsCertified s text × (reply ≡ Prints text)

-- what `certify` says of the bytes of a strategy file
abbrev pub Certifies : List ℕ → Reply → Type 0
Certifies = OfStrategy (OfConfirmed SaysCertified)
