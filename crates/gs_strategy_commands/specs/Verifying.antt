-- What `verify` says of two lines: a strategy's text, and a certificate's. It does not check the numbers that the strategy states.
use Rattle.std.specs.Prelude.{◌≡◌, ◌⊎◌, ℕ, List, ◌++◌, Err, codes}
use Rattle.gs_certificate.specs.{Checks.{AreSmall, IsFault}, FaultTexts.{cert_fault_text, cert_text_fault_text}, Reading.{ReadsCertificate}}
use Rattle.gs_certificate.specs.{Texts.{Stated, certificate_text}, Views.{certificate_view}, declared.certificate.Certificate.{Certificate}}
use Rattle.gs_certificate.specs.{declared.fault.CertFault.{CertFault}, declared.text_fault.CertTextFault.{CertTextFault}}
use Rattle.gs_strategy_commands.specs.{Commands.{OfStrategy}, Troubles.{IsTooLarge}, Certificates.{IsCertificateOf}}
use Rattle.gs_frac.specs.Texts.{number_line}
use Rattle.gs_json.specs.FirstLine.{first_line}
use Rattle.gs_model.specs.{Lossless.{IsLossless}, Verdict.{IsValue}}
use Rattle.gs_reply.specs.{Refusals.{Bad_certificate, Too_large, Unlike_pair}, Replies.{Reply, Prints, Refuses}, Troubles.{IsUnlikePair}}
use Rattle.gs_seq.specs.Stops.{IsSmall}
use Rattle.gs_strategy.specs.{Confirmed.{strategy_frame, over, raw_plan}, Values.{IsFractionOf, FractionParts, Strategy}}

-- the lines of the value of the plans and of each player's bound
abbrev pub bounds_text : FractionParts → Stated → List ℕ
bounds_text value c = number_line (codes "value") value ++ number_line (codes "player1 at most") c.one.bound
    ++ number_line (codes "player2 at most") c.two.bound

-- The classes are lossless, the game is within the limits, and the certificate is valid for the plans. The text gives their value and the bounds.
pub record IsVerified (s : Strategy) (c : Certificate) (text : List ℕ) : Type 0 where
  pub lossless : IsLossless (strategy_frame s) s.classes
  pub small : IsSmall (strategy_frame s) s.classes
  pub holds : IsCertificateOf s c
  pub value : FractionParts
  pub fraction : IsFractionOf value
  pub value_is : IsValue (strategy_frame s) (raw_plan s s.one) (raw_plan s s.two) (over value).0 (over value).1
  pub printed : text ≡ bounds_text value (certificate_view c)

-- the classes are lossless, the game is within the limits, the certificate is not valid, and this is the text of its first fault
pub record IsUnsound (s : Strategy) (c : Certificate) (text : List ℕ) : Type 0 where
  pub lossless : IsLossless (strategy_frame s) s.classes
  pub small : IsSmall (strategy_frame s) s.classes
  pub why : CertFault
  pub fault : IsFault (strategy_frame s) s.classes (raw_plan s s.one) (raw_plan s s.two) c why
  pub told : text ≡ cert_fault_text why

-- what `verify` says of a strategy and a certificate
abbrev pub SaysChecked : Strategy → Certificate → Reply → Type 0
SaysChecked s c (Prints text) = IsVerified s c text
SaysChecked s c (Refuses (Unlike_pair round one two)) = IsUnlikePair s.game s.classes round one two
SaysChecked s c (Refuses (Too_large limit)) = IsTooLarge s limit
SaysChecked s c (Refuses (Bad_certificate text)) = IsUnsound s c text
SaysChecked s c (Refuses why) = ⊥

-- the bytes are the text of a certificate with numbers below 2^90 in size
pub record IsCertificateText (bytes : List ℕ) (c : Certificate) : Type 0 where
  pub text : bytes ≡ certificate_text (certificate_view c)
  pub small : AreSmall c

-- the bytes are not the text of a certificate, and the reply refuses them for their first fault
pub record IsNoText (bytes : List ℕ) (reply : Reply) : Type 0 where
  pub why : CertTextFault
  pub reads : ReadsCertificate bytes (Err why)
  pub told : reply ≡ Refuses (Bad_certificate (cert_text_fault_text why))

-- what `verify` says of a strategy and the bytes of a certificate
abbrev pub SaysVerified : List ℕ → Strategy → Reply → Type 0
SaysVerified bytes s reply = IsNoText bytes reply ⊎ ((c : Certificate) × IsCertificateText bytes c × SaysChecked s c reply)

-- what `verify` says of two files: the bytes up to and with the first line feed, and the bytes after it
abbrev pub Verifies : List ℕ → Reply → Type 0
Verifies bytes = OfStrategy (SaysVerified (first_line bytes).1) (first_line bytes).0
