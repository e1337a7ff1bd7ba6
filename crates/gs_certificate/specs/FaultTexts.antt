-- The text of each fault of a certificate, and of each fault of a certificate's text. Source: this project's printed texts.
use Rattle.std.specs.{Prelude.{ℕ, List, ◌++◌, codes}, Fmt.{decimal}}
use Rattle.gs_frac.specs.{FaultText.{fault_text as fraction_fault_text}, Texts.{fraction_text}}
use Rattle.gs_certificate.specs.{declared.fault.CertFault.{CertFault}, declared.text_fault.CertTextFault.{CertTextFault}}
use Rattle.gs_certificate.specs.declared.fault.CertFault.TheVariants as fault
use Rattle.gs_certificate.specs.declared.text_fault.CertTextFault.TheVariants as text

-- why a certificate does not hold
abbrev pub cert_fault_text : CertFault → List ℕ
cert_fault_text (fault.Length player want) = codes "player " ++ decimal player ++ codes " length"
cert_fault_text (fault.Low player point class) = codes "player " ++ decimal player ++ codes " low at point " ++ decimal point ++ codes " class "
    ++ decimal class
cert_fault_text (fault.Bound player found) = codes "player " ++ decimal player ++ codes " bound found " ++ fraction_text found.num found.den

-- why bytes are not the text of a certificate
abbrev pub cert_text_fault_text : CertTextFault → List ℕ
cert_text_fault_text text.NotJson = codes "not JSON"
cert_text_fault_text text.Shape = codes "shape"
cert_text_fault_text (text.Version number) = codes "version " ++ decimal number
cert_text_fault_text (text.Value player at) = codes "value of player " ++ decimal player ++ codes " at " ++ decimal at
cert_text_fault_text (text.Fraction player why) = codes "bound of player " ++ decimal player ++ codes " " ++ fraction_fault_text why
cert_text_fault_text (text.NotCanonical at) = codes "not canonical at " ++ decimal at
