use Rattle.std.proofs.Common.{append_assoc, string_bytes}
use Rattle.gs_certificate.proofs.SameText.{same_text}
use Rattle.gs_certificate.proofs.fault_texts.value_text.Goals as goal

pub returns : goal.returns
returns c = same_text string_bytes c.format.result _ _ c.format.ensures.ok (simp append_assoc)
