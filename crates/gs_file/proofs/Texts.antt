-- The tests of the definitions beside the facts that std states.
use Rattle.std.proofs.{Common.{◌≡◌, ℕ, false, List, inl, inr}, lemmas.Str.{IsUtf8-from_is_utf8}, lemmas.Bool.{cases_Bool}}
use Rattle.std.specs.Str.{IsUtf8, is_utf8}

pub no_text : (bytes : List ℕ) → ¬ (IsUtf8 bytes) → is_utf8 bytes ≡ false
no_text bytes refuted = elim (cases_Bool (is_utf8 bytes)) [ inl e ↦ absurd (refuted (IsUtf8-from_is_utf8 bytes e)) | inr e ↦ e ]
