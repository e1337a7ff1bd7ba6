-- Texts of letters and digits.
use Rattle.std.proofs.{Common.{◌≡◌, ℕ, true, List, [], ◌∷◌, arith}, lemmas.Bool.{and_parts}, lemmas.Bool.Decides.{nat_tests}}
use Rattle.std.proofs.lemmas.Str.Ascii.{IsAscii-nil, IsAscii-cons}
use Rattle.std.specs.{Prelude.{nat_lt}, List.{list_all}, Str.{IsAscii}}

pub ascii : (bytes : List ℕ) → list_all (λ b. nat_lt b 128) bytes ≡ true → IsAscii bytes
ascii [] h = IsAscii-nil
ascii (b ∷ bytes) h =
    let p = and_parts (nat_lt b 128) (list_all (λ x. nat_lt x 128) bytes) h in
    IsAscii-cons b bytes (grind (arith, nat_tests, p.0)) (ascii bytes p.1)
