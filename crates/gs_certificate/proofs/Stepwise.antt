-- What the shape of a certificate's text gives, once its first parts are read.
use Rattle.std.proofs.Common.{◌≡◌, ℕ, List, Result, Ok, Err, refl, sym, ap, ◌∙◌, subst, codes}
use Rattle.std.specs.Result.{IsErrAnd}
use Rattle.serde_json.specs.{Data.{Data}, Find.{as_str}}
use Rattle.gs_json.specs.{Shapes.{list_in, whole_in}, Steps.{◌>>=◌}}
use Rattle.gs_certificate.specs.{Faults.{FailsSo, MayGive}, declared.text_fault.CertTextError.{CertTextError}, declared.text_fault.CertTextFault.{CertTextFault}}
use Rattle.gs_certificate.specs.declared.text_fault.CertTextError.TheVariants as errors
use Rattle.gs_certificate.specs.Reading.{CertificateTexts, SideTexts, named, no_other_key, side_at, texts_at, well_shaped}
use Rattle.gs_certificate.proofs.Steps.{fails_so}

-- a fault of a step that is handed on as an error is the fault of the whole reading
pub handed_up : {X Y Z : Type 0} (view : X → Z) (answer : Result X CertTextError) (why : CertTextFault) (step : Result Y CertTextFault)
    (next : Y → Result Z CertTextFault) (read : Result Z CertTextFault) → IsErrAnd answer (λ e. e ≡ errors.Fault why) → step ≡ Err why
    → read ≡ step >>= next → MayGive view answer read
handed_up view (Ok x) why step next read is h at = absurd is
handed_up view (Err e) why step next read is h at = subst (λ e. FailsSo e (λ a. read ≡ a)) (sym is) (at ∙ ap (λ s. s >>= next) h)

-- an error of a step that is handed on is the error of the whole reading
pub handed_over : {X Y Z : Type 0} (view : X → Z) (answer : Result X CertTextError) (error : CertTextError) (step : Result Y CertTextFault)
    (next : Y → Result Z CertTextFault) (read : Result Z CertTextFault) → IsErrAnd answer (λ e. e ≡ error) → FailsSo error (λ a. step ≡ a)
    → read ≡ step >>= next → MayGive view answer read
handed_over view (Ok x) error step next read is h at = absurd is
handed_over view (Err e) error step next read is h at = subst (λ e. FailsSo e (λ a. read ≡ a)) (sym is)
    (fails_so error (λ a. step ≡ a) (λ a. read ≡ a) h (λ w so. at ∙ ap (λ s. s >>= next) so))

-- ---- a player's texts

module _ (d : Data) where
  abbrev pub own_rest : List ℕ → List (List ℕ) → Result SideTexts CertTextFault
  own_rest bound values = no_other_key 2 d >>= (λ _. Ok (record { bound = bound; values = values }))

  abbrev pub own_after_list : List ℕ → Data → Result SideTexts CertTextFault
  own_after_list bound v = well_shaped (list_in as_str v) >>= own_rest bound

  abbrev pub own_after_bound : List ℕ → Result SideTexts CertTextFault
  own_after_bound bound = named (codes "values") d >>= own_after_list bound

  abbrev pub own_after_name : Data → Result SideTexts CertTextFault
  own_after_name b = well_shaped (as_str b) >>= own_after_bound

  pub own_steps : side_at d ≡ named (codes "bound") d >>= own_after_name
  unfolding side_at
  own_steps = refl

  pub own_at_text : (b : Data) → named (codes "bound") d ≡ Ok b → side_at d ≡ own_after_name b
  own_at_text b e = own_steps ∙ ap (λ s. s >>= own_after_name) e

  pub own_at_values : (b : Data) (t : List ℕ) → named (codes "bound") d ≡ Ok b → well_shaped (as_str b) ≡ Ok t → side_at d ≡ own_after_bound t
  own_at_values b t e g = own_at_text b e ∙ ap (λ s. s >>= own_after_bound) g

  pub own_at_list : (b v : Data) (t : List ℕ) → named (codes "bound") d ≡ Ok b → well_shaped (as_str b) ≡ Ok t → named (codes "values") d ≡ Ok v
      → side_at d ≡ own_after_list t v
  own_at_list b v t e g h = own_at_values b t e g ∙ ap (λ s. s >>= own_after_list t) h

  pub own_at_rest : (b v : Data) (t : List ℕ) (ts : List (List ℕ)) → named (codes "bound") d ≡ Ok b → well_shaped (as_str b) ≡ Ok t
      → named (codes "values") d ≡ Ok v → well_shaped (list_in as_str v) ≡ Ok ts → side_at d ≡ own_rest t ts
  own_at_rest b v t ts e g h k = own_at_list b v t e g h ∙ ap (λ s. s >>= own_rest t) k

  pub own_all : (b v : Data) (t : List ℕ) (ts : List (List ℕ)) (u : Unit {0}) → named (codes "bound") d ≡ Ok b → well_shaped (as_str b) ≡ Ok t
      → named (codes "values") d ≡ Ok v → well_shaped (list_in as_str v) ≡ Ok ts → no_other_key 2 d ≡ Ok u
      → side_at d ≡ Ok (record { bound = t; values = ts })
  own_all b v t ts u e g h k l =
      own_at_rest b v t ts e g h k
      ∙ ap (λ (s : Result (Unit {0}) CertTextFault). s >>= (λ _. Ok (record { bound = t; values = ts }))) l

-- ---- the texts of both players, and the version

module _ (d : Data) where
  abbrev pub both_rest : SideTexts → SideTexts → ℕ → Result CertificateTexts CertTextFault
  both_rest one two version = no_other_key 3 d >>= (λ _. Ok (record { one = one; two = two; version = version }))

  abbrev pub both_after_number : SideTexts → SideTexts → Data → Result CertificateTexts CertTextFault
  both_after_number one two v = well_shaped (whole_in v) >>= both_rest one two

  abbrev pub both_after_two : SideTexts → SideTexts → Result CertificateTexts CertTextFault
  both_after_two one two = named (codes "version") d >>= both_after_number one two

  abbrev pub both_after_second : SideTexts → Data → Result CertificateTexts CertTextFault
  both_after_second one q = side_at q >>= both_after_two one

  abbrev pub both_after_one : SideTexts → Result CertificateTexts CertTextFault
  both_after_one one = named (codes "player2") d >>= both_after_second one

  abbrev pub both_after_first : Data → Result CertificateTexts CertTextFault
  both_after_first p = side_at p >>= both_after_one

  pub both_steps : texts_at d ≡ named (codes "player1") d >>= both_after_first
  unfolding texts_at
  both_steps = refl

  module _ (p : Data) (named_one : named (codes "player1") d ≡ Ok p) where
    pub both_at_one : texts_at d ≡ both_after_first p
    both_at_one = both_steps ∙ ap (λ s. s >>= both_after_first) named_one

    module _ (one : SideTexts) (first : side_at p ≡ Ok one) where
      pub both_at_second : texts_at d ≡ both_after_one one
      both_at_second = both_at_one ∙ ap (λ s. s >>= both_after_one) first

      module _ (q : Data) (named_two : named (codes "player2") d ≡ Ok q) where
        pub both_at_two : texts_at d ≡ both_after_second one q
        both_at_two = both_at_second ∙ ap (λ s. s >>= both_after_second one) named_two

        module _ (two : SideTexts) (second : side_at q ≡ Ok two) where
          pub both_at_version : texts_at d ≡ both_after_two one two
          both_at_version = both_at_two ∙ ap (λ s. s >>= both_after_two one) second

          pub both_at_number : (v : Data) → named (codes "version") d ≡ Ok v → texts_at d ≡ both_after_number one two v
          both_at_number v e = both_at_version ∙ ap (λ s. s >>= both_after_number one two) e

          pub both_at_rest : (v : Data) (n : ℕ) → named (codes "version") d ≡ Ok v → well_shaped (whole_in v) ≡ Ok n → texts_at d ≡ both_rest one two n
          both_at_rest v n e g = both_at_number v e ∙ ap (λ s. s >>= both_rest one two) g

          pub both_all : (v : Data) (n : ℕ) (u : Unit {0}) → named (codes "version") d ≡ Ok v → well_shaped (whole_in v) ≡ Ok n → no_other_key 3 d ≡ Ok u
              → texts_at d ≡ Ok (record { one = one; two = two; version = n })
          both_all v n u e g l = both_at_rest v n e g
              ∙ ap (λ (s : Result (Unit {0}) CertTextFault). s >>= (λ _. Ok (record { one = one; two = two; version = n }))) l
