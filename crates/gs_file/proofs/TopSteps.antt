-- The steps of reading the top: a fault of one is the fault of all, where those before it give values.
use Rattle.std.proofs.Common.{◌≡◌, ℕ, ℤ, List, Option, Result, Ok, Err, refl, sym, ap, ◌∙◌}
use Rattle.toml.specs.Data.{Data, Members}
use Rattle.gs_json.specs.Steps.{◌>>=◌}
use Rattle.gs_file.specs.{Faults.{Fault}, Keys.{top, top_keys}, Tables.{only, required, tables_in, text, text_or_empty, whole_number}}
use Rattle.gs_file.specs.Reading.{TopValues, bonus_numbers, bonus_value, copies_value, typed_at, values_at, version_at, version_of}
use Rattle.gs_file.specs.{declared.fault.Place.{Place}, declared.form.Form.{Form}, declared.version.Version.{Version}}
use Rattle.gs_file.specs.declared.fault.Key.TheVariants as key

-- what is read with one value is read with the same value by another name
pub known : {P A : Type 0} (read : P → Result A Fault) {p q : P} {r : Result A Fault} → p ≡ q → read p ≡ r → read q ≡ r
known read at e = ap read (sym at) ∙ e

-- ---- the values at the top

pub values_stops_version : (form : Form) (table : Members) → (f : Fault) → version_at form table ≡ Err f → values_at form table ≡ Err f
unfolding values_at
values_stops_version form table f e = rw e refl

module _ (form : Form) (table : Members) {version : Version} (version_is : version_at form table ≡ Ok version) where
  pub values_stops_keys : (f : Fault) → only form (top_keys version) 0 table ≡ Err f → values_at form table ≡ Err f
  unfolding values_at
  values_stops_keys f e = rw (version_is, e) refl

  module _ {u : Unit {0}} (keys_is : only form (top_keys version) 0 table ≡ Ok u) where
    pub values_stops_ranks : {p : Place} → p ≡ top key.Ranks → (f : Fault) → required form table p ≡ Err f → values_at form table ≡ Err f
    unfolding values_at
    values_stops_ranks at f e = rw (version_is, keys_is, known (required form table) at e) refl

    module _ {ranks : Data} {p3 : Place} (at3 : p3 ≡ top key.Ranks) (e3 : required form table p3 ≡ Ok ranks) where
      values_ranks_is : required form table (top key.Ranks) ≡ Ok ranks
      values_ranks_is = known (required form table) at3 e3

      pub values_stops_suits : {p : Place} → p ≡ top key.Suits → (f : Fault) → required form table p ≡ Err f → values_at form table ≡ Err f
      unfolding values_at
      values_stops_suits at f e = rw (version_is, keys_is, values_ranks_is, known (required form table) at e) refl

      module _ {suits : Data} {p4 : Place} (at4 : p4 ≡ top key.Suits) (e4 : required form table p4 ≡ Ok suits) where
        values_suits_is : required form table (top key.Suits) ≡ Ok suits
        values_suits_is = known (required form table) at4 e4

        pub values_stops_copies : (f : Fault) → copies_value form table ≡ Err f → values_at form table ≡ Err f
        unfolding values_at
        values_stops_copies f e = rw (version_is, keys_is, values_ranks_is, values_suits_is, e) refl

        module _ {copies : Option Data} (copies_is : copies_value form table ≡ Ok copies) where
          pub values_stops_ranking : {p : Place} → p ≡ top key.Ranking → (f : Fault) → required form table p ≡ Err f → values_at form table ≡ Err f
          unfolding values_at
          values_stops_ranking at f e = rw (version_is, keys_is, values_ranks_is, values_suits_is, copies_is, known (required form table) at e) refl

          module _ {ranking : Data} {p6 : Place} (at6 : p6 ≡ top key.Ranking) (e6 : required form table p6 ≡ Ok ranking) where
            values_ranking_is : required form table (top key.Ranking) ≡ Ok ranking
            values_ranking_is = known (required form table) at6 e6

            pub values_stops_bonus : (f : Fault) → bonus_value form version table ≡ Err f → values_at form table ≡ Err f
            unfolding values_at
            values_stops_bonus f e = rw (version_is, keys_is, values_ranks_is, values_suits_is, copies_is, values_ranking_is, e) refl

            module _ {bonus : Option Data} (bonus_is : bonus_value form version table ≡ Ok bonus) where
              behind_bonus : values_at form table
                  ≡ (required form table (top key.Ante) >>= λ ante. required form table (top key.Round) >>= λ rounds.
                  Ok (record { ranks = ranks; suits = suits; copies = copies; ranking = ranking; bonus = bonus; ante = ante; rounds = rounds }))
              unfolding values_at
              behind_bonus = rw (version_is, keys_is, values_ranks_is, values_suits_is, copies_is, values_ranking_is, bonus_is) refl

              pub values_stops_ante : {p : Place} → p ≡ top key.Ante → (f : Fault) → required form table p ≡ Err f → values_at form table ≡ Err f
              values_stops_ante at f e = rw (behind_bonus, known (required form table) at e) refl

              module _ {ante : Data} {p8 : Place} (at8 : p8 ≡ top key.Ante) (e8 : required form table p8 ≡ Ok ante) where
                values_ante_is : required form table (top key.Ante) ≡ Ok ante
                values_ante_is = known (required form table) at8 e8

                pub values_stops_rounds : {p : Place} → p ≡ top key.Round → (f : Fault) → required form table p ≡ Err f
                    → values_at form table ≡ Err f
                values_stops_rounds at f e = rw (behind_bonus, values_ante_is, known (required form table) at e) refl

                pub values_give : {rounds : Data} {p : Place} → p ≡ top key.Round → required form table p ≡ Ok rounds → values_at form table
                    ≡ Ok (record { ranks = ranks; suits = suits; copies = copies; ranking = ranking; bonus = bonus; ante = ante; rounds = rounds })
                values_give at e = rw (behind_bonus, values_ante_is, known (required form table) at e) refl

-- ---- the fields at the top

pub typed_stops_ranks : (v : TopValues) → {p : Place} → p ≡ top key.Ranks → (f : Fault) → text p v.ranks ≡ Err f → typed_at v ≡ Err f
unfolding typed_at
typed_stops_ranks v at f e = rw (known (λ p. text p v.ranks) at e) refl

module _ (v : TopValues) {ranks : List ℕ} {p1 : Place} (at1 : p1 ≡ top key.Ranks) (e1 : text p1 v.ranks ≡ Ok ranks) where
  typed_ranks_is : text (top key.Ranks) v.ranks ≡ Ok ranks
  typed_ranks_is = known (λ p. text p v.ranks) at1 e1

  pub typed_stops_suits : {p : Place} → p ≡ top key.Suits → (f : Fault) → text p v.suits ≡ Err f → typed_at v ≡ Err f
  unfolding typed_at
  typed_stops_suits at f e = rw (typed_ranks_is, known (λ p. text p v.suits) at e) refl

  module _ {suits : List ℕ} {p2 : Place} (at2 : p2 ≡ top key.Suits) (e2 : text p2 v.suits ≡ Ok suits) where
    typed_suits_is : text (top key.Suits) v.suits ≡ Ok suits
    typed_suits_is = known (λ p. text p v.suits) at2 e2

    pub typed_stops_copies : {p : Place} → p ≡ top key.Copies → (f : Fault) → text_or_empty p v.copies ≡ Err f → typed_at v ≡ Err f
    unfolding typed_at
    typed_stops_copies at f e = rw (typed_ranks_is, typed_suits_is, known (λ p. text_or_empty p v.copies) at e) refl

    module _ {copies : List ℕ} {p3 : Place} (at3 : p3 ≡ top key.Copies) (e3 : text_or_empty p3 v.copies ≡ Ok copies) where
      typed_copies_is : text_or_empty (top key.Copies) v.copies ≡ Ok copies
      typed_copies_is = known (λ p. text_or_empty p v.copies) at3 e3

      pub typed_stops_ranking : {p : Place} → p ≡ top key.Ranking → (f : Fault) → text p v.ranking ≡ Err f → typed_at v ≡ Err f
      unfolding typed_at
      typed_stops_ranking at f e = rw (typed_ranks_is, typed_suits_is, typed_copies_is, known (λ p. text p v.ranking) at e) refl

      module _ {ranking : List ℕ} {p4 : Place} (at4 : p4 ≡ top key.Ranking) (e4 : text p4 v.ranking ≡ Ok ranking) where
        typed_ranking_is : text (top key.Ranking) v.ranking ≡ Ok ranking
        typed_ranking_is = known (λ p. text p v.ranking) at4 e4

        pub typed_stops_bonus : (f : Fault) → bonus_numbers v.bonus ≡ Err f → typed_at v ≡ Err f
        unfolding typed_at
        typed_stops_bonus f e = rw (typed_ranks_is, typed_suits_is, typed_copies_is, typed_ranking_is, e) refl

        module _ {bonus : Option (List ℤ)} (bonus_is : bonus_numbers v.bonus ≡ Ok bonus) where
          typed_behind_bonus : typed_at v ≡ (whole_number (top key.Ante) v.ante >>= λ ante. tables_in (top key.Round) v.rounds >>= λ rounds.
              Ok (record { ranks = ranks; suits = suits; copies = copies; ranking = ranking; bonus = bonus; ante = ante; rounds = rounds }))
          unfolding typed_at
          typed_behind_bonus = rw (typed_ranks_is, typed_suits_is, typed_copies_is, typed_ranking_is, bonus_is) refl

          pub typed_stops_ante : {p : Place} → p ≡ top key.Ante → (f : Fault) → whole_number p v.ante ≡ Err f → typed_at v ≡ Err f
          typed_stops_ante at f e = rw (typed_behind_bonus, known (λ p. whole_number p v.ante) at e) refl

          module _ {ante : ℤ} {p6 : Place} (at6 : p6 ≡ top key.Ante) (e6 : whole_number p6 v.ante ≡ Ok ante) where
            typed_ante_is : whole_number (top key.Ante) v.ante ≡ Ok ante
            typed_ante_is = known (λ p. whole_number p v.ante) at6 e6

            pub typed_stops_rounds : {p : Place} → p ≡ top key.Round → (f : Fault) → tables_in p v.rounds ≡ Err f → typed_at v ≡ Err f
            typed_stops_rounds at f e = rw (typed_behind_bonus, typed_ante_is, known (λ p. tables_in p v.rounds) at e) refl

            pub typed_give : {rounds : List Members} {p : Place} → p ≡ top key.Round → tables_in p v.rounds ≡ Ok rounds → typed_at v
                ≡ Ok (record { ranks = ranks; suits = suits; copies = copies; ranking = ranking; bonus = bonus; ante = ante; rounds = rounds })
            typed_give at e = rw (typed_behind_bonus, typed_ante_is, known (λ p. tables_in p v.rounds) at e) refl

-- ---- the version

pub version_stops_value : (form : Form) (table : Members) → {p : Place} → p ≡ top key.Version → (f : Fault) → required form table p ≡ Err f
    → version_at form table ≡ Err f
unfolding version_at
version_stops_value form table at f e = rw (known (required form table) at e) refl

module _ (form : Form) (table : Members) {value : Data} {p1 : Place} (at1 : p1 ≡ top key.Version) (e1 : required form table p1 ≡ Ok value) where
  version_value_is : required form table (top key.Version) ≡ Ok value
  version_value_is = known (required form table) at1 e1

  pub version_stops_number : {p : Place} → p ≡ top key.Version → (f : Fault) → whole_number p value ≡ Err f → version_at form table ≡ Err f
  unfolding version_at
  version_stops_number at f e = rw (version_value_is, known (λ p. whole_number p value) at e) refl

  module _ {number : ℤ} {p2 : Place} (at2 : p2 ≡ top key.Version) (e2 : whole_number p2 value ≡ Ok number) where
    version_number_is : whole_number (top key.Version) value ≡ Ok number
    version_number_is = known (λ p. whole_number p value) at2 e2

    pub version_give : version_at form table ≡ version_of form number
    unfolding version_at
    version_give = rw (version_value_is, version_number_is) refl
