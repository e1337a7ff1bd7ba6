-- The steps of reading a round, of checking what is stated, and of reading the game:
-- a fault of one is the fault of all, where those before it give values.
use Rattle.std.proofs.Common.{◌≡◌, ℕ, ℤ, Bool, true, false, List, Ok, Err, refl}
use Rattle.toml.specs.Data.{Data, Members}
use Rattle.gs_card.specs.Decks.{DeckValue}
use Rattle.gs_model.specs.Game.{Ranking, Round as Rules}
use Rattle.gs_file.specs.{Faults.{Fault}, Keys.{top, within_round}, Tables.{each, only, required, text, whole_number, within}}
use Rattle.gs_file.specs.Reading.{Limit_values, Play, PlayValues, Round, Tree_value, Top, bonus_at, counted, has_tree, play_typed, play_values, play_within, ranking_at}
use Rattle.gs_file.specs.Reading.{Limit_of, Stated, TopValues, deck_at, game_at, lawful, round_built, round_keys, round_table_at, round_within}
use Rattle.gs_file.specs.Reading.{stated_fields_at, typed_at, values_at}
use Rattle.gs_file.specs.{declared.fault.Place.{Place}, declared.form.Form.{Form}}
use Rattle.gs_file.specs.declared.fault.Key.TheVariants as key
use Rattle.gs_file.proofs.TopSteps.{known}

-- ---- the values of a round's betting

pub values_stop_tree : (form : Form) (n : ℕ) (table : Members) → {b : Bool} → b ≡ true → {p : Place} → p ≡ within_round n key.Tree → (f : Fault)
    → required form table p ≡ Err f → play_values form n table b ≡ Err f
values_stop_tree form n table by at f e = rw (by, known (required form table) at e) refl

pub values_stop_bet : (form : Form) (n : ℕ) (table : Members) → {b : Bool} → b ≡ false → {p : Place} → p ≡ within_round n key.Bet → (f : Fault)
    → required form table p ≡ Err f → play_values form n table b ≡ Err f
values_stop_bet form n table by at f e = rw (by, known (required form table) at e) refl

pub values_stop_cap : (form : Form) (n : ℕ) (table : Members) → {b : Bool} → b ≡ false → {p : Place} → p ≡ within_round n key.Bet → {bet : Data}
    → required form table p ≡ Ok bet → {q : Place} → q ≡ within_round n key.Cap → (f : Fault) → required form table q ≡ Err f → play_values form n table b ≡ Err f
values_stop_cap form n table by at e at2 f e2 = rw (by, known (required form table) at e, known (required form table) at2 e2) refl

-- ---- the typed values of a round's betting

pub typed_stop_tree : (n : ℕ) {tree : Data} {vs : PlayValues} → vs ≡ Tree_value tree → {p : Place} → p ≡ within_round n key.Tree → (f : Fault) → text p tree ≡ Err f
    → play_typed n vs ≡ Err f
typed_stop_tree n {tree} is at f e = rw (is, known (λ p. text p tree) at e) refl

pub typed_stop_bet : (n : ℕ) {bet cap : Data} {vs : PlayValues} → vs ≡ Limit_values bet cap → {p : Place} → p ≡ within_round n key.Bet → (f : Fault)
    → whole_number p bet ≡ Err f → play_typed n vs ≡ Err f
typed_stop_bet n {bet} is at f e = rw (is, known (λ p. whole_number p bet) at e) refl

pub typed_stop_cap : (n : ℕ) {bet cap : Data} {vs : PlayValues} → vs ≡ Limit_values bet cap → {p : Place} → p ≡ within_round n key.Bet → {z : ℤ}
    → whole_number p bet ≡ Ok z → {q : Place} → q ≡ within_round n key.Cap → (f : Fault) → whole_number q cap ≡ Err f → play_typed n vs ≡ Err f
typed_stop_cap n {bet} {cap} is at e at2 f e2 = rw (is, known (λ p. whole_number p bet) at e, known (λ p. whole_number p cap) at2 e2) refl

-- ---- a round, each value by its type

pub round_stops_keys : (form : Form) (n : ℕ) (table : Members) → {b : Bool} → b ≡ has_tree form table → (f : Fault)
    → only form (round_keys b) n table ≡ Err f → round_table_at form n table ≡ Err f
unfolding round_table_at
round_stops_keys form n table at f e = rw (known (λ p. only form (round_keys p) n table) at e) refl

module _ (form : Form) (n : ℕ) (table : Members) {u : Unit {0}} {b1 : Bool} (at1 : b1 ≡ has_tree form table) (e1 : only form (round_keys b1) n table ≡ Ok u) where
  round_keys_is : only form (round_keys (has_tree form table)) n table ≡ Ok u
  round_keys_is = known (λ p. only form (round_keys p) n table) at1 e1

  pub round_stops_own : {p : Place} → p ≡ within_round n key.Private → (f : Fault) → required form table p ≡ Err f
      → round_table_at form n table ≡ Err f
  unfolding round_table_at
  round_stops_own at f e = rw (round_keys_is, known (required form table) at e) refl

  module _ {own : Data} {p2 : Place} (at2 : p2 ≡ within_round n key.Private) (e2 : required form table p2 ≡ Ok own) where
    round_own_is : required form table (within_round n key.Private) ≡ Ok own
    round_own_is = known (required form table) at2 e2

    pub round_stops_shown : {p : Place} → p ≡ within_round n key.Public → (f : Fault) → required form table p ≡ Err f
        → round_table_at form n table ≡ Err f
    unfolding round_table_at
    round_stops_shown at f e = rw (round_keys_is, round_own_is, known (required form table) at e) refl

    module _ {shown : Data} {p3 : Place} (at3 : p3 ≡ within_round n key.Public) (e3 : required form table p3 ≡ Ok shown) where
      round_shown_is : required form table (within_round n key.Public) ≡ Ok shown
      round_shown_is = known (required form table) at3 e3

      pub round_stops_values : {b : Bool} → b ≡ has_tree form table → (f : Fault) → play_values form n table b ≡ Err f
          → round_table_at form n table ≡ Err f
      unfolding round_table_at
      round_stops_values at f e = rw (round_keys_is, round_own_is, round_shown_is, known (play_values form n table) at e) refl

      module _ {values : PlayValues} {b4 : Bool} (at4 : b4 ≡ has_tree form table) (e4 : play_values form n table b4 ≡ Ok values) where
        round_values_is : play_values form n table (has_tree form table) ≡ Ok values
        round_values_is = known (play_values form n table) at4 e4

        pub round_stops_private : {p : Place} → p ≡ within_round n key.Private → (f : Fault) → whole_number p own ≡ Err f
            → round_table_at form n table ≡ Err f
        unfolding round_table_at
        round_stops_private at f e = rw (round_keys_is, round_own_is, round_shown_is, round_values_is, known (λ p. whole_number p own) at e) refl

        module _ {private : ℤ} {p5 : Place} (at5 : p5 ≡ within_round n key.Private) (e5 : whole_number p5 own ≡ Ok private) where
          round_private_is : whole_number (within_round n key.Private) own ≡ Ok private
          round_private_is = known (λ p. whole_number p own) at5 e5

          pub round_stops_public : {p : Place} → p ≡ within_round n key.Public → (f : Fault) → whole_number p shown ≡ Err f
              → round_table_at form n table ≡ Err f
          unfolding round_table_at
          round_stops_public at f e =
              rw (round_keys_is, round_own_is, round_shown_is, round_values_is, round_private_is, known (λ p. whole_number p shown) at e) refl

          module _ {public : ℤ} {p6 : Place} (at6 : p6 ≡ within_round n key.Public) (e6 : whole_number p6 shown ≡ Ok public) where
            round_public_is : whole_number (within_round n key.Public) shown ≡ Ok public
            round_public_is = known (λ p. whole_number p shown) at6 e6

            pub round_stops_play : (f : Fault) → play_typed n values ≡ Err f → round_table_at form n table ≡ Err f
            unfolding round_table_at
            round_stops_play f e = rw (round_keys_is, round_own_is, round_shown_is, round_values_is, round_private_is, round_public_is, e) refl

            module _ {play : Play ℤ} (play_is : play_typed n values ≡ Ok play) where
              pub round_give : round_table_at form n table ≡ Ok (record { private = private; public = public; play = play })
              unfolding round_table_at
              round_give = rw (round_keys_is, round_own_is, round_shown_is, round_values_is, round_private_is, round_public_is, play_is) refl

-- ---- a round, each value in its range

pub within_stops_private : (n : ℕ) (r : Round ℤ) → {p : Place} → p ≡ within_round n key.Private → (f : Fault)
    → within p 0 2 r.private ≡ Err f → round_within n r ≡ Err f
unfolding round_within
within_stops_private n r at f e = rw (known (λ p. within p 0 2 r.private) at e) refl

module _ (n : ℕ) (r : Round ℤ) {private : ℕ} {p1 : Place} (at1 : p1 ≡ within_round n key.Private) (e1 : within p1 0 2 r.private ≡ Ok private) where
  within_private_is : within (within_round n key.Private) 0 2 r.private ≡ Ok private
  within_private_is = known (λ p. within p 0 2 r.private) at1 e1

  pub within_stops_public : {p : Place} → p ≡ within_round n key.Public → (f : Fault) → within p 0 3 r.public ≡ Err f → round_within n r ≡ Err f
  unfolding round_within
  within_stops_public at f e = rw (within_private_is, known (λ p. within p 0 3 r.public) at e) refl

  module _ {public : ℕ} {p2 : Place} (at2 : p2 ≡ within_round n key.Public) (e2 : within p2 0 3 r.public ≡ Ok public) where
    within_public_is : within (within_round n key.Public) 0 3 r.public ≡ Ok public
    within_public_is = known (λ p. within p 0 3 r.public) at2 e2

    pub within_stops_play : (f : Fault) → play_within n r.play ≡ Err f → round_within n r ≡ Err f
    unfolding round_within
    within_stops_play f e = rw (within_private_is, within_public_is, e) refl

    module _ {play : Play ℕ} (play_is : play_within n r.play ≡ Ok play) where
      pub within_give : round_within n r ≡ Ok (record { private = private; public = public; play = play })
      unfolding round_within
      within_give = rw (within_private_is, within_public_is, play_is) refl

-- ---- what a file states beside its deck

pub stated_stops_count : (form : Form) (t : Top) → (f : Fault) → counted t.rounds ≡ Err f → stated_fields_at form t ≡ Err f
unfolding stated_fields_at
stated_stops_count form t f e = rw e refl

module _ (form : Form) (t : Top) {u : Unit {0}} (count_is : counted t.rounds ≡ Ok u) where
  pub stated_stops_rounds : (f : Fault) → each (round_table_at form) 1 t.rounds ≡ Err f → stated_fields_at form t ≡ Err f
  unfolding stated_fields_at
  stated_stops_rounds f e = rw (count_is, e) refl

  module _ {rounds : List (Round ℤ)} (rounds_is : each (round_table_at form) 1 t.rounds ≡ Ok rounds) where
    pub stated_stops_ranking : (f : Fault) → ranking_at t.ranking ≡ Err f → stated_fields_at form t ≡ Err f
    unfolding stated_fields_at
    stated_stops_ranking f e = rw (count_is, rounds_is, e) refl

    module _ {ranking : Ranking} (ranking_is : ranking_at t.ranking ≡ Ok ranking) where
      pub stated_stops_bonus : (f : Fault) → bonus_at ranking t.bonus ≡ Err f → stated_fields_at form t ≡ Err f
      unfolding stated_fields_at
      stated_stops_bonus f e = rw (count_is, rounds_is, ranking_is, e) refl

      module _ {bonus : List ℕ} (bonus_is : bonus_at ranking t.bonus ≡ Ok bonus) where
        pub stated_stops_ante : {p : Place} → p ≡ top key.Ante → (f : Fault) → within p 1 4096 t.ante ≡ Err f → stated_fields_at form t ≡ Err f
        unfolding stated_fields_at
        stated_stops_ante at f e = rw (count_is, rounds_is, ranking_is, bonus_is, known (λ p. within p 1 4096 t.ante) at e) refl

        module _ {ante : ℕ} {p5 : Place} (at5 : p5 ≡ top key.Ante) (e5 : within p5 1 4096 t.ante ≡ Ok ante) where
          stated_ante_is : within (top key.Ante) 1 4096 t.ante ≡ Ok ante
          stated_ante_is = known (λ p. within p 1 4096 t.ante) at5 e5

          pub stated_stops_ranged : (f : Fault) → each round_within 1 rounds ≡ Err f → stated_fields_at form t ≡ Err f
          unfolding stated_fields_at
          stated_stops_ranged f e = rw (count_is, rounds_is, ranking_is, bonus_is, stated_ante_is, e) refl

          module _ {ranged : List (Round ℕ)} (ranged_is : each round_within 1 rounds ≡ Ok ranged) where
            pub stated_give : stated_fields_at form t ≡ Ok (record { ranking = ranking; bonus = bonus; ante = ante; rounds = ranged })
            unfolding stated_fields_at
            stated_give = rw (count_is, rounds_is, ranking_is, bonus_is, stated_ante_is, ranged_is) refl

-- ---- the game

pub game_stops_values : (form : Form) (table : Members) → (f : Fault) → values_at form table ≡ Err f → game_at form table ≡ Err f
unfolding game_at
game_stops_values form table f e = rw e refl

module _ (form : Form) (table : Members) {v : TopValues} (values_is : values_at form table ≡ Ok v) where
  pub game_stops_fields : (f : Fault) → typed_at v ≡ Err f → game_at form table ≡ Err f
  unfolding game_at
  game_stops_fields f e = rw (values_is, e) refl

  module _ {t : Top} (fields_is : typed_at v ≡ Ok t) where
    pub game_stops_stated : (f : Fault) → stated_fields_at form t ≡ Err f → game_at form table ≡ Err f
    unfolding game_at
    game_stops_stated f e = rw (values_is, fields_is, e) refl

    module _ {s : Stated} (stated_is : stated_fields_at form t ≡ Ok s) where
      pub game_stops_deck : (f : Fault) → deck_at t.ranks t.suits t.copies ≡ Err f → game_at form table ≡ Err f
      unfolding game_at
      game_stops_deck f e = rw (values_is, fields_is, stated_is, e) refl

      module _ {cards : DeckValue} (deck_is : deck_at t.ranks t.suits t.copies ≡ Ok cards) where
        pub game_stops_rounds : (f : Fault) → each round_built 1 s.rounds ≡ Err f → game_at form table ≡ Err f
        unfolding game_at
        game_stops_rounds f e = rw (values_is, fields_is, stated_is, deck_is, e) refl

        module _ {rounds : List Rules} (rounds_is : each round_built 1 s.rounds ≡ Ok rounds) where
          pub game_give : game_at form table ≡ lawful (record { deck = cards; ranking = s.ranking; bonus = s.bonus; ante = s.ante; rounds = rounds })
          unfolding game_at
          game_give = rw (values_is, fields_is, stated_is, deck_is, rounds_is) refl

-- ---- the limit betting of a round, each value in its range

pub limit_stops_bet : (n : ℕ) (b c : ℤ) → {p : Place} → p ≡ within_round n key.Bet → (f : Fault) → within p 1 2048 b ≡ Err f
    → play_within n (Limit_of b c) ≡ Err f
limit_stops_bet n b c at f e = rw (known (λ p. within p 1 2048 b) at e) refl

module _ (n : ℕ) (b c : ℤ) {bet : ℕ} {p1 : Place} (at1 : p1 ≡ within_round n key.Bet) (e1 : within p1 1 2048 b ≡ Ok bet) where
  limit_bet_is : within (within_round n key.Bet) 1 2048 b ≡ Ok bet
  limit_bet_is = known (λ p. within p 1 2048 b) at1 e1

  pub limit_stops_cap : {p : Place} → p ≡ within_round n key.Cap → (f : Fault) → within p 0 8 c ≡ Err f → play_within n (Limit_of b c) ≡ Err f
  limit_stops_cap at f e = rw (limit_bet_is, known (λ p. within p 0 8 c) at e) refl

  module _ {cap : ℕ} {p2 : Place} (at2 : p2 ≡ within_round n key.Cap) (e2 : within p2 0 8 c ≡ Ok cap) where
    limit_cap_is : within (within_round n key.Cap) 0 8 c ≡ Ok cap
    limit_cap_is = known (λ p. within p 0 8 c) at2 e2

    pub limit_give : play_within n (Limit_of b c) ≡ Ok (Limit_of bet cap)
    limit_give = rw (limit_bet_is, limit_cap_is) refl
