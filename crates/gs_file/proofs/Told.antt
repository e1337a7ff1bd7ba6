-- What the reader accepts, in a file or in JSON, is a game that a version tells.
use Rattle.std.proofs.Common.{◌≡◌, ℕ, zero, suc, ◌<◌, ◌≤◌, ◌==◌, Bool, true, false, List, [], ◌∷◌, length, replicate, All, Option, Some, None, Ok, Err, ℤ, pos}
use Rattle.std.proofs.{Common.{negsuc, refl, sym, ap, ◌∙◌, subst, arith}, lemmas.Bool.{eqb-true}, lemmas.List.Elements.{All-cons, All-nil}}
use Rattle.std.specs.Prelude.{IsTrue, if◌then◌else◌}
use Rattle.toml.specs.Data.{Data, Members}
use Rattle.gs_json.specs.Steps.{◌>>=◌}
use Rattle.gs_bet.proofs.LimitLaws.{limit_is}
use Rattle.gs_bet.specs.Grammar.{is_tree}
use Rattle.gs_card.proofs.DeckLaws.{sound}
use Rattle.gs_card.specs.{DeckFaults.{fault_of as deck_fault_of}, Decks.{IsDeck, deck_of_texts}}
use Rattle.gs_model.specs.{Betting.{Bet}, Game.{Round as Rules, Ranking}, Outcome.{IsBonus, categories}}
use Rattle.gs_file.specs.{Faults.{bad_version, range}, JsonLaws.{IsRoundTold, IsTold, TellsBonus}, JsonReading.{json_game_at, table_at}, Keys.{top}}
use Rattle.gs_file.specs.Reading.{FileGame, Limit_of, Play, Round, Stated, Top, TopValues, Tree_text, bonus_at, bonus_value, copies_value}
use Rattle.gs_file.specs.Reading.{counted, deck_at, game_at, parsed_at, ranking_at, read_at, round_table_at, round_built, round_within, stated_fields_at}
use Rattle.gs_file.specs.{Reading.{utf8_text, typed_at, values_at, version_at, version_of}, declared.version.Version.TheVariants.{One, Two}}
use Rattle.gs_file.specs.{States.{OneByOne}, Tables.{each, only, required, whole_number, within}, Keys.{top_keys}}
use Rattle.gs_file.specs.{declared.form.Form.{Form}, declared.form.Form.TheVariants.{File, Json}, declared.version.Version.{Version}}
use Rattle.gs_file.specs.declared.fault.Key.TheVariants as key
use Rattle.gs_file.proofs.{States.{deck_ok, lawful_ok}, Stating.{after, each_ok, never, passing, same_ok, through, within_ok}}
use Rattle.gs_file.proofs.StatedTop.{BonusTyped, typed_ok}
use Rattle.gs_file.proofs.StatedRounds.{PlayIn, PlayMade, RoundIn, RoundMade, round_in_ok, round_made_ok}
use Rattle.serde_json.specs.Data as json
use Rattle.gs_game.proofs.Rules.{kept}

-- ---- the rounds

tree_told : (t : Bet) (w : Play ℕ) (r : Play ℤ) → PlayMade t w → PlayIn w r → IsTrue (is_tree t)
tree_told t (Tree_text words) r made ranged = made.sound
tree_told t (Limit_of bet cap) r made ranged = subst (λ u. IsTrue (is_tree u)) (sym made) (limit_is bet cap ranged.2 ranged.4)

round_told : (b : Rules) (w : Round ℕ) (r : Round ℤ) → RoundMade b w → RoundIn w r → IsRoundTold b
round_told b w r made ranged = record {
  private = let n = made.private in let m = ranged.private.2 in omega arith;
  public = let n = made.public in let m = ranged.public.2 in omega arith;
  tree = tree_told b.tree w.play r.play made.tree ranged.play;
}

all_told : {A : Type 0} (bs : List Rules) (rs : List A) → OneByOne (λ b r. IsRoundTold b) bs rs → All IsRoundTold bs
all_told [] [] h = All-nil IsRoundTold
all_told [] (r ∷ rs) h = All-nil IsRoundTold
all_told (b ∷ bs) [] h = absurd h
all_told (b ∷ bs) (r ∷ rs) h = All-cons IsRoundTold b bs h.0 (all_told bs rs h.1)

-- ---- the bonuses

abbrev IsOne : ℕ → Type 0
IsOne b = b ≡ 1

abbrev IsFew : ℕ → Type 0
IsFew n = (0 < n) × (n ≤ 9)

ones_few : (n : ℕ) → All IsFew (replicate n 1)
ones_few zero = All-nil IsFew
ones_few (suc n) = All-cons IsFew 1 (replicate n 1) (omega arith, omega arith) (ones_few n)

ones_one : (n : ℕ) → All IsOne (replicate n 1)
ones_one zero = All-nil IsOne
ones_one (suc n) = All-cons IsOne 1 (replicate n 1) refl (ones_one n)

ones_long : (n : ℕ) → length {A = ℕ} (replicate n 1) ≡ n
ones_long zero = refl
ones_long (suc n) = ap suc (ones_long n)

all_few : (ns : List ℕ) (zs : List ℤ) → OneByOne (λ n z. (z ≡ pos n) × (1 ≤ n) × (n ≤ 9)) ns zs → (All IsFew ns) × (length ns ≡ length zs)
all_few [] [] h = (All-nil IsFew, refl)
all_few [] (z ∷ zs) h = absurd h
all_few (n ∷ ns) [] h = absurd h
all_few (n ∷ ns) (z ∷ zs) h =
    let rest = all_few ns zs h.1 in
    let low = h.0.1 in
    (All-cons IsFew n ns (omega arith, h.0.2) rest.0, ap suc rest.1)

bonus_is : (r : Ranking) (numbers : Option (List ℤ)) (bonus : List ℕ) → bonus_at r numbers ≡ Ok bonus → IsBonus r bonus
unfolding bonus_at
bonus_is r None bonus e =
    subst (IsBonus r) (same_ok (replicate (categories r) 1) bonus e) (record { each = ones_long (categories r); in_range = ones_few (categories r) })
bonus_is r (Some numbers) bonus e = by (length numbers == categories r) refl e
  where
    by : (b : Bool) → (length numbers == categories r) ≡ b
        → (if b then each (λ n. within (top key.Bonus) 1 9) 1 numbers else Err (range (top key.Bonus))) ≡ Ok bonus → IsBonus r bonus
    by false is e = absurd (never (range (top key.Bonus)) bonus e)
    by true is e =
        let one = each_ok (λ n. within (top key.Bonus) 1 9) (λ n z. (z ≡ pos n) × (1 ≤ n) × (n ≤ 9)) (λ n z m g. within_ok (top key.Bonus) 1 9 z m g) 1 numbers
        bonus e in
        let both = all_few bonus numbers one in
        record { each = both.1 ∙ eqb-true (length numbers) (categories r) is; in_range = both.0 }

bonus_ones : (r : Ranking) (bonus : List ℕ) → bonus_at r None ≡ Ok bonus → All IsOne bonus
unfolding bonus_at
bonus_ones r bonus e = subst (All IsOne) (same_ok (replicate (categories r) 1) bonus e) (ones_one (categories r))

-- ---- the version

-- a form tells games of a version: a file of version 2, where every game is told
abbrev pub FormTells : Form → Version → Type 0
FormTells File version = version ≡ Two
FormTells (Json v) version = v ≡ version

json_one : (z : ℤ) (v : Version) → version_of (Json One) z ≡ Ok v → v ≡ One
json_one (pos zero) v e = absurd (never (bad_version (pos zero)) v e)
json_one (pos (suc zero)) v e = sym (same_ok One v e)
json_one (pos (suc (suc n))) v e = absurd (never (bad_version (pos (suc (suc n)))) v e)
json_one (negsuc n) v e = absurd (never (bad_version (negsuc n)) v e)

version_one : (table : Members) (v : Version) → version_at (Json One) table ≡ Ok v → v ≡ One
unfolding version_at
version_one table v e =
    let (d, ed, e1) = after (required (Json One) table (top key.Version)) (λ value. whole_number (top key.Version) value >>= version_of (Json One)) v e in
    let (z, ez, e2) = after (whole_number (top key.Version) d) (version_of (Json One)) v e1 in
    json_one z v e2

no_bonus : (table : Members) (values : TopValues) → values_at (Json One) table ≡ Ok values → values.bonus ≡ None
unfolding values_at
no_bonus table values e =
    passing (version_at (Json One) table) _ values e (λ version ev e1.
    passing (only (Json One) (top_keys version) 0 table) _ values e1 (λ u eo e2.
    passing (required (Json One) table (top key.Ranks)) _ values e2 (λ ranks er e3.
    passing (required (Json One) table (top key.Suits)) _ values e3 (λ suits es e4.
    passing (copies_value (Json One) table) _ values e4 (λ copies ec e5.
    passing (required (Json One) table (top key.Ranking)) _ values e5 (λ ranking ek e6.
    passing (bonus_value (Json One) version table) _ values e6 (λ bonus eb e7.
    passing (required (Json One) table (top key.Ante)) _ values e7 (λ ante ea e8.
    passing (required (Json One) table (top key.Round)) _ values e8 (λ rounds en e9.
    let is_one : version ≡ One = version_one table version ev in
    let none : None ≡ bonus = same_ok None bonus (subst (λ v. bonus_value (Json One) v table ≡ Ok bonus) is_one eb) in
    subst (λ (w : TopValues). w.bonus ≡ None) (same_ok _ values e9) (sym none))))))))))

fields_none : (values : TopValues) (fields : Top) → values.bonus ≡ None → typed_at values ≡ Ok fields → fields.bonus ≡ None
fields_none values fields none e = subst (λ (o : Option Data). BonusTyped fields.bonus o) none (typed_ok values fields e).bonus

tells : (form : Form) (version : Version) (table : Members) (values : TopValues) (fields : Top) (r : Ranking) (bonus : List ℕ) → FormTells form version
    → values_at form table ≡ Ok values → typed_at values ≡ Ok fields → bonus_at r fields.bonus ≡ Ok bonus → TellsBonus version bonus
tells form Two table values fields r bonus f ev et eb = tt
tells File One table values fields r bonus f ev et eb = absurd (cc)
tells (Json Two) One table values fields r bonus f ev et eb = absurd (cc)
tells (Json One) One table values fields r bonus f ev et eb =
    let none = fields_none values fields (no_bonus table values ev) et in
    bonus_ones r bonus (subst (λ (o : Option (List ℤ)). bonus_at r o ≡ Ok bonus) none eb)

-- ---- the game

-- what is stated is in its ranges
record IsStated (form : Form) (t : Top) (s : Stated) : Type 0 where
  bonus : bonus_at s.ranking t.bonus ≡ Ok s.bonus
  low : 1 ≤ s.ante
  high : s.ante ≤ 4096
  rounds : (rs : List (Round ℤ)) × OneByOne RoundIn s.rounds rs

stated_ok : (form : Form) (t : Top) (s : Stated) → stated_fields_at form t ≡ Ok s → IsStated form t s
unfolding stated_fields_at
stated_ok form t s e =
    passing (counted t.rounds) _ s e (λ u ec e1.
    passing (each (round_table_at form) 1 t.rounds) _ s e1 (λ rs er e2.
    passing (ranking_at t.ranking) _ s e2 (λ ranking ek e3.
    passing (bonus_at ranking t.bonus) _ s e3 (λ bonus eb e4.
    passing (within (top key.Ante) 1 4096 t.ante) _ s e4 (λ ante ea e5.
    passing (each round_within 1 rs) _ s e5 (λ ws ew e6.
    let (is, l, h) = within_ok (top key.Ante) 1 4096 t.ante ante ea in
    subst (IsStated form t) (same_ok _ s e6) (record {
      bonus = eb;
      low = l;
      high = h;
      rounds = (rs, each_ok round_within RoundIn (λ n r w g. round_in_ok n r w g) 1 rs ws ew);
    })))))))

-- what is accepted by either form is told
pub game_told : (form : Form) (version : Version) (table : Members) (g : FileGame) → FormTells form version → game_at form table ≡ Ok g → IsTold version g
unfolding game_at
game_told form version table g f e =
    passing (values_at form table) _ g e (λ v ev e1.
    passing (typed_at v) _ g e1 (λ t et e2.
    passing (stated_fields_at form t) _ g e2 (λ s es e3.
    passing (deck_at t.ranks t.suits t.copies) _ g e3 (λ cards ec e4.
    passing (each round_built 1 s.rounds) _ g e4 (λ bs eb e5.
    let (no_rule, same) = lawful_ok (record { deck = cards; ranking = s.ranking; bonus = s.bonus; ante = s.ante; rounds = bs }) _ g e5 in
    let (no_fault, same_deck) = deck_ok (deck_of_texts t.ranks t.suits t.copies) (deck_fault_of t.ranks t.suits t.copies) cards ec in
    let hs = stated_ok form t s es in
    let made = each_ok round_built RoundMade (λ n w b. round_made_ok n w b) 1 s.rounds bs eb in
    let (rs, ranged) = hs.rounds in
    let told = through RoundMade RoundIn (λ b r. IsRoundTold b) (λ b w r m i. round_told b w r m i) bs s.rounds rs made ranged in
    subst (IsTold version) same (record {
      deck = subst IsDeck same_deck (sound t.ranks t.suits t.copies no_fault);
      bonus = bonus_is s.ranking t.bonus s.bonus hs.bonus;
      tells = tells form version table v t s.ranking s.bonus f ev et hs.bonus;
      some_ante = hs.low;
      ante = hs.high;
      rounds = all_told bs rs told;
      lawful = kept _ no_rule;
    }))))))

-- what a file states
pub file_told : (bytes : List ℕ) (g : FileGame) → read_at bytes ≡ Ok g → IsTold Two g
unfolding read_at
file_told bytes g e =
    let (words, et, e1) = after (utf8_text bytes) _ g e in
    let (table, ep, e2) = after (parsed_at words) _ g e1 in
    game_told File Two table g refl e2

-- what a value of JSON states in a version
pub json_told : (version : Version) (d : json.Data) (g : FileGame) → json_game_at version d ≡ Ok g → IsTold version g
unfolding json_game_at
json_told version d g e =
    let (ms, em, e1) = after (table_at d) _ g e in
    game_told (Json version) version ms g refl e1
