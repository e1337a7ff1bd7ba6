-- What stands at the top of a game file, as facts on its table: the values by their keys, and their types.
use Rattle.std.proofs.Common.{◌≡◌, ℕ, zero, suc, List, [], Option, Some, None, Ok, ℤ, pos, negsuc, refl, sym, ap, ◌∙◌, subst, inl, inr, ◌⊎◌, arith}
use Rattle.toml.specs.Data.{Data, Members, as_integer, as_str, get_member}
use Rattle.gs_json.specs.Steps.{◌>>=◌}
use Rattle.gs_file.specs.{Faults.{bad_version, wrong_type, missing_key}, JsonForm.{version_number}, Keys.{key_in, top, top_keys}}
use Rattle.gs_file.specs.Reading.{Top, TopValues, bonus_numbers, bonus_value, typed_at, values_at, version_at, version_of}
use Rattle.gs_file.specs.{States.{Has, HasOnly, IsList, IsNumber, IsText}, declared.version.Version.{Version}, declared.version.Version.TheVariants.{One, Two}}
use Rattle.gs_file.specs.{Tables.{only, required, tables_in, text, text_or_empty, whole_number, whole_numbers_in}, declared.form.Form.TheVariants.{File}}
use Rattle.gs_file.specs.declared.fault.Key.TheVariants as key
use Rattle.gs_file.proofs.Stating.{IsTable, IsWhole, after, passing, found_ok, never, numbers_are, only_ok, same_ok, tables_are}

-- ---- the values at the top

abbrev pub IsVersion : Version → Data → Type 0
IsVersion v d = IsNumber (version_number v) (version_number v) (version_number v) d

abbrev pub VersionHas : Option Data → Members → Type 0
VersionHas bonus table =
    (HasOnly table (top_keys One) × Has table key.Version (IsVersion One) × (bonus ≡ None))
    ⊎ ((d : Data) × HasOnly table (top_keys Two) × Has table key.Version (IsVersion Two) × (get_member (key_in File key.Bonus) table ≡ Some d)
    × (bonus ≡ Some d))

pub record TopHas (v : TopValues) (table : Members) : Type 0 where
  pub version : VersionHas v.bonus table
  pub ranks : get_member (key_in File key.Ranks) table ≡ Some v.ranks
  pub suits : get_member (key_in File key.Suits) table ≡ Some v.suits
  pub copies : get_member (key_in File key.Copies) table ≡ v.copies
  pub ranking : get_member (key_in File key.Ranking) table ≡ Some v.ranking
  pub ante : get_member (key_in File key.Ante) table ≡ Some v.ante
  pub rounds : get_member (key_in File key.Round) table ≡ Some v.rounds

pub which_version : (z : ℤ) (v : Version) → version_of File z ≡ Ok v → z ≡ pos (version_number v)
which_version (pos zero) v e = absurd (never (bad_version (pos zero)) v e)
which_version (pos (suc zero)) v e = ap (λ w. pos (version_number w)) (same_ok One v e)
which_version (pos (suc (suc zero))) v e = ap (λ w. pos (version_number w)) (same_ok Two v e)
which_version (pos (suc (suc (suc n)))) v e = absurd (never (bad_version (pos (suc (suc (suc n))))) v e)
which_version (negsuc n) v e = absurd (never (bad_version (negsuc n)) v e)

pub version_ok : (table : Members) (v : Version) → version_at File table ≡ Ok v → Has table key.Version (IsVersion v)
unfolding version_at
version_ok table v e =
    let (d, ed, e1) = after (required File table (top key.Version)) (λ value. whole_number (top key.Version) value >>= version_of File) v e in
    let (z, ez, e2) = after (whole_number (top key.Version) d) (version_of File) v e1 in
    let found = found_ok (get_member (key_in File key.Version) table) (missing_key (top key.Version)) d ed in
    let whole = found_ok (as_integer d) (wrong_type (top key.Version)) z ez in
    (d, found, (whole ∙ ap Some (which_version z v e2), omega arith, omega arith))

pub bonus_ok : (v : Version) (table : Members) (bonus : Option Data) → bonus_value File v table ≡ Ok bonus → HasOnly table (top_keys v)
    → Has table key.Version (IsVersion v) → VersionHas bonus table
bonus_ok One table bonus e o h = inl (o, h, sym (same_ok None bonus e))
bonus_ok Two table bonus e o h =
    let (d, ed, e1) = after (required File table (top key.Bonus)) (λ d. Ok (Some d)) bonus e in
    inr (d, o, h, found_ok (get_member (key_in File key.Bonus) table) (missing_key (top key.Bonus)) d ed, sym (same_ok (Some d) bonus e1))

pub top_ok : (table : Members) (v : TopValues) → values_at File table ≡ Ok v → TopHas v table
unfolding values_at
top_ok table v e =
    passing (version_at File table) _ v e (λ version ev e1.
    passing (only File (top_keys version) 0 table) _ v e1 (λ u eo e2.
    passing (required File table (top key.Ranks)) _ v e2 (λ ranks er e3.
    passing (required File table (top key.Suits)) _ v e3 (λ suits es e4.
    passing (required File table (top key.Ranking)) _ v e4 (λ ranking ek e5.
    passing (bonus_value File version table) _ v e5 (λ bonus eb e6.
    passing (required File table (top key.Ante)) _ v e6 (λ ante ea e7.
    passing (required File table (top key.Round)) _ v e7 (λ rounds en e8.
    subst (λ w. TopHas w table) (same_ok _ v e8) (record {
      version = bonus_ok version table bonus eb (only_ok (top_keys version) 0 table u eo) (version_ok table version ev);
      ranks = found_ok (get_member (key_in File key.Ranks) table) (missing_key (top key.Ranks)) ranks er;
      suits = found_ok (get_member (key_in File key.Suits) table) (missing_key (top key.Suits)) suits es;
      copies = refl;
      ranking = found_ok (get_member (key_in File key.Ranking) table) (missing_key (top key.Ranking)) ranking ek;
      ante = found_ok (get_member (key_in File key.Ante) table) (missing_key (top key.Ante)) ante ea;
      rounds = found_ok (get_member (key_in File key.Round) table) (missing_key (top key.Round)) rounds en;
    })))))))))

pub top_is : (table : Members) (v : TopValues) → TopHas v table → values_at File table ≡ Ok v
unfolding values_at version_at
top_is table v h = by h.version
  where
    by : VersionHas v.bonus table → values_at File table ≡ Ok v
    by (inl (o, (d, m, i), none)) = rw (m, i.0, o, h.ranks, h.suits, h.ranking, h.ante, h.rounds, h.copies, sym none) refl
    by (inr (b, o, (d, m, i), n, some)) = rw (m, i.0, o, h.ranks, h.suits, h.ranking, n, h.ante, h.rounds, h.copies, sym some) refl

-- ---- their types

abbrev pub CopiesTyped : List ℕ → Option Data → Type 0
CopiesTyped copies None = copies ≡ []
CopiesTyped copies (Some d) = IsText copies d

abbrev pub BonusTyped : Option (List ℤ) → Option Data → Type 0
BonusTyped numbers None = numbers ≡ None
BonusTyped numbers (Some d) = (zs : List ℤ) × (numbers ≡ Some zs) × IsList IsWhole zs d

pub record TypedHas (t : Top) (v : TopValues) : Type 0 where
  pub ranks : IsText t.ranks v.ranks
  pub suits : IsText t.suits v.suits
  pub copies : CopiesTyped t.copies v.copies
  pub ranking : IsText t.ranking v.ranking
  pub bonus : BonusTyped t.bonus v.bonus
  pub ante : IsWhole t.ante v.ante
  pub rounds : IsList IsTable t.rounds v.rounds

pub copies_ok : (o : Option Data) (copies : List ℕ) → text_or_empty (top key.Copies) o ≡ Ok copies → CopiesTyped copies o
copies_ok None copies e = sym (same_ok [] copies e)
copies_ok (Some d) copies e = found_ok (as_str d) (wrong_type (top key.Copies)) copies e

pub copies_is : (o : Option Data) (copies : List ℕ) → CopiesTyped copies o → text_or_empty (top key.Copies) o ≡ Ok copies
copies_is None copies h = rw h refl
copies_is (Some d) copies h = rw h refl

pub numbers_typed : (o : Option Data) (numbers : Option (List ℤ)) → bonus_numbers o ≡ Ok numbers → BonusTyped numbers o
numbers_typed None numbers e = sym (same_ok None numbers e)
numbers_typed (Some d) numbers e =
    let (zs, ez, e1) = after (whole_numbers_in (top key.Bonus) d) (λ numbers. Ok (Some numbers)) numbers e in
    (zs, sym (same_ok (Some zs) numbers e1), (numbers_are (top key.Bonus) d zs).0 ez)

pub typed_numbers : (o : Option Data) (numbers : Option (List ℤ)) → BonusTyped numbers o → bonus_numbers o ≡ Ok numbers
typed_numbers None numbers h = rw h refl
typed_numbers (Some d) numbers h = rw ((numbers_are (top key.Bonus) d h.0).1 h.2, h.1) refl

pub typed_ok : (v : TopValues) (t : Top) → typed_at v ≡ Ok t → TypedHas t v
unfolding typed_at
typed_ok v t e =
    passing (text (top key.Ranks) v.ranks) _ t e (λ ranks er e1.
    passing (text (top key.Suits) v.suits) _ t e1 (λ suits es e2.
    passing (text_or_empty (top key.Copies) v.copies) _ t e2 (λ copies ec e3.
    passing (text (top key.Ranking) v.ranking) _ t e3 (λ ranking ek e4.
    passing (bonus_numbers v.bonus) _ t e4 (λ bonus eb e5.
    passing (whole_number (top key.Ante) v.ante) _ t e5 (λ ante ea e6.
    passing (tables_in (top key.Round) v.rounds) _ t e6 (λ rounds en e7.
    subst (λ w. TypedHas w v) (same_ok _ t e7) (record {
      ranks = found_ok (as_str v.ranks) (wrong_type (top key.Ranks)) ranks er;
      suits = found_ok (as_str v.suits) (wrong_type (top key.Suits)) suits es;
      copies = copies_ok v.copies copies ec;
      ranking = found_ok (as_str v.ranking) (wrong_type (top key.Ranking)) ranking ek;
      bonus = numbers_typed v.bonus bonus eb;
      ante = found_ok (as_integer v.ante) (wrong_type (top key.Ante)) ante ea;
      rounds = (tables_are (top key.Round) v.rounds rounds).0 en;
    }))))))))

pub typed_is : (v : TopValues) (t : Top) → TypedHas t v → typed_at v ≡ Ok t
unfolding typed_at
typed_is v t h =
    rw (
      h.ranks,
      h.suits,
      copies_is v.copies t.copies h.copies,
      h.ranking,
      typed_numbers v.bonus t.bonus h.bonus,
      h.ante,
      (tables_are (top key.Round) v.rounds t.rounds).1 h.rounds,
    ) refl
