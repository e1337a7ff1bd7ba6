-- The rounds of a game file, as facts on their tables: what stands there, its ranges, and the betting.
use Rattle.std.proofs.Common.{◌≡◌, ℕ, ◌≤◌, Bool, true, false, List, Some, None, Ok, ℤ, pos, refl, sym, ap, ap₂, ◌∙◌, subst, Ordering, Less, Equal, Greater}
use Rattle.std.proofs.{lemmas.Bool.{and_parts, false≢true}, lemmas.Map.Text.{is_eq-slice_cmp}, lemmas.Slice.Eq.{bytes_eq-Decides}}
use Rattle.std.specs.{Ordering.{is_eq, match_ordering, nat_cmp}, Cmp.Lexicographic.{slice_cmp}, Str.{bytes_eq}}
use Rattle.toml.specs.Data.{Data, Members, no_members, member, as_integer, as_str, get_member}
use Rattle.gs_bet.specs.Limit.{limit_bet}
use Rattle.gs_model.specs.{Betting.{Bet}, Game.{Round as Rules}}
use Rattle.gs_file.specs.{Faults.{wrong_type, missing_key}, Keys.{has_only, is_among, key_in, limit_keys, tree_keys, within_round}}
use Rattle.gs_file.specs.Reading.{Play, PlayValues, Tree_text, Tree_value, Limit_of, Limit_values, Round, has_tree, play_tree, play_typed, play_values}
use Rattle.gs_file.specs.Reading.{play_within, round_table_at, round_built, round_keys, round_within}
use Rattle.gs_file.specs.{States.{Has, HasOnly, IsText}, Tables.{only, required, text, whole_number, within}, TreeTexts.{IsTreeText, IsTreeRead}}
use Rattle.gs_file.specs.{declared.fault.Key.{Key}, declared.form.Form.TheVariants.{File}}
use Rattle.gs_file.specs.declared.fault.Key.TheVariants as key
use Rattle.gs_file.proofs.{Stating.{IsWhole, after, passing, found_ok, only_ok, same_ok, within_is, within_ok}, Trees.{is_read, reads_tree}}

-- ---- keys and words

pub same_bytes : (xs ys : List ℕ) → bytes_eq xs ys ≡ true → xs ≡ ys
same_bytes xs ys e = (bytes_eq-Decides xs ys).0 e

-- a key that is none of those that may stand in a table does not stand there
pub absent : (keys : List Key) (k : Key) (table : Members) → HasOnly table keys → is_among File keys (key_in File k) ≡ false
    → get_member (key_in File k) table ≡ None
absent keys k no_members o n = refl
absent keys k (member name d rest) o n =
    let (here, more) = and_parts (is_among File keys name) (has_only File keys rest) o in
    by (slice_cmp nat_cmp (key_in File k) name) refl here (absent keys k rest more n)
  where
    by : (c : Ordering) → slice_cmp nat_cmp (key_in File k) name ≡ c → is_among File keys name ≡ true → get_member (key_in File k) rest ≡ None
        → match_ordering c (get_member (key_in File k) rest) (Some d) (get_member (key_in File k) rest) ≡ None
    by Less e here none = none
    by Greater e here none = none
    by Equal e here none =
        let eq = sym (is_eq-slice_cmp (key_in File k) name) ∙ ap is_eq e in
        absurd (false≢true (sym n ∙ ap (is_among File keys) (same_bytes (key_in File k) name eq) ∙ here))

-- ---- rounds

abbrev pub PlayHas : Play ℤ → Members → Type 0
PlayHas (Tree_text words) table = HasOnly table tree_keys × Has table key.Tree (IsText words)
PlayHas (Limit_of bet most) table = HasOnly table limit_keys × Has table key.Bet (IsWhole bet) × Has table key.Cap (IsWhole most)

-- a round's table has these numbers and this betting
pub record RoundHas (r : Round ℤ) (table : Members) : Type 0 where
  pub private : Has table key.Private (IsWhole r.private)
  pub public : Has table key.Public (IsWhole r.public)
  pub play : PlayHas r.play table

-- a key that has to be there, with a value of its type
whole_has : (n : ℕ) (k : Key) (table : Members) (d : Data) (z : ℤ) → required File table (within_round n k) ≡ Ok d → whole_number (within_round n k) d ≡ Ok z
    → Has table k (IsWhole z)
whole_has n k table d z ed ez = (
  d,
  found_ok (get_member (key_in File k) table) (missing_key (within_round n k)) d ed,
  found_ok (as_integer d) (wrong_type (within_round n k)) z ez,
)

play_ok : (by_tree : Bool) (n : ℕ) (table : Members) (values : PlayValues) (play : Play ℤ) → HasOnly table (round_keys by_tree)
    → play_values File n table by_tree ≡ Ok values → play_typed n values ≡ Ok play → PlayHas play table
play_ok true n table values play o ev ep =
    let (t, et, e1) = after (required File table (within_round n key.Tree)) (λ tree. Ok (Tree_value tree)) values ev in
    let typed : play_typed n (Tree_value t) ≡ Ok play = ap (play_typed n) (same_ok (Tree_value t) values e1) ∙ ep in
    let (words, ew, e2) = after (text (within_round n key.Tree) t) (λ words. Ok (Tree_text words)) play typed in
    subst (λ p. PlayHas p table) (same_ok (Tree_text words) play e2) (
      o,
      (
        t,
        found_ok (get_member (key_in File key.Tree) table) (missing_key (within_round n key.Tree)) t et,
        found_ok (as_str t) (wrong_type (within_round n key.Tree)) words ew,
      ),
    )
play_ok false n table values play o ev ep =
    let (b, eb, e1) = after (required File table (within_round n key.Bet)) _ values ev in
    let (c, ec, e2) = after (required File table (within_round n key.Cap)) _ values e1 in
    let typed : play_typed n (Limit_values b c) ≡ Ok play = ap (play_typed n) (same_ok (Limit_values b c) values e2) ∙ ep in
    let (bet, ei, e3) = after (whole_number (within_round n key.Bet) b) _ play typed in
    let (cap, ej, e4) = after (whole_number (within_round n key.Cap) c) _ play e3 in
    subst (λ p. PlayHas p table) (same_ok (Limit_of bet cap) play e4) (o, whole_has n key.Bet table b bet eb ei, whole_has n key.Cap table c cap ec ej)

pub round_ok : (n : ℕ) (table : Members) (r : Round ℤ) → round_table_at File n table ≡ Ok r → RoundHas r table
unfolding round_table_at
round_ok n table r e =
    let by_tree = has_tree File table in
    passing (only File (round_keys by_tree) n table) _ r e (λ u eo e1.
    passing (required File table (within_round n key.Private)) _ r e1 (λ p ep e2.
    passing (required File table (within_round n key.Public)) _ r e2 (λ q eq e3.
    passing (play_values File n table by_tree) _ r e3 (λ values ev e4.
    passing (whole_number (within_round n key.Private) p) _ r e4 (λ private ei e5.
    passing (whole_number (within_round n key.Public) q) _ r e5 (λ public ej e6.
    passing (play_typed n values) _ r e6 (λ play ek e7.
    subst (λ w. RoundHas w table) (same_ok _ r e7) (record {
      private = whole_has n key.Private table p private ep ei;
      public = whole_has n key.Public table q public eq ej;
      play = play_ok by_tree n table values play (only_ok (round_keys by_tree) n table u eo) ev ek;
    }))))))))

pub round_is : (n : ℕ) (table : Members) (r : Round ℤ) → RoundHas r table → round_table_at File n table ≡ Ok r
unfolding round_table_at
round_is n table r h = by r.play h.play refl
  where
    by : (play : Play ℤ) → PlayHas play table → r.play ≡ play → round_table_at File n table ≡ Ok r
    by (Tree_text words) (none_else, (t, found, is)) same =
        let (p, fp, ip) = h.private in
        let (q, fq, iq) = h.public in
        rw (found, found, none_else, fp, fq, ip, iq, is) (ap (λ play. Ok (record { private = r.private; public = r.public; play = play })) (sym same))
    by (Limit_of bet most) (none_else, (b, fb, ib), (c, fc, ic)) same =
        let (p, fp, ip) = h.private in
        let (q, fq, iq) = h.public in
        let none = absent limit_keys key.Tree table none_else refl in
        rw (none, none_else, fp, fq, fb, fc, ip, iq, ib, ic) (ap (λ play. Ok (record { private = r.private; public = r.public; play = play })) (sym same))

-- the numbers are in their ranges
abbrev pub PlayIn : Play ℕ → Play ℤ → Type 0
PlayIn (Tree_text text) play = play ≡ Tree_text text
PlayIn (Limit_of bet cap) play = (play ≡ Limit_of (pos bet) (pos cap)) × (1 ≤ bet) × (bet ≤ 2048) × (0 ≤ cap) × (cap ≤ 8)

pub record RoundIn (w : Round ℕ) (r : Round ℤ) : Type 0 where
  pub private : (r.private ≡ pos w.private) × (0 ≤ w.private) × (w.private ≤ 2)
  pub public : (r.public ≡ pos w.public) × (0 ≤ w.public) × (w.public ≤ 3)
  pub play : PlayIn w.play r.play

pub play_in_ok : (n : ℕ) (play : Play ℤ) (w : Play ℕ) → play_within n play ≡ Ok w → PlayIn w play
play_in_ok n (Tree_text text) w e = subst (λ v. PlayIn v (Tree_text text)) (same_ok (Tree_text text) w e) refl
play_in_ok n (Limit_of b c) w e =
    let (bet, eb, e1) = after (within (within_round n key.Bet) 1 2048 b) _ w e in
    let (cap, ec, e2) = after (within (within_round n key.Cap) 0 8 c) _ w e1 in
    let (sb, lb, hb) = within_ok (within_round n key.Bet) 1 2048 b bet eb in
    let (sc, lc, hc) = within_ok (within_round n key.Cap) 0 8 c cap ec in
    subst (λ v. PlayIn v (Limit_of b c)) (same_ok (Limit_of bet cap) w e2) (ap₂ (λ (x y : ℤ). Limit_of x y) sb sc, lb, hb, lc, hc)

pub play_in_is : (n : ℕ) (play : Play ℤ) (w : Play ℕ) → PlayIn w play → play_within n play ≡ Ok w
play_in_is n play (Tree_text text) h = rw h refl
play_in_is n play (Limit_of bet cap) (same, lb, hb, lc, hc) = rw same (rw (
  within_is (within_round n key.Bet) 1 2048 bet lb hb,
  within_is (within_round n key.Cap) 0 8 cap lc hc,
) refl)

pub round_in_ok : (n : ℕ) (r : Round ℤ) (w : Round ℕ) → round_within n r ≡ Ok w → RoundIn w r
unfolding round_within
round_in_ok n r w e =
    let (p, ep, e1) = after (within (within_round n key.Private) 0 2 r.private) _ w e in
    let (q, eq, e2) = after (within (within_round n key.Public) 0 3 r.public) _ w e1 in
    let (play, el, e3) = after (play_within n r.play) _ w e2 in
    subst (λ v. RoundIn v r) (same_ok _ w e3) (record {
      private = within_ok (within_round n key.Private) 0 2 r.private p ep;
      public = within_ok (within_round n key.Public) 0 3 r.public q eq;
      play = play_in_ok n r.play play el;
    })

pub round_in_is : (n : ℕ) (r : Round ℤ) (w : Round ℕ) → RoundIn w r → round_within n r ≡ Ok w
unfolding round_within
round_in_is n r w h =
    let (sp, lp, hp) = h.private in
    let (sq, lq, hq) = h.public in
    rw (sp, sq) (rw (
      within_is (within_round n key.Private) 0 2 w.private lp hp,
      within_is (within_round n key.Public) 0 3 w.public lq hq,
      play_in_is n r.play w.play h.play,
    ) refl)

-- the round with its tree
abbrev pub PlayMade : Bet → Play ℕ → Type 0
PlayMade t (Tree_text text) = IsTreeText text t
PlayMade t (Limit_of bet cap) = t ≡ limit_bet bet cap

pub record RoundMade (b : Rules) (w : Round ℕ) : Type 0 where
  pub private : b.private ≡ w.private
  pub public : b.public ≡ w.public
  pub tree : PlayMade b.tree w.play

pub play_made_ok : (n : ℕ) (play : Play ℕ) (t : Bet) → play_tree n play ≡ Ok t → PlayMade t play
play_made_ok n (Tree_text text) t e = subst (IsTreeRead n text) e (is_read n text)
play_made_ok n (Limit_of bet cap) t e = sym (same_ok (limit_bet bet cap) t e)

pub play_made_is : (n : ℕ) (play : Play ℕ) (t : Bet) → PlayMade t play → play_tree n play ≡ Ok t
play_made_is n (Tree_text text) t h = reads_tree n text t h.sound h.is
play_made_is n (Limit_of bet cap) t h = rw h refl

pub round_made_ok : (n : ℕ) (w : Round ℕ) (b : Rules) → round_built n w ≡ Ok b → RoundMade b w
unfolding round_built
round_made_ok n w b e =
    let (t, et, e1) = after (play_tree n w.play) _ b e in
    subst (λ v. RoundMade v w) (same_ok _ b e1) (record { private = refl; public = refl; tree = play_made_ok n w.play t et })

pub round_made_is : (n : ℕ) (w : Round ℕ) (b : Rules) → RoundMade b w → round_built n w ≡ Ok b
unfolding round_built
round_made_is n w b h = rw (play_made_is n w.play b.tree h.tree, sym h.private, sym h.public) refl
