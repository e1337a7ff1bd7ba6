-- How long the parts of a strategy's text are.
use Rattle.std.proofs.Common.{◌≡◌, ℕ, zero, suc, ◌+◌, ◌-◌, ◌*◌, ◌<◌, ◌≤◌, ◌^◌, ◌&&◌, ◌==◌, Bool, true, false, not, List, [], ◌∷◌, ◌++◌, map, length, length-append, get_or, arith, All}
use Rattle.std.proofs.{Common.{IsTrue, ℤ, pos, negsuc, codes}, Math.Nat.{mul-zero, mul-suc, mul_comm}}
use Rattle.std.proofs.{lemmas.Bool.{and_parts, ltb-true, false≢true}, lemmas.Fmt.{length-decimal-le, length-decimal-le_wide}}
use Rattle.std.proofs.lemmas.{List.{length-map}, List.Elements.{All-head, All-tail}}
use Rattle.std.specs.{Prelude.{nat_lt, unsigned_abs}, Fmt.{signed_decimal}}
use Rattle.json.specs.Print.{quoted}
use Rattle.serde_json.specs.{Data.{Data, Members, no_members, member, string, array}, Written.{comma_if, compact_text, items_text, members_text}, View.{items_of}}
use Rattle.gs_bet.specs.Grammar.{is_fold, is_sound, is_tree, tree_text}
use Rattle.gs_card.specs.Decks.{DeckValue, IsDeck}
use Rattle.gs_file.specs.{JsonForm.{copies_text, game_data, ranking_text, round_data, version_number, whole}, JsonLaws.{IsRoundTold}}
use Rattle.gs_file.specs.{Reading.{FileGame}, declared.version.Version.{Version}, declared.version.Version.TheVariants.{One, Two}}
use Rattle.gs_frac.specs.{Gcd.{gcd_of}, Texts.{fraction_text, is_fraction, limit}}
use Rattle.gs_json.specs.Lines.{table}
use Rattle.gs_length.proofs.Bytes.{HaveDigits, bare_length, comma_length, eleven_digits, item_length, quoted_length, six_digits}
use Rattle.gs_length.proofs.TreeLength.{AreShort, AreSound, tree_bare}
use Rattle.gs_model.specs.{Betting.{Bet}, Game.{Round, Ranking, High, Pair, Three}, Outcome.{IsBonus, categories}}
use Rattle.gs_strategy.specs.{Texts.{classes_data, fraction_data, numbers_data, plan_data}, Values.{FractionParts, IsFractionOf, Weights}}

-- ---- objects

-- one member more, with a key of at most seven bytes
pub member_length : (later : Bool) (k : List ℕ) (d : Data) (ms : Members) (c m : ℕ) → length k ≤ 7 → length (compact_text d) ≤ c
    → length (members_text true ms) ≤ m → length (members_text later (member k d ms)) ≤ 46 + c + m
member_length later k d ms c m hk hd hm =
    let rest = compact_text d ++ members_text true ms in
    omega (
      arith,
      length-append (comma_if later) (quoted k ++ 58 ∷ rest),
      length-append (quoted k) (58 ∷ rest),
      length-append (compact_text d) (members_text true ms),
      comma_length later,
      quoted_length k,
      hk,
      hd,
      hm,
    )

-- ---- numbers and fractions

small_number : (n k : ℕ) → 0 < k → n < 10 ^ k → n < 2 ^ 64 → length (compact_text (whole n)) ≤ k
small_number n k some few wide = length-decimal-le k n some few wide

signed_length : (z : ℤ) → unsigned_abs z < 2 ^ 127 → length (signed_decimal z) ≤ 40
signed_length (pos n) h = let l = length-decimal-le_wide 39 n (omega arith) (omega (arith, h)) (omega (arith, h)) in omega (arith, l)
signed_length (negsuc n) h = let l = length-decimal-le_wide 39 (suc n) (omega arith) (omega (arith, h)) (omega (arith, h)) in omega (arith, l)

fraction_length : (num den : ℤ) → IsTrue (is_fraction num den) → length (fraction_text num den) ≤ 81
unfolding limit
fraction_length num (pos d) h =
    let a = and_parts (nat_lt 0 d && nat_lt d limit) (nat_lt (unsigned_abs num) limit && gcd_of (unsigned_abs num) d == 1) h in
    let b = and_parts (nat_lt 0 d) (nat_lt d limit) a.0 in
    let c = and_parts (nat_lt (unsigned_abs num) limit) (gcd_of (unsigned_abs num) d == 1) a.1 in
    let n = signed_length num (ltb-true (unsigned_abs num) limit c.0) in
    let m = signed_length (pos d) (ltb-true d limit b.1) in
    omega (arith, n, m, length-append (signed_decimal num) (47 ∷ signed_decimal (pos d)))
fraction_length num (negsuc d) h = absurd (false≢true h)

pub fraction_part : (p : FractionParts) → IsFractionOf p → length (compact_text (fraction_data p)) ≤ 488
fraction_part p h = omega (arith, quoted_length (fraction_text p.0 p.1), fraction_length p.0 p.1 h)

-- ---- plans and classes

pub plan_part : (w : Weights) → w.total ≤ 2 ^ 36 → HaveDigits 11 w.weights → length w.weights ≤ 262143 → length (compact_text (plan_data w)) ≤ 3145823
plan_part w total digits long =
    let weights = eleven_digits false w.weights digits in
    let last = member_length true (codes "weights") (numbers_data w.weights) no_members 3145718 1 (omega arith) (omega (arith, weights, long)) (omega arith) in
    let first = member_length false (codes "total") (whole w.total) (table ((codes "weights", numbers_data w.weights) ∷ [])) 11 3145765 (omega arith)
    (small_number w.total 11 (omega arith) (omega (arith, total)) (omega (arith, total))) last in
    omega (arith, first)

-- a list of at most 200,000 numbers of at most six digits
pub record IsShortList (xs : List ℕ) : Type 0 where
  pub few : length xs ≤ 200000
  pub digits : HaveDigits 6 xs

lists_length : (later : Bool) (lists : List (List ℕ)) → ((r : ℕ) → r < length lists → IsShortList (get_or lists r []))
    → length (items_text later (items_of (map numbers_data lists))) ≤ 1 + 1400003 * length lists
lists_length later [] h = omega arith
lists_length later (xs ∷ lists) h =
    let first = h 0 (omega arith) in
    let rest = lists_length true lists (λ r l. h (suc r) (omega (arith, l))) in
    let here = six_digits false xs first.digits in
    let all = item_length later (numbers_data xs) (items_text true (items_of (map numbers_data lists))) 1400002 (1 + 1400003 * length lists)
    (omega (arith, here, first.few)) rest in
    omega (arith, all)

pub classes_part : (lists : List (List ℕ)) → length lists ≤ 4 → ((r : ℕ) → r < length lists → IsShortList (get_or lists r []))
    → length (compact_text (classes_data lists)) ≤ 5600014
classes_part lists few h = omega (arith, few, lists_length false lists h)

-- ---- the game

is_sound_of : (t : Bet) → IsTrue (is_tree t) → is_sound 16 t ≡ true
is_sound_of t h = (and_parts (not (is_fold t)) (is_sound 16 t) h).1

pub all_sound : (rs : List Round) → All IsRoundTold rs → AreSound (map (λ (r : Round). r.tree) rs)
all_sound [] h = tt
all_sound (r ∷ rs) h = (is_sound_of r.tree (All-head IsRoundTold r rs h).tree, all_sound rs (All-tail IsRoundTold r rs h))

round_part : (r : Round) → IsRoundTold r → length (tree_text r.tree) ≤ 1187840 → length (compact_text (round_data r)) ≤ 1187984
round_part r h short =
    let bare = bare_length (tree_text r.tree) (tree_bare 16 r.tree (is_sound_of r.tree h.tree)) in
    let tree = member_length true (codes "tree") (string (tree_text r.tree)) no_members 1187842 1 (omega arith) (omega (arith, bare, short)) (omega arith) in
    let public = member_length true (codes "public") (whole r.public) (table ((codes "tree", string (tree_text r.tree)) ∷ [])) 1 1187889 (omega arith)
    (small_number r.public 1 (omega arith) (omega (arith, h.public)) (omega (arith, h.public))) tree in
    let private = member_length false (codes "private") (whole r.private)
    (table ((codes "public", whole r.public) ∷ (codes "tree", string (tree_text r.tree)) ∷ [])) 1 1187936 (omega arith)
    (small_number r.private 1 (omega arith) (omega (arith, h.private)) (omega (arith, h.private))) public in
    omega (arith, private)

rounds_length : (later : Bool) (rs : List Round) → All IsRoundTold rs → AreShort (map (λ (r : Round). r.tree) rs)
    → length (items_text later (items_of (map round_data rs))) ≤ 1 + 1187985 * length rs
rounds_length later [] h s = omega arith
rounds_length later (r ∷ rs) h s =
    let here = round_part r (All-head IsRoundTold r rs h) s.0 in
    let rest = rounds_length true rs (All-tail IsRoundTold r rs h) s.1 in
    let all = item_length later (round_data r) (items_text true (items_of (map round_data rs))) 1187984 (1 + 1187985 * length rs) here rest in
    omega (arith, all)

factor : (a b : ℕ) → 0 < a * b → a * b ≤ 52 → a ≤ 52
factor a zero some few = absurd (omega (arith, mul-zero a, some))
factor a (suc b) some few = omega (arith, mul-suc a b, few)

few_ranks : (d : DeckValue) → IsDeck d → length d.ranks ≤ 52
few_ranks d h = factor (length d.ranks) (length d.suits) h.some h.few

few_suits : (d : DeckValue) → IsDeck d → length d.suits ≤ 52
few_suits d h =
    let same = mul_comm (length d.ranks) (length d.suits) in
    factor (length d.suits) (length d.ranks) (omega (arith, same, h.some)) (omega (arith, same, h.few))

few_categories : (r : Ranking) → categories r ≤ 6
few_categories High = omega arith
few_categories Pair = omega arith
few_categories Three = omega arith

ranking_length : (r : Ranking) → length (ranking_text r) ≤ 5
ranking_length High = omega arith
ranking_length Pair = omega arith
ranking_length Three = omega arith

bonus_length : (r : Ranking) (bonus : List ℕ) → IsBonus r bonus → length (compact_text (array (items_of (map whole bonus)))) ≤ 74
bonus_length r bonus h =
    let digits : HaveDigits 11 bonus = λ i l. (let b = h.in_range i 0 l in
    length-decimal-le 11 (get_or bonus i 0) (omega arith) (omega (arith, b.1)) (omega (arith, b.1))) in
    omega (arith, eleven_digits false bonus digits, few_categories r, h.each)

pub version_length : (v : Version) → length (compact_text (whole (version_number v))) ≤ 1
version_length One = small_number 1 1 (omega arith) (omega arith) (omega arith)
version_length Two = small_number 2 1 (omega arith) (omega arith) (omega arith)

-- what a game file's JSON is made of is short
pub record IsShortGame (g : FileGame) : Type 0 where
  pub deck : IsDeck g.deck
  pub bonus : IsBonus g.ranking g.bonus
  pub ante : g.ante ≤ 4096
  pub rounds : All IsRoundTold g.rounds
  pub few : length g.rounds ≤ 4
  pub short : AreShort (map (λ (r : Round). r.tree) g.rounds)

abbrev behind_bonus : Version → FileGame → List (List ℕ × Data)
behind_bonus v g =
    (codes "copies", string (copies_text g.deck.counts)) ∷
    (codes "ranking", string (ranking_text g.ranking)) ∷
    (codes "ranks", string g.deck.ranks) ∷
    (codes "rounds", array (items_of (map round_data g.rounds))) ∷
    (codes "suits", string g.deck.suits) ∷
    (codes "version", whole (version_number v)) ∷ []

behind_length : (v : Version) (g : FileGame) → IsShortGame g → length (members_text true (table (behind_bonus v g))) ≤ 4753300
behind_length v g h =
    let m1 : Members = member (codes "version") (whole (version_number v)) no_members in
    let m2 : Members = member (codes "suits") (string g.deck.suits) m1 in
    let m3 : Members = member (codes "rounds") (array (items_of (map round_data g.rounds))) m2 in
    let m4 : Members = member (codes "ranks") (string g.deck.ranks) m3 in
    let m5 : Members = member (codes "ranking") (string (ranking_text g.ranking)) m4 in
    let version = member_length true (codes "version") (whole (version_number v)) no_members 1 1 (omega arith) (version_length v) (omega arith) in
    let suits = member_length true (codes "suits") (string g.deck.suits) m1 314 48 (omega arith)
    (omega (arith, quoted_length g.deck.suits, few_suits g.deck h.deck)) version in
    let rounds = member_length true (codes "rounds") (array (items_of (map round_data g.rounds))) m2 4751942 408 (omega arith)
    (omega (arith, rounds_length false g.rounds h.rounds h.short, h.few)) suits in
    let ranks = member_length true (codes "ranks") (string g.deck.ranks) m3 314 4752396 (omega arith)
    (omega (arith, quoted_length g.deck.ranks, few_ranks g.deck h.deck)) rounds in
    let ranking = member_length true (codes "ranking") (string (ranking_text g.ranking)) m4 32 4752756 (omega arith)
    (omega (arith, quoted_length (ranking_text g.ranking), ranking_length g.ranking)) ranks in
    let copies = member_length true (codes "copies") (string (copies_text g.deck.counts)) m5 314 4752834 (omega arith)
    (omega (arith, quoted_length (copies_text g.deck.counts), length-map g.deck.counts (λ (n : ℕ). 48 + n), h.deck.counted, h.deck.few)) ranking in
    omega (arith, copies)

ante_length : (n : ℕ) → n ≤ 4096 → length (compact_text (whole n)) ≤ 4
ante_length n h = small_number n 4 (omega arith) (omega (arith, h)) (omega (arith, h))

pub game_part : (v : Version) (g : FileGame) → IsShortGame g → length (compact_text (game_data v g)) ≤ 4754000
game_part One g h =
    let ante = member_length false (codes "ante") (whole g.ante) (table (behind_bonus One g)) 4 4753300 (omega arith) (ante_length g.ante h.ante)
    (behind_length One g h) in
    omega (arith, ante)
game_part Two g h =
    let bonus = member_length true (codes "bonus") (array (items_of (map whole g.bonus))) (table (behind_bonus Two g)) 74 4753300 (omega arith)
    (bonus_length g.ranking g.bonus h.bonus) (behind_length Two g h) in
    let ante = member_length false (codes "ante") (whole g.ante) (table ((codes "bonus", array (items_of (map whole g.bonus))) ∷ behind_bonus Two g)) 4 4753420
    (omega arith) (ante_length g.ante h.ante) bonus in
    omega (arith, ante)
