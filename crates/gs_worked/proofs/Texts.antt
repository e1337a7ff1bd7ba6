-- The lines of a made file as the lines that the writer of TOML gives, and what the reader makes of them.
use Rattle.std.proofs.Common.{◌≡◌, ℕ, ◌≤◌, ◌<◌, ◌^◌, Bool, true, false, List, [], ◌∷◌, ◌++◌, codes, pos, refl, sym, ap, ◌∙◌, subst, arith, append_assoc}
use Rattle.std.proofs.lemmas.Fmt.{decimal_digit}
use Rattle.std.specs.Fmt.{decimal, signed_decimal}
use Rattle.toml_writer.specs.Text.{key_text, string_text}
use Rattle.toml.specs.{Data.{Data, string, integer}, Tables.{Expression, key_value, array_table}, Text.{IsLinesText, IsValueText}}
use Rattle.gs_words.specs.Made.{head_text, round_block}
use Rattle.gs_worked.proofs.Words.{IsPlain}

-- a line of a key and a value, before others
pair_line : (started : Bool) (k v rest : List ℕ) (d : Data) (es : List Expression) → key_text k ≡ k → IsValueText false d v → IsLinesText false true es rest
    → IsLinesText false started ((([], k), key_value d) ∷ es) (k ++ (codes " = " ++ (v ++ 10 ∷ rest)))
pair_line started k v rest d es bare is more =
    (k ++ (codes " = " ++ (v ++ 10 ∷ [])), rest, simp append_assoc refl, (v, ap (λ key. key ++ (codes " = " ++ (v ++ 10 ∷ []))) (sym bare), is), more)

-- a header of an element of an array of tables, before others
header_line : (k rest : List ℕ) (es : List Expression) → key_text k ≡ k → IsLinesText false true es rest
    → IsLinesText false true ((([], k), array_table) ∷ es) (codes "\n[[" ++ (k ++ (codes "]]\n" ++ rest)))
header_line k rest es bare more =
    (codes "\n[[" ++ (k ++ codes "]]\n"), rest, simp append_assoc refl, ap (λ key. codes "\n[[" ++ (key ++ codes "]]\n")) (sym bare), more)

-- a whole number as a value
number_is : (n : ℕ) → n < 2 ^ 63 → IsValueText false (integer (pos n)) (decimal n)
number_is n small = (refl, omega arith)

-- the lines of a round
abbrev pub round_lines : ℕ → ℕ × ℕ × ℕ → List Expression
round_lines cap r =
    (([], codes "round"), array_table) ∷ (([], codes "private"), key_value (integer (pos r.0))) ∷ (([], codes "public"), key_value (integer (pos r.1)))
    ∷ (([], codes "bet"), key_value (integer (pos r.2))) ∷ (([], codes "cap"), key_value (integer (pos cap))) ∷ []

-- the lines before the rounds
abbrev pub head_lines : (ranks suits ranking : List ℕ) → ℕ → List Expression
head_lines ranks suits ranking ante =
    (([], codes "version"), key_value (integer (pos 1))) ∷ (([], codes "ranks"), key_value (string ranks)) ∷ (([], codes "suits"), key_value (string suits))
    ∷ (([], codes "ranking"), key_value (string ranking)) ∷ (([], codes "ante"), key_value (integer (pos ante))) ∷ []

-- the numbers of a round are in the ranges of a game file
pub record IsInRange (r : ℕ × ℕ × ℕ) : Type 0 where
  pub private : r.0 ≤ 2
  pub public : r.1 ≤ 3
  pub bet : (1 ≤ r.2) × (r.2 ≤ 2048)

-- the text of a round's lines, one after another
abbrev pub cap_text : ℕ → List ℕ → List ℕ
cap_text cap rest = codes "cap" ++ (codes " = " ++ (decimal cap ++ 10 ∷ rest))

abbrev pub bet_text : ℕ → ℕ → List ℕ → List ℕ
bet_text cap bet rest = codes "bet" ++ (codes " = " ++ (decimal bet ++ 10 ∷ cap_text cap rest))

abbrev pub public_text : ℕ → ℕ → ℕ → List ℕ → List ℕ
public_text cap bet public rest = codes "public" ++ (codes " = " ++ (decimal public ++ 10 ∷ bet_text cap bet rest))

abbrev pub private_text : ℕ → ℕ × ℕ × ℕ → List ℕ → List ℕ
private_text cap r rest = codes "private" ++ (codes " = " ++ (decimal r.0 ++ 10 ∷ public_text cap r.2 r.1 rest))

abbrev pair : List ℕ → ℕ → Expression
pair k n = (([], k), key_value (integer (pos n)))

pub round_written : (cap : ℕ) (r : ℕ × ℕ × ℕ) (rest : List ℕ) (es : List Expression) → cap ≤ 8 → IsInRange r → IsLinesText false true es rest
    → IsLinesText false true (round_lines cap r ++ es) (round_block cap r ++ rest)
unfolding round_block key_text
round_written cap r rest es small few more =
    let e_cap = pair (codes "cap") cap ∷ es in
    let e_bet = pair (codes "bet") r.2 ∷ e_cap in
    let e_public = pair (codes "public") r.1 ∷ e_bet in
    let e_private = pair (codes "private") r.0 ∷ e_public in
    let end = pair_line true (codes "cap") (decimal cap) rest (integer (pos cap)) es refl (number_is cap (omega (arith, small))) more in
    let bet = pair_line true (codes "bet") (decimal r.2) (cap_text cap rest) (integer (pos r.2)) e_cap refl (number_is r.2 (omega (arith, few.bet))) end in
    let public = pair_line true (codes "public") (decimal r.1) (bet_text cap r.2 rest) (integer (pos r.1)) e_bet refl
    (number_is r.1 (omega (arith, few.public))) bet in
    let private = pair_line true (codes "private") (decimal r.0) (public_text cap r.2 r.1 rest) (integer (pos r.0)) e_public refl
    (number_is r.0 (omega (arith, few.private))) public in
    let all = header_line (codes "round") (private_text cap r rest) e_private refl private in
    simp append_assoc all

abbrev word : List ℕ → List ℕ → Expression
word k text = (([], k), key_value (string text))

-- the text of the lines before the rounds
abbrev ante_line : ℕ → List ℕ → List ℕ
ante_line ante rest = codes "ante" ++ (codes " = " ++ (decimal ante ++ 10 ∷ rest))

abbrev word_line : List ℕ → List ℕ → List ℕ → List ℕ
word_line k text rest = k ++ (codes " = " ++ (string_text text ++ 10 ∷ rest))

one_is : codes "1" ≡ signed_decimal (pos 1)
one_is = sym (decimal_digit 1 (omega arith))

-- a word between quotes
abbrev quoted_line : List ℕ → List ℕ → List ℕ → List ℕ
quoted_line k text rest = k ++ (codes " = \"" ++ (text ++ (codes "\"\n" ++ rest)))

word_is : (k text rest : List ℕ) → IsPlain text → word_line k text rest ≡ quoted_line k text rest
word_is k text rest p =
    ap (λ t. k ++ (codes " = " ++ t)) (ap (λ t. t ++ 10 ∷ rest) p.written ∙ ap (λ t. 34 ∷ t) (append_assoc text (34 ∷ []) (10 ∷ rest)))

head_is : (ranks suits ranking : List ℕ) (ante : ℕ) (rest : List ℕ) → IsPlain ranks → IsPlain suits → IsPlain ranking
    → (codes "version = 1\n" ++ word_line (codes "ranks") ranks (word_line (codes "suits") suits (word_line (codes "ranking") ranking (ante_line ante rest))))
    ≡ head_text ranks suits ranking ante ++ rest
unfolding head_text
head_is ranks suits ranking ante rest pr ps pk =
    let t_ranking = word_is (codes "ranking") ranking (ante_line ante rest) pk in
    let t_suits = word_is (codes "suits") suits (word_line (codes "ranking") ranking (ante_line ante rest)) ps
    ∙ ap (quoted_line (codes "suits") suits) t_ranking in
    let t_ranks = word_is (codes "ranks") ranks (word_line (codes "suits") suits (word_line (codes "ranking") ranking (ante_line ante rest))) pr
    ∙ ap (quoted_line (codes "ranks") ranks) t_suits in
    ap (λ t. codes "version = 1\n" ++ t) t_ranks ∙ simp append_assoc refl

pub head_written : (ranks suits ranking : List ℕ) (ante : ℕ) (rest : List ℕ) (es : List Expression) → IsPlain ranks → IsPlain suits → IsPlain ranking
    → ante < 2 ^ 63 → IsLinesText false true es rest
    → IsLinesText false false (head_lines ranks suits ranking ante ++ es) (head_text ranks suits ranking ante ++ rest)
unfolding head_text key_text
head_written ranks suits ranking ante rest es pr ps pk small more =
    let e_ante = pair (codes "ante") ante ∷ es in
    let e_ranking = word (codes "ranking") ranking ∷ e_ante in
    let e_suits = word (codes "suits") suits ∷ e_ranking in
    let e_ranks = word (codes "ranks") ranks ∷ e_suits in
    let t_ante = ante_line ante rest in
    let t_ranking = word_line (codes "ranking") ranking t_ante in
    let t_suits = word_line (codes "suits") suits t_ranking in
    let t_ranks = word_line (codes "ranks") ranks t_suits in
    let l_ante = pair_line true (codes "ante") (decimal ante) rest (integer (pos ante)) es refl (number_is ante small) more in
    let l_ranking = pair_line true (codes "ranking") (string_text ranking) t_ante (string ranking) e_ante refl refl l_ante in
    let l_suits = pair_line true (codes "suits") (string_text suits) t_ranking (string suits) e_ranking refl refl l_ranking in
    let l_ranks = pair_line true (codes "ranks") (string_text ranks) t_suits (string ranks) e_suits refl refl l_suits in
    let all = pair_line false (codes "version") (codes "1") t_ranks (integer (pos 1)) e_ranks refl (one_is, omega arith) l_ranks in
    subst (IsLinesText false false (head_lines ranks suits ranking ante ++ es)) (head_is ranks suits ranking ante rest pr ps pk) all
