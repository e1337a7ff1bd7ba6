-- Made files are read back: their lines make a table, and the table states the game.
use Rattle.std.proofs.Common.{◌≡◌, ℕ, suc, ◌≤◌, true, false, List, [], ◌∷◌, ◌++◌, length, codes, Some, None, pos, refl, ap, ◌∙◌, subst, inl, inr, arith}
use Rattle.std.proofs.Common.{append_assoc, option_map, map, Option}
use Rattle.std.proofs.{lemmas.Fmt.{IsAscii-decimal}, lemmas.Str.{IsAscii-append, IsUtf8-from_ascii, is_utf8-from_IsUtf8}, lemmas.Option.{same_Some}}
use Rattle.std.specs.{Prelude.{flat_map}, Fmt.{decimal}, Str.{IsAscii}}
use Rattle.toml.specs.{Data.{Data, string, integer, array, table, Items, no_items, item, Members, no_members, member}, Parse.{lines, parse_document, skip_bom}}
use Rattle.toml.specs.{Tables.{Document, Expression, no_nodes, define, at_key, along_dots, along_header, close}, Text.{IsLinesText}}
use Rattle.toml.proofs.{ReadLines.{AllPrinted, read_lines, run}, Turns.{document_some}}
use Rattle.gs_file.specs.{Reading.{file_rules}, JsonForm.{ranking_text}, States.{IsRound, OneByOne, StatesGame}, Tables.{array_items}}
use Rattle.gs_file.proofs.States.{states_is}
use Rattle.gs_game.specs.Rules.{KeepsRules}
use Rattle.gs_words.proofs.Ascii.{ascii}
use Rattle.gs_words.specs.{Made.{ante_of, head_text, ranking_word, round_block, rounds_of}, declared.kind.Kind.{Kind}}
use Rattle.gs_words.specs.declared.kind.Kind.TheVariants.{Kuhn, Leduc, Rhode}
use Rattle.gs_worked.specs.MadeGames.{MadeFilesAreReadBack, game_for, ranking_for, round_for}
use Rattle.gs_worked.proofs.Texts.{IsInRange, head_lines, head_written, round_lines, round_written}
use Rattle.gs_worked.proofs.Words.{IsPlain, ranking_plain, ranks_are, ranks_text, suits_are, suits_text, no_fault}

-- all rounds are in the ranges of a game file
abbrev AllInRange : List (ℕ × ℕ × ℕ) → Type 0
AllInRange [] = Unit {0}
AllInRange (r ∷ rs) = IsInRange r × AllInRange rs

in_range : (kind : Kind) → AllInRange (rounds_of kind)
in_range Kuhn = (record { private = omega arith; public = omega arith; bet = (omega arith, omega arith) }, tt)
in_range Leduc = (
  record { private = omega arith; public = omega arith; bet = (omega arith, omega arith) },
  (record { private = omega arith; public = omega arith; bet = (omega arith, omega arith) }, tt),
)
in_range Rhode = (
  record { private = omega arith; public = omega arith; bet = (omega arith, omega arith) },
  (
    record { private = omega arith; public = omega arith; bet = (omega arith, omega arith) },
    (record { private = omega arith; public = omega arith; bet = (omega arith, omega arith) }, tt),
  ),
)

ante_in : (kind : Kind) → (1 ≤ ante_of kind) × (ante_of kind ≤ 4096)
ante_in Kuhn = (omega arith, omega arith)
ante_in Leduc = (omega arith, omega arith)
ante_in Rhode = (omega arith, omega arith)

ranking_is : (kind : Kind) → ranking_word kind ≡ ranking_text (ranking_for kind)
ranking_is Kuhn = refl
ranking_is Leduc = refl
ranking_is Rhode = refl

-- the lines of all rounds
rounds_written : (cap : ℕ) (rs : List (ℕ × ℕ × ℕ)) → cap ≤ 8 → AllInRange rs
    → IsLinesText false true (flat_map (round_lines cap) rs) (flat_map (round_block cap) rs)
rounds_written cap [] small few = refl
rounds_written cap (r ∷ rs) small few = round_written cap r (flat_map (round_block cap) rs) (flat_map (round_lines cap) rs) small few.0
    (rounds_written cap rs small few.1)

-- the lines of a made file
abbrev file_lines : Kind → (ranks suits : List ℕ) → ℕ → List Expression
file_lines kind ranks suits cap = head_lines ranks suits (ranking_word kind) (ante_of kind) ++ flat_map (round_lines cap) (rounds_of kind)

-- the table of a round, and of the file
abbrev round_table : ℕ → ℕ × ℕ × ℕ → Data
round_table cap r = table (member (codes "bet") (integer (pos r.2)) (member (codes "cap") (integer (pos cap))
    (member (codes "private") (integer (pos r.0)) (member (codes "public") (integer (pos r.1)) no_members))))

abbrev items_of : ℕ → List (ℕ × ℕ × ℕ) → Items
items_of cap [] = no_items
items_of cap (r ∷ rs) = item (round_table cap r) (items_of cap rs)

abbrev file_table : Kind → (ranks suits : List ℕ) → ℕ → Members
file_table kind ranks suits cap =
    member (codes "ante") (integer (pos (ante_of kind))) (member (codes "ranking") (string (ranking_word kind)) (member (codes "ranks") (string ranks)
    (member (codes "round") (array (items_of cap (rounds_of kind))) (member (codes "suits") (string suits)
    (member (codes "version") (integer (pos 1)) no_members)))))

-- the lines define the table
defined : (kind : Kind) (ranks suits : List ℕ) (cap : ℕ) → option_map (λ (doc : Document). close doc.0) (run (no_nodes, []) (file_lines kind ranks suits cap))
    ≡ Some (file_table kind ranks suits cap)
unfolding define at_key along_dots along_header
defined Kuhn ranks suits cap = refl
defined Leduc ranks suits cap = refl
defined Rhode ranks suits cap = refl

-- the lines are of the kind that the reader reads back
rounds_printed : (cap : ℕ) (rs : List (ℕ × ℕ × ℕ)) → AllPrinted (flat_map (round_lines cap) rs)
rounds_printed cap [] = tt
rounds_printed cap (r ∷ rs) =
    (omega arith, ((refl, omega arith, refl), ((refl, omega arith, refl), ((refl, omega arith, refl), ((refl, omega arith, refl), rounds_printed cap rs)))))

lines_printed : (kind : Kind) (ranks suits : List ℕ) (cap : ℕ) → AllPrinted (file_lines kind ranks suits cap)
lines_printed kind ranks suits cap = (
  (refl, omega arith, refl),
  (
    (refl, omega arith, refl),
    (
      (refl, omega arith, refl),
      ((refl, omega arith, refl), ((refl, omega arith, refl), rounds_printed cap (rounds_of kind))),
    ),
  ),
)

abbrev file_text : Kind → (ranks suits : List ℕ) → ℕ → List ℕ
file_text kind ranks suits cap = head_text ranks suits (ranking_word kind) (ante_of kind) ++ flat_map (round_block cap) (rounds_of kind)

no_mark : (kind : Kind) (ranks suits : List ℕ) (cap : ℕ) → skip_bom (file_text kind ranks suits cap) ≡ file_text kind ranks suits cap
unfolding skip_bom head_text
no_mark kind ranks suits cap = refl

document_of : (o : Option Document) (t : Members) → option_map (λ (doc : Document). close doc.0) o ≡ Some t
    → (doc : Document) × (o ≡ Some doc) × (close doc.0 ≡ t)
document_of None t e = cc
document_of (Some doc) t e = (doc, refl, same_Some (close doc.0) t e)

parsed : (kind : Kind) (ranks suits : List ℕ) (cap : ℕ) → IsPlain ranks → IsPlain suits → cap ≤ 8
    → parse_document (file_text kind ranks suits cap) ≡ Some (file_table kind ranks suits cap)
parsed kind ranks suits cap pr ps small =
    let es = file_lines kind ranks suits cap in
    let bytes = file_text kind ranks suits cap in
    let ante = ante_in kind in
    let rounds = rounds_written cap (rounds_of kind) small (in_range kind) in
    let written = head_written ranks suits (ranking_word kind) (ante_of kind) (flat_map (round_block cap) (rounds_of kind))
    (flat_map (round_lines cap) (rounds_of kind)) pr ps (ranking_plain kind) (omega (arith, ante)) rounds in
    let read = read_lines false false es bytes bytes (no_nodes, []) (suc (length bytes)) written (lines_printed kind ranks suits cap) refl (omega arith) in
    let (doc, ran, same) = document_of (run (no_nodes, []) es) (file_table kind ranks suits cap) (defined kind ranks suits cap) in
    let whole = ap (λ t. lines (suc (length bytes)) (no_nodes, []) t) (no_mark kind ranks suits cap) ∙ read ∙ ran in
    document_some bytes doc whole ∙ ap Some same

-- the bytes are ASCII
joined : (xs ys zs : List ℕ) → IsAscii xs → IsAscii ys → IsAscii zs → IsAscii (xs ++ (ys ++ zs))
joined xs ys zs a b c = IsAscii-append xs (ys ++ zs) a (IsAscii-append ys zs b c)

round_ascii : (cap : ℕ) (r : ℕ × ℕ × ℕ) → cap ≤ 8 → IsInRange r → IsAscii (round_block cap r)
unfolding round_block
round_ascii cap r small few =
    let t_cap = decimal cap ++ codes "\n" in
    let t_bet = decimal r.2 ++ (codes "\ncap = " ++ t_cap) in
    let t_public = decimal r.1 ++ (codes "\nbet = " ++ t_bet) in
    let t_private = decimal r.0 ++ (codes "\npublic = " ++ t_public) in
    let a_cap : IsAscii t_cap = IsAscii-append (decimal cap) (codes "\n") (IsAscii-decimal cap (omega (arith, small))) (ascii (codes "\n") refl) in
    let a_bet : IsAscii t_bet = joined (decimal r.2) (codes "\ncap = ") t_cap (IsAscii-decimal r.2 (omega (arith, few.bet)))
    (ascii (codes "\ncap = ") refl) a_cap in
    let a_public : IsAscii t_public = joined (decimal r.1) (codes "\nbet = ") t_bet (IsAscii-decimal r.1 (omega (arith, few.public)))
    (ascii (codes "\nbet = ") refl) a_bet in
    let a_private : IsAscii t_private = joined (decimal r.0) (codes "\npublic = ") t_public (IsAscii-decimal r.0 (omega (arith, few.private)))
    (ascii (codes "\npublic = ") refl) a_public in
    let same : codes "\n[[round]]\nprivate = " ++ t_private ≡ round_block cap r = simp append_assoc refl in
    subst IsAscii same (IsAscii-append (codes "\n[[round]]\nprivate = ") t_private (ascii (codes "\n[[round]]\nprivate = ") refl) a_private)

rounds_ascii : (cap : ℕ) (rs : List (ℕ × ℕ × ℕ)) → cap ≤ 8 → AllInRange rs → IsAscii (flat_map (round_block cap) rs)
rounds_ascii cap [] small few = ascii [] refl
rounds_ascii cap (r ∷ rs) small few = IsAscii-append (round_block cap r) (flat_map (round_block cap) rs) (round_ascii cap r small few.0)
    (rounds_ascii cap rs small few.1)

head_ascii : (ranks suits ranking : List ℕ) (ante : ℕ) → IsPlain ranks → IsPlain suits → IsPlain ranking → ante ≤ 4096
    → IsAscii (head_text ranks suits ranking ante)
unfolding head_text
head_ascii ranks suits ranking ante pr ps pk small =
    let t_ante = decimal ante ++ codes "\n" in
    let t_ranking = ranking ++ (codes "\"\nante = " ++ t_ante) in
    let t_suits = suits ++ (codes "\"\nranking = \"" ++ t_ranking) in
    let t_ranks = ranks ++ (codes "\"\nsuits = \"" ++ t_suits) in
    let a_ante : IsAscii t_ante = IsAscii-append (decimal ante) (codes "\n") (IsAscii-decimal ante (omega (arith, small))) (ascii (codes "\n") refl) in
    let a_ranking : IsAscii t_ranking = joined ranking (codes "\"\nante = ") t_ante pk.is_ascii (ascii (codes "\"\nante = ") refl) a_ante in
    let a_suits : IsAscii t_suits = joined suits (codes "\"\nranking = \"") t_ranking ps.is_ascii (ascii (codes "\"\nranking = \"") refl) a_ranking in
    let a_ranks : IsAscii t_ranks = joined ranks (codes "\"\nsuits = \"") t_suits pr.is_ascii (ascii (codes "\"\nsuits = \"") refl) a_suits in
    let same : codes "version = 1\nranks = \"" ++ t_ranks ≡ head_text ranks suits ranking ante = simp append_assoc refl in
    subst IsAscii same (IsAscii-append (codes "version = 1\nranks = \"") t_ranks (ascii (codes "version = 1\nranks = \"") refl) a_ranks)

-- the table states the game
rounds_state : (cap : ℕ) (rs : List (ℕ × ℕ × ℕ)) → cap ≤ 8 → AllInRange rs → OneByOne IsRound (map (round_for cap) rs) (array_items (items_of cap rs))
rounds_state cap [] small few = tt
rounds_state cap (r ∷ rs) small few =
    let here = few.0 in (
      (
        member (codes "bet") (integer (pos r.2)) (member (codes "cap") (integer (pos cap))
            (member (codes "private") (integer (pos r.0)) (member (codes "public") (integer (pos r.1)) no_members))),
        refl,
        record {
          private = (integer (pos r.0), refl, (refl, omega arith, here.private));
          public = (integer (pos r.1), refl, (refl, omega arith, here.public));
          betting = inr (
            r.2,
            cap,
            refl,
            (integer (pos r.2), refl, (refl, here.bet.0, here.bet.1)),
            (integer (pos cap), refl, (refl, omega arith, small)),
            refl,
          );
        },
      ),
      rounds_state cap rs small few.1,
    )

states : (kind : Kind) (n m cap : ℕ) → 1 ≤ n → n ≤ 13 → 1 ≤ m → m ≤ 4 → cap ≤ 8 → KeepsRules (file_rules (game_for kind n m cap))
    → StatesGame (game_for kind n m cap) (file_table kind (ranks_text n) (suits_text m) cap)
states kind n m cap ln hn lm hm small keeps =
    let ranks = ranks_are n ln hn in
    let suits = suits_are m lm hm in
    let ante = ante_in kind in
    record {
      deck = record {
        ranks = (string (ranks_text n), refl, refl);
        suits = (string (suits_text m), refl, refl);
        copies = [];
        copies_are = inl (refl, refl);
        good = no_fault n m (ranks_text n) (suits_text m) ranks suits ln hn lm hm;
        made = refl;
      };
      ranking = (string (ranking_word kind), refl, ap Some (ranking_is kind));
      bonus = inl (refl, (integer (pos 1), refl, (refl, omega arith, omega arith)), refl);
      ante = (integer (pos (ante_of kind)), refl, (refl, ante.0, ante.1));
      rounds = (array (items_of cap (rounds_of kind)), refl, (items_of cap (rounds_of kind), refl, rounds_state cap (rounds_of kind) small (in_range kind)));
      lawful = keeps;
    }

pub read_back : MadeFilesAreReadBack
read_back kind n m cap ln hn lm hm small keeps =
    let ranks = ranks_are n ln hn in
    let suits = suits_are m lm hm in
    let text = file_text kind (ranks_text n) (suits_text m) cap in
    let ante = ante_in kind in
    let is_ascii = IsAscii-append (head_text (ranks_text n) (suits_text m) (ranking_word kind) (ante_of kind)) (flat_map (round_block cap) (rounds_of kind))
    (head_ascii (ranks_text n) (suits_text m) (ranking_word kind) (ante_of kind) ranks.plain suits.plain (ranking_plain kind) ante.1)
    (rounds_ascii cap (rounds_of kind) small (in_range kind)) in
    let utf8 = is_utf8-from_IsUtf8 text (IsUtf8-from_ascii text is_ascii) in
    states_is text (game_for kind n m cap) (
      utf8,
      (
        file_table kind (ranks_text n) (suits_text m) cap,
        parsed kind (ranks_text n) (suits_text m) cap ranks.plain suits.plain small,
        states kind n m cap ln hn lm hm small keeps,
      ),
    )
