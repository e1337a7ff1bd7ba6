-- The letters of ranks and suits, and the words that stand in a made file.
use Rattle.std.proofs.{Common.{◌≡◌, ℕ, zero, suc, ◌*◌, ◌≤◌, true, false, List, [], ◌∷◌, ◌++◌, length, take, codes, refl, arith}, lemmas.Bool.{le-ltb, ne_eqb}}
use Rattle.std.proofs.Math.Nat.{mul-le-mul_left, mul-le-mul_right}
use Rattle.std.specs.{Prelude.{None}, Char.{is_ascii_alphanumeric}, List.{list_all}, Str.{IsAscii}}
use Rattle.toml_writer.specs.Text.{string_text, encoding_of, escaped, needs_escape, quotes_after}
use Rattle.gs_model.proofs.Few.{from_one_to_four}
use Rattle.gs_card.specs.{DeckFaults.{fault_of}, Decks.{repeats}}
use Rattle.gs_words.proofs.Ascii.{ascii}
use Rattle.gs_words.specs.{Made.{last, ranking_word}, declared.kind.Kind.{Kind}, declared.kind.Kind.TheVariants.{Kuhn, Leduc, Rhode}}

-- a word that is written between quotes as it is
pub record IsPlain (word : List ℕ) : Type 0 where
  pub written : string_text word ≡ 34 ∷ (word ++ 34 ∷ [])
  pub is_ascii : IsAscii word

-- letters of a deck: so many, all different
pub record AreLetters (n : ℕ) (word : List ℕ) : Type 0 where
  pub plain : IsPlain word
  pub long : length word ≡ n
  pub letters : list_all is_ascii_alphanumeric word ≡ true
  pub differ : repeats word ≡ false

abbrev pub ranks_text : ℕ → List ℕ
ranks_text n = last n (codes "23456789TJQKA")

abbrev pub suits_text : ℕ → List ℕ
suits_text n = take n (codes "shdc")

pub ranks_are : (n : ℕ) → 1 ≤ n → n ≤ 13 → AreLetters n (ranks_text n)
unfolding string_text encoding_of escaped needs_escape quotes_after
ranks_are zero low high = absurd (omega arith)
ranks_are (suc zero) low high = record { plain = record { written = refl; is_ascii = ascii (ranks_text 1) refl }; long = refl; letters = refl; differ = refl }
ranks_are (suc (suc zero)) low high = record {
  plain = record { written = refl; is_ascii = ascii (ranks_text 2) refl };
  long = refl;
  letters = refl;
  differ = refl;
}
ranks_are (suc (suc (suc zero))) low high = record {
  plain = record { written = refl; is_ascii = ascii (ranks_text 3) refl };
  long = refl;
  letters = refl;
  differ = refl;
}
ranks_are (suc (suc (suc (suc zero)))) low high = record {
  plain = record { written = refl; is_ascii = ascii (ranks_text 4) refl };
  long = refl;
  letters = refl;
  differ = refl;
}
ranks_are (suc (suc (suc (suc (suc zero))))) low high = record {
  plain = record { written = refl; is_ascii = ascii (ranks_text 5) refl };
  long = refl;
  letters = refl;
  differ = refl;
}
ranks_are (suc (suc (suc (suc (suc (suc zero)))))) low high = record {
  plain = record { written = refl; is_ascii = ascii (ranks_text 6) refl };
  long = refl;
  letters = refl;
  differ = refl;
}
ranks_are (suc (suc (suc (suc (suc (suc (suc zero))))))) low high = record {
  plain = record { written = refl; is_ascii = ascii (ranks_text 7) refl };
  long = refl;
  letters = refl;
  differ = refl;
}
ranks_are (suc (suc (suc (suc (suc (suc (suc (suc zero)))))))) low high =
    record { plain = record { written = refl; is_ascii = ascii (ranks_text 8) refl }; long = refl; letters = refl; differ = refl }
ranks_are (suc (suc (suc (suc (suc (suc (suc (suc (suc zero))))))))) low high =
    record { plain = record { written = refl; is_ascii = ascii (ranks_text 9) refl }; long = refl; letters = refl; differ = refl }
ranks_are (suc (suc (suc (suc (suc (suc (suc (suc (suc (suc zero)))))))))) low high =
    record { plain = record { written = refl; is_ascii = ascii (ranks_text 10) refl }; long = refl; letters = refl; differ = refl }
ranks_are (suc (suc (suc (suc (suc (suc (suc (suc (suc (suc (suc zero))))))))))) low high =
    record { plain = record { written = refl; is_ascii = ascii (ranks_text 11) refl }; long = refl; letters = refl; differ = refl }
ranks_are (suc (suc (suc (suc (suc (suc (suc (suc (suc (suc (suc (suc zero)))))))))))) low high =
    record { plain = record { written = refl; is_ascii = ascii (ranks_text 12) refl }; long = refl; letters = refl; differ = refl }
ranks_are (suc (suc (suc (suc (suc (suc (suc (suc (suc (suc (suc (suc (suc zero))))))))))))) low high =
    record { plain = record { written = refl; is_ascii = ascii (ranks_text 13) refl }; long = refl; letters = refl; differ = refl }
ranks_are (suc (suc (suc (suc (suc (suc (suc (suc (suc (suc (suc (suc (suc (suc n)))))))))))))) low high = absurd (omega arith)

pub suits_are : (n : ℕ) → 1 ≤ n → n ≤ 4 → AreLetters n (suits_text n)
unfolding string_text encoding_of escaped needs_escape quotes_after
suits_are n low high = from_one_to_four (λ k. AreLetters k (suits_text k))
    (record { plain = record { written = refl; is_ascii = ascii (suits_text 1) refl }; long = refl; letters = refl; differ = refl })
    (record { plain = record { written = refl; is_ascii = ascii (suits_text 2) refl }; long = refl; letters = refl; differ = refl })
    (record { plain = record { written = refl; is_ascii = ascii (suits_text 3) refl }; long = refl; letters = refl; differ = refl })
    (record { plain = record { written = refl; is_ascii = ascii (suits_text 4) refl }; long = refl; letters = refl; differ = refl })
    n low high

-- the word of each ranking
pub ranking_plain : (kind : Kind) → IsPlain (ranking_word kind)
unfolding string_text encoding_of escaped needs_escape quotes_after
ranking_plain Kuhn = record { written = refl; is_ascii = ascii (codes "high") refl }
ranking_plain Leduc = record { written = refl; is_ascii = ascii (codes "pair") refl }
ranking_plain Rhode = record { written = refl; is_ascii = ascii (codes "three") refl }

-- so many ranks and suits are at most 52 kinds
few_kinds : (n m : ℕ) → n ≤ 13 → m ≤ 4 → n * m ≤ 52
few_kinds n m hn hm = let a = mul-le-mul_right m hn in let b = mul-le-mul_left 13 hm in omega (arith, a, b)

-- the letters make a deck
pub no_fault : (n m : ℕ) (ranks suits : List ℕ) → AreLetters n ranks → AreLetters m suits → 1 ≤ n → n ≤ 13 → 1 ≤ m → m ≤ 4 → fault_of ranks suits [] ≡ None
no_fault n m ranks suits a b ln hn lm hm =
    let small : length ranks * length suits ≤ 52 = rw (a.long, b.long) (few_kinds n m hn hm) in
    let some = a.long in
    let more = b.long in
    rw (
      ne_eqb (length ranks) 0 (λ e. omega (arith, e, some)),
      ne_eqb (length suits) 0 (λ e. omega (arith, e, more)),
      a.letters,
      b.letters,
      a.differ,
      b.differ,
      le-ltb 52 (length ranks * length suits) small,
    ) refl
