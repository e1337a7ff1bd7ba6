-- The game files of well-known games.
use Rattle.std.specs.{Prelude.{ℕ, ◌-◌, List, [], ◌∷◌, ◌++◌, length, take, drop, flat_map, codes}, Fmt.{decimal}}
use Rattle.gs_words.specs.{declared.kind.Kind.{Kind}, declared.kind.Kind.TheVariants.{Kuhn, Leduc, Rhode}, declared.kind.Round.{Round}}

-- the last n characters of a text
abbrev pub last : ℕ → List ℕ → List ℕ
last n text = drop (length text - n) text

-- the word for the ranking of a kind of game: `high` for `Kuhn`, `pair` for `Leduc`, `three` for `Rhode`
abbrev pub ranking_word : Kind → List ℕ
ranking_word Kuhn = codes "high"
ranking_word Leduc = codes "pair"
ranking_word Rhode = codes "three"

-- the ante of a kind of game: 1 chip for `Kuhn` and `Leduc`, 5 for `Rhode`
abbrev pub ante_of : Kind → ℕ
ante_of Kuhn = 1
ante_of Leduc = 1
ante_of Rhode = 5

-- each round's private cards, public cards and bet
abbrev pub rounds_of : Kind → List (ℕ × ℕ × ℕ)
rounds_of Kuhn = (1, 0, 1) ∷ []
rounds_of Leduc = (1, 0, 2) ∷ (0, 1, 4) ∷ []
rounds_of Rhode = (1, 0, 10) ∷ (0, 1, 20) ∷ (0, 1, 20) ∷ []

-- a round of the program, as these three numbers
abbrev pub three_numbers : Round → ℕ × ℕ × ℕ
three_numbers r = (r.private, r.public, r.bet)

-- the lines of a round, after an empty line
unfoldable pub round_block : ℕ → ℕ × ℕ × ℕ → List ℕ
round_block cap r = codes "\n[[round]]\nprivate = " ++ decimal r.0 ++ codes "\npublic = " ++ decimal r.1 ++ codes "\nbet = " ++ decimal r.2 ++ codes "\ncap = "
    ++ decimal cap ++ codes "\n"

-- the lines before the rounds, with the ranks, the suits, the ranking and the ante
unfoldable pub head_text : (ranks suits ranking : List ℕ) → ℕ → List ℕ
head_text ranks suits ranking ante =
    codes "version = 1\nranks = \"" ++ ranks ++ codes "\"\nsuits = \"" ++ suits ++ codes "\"\nranking = \"" ++ ranking ++ codes "\"\nante = " ++ decimal ante
    ++ codes "\n"

-- the whole game file, with the `ranks` highest ranks and the first `suits` suits
abbrev pub made_game : Kind → ℕ → ℕ → ℕ → List ℕ
made_game kind ranks suits cap =
    head_text (last ranks (codes "23456789TJQKA")) (take suits (codes "shdc")) (ranking_word kind) (ante_of kind)
    ++ flat_map (round_block cap) (rounds_of kind)
