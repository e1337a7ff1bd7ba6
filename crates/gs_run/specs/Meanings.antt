-- What each command prints for the bytes that it reads, in terms of games and strategies. No order of checks is fixed here.
use Rattle.std.specs.Prelude.{◌≡◌, ℕ, ◌<◌, ◌≤◌, ◌++◌, List, Bool, pos, false, true}
use Rattle.gs_certificate.specs.{Texts.{certificate_text}, Views.{certificate_view}, declared.certificate.Certificate.{Certificate}}
use Rattle.gs_strategy_commands.specs.{Certificates.{IsCertified}, Verifying.{IsVerified}, Queries.{IsQueried}}
use Rattle.gs_raw_commands.specs.Judging.{AreHandValues, hands_text}
use Rattle.gs_file.specs.{Reading.{FileGame, file_rules}, States.{FileStates}, declared.version.Version.{Version}, declared.version.Version.TheVariants.{Two}}
use Rattle.gs_game_commands.specs.{Checking.{IsChecked, IsGrouping}, Shrinking.{IsShrunk}, Paths.{IsPathShown}, Solving.{IsSolved}}
use Rattle.gs_strategy.specs.{RawPlans.{AreRawPlans}, Confirmed.{IsConfirmed, over, raw_plan}, Values.{AreFractions}, Laws.{IsStrategy}, Texts.{strategy_text}}
use Rattle.gs_run.specs.Making.{made_file}
use Rattle.gs_words.specs.Tasks.{Task, make, of_game, of_raw, of_strategy, Certify, Evaluate, Query, Upgrade, Verify}
use Rattle.gs_words.specs.{declared.request.Grouping.{Grouping}, declared.request.Make.{Make}}
use Rattle.gs_words.specs.declared.request.OfGame.TheVariants as game
use Rattle.gs_words.specs.declared.request.OfRaw.TheVariants as raw
use Rattle.gs_model.specs.{Classes.{ClassLists}, Frame.{signal_count}, Lossless.{IsLossless}, Payoff.{hand_weight}, Play.{IsFictitiousPlay}}
use Rattle.gs_model.specs.Verdict.{IsVerdict}
use Rattle.gs_raw.specs.Cells.{raw_cell_count}
use Rattle.gs_seq.specs.{Slots.{plan_of}, Stops.{IsSmall}}
use Rattle.gs_strategy.specs.Values.{FractionParts, Numbers, Strategy, file_frame}
use Rattle.gs_reply.specs.VerdictText.{verdict_text}

-- ---- game files

-- the bytes are a game file, and `says` holds of its game and the text
pub record OfGameFile (says : FileGame → List ℕ → Type 0) (bytes text : List ℕ) : Type 0 where
  pub game : FileGame
  pub states : FileStates bytes game
  pub said : says game text

-- The text is the strategy file, in version 2, of a strategy of the game over the classes of the grouping. Both plans stand for raw plans of their
-- players. The classes are lossless, and the three numbers are the value of the plans and what each player could still gain by any raw plan. And `says`
-- holds of the strategy.
pub record IsStrategyFile (grouping : Grouping) (says : Strategy → Type 0) (g : FileGame) (text : List ℕ) : Type 0 where
  pub strategy : Strategy
  pub game : strategy.game ≡ g
  pub grouped : IsGrouping grouping (file_rules g) strategy.classes
  pub is : IsStrategy Two strategy
  pub raw : AreRawPlans strategy strategy
  pub confirmed : IsConfirmed strategy
  pub said : says strategy
  pub text_is : text ≡ strategy_text Two strategy

-- the plans are those after this many turns of fictitious play
abbrev pub IsPlayedOut : ℕ → Strategy → Type 0
IsPlayedOut turns s = IsFictitiousPlay (file_frame s.game) s.classes turns (plan_of (file_frame s.game) s.classes s.one.total s.one.weights)
    (plan_of (file_frame s.game) s.classes s.two.total s.two.weights)

-- the classes of the grouping are lossless, the game over them keeps the limits, and `says` holds of the game, the classes and the text
pub record OverLossless (grouping : Grouping) (says : FileGame → ClassLists → List ℕ → Type 0) (g : FileGame) (text : List ℕ) : Type 0 where
  pub classes : ClassLists
  pub grouped : IsGrouping grouping (file_rules g) classes
  pub lossless : IsLossless (file_frame g) classes
  pub small : IsSmall (file_frame g) classes
  pub said : says g classes text

-- ---- strategy files

-- The bytes are the strategy file, in version 1 or 2, of a strategy. Both plans stand for raw plans of their players. And `says` holds of the strategy
-- and the text.
pub record OfStrategyFile (says : Strategy → List ℕ → Type 0) (bytes text : List ℕ) : Type 0 where
  pub version : Version
  pub strategy : Strategy
  pub is : IsStrategy version strategy
  pub written : bytes ≡ strategy_text version strategy
  pub raw : AreRawPlans strategy strategy
  pub said : says strategy text

-- The numbers are the value and both gaps of player 1's plan of one strategy against player 2's of another, as reduced fractions. Each plan is over the
-- classes of its own strategy. No raw plan of a player gains more than the gap, and some raw plan gains it. The game has at most 16,777,216 raw cells.
pub record AreOnRawCards (one two : Strategy) (n : Numbers) : Type 0 where
  pub few : raw_cell_count (file_frame one.game) ≤ 16777216
  pub fractions : AreFractions n
  pub verdict : IsVerdict (file_frame one.game) (raw_plan one one.one) (raw_plan two two.two) (over n.value) (over n.gap1) (over n.gap2)

-- the text is the three lines of value and gaps of the strategy's own two plans
abbrev pub IsJudgedText : Strategy → List ℕ → Type 0
IsJudgedText s text = (n : Numbers) × AreOnRawCards s s n × (text ≡ verdict_text n)

-- The text gives the value and gaps of player 1's plan of the first strategy against player 2's of the second. Then it has a line for each raw signal of
-- round 1 with its value to player 1. Each of these signals is dealt.
abbrev pub IsDuelled : Strategy → Strategy → List ℕ → Type 0
IsDuelled one two text = (n : Numbers) × AreOnRawCards one two n
    × ((signal : ℕ) → signal < signal_count (file_frame one.game) 1 → 0 < hand_weight (file_frame one.game) signal)
    × ((hands : List FractionParts) × AreHandValues one two hands × (text ≡ verdict_text n ++ hands_text one.game.deck (file_rules one.game) hands))

-- The bytes are two strategy files of one game, one after the other, each in version 1 or 2. Player 1's plan of the first and player 2's plan of the
-- second stand for raw plans. And `says` holds of the two strategies and the text.
pub record OfTwoFiles (says : Strategy → Strategy → List ℕ → Type 0) (bytes text : List ℕ) : Type 0 where
  pub first_version : Version
  pub second_version : Version
  pub one : Strategy
  pub two : Strategy
  pub first : IsStrategy first_version one
  pub second : IsStrategy second_version two
  pub written : bytes ≡ strategy_text first_version one ++ strategy_text second_version two
  pub one_game : one.game ≡ two.game
  pub raw : AreRawPlans one two
  pub said : says one two text

-- The bytes are a strategy file and after it the text of a certificate that is valid for the strategy's plans, whoever made it. The text is the value of
-- the plans and both bounds.
pub record OfCertifiedFile (bytes text : List ℕ) : Type 0 where
  pub version : Version
  pub strategy : Strategy
  pub certificate : Certificate
  pub is : IsStrategy version strategy
  pub written : bytes ≡ strategy_text version strategy ++ certificate_text (certificate_view certificate)
  pub raw : AreRawPlans strategy strategy
  pub verified : IsVerified strategy certificate text

-- ---- the table

-- what `make` prints: the file of the made game, or the summary of its signal classes
abbrev pub IsMade : Make → Bool → List ℕ → Type 0
IsMade m false text = text ≡ made_file m
IsMade m true text = OfGameFile (IsShrunk true) (made_file m) text

-- what each command prints for the bytes that it reads; `make` reads none
abbrev pub Means : Task → List ℕ → List ℕ → Type 0
Means (of_game (game.Shrink summary)) = OfGameFile (IsShrunk summary)
Means (of_game (game.Check grouping summary)) = OfGameFile (IsChecked grouping summary)
Means (of_game (game.Solve grouping)) =
    OfGameFile (IsStrategyFile grouping (λ s. (s.numbers.gap1 ≡ (pos 0, pos 1)) × (s.numbers.gap2 ≡ (pos 0, pos 1))))
Means (of_game (game.Play grouping turns)) = OfGameFile (IsStrategyFile grouping (IsPlayedOut turns))
Means (of_game (game.Path grouping)) = OfGameFile (OverLossless grouping IsPathShown)
Means (of_strategy Evaluate) = OfStrategyFile (λ s text. IsConfirmed s × (text ≡ verdict_text s.numbers))
Means (of_strategy (Query player line signal)) = OfStrategyFile (λ s text. IsConfirmed s × IsQueried s player line signal text)
Means (of_strategy Upgrade) = OfStrategyFile (λ s text. IsConfirmed s × (text ≡ strategy_text Two s))
Means (of_strategy Certify) = OfStrategyFile (λ s text. IsConfirmed s × IsCertified s text)
Means (of_strategy Verify) = OfCertifiedFile
Means (of_raw raw.Judge) = OfStrategyFile IsJudgedText
Means (of_raw raw.Duel) = OfTwoFiles IsDuelled
Means (make m) = λ bytes. IsMade m m.summary

-- the plans that `solve` prints are read off the end of the path of the game's linear program
abbrev pub ShowsSolution : Grouping → List ℕ → List ℕ → Type 0
ShowsSolution grouping = OfGameFile (OverLossless grouping IsSolved)
