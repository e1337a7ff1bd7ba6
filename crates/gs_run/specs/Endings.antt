-- How each command ends over valid input, if no read or write fails: well, out of memory, or with a refusal that its definition gives.
use Rattle.std.specs.Prelude.{◌≡◌, ◌⊎◌, ℕ, ◌++◌, Bool, List, false, true}
use Rattle.gs_certificate.specs.{TextLaws.{IsStated}, Texts.{Stated, certificate_text}, Views.{certificate_view}}
use Rattle.gs_certificate.specs.declared.certificate.Certificate.{Certificate}
use Rattle.gs_strategy_commands.specs.{Certificates.{SaysCertified}, Verifying.{SaysChecked}, Commands.{OfConfirmed, SaysNumbers, SaysQueried, SaysUpgraded}}
use Rattle.gs_raw_commands.specs.Commands.{SaysDuel, SaysJudged}
use Rattle.gs_file.specs.{Reading.{FileGame, file_rules}, States.{FileStates}, declared.version.Version.{Version}}
use Rattle.gs_words.specs.Tasks.{Task, make, of_game, of_raw, of_strategy, Certify, Evaluate, Query, Upgrade, Verify}
use Rattle.gs_words.specs.{declared.request.Grouping.{Grouping}, declared.request.Grouping.TheVariants.{Isomorphism}, declared.request.Make.{Make}}
use Rattle.gs_words.specs.declared.request.OfGame.TheVariants as game
use Rattle.gs_words.specs.declared.request.OfRaw.TheVariants as raw
use Rattle.gs_model.specs.{Classes.{ClassLists}, Frame.{frame_of}, Lossless.{IsLossless}, SignalClasses.{IsSignalClasses}}
use Rattle.gs_reply.specs.{Refusals.{Refusal}, Replies.{Reply, Prints, Refuses}}
use Rattle.gs_game_commands.specs.{Paths.{ShowsPath}, Playing.{Plays}, Settling.{OfGrouping}, Solving.{Solves}}
use Rattle.gs_strategy.specs.{Confirmed.{IsConfirmed}, Laws.{IsStrategy}, Texts.{strategy_text}, Values.{Strategy}}
use Rattle.gs_run.specs.{Making.{made_file}, Meanings.{Means}, Statuses.{status_of}, declared.status.Status.{Status}}
use Rattle.gs_run.specs.declared.status.Status.TheVariants as status

-- the run ends well, and `says` holds of some text; or out of memory; or `says` holds of some refusal, and the run ends with its status
abbrev pub EndsSo : (Reply → Type 0) → Status → Type 0
EndsSo says s =
    ((s ≡ status.Ok) × ((text : List ℕ) × says (Prints text))) ⊎ ((s ≡ status.Memory)
    ⊎ ((why : Refusal) × says (Refuses why) × (status_of why ≡ s)))

-- the run ends well or out of memory
abbrev pub EndsWell : Status → Type 0
EndsWell s = (s ≡ status.Ok) ⊎ (s ≡ status.Memory)

-- the signal classes of the game are not lossless
pub record AreUnlike (g : FileGame) : Type 0 where
  pub classes : ClassLists
  pub are : IsSignalClasses (file_rules g) classes
  pub not_lossless : IsLossless (frame_of (file_rules g)) classes → ⊥

-- the run ends well or out of memory; or it refuses the game because its signal classes, which were asked for, are not lossless
abbrev pub EndsChecked : Grouping → FileGame → Status → Type 0
EndsChecked grouping g s = (s ≡ status.Ok) ⊎ ((s ≡ status.Memory) ⊎ ((s ≡ status.Unlike) × (grouping ≡ Isomorphism) × AreUnlike g))

-- ---- over files

-- `ends` holds of each game that the bytes state
abbrev pub OverGame : (FileGame → Status → Type 0) → List ℕ → Status → Type 0
OverGame ends bytes s = (g : FileGame) → FileStates bytes g → ends g s

-- `ends` holds of each strategy whose file, in some version, is these bytes
abbrev pub OverStrategy : (Strategy → Status → Type 0) → List ℕ → Status → Type 0
OverStrategy ends bytes s = (version : Version) (t : Strategy) → IsStrategy version t → bytes ≡ strategy_text version t → ends t s

-- `ends` holds of each two strategies whose files, one after the other, are these bytes
abbrev pub OverTwo : (Strategy → Strategy → Status → Type 0) → List ℕ → Status → Type 0
OverTwo ends bytes s =
    (v w : Version) (one two : Strategy) → IsStrategy v one → IsStrategy w two → bytes ≡ strategy_text v one ++ strategy_text w two → ends one two s

-- If the bytes are a strategy file and a certificate's text, the run ends well, out of memory, or with a refusal, as `SaysChecked` says.
-- If `certify` prints these bytes for a strategy file, the run ends well or out of memory.
pub record OverCertificate (bytes : List ℕ) (s : Status) : Type 0 where
  pub any : (version : Version) (t : Strategy) (c : Stated) → IsStrategy version t → IsStated c → bytes ≡ strategy_text version t ++ certificate_text c
      → EndsSo (λ reply. (d : Certificate) × (certificate_view d ≡ c) × SaysChecked t d reply) s
  pub certified : (version : Version) (t : Strategy) → IsStrategy version t → Means (of_strategy Certify) (strategy_text version t) bytes → EndsWell s

-- The run ends well, out of memory, or with a refusal, as `evaluate` says of the strategy. For a confirmed strategy it ends well or out of memory. Each
-- strategy that `solve` or `play` prints is confirmed.
abbrev pub EndsEvaluated : Strategy → Status → Type 0
EndsEvaluated t s = EndsSo (OfConfirmed SaysNumbers t) s × (IsConfirmed t → EndsWell s)

-- ---- the table

-- `make` ends well or out of memory; with its summary, if the made game is valid
abbrev pub EndsMade : Make → Bool → Status → Type 0
EndsMade m false s = EndsWell s
EndsMade m true s = OverGame (λ g t. EndsWell t) (made_file m) s

-- how each command ends over valid input
abbrev pub Concludes : Task → List ℕ → Status → Type 0
Concludes (of_game (game.Shrink summary)) = OverGame (λ g s. EndsWell s)
Concludes (of_game (game.Check grouping summary)) = OverGame (EndsChecked grouping)
Concludes (of_game (game.Solve grouping)) = OverGame (λ g s. EndsSo (OfGrouping grouping Solves g) s)
Concludes (of_game (game.Play grouping turns)) = OverGame (λ g s. EndsSo (OfGrouping grouping (Plays turns) g) s)
Concludes (of_game (game.Path grouping)) = OverGame (λ g s. EndsSo (OfGrouping grouping ShowsPath g) s)
Concludes (of_strategy Evaluate) = OverStrategy EndsEvaluated
Concludes (of_strategy (Query player line signal)) = OverStrategy (λ t s. EndsSo (OfConfirmed (SaysQueried player line signal) t) s)
Concludes (of_strategy Upgrade) = OverStrategy (λ t s. EndsSo (OfConfirmed SaysUpgraded t) s)
Concludes (of_strategy Certify) = OverStrategy (λ t s. EndsSo (OfConfirmed SaysCertified t) s)
Concludes (of_strategy Verify) = OverCertificate
Concludes (of_raw raw.Judge) = OverStrategy (λ t s. EndsSo (SaysJudged t) s)
Concludes (of_raw raw.Duel) = OverTwo (λ one two s. EndsSo (SaysDuel one two) s)
Concludes (make m) = λ bytes. EndsMade m m.summary
