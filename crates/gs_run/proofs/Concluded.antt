-- How each command ends over bytes that it accepts, from the reply that its definition says of them.
use Rattle.std.proofs.Common.{◌≡◌, inl, inr, ℕ, ◌++◌, false, true, Bool, List, Err, Ok, sym, ap, ◌∙◌, subst}
use Rattle.gs_certificate.specs.{TextLaws.{IsStated}, Texts.{Stated, certificate_text}, Views.{certificate_view}}
use Rattle.gs_certificate.specs.declared.certificate.Certificate.{Certificate}
use Rattle.gs_certificate.proofs.{OneText.{one_certificate}, Only.{only as certificate_only, stated}}
use Rattle.gs_strategy_commands.proofs.Lines.{lines_verified}
use Rattle.gs_strategy_commands.specs.{Certificates.{SaysCertified}, Verifying.{SaysChecked, SaysVerified, Verifies}}
use Rattle.gs_strategy_commands.specs.Commands.{OfConfirmed, OfStrategy, SaysNumbers, SaysQueried, SaysUpgraded}
use Rattle.gs_raw_commands.specs.Commands.{Duels, SaysDuel, SaysJudged}
use Rattle.gs_file.proofs.States.{states_is}
use Rattle.gs_file.specs.{Reading.{FileGame, read_at}, States.{FileStates}, declared.version.Version.{Version}, declared.version.Version.TheVariants.{Two}}
use Rattle.gs_game_commands.specs.{Checking.{ChecksGame, SaysNotLossless}, Shrinking.{ShrinksGame}, Paths.{ShowsPath}, Playing.{Plays}, Settling.{OfGrouping}}
use Rattle.gs_game_commands.specs.Solving.{Solves}
use Rattle.gs_json.proofs.Feeds.{line_parted}
use Rattle.gs_json.specs.FirstLine.{first_line}
use Rattle.gs_run.proofs.Confirming.{no_trouble}
use Rattle.gs_words.specs.declared.request.Grouping.{Grouping}
use Rattle.gs_words.specs.Tasks.{StrategyTask, Task, make, of_game, of_raw, of_strategy, Certify, Evaluate, Query, Upgrade, Verify}
use Rattle.gs_words.specs.{declared.request.Make.{Make}, declared.request.OfGame.{OfGame}, declared.request.OfRaw.{OfRaw}}
use Rattle.gs_words.specs.declared.request.OfGame.TheVariants as game
use Rattle.gs_words.specs.declared.request.OfRaw.TheVariants as raw
use Rattle.gs_game_commands.specs.Asks.{GameAsks}
use Rattle.gs_raw_commands.specs.Asks.{RawAsks}
use Rattle.gs_strategy_commands.specs.Asks.{StrategyAsks}
use Rattle.gs_reply.specs.{Refusals.{Refusal, Unlike_pair}, Replies.{OfFile, OfRead, OfReading, Reply, Prints, Refuses}}
use Rattle.gs_reply.specs.{declared.refusals.Which.{Which}, declared.refusals.Which.TheVariants.{Only, First, Second}}
use Rattle.gs_strategy.proofs.{Only.{only}, Shape.{has_line}}
use Rattle.gs_strategy.specs.{Checks.{ReadResult}, Confirmed.{IsConfirmed}, Laws.{IsStrategy}, Texts.{strategy_data, strategy_text}, Values.{Strategy}}
use Rattle.gs_run.specs.{Asking.{Asks}, Endings.{Concludes, EndsChecked, EndsMade, EndsSo, EndsWell, OverCertificate}, Making.{Makes, made_file}, Meanings.{Means}, Statuses.{status_of}}
use Rattle.gs_run.specs.declared.status.Status.{Status}

-- what is said otherwise ends otherwise
said_as : (one two : Reply → Type 0) (s : Status) → ((reply : Reply) → one reply → two reply) → EndsSo one s → EndsSo two s
said_as one two s f (inl h) = inl (h.0, (h.1.0, f (Prints h.1.0) h.1.1))
said_as one two s f (inr (inl e)) = inr (inl e)
said_as one two s f (inr (inr h)) = inr (inr (h.0, f (Refuses h.0) h.1, h.2))

never_refused : (says : Reply → Type 0) (s : Status) → ((why : Refusal) → says (Refuses why) → ⊥) → EndsSo says s → EndsWell s
never_refused says s none (inl h) = inl h.0
never_refused says s none (inr (inl e)) = inr e
never_refused says s none (inr (inr h)) = absurd (none h.0 h.1)

-- ---- game files

-- what is said of a game file is said of its game
of_game_file : (says : FileGame → Reply → Type 0) (bytes : List ℕ) (s : Status) → EndsSo (OfReading says (read_at bytes)) s → (g : FileGame) → FileStates bytes g
    → EndsSo (says g) s
of_game_file says bytes s h g states =
    said_as (OfReading says (read_at bytes)) (says g) s (λ reply. subst (λ x. OfReading says x reply) (states_is bytes g states)) h

shrunk : (summary : Bool) (g : FileGame) (s : Status) → EndsSo (ShrinksGame summary g) s → EndsWell s
shrunk summary g s h = never_refused (ShrinksGame summary g) s (λ why said. said) h

unlike : (grouping : Grouping) (g : FileGame) (why : Refusal) (s : Status) → SaysNotLossless grouping g (Refuses why) → status_of why ≡ s
    → EndsChecked grouping g s
unlike grouping g why s (single, classes, are, (round, one, two, pair, told)) e =
    let is : why ≡ Unlike_pair round one two = cc in
    inr (inr (sym e ∙ ap (λ (r : Refusal). status_of r) is, single, record { classes = classes; are = are; not_lossless = pair.not_lossless }))

checked : (grouping : Grouping) (summary : Bool) (g : FileGame) (s : Status) → EndsSo (ChecksGame grouping summary g) s → EndsChecked grouping g s
checked grouping summary g s (inl h) = inl h.0
checked grouping summary g s (inr (inl e)) = inr (inl e)
checked grouping summary g s (inr (inr h)) = unlike grouping g h.0 s h.1 h.2

-- ---- strategy files

-- what is said of the file that holds a strategy's text is said of the strategy
of_text : (which : Which) (says : Strategy → Reply → Type 0) (version : Version) (t : Strategy) (reply : Reply) → IsStrategy version t
    → OfFile which says (strategy_text version t) reply → says t reply
of_text which says version t reply is o = subst (λ (x : ReadResult). OfRead which says x reply) (only version t o.read is o.reads) o.said

of_strategy_file : (says : Strategy → Reply → Type 0) (bytes : List ℕ) (s : Status) → EndsSo (OfFile Only says bytes) s → (version : Version) (t : Strategy)
    → IsStrategy version t → bytes ≡ strategy_text version t → EndsSo (says t) s
of_strategy_file says bytes s h version t is e =
    said_as (OfFile Only says bytes) (says t) s
    (λ reply o. of_text Only says version t reply is (subst (λ (b : List ℕ). OfFile Only says b reply) e o)) h

confirmed_well : (version : Version) (t : Strategy) (s : Status) → IsStrategy version t → IsConfirmed t → EndsSo (OfConfirmed SaysNumbers t) s → EndsWell s
confirmed_well version t s is c h = never_refused (OfConfirmed SaysNumbers t) s none h
  where
    none : (why : Refusal) → OfConfirmed SaysNumbers t (Refuses why) → ⊥
    none why (inl p) = let bad = p.1 in cc
    none why (inr q) = no_trouble version t q.0 is c q.1

-- ---- two files

-- a strategy's text is the first line of what it stands before
text_parted : (version : Version) (t : Strategy) (rest : List ℕ) → IsStrategy version t
    → first_line (strategy_text version t ++ rest) ≡ (strategy_text version t, rest)
text_parted version t rest is = line_parted (strategy_data version t) rest (has_line version t is.written).canonical

of_texts : (v w : Version) (one two : Strategy) (reply : Reply) → IsStrategy v one → IsStrategy w two
    → Duels (strategy_text v one ++ strategy_text w two) reply → SaysDuel one two reply
of_texts v w one two reply is_one is_two h =
    let rest = strategy_text w two in
    let here : OfFile First (λ x. OfFile Second (SaysDuel x) rest) (strategy_text v one) reply =
    subst (λ (p : List ℕ × List ℕ). OfFile First (λ x. OfFile Second (SaysDuel x) p.1) p.0 reply) (text_parted v one rest is_one) h in
    of_text Second (SaysDuel one) w two reply is_two (of_text First (λ x. OfFile Second (SaysDuel x) rest) v one reply is_one here)

-- ---- certificates

-- a fault is not what is read
no_fault : {A E : Type 0} (why : E) (x : A) → Err why ≡ Ok x → ⊥
no_fault why x e = cc

-- what is said of a certificate's text is said of a certificate of that text
of_certificate : (t : Strategy) (c : Stated) (reply : Reply) → IsStated c → SaysVerified (certificate_text c) t reply
    → (d : Certificate) × (certificate_view d ≡ c) × SaysChecked t d reply
of_certificate t c reply is (inl h) = absurd (no_fault h.why c (certificate_only c (Err h.why) is h.reads))
of_certificate t c reply is (inr h) = (h.0, sym (one_certificate c (certificate_view h.0) is (stated h.0 h.1.small) h.1.text), h.2)

of_lines : (version : Version) (t : Strategy) (c : Stated) (reply : Reply) → IsStrategy version t → IsStated c
    → Verifies (strategy_text version t ++ certificate_text c) reply
    → (d : Certificate) × (certificate_view d ≡ c) × SaysChecked t d reply
of_lines version t c reply is is_stated h =
    let rest = certificate_text c in
    let here : OfStrategy (SaysVerified rest) (strategy_text version t) reply =
    subst (λ (p : List ℕ × List ℕ). OfStrategy (SaysVerified p.1) p.0 reply) (text_parted version t rest is) h in
    of_certificate t c reply is_stated (of_text Only (SaysVerified rest) version t reply is here)

-- version 2 tells each strategy that a version tells
pub told_in_two : (version : Version) (t : Strategy) → IsStrategy version t → IsStrategy Two t
told_in_two version t is = record {
  written = record {
    game = record {
      deck = is.written.game.deck;
      bonus = is.written.game.bonus;
      tells = tt;
      some_ante = is.written.game.some_ante;
      ante = is.written.game.ante;
      rounds = is.written.game.rounds;
      lawful = is.written.game.lawful;
    };
    classes = is.written.classes;
    one = is.written.one;
    two = is.written.two;
    numbers = is.written.numbers;
  };
  classes = is.classes;
  first = is.first;
  second = is.second;
}

differs : (why : Refusal) (text : List ℕ) → Refuses why ≡ Prints text → ⊥
differs why text e = cc

-- `verify` refuses nothing that `certify` prints
certified_verified : (bytes lines : List ℕ) (why : Refusal) → Means (of_strategy Certify) bytes lines → Verifies lines (Refuses why) → ⊥
certified_verified bytes lines why h v =
    let p = lines_verified h.strategy lines (Refuses why) (told_in_two h.version h.strategy h.is) h.said.0 h.said.1 v in
    differs why p.0 p.1

verify_ends : (bytes : List ℕ) (s : Status) → EndsSo (Verifies bytes) s → OverCertificate bytes s
verify_ends bytes s h = record {
  any = λ version t c is stated e. said_as (Verifies bytes) (λ reply. (d : Certificate) × (certificate_view d ≡ c)
      × SaysChecked t d reply) s (λ reply v. of_lines version t c reply is stated (subst (λ (b : List ℕ). Verifies b reply) e v)) h;
  certified = λ version t is lines. never_refused (Verifies bytes) s (λ why. certified_verified (strategy_text version t) bytes why lines) h;
}

-- ---- the table

made_ends : (m : Make) (summary : Bool) (s : Status) → EndsSo (Makes m summary) s → EndsMade m summary s
made_ends m false s (inl h) = inl h.0
made_ends m false s (inr (inl e)) = inr e
made_ends m false s (inr (inr h)) = let bad = h.1 in cc
made_ends m true s h = λ g states. shrunk true g s (of_game_file (ShrinksGame true) (made_file m) s h g states)

game_ends : (t : OfGame) (bytes : List ℕ) (s : Status) → EndsSo (GameAsks t bytes) s → Concludes (of_game t) bytes s
game_ends (game.Shrink summary) bytes s h = λ g states. shrunk summary g s (of_game_file (ShrinksGame summary) bytes s h g states)
game_ends (game.Check grouping summary) bytes s h = λ g states.
    checked grouping summary g s (of_game_file (ChecksGame grouping summary) bytes s h g states)
game_ends (game.Solve grouping) bytes s h = of_game_file (OfGrouping grouping Solves) bytes s h
game_ends (game.Play grouping turns) bytes s h = of_game_file (OfGrouping grouping (Plays turns)) bytes s h
game_ends (game.Path grouping) bytes s h = of_game_file (OfGrouping grouping ShowsPath) bytes s h

strategy_ends : (t : StrategyTask) (bytes : List ℕ) (s : Status) → EndsSo (StrategyAsks t bytes) s → Concludes (of_strategy t) bytes s
strategy_ends Evaluate bytes s h = λ version t is e. (let ends = of_strategy_file (OfConfirmed SaysNumbers) bytes s h version t is e in
    (ends, λ c. confirmed_well version t s is c ends))
strategy_ends (Query player line signal) bytes s h = of_strategy_file (OfConfirmed (SaysQueried player line signal)) bytes s h
strategy_ends Upgrade bytes s h = of_strategy_file (OfConfirmed SaysUpgraded) bytes s h
strategy_ends Certify bytes s h = of_strategy_file (OfConfirmed SaysCertified) bytes s h
strategy_ends Verify bytes s h = verify_ends bytes s h

raw_ends : (t : OfRaw) (bytes : List ℕ) (s : Status) → EndsSo (RawAsks t bytes) s → Concludes (of_raw t) bytes s
raw_ends raw.Judge bytes s h = of_strategy_file SaysJudged bytes s h
raw_ends raw.Duel bytes s h = λ v w one two is it e.
    said_as (Duels bytes) (SaysDuel one two) s (λ reply d. of_texts v w one two reply is it (subst (λ (b : List ℕ). Duels b reply) e d)) h

pub concludes : (task : Task) (bytes : List ℕ) (s : Status) → EndsSo (Asks task bytes) s → Concludes task bytes s
concludes (of_game t) bytes s h = game_ends t bytes s h
concludes (of_strategy t) bytes s h = strategy_ends t bytes s h
concludes (of_raw t) bytes s h = raw_ends t bytes s h
concludes (make m) bytes s h = made_ends m m.summary s h
