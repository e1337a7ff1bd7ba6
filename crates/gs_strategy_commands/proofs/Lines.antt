-- The two lines that `certify` prints are verified.
use Rattle.std.proofs.Common.{◌≡◌, ℕ, List, length, Result, Ok, Err, inl, inr, refl, ap, subst, ◌∙◌, arith}
use Rattle.std.specs.Prelude.{unsigned_abs}
use Rattle.gs_seq.specs.Stops.{IsSmall}
use Rattle.gs_best.specs.Tables.{table_of}
use Rattle.gs_certificate.specs.{Checks.{AreSmall, IsSound}, Numbers.{number_count}, Texts.{Side, Stated, certificate_text}, Views.{certificate_view}}
use Rattle.gs_certificate.specs.{declared.certificate.Certificate.{Certificate}, declared.text_fault.CertTextFault.{CertTextFault}}
use Rattle.gs_certificate.proofs.{Holding.{faults_exclude}, Only.{only as certificate_only, stated}, OneText.{one_certificate}}
use Rattle.gs_strategy_commands.specs.{Commands.{OfStrategy}, Certificates.{IsCertified}, Verifying.{SaysChecked, SaysVerified, Verifies}}
use Rattle.gs_file.specs.declared.version.Version.TheVariants.{Two}
use Rattle.gs_json.specs.FirstLine.{first_line}
use Rattle.gs_json.proofs.Feeds.{line_parted}
use Rattle.gs_model.specs.{Certificate.{IsCertificate}, Classes.{ClassLists}, Frame.{Frame}, Plans.{Plan}}
use Rattle.gs_reply.specs.Refusals.{Bad_game, Unlike_pair, Overflows, Many_pivots, Too_large, Bad_strategy, Wrong_number, Bad_query, Other_game}
use Rattle.gs_reply.specs.{Refusals.{Bad_certificate}, Replies.{OfRead, Reply, Prints, Refuses}, Troubles.{Passes}, declared.refusals.Which.TheVariants.{Only}}
use Rattle.gs_reply.specs.{declared.refusals.Limit.{Limit}, declared.refusals.Limit.TheVariants.{Sequences, Cells, TableNumbers, RawCells}}
use Rattle.gs_strategy.specs.{Checks.{ReadResult}, Confirmed.{IsConfirmed, strategy_frame, raw_plan}, Laws.{IsStrategy}, Texts.{strategy_data, strategy_text}}
use Rattle.gs_strategy.specs.Values.{Strategy}
use Rattle.gs_strategy.proofs.{Only.{only}, Shape.{has_line}}

-- ---- certificates that state the same

module _ (f : Frame) (lists : ClassLists) (x y : Plan) where
  -- a player's part holds, by what is stated
  record Holds (player : ℕ) (z : Plan) (s : Side) : Type 0 where
    long : length s.values ≡ number_count f lists
    certificate : IsCertificate f lists player z (table_of f lists player z s.values) s.bound.0 (unsigned_abs s.bound.1)

  abbrev Both : Stated → Type 0
  Both s = Holds 1 y s.one × Holds 2 x s.two

  same_sound : (c d : Certificate) → certificate_view c ≡ certificate_view d → IsSound f lists x y c → IsSound f lists x y d
  same_sound c d e h =
      let here : Both (certificate_view c) = (
        record { long = h.first.long; certificate = h.first.certificate },
        record {
          long = h.second.long;
          certificate =
              h.second.certificate;
        },
      ) in
      let there : Both (certificate_view d) = subst Both e here in
      record {
        first = record { long = there.0.long; certificate = there.0.certificate };
        second = record { long = there.1.long; certificate = there.1.certificate };
      }

-- ---- what may be answered

abbrev IsPrinted : Reply → Type 0
IsPrinted reply = (lines : List ℕ) × (reply ≡ Prints lines)

abbrev refused : CertTextFault → Result Stated CertTextFault
refused why = Err why

abbrev held : Stated → Result Stated CertTextFault
held s = Ok s

clash : (why : CertTextFault) (s : Stated) → refused why ≡ held s → ⊥
clash why s e = cc

not_large : (s : Strategy) (limit : Limit) → IsSmall (strategy_frame s) s.classes → Passes s.game s.classes limit → ⊥
not_large s (Sequences player count) small (inl over) = omega (arith, small.sequences.one, over.1, over.2)
not_large s (Sequences player count) small (inr over) = omega (arith, small.sequences.two, over.1.1, over.1.2)
not_large s (Cells count) small h = omega (arith, small.cells, h.1, h.2)
not_large s (TableNumbers count) small h = h
not_large s (RawCells count) small h = h

module _ (s : Strategy) (c d : Certificate) (confirmed : IsConfirmed s) (sound : IsSound (strategy_frame s) s.classes (raw_plan s s.one) (raw_plan s s.two) c)
    (same : certificate_view c ≡ certificate_view d) where
  printed_only : (reply : Reply) → SaysChecked s d reply → IsPrinted reply
  printed_only (Prints text) h = (text, refl)
  printed_only (Refuses (Unlike_pair round one two)) h = absurd (h.not_lossless confirmed.lossless)
  printed_only (Refuses (Too_large limit)) h = absurd (not_large s limit confirmed.small h.passed)
  printed_only (Refuses (Bad_certificate text)) h =
      absurd (faults_exclude (strategy_frame s) s.classes (raw_plan s s.one) (raw_plan s s.two) d h.why
      (same_sound (strategy_frame s) s.classes (raw_plan s s.one) (raw_plan s s.two) c d same sound) h.fault)
  printed_only (Refuses (Bad_game why)) h = absurd h
  printed_only (Refuses (Overflows at)) h = absurd h
  printed_only (Refuses Many_pivots) h = absurd h
  printed_only (Refuses (Bad_strategy which why)) h = absurd h
  printed_only (Refuses (Wrong_number name one two)) h = absurd h
  printed_only (Refuses (Bad_query why)) h = absurd h
  printed_only (Refuses Other_game) h = absurd h

second_line : (s : Strategy) (c : Certificate) (reply : Reply) → IsConfirmed s → AreSmall c
    → IsSound (strategy_frame s) s.classes (raw_plan s s.one) (raw_plan s s.two) c
    → SaysVerified (certificate_text (certificate_view c)) s reply → IsPrinted reply
second_line s c reply confirmed small sound (inl bad) = absurd (clash bad.why (certificate_view c)
    (certificate_only (certificate_view c) (Err bad.why) (stated c small) bad.reads))
second_line s c reply confirmed small sound (inr h) =
    let same = one_certificate (certificate_view c) (certificate_view h.0) (stated c small) (stated h.0 h.1.small) h.1.text in
    printed_only s c h.0 confirmed sound same reply h.2

first_line_is : (s : Strategy) (bytes : List ℕ) (reply : Reply) → IsStrategy Two s → OfStrategy (SaysVerified bytes) (strategy_text Two s) reply
    → SaysVerified bytes s reply
first_line_is s bytes reply is h =
    let read : h.read ≡ Ok s = only Two s h.read is h.reads in
    subst (λ (r : ReadResult). OfRead Only (SaysVerified bytes) r reply) read h.said

pub lines_verified : (s : Strategy) (text : List ℕ) (reply : Reply) → IsStrategy Two s → IsConfirmed s → IsCertified s text → Verifies text reply
    → IsPrinted reply
lines_verified s text reply is confirmed h v =
    let c = h.certificate in
    let line = certificate_text (certificate_view c) in
    let parted : first_line text ≡ (strategy_text Two s, line) = ap first_line h.printed
    ∙ line_parted (strategy_data Two s) line (has_line Two s is.written).canonical in
    let here : OfStrategy (SaysVerified line) (strategy_text Two s) reply =
    subst (λ (p : List ℕ × List ℕ). OfStrategy (SaysVerified p.1) p.0 reply) parted v in
    second_line s c reply confirmed h.holds.small h.holds.sound (first_line_is s line reply is here)
