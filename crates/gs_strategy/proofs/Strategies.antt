-- What is read is a strategy, what is written is read, and the plans of strategies are raw plans.
use Rattle.std.proofs.Common.{◌≡◌, ℕ, ◌+◌, ◌^◌, ◌<◌, ◌≤◌, List, [], length, get_or, All, Result, Ok, Err, refl, sym, ap, ◌∙◌, subst, inl, inr, arith}
use Rattle.std.proofs.lemmas.List.{get_or_default}
use Rattle.std.specs.Option.{ok_or}
use Rattle.serde_json.specs.{Data.{Data}, Find.{as_str}}
use Rattle.gs_file.specs.{Faults.{Fault as GameFault}, JsonLaws.{IsTold}, JsonReading.{json_game_at}, Reading.{FileGame, file_rules}}
use Rattle.gs_file.specs.declared.version.Version.{Version}
use Rattle.gs_filter.proofs.ClassLaws.{greatest_within}
use Rattle.gs_frac.specs.{declared.fault.FracFault.{FracFault}, Texts.{fraction_of}}
use Rattle.gs_json.proofs.Outcomes.{clash, same}
use Rattle.gs_json.specs.Steps.{Then, ◌>>=◌}
use Rattle.gs_model.proofs.{Push.{le_greatest}, Ranges.{in_range}, Walked.{walked_one, walked_two}, Deviations.{lift_is_raw_plan}, Tables.{is_table}}
use Rattle.gs_model.proofs.{Gather.{known_from, firsts_from, plan_by}, Alike.{keeps_from}}
use Rattle.gs_model.specs.{Classes.{ClassLists, list_of}, Frame.{Frame, last_round}, FrameFacts.{InRange, IsWalked}, Game.{IsPlayable}, Plans.{IsRawPlan}}
use Rattle.gs_strategy.specs.Checks.{AreClasses, After, Checked, ChecksClasses, IsCanonical, IsClassFault, IsPlanFault, Reads, ReadsClasses}
use Rattle.gs_strategy.specs.{Checks.{ReadsParts, ReadsPlan}, Confirmed.{raw_plan}, Faults.{Fault, classes, fraction as no_fraction, plan, shape}}
use Rattle.gs_strategy.specs.{Laws.{AreWeights, IsStrategy}, Reading.{stored_version_at, weights_at}, Texts.{strategy_data, strategy_text}}
use Rattle.gs_strategy.specs.Reading.{Whole, class_lists_at, fraction_at, json_at, numbers_at, of_fraction, of_game, parts_at, stored_game_at}
use Rattle.gs_strategy.specs.Values.{AreFractions, ArePlanWeights, FractionParts, IsFractionOf, Numbers, Strategy, Weights, file_frame}
use Rattle.gs_strategy.specs.{declared.fault.FilePart.{FilePart}, RawPlans.{AreRawPlans}}
use Rattle.gs_strategy.proofs.OneText.{classes_are, game_is, json_is, numbers_are, parts_are, parts_of, version_is, weights_are}
use Rattle.gs_strategy.proofs.{Parts.{all_parts}, Steps.{then_is}}
use Rattle.gs_strategy.specs.declared.fault.FilePart.TheVariants as part
use Rattle.gs_file.proofs.{Dealt.{few_signals, told_dealt, told_playable}, Told.{json_told}}
use Rattle.gs_frac.proofs.Fractions.{read_fraction}
use Rattle.gs_seq.proofs.PlanSlots.{weights_within}

-- ---- a strategy from its parts

-- the class numbers of a told game have 32 bits
few_classes : (version : Version) (g : FileGame) (lists : ClassLists) → IsTold version g → AreClasses g lists → All (λ list. All (λ n. n < 2 ^ 32) list) lists
few_classes version g lists t c r ds lr k d l =
    let f = file_frame g in
    let same : get_or lists r ds ≡ list_of lists (r + 1) = get_or_default lists r ds [] lr ∙ ap (λ (i : ℕ). get_or lists i []) (omega arith) in
    let long = ap (λ (xs : List ℕ). length xs) same in
    let count = c.rounds in
    let top : r + 1 ≤ last_round f = omega arith in
    let some : 0 < r + 1 = omega arith in
    let inside : k < length (list_of lists (r + 1)) = omega arith in
    let there : get_or (get_or lists r ds) k d ≡ get_or (list_of lists (r + 1)) k 0 =
    ap (λ (xs : List ℕ). get_or xs k d) same ∙ get_or_default (list_of lists (r + 1)) k d 0 inside in
    omega (
      arith,
      there,
      le_greatest (list_of lists (r + 1)) k inside,
      greatest_within (list_of lists (r + 1)) (c.numbered (r + 1) some top),
      c.lengths (r + 1) some top,
      few_signals (file_rules g) t.lawful (r + 1) some top,
    )

few_weights : (f : Frame) (player : ℕ) (g : FileGame) (lists : ClassLists) (w : Weights) → f ≡ file_frame g → InRange (file_frame g)
    → IsWalked (file_frame g) player → AreClasses g lists → ArePlanWeights g lists player w → AreWeights w
few_weights f player g lists w e r walked c p =
    let total = p.plan.total_in.1 in
    record {
      total = omega arith;
      weights = λ k d l. (let here = get_or_default w.weights k d 0 l in
          let within = weights_within (file_frame g) lists player w.total w.weights r walked c p k l in omega (arith, here, within));
    }

pub strategy_is : (version : Version) (s : Strategy) → IsTold version s.game → AreClasses s.game s.classes → ArePlanWeights s.game s.classes 1 s.one
    → ArePlanWeights s.game s.classes 2 s.two → AreFractions s.numbers → IsStrategy version s
strategy_is version s t c one two n =
    let p = told_playable version s.game t in
    let g = file_rules s.game in
    record {
      written = record {
        game = t;
        classes = few_classes version s.game s.classes t c;
        one = few_weights (file_frame s.game) 1 s.game s.classes s.one refl (in_range g p) (walked_one g p) c one;
        two = few_weights (file_frame s.game) 2 s.game s.classes s.two refl (in_range g p) (walked_two g p) c two;
        numbers = n;
      };
      classes = c;
      first = one;
      second = two;
    }

-- ---- what is read

then_ok : {A : Type 0} (r : Result A Fault) (next : A → Result Strategy Fault → Type 0) (s : Strategy) → Then r next (Ok s)
    → (a : A) × (r ≡ Ok a) × next a (Ok s)
then_ok (Ok a) next s h = (a, refl, h)
then_ok (Err why) next s h = absurd (clash s why h)

after_ok : {A : Type 0} (step : Result A Fault → Type 0) (next : A → Result Strategy Fault → Type 0) (s : Strategy) → After step next (Ok s)
    → (a : A) × step (Ok a) × next a (Ok s)
after_ok step next s h = let (a, e, so) = then_ok h.0 next s h.2 in (a, subst step e h.1, so)

checked_ok : {A F : Type 0} (Keeps : A → Type 0) (Breaks : A → F → Type 0) (told : F → Fault) (r : Result A Fault) (x : A)
    → Then r (Checked Keeps Breaks told) (Ok x) → Keeps x
checked_ok Keeps Breaks told (Ok y) x (inl p) = subst Keeps (sym (same x y p.1)) p.0
checked_ok Keeps Breaks told (Ok y) x (inr q) = absurd (clash x (told q.0) q.2)
checked_ok Keeps Breaks told (Err why) x h = absurd (clash x why h)

game_ok : (r : Result FileGame GameFault) (g : FileGame) → of_game r ≡ Ok g → r ≡ Ok g
game_ok (Ok h) g e = ap (λ (x : FileGame). Ok x) (same h g e)
game_ok (Err why) g e = cc

numbers_ok : (parts : Whole) (n : Numbers) → numbers_at parts ≡ Ok n → AreFractions n
unfolding numbers_at fraction_at
numbers_ok parts n e =
    let (value, ev, e1) = after (fraction_at part.Value parts.value) _ n e in
    let (gap1, eg, e2) = after (fraction_at part.Gap1 parts.gap1) _ n e1 in
    let (gap2, eh, e3) = after (fraction_at part.Gap2 parts.gap2) _ n e2 in
    subst AreFractions (same (record { value = value; gap1 = gap1; gap2 = gap2 }) n e3)
    (record {
      value = fraction_ok part.Value parts.value value ev;
      gap1 = fraction_ok part.Gap1 parts.gap1 gap1 eg;
      gap2 = fraction_ok part.Gap2 parts.gap2 gap2 eh;
    })
  where
    after : {A B : Type 0} (r : Result A Fault) (f : A → Result B Fault) (b : B) → (r >>= f) ≡ Ok b → (a : A) × (r ≡ Ok a) × (f a ≡ Ok b)
    after (Ok a) f b e = (a, refl, e)
    after (Err x) f b e = absurd (clash b x (sym e))

    of_ok : (of_part : FilePart) (r : Result FractionParts FracFault) (p : FractionParts) → of_fraction of_part r ≡ Ok p → r ≡ Ok p
    of_ok of_part (Ok q) p e = ap (λ (x : FractionParts). Ok x) (same q p e)
    of_ok of_part (Err why) p e = absurd (clash p (no_fraction of_part why) (sym e))

    fraction_ok : (of_part : FilePart) (d : Data) (p : FractionParts) → fraction_at of_part d ≡ Ok p → IsFractionOf p
    fraction_ok of_part d p e =
        let (words, ew, e1) = after (ok_or (as_str d) (shape of_part)) _ p e in
        read_fraction words p (of_ok of_part (fraction_of words) p e1)

-- a strategy by its game and its classes, as they were checked, its plans and its numbers
pub checked_strategy : (version : Version) (parts : Whole) (s : Strategy) (lists : ClassLists)
    → stored_game_at version parts.game ≡ Ok s.game → ChecksClasses s.game lists (Ok s.classes) → ArePlanWeights s.game s.classes 1 s.one
    → ArePlanWeights s.game s.classes 2 s.two → numbers_at parts ≡ Ok s.numbers → IsStrategy version s
checked_strategy version parts s lists eg c first second en =
    strategy_is version s (json_told version parts.game s.game (game_ok (json_game_at version parts.game) s.game eg))
    (checked_ok (AreClasses s.game) (IsClassFault s.game) classes (Ok lists) s.classes c) first second (numbers_ok parts s.numbers en)

parts_read : (version : Version) (parts : Whole) (s : Strategy) → ReadsParts version parts (Ok s) → IsStrategy version s
parts_read version parts s h =
    let (g, eg, h1) = then_ok (stored_game_at version parts.game) _ s h in
    let (lists, c, h2) = after_ok (ReadsClasses g parts.classes) _ s h1 in
    let (one, first, h3) = after_ok (ReadsPlan g lists 1 part.Player1 parts.player1) _ s h2 in
    let (two, second, h4) = after_ok (ReadsPlan g lists 2 part.Player2 parts.player2) _ s h3 in
    let (n, en, h5) = then_ok (numbers_at parts) _ s h4 in
    let t : Strategy = record { game = g; classes = lists; one = one; two = two; numbers = n } in
    let told = json_told version parts.game g (game_ok (json_game_at version parts.game) g eg) in
    let is = strategy_is version t told (checked_ok (AreClasses g) (IsClassFault g) classes (class_lists_at parts.classes) lists c)
    (checked_ok (ArePlanWeights g lists 1) (IsPlanFault g lists 1) (plan 1) (weights_at part.Player1 parts.player1) one first)
    (checked_ok (ArePlanWeights g lists 2) (IsPlanFault g lists 2) (plan 2) (weights_at part.Player2 parts.player2) two second)
    (numbers_ok parts n en) in
    subst (IsStrategy version) {x = t} (sym {b = t} (same s t h5)) is

pub reads_strategy : (bytes : List ℕ) (s : Strategy) → Reads bytes (Ok s) → (version : Version) × IsStrategy version s × (bytes ≡ strategy_text version s)
reads_strategy bytes s h =
    let (d, ed, h1) = then_ok (json_at bytes) _ s h in
    let (version, ev, h2) = then_ok (stored_version_at d) _ s h1 in
    let (parts, ep, h3) = then_ok (parts_at d) _ s h2 in
    let (t, read, h4) = after_ok (ReadsParts version parts) (IsCanonical version bytes) s h3 in
    by version t (parts_read version parts t read) h4
  where
    by : (version : Version) (t : Strategy) → IsStrategy version t → IsCanonical version bytes t (Ok s)
        → (version : Version) × IsStrategy version s × (bytes ≡ strategy_text version s)
    by version t is (inl p) =
        let e = same s t p.1 in
        (version, subst (IsStrategy version) (sym e) is, p.0 ∙ ap (strategy_text version) (sym e))
    by version t is (inr q) = absurd (clash s _ q.2)

-- ---- raw plans

raw : (g : FileGame) (s : Strategy) (player : ℕ) (w : Weights) → s.game ≡ g → IsPlayable (file_rules g) → IsWalked (file_frame g) player
    → AreClasses s.game s.classes → ArePlanWeights s.game s.classes player w → IsRawPlan (file_frame g) player (raw_plan s w)
raw g s player w e p walked c its =
    subst (λ (h : FileGame). IsPlayable (file_rules h) → IsWalked (file_frame h) player → IsRawPlan (file_frame h) player (raw_plan s w)) e here p walked
  where
    here : IsPlayable (file_rules s.game) → IsWalked (file_frame s.game) player → IsRawPlan (file_frame s.game) player (raw_plan s w)
    here p walked =
        let f = file_frame s.game in
        let r = in_range (file_rules s.game) p in
        lift_is_raw_plan f (is_table f r) s.classes (keeps_from f s.classes c.filter) (firsts_from f s.classes c) player (known_from f player r walked) _
        walked.point_in (plan_by f s.classes player _ walked c its.plan)

pub strategies_raw : (v w : Version) (one two : Strategy) → IsStrategy v one → IsStrategy w two → one.game ≡ two.game → AreRawPlans one two
strategies_raw v w one two h k e =
    let dealt = told_dealt v one.game h.written.game in
    let p = dealt.playable in
    record {
      first = raw one.game one 1 one.one refl p (walked_one (file_rules one.game) p) h.classes h.first;
      second = raw one.game two 2 two.two (sym e) p (walked_two (file_rules one.game) p) k.classes k.second;
      deals = dealt.deals;
    }

pub read_raw : (first second : List ℕ) (one two : Strategy) → Reads first (Ok one) → Reads second (Ok two) → one.game ≡ two.game → AreRawPlans one two
read_raw first second one two h k e =
    let a = reads_strategy first one h in
    let b = reads_strategy second two k in
    strategies_raw a.0 b.0 one two a.1 b.1 e

-- ---- what is written is read

pub text_is_read : (version : Version) (s : Strategy) → IsStrategy version s → Reads (strategy_text version s) (Ok s)
text_is_read version s h =
    let d = strategy_data version s in
    let parts = parts_of version s in
    let lists = s.classes in
    let w = h.written in
    let classed : ReadsClasses s.game parts.classes (Ok lists) =
    then_is (class_lists_at parts.classes) lists _ (Ok lists) (classes_are lists w.classes) (inl (h.classes, refl)) in
    let first : ReadsPlan s.game lists 1 part.Player1 parts.player1 (Ok s.one) =
    then_is (weights_at part.Player1 parts.player1) s.one _ (Ok s.one) (weights_are part.Player1 s.one) (inl (h.first, refl)) in
    let second : ReadsPlan s.game lists 2 part.Player2 parts.player2 (Ok s.two) =
    then_is (weights_at part.Player2 parts.player2) s.two _ (Ok s.two) (weights_are part.Player2 s.two) (inl (h.second, refl)) in
    let all : ReadsParts version parts (Ok s) =
    all_parts version parts lists s.one s.two (game_is version s w) classed first second s.numbers (numbers_are version s w.numbers) in
    then_is (json_at (strategy_text version s)) d _ (Ok s) (json_is version s w)
    (then_is (stored_version_at d) version _ (Ok s) (version_is version s)
    (then_is (parts_at d) parts _ (Ok s) (parts_are version s) (Ok s, all, inl (refl, refl))))
