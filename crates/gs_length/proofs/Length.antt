-- The text of a strategy fits into an input.
use Rattle.std.proofs.Common.{◌≡◌, ℕ, ◌+◌, ◌-◌, ◌<◌, ◌≤◌, true, false, List, [], ◌∷◌, length, length-append, get_or, ap, arith}
use Rattle.std.proofs.{Common.{codes}, lemmas.Fmt.{length-decimal-le}}
use Rattle.serde_json.specs.{Data.{Members, member, no_members}, Written.{compact_text}}
use Rattle.gs_file.proofs.Dealt.{few_signals, told_playable}
use Rattle.gs_file.specs.{JsonForm.{game_data, version_number, whole}, JsonLaws.{IsTold}, Reading.{FileGame, file_rules}, declared.version.Version.{Version}}
use Rattle.gs_filter.proofs.ClassLaws.{greatest_within}
use Rattle.gs_game.proofs.Deciding.{ends_are}
use Rattle.gs_length.proofs.{Bytes.{HaveDigits}, TreeLength.{trees_short}}
use Rattle.gs_length.proofs.Parts.{IsShortGame, IsShortList, all_sound, classes_part, fraction_part, game_part, member_length, plan_part, version_length}
use Rattle.gs_model.proofs.{Push.{le_greatest}, Ranges.{in_range}, Walked.{last_round_of, walked_one, walked_two}}
use Rattle.gs_model.specs.{Classes.{ClassLists, list_of}, Frame.{last_round, trees_of}, FrameFacts.{InRange, IsWalked}, Game.{Round}}
use Rattle.gs_seq.proofs.PlanSlots.{weights_within}
use Rattle.gs_seq.specs.{Slots.{sequence_count}, Stops.{IsSmall}}
use Rattle.gs_strategy.specs.{Checks.{AreClasses}, Laws.{IsStrategy}, Texts.{classes_data, fraction_data, plan_data, strategy_data, strategy_text}}
use Rattle.gs_strategy.specs.Values.{ArePlanWeights, Strategy, Weights, file_frame}

short_game : (version : Version) (g : FileGame) → IsTold version g → IsShortGame g
short_game version g t =
    let rules = file_rules g in
    let sound = all_sound g.rounds t.rounds in
    let ends = ends_are g.ante (trees_of rules) in
    record {
      deck = t.deck;
      bonus = t.bonus;
      ante = t.ante;
      rounds = t.rounds;
      few = t.lawful.rounds.1;
      short = trees_short (trees_of rules) t.lawful.evens sound (omega (arith, ends, t.lawful.lines));
    }

few_lists : (version : Version) (g : FileGame) (lists : ClassLists) → IsTold version g → AreClasses g lists → length lists ≤ 4
few_lists version g lists t c = omega (arith, c.rounds, last_round_of (file_rules g), t.lawful.rounds.1)

short_list : (version : Version) (g : FileGame) (lists : ClassLists) → IsTold version g → AreClasses g lists → (r : ℕ) → r < length lists
    → IsShortList (get_or lists r [])
short_list version g lists t c r l =
    let f = file_frame g in
    let count = c.rounds in
    let top : r + 1 ≤ last_round f = omega (arith, count, l) in
    let some : 0 < r + 1 = omega arith in
    let same : list_of lists (r + 1) ≡ get_or lists r [] = ap (λ (i : ℕ). get_or lists i []) (omega arith) in
    let long : length (list_of lists (r + 1)) ≡ length (get_or lists r []) = ap (λ (xs : List ℕ). length xs) same in
    let few : length (list_of lists (r + 1)) ≤ 200000 = omega (arith, c.lengths (r + 1) some top, few_signals (file_rules g) t.lawful (r + 1) some top) in
    record {
      few = omega (arith, few, long);
      digits = λ k lk. (let there : get_or (list_of lists (r + 1)) k 0 ≡ get_or (get_or lists r []) k 0 = ap (λ (xs : List ℕ). get_or xs k 0) same in
          let inside : k < length (list_of lists (r + 1)) = omega (arith, lk, long) in
          let most = le_greatest (list_of lists (r + 1)) k inside in
          let within = greatest_within (list_of lists (r + 1)) (c.numbered (r + 1) some top) in
          let n = get_or (get_or lists r []) k 0 in
          let small : n ≤ 200000 = omega (arith, there, most, within, few) in
          length-decimal-le 6 n (omega arith) (omega (arith, small)) (omega (arith, small)));
    }

short_plan : (player : ℕ) (g : FileGame) (lists : ClassLists) (w : Weights) → InRange (file_frame g) → IsWalked (file_frame g) player → AreClasses g lists
    → ArePlanWeights g lists player w → sequence_count (file_frame g) lists player ≤ 262144 → length (compact_text (plan_data w)) ≤ 3145823
short_plan player g lists w r walked c p few =
    let total = p.plan.total_in.1 in
    let digits : HaveDigits 11 w.weights = λ k l. (let within = weights_within (file_frame g) lists player w.total w.weights r walked c p k l in
    length-decimal-le 11 (get_or w.weights k 0) (omega arith) (omega (arith, within, total)) (omega (arith, within, total))) in
    plan_part w (omega (arith, total)) digits (omega (arith, p.long, few))

pub text_fits : (version : Version) (s : Strategy) → IsStrategy version s → IsSmall (file_frame s.game) s.classes → length (strategy_text version s) ≤ 16777216
text_fits version s is small =
    let t = is.written.game in
    let p = told_playable version s.game t in
    let g = file_rules s.game in
    let n = is.written.numbers in
    let sequences = small.sequences in
    let m1 : Members = member (codes "version") (whole (version_number version)) no_members in
    let m2 : Members = member (codes "value") (fraction_data s.numbers.value) m1 in
    let m3 : Members = member (codes "player2") (plan_data s.two) m2 in
    let m4 : Members = member (codes "player1") (plan_data s.one) m3 in
    let m5 : Members = member (codes "gap2") (fraction_data s.numbers.gap2) m4 in
    let m6 : Members = member (codes "gap1") (fraction_data s.numbers.gap1) m5 in
    let m7 : Members = member (codes "game") (game_data version s.game) m6 in
    let last = member_length true (codes "version") (whole (version_number version)) no_members 1 1 (omega arith) (version_length version) (omega arith) in
    let value = member_length true (codes "value") (fraction_data s.numbers.value) m1 488 48 (omega arith) (fraction_part s.numbers.value n.value) last in
    let two = member_length true (codes "player2") (plan_data s.two) m2 3145823 582 (omega arith)
    (short_plan 2 s.game s.classes s.two (in_range g p) (walked_two g p) is.classes is.second sequences.two) value in
    let one = member_length true (codes "player1") (plan_data s.one) m3 3145823 3146451 (omega arith)
    (short_plan 1 s.game s.classes s.one (in_range g p) (walked_one g p) is.classes is.first sequences.one) two in
    let gap2 = member_length true (codes "gap2") (fraction_data s.numbers.gap2) m4 488 6292320 (omega arith) (fraction_part s.numbers.gap2 n.gap2) one in
    let gap1 = member_length true (codes "gap1") (fraction_data s.numbers.gap1) m5 488 6292854 (omega arith) (fraction_part s.numbers.gap1 n.gap1) gap2 in
    let game = member_length true (codes "game") (game_data version s.game) m6 4754000 6293388 (omega arith)
    (game_part version s.game (short_game version s.game t)) gap1 in
    let classes = member_length false (codes "classes") (classes_data s.classes) m7 5600014 11047434 (omega arith)
    (classes_part s.classes (few_lists version s.game s.classes t is.classes) (short_list version s.game s.classes t is.classes)) game in
    omega (arith, length-append (compact_text (strategy_data version s)) (10 ∷ []), classes)
