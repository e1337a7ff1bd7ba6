use Rattle.std.proofs.Common.{◌≡◌, ◌≤◌, ◌^◌, ap, ◌∙◌, arith, ℕ, List, pos, to_z}
use Rattle.std.specs.{Int.{w128}, Prelude.{◌*ℤ◌}}
use Rattle.gs_game.specs.Seen.{end_of}
use Rattle.gs_model.specs.{Classes.{IsClass}, Frame.{other_player, round_of}, Pairs.{class_number}, Positions.{at_end}}
use Rattle.gs_seq.specs.{Abstracts.{abstract_frame, lists_of}, Payoffs.{pair_pays}, Plans.{class_plan}}
use Rattle.gs_seq.specs.{declared.form.Abstract.{Abstract}, declared.pair.Pair.{Pair}, declared.plan.Plan.{Plan}}
use Rattle.gs_seq.proofs.{EndSums.{pair_term}, Ends.{number_few}, Forms.{given_in}, Signed.{read_back}}
use Rattle.gs_seq.proofs.Turns.{IsAlong, IsHere, come_begun, here_in, paid, paid_as, sum_is_all}
use Rattle.gs_seq.proofs.form.Abstract.row_worth.Goals.{After-end_in-at, After-number_at-number, In-Some}
use Rattle.gs_seq.proofs.form.Abstract.row_worth.Goals as goal

-- the other player's number at a class
abbrev number_at : Abstract → ℕ → Plan → ℕ → ℕ → ℕ
number_at a player other z e = class_number (abstract_frame a) (lists_of a) (other_player player) (class_plan (abstract_frame a) (lists_of a) other) z e

along : (c : After-end_in-at) → IsAlong c.args.self.now c.args.player c.args.other.now.end c.args.class c.args.row
along c = record { some = c.requires.some; two = c.requires.two; inside = c.requires.end; is_row = c.requires.row }

here : (c : In-Some)
    → IsHere c.args.self.now c.args.player c.args.other.now.end c.args.row c.next.new.self c.in-Some.pair
    (number_at c.args.self.now c.args.player c.args.other.now.plan.now c.args.other.now.end) (to_z w128 c.loop-pair.sum-bits)
here c =
    here_in c.args.self.now c.args.player c.args.other.now.end c.args.class c.args.row (along (goal.at.In-Some c).After-end_in-at)
    (number_at c.args.self.now c.args.player c.args.other.now.plan.now c.args.other.now.end) c.loop-pair.pair-iterator
    c.next.new.self c.in-Some.pair _ c.loop-pair.invariant c.in-Some.ensures.steps

-- the number, as it was looked up
number_is : (c : After-number_at-number)
    → c.number_at-number.result ≡ class_number (abstract_frame c.args.self.now) (lists_of c.args.self.now) (other_player c.args.player)
    (class_plan (abstract_frame c.args.self.now) (lists_of c.args.self.now) c.args.other.now.plan.now) c.args.other.now.end c.in-Some.pair.two
number_is c =
    let f = abstract_frame c.args.self.now in
    let ls = lists_of c.args.self.now in
    let q = c.args.other.now.plan.now in
    c.number_at-number.ensures.value ∙ ap (λ p. class_number f ls p (class_plan f ls q) c.args.other.now.end c.in-Some.pair.two) c.requires.other.player_is

-- the pair's part
part_is : (c : After-number_at-number)
    → pos c.number_at-number.result *ℤ pair_pays c.args.player (end_of c.end_in-at.result) c.in-Some.pair ≡ paid c.args.self.now c.args.player
    c.args.other.now.end
    (number_at c.args.self.now c.args.player c.args.other.now.plan.now c.args.other.now.end) c.in-Some.pair
part_is c = paid_as c.args.player _ _ _ _ c.in-Some.pair c.end_in-at.ensures.value (number_is c)

pub loop-pair-init : goal.loop-pair-init
loop-pair-init c =
    let begins : ◌≡◌ {A = List Pair} c.into_iter-pair-iterator.result c.args.row = cc in
    come_begun (pair_term (abstract_frame c.args.self.now) (lists_of c.args.self.now) c.args.player
    (class_plan (abstract_frame c.args.self.now) (lists_of c.args.self.now) c.args.other.now.plan.now) c.args.other.now.end) c.args.row _ begins

pub add_pays-sum-requires : goal.add_pays-sum-requires
add_pays-sum-requires c =
    let at = goal.at.add_pays-sum-requires c in
    let f = abstract_frame c.args.self.now in
    let ls = lists_of c.args.self.now in
    let y = class_plan f ls c.args.other.now.plan.now in
    let own = other_player c.args.player in
    let g = given_in c.args.self.now in
    let k = here at.In-Some in
    let most = c.requires.other.plan.plan.total_in.1 in
    let few : (e : _) → IsClass ls (round_of f (at_end c.args.other.now.end)) e → class_number f ls own y c.args.other.now.end e ≤ 2 ^ 36 = λ e h.
    omega (
      arith,
      number_few f ls own y c.args.other.now.end e g.in_range (g.walked own (omega (arith, c.requires.two)) (omega (arith, c.requires.some))) g.classes
          c.requires.other.plan.plan c.requires.end h,
      most,
    ) in
    record {
      few = k.known.weight;
      moderate = k.known.signed;
      number = omega (arith, c.number_at-number.ensures.within, most);
      fits = k.fits _ (part_is at.After-number_at-number) few;
    }

pub loop-pair-preserved : goal.loop-pair-preserved
loop-pair-preserved c =
    let at = goal.at.loop-pair-preserved c in
    (here at.In-Some).further _ _ (part_is at.After-number_at-number) (read_back c.add_pays-sum.result _ (record { sfits = c.add_pays-sum.type_inv }) c.add_pays-sum.ensures)

pub returns : goal.returns
returns c =
    sum_is_all c.args.self.now c.args.player c.args.other.now.end c.args.class c.args.row (along (goal.at.returns c).After-end_in-at)
    (number_at c.args.self.now c.args.player c.args.other.now.plan.now c.args.other.now.end) c.loop-pair.pair-iterator _
    c.loop-pair.invariant c.in-None.ensures.steps.0

pub number_at-number-requires : goal.number_at-number-requires
number_at-number-requires c = record {
  form = grind arith;
  class = (here (goal.at.number_at-number-requires c).In-Some).known.class;
}
