use Rattle.std.proofs.lemmas.Grind.{common_steps}
use Rattle.std.proofs.Common.{List, ap, sym, ◌∙◌, subst, of_z, to_z, to_z-of_z, arith}
use Rattle.std.specs.Prelude.{neg_ℤ}
use mir.Syntax.{w64}
use Rattle.gs_model.specs.{Classes.{IsClass}, Frame.{other_player, round_of}}
use Rattle.gs_seq.specs.{Payoffs.{pair_pays}, Rows.{IsRow}, declared.pair.Pair.{Pair}}
use Rattle.gs_seq.proofs.Turns.{IsKnown}
use Rattle.gs_play.specs.{Pushes.{with_sign}, Sides.{side_frame, side_lists}}
use Rattle.gs_play.proofs.{Pushed.{pair_known, row_begun, row_ended, row_further}, Tells.{choices_kept, choices_next}, pushing.push_row.Goals.{In-Some}}
use Rattle.gs_play.proofs.pushing.push_row.Goals as goal

-- what is known of the pair
pair : (c : In-Some) → IsKnown (side_frame c.args.side.now) (side_lists c.args.side.now) (other_player c.args.side.now.player) c.args.end c.in-Some.pair
pair c =
    pair_known c.args.side.now c.args.end c.args.class c.requires.end c.args.is_on c.args.now c.loop-pair.pair-iterator c.next.new.self c.in-Some.pair
    c.args.tally.now c.loop-pair.tally c.loop-pair.invariant.walk c.in-Some.ensures.steps

pub loop-pair-init : goal.loop-pair-init
loop-pair-init c =
    let side = c.args.side.now in
    let row : List Pair = c.pairs-pair-items.result in
    let is_row = subst (λ r. IsRow (side_frame side) (side_lists side) r c.args.class row) c.end_in-at.ensures.round c.pairs-pair-items.ensures in
    record {
      kept = choices_kept c.requires.room;
      walk = row_begun side c.args.end c.args.class c.requires.end c.args.is_on c.args.now row c.into_iter-pair-iterator.result c.args.tally.now is_row
          c.into_iter-pair-iterator.ensures.into_iter_gives;
    }

pub pays-requires : goal.pays-requires
pays-requires c = let k = pair (goal.at.pays-requires c).In-Some in record { factor = c.stake_of-stake.ensures.few; few = k.weight; moderate = k.signed }

pub loop-pair-preserved : goal.loop-pair-preserved
loop-pair-preserved c =
    let side = c.args.side.now in
    record {
      kept = choices_next c.loop-pair.invariant.kept c.turn_end.ensures.kept;
      walk = row_further side c.args.end c.args.class c.requires.end c.args.is_on c.args.now c.loop-pair.pair-iterator c.next.new.self c.in-Some.pair
          c.args.tally.now c.loop-pair.tally c.loop-pair.invariant.walk c.in-Some.ensures.steps (to_z w64 (of_z w64 c.pays.result)) c.turn_end.new.tally
          (to_z-of_z {w = w64} (record { sfits = c.pays.type_inv }) ∙ c.pays.ensures ∙ c.stake_of-stake.ensures.pays c.in-Some.pair
          ∙ ap (λ e. with_sign c.args.is_on (neg_ℤ (pair_pays (other_player side.player) e c.in-Some.pair))) c.end_in-at.ensures.value)
          (λ pays rise h. c.turn_end.ensures.turned c.args.end pays rise c.requires.end c.requires.way.leads h);
    }

pub returns : goal.returns
returns c = record {
  kept = c.loop-pair.invariant.kept;
  pushed = row_ended c.args.side.now c.args.end c.args.class c.requires.end c.args.is_on c.args.now c.loop-pair.pair-iterator c.args.tally.now c.loop-pair.tally
      c.loop-pair.invariant.walk c.in-None.ensures.steps.0;
}

pub turn_end-requires : goal.turn_end-requires
turn_end-requires c = record {
  way = c.requires.way.way;
  class = let side = c.args.side.now in
      let to = c.requires.way in
      subst (λ r. IsClass (side_lists side) r c.in-Some.pair.two) (ap (round_of (side_frame side)) (sym to.leads) ∙ sym to.way.round)
      (pair (goal.at.turn_end-requires c).In-Some).class;
  room = c.loop-pair.invariant.kept.room;
}

pub pairs-pair-items-requires : goal.pairs-pair-items-requires
pairs-pair-items-requires c = grind (arith, common_steps)
