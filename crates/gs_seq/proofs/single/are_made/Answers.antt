use Rattle.std.proofs.Common.{◌≡◌, ◌∙◌, sym, subst, arith}
use Rattle.gs_model.specs.Frame.{last_round}
use Rattle.gs_model.proofs.Walked.{last_round_of}
use Rattle.gs_tree.specs.Trees.{rules_of}
use Rattle.gs_seq.specs.{Games.{frame_in}, Rows.{IsSingleIn}}
use Rattle.gs_seq.proofs.SlotLaws.{over}
use Rattle.gs_seq.proofs.single.are_made.Goals as goal

pub returns-then-is_large : goal.returns-then-is_large
returns-then-is_large c =
    let last : c.rounds.result ≡ last_round (frame_in c.args.signals.now.game.now) = c.rounds.ensures.value
    ∙ sym (last_round_of (rules_of c.args.signals.now)) in
    λ t. subst (IsSingleIn c.args.classes.now.lists) last (c.is_single.ensures t)

pub returns-else-is_large : goal.returns-else-is_large
returns-else-is_large c = grind arith

pub is_single-requires : goal.is_single-requires
is_single-requires c = record {
  some = grind arith;
  top = let f = frame_in c.args.signals.now.game.now in
      omega (arith, c.rounds.ensures.value, last_round_of (rules_of c.args.signals.now), (over f c.args.classes.now c.requires).rounds);
}
