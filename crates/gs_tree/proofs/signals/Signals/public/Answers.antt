use Rattle.std.proofs.Common.{◌∙◌}
use Rattle.gs_model.specs.Game.{round_count}
use Rattle.gs_tree.specs.Trees.{rules_of}
use Rattle.gs_tree.proofs.Parts.{public_part, public_room}
use Rattle.gs_tree.proofs.signals.Signals.public.Goals as goal

pub part-requires : goal.part-requires
part-requires c = rw c.deref.ensures.value (public_room (rules_of c.args.self.now) (round_count (rules_of c.args.self.now)) c.args.self.now.hands.paths
    c.args.self.now.hands.owns.items c.args.self.now.hands.publics.items c.args.self.now.hands.own c.args.self.now.hands.public c.args.self.now.sound.dealt
    c.args.signal c.requires)

pub returns : goal.returns
returns c = c.part.ensures ∙ rw c.deref.ensures.value
    (public_part (rules_of c.args.self.now) (round_count (rules_of c.args.self.now)) c.args.self.now.hands.paths c.args.self.now.hands.owns.items
    c.args.self.now.hands.publics.items c.args.self.now.hands.own c.args.self.now.hands.public c.args.self.now.sound.dealt c.args.signal c.requires)
