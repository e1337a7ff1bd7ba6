use Rattle.std.proofs.{lemmas.Grind.{common_steps}, Common.{◌≡◌, ℕ, List, [], get_or, ap, ◌∙◌, arith}, lemmas.List.{get_or-map}}
use Rattle.gs_model.specs.{Deals.{path_weight}, Game.{Game, round_count}, Signals.{signal_at, signals}}
use Rattle.gs_model.proofs.Facing.{leaves_are_deals}
use Rattle.gs_tree.specs.Trees.{rules_of}
use Rattle.gs_tree.proofs.signals.Signals.path_weight.Goals as goal

pub of-requires : goal.of-requires
of-requires c = grind (arith, common_steps)

pub returns : goal.returns
returns c = record {
  value = grind (arith, common_steps);
  some = let s = c.args.self.now in
      let g : Game = rules_of s in
      let value : c.of.result ≡ path_weight g.copies (signal_at g (round_count g) c.args.signal) =
      c.of.ensures ∙ ap (λ (x : List ℕ). get_or x c.args.signal 0) s.sound.dealt.weighed
      ∙ get_or-map (path_weight g.copies) (signals g (round_count g)) c.args.signal [] 0 c.requires in
      omega (arith, value, (leaves_are_deals g c.args.signal c.requires).0);
}
