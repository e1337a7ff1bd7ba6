use Rattle.std.proofs.Common.{ℕ, ℤ, List, ap, map, subst, sym, ◌≡◌, ◌∙◌}
use Rattle.std.specs.{Prelude.{IfOk}, Global.{Vec}}
use Rattle.gs_model.specs.{Deals.{path_weight}, Game.{round_count}, Signals.{signal_at}, ViewTree.{leaves}}
use Rattle.gs_model.proofs.Facing.{leaves_are_deals}
use Rattle.gs_tree.specs.Trees.{rules_of}
use Rattle.gs_iso.specs.Orders.{leaf_of}
use Rattle.gs_iso.proofs.leaves.leaves_under.Goals as goal

pub returns : goal.returns
returns c =
    let g = rules_of c.args.signals.now in
    let s = signal_at g (round_count g) c.args.signal in
    let made : map (leaf_of c.path_weight.result) c.deals_of.result ≡ leaves g s =
    ap (λ (p : ℕ). map (leaf_of p) c.deals_of.result) c.path_weight.ensures.value
    ∙ ap (map (leaf_of (path_weight g.copies s))) c.deals_of.ensures
    ∙ sym (leaves_are_deals g c.args.signal c.requires).2 in
    subst (λ (l : List (ℕ × ℤ)). IfOk c.leaves_of.result (λ (v : Vec (ℕ × ℤ)). v.items ≡ l)) made c.leaves_of.ensures
