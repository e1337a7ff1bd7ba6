use Rattle.std.proofs.Common.{◌≡◌, ◌↔◌, IsTrue, rules, sym, ap, ◌∙◌}
use Rattle.gs_bet.specs.{Grammar.{tree_text}, TreeView.{plain}}
use Rattle.gs_bet.proofs.Parsing.{same_tree}
use Rattle.gs_raw_commands.proofs.games.same_tree.Goals as goal

pub returns : goal.returns
returns c =
    let t = plain c.args.one.now.tree in
    let u = plain c.args.two.now.tree in
    let h : IsTrue c.eq.result ↔ (c.as_bytes.result.now ≡ c.as_bytes-2.result.now) = search rules in
    let first : c.as_bytes.result.now ≡ tree_text t = c.as_bytes.ensures.value ∙ c.in_ok-first.ensures in
    let second : c.as_bytes-2.result.now ≡ tree_text u = c.as_bytes-2.ensures.value ∙ c.in_ok-second.ensures in
    ((λ e. same_tree t u c.args.one.now.sound c.args.two.now.sound (sym first ∙ h.0 e ∙ second)), (λ e. h.1 (first ∙ ap tree_text e ∙ sym second)))
