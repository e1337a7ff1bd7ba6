use Rattle.std.proofs.lemmas.Grind.{common_steps}
use Rattle.std.proofs.Common.{◌∷◌, [], sym, ◌≡◌, ◌+◌, ◌-◌, ◌++◌, ℕ, List, length, map, take, replicate, length-append, ap, ◌∙◌, arith}
use Rattle.std.proofs.lemmas.List.{length-map}
use Rattle.gs_model.specs.Signals.{Seen, showings}
use Rattle.gs_game.specs.Games.{round_rules}
use Rattle.gs_tree.specs.Shown.{seen_of}
use Rattle.gs_tree.proofs.{Grown.{filled}, Results.{held, left_where_ok}}
use Rattle.gs_tree.proofs.tables.push_children.Goals as goal

-- a parent for each signal that was added
pub returns : goal.returns
returns c = record {
  shown = held c.resize.result _ c.in_ok-push_showings.ensures.shown;
  edges = held c.resize.result _ c.in_ok-push_showings.ensures.edges;
  firsts = held c.resize.result _ (c.in_ok-push_showings.ensures.firsts ∙ c.in_ok-push.ensures.items
      ∙ ap (λ (n : ℕ). c.args.grown.now.layer.firsts.items ++ n ∷ []) (c.len.ensures ∙ c.args.grown.now.layer.shown.ok.0));
  parents = let old : List ℕ = c.args.grown.now.parents.items in
      let showing : List Seen = showings c.args.left.now (round_rules c.args.next.now) in
      let all : c.len-2.result ≡ length old + length showing =
      omega (
        arith,
        c.len-2.ensures,
        c.push_showings.new.layer.shown.ok.0,
        ap (λ (x : List Seen). length x) c.in_ok-push_showings.ensures.shown,
        length-map c.push_showings.new.layer.shown.items seen_of,
        length-map c.args.grown.now.layer.shown.items seen_of,
        length-append (map seen_of c.args.grown.now.layer.shown.items) showing,
        c.requires.long,
      ) in
      let was = c.args.grown.now.parents.ok.0 in
      left_where_ok c.resize.result _ _ _ _ c.resize.ensures.items
      (ap (λ (k : ℕ). take c.len-2.result old ++ replicate (c.len-2.result - k) c.args.parent) was
      ∙ filled old c.len-2.result c.args.parent showing (omega arith) (omega arith));
  long = left_where_ok c.resize.result _ _ _ _ (sym c.resize.new.self.ok.0 ∙ c.resize.ensures.len) (c.len-2.ensures ∙ c.push_showings.new.layer.shown.ok.0);
}

pub push_showings-requires : goal.push_showings-requires
push_showings-requires c = grind (arith, common_steps)
