use Rattle.std.proofs.Common.{◌≡◌, length, map, ◌∙◌, ap, subst, arith}
use Rattle.std.proofs.lemmas.List.{length-map}
use Rattle.gs_model.specs.Classes.{list_of, class_count}
use Rattle.gs_filter.specs.{Filter.{Filter}, Tallies.{tallies_of}}
use Rattle.gs_filter.proofs.{TallyLaws.{round_tallies, length-tallies_of}, ClassLaws.{count_fits}}
use Rattle.gs_filter.proofs.classes.Classes.classes.Goals as goal

module _ (c : goal.After-len) where
  count : c.len.result ≡ class_count c.args.self.now.lists c.args.round
  count =
      let tallied = subst (λ (f : Filter). c.self.inside.tallies.items ≡ map tallies_of f.lists) c.self.view_is c.self.invariant in
      let e = round_tallies c.args.self.now.lists c.self.inside.tallies.items tallied c.args.round c.index.result.now c.requires.some c.requires.top
      c.index.ensures in
      c.len.ensures ∙ ap length e ∙ length-tallies_of (list_of c.args.self.now.lists c.args.round)

pub overflow_cast-result : goal.overflow_cast-result
overflow_cast-result c =
    let e = count c in
    let s = count_fits c.args.self.now c.args.round c.requires.some c.requires.top in
    omega arith

pub returns : goal.returns
returns c = count c

pub index-requires : goal.index-requires
index-requires c =
    let tallied = subst (λ (f : Filter). c.self.inside.tallies.items ≡ map tallies_of f.lists) c.self.view_is c.self.invariant in
    omega (arith, ap length tallied, length-map c.args.self.now.lists tallies_of, c.self.inside.tallies.ok.0, c.requires.some, c.requires.top)
