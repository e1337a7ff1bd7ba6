use Rattle.std.proofs.Common.{◌≡◌, length, map, ◌∙◌, ap, subst, arith}
use Rattle.std.proofs.lemmas.List.{length-map}
use Rattle.gs_model.specs.Classes.{list_of}
use Rattle.gs_filter.specs.{Filter.{Filter}, Tallies.{tallies_of}}
use Rattle.gs_filter.proofs.{TallyLaws.{round_tallies, length-tallies_of, tally_read}, classes.Classes.tally_at.Goals.{After-index}}
use Rattle.gs_filter.proofs.classes.Classes.tally_at.Goals as goal

module _ (c : After-index) where
  tallied : c.index.result.now ≡ tallies_of (list_of c.args.self.now.lists c.args.round)
  tallied =
      let all = subst (λ (f : Filter). c.self.inside.tallies.items ≡ map tallies_of f.lists) c.self.view_is c.self.invariant in
      round_tallies c.args.self.now.lists c.self.inside.tallies.items all c.args.round c.index.result.now c.requires.some c.requires.top c.index.ensures

pub at-requires : goal.at-requires
at-requires c =
    let n = ap length (tallied (goal.at.at-requires c).After-index) ∙ length-tallies_of (list_of c.args.self.now.lists c.args.round) in
    omega arith

pub returns : goal.returns
returns c =
    tally_read (list_of c.args.self.now.lists c.args.round) c.index.result.now c.args.class (tallied (goal.at.returns c).After-index) c.requires.class.0
    c.requires.class.1 c.at.result (c.at.ensures c.at.result)

pub index-requires : goal.index-requires
index-requires c =
    let tallied = subst (λ (f : Filter). c.self.inside.tallies.items ≡ map tallies_of f.lists) c.self.view_is c.self.invariant in
    omega (arith, ap length tallied, length-map c.args.self.now.lists tallies_of, c.self.inside.tallies.ok.0, c.requires.some, c.requires.top)
