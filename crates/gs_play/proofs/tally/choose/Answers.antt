use Rattle.std.proofs.lemmas.Grind.{common_steps}
use Rattle.std.proofs.Common.{◌≡◌, ◌+◌, ◌-◌, List, length, take, drop, set, ap, ◌∙◌, subst, arith}
use Rattle.gs_play.specs.{Tallies.{IsChosen}, declared.line.Line.{Line}, declared.dues.Dues.{Dues}, declared.tally.Tally.{Tally}}
use Rattle.gs_play.proofs.Chosen.{written}
use Rattle.gs_play.proofs.tally.choose.Goals as goal

pub set_due-requires : goal.set_due-requires
set_due-requires c = grind (arith, common_steps)

pub pick-requires : goal.pick-requires
pick-requires c = grind (arith, common_steps)

pub returns : goal.returns
returns c = record {
  worths = grind arith;
  dues = c.set_due.ensures.dues;
  blocks = c.set_due.ensures.blocks ∙ ap (λ (d : Dues). length d.soonest.items) c.pick.ensures.dues;
  found = let a = c.args in
      let t = a.tally.now in
      let now = c.deref.result.now in
      let until = c.first_until-until in
      let many : a.first + a.moves - a.first ≡ a.moves = omega arith in
      let lines : take (a.first + a.moves - a.first) (drop a.first now) ≡ take a.moves (drop a.first t.worths.items) =
      ap (λ n. take n (drop a.first now)) many ∙ ap (λ (xs : List Line). take a.moves (drop a.first xs)) c.deref.ensures.value in
      let p = c.pick.new.tally in
      let new : Tally = record { worths = p.worths; totals = p.totals; dues = c.set_due.new.dues; picks = p.picks; moved = p.moved } in
      subst (λ ls. IsChosen ls a.point a.cell a.clock.turn a.clock.last t new) lines
      (written _ a.point a.cell a.clock.turn a.clock.last c.first_greatest-best.result until.result t new c.requires.picks c.requires.cell
      c.first_greatest-best.ensures.in_range until.ensures.stays (until.ensures.some a.clock.order)
      (ap (λ v. v.items) c.pick.ensures.totals)
      (let h = c.pick.ensures.picked in record { picks = h.picks; long = h.long; here = h.here; others = h.others })
      (c.set_due.ensures.turns ∙ ap (λ (d : Dues). set d.turns.items a.cell until.result) c.pick.ensures.dues));
}
