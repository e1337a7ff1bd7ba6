use Rattle.std.proofs.lemmas.Grind.{common_steps}
use Rattle.std.proofs.Common.{◌≡◌, length, ◌∙◌, arith}
use Rattle.gs_tree.proofs.Ones.{at_rest, at_wide, wide_in}
use Rattle.gs_tree.proofs.ways.Ways.of.Goals as goal

pub index-requires-else-behind-len : goal.index-requires-else-behind-len
index-requires-else-behind-len c =
    let long : c.len-else-behind-len.result ≡ length c.self.inside.rest.items = c.len-else-behind-len.ensures ∙ c.self.inside.rest.ok.0 in
    let in' = wide_in c.self.inside.ones c.self.inside.rest.items c.self.inside.wide.items c.args.self.now c.args.signal
    c.len-else-behind-len.result c.self.view_is c.requires long
    (omega (arith, c.if-behind-len.false, c.len.ensures, c.len-else-behind-len.ensures)) c.if-signal-ones.false in
    omega (arith, in', c.self.inside.wide.ok.0)

pub returns-then-behind-len : goal.returns-then-behind-len
returns-then-behind-len c =
    c.from.ensures ∙ at_rest c.self.inside.ones c.self.inside.rest.items c.self.inside.wide.items c.args.self.now c.args.signal c.index.result.now
    c.self.view_is c.if-signal-ones.false (omega (arith, c.if-behind-len.true, c.len.ensures, c.self.inside.rest.ok.0)) c.index.ensures

pub returns-else-behind-len : goal.returns-else-behind-len
returns-else-behind-len c =
    at_wide c.self.inside.ones c.self.inside.rest.items c.self.inside.wide.items c.args.self.now c.args.signal c.len-else-behind-len.result
    c.index-else-behind-len.result.now c.self.view_is c.requires (c.len-else-behind-len.ensures ∙ c.self.inside.rest.ok.0)
    (omega (arith, c.if-behind-len.false, c.len.ensures, c.len-else-behind-len.ensures)) c.if-signal-ones.false c.index-else-behind-len.ensures

pub returns-then-signal-ones : goal.returns-then-signal-ones
returns-then-signal-ones c = grind (arith, common_steps)
