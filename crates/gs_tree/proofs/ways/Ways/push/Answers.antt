use Rattle.std.proofs.Common.{arith, ◌++◌, ◌∷◌, [], ℕ, List, ap, sym, replicate, ◌∙◌, append_assoc}
use Rattle.gs_tree.proofs.Ones.{more_ones, more_rest}
use Rattle.gs_tree.proofs.ways.Ways.push.Goals as goal

pub returns-in_ok-push : goal.returns-in_ok-push
returns-in_ok-push c =
    let ones : List ℕ = replicate c.self.inside.ones 1 in
    let rest : List ℕ = c.self.inside.rest.items in
    ap (λ x. (ones ++ rest) ++ x) c.in_ok-push.ensures.items ∙ sym (append_assoc (ones ++ rest) c.self.inside.wide.items (c.args.ways ∷ []))
    ∙ ap (λ x. x ++ c.args.ways ∷ []) c.self.view_is

pub returns-in_ok-push-2 : goal.returns-in_ok-push-2
returns-in_ok-push-2 c =
    more_rest c.self.inside.ones c.self.inside.rest.items c.self.inside.wide.items c.args.self.now c.push-else-ways-eq1.new.self.items c.args.ways
    c.self.view_is (grind (arith, c.self.inside.wide.ok.0)) c.in_ok-push-2.ensures.items

pub returns-then-self-lt4294967295 : goal.returns-then-self-lt4294967295
returns-then-self-lt4294967295 c =
    more_ones c.self.inside.ones c.self.inside.rest.items c.self.inside.wide.items c.args.self.now c.args.ways
    c.self.view_is (grind (arith, c.is_empty-then-ways-eq1.ensures, c.if-is_empty.true, c.self.inside.rest.ok.0))
    (grind (arith, c.self.inside.wide.ok.0)) c.if-ways-eq1.true

pub overflow_cast-ways : goal.overflow_cast-ways
overflow_cast-ways c = grind arith

pub invariant_of-self-inside-else-ways-eq1 : goal.invariant_of-self-inside-else-ways-eq1
invariant_of-self-inside-else-ways-eq1 c = grind arith
