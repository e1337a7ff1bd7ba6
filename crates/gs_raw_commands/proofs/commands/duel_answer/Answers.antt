use Rattle.std.proofs.Common.{◌≡◌, ℕ, List, Result, Vec, subst}
use Rattle.std.specs.declared.alloc.Global.{Global}
use Rattle.gs_json.specs.FirstLine.{first_line}
use Rattle.gs_reply.specs.{Replies.{Answers, OfFile, Reply}, declared.refusals.Stop.{Stop}, declared.refusals.Which.TheVariants.{First, Second}}
use Rattle.gs_strategy.specs.{Values.{Strategy}, Views.{stored_view}}
use Rattle.gs_raw_commands.specs.Commands.{Duels, SaysDuel}
use Rattle.gs_reply.proofs.{Held.{held, not_held}, Refused.{exits}}
use Rattle.gs_raw_commands.proofs.commands.duel_answer.Goals as goal

-- what is said of the first strategy, where these bytes are behind it
abbrev SaysWith : List ℕ → Strategy → Reply → Type 0
SaysWith rest one = OfFile Second (SaysDuel one) rest

-- what is said of the two files is said of the bytes that hold both
of_both : (all bytes first second : List ℕ) (a : Result (Vec ℕ Global) Stop) → (first, second) ≡ first_line bytes → bytes ≡ all
    → Answers (OfFile First (SaysWith second) first) a → Answers (Duels all) a
of_both all bytes first second a parts same h =
    subst (λ (b : List ℕ). Answers (Duels b) a) same (subst (λ (p : List ℕ × List ℕ). Answers (OfFile First (SaysWith p.1) p.0) a) parts h)

pub returns-in_err-one : goal.returns-in_err-one
returns-in_err-one g c =
    let r = c.first_line.result in
    let says = SaysWith r.1.now in
    of_both (g.B.AsSlice.items c.args.bytes) c.as_slice.result.now r.0.now r.1.now c.from_residual.result c.first_line.ensures c.as_slice.ensures
    (exits (OfFile First says r.0.now) _ _ c.from_residual.ensures.1 (not_held First says r.0.now _ c.in_err-one.ensures.refused))

pub returns-in_err-two : goal.returns-in_err-two
returns-in_err-two g c =
    let r = c.first_line.result in
    let one = stored_view c.in_ok-one.one in
    let no_file = not_held Second (SaysDuel one) r.1.now _ c.in_err-two.ensures.refused in
    of_both (g.B.AsSlice.items c.args.bytes) c.as_slice.result.now r.0.now r.1.now c.from_residual-in_err-two.result c.first_line.ensures c.as_slice.ensures
    (held First (SaysWith r.1.now) r.0.now one _ c.in_ok-one.ensures.stored
    (exits (SaysWith r.1.now one) _ _ c.from_residual-in_err-two.ensures.1 no_file))

pub returns : goal.returns
returns g c =
    let r = c.first_line.result in
    let one = stored_view c.in_ok-one.one in
    of_both (g.B.AsSlice.items c.args.bytes) c.as_slice.result.now r.0.now r.1.now c.dueled.result c.first_line.ensures c.as_slice.ensures
    (held First (SaysWith r.1.now) r.0.now one _ c.in_ok-one.ensures.stored
    (held Second (SaysDuel one) r.1.now (stored_view c.in_ok-two.two) _ c.in_ok-two.ensures.stored c.dueled.ensures))
