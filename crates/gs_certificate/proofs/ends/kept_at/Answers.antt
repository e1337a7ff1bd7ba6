use Rattle.std.proofs.{lemmas.List.{get_or_default}, lemmas.Grind.{get_or_default_zero, common_steps}}
use Rattle.std.proofs.Common.{◌≡◌, ◌+◌, ◌-◌, ◌<◌, length, get_or, sym, ap, ◌∙◌, of_z, to_z, arith}
use Rattle.std.specs.{Prelude.{ℤ, pos}, Int.{w128}}
use Rattle.gs_certificate.proofs.{Compared.{kept}, Together.{end_small}}
use Rattle.gs_certificate.proofs.ends.kept_at.Goals as goal

pub overflow_add-index : goal.overflow_add-index
overflow_add-index c = grind (arith, common_steps)

pub returns : goal.returns
returns c =
    let d = c.args.side.now in
    let z = c.args.end in
    let k = c.args.class in
    let e = c.requires.ends in
    let starts = c.args.ends.now.starts.items in
    let sums = c.args.ends.now.sums.items in
    let start : c.index.result.now ≡ get_or starts z 0 =
    c.index.ensures ∙ get_or_default_zero starts z c.index.result.now (omega (arith, e.long, c.requires.end)) in
    let place : c.index.result.now + k - 1 ≡ get_or starts z 0 + (k - 1) = omega (arith, start, c.requires.class.0) in
    let inside : c.index.result.now + k - 1 < length sums = omega (arith, place, e.within z c.requires.end, c.requires.class.0, c.requires.class.1) in
    let sum = c.index-2.ensures ∙ get_or_default sums (c.index.result.now + k - 1) c.index-2.result.now (pos 0) inside
    ∙ ap (λ i. get_or sums i (pos 0)) place ∙ e.paid z k c.requires.end c.requires.class in
    ap (λ (n : ℤ). to_z w128 (of_z w128 n)) sum ∙ sym (kept _ (end_small d z k c.requires.end c.requires.class))

pub index-requires-2 : goal.index-requires-2
index-requires-2 c = grind (arith, common_steps)
