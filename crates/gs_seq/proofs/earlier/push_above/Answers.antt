use Rattle.std.proofs.Common.{◌≡◌, ◌+◌, ◌++◌, ◌∷◌, [], ℕ, map, take, get_or, pos, sym, ap, ◌∙◌, append_assoc, arith}
use Rattle.std.proofs.lemmas.List.{map_push, take_all, take_more}
use Rattle.gs_lossless.specs.declared.parts.Part.{Part}
use Rattle.gs_seq.specs.{Rows.{part_up}, declared.pair.Pair.{Pair}}
use Rattle.gs_seq.proofs.EarlierRows.{up_is}
use Rattle.gs_seq.proofs.earlier.push_above.Goals as goal

pub loop-pair-preserved : goal.loop-pair-preserved
loop-pair-preserved c =
    let f = c.args.classes.now in
    let up = part_up f c.args.round in
    let row = c.args.row.now in
    let i = c.loop-pair.pair-index in
    let d : Pair = record { two = 0; weight = 0; signed = pos 0 } in
    let pair = get_or row i d in
    let made : ℕ → Part = λ m. record { class = m; outcome = pos 0; weight = pair.weight } in
    let part : made c.parent_class.result ≡ up pair = ap made (up_is f c.args.round pair.two c.parent_class.result c.requires.some c.requires.before_last
    (c.requires.classes i d c.loop-pair-test.true) c.parent_class.ensures.value) in
    let before = c.args.parts.now.items in
    let more : map up (take (i + 1) row) ≡ map up (take i row) ++ up pair ∷ [] = ap (map up) (take_more row i d c.loop-pair-test.true)
    ∙ map_push up (take i row) pair in
    c.in_ok-push.ensures.items ∙ ap (λ xs. xs ++ made c.parent_class.result ∷ []) c.loop-pair.invariant
    ∙ ap (λ p. before ++ map up (take i row) ++ p ∷ []) part
    ∙ append_assoc before (map up (take i row)) (up pair ∷ []) ∙ ap (λ ys. before ++ ys) (sym more)

pub returns : goal.returns
returns c = c.loop-pair.invariant ∙ ap (λ xs. c.args.parts.now.items ++ map (part_up c.args.classes.now c.args.round) xs)
    (take_all c.loop-pair.pair-index c.args.row.now (omega (arith, c.loop-pair-test.false)))

pub parent_class-requires-clause-class : goal.parent_class-requires-clause-class
parent_class-requires-clause-class c = grind arith
