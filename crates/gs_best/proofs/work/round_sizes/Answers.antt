use Rattle.std.proofs.{Common.{◌≡◌, ◌+◌, ◌++◌, ◌∷◌, [], List, ℕ, map, ap, sym, ◌∙◌, arith}, lemmas.List.{map-append}}
use Rattle.std.specs.List.{range_with_len}
use Rattle.gs_model.specs.{Classes.{class_count}, Frame.{last_round}}
use Rattle.gs_model.proofs.Sparse.{range_append}
use Rattle.gs_seq.specs.Abstracts.{abstract_frame, lists_of}
use Rattle.gs_best.specs.{Rounds.{size_of}, Sizes.{points_of_round}, declared.work.RoundSize.{RoundSize}}
use Rattle.gs_best.proofs.work.round_sizes.Goals as goal

pub loop-before-preserved : goal.loop-before-preserved
loop-before-preserved c =
    let f = abstract_frame c.args.form.now in
    let lists = lists_of c.args.form.now in
    let i = c.loop-before.before in
    let size : ℕ → ℕ × ℕ = λ j. (points_of_round f j, class_count lists j) in
    let new : RoundSize = record { points = c.points_of.result; classes = c.class_total.result } in
    let next : i + 1 ≡ 1 + i = omega arith in
    let points : ℕ → ℕ × ℕ = λ n. (n, c.class_total.result) in
    let classes : ℕ → ℕ × ℕ = λ n. (points_of_round f (i + 1), n) in
    let here : size_of new ≡ size (1 + i) = ap points c.points_of.ensures ∙ ap classes c.class_total.ensures.value ∙ ap size next in
    let front : List (ℕ × ℕ) = map size (range_with_len 1 i) in
    let join : ℕ × ℕ → List (ℕ × ℕ) = λ s. front ++ s ∷ [] in
    let behind : List (ℕ × ℕ) → List (ℕ × ℕ) = λ l. l ++ size_of new ∷ [] in
    ap (map size_of) c.in_ok-push.ensures.items ∙ map-append size_of c.loop-before.sizes.items (new ∷ []) ∙ ap behind c.loop-before.invariant ∙ ap join here
    ∙ sym (map-append size (range_with_len 1 i) (range_with_len (1 + i) 1))
    ∙ ap (map size) (sym (range_append 1 i 1))

pub returns : goal.returns
returns c =
    let f = abstract_frame c.args.form.now in
    let lists = lists_of c.args.form.now in
    let size : ℕ → ℕ × ℕ = λ j. (points_of_round f j, class_count lists j) in
    let all : c.loop-before.before ≡ last_round f =
    omega (arith, c.loop-before-test.false, c.loop-before.auto.before-end, c.round_total-rounds.ensures.value) in
    c.loop-before.invariant ∙ ap (λ n. map size (range_with_len 1 n)) all

pub class_total-requires-clause-top : goal.class_total-requires-clause-top
class_total-requires-clause-top c = omega arith
