use Rattle.std.proofs.Common.{◌≡◌, ◌+◌, ◌<◌, ◌∙◌, ℕ, List, ap, arith, length, subst, sym}
use Rattle.std.proofs.lemmas.{Grind.{common_steps}, Result.{IfOk-weaker}}
use Rattle.gs_filter.proofs.RowLaws.{length-rows, round_read}
use Rattle.gs_model.specs.{Classes.{list_of}, Frame.{frame_of}}
use Rattle.gs_tree.specs.Trees.{rules_of}
use Rattle.gs_lossless.specs.Amounts.{HasAspect, keys_of}
use Rattle.gs_lossless.proofs.keys.aspect_keys.Goals as goal

pub returns-in-Children : goal.returns-in-Children
returns-in-Children c =
    let f = frame_of (rules_of c.args.signals.now) in
    let lists = c.args.classes.now.lists in
    let now = c.lists.result.now in
    let has = subst (λ s. HasAspect f s c.args.round) c.in-Children.is c.requires.aspect in
    let all = c.args.classes.now.classes.rounds ∙ ap (λ (ps : List (List ℕ)). length ps) c.requires.parents in
    let long = ap (λ (ls : List (List ℕ)). length ls) c.lists.ensures.value in
    let within : c.from.result < length now = omega (arith, has.1, c.from.ensures, all, length-rows now, long) in
    let read : c.deref.result.now ≡ list_of lists (c.args.round + 1) = c.deref.ensures.value
    ∙ round_read now c.from.result c.index-lists-from.result within c.index-lists-from.is
    ∙ ap (λ (ls : List (List ℕ)). list_of ls (c.from.result + 1)) c.lists.ensures.value ∙ ap (λ n. list_of lists (n + 1)) c.from.ensures in
    IfOk-weaker c.from_slice.result _ (λ v. v.items ≡ keys_of f lists c.args.aspect c.args.round)
    (λ v e. e ∙ read ∙ sym (ap (λ s. keys_of f lists s c.args.round) c.in-Children.is)) c.from_slice.ensures.items

pub bounds-lists-from : goal.bounds-lists-from
bounds-lists-from c = grind (arith, common_steps)

pub returns-in-Deals : goal.returns-in-Deals
returns-in-Deals c = grind arith
