use Rattle.std.proofs.lemmas.Grind.{common_steps}
use Rattle.std.proofs.Common.{◌≡◌, ◌+◌, ◌-◌, ◌∷◌, [], ℕ, List, Vec, Global, ap, get_or, length, sym, ◌∙◌, subst, arith}
use Rattle.gs_model.specs.Frame.{last_round}
use Rattle.gs_model.proofs.Walked.{last_round_of}
use Rattle.gs_tree.specs.Trees.{rules_of}
use Rattle.gs_seq.specs.{Games.{frame_in}, declared.pair.Pair.{Pair}}
use Rattle.gs_seq.proofs.CellLaws.{AreRowsOf, put_before}
use Rattle.gs_seq.proofs.rows.rows_listed.Goals as goal

pub rows_in-requires-clause-top : goal.rows_in-requires-clause-top
rows_in-requires-clause-top c = omega (arith, c.rounds-last.ensures.value, last_round_of (rules_of c.args.lossless.now.signals.now))

pub loop-round-init : goal.loop-round-init
loop-round-init c =
    let s = c.args.lossless.now in
    let first = c.in_ok-of_last.of_last in
    let round : ℕ = c.rounds-last.result in
    let last : round ≡ last_round (frame_in s.signals.now.game.now) =
    c.rounds-last.ensures.value ∙ sym (last_round_of (rules_of s.signals.now)) in
    let items : c.in_ok-rows.rows.items ≡ first ∷ [] = c.in_ok-rows.ensures.items in
    record {
      some = c.rounds-last.ensures.some;
      within = omega (arith, last);
      long = omega (arith, ap (λ (xs : List (Vec (Vec Pair Global) Global)). length xs) items, last);
      each = put_before (λ j (v : Vec (Vec Pair Global) Global). AreRowsOf s j v.items) [] c.in_ok-rows.rows.items first round items
          (λ k d l. absurd (omega arith)) c.in_ok-of_last.ensures;
    }

pub index-requires : goal.index-requires
index-requires c = omega (arith, c.loop-round.invariant.within, c.loop-round.invariant.long)

pub rows_above-requires-clause-before_last : goal.rows_above-requires-clause-before_last
rows_above-requires-clause-before_last c = omega (arith, c.loop-round.invariant.within, c.loop-round.invariant.some)

pub rows_above-requires-clause-rows : goal.rows_above-requires-clause-rows
rows_above-requires-clause-rows c =
    let s = c.args.lossless.now in
    let i = c.loop-round.invariant in
    let rows = c.loop-round.rows.items in
    let d = c.index.result.now in
    let at : c.loop-round.round + 0 ≡ c.loop-round.round - 1 + 1 = omega (arith, i.some) in
    let is = c.deref.ensures.value ∙ ap (λ (v : Vec (Vec Pair Global) Global). v.items) c.index.ensures in
    subst (AreRowsOf s (c.loop-round.round - 1 + 1)) (sym is)
    (subst (λ j. AreRowsOf s j (get_or rows 0 d).items) at (i.each 0 d (omega (arith, i.within, i.long))))

pub loop-round-preserved : goal.loop-round-preserved
loop-round-preserved c =
    let s = c.args.lossless.now in
    let i = c.loop-round.invariant in
    let rows = c.loop-round.rows.items in
    let above = c.in_ok-above.above in
    let round : ℕ = c.loop-round.round - 1 in
    let at : c.loop-round.round ≡ round + 1 = omega (arith, i.some) in
    let items : c.insert.new.self.items ≡ above ∷ rows = c.in_ok-insert.ensures.items in
    record {
      some = omega (arith, c.loop-round-test.true);
      within = omega (arith, i.within);
      long = omega (arith, ap (λ (xs : List (Vec (Vec Pair Global) Global)). length xs) items, i.long, at);
      each = put_before (λ j (v : Vec (Vec Pair Global) Global). AreRowsOf s j v.items) rows c.insert.new.self.items above round items
          (λ k d l. subst (λ n. AreRowsOf s (n + k) (get_or rows k d).items) at (i.each k d l)) c.in_ok-above.ensures;
    }

pub returns-clause-all : goal.returns-clause-all
returns-clause-all c = omega (arith, c.loop-round.invariant.long, c.loop-round.invariant.some, c.loop-round-test.false)

pub returns-clause-rows : goal.returns-clause-rows
returns-clause-rows c =
    let s = c.args.lossless.now in
    let i = c.loop-round.invariant in
    let rows = c.loop-round.rows.items in
    let all = returns-clause-all c in
    record {
      most = omega (arith, all);
      fewest = omega (arith, all);
      single = λ l. absurd (omega (arith, l, all));
      in_round = λ round d some within.
          (let at : c.loop-round.round + (round - 1) ≡ round = omega (arith, some, i.some, c.loop-round-test.false) in
          subst (λ j. AreRowsOf s j (get_or rows (round - 1) d).items) at (i.each (round - 1) d (omega (arith, some, within))));
    }

pub rows_above-requires-clause-some : goal.rows_above-requires-clause-some
rows_above-requires-clause-some c = grind arith

pub overflow_step-round : goal.overflow_step-round
overflow_step-round c = grind arith

pub loop-round-smaller : goal.loop-round-smaller
loop-round-smaller c = grind arith

pub returns-in_err-insert : goal.returns-in_err-insert
returns-in_err-insert c = grind (arith, common_steps)
