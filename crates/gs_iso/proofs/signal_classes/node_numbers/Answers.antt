use Rattle.std.proofs.Common.{◌≡◌, ◌+◌, ◌-◌, ◌<◌, ◌∷◌, [], ◌∙◌, ℕ, List, Vec, Global, ap, arith, get_or, length, length-append, subst, sym}
use Rattle.gs_model.specs.{Game.{Game, round_count}, Rows.{rows}}
use Rattle.gs_filter.proofs.RowLaws.{length-rows, row_read}
use Rattle.gs_tree.specs.Trees.{rules_of}
use Rattle.gs_iso.specs.Numbers.{IsNumbering}
use Rattle.gs_iso.proofs.Listed.{rows_more}
use Rattle.gs_iso.proofs.signal_classes.node_numbers.Goals as goal

-- one list alone is that of the last round
first_row : (g : Game) (vs : List (Vec ℕ Global)) (last : Vec ℕ Global) → vs ≡ last ∷ [] → IsNumbering g (round_count g) last.items
    → (k : ℕ) → k < length vs → IsNumbering g (round_count g - k) (get_or (rows vs) k [])
first_row g vs last e h k l =
    let one : length vs ≡ 1 = ap (λ (xs : List (Vec ℕ Global)). length xs) e in
    let none : k ≡ 0 = omega (arith, l, one) in
    let whole : round_count g ≡ round_count g - 0 = omega arith in
    subst (λ (xs : List (Vec ℕ Global)). IsNumbering g (round_count g - k) (get_or (rows xs) k [])) (sym e)
    (subst (λ n. IsNumbering g (round_count g - n) (get_or (rows (last ∷ [])) n [])) (sym none)
    (subst (λ r. IsNumbering g r last.items) whole h))

pub loop-done-preserved : goal.loop-done-preserved
loop-done-preserved c =
    let g = rules_of c.args.signals.now in
    let all = c.loop-done.numbers.items in
    let here = c.in_ok-here.here in
    let pushed = c.in_ok-push.ensures.items in
    let e : c.rounds-rounds.result - c.loop-done.done ≡ round_count g - length all = omega (arith, c.rounds-rounds.ensures.value, c.loop-done.invariant.long) in
    record {
      long = ap length pushed ∙ length-append all (here ∷ []) ∙ ap (λ k. k + 1) c.loop-done.invariant.long;
      each = subst (λ (vs : List (Vec ℕ Global)). (k : ℕ) → k < length vs → IsNumbering g (round_count g - k) (get_or (rows vs) k [])) (sym pushed)
          (rows_more (λ k l. IsNumbering g (round_count g - k) l) all here c.loop-done.invariant.each
          (subst (λ r. IsNumbering g r here.items) e c.in_ok-here.ensures));
    }

pub returns : goal.returns
returns c =
    let n = length-rows c.loop-done.numbers.items in
    record {
      rounds = omega (
        arith,
        n,
        c.loop-done.invariant.long,
        c.loop-done-test.false,
        c.loop-done.auto.done-end (omega (arith, c.rounds-rounds.ensures.some)),
        c.rounds-rounds.ensures.value,
      );
      each = λ k l. c.loop-done.invariant.each k (omega (arith, l, n));
    }

pub loop-done-init : goal.loop-done-init
loop-done-init c =
    let made = c.in_ok-numbers.ensures.items in
    record {
      long = ap (λ (vs : List (Vec ℕ Global)). length vs) made;
      each = first_row (rules_of c.args.signals.now) c.in_ok-numbers.numbers.items c.in_ok-last.last made c.in_ok-last.ensures;
    }

pub child_numbers-requires : goal.child_numbers-requires
child_numbers-requires c = record {
  some = omega (arith, c.loop-done-test.true);
  before_last = omega (arith, c.loop-done-test.true, c.loop-done.auto.done, c.rounds-rounds.ensures.value);
  numbers = let g = rules_of c.args.signals.now in
      let all = c.loop-done.numbers.items in
      let i = c.from.result - 1 in
      let lt : i < length all = omega (arith, c.from.ensures, c.loop-done.invariant.long, c.loop-done.auto.done) in
      let read : c.deref.result.now ≡ get_or (rows all) i [] = c.deref.ensures.value ∙ row_read all i c.index-below.result.now lt c.index-below.ensures in
      let e : round_count g - i ≡ c.rounds-rounds.result - c.loop-done.done + 1 =
      omega (arith, c.rounds-rounds.ensures.value, c.from.ensures, c.loop-done-test.true, c.loop-done.auto.done) in
      subst (IsNumbering g (c.rounds-rounds.result - c.loop-done.done + 1)) (sym read)
      (subst (λ r. IsNumbering g r (get_or (rows all) i [])) e (c.loop-done.invariant.each i lt));
}
