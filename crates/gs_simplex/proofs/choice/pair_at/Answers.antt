use Rattle.std.proofs.Common.{◌≡◌, ℕ, ◌+◌, ◌-◌, slice_index_or, ap, ◌∙◌, arith}
use Rattle.gs_simplex.proofs.choice.pair_at.Goals as goal

pub overflow_sub-result : goal.overflow_sub-result
overflow_sub-result c = let n = c.requires.pairs.named c.args.place c.requires.inside in omega (arith, ap (λ (x : ℕ × ℕ). x.0) n.2)

pub overflow_sub-result-2 : goal.overflow_sub-result-2
overflow_sub-result-2 c = let n = c.requires.pairs.named c.args.place c.requires.inside in omega (arith, ap (λ (x : ℕ × ℕ). x.1) n.2)

pair_back : (x : ℕ × ℕ) (i j : ℕ) → x ≡ (i + 1, j + 1) → x ≡ (x.0 - 1 + 1, x.1 - 1 + 1)
pair_back x i j e =
    let a : x.0 ≡ i + 1 = ap (λ (y : ℕ × ℕ). y.0) e in let b : x.1 ≡ j + 1 = ap (λ (y : ℕ × ℕ). y.1) e in
    let f : x.0 ≡ x.0 - 1 + 1 = omega arith in let g : x.1 ≡ x.1 - 1 + 1 = omega arith in
    ap (λ (t : ℕ). (t, x.1)) f ∙ ap (λ (t : ℕ). (x.0 - 1 + 1, t)) g

pub returns : goal.returns
returns c = record {
  pair = let n = c.requires.pairs.named c.args.place c.requires.inside in pair_back
      (slice_index_or c.args.basis.now c.args.place (0, 0)) n.0 n.1 n.2;
  row = let n = c.requires.pairs.named c.args.place c.requires.inside in omega (arith, n.3, ap (λ (x : ℕ × ℕ). x.0) n.2);
  column = let n = c.requires.pairs.named c.args.place c.requires.inside in omega (arith, n.4, ap (λ (x : ℕ × ℕ). x.1) n.2);
}
