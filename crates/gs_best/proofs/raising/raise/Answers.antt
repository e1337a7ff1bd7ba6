use Rattle.std.proofs.lemmas.Grind.{common_steps}
use Rattle.std.proofs.{Common.{◌≡◌, ℕ, true, false, cond, get_or, sym, ap, ◌∙◌, arith, rules}, lemmas.Int.{to_z-of_z}}
use Rattle.std.specs.{Prelude.{ℤ, pos}, Int.RustNames.{FitsSigned}}
use mir.Syntax.{w128}
use Rattle.gs_best.specs.Rows.{raises}
use Rattle.gs_best.proofs.{Written.{rest_more, row_keeps, row_more}, raising.raise.Goals.{then-is_raised, else-is_raised}}
use Rattle.gs_best.proofs.raising.raise.Goals as goal

pub loop-class-preserved : goal.loop-class-preserved
loop-class-preserved c =
    let i = c.loop-class.class in
    let inv = c.loop-class.invariant in
    let old = c.args.best.now in
    let was = c.args.moves.now in
    let worths = c.args.worths.now in
    let choice = c.args.choice in
    let test = λ (k : ℕ). raises choice (get_or old k (pos 0)) (get_or worths k (pos 0)) in
    let F : ℕ → ℤ = λ k. cond (test k) (get_or worths k (pos 0)) (get_or old k (pos 0)) in
    let G : ℕ → ℕ = λ k. cond (test k) choice (get_or was k 0) in
    let fb : FitsSigned w128 (get_or c.loop-class.best i (pos 0)) = search rules in
    let fw : FitsSigned w128 (get_or worths i (pos 0)) = search rules in
    let told : c.is_raised.result ≡ test i = simp to_z-of_z at c.is_raised.ensures
    ∙ ap (λ z. raises choice z (get_or worths i (pos 0))) (inv.rest_best i (omega arith)) in
    elim c.if-is_raised.branch [
      | then-is_raised w ↦
          let yes : test i ≡ true = sym told ∙ w.if-is_raised.true in record {
            best = λ k l. ap (λ x. get_or x k (pos 0)) w.best-is
                ∙ row_more F c.loop-class.best i _ (pos 0) (omega arith)
                (to_z-of_z w128 (get_or worths i (pos 0)) fw ∙ sym (ap (λ b. cond b (get_or worths i (pos 0)) (get_or old i (pos 0))) yes)) inv.best k l;
            moves = λ k l. ap (λ x. get_or x k 0) w.moves-is ∙ row_more G c.loop-class.moves i choice 0 (omega arith)
                (sym (ap (λ b. cond b choice (get_or was i 0)) yes)) inv.moves k l;
            rest_best = λ k l. ap (λ x. get_or x k (pos 0)) w.best-is ∙ rest_more c.loop-class.best old i _ (pos 0) inv.rest_best k l;
            rest_moves = λ k l. ap (λ x. get_or x k 0) w.moves-is ∙ rest_more c.loop-class.moves was i choice 0 inv.rest_moves k l;
          }
      | else-is_raised w ↦
          let no : test i ≡ false = sym told ∙ w.if-is_raised.false in record {
            best = λ k l. ap (λ x. get_or x k (pos 0)) w.best-is
                ∙ row_keeps F c.loop-class.best i (pos 0) (inv.rest_best i (omega arith)
                ∙ sym (ap (λ b. cond b (get_or worths i (pos 0)) (get_or old i (pos 0))) no)) inv.best k l;
            moves = λ k l. ap (λ x. get_or x k 0) w.moves-is ∙ row_keeps G c.loop-class.moves i 0
                (inv.rest_moves i (omega arith) ∙ sym (ap (λ b. cond b choice (get_or was i 0)) no)) inv.moves k l;
            rest_best = λ k l. ap (λ x. get_or x k (pos 0)) w.best-is ∙ inv.rest_best k (omega arith);
            rest_moves = λ k l. ap (λ x. get_or x k 0) w.moves-is ∙ inv.rest_moves k (omega arith);
          }
    ]

pub bounds-moves-class : goal.bounds-moves-class
bounds-moves-class c = omega (arith, c.loop-class-test.true, c.requires.moves, c.loop-class.auto.moves)

pub bounds-best-class : goal.bounds-best-class
bounds-best-class c = omega (arith, c.loop-class-test.true, c.requires.best, c.loop-class.auto.best)

pub returns : goal.returns
returns c = grind (arith, common_steps)

pub offset_bounds-best-class-then-is_raised : goal.offset_bounds-best-class-then-is_raised
offset_bounds-best-class-then-is_raised c = omega arith

pub bounds-worths-class-then-is_raised : goal.bounds-worths-class-then-is_raised
bounds-worths-class-then-is_raised c = omega arith

pub offset_bounds-worths-class-then-is_raised : goal.offset_bounds-worths-class-then-is_raised
offset_bounds-worths-class-then-is_raised c = grind arith
