-- Turns of play with best answers are turns of the matrix game of pure plans.
use Rattle.std.proofs.{Common.{◌≡◌, ℕ, zero, suc, ◌*◌, ◌≤◌, refl, sym, ap, ◌∙◌, subst, arith}, lemmas.Int.{ints}}
use Rattle.std.proofs.Math.Nat.{mul-le-mul_left, mul-le-mul_right}
use Rattle.std.specs.Prelude.{ℤ, pos, ◌+ℤ◌, ◌*ℤ◌, ◌≤ℤ◌}
use borrow.Author.Differences.{product_is}
use Rattle.gs_model.proofs.{Deviations.{lift_is_raw_plan}, Tables.{is_table}, Alike.{keeps_from}}
use Rattle.gs_model.proofs.Gather.{known_from, firsts_from, plan_by}
use Rattle.gs_model.specs.{Classes.{ClassLists, IsClasses}, Frame.{Frame}}
use Rattle.gs_model.specs.{FrameFacts.{InRange, IsWalked, IsExchanged}, Payoff.{raw_payoff}, Plans.{Plan, IsClassPlan, IsRawPlan, lift}}
use Rattle.gs_converge.specs.BestTurns.{IsBestAnswer, AreBestTurns}
use Rattle.gs_converge.proofs.Answered.{first_paid, second_paid}
use Rattle.gs_converge.proofs.{Numbers.{ends_within, ends_add}, Payoffs.{ends, first_same, second_same, first_adds, second_adds, pays_at_most, pays_at_least, stakes}}
use Rattle.gs_converge.proofs.Pure.{HasMoves, pure, pure_count, number_of, number_in, pure_is_raw, pure_is_one, pure_ends}
use Rattle.gs_robinson.proofs.Extended.{columns_after, rows_after, row_after, column_after, columns_kept, rows_kept, columns_new, rows_new}
use Rattle.gs_robinson.proofs.Extended.{no_turns, one_more_turn}
use Rattle.gs_robinson.specs.Matrix.{AreTurns, IsMatrix, IsWithin}

one_of : (n : ℕ) (z : ℤ) → n ≡ 1 → pos n *ℤ z ≡ z
one_of n z e = ap (λ k. pos k *ℤ z) e ∙ by_one z
  where
    by_one : (z : ℤ) → pos 1 *ℤ z ≡ z
    by_one z = let p = product_is (pos 1) z in omega (arith, ints)

products : (a b c d : ℕ) → a ≤ c → b ≤ d → a * b ≤ c * d
products a b c d l m = let x = mul-le-mul_right b l in let y = mul-le-mul_left c m in omega (arith, x, y)

module _ (f : Frame) (lists : ClassLists) (r : InRange f) (w1 : IsWalked f 1) (w2 : IsWalked f 2) (ex : IsExchanged f 1) (k : IsClasses f.parents lists) where
  -- what two raw plans pay is at most the stakes, times both totals
  pub raw_at_most : (x y : Plan) → IsRawPlan f 1 x → IsRawPlan f 2 y → raw_payoff f x y ≤ℤ pos (x.total * y.total * stakes f r)
  raw_at_most x y px py = pays_at_most f r x y (x.total * y.total) (λ z s u lz ls lu.
      products (ends f 1 x z s) (ends f 2 y z u) x.total y.total (ends_within f 1 r w1 x px z s lz ls) (ends_within f 2 r w2 y py z u lz lu))

  pub raw_at_least : (x y : Plan) → IsRawPlan f 1 x → IsRawPlan f 2 y → pos 0 ≤ℤ (raw_payoff f x y +ℤ pos (x.total * y.total * stakes f r))
  raw_at_least x y px py = pays_at_least f r x y (x.total * y.total) (λ z s u lz ls lu.
      products (ends f 1 x z s) (ends f 2 y z u) x.total y.total (ends_within f 1 r w1 x px z s lz ls) (ends_within f 2 r w2 y py z u lz lu))

  ones : (a b s : ℕ) → a ≡ 1 → b ≡ 1 → a * b * s ≡ s
  ones a b s e e' = ap (λ n. n * b * s) e ∙ ap (λ n. 1 * n * s) e' ∙ omega arith

  lifted : (p : ℕ) → IsWalked f p → (x : Plan) → IsClassPlan f lists p x → IsRawPlan f p (lift f lists x)
  lifted p w x plan = lift_is_raw_plan f (is_table f r) lists (keeps_from f lists k.filter) (firsts_from f lists k) p (known_from f p r w) x w.point_in
      (plan_by f lists p x w k plan)

  module _ (h1 : HasMoves f lists 1) (h2 : HasMoves f lists 2) where
    abbrev pub first_pure : ℕ → Plan
    first_pure i = pure f lists 1 r w1 k h1 i

    abbrev pub second_pure : ℕ → Plan
    second_pure j = pure f lists 2 r w2 k h2 j

    abbrev pub entry : ℕ → ℕ → ℤ
    entry i j = raw_payoff f (first_pure i) (second_pure j)

    abbrev count : ℕ
    count = pure_count f lists

    pub is_matrix : IsMatrix (stakes f r) count count entry
    is_matrix = record {
      below = λ i j li lj.
          let h = raw_at_most (first_pure i) (second_pure j) (pure_is_raw f lists 1 r w1 k h1 i) (pure_is_raw f lists 2 r w2 k h2 j) in
          let e = ones (first_pure i).total (second_pure j).total (stakes f r) (pure_is_one f lists 1 r w1 k h1 i) (pure_is_one f lists 2 r w2 k h2 j) in
          subst (λ n. entry i j ≤ℤ pos n) e h;
      above = λ i j li lj.
          let h = raw_at_least (first_pure i) (second_pure j) (pure_is_raw f lists 1 r w1 k h1 i) (pure_is_raw f lists 2 r w2 k h2 j) in
          let e = ones (first_pure i).total (second_pure j).total (stakes f r) (pure_is_one f lists 1 r w1 k h1 i) (pure_is_one f lists 2 r w2 k h2 j) in
          subst (λ n. pos 0 ≤ℤ (entry i j +ℤ pos n)) e h;
    }

    -- the matrix game's turns behind n turns that made the plans x and y
    pub record Trace (n : ℕ) (x y : Plan) : Type 0 where
      pub U : ℕ → ℕ → ℤ
      pub V : ℕ → ℕ → ℤ
      pub row : ℕ → ℕ
      pub column : ℕ → ℕ
      pub turns : AreTurns count count n entry U V row column
      pub start : IsWithin count count U V 0 (2 * stakes f r)
      pub columns : (j : ℕ) → U n j ≡ raw_payoff f (lift f lists x) (second_pure j)
      pub rows : (i : ℕ) → V n i ≡ raw_payoff f (first_pure i) (lift f lists y)
      pub first_total : x.total ≡ suc n
      pub second_total : y.total ≡ suc n

    -- what a best answer is paid is the most that a row of the matrix has, and the least that a column has
    pub first_is_row : (x y bx : Plan) → (b : IsBestAnswer f lists 1 (lift f lists y) bx)
        → raw_payoff f (lift f lists bx) x ≡ raw_payoff f (first_pure (number_of f lists b.move)) x
    first_is_row x y bx b = first_same f r (lift f lists bx) (first_pure (number_of f lists b.move)) x (pure_ends f lists 1 r w1 k h1 (lift f lists y) bx b)

    pub second_is_column : (x y by : Plan) → (b : IsBestAnswer f lists 2 (lift f lists x) by)
        → raw_payoff f y (lift f lists by) ≡ raw_payoff f y (second_pure (number_of f lists b.move))
    second_is_column x y by b = second_same f r y (lift f lists by) (second_pure (number_of f lists b.move))
        (pure_ends f lists 2 r w2 k h2 (lift f lists x) by b)

    row_is_best : (y bx : Plan) → (b : IsBestAnswer f lists 1 (lift f lists y) bx) → (i : ℕ)
        → raw_payoff f (first_pure i) (lift f lists y) ≤ℤ raw_payoff f (first_pure (number_of f lists b.move)) (lift f lists y)
    row_is_best y bx b i =
        let most = first_paid f lists (lift f lists y) bx b (first_pure i) (pure_is_raw f lists 1 r w1 k h1 i) in
        let one = one_of (first_pure i).total (raw_payoff f (lift f lists bx) (lift f lists y)) (pure_is_one f lists 1 r w1 k h1 i) in
        let is = first_is_row (lift f lists y) y bx b in
        subst (λ a. raw_payoff f (first_pure i) (lift f lists y) ≤ℤ a) (one ∙ is) most

    column_is_best : (x by : Plan) → (b : IsBestAnswer f lists 2 (lift f lists x) by) → (j : ℕ)
        → raw_payoff f (lift f lists x) (second_pure (number_of f lists b.move)) ≤ℤ raw_payoff f (lift f lists x) (second_pure j)
    column_is_best x by b j =
        let least = second_paid f lists (lift f lists x) by ex b (second_pure j) (pure_is_raw f lists 2 r w2 k h2 j) in
        let one = one_of (second_pure j).total (raw_payoff f (lift f lists x) (lift f lists by)) (pure_is_one f lists 2 r w2 k h2 j) in
        let is = second_is_column x (lift f lists x) by b in
        subst (λ a. a ≤ℤ raw_payoff f (lift f lists x) (second_pure j)) (one ∙ is) least

    pub trace : (n : ℕ) (x y : Plan) → AreBestTurns f lists n x y → Trace n x y
    trace zero x y h = record {
      U = λ t j. raw_payoff f (lift f lists x) (second_pure j);
      V = λ t i. raw_payoff f (first_pure i) (lift f lists y);
      row = λ t. 0;
      column = λ t. 0;
      turns = no_turns count count entry (λ t j. raw_payoff f (lift f lists x) (second_pure j)) (λ t i. raw_payoff f (first_pure i) (lift f lists y))
          (λ t. 0) (λ t. 0);
      start = λ i j li lj.
          let ri = pure_is_raw f lists 1 r w1 k h1 i in let rj = pure_is_raw f lists 2 r w2 k h2 j in
          let a = raw_at_most (first_pure i) (lift f lists y) ri (lifted 2 w2 y h.1) in
          let b = raw_at_least (lift f lists x) (second_pure j) (lifted 1 w1 x h.0) rj in
          let ea = ones (first_pure i).total y.total (stakes f r) (pure_is_one f lists 1 r w1 k h1 i) h.3 in
          let eb = ones x.total (second_pure j).total (stakes f r) h.2 (pure_is_one f lists 2 r w2 k h2 j) in
          apart (raw_payoff f (first_pure i) (lift f lists y)) (raw_payoff f (lift f lists x) (second_pure j))
          ((first_pure i).total * y.total * stakes f r) (x.total * (second_pure j).total * stakes f r) (stakes f r) a b ea eb;
      columns = λ j. refl;
      rows = λ i. refl;
      first_total = h.2;
      second_total = h.3;
    }
      where
        apart : (v u : ℤ) (a b s : ℕ) → v ≤ℤ pos a → pos 0 ≤ℤ (u +ℤ pos b) → a ≡ s → b ≡ s → v ≤ℤ (u +ℤ pos (2 * s))
        apart v u a b s h l e e' = omega (arith, ints)
    trace (suc n) x y (x', y', bx, by, before, b1, b2, s1, s2) =
        let t = trace n x' y' before in
        let row = number_of f lists b1.move in let column = number_of f lists b2.move in record {
          U = columns_after count count n entry t.U t.V t.row t.column t.turns row column;
          V = rows_after count count n entry t.U t.V t.row t.column t.turns row column;
          row = row_after count count n entry t.U t.V t.row t.column t.turns row column;
          column = column_after count count n entry t.U t.V t.row t.column t.turns row column;
          turns = one_more_turn count count n entry t.U t.V t.row t.column t.turns row column (number_in f lists b1.move) (number_in f lists b2.move)
              (λ i l. let a = t.rows i in let b = t.rows row in let h = row_is_best y' bx b1 i in
              between (t.V n i) (t.V n row) (raw_payoff f (first_pure i) (lift f lists y')) (raw_payoff f (first_pure row) (lift f lists y')) a b h)
              (λ j l. let a = t.columns j in let b = t.columns column in let h = column_is_best x' by b2 j in
              between (t.U n column) (t.U n j) (raw_payoff f (lift f lists x') (second_pure column)) (raw_payoff f (lift f lists x') (second_pure j)) b a h);
          start = λ i j li lj.
              let a = columns_kept count count n entry t.U t.V t.row t.column t.turns row column 0 j (omega arith) in
              let b = rows_kept count count n entry t.U t.V t.row t.column t.turns row column 0 i (omega arith) in
              let c = t.start i j li lj in
              subst (λ v. v ≤ℤ (columns_after count count n entry t.U t.V t.row t.column t.turns row column 0 j +ℤ pos (2 * stakes f r))) (sym b)
              (subst (λ u. t.V 0 i ≤ℤ (u +ℤ pos (2 * stakes f r))) (sym a) c);
          columns = λ j.
              columns_new count count n entry t.U t.V t.row t.column t.turns row column j
              ∙ ap (λ u. u +ℤ entry row j) (t.columns j)
              ∙ ap (λ u. raw_payoff f (lift f lists x') (second_pure j) +ℤ u) (sym (first_is_row (second_pure j) y' bx b1))
              ∙ sym (first_adds f r (lift f lists x') (lift f lists bx) (lift f lists x) (second_pure j) (ends_add f lists 1 r w1 k x' bx x s1));
          rows = λ i.
              rows_new count count n entry t.U t.V t.row t.column t.turns row column i
              ∙ ap (λ u. u +ℤ entry i column) (t.rows i)
              ∙ ap (λ u. raw_payoff f (first_pure i) (lift f lists y') +ℤ u) (sym (second_is_column x' (first_pure i) by b2))
              ∙ sym (second_adds f r (first_pure i) (lift f lists y') (lift f lists by) (lift f lists y) (ends_add f lists 2 r w2 k y' by y s2));
          first_total = (let a = s1.total in let b = b1.one in let c = t.first_total in omega arith);
          second_total = (let a = s2.total in let b = b2.one in let c = t.second_total in omega arith);
        }
      where
        between : (v v' u u' : ℤ) → v ≡ u → v' ≡ u' → u ≤ℤ u' → v ≤ℤ v'
        between v v' u u' a b h = omega (arith, ints)
