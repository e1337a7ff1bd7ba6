use Rattle.std.proofs.{Common.{Result, Ok, Err, ◌≡◌, ℕ, ◌++◌, length, take, drop, sym, subst, ◌∙◌, arith}, lemmas.List.{take_at}}
use Rattle.gs_simplex.specs.{declared.program.Program.{Program}, Program.{Listing, IsPairList}, Path.{PathStops, ends}, declared.answer.Best.{Best}}
use Rattle.gs_simplex.specs.{declared.table.Table.{Table}, Table.{grid_of, IsTableOf}, State.{IsEnd}}
use Rattle.gs_simplex.specs.{Answer.{IsSmallTable, IsPathError, IsAnswer, IsBest, IsBestAt, IsBestTable}, declared.answer.PathError.{PathError}}
use Rattle.std.specs.Result.{IsErrAnd}
use Rattle.gs_simplex.proofs.Paths.{rows_of_so_far, ends_stops}
use Rattle.gs_simplex.proofs.sparse.Program.run.Goals as goal

taken : (n : ℕ) (xs ys : Listing) → length xs ≡ n → take n (xs ++ ys) ≡ xs
taken n xs ys e = take_at xs ys n e

end_rows : (p : Program) (o : Listing) (limit n : ℕ) (l l' : Listing) (t : Table) → IsEnd p o limit n l t → l' ≡ l → IsTableOf p l' (grid_of p t)
end_rows p o limit n l l' t u el = let P : Listing → Type 0 = λ x. IsTableOf p x (grid_of p t) in subst P (sym el) (rows_of_so_far u.state.so_far)

best_of : (p : Program) (o : Listing) (limit n : ℕ) (l l' : Listing) (t : Table) (b : Best) → IsSmallTable p → IsEnd p o limit n l t → l' ≡ l
    → IsBestTable p l' n b → IsBest p o limit b
best_of p o limit n l l' t b small u el w =
    let stop : PathStops p o limit (ends n l) = ends_stops n u.state.so_far u.state.table u.within u.none in
    let P : ℕ → Type 0 = λ k. PathStops p o limit (ends k b.basis.items) in let Q : Listing → Type 0 = λ x. PathStops p o limit (ends n x) in
    let B : Listing → Type 0 = λ x. IsBestAt p x w.best.0 w.best.1 b.value.items b.price.items in
    record {
      small = small;
      stops = subst P (sym w.pivots_are) (subst Q (sym (w.basis_is ∙ el)) stop);
      values = w.values;
      prices = w.prices;
      last = (w.best.0, w.best.1, subst B (sym w.basis_is) w.best.2);
    }

err_answer : (p : Program) (o : Listing) (limit : ℕ) (r : Result Best PathError) (s : PathError) → IsErrAnd r (λ x. x ≡ s) → IsPathError p o limit s
    → IsAnswer p o limit r
err_answer p o limit (Ok b) s e h = absurd e
err_answer p o limit (Err x) s e h = let P : PathError → Type 0 = λ y. IsPathError p o limit y in subst P (sym e) h

pub returns-in_err-basis : goal.returns-in_err-basis
returns-in_err-basis c =
    err_answer c.args.self.now c.args.opening.now c.args.limit c.from_residual.result c.in_err-basis.field-0.0 c.from_residual.ensures.1
    (c.in_err-basis.ensures c.args.limit)

pub best-requires-clause-rows : goal.best-requires-clause-rows
best-requires-clause-rows c =
    let l = c.follow.new.basis in let b = c.in_ok-basis.field-0.basis in
    end_rows c.args.self.now c.args.opening.now c.args.limit c.in_ok-pivots.pivots l (take b.len (l ++ drop (length l) b.items)) c.follow.new.table
    c.in_ok-pivots.ensures (taken b.len l (drop (length l) b.items) (omega (arith, c.follow.auto.basis, c.deref_mut.ensures.len)))

pub returns : goal.returns
returns c =
    let l = c.follow.new.basis in let b = c.in_ok-basis.field-0.basis in
    best_of c.args.self.now c.args.opening.now c.args.limit c.in_ok-pivots.pivots l (take b.len (l ++ drop (length l) b.items)) c.follow.new.table
    c.in_ok-best.field-0 c.in_ok-basis.ensures.small c.in_ok-pivots.ensures
    (taken b.len l (drop (length l) b.items) (omega (arith, c.follow.auto.basis, c.deref_mut.ensures.len))) c.in_ok-best.ensures

pub best-requires-clause-pairs : goal.best-requires-clause-pairs
best-requires-clause-pairs c =
    let l = c.follow.new.basis in let b = c.in_ok-basis.field-0.basis in
    subst (λ (x : Listing). IsPairList c.args.self.now x) (sym (taken b.len l (drop (length l) b.items) (c.follow.auto.basis ∙ c.deref_mut.ensures.len)))
    c.in_ok-pivots.ensures.state.pairs

pub begin-requires : goal.begin-requires
begin-requires c = c.requires.opened

pub best-requires-clause-small_rows : goal.best-requires-clause-small_rows
best-requires-clause-small_rows c = grind arith
