use Rattle.std.proofs.Common.{Result, Ok, Err, ◌≡◌, ℕ, ◌+◌, ℤ, pos, ◌<ℤ◌, length, refl, sym, subst}
use Rattle.gs_simplex.specs.{declared.program.Program.{Program}, Program.{Listing}, declared.answer.Path.{Path}, Trace.{IsPathAnswer}}
use Rattle.gs_simplex.specs.{declared.answer.PathError.{PathError}, Table.{grid_of, table_aim}, State.{IsSoFar}, Answer.{IsPathError}}
use Rattle.std.specs.Result.{IsErrAnd}
use Rattle.gs_simplex.proofs.{Paths.{rows_at}, Kept.{multiple_kept}, Traces.{shown_of}}
use Rattle.gs_simplex.proofs.sparse.Program.path.Goals as goal

err_answer : (p : Program) (o : Listing) (limit : ℕ) (r : Result Path PathError) (s : PathError) → IsErrAnd r (λ x. x ≡ s) → IsPathError p o limit s
    → IsPathAnswer p o limit r
err_answer p o limit (Ok t) s e h = absurd e
err_answer p o limit (Err x) s e h = let P : PathError → Type 0 = λ y. IsPathError p o limit y in subst P (sym e) h

multiple_of : (p : Program) (o : Listing) (t : ℕ) (l : Listing) (grid : ℕ → ℕ → ℤ) → IsSoFar p o t l grid → pos 0 <ℤ table_aim p grid (p.cols + 1)
multiple_of p o t l grid u = multiple_kept u.states.3 (rows_at u).aim_row.2.multiple

pub returns-in_err-basis : goal.returns-in_err-basis
returns-in_err-basis c =
    err_answer c.args.self.now c.args.opening.now c.args.limit c.from_residual.result c.in_err-basis.field-0.0 c.from_residual.ensures.1
    (c.in_err-basis.ensures c.args.limit)

pub aim_value-start-requires-clause-multiple : goal.aim_value-start-requires-clause-multiple
aim_value-start-requires-clause-multiple c =
    let p = c.args.self.now in let o = c.args.opening.now in let at = c.in_ok-basis.field-0 in
    multiple_of p o (length o) o (grid_of p at.table) c.in_ok-basis.ensures.state.so_far

pub aim_value-aim-requires-clause-multiple : goal.aim_value-aim-requires-clause-multiple
aim_value-aim-requires-clause-multiple c =
    let p = c.args.self.now in let o = c.args.opening.now in let n = length c.follow_noting.new.turns.items in let l = c.follow_noting.new.basis in
    multiple_of p o (length o + n) l (grid_of p c.follow_noting.new.table) c.in_ok-follow_noting.ensures.0.state.so_far

pub returns : goal.returns
returns c =
    let p = c.args.self.now in let o = c.args.opening.now in let turns = c.follow_noting.new.turns in let n = length turns.items in
    let l = c.follow_noting.new.basis in
    let at = c.in_ok-basis.field-0 in let end = c.in_ok-follow_noting.ensures.0 in
    shown_of p o c.args.limit n (record { start = c.aim_value-start.result; turns = turns; aim = c.aim_value-aim.result }) o l (grid_of p at.table)
    (grid_of p c.follow_noting.new.table) c.in_ok-basis.ensures.small c.requires.opened.opens c.in_ok-basis.ensures.state.so_far c.aim_value-start.ensures
    end.state.so_far end.state.table end.within end.none c.aim_value-aim.ensures refl c.in_ok-follow_noting.ensures.1

pub begin-requires : goal.begin-requires
begin-requires c = c.requires.opened
