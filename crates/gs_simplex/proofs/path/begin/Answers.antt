use Rattle.std.proofs.Common.{Result, Ok, Err, MatchResult, ◌≡◌, ◌+◌, ◌*◌, ◌≤◌, ℕ, sym, subst, arith}
use Rattle.std.specs.Result.{IsErrAnd}
use Rattle.gs_simplex.specs.{declared.path.Position.{Position}, declared.program.Program.{Program}, Program.{Listing}, Trace.{IsBegun}}
use Rattle.gs_simplex.specs.{declared.answer.PathFault.{PathFault}, declared.answer.PathError.{PathError}, declared.answer.PathError.TheVariants.{Fault}}
use Rattle.gs_simplex.specs.Answer.{IsPathError, IsPathFault}
use Rattle.gs_simplex.proofs.path.begin.Goals as goal

-- the table is small by its two numbers as they are counted
small_table : (m n a b : ℕ) → a ≡ m → b ≡ n → (a + 1) * (b + 1) ≤ 1048576 → (m + 1) * (n + 1) ≤ 1048576
small_table m n a b e f h =
    subst (λ t. (m + 1) * (t + 1) ≤ 1048576) f (subst (λ t. (t + 1) * (b + 1) ≤ 1048576) e h)

-- the fault is handed on
handed : (p : Program) (o : Listing) (r : Result Position PathError) (why : PathFault) → IsErrAnd r (λ e. e ≡ Fault why)
    → ((limit : ℕ) → IsPathFault p o limit why) → MatchResult r (IsBegun p o) (λ e. (limit : ℕ) → IsPathError p o limit e)
handed p o (Ok at) why is h = absurd is
handed p o (Err e) why is h = λ limit. subst (λ x. IsPathError p o limit x) (sym is) (h limit)

pub returns-in_err-open : goal.returns-in_err-open
returns-in_err-open c =
    handed c.args.p.now c.args.opening.now _ c.in_err-open.field-0.0 c.from_residual-in_err-open.ensures.1 c.in_err-open.ensures

pub returns : goal.returns
returns c = record {
  small = small_table c.args.p.now.rows c.args.p.now.cols c.from.result c.from-2.result c.from.ensures c.from-2.ensures c.if-count-gt-MOST_NUMBERS.false;
  same = c.in_ok-basis.ensures.items;
  state = c.in_ok-open.ensures;
}

pub start-requires-clause-shaped : goal.start-requires-clause-shaped
start-requires-clause-shaped c = c.requires.shaped

pub open-requires-clause-small : goal.open-requires-clause-small
open-requires-clause-small c =
    small_table c.args.p.now.rows c.args.p.now.cols c.from.result c.from-2.result c.from.ensures c.from-2.ensures c.if-count-gt-MOST_NUMBERS.false

pub start-requires-clause-small : goal.start-requires-clause-small
start-requires-clause-small c =
    small_table c.args.p.now.rows c.args.p.now.cols c.from.result c.from-2.result c.from.ensures c.from-2.ensures c.if-count-gt-MOST_NUMBERS.false

pub returns-in_err-basis : goal.returns-in_err-basis
returns-in_err-basis c = grind arith

pub open-requires-clause-opened : goal.open-requires-clause-opened
open-requires-clause-opened c = c.requires
