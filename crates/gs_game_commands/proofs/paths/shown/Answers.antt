use Rattle.std.proofs.Common.{◌∙◌, subst, ap, arith}
use Rattle.gs_simplex.specs.{Program.{Listing}, Answer.{IsPathError, IsPathFault}, Trace.{IsShown}}
use Rattle.gs_solve.specs.Solutions.{most_pivots}
use Rattle.gs_seq.specs.Abstracts.{abstract_frame, lists_of}
use Rattle.gs_solve.proofs.{EndSteps.{form_is}, Solved.{path_stops}}
use Rattle.gs_game_commands.proofs.paths.shown.Goals as goal

pub returns-in-Ok-path : goal.returns-in-Ok-path
returns-in-Ok-path c = record {
  program = c.in-Ok.made.0;
  opening = c.in-Ok.made.1.items;
  path = c.in-Ok.ensures.path;
  found = c.in-Ok-path.path;
  shown = subst (λ (o : Listing). IsShown c.in-Ok.made.0 o most_pivots c.in-Ok-path.path) c.deref.ensures.value c.in-Ok-path.ensures;
  printed = ap (λ v. v.items) c.into_bytes.ensures.value ∙ c.in_ok-path_text-in-Ok-path.ensures;
}

pub unended-requires : goal.unended-requires
unended-requires c =
    let form = c.args.form.now in let e = c.in-Err-Fault in
    rw e.field-0-is
    (path_stops (abstract_frame form) (lists_of form) (form_is form) c.in-Ok.made.0 c.in-Ok.made.1.items c.in-Ok.ensures.path c.in-Ok.ensures.small e.fault
    (subst (λ (o : Listing). IsPathFault c.in-Ok.made.0 o most_pivots e.fault) c.deref.ensures.value
    (subst (λ x. IsPathError c.in-Ok.made.0 c.deref.result.now most_pivots x) e.field-0-is e.ensures)))

pub path-requires : goal.path-requires
path-requires c = record {
  opened = record { small_rows = grind arith; small_cols = grind arith; shaped = grind arith; opens = grind arith };
  small_limit = omega arith;
}
