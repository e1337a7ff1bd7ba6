use Rattle.std.proofs.Common.{subst, sym, arith}
use Rattle.gs_model.specs.{Frame.{leads_to}, FrameFacts.{IsInside}}
use Rattle.gs_best.specs.{LaterRows.{IsLaidBehind, IsRowOf}, WalkPoints.{frame_on, lists_on, totals_on}}
use Rattle.gs_best.proofs.{WalkRows.{ahead_by, later_row, some_at, worths_by}, Players.{walked}, targets.read_worths.Goals.{After-row_to-below}}
use Rattle.gs_best.proofs.targets.read_worths.Goals as goal

held : (c : After-row_to-below) → let at = c.args.at.now in
    IsRowOf (frame_on at) (lists_on at) (totals_on at) (leads_to (frame_on at) at.point c.args.choice) c.row_to-below.result
held c = let at = c.args.at.now in
    subst (λ t. IsRowOf (frame_on at) (lists_on at) (totals_on at) t c.row_to-below.result) c.target_at-target.ensures c.row_to-below.ensures.held

pub read_row-requires : goal.read_row-requires
read_row-requires c = record {
  some = some_at c.args.at.now;
  row = later_row c.args.at.now c.args.choice c.requires.choice c.row_to-below.result (held (goal.at.read_row-requires c).After-row_to-below)
      c.row_to-below.ensures.room;
  wide = λ later.
      let at = c.args.at.now in
      let row = later_row at c.args.choice c.requires.choice c.row_to-below.result (held (goal.at.read_row-requires c).After-row_to-below)
      c.row_to-below.ensures.room in
      c.requires.wide at.round (some_at at) (omega (arith, later, row.top));
}

pub returns : goal.returns
returns c = record {
  worths = worths_by c.args.at.now c.args.choice c.requires.choice c.row_to-below.result
      (held (goal.at.returns c).After-row_to-below) c.read_row.result.now c.read_row.ensures.gathered;
  long = grind arith;
}

pub row_to-below-requires : goal.row_to-below-requires
row_to-below-requires c = record {
  inside = let at = c.args.at.now in
      subst (IsInside (frame_on at)) (sym c.target_at-target.ensures) ((walked at.side).inside at.point c.args.choice at.inside c.requires.choice);
  laid = grind arith;
  behind = let at = c.args.at.now in
      subst (IsLaidBehind (frame_on at) (lists_on at) at.from) (sym c.target_at-target.ensures) (ahead_by at c.args.choice c.requires.choice);
  row = grind arith;
  numbers = grind arith;
}
