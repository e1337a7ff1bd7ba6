use Rattle.std.proofs.Common.{◌≡◌}
use Rattle.gs_seq.specs.Abstracts.{abstract_frame, lists_of}
use Rattle.gs_best.specs.Tables.{start_of}
use Rattle.gs_certificate.proofs.way.place_from.Given as goal

abbrev pub invariant-loop-point : goal.invariant-loop-point
invariant-loop-point l = l.place ≡ start_of (abstract_frame l.form) (lists_of l.form) l.point
