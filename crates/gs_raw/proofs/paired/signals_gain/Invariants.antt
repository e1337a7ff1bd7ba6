use Rattle.std.proofs.Common.{◌≡◌, ◌-◌, ◌*◌, ◌≤◌, ◌^◌}
use Rattle.std.specs.Prelude.{unsigned_abs}
use Rattle.gs_seq.specs.{Abstracts.{abstract_frame, lists_of}, Plans.{lifted}}
use Rattle.gs_raw.specs.Hands.{signals_pay}
use Rattle.gs_raw.proofs.SignalPays.{signals_weigh}
use Rattle.gs_raw.proofs.paired.signals_gain.Given as goal

abbrev pub invariant-loop-signal : goal.invariant-loop-signal
invariant-loop-signal l =
    let side = l.side in
    let f = abstract_frame side.form.now in
    let lists = lists_of side.form.now in
    let first = l.fn.run.first in
    record {
      sum_is : l.sum ≡ signals_pay f (lifted f lists side.one.now) (lifted f lists side.two.now) first (l.signal - first) l.end;
      within : unsigned_abs l.sum ≤ (2 ^ 84) * signals_weigh f first (l.signal - first) l.end;
    }
