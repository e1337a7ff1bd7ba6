use Rattle.std.proofs.Common.{◌≡◌, ◌*◌, ◌≤◌, ◌^◌}
use Rattle.std.specs.{Prelude.{unsigned_abs}, List.{range_with_len}}
use Rattle.gs_model.specs.Sums.{sum_z}
use Rattle.gs_seq.specs.{Abstracts.{abstract_frame, lists_of}, Plans.{lifted}}
use Rattle.gs_raw.specs.Hands.{hand_pays_at}
use Rattle.gs_raw.proofs.paired.all_gain.Given as goal

abbrev pub invariant-loop-end : goal.invariant-loop-end
invariant-loop-end l =
    let side = l.side in
    let f = abstract_frame side.form.now in
    let lists = lists_of side.form.now in
    record {
      sum_is : l.sum ≡ sum_z (hand_pays_at f (lifted f lists side.one.now) (lifted f lists side.two.now) l.signal) (range_with_len 0 l.end);
      within : unsigned_abs l.sum ≤ l.end * (2 ^ 110);
    }
