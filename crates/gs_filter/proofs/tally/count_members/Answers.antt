use Rattle.std.proofs.Common.{◌≡◌, length, arith, take, ap, ◌∙◌, Vec, Global}
use Rattle.gs_model.specs.Numbering.{greatest}
use Rattle.gs_filter.specs.declared.tally.Tally.{Tally}
use Rattle.gs_filter.proofs.TallyLaws.{length-tallies_of, turn_new, turn_old, size_fits, counted_more}
use Rattle.gs_filter.proofs.tally.count_members.Goals.{then-class-eq0-via-then-class-eq0, then-class-eq0-via-else-class-eq0+then-class-seen}
use Rattle.gs_filter.proofs.tally.count_members.Goals.{then-class-seen-2+in_ok-push, else-class-seen-2}
use Rattle.gs_filter.proofs.tally.count_members.Goals as goal

pub returns-then-class-eq0-clause-unseen : goal.returns-then-class-eq0-clause-unseen
returns-then-class-eq0-clause-unseen c =
    let seen : c.len-seen.result ≡ greatest (take c.loop-at.at c.args.list.now) =
    c.len-seen.ensures ∙ c.loop-at.tallies.ok.0 ∙ ap length c.loop-at.invariant.tallied ∙ length-tallies_of (take c.loop-at.at c.args.list.now) in
    record {
      within = c.loop-at-test.true;
      before = c.loop-at.invariant.counted;
      here = λ n. elim c.then-class-eq0.branch [
        | then-class-eq0-via-then-class-eq0 w ↦ omega arith
        | then-class-eq0-via-else-class-eq0+then-class-seen w ↦ omega arith
      ];
    }

pub overflow_add-index_mut : goal.overflow_add-index_mut
overflow_add-index_mut c =
    let s = size_fits c.args.list.now c.loop-at.at c.loop-at.tallies.items c.loop-at-test.true c.loop-at.invariant.tallied c.loop-at.invariant.counted
    c.index_mut.result.now (omega arith) (omega (arith, c.loop-at.tallies.ok.0))
    c.index_mut.ensures.value in
    omega arith

pub loop-at-preserved : goal.loop-at-preserved
loop-at-preserved c =
    let more = counted_more c.args.list.now c.loop-at.at c.loop-at.tallies.items c.loop-at-test.true c.loop-at.invariant.tallied c.loop-at.invariant.counted
    (omega arith) (omega (arith, c.loop-at.tallies.ok.0)) in
    elim c.if-class-seen-2.branch [
      | then-class-seen-2+in_ok-push w ↦
          let e = turn_new c.args.list.now c.loop-at.at c.loop-at.tallies.items c.loop-at-test.true c.loop-at.invariant.tallied c.loop-at.invariant.counted
          (omega (arith, c.loop-at.tallies.ok.0)) (omega (arith, c.loop-at.tallies.ok.0)) in
          record { tallied = ap (λ (v : Vec Tally Global). v.items) w.tallies-is ∙ w.in_ok-push.ensures.items ∙ e; counted = more }
      | else-class-seen-2 w ↦
          let e = turn_old c.args.list.now c.loop-at.at c.loop-at.tallies.items c.loop-at-test.true c.loop-at.invariant.tallied c.loop-at.invariant.counted
          w.index_mut.result.now (omega arith) (omega (arith, c.loop-at.tallies.ok.0))
          w.index_mut.ensures.value in
          record { tallied = ap (λ (v : Vec Tally Global). v.items) w.tallies-is ∙ e; counted = more }
    ]
