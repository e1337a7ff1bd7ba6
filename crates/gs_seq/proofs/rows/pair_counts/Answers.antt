use Rattle.std.proofs.Common.{◌≤◌, ◌<◌, ◌∙◌, List, ℕ, Vec, length, sym, ap, subst, arith}
use Rattle.std.specs.declared.alloc.Global.{Global}
use Rattle.gs_model.specs.Frame.{last_round}
use Rattle.gs_seq.specs.{Cells.{AreCounts}, Games.{frame_in}}
use Rattle.gs_seq.proofs.{CellLaws.{all_listed, one_more, rows_fit}, SlotLaws.{over}, rows.pair_counts.Goals.{then-len-from+in_ok-push, else-len-from}}
use Rattle.gs_seq.proofs.rows.pair_counts.Goals as goal

pub listed_counts-requires : goal.listed_counts-requires
listed_counts-requires c = rows_fit c.args.game.now c.args.classes.now c.requires.parents c.args.rows.now c.requires.rows

pub returns : goal.returns
returns c =
    let g = c.args.game.now in
    let cls = c.args.classes.now in
    let f = frame_in g in
    let rounds = (over f cls c.requires.parents).rounds in
    let counts = c.in_ok-counts.counts in
    let P : List ℕ → Type 0 = AreCounts f cls.lists in
    elim c.if-len-from.branch [
      | then-len-from+in_ok-push w ↦
          let less : length counts.items < last_round f = omega
          (arith, w.if-len-from.true, c.len.ensures, counts.ok.0, c.from.ensures, c.rounds-rounds.ensures.value, rounds) in
          subst P (sym (ap (λ (v : Vec ℕ Global). v.items) w.counts-is ∙ w.in_ok-push.ensures.items))
          (one_more g cls c.requires.parents c.args.rows.now c.requires.rows counts.items c.in_ok-counts.ensures less w.from-then-len-from.result
          (w.from-then-len-from.ensures ∙ w.deal_count.ensures))
      | else-len-from w ↦
          let all : last_round f ≤ length counts.items = omega
          (arith, w.if-len-from.false, c.len.ensures, counts.ok.0, c.from.ensures, c.rounds-rounds.ensures.value, rounds) in
          subst P (sym (ap (λ (v : Vec ℕ Global). v.items) w.counts-is))
          (all_listed g cls c.requires.parents c.args.rows.now c.requires.rows counts.items c.in_ok-counts.ensures all)
    ]
