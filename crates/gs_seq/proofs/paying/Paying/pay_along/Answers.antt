use Rattle.std.proofs.Common.{◌≡◌, ◌+◌, ◌-◌, ◌<◌, ◌≤◌, ◌++◌, List, ℤ, length, take, get_or, pos, ap, ◌∙◌, arith}
use Rattle.std.proofs.lemmas.List.{get_or_append_left, get_or-append_right, get_or-drop, length-take-le}
use Rattle.std.specs.Prelude.{◌*ℤ◌}
use borrow.Rule.Slice.PartMut.{mid_len, post_of}
use Rattle.gs_boards.specs.Boards.{paid}
use Rattle.gs_game.specs.Games.{game_of}
use Rattle.gs_model.specs.{Classes.{class_count}, Deals.{Deal}, Frame.{end_at}}
use Rattle.gs_tree.specs.Walk.{last_count}
use Rattle.gs_seq.specs.{Abstracts.{abstract_frame, lists_of}, Payoffs.{pair_pays}, Singles.{deal_pair}}
use Rattle.gs_seq.proofs.{AlongBoards.{by_deals, single_count}, Forms.{given_in, one_or_two}}
use Rattle.gs_seq.proofs.paying.Paying.pay_along.Goals as goal

pub deal_sums-requires-clause-numbers : goal.deal_sums-requires-clause-numbers
deal_sums-requires-clause-numbers c =
    let a = c.args.self.now.form.now in
    let h = a.lossless.now.parents in
    let count = single_count a.lossless.now.signals.now.game.now a.lossless.now.classes.now h c.requires.single in
    omega (arith, c.requires.order.count, count, ap (class_count (lists_of a)) c.requires.last, c.args.self.now.wide)

pub deal_sums-requires-clause-sums : goal.deal_sums-requires-clause-sums
deal_sums-requires-clause-sums c =
    let a = c.args.self.now.form.now in
    let h = a.lossless.now.parents in
    let count = single_count a.lossless.now.signals.now.game.now a.lossless.now.classes.now h c.requires.single in
    let here = mid_len 0 c.end_class_total-stop.result c.args.sums.now (omega (arith, c.end_class_total-stop.ensures, c.requires.room)) in
    omega (arith, here, c.end_class_total-stop.ensures, c.requires.order.count, count, ap (class_count (lists_of a)) c.requires.last)

pub returns : goal.returns
returns c = record {
  here = λ k class. (
      let a = c.args.self.now.form.now in
      let g = a.lossless.now.signals.now.game.now in
      let cls = a.lossless.now.classes.now in
      let z = c.args.self.now.end in
      let s = k - 1 in
      let sums = c.args.sums.now in
      let new : List ℤ = c.deal_sums.new.sums in
      let after = post_of 0 (c.end_class_total-stop.result - 0) sums in
      let h = a.lossless.now.parents in
      let count = single_count g cls h c.requires.single in
      let last = ap (class_count (lists_of a)) c.requires.last in
      let here = mid_len 0 c.end_class_total-stop.result sums (omega (arith, c.end_class_total-stop.ensures, c.requires.room)) in
      let long : length new ≡ last_count (game_of g.game) = omega (arith, c.deal_sums.auto.sums, here, c.end_class_total-stop.ensures, count, last) in
      let within : s < last_count (game_of g.game) = omega (arith, class.0, class.1, count, last) in
      let front = length-take-le 0 sums (omega arith) in
      let w = given_in a in
      let same : (d : Deal) → pos d.weight *ℤ paid c.pays_at-pays.result d.outcome ≡ pair_pays c.args.self.now.player (end_at (abstract_frame a) z) (deal_pair d) =
      λ d. c.pays_at-pays.ensures d ∙ ap (λ e. pair_pays c.args.self.now.player e (deal_pair d)) c.end_in.ensures.value in
      (let at : s ≡ 0 + s = omega arith in ap (λ i. get_or (take 0 sums ++ (new ++ after)) i (pos 0)) at)
      ∙ get_or-append_right (take 0 sums) (new ++ after) 0 (0 + s) (pos 0) front (omega arith)
      ∙ ap (λ i. get_or (new ++ after) i (pos 0)) (omega arith)
      ∙ get_or_append_left new after (pos 0) s (omega (arith, long, within))
      ∙ c.deal_sums.ensures s (omega (arith, within, c.requires.order.count))
      ∙ c.requires.order.sums c.args.self.now.numbers.now (paid c.pays_at-pays.result) s
      ∙ by_deals g cls h c.requires.single c.args.self.now.player z c.pays_at-pays.result c.args.self.now.numbers.now (one_or_two c.args.self.now.player c.args.self.now.some c.args.self.now.two)
      (w.walked c.args.self.now.player c.args.self.now.some c.args.self.now.two) c.args.self.now.inside c.requires.last w.in_range w.classes same k class.0);
  behind = λ i l. (
      let sums = c.args.sums.now in
      let new : List ℤ = c.deal_sums.new.sums in
      let stop = c.end_class_total-stop.result in
      let after = post_of 0 (stop - 0) sums in
      let here = mid_len 0 stop sums (omega (arith, c.end_class_total-stop.ensures, c.requires.room)) in
      let long : length new ≡ stop = omega (arith, c.deal_sums.auto.sums, here) in
      let over : stop ≤ i = omega (arith, l, c.end_class_total-stop.ensures) in
      let back : i - 0 ≡ i = omega arith in
      let at : stop - 0 + (i - stop) ≡ i = omega (arith, over) in
      get_or-append_right (take 0 sums) (new ++ after) 0 i (pos 0) (length-take-le 0 sums (omega arith)) (omega arith)
      ∙ ap (λ j. get_or (new ++ after) j (pos 0)) back ∙ get_or-append_right new after stop i (pos 0) long over
      ∙ get_or-drop (stop - 0) sums (i - stop) (pos 0) ∙ ap (λ j. get_or sums j (pos 0)) at);
}
