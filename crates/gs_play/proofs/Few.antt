-- Against a plan of total at most `most`, class totals and what moves are worth are at most `most` times 2^38 in size.
use Rattle.std.proofs.{Common.{ℕ, ◌*◌, ◌<◌, ◌≤◌, arith}, Math.Nat.{mul-le-mul_left, mul-le-mul_right}}
use Rattle.gs_model.specs.{Frame.{other_player, total_weight}, Plans.{IsClassPlan, Plan}}
use Rattle.gs_seq.specs.{Abstracts.{abstract_frame, lists_of}, Payoffs.{end_sum}, declared.form.Abstract.{Abstract}}
use Rattle.gs_best.proofs.{Chips.{form_modest}, Players.{apart, either_player}, TotalBounds.{totals_few, worth_few}}
use Rattle.gs_seq.proofs.Forms.{form_classes, form_in_range, form_walked}
use Rattle.gs_play.specs.Tallies.{AreSmallAtEnds, AreSmallAt}

few_of : (total weight most : ℕ) → total ≤ most → weight ≤ 67108864 → 4096 * (total * weight) ≤ most * 274877906944
few_of total weight most l w =
    let a : total * weight ≤ total * 67108864 = mul-le-mul_left total w in
    let b : total * 67108864 ≤ most * 67108864 = mul-le-mul_right 67108864 l in
    omega (arith, a, b)

module _ (a : Abstract) (player : ℕ) (some : 0 < player) (two : player ≤ 2) where
  pub few_at : (y : Plan) → IsClassPlan (abstract_frame a) (lists_of a) (other_player player) y → (most : ℕ) → y.total ≤ most
      → AreSmallAt (abstract_frame a) (lists_of a) player (end_sum (abstract_frame a) (lists_of a) player y) (most * 274877906944)
  few_at y plan most few =
      let f = abstract_frame a in
      let lists = lists_of a in
      let m = form_modest a in
      let w = form_walked a player some two in
      let v = form_walked a (other_player player) (omega arith) (omega arith) in
      let size = few_of y.total (total_weight f) most few m.weight in
      record {
        totals = λ t move from at_ends followed g c i lo lc.
            (let b = totals_few f (form_in_range a) lists (form_classes a) player w v (apart player some two) y plan 4096
            (λ z n e lz ln. m.pays player z n e lz ln)
            t move from at_ends followed (λ q. either_player a player q some two) g c i lo lc in omega (arith, b, size));
        worths = λ t move from at_ends followed q n c lq lo lm lc.
            (let b = worth_few f (form_in_range a) lists (form_classes a) player w v (apart player some two) y plan 4096
            (λ z n e lz ln. m.pays player z n e lz ln)
            t move from at_ends followed (λ q. either_player a player q some two) q n c lq lo lm lc in omega (arith, b, size));
      }

  -- so no line wraps around, against a plan after at most 2^20 turns and what an answer adds each turn
  pub few_lines : (y b : Plan) → IsClassPlan (abstract_frame a) (lists_of a) (other_player player) y
      → IsClassPlan (abstract_frame a) (lists_of a) (other_player player) b
      → y.total ≤ 1048576 → b.total ≤ 1
      → AreSmallAtEnds (abstract_frame a) (lists_of a) player (end_sum (abstract_frame a) (lists_of a) player y)
      (end_sum (abstract_frame a) (lists_of a) player b)
  few_lines y b plan added few one = record { values = few_at y plan 1048576 few; slopes = few_at b added 1 one }
