-- From class totals to answers: a plan that puts all on the chosen moves is the first best plan, and the best total is the sum of the totals at the start.
use Rattle.std.proofs.{Common.{◌≡◌, ℕ, ◌<◌, ◌≤◌, cond, sym, ap, ◌∙◌, arith, eqb}, Math.IntN.{*ℤ_comm}, lemmas.Bool.Decides.{Decides-eqb}, lemmas.Int.{ints}}
use Rattle.std.specs.{Prelude.{◌==◌, ℤ, pos, ◌*ℤ◌, sum_by, if◌then◌else◌}, List.{count_by}}
use borrow.Author.Differences.{product_is}
use Rattle.gs_model.specs.BestAnswers.{IsBestValues, IsFirstBestPlan, Values}
use Rattle.gs_model.specs.Classes.{ClassLists, IsClass, IsClasses, class_count, class_of, class_size, classes_in, first_member}
use Rattle.gs_model.specs.Frame.{Frame, last_step, move_count, player_at, point_count, round_of, signal_count, signals_in, last_round}
use Rattle.gs_model.specs.{FrameFacts.{InRange, IsWalked}, Lossless.{IsLossless}, Plans.{Plan, lift, number_before}, Positions.{at_point}, Sums.{sum_z}}
use Rattle.gs_model.proofs.{Gather.{grouping_from}, RawBound.{All-range}, Regroup.{regroup_weights}, Total.{sum_z-same}}
use Rattle.gs_seq.proofs.RowLaws.{size_is}
use Rattle.gs_best.specs.ClassTotals.{IsBestTotal, AreBestTotals}
use Rattle.gs_best.proofs.{Ranges.{sum_same}, TotalsBest.{share, totals_are_best, totals_sized}}

-- a value at the class of each signal of a round, over all signals
pub all_by_classes : (f : Frame) (lists : ClassLists) → IsClasses f.parents lists → (i : ℕ) (v u : ℕ → ℤ) → 0 < i → i ≤ last_round f
    → ((c : ℕ) → IsClass lists i c → u c ≡ pos (class_size lists i c) *ℤ v c)
    → sum_z (λ s. v (class_of lists i s)) (signals_in f i) ≡ sum_z u (classes_in lists i)
all_by_classes f lists k i v u some top sized =
    let g = grouping_from f lists k in
    sum_z-same (λ s. v (class_of lists i s)) (λ s. pos 1 *ℤ v (class_of lists i s)) (λ s. omega (arith, ints, product_is (pos 1) (v (class_of lists i s))))
    (signals_in f i)
    ∙ regroup_weights eqb Decides-eqb (class_of lists i) (λ s. 1) v (classes_in lists i) (signals_in f i)
    (All-range (λ s. count_by (eqb (class_of lists i s)) (classes_in lists i) ≡ 1) (signal_count f i) (λ s ls. g.once i s some top ls))
    ∙ sum_same (λ c. v c *ℤ pos (sum_by (λ s. cond {A = ℕ} (eqb (class_of lists i s) c) 1 0) (signals_in f i))) u 1 (class_count lists i)
    (λ c lo hi.
    let lc : IsClass lists i c = (omega arith, omega arith) in
    ap (λ n. v c *ℤ pos n) (sym (size_is f lists i c (k.lengths i some top))) ∙ *ℤ_comm (v c) (pos (class_size lists i c)) ∙ sym (sized c lc))

module _ (f : Frame) (r : InRange f) (lists : ClassLists) (k : IsClasses f.parents lists) (lossless : IsLossless f lists) (player : ℕ) (w : IsWalked f player)
    (y : Plan) (V : Values) (move : ℕ → ℕ → ℕ)
    (h : AreBestTotals f lists player y V move) where
  -- values of first members
  abbrev pub values_of : Values
  values_of g c = share (V g c) (class_size lists (round_of f g) c)

  pub best_values : IsBestValues f lists player (lift f lists y) values_of move
  best_values = totals_are_best f r lists k lossless player w y V move h.followed h.greatest

  -- a plan of total 1 with all on the chosen moves
  pub chosen_is_best : (x : Plan) → x.total ≡ 1
      → ((q c m : ℕ) → q < point_count f → player_at f q ≡ player → IsClass lists (round_of f (at_point q)) c → m < move_count f q
      → let round = round_of f (at_point q) in
      x.number q c m ≡ (if m == move q c then number_before f (lift f lists x) (last_step f player (at_point q)) round (first_member lists round c) else 0))
      → IsFirstBestPlan f lists player (lift f lists y) x
  chosen_is_best x one puts = record { values = values_of; move = move; best = best_values; one = one; puts = puts }

  -- the best total
  pub best_total : (some : 0 < round_of f f.start) → round_of f f.start ≤ last_round f
      → IsBestTotal f lists player (lift f lists y) (sum_z (λ c. V f.start c) (classes_in lists (round_of f f.start)))
  best_total some top = record {
    values = values_of;
    move = move;
    best = best_values;
    total_is = sym (all_by_classes f lists k (round_of f f.start) (values_of f.start) (V f.start) some top
        (λ c lc. totals_sized f r lists k lossless player w y V move h.followed f.start c w.start_in lc));
  }
