-- The row of a class of a valid game: that it fits, and that it is the row of the class.
use Rattle.std.proofs.{Common.{◌≡◌, ℕ, ◌*◌, ◌<◌, ◌≤◌, ◌^◌, List, [], length, ◌∙◌, arith, sum_by}, lemmas.List.Sums.{sum_by-cons}}
use Rattle.gs_filter.specs.Filter.{Filter}
use Rattle.gs_game.specs.{Games.{game_of}, declared.valid.ValidGame.{ValidGame}}
use Rattle.gs_lossless.specs.{Amounts.{AreAmounts}, declared.parts.Part.{Part}, declared.aspects.Aspect.TheVariants.{Deals}}
use Rattle.gs_lossless.proofs.Descent.{tabled}
use Rattle.gs_model.specs.{Classes.{class_of, class_size, list_of}, Frame.{last_round, signal_count}, Lossless.{IsLossless}}
use Rattle.gs_model.proofs.Known.{Tabled}
use Rattle.gs_seq.specs.{Games.{frame_in}, Rows.{IsRow, gathered}}
use Rattle.gs_seq.proofs.{Gathered.{gathered-total}, Points.{playable}, RowFacts.{class_weight, classes_weigh, row_weighs}}
use Rattle.gs_seq.proofs.{RowLaws.{is_row, size_is, size_some}, SlotLaws.{over}}

pub table : (g : ValidGame) → Tabled (frame_in g)
table g = tabled (game_of g.game) (playable g)

module _ (g : ValidGame) (c : Filter) (e : c.parents ≡ (frame_in g).parents) (h : IsLossless (frame_in g) c.lists) (round : ℕ) (some : 0
    < round) (top : round ≤ last_round (frame_in g))
    (class first members : ℕ) (size : members ≡ class_size c.lists round class) (sums : List Part)
    (a : AreAmounts (frame_in g) c.lists Deals round first sums) where
  long : length (list_of c.lists round) ≡ signal_count (frame_in g) round
  long = (over (frame_in g) c e).lengths round some top

  -- the row gathered from the first member's sums is the class's row
  pub row_is : first < length (list_of c.lists round) → class_of c.lists round first ≡ class
      → IsRow (frame_in g) c.lists round class (gathered members sums)
  row_is l member =
      is_row (frame_in g) (table g) c.lists h round some top first class members sums (omega (arith, l, long)) member (size
      ∙ size_is (frame_in g) c.lists round class long) a
      (let one = size_some c.lists round class first l member in omega (arith, size, one))

  -- the class's weight is no more than a row holds
  pub row_fits : first < length (list_of c.lists round) → class_of c.lists round first ≡ class → members * sum_by (λ (p : Part). p.weight) sums < 2 ^ 32
  row_fits l member =
      let k = over (frame_in g) c e in
      let weigh = class_weight (frame_in g) (table g) c.lists k round some top in
      omega (
        arith,
        gathered-total members sums,
        row_weighs (frame_in g) (table g) c.lists k round some top class (gathered members sums) (row_is l member),
        classes_weigh (frame_in g) (table g) c.lists k round some top class 1,
        sum_by-cons weigh class [],
        g.limits.weight_in,
      )
