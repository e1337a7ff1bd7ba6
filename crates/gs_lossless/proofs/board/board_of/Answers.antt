use Rattle.std.proofs.Common.{◌≡◌, ◌≤◌, ◌∙◌, Bool, List, cond, length, map, subst, sym, ap, arith}
use Rattle.std.specs.{Global.{Vec}, List.Sorted.{IsPermutation}}
use Rattle.gs_model.specs.Game.{Game, round_count}
use Rattle.gs_tree.specs.{Boards.{signals_on}, Trees.{rules_of}, Walk.{last_count}}
use Rattle.gs_lossless.specs.{Boards.{ranked, seat_of}, declared.board.Seat.{Seat}}
use Rattle.gs_lossless.proofs.{Seats.{board_is, seats_few}, board.board_of.Goals.{then-by_rank, else-by_rank}}
use Rattle.gs_lossless.proofs.board.board_of.Goals as goal

pub rank-requires-clause-few : goal.rank-requires-clause-few
rank-requires-clause-few c =
    let g : Game = rules_of c.args.signals.now in
    let seats : List Seat = c.sort_by_level.new.seats.items in
    let moved : IsPermutation (map (seat_of g) (signals_on g c.args.first)) seats = subst (λ (l : List Seat). IsPermutation l seats) c.in_ok-seats.ensures
    c.sort_by_level.ensures.moved in
    let few : length seats ≤ last_count g = seats_few g c.args.first seats moved in
    omega (arith, few, c.args.signals.now.game.now.limits.signals_in (round_count g) (omega arith))

pub returns : goal.returns
returns c =
    let g : Game = rules_of c.args.signals.now in
    let seats : List Seat = c.sort_by_level.new.seats.items in
    let moved : IsPermutation (map (seat_of g) (signals_on g c.args.first)) seats = subst (λ (l : List Seat). IsPermutation l seats) c.in_ok-seats.ensures
    c.sort_by_level.ensures.moved in
    let levels : c.if-by_rank.seats.items ≡ cond c.args.by_rank (ranked seats) seats = elim c.if-by_rank.branch [
      | then-by_rank w ↦ ap (λ (v : Vec Seat). v.items) w.seats-is ∙ w.rank.ensures ∙ ap (λ (b : Bool). cond b (ranked seats) seats) (sym w.if-by_rank.true)
      | else-by_rank w ↦ ap (λ (v : Vec Seat). v.items) w.seats-is ∙ ap (λ (b : Bool). cond b (ranked seats) seats) (sym w.if-by_rank.false)
    ] in
    board_is g c.args.first seats moved c.args.by_rank _ c.requires.plain c.requires.once levels

pub rank-requires-clause-ascending : goal.rank-requires-clause-ascending
rank-requires-clause-ascending c = grind arith
