use Rattle.gs_boards.proofs.board_order.BoardOrder.of.Goals as goal

pub invariant_of-result : goal.invariant_of-result
invariant_of-result c = record { plain = c.if-not-is_plain.ensures; placed = c.in_ok-places.ensures }
