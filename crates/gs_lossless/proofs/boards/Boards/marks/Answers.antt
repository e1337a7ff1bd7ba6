use Rattle.std.proofs.Common.{◌≡◌, ◌≤◌, ◌<◌, ◌∙◌, ◌++◌, ℕ, List, ap, arith, drop, get_or, length, replicate, rules, subst, sym, take}
use Rattle.std.proofs.lemmas.List.Elements.{All-nil}
use Rattle.std.specs.List.{All}
use Rattle.gs_model.specs.{Game.{Game, round_count}, Signals.{signals}}
use Rattle.gs_tree.specs.{Trees.{rules_of}, Walk.{last_count}}
use Rattle.gs_lossless.specs.{Firsts.{AreAlikeMarks}, Boards.{seat_signals}, Hands.{AreHands, IsKindOf}, declared.board.Board.{Board}}
use Rattle.gs_lossless.specs.{declared.board.Seat.{Seat}, declared.kinds.Kind.{Kind}}
use Rattle.gs_lossless.proofs.Marked.{IsKnown, MayMark, known_after, like_known, marks_after, may_read, read_board, unmarked, whole}
use Rattle.gs_lossless.proofs.boards.Boards.marks.Goals.{After-index-like, In_ok-kind}
use Rattle.gs_lossless.proofs.boards.Boards.marks.Goals as goal

-- the kinds are those of boards, the new one too
known : (c : In_ok-kind) → All (IsKnown c.args.self.now.list.items c.args.keys.now) c.kind_of.new.kinds.list.items
known c =
    known_after c.args.self.now.list.items c.deref-board-items.result.now c.args.keys.now c.list_hands.new.hands.items c.deref.result.now c.loop-place.place
    c.board-item.result c.loop-place.kinds.list.items c.kind_of.new.kinds.list.items
    c.deref-board-items.ensures.value c.deref.ensures.value c.loop-place-test.true c.board-item.is c.in_ok-list_hands.ensures c.loop-place.invariant.known
    c.in_ok-kind.ensures.list

-- and so is the one that is looked up
like : (c : After-index-like) → IsKnown c.args.self.now.list.items c.args.keys.now c.index-like.result.now
like c =
    like_known c.args.self.now.list.items c.args.keys.now c.deref.result.now c.kind_of.new.kinds.list.items c.in_ok-kind.kind c.index-like.result.now
    (known (goal.at.After-index-like c).In_ok-kind) c.in_ok-kind.ensures.kind c.index-like.ensures

pub index-other-requires : goal.index-other-requires
index-other-requires c =
    omega (arith, (like (goal.at.index-other-requires c).After-index-like).within, c.args.self.now.list.ok.0)

pub loop-place-init : goal.loop-place-init
loop-place-init c =
    let g : Game = rules_of c.args.self.now.signals.now in
    let of_board : Kind → Type 0 = IsKnown c.args.self.now.list.items c.args.keys.now in
    let all : c.count-count.result ≡ last_count g = c.count-count.ensures.value ∙ ap (λ k. length (signals g k)) c.rounds.ensures.value in
    let free : c.in_ok-marks.marks.items ≡ replicate c.count-count.result 4294967295 = c.in_ok-marks.ensures.items_if_clones_equal (λ y k. search rules) in
    let few : last_count g ≤ 4294967295 = omega (arith, c.args.self.now.signals.now.game.now.limits.signals_in (round_count g) (omega arith)) in
    record {
      marks_are = unmarked g c.args.keys.now c.in_ok-marks.marks.items 4294967295 (free ∙ ap (λ (n : ℕ). replicate n 4294967295) all) few;
      kept = λ row kind e. grind (arith, c.new-2.ensures.empty, e);
      known = subst (All of_board) (sym c.new.ensures.items) (All-nil of_board);
    }

pub loop-place-preserved : goal.loop-place-preserved
loop-place-preserved c =
    let g : Game = rules_of c.args.self.now.signals.now in
    let boards : List Board = c.args.self.now.list.items in
    let keys : List ℕ = c.args.keys.now in
    let kinds : List Kind = c.kind_of.new.kinds.list.items in
    let hands : List ℕ = c.list_hands.new.hands.items in
    let marks : List ℕ = c.loop-place.marks.items in
    let board : Board = c.board-item.result in
    let other : Board = c.index-other.result.now in
    let found : Kind = c.index-like.result.now in
    let new : List ℕ = c.mark_board.new.marks in
    let here : c.loop-place.place < length boards = subst (λ (l : List Board). c.loop-place.place < length l) c.deref-board-items.ensures.value
    c.loop-place-test.true in
    let at : board ≡ get_or boards c.loop-place.place board = subst (λ (l : List Board). board ≡ get_or l c.loop-place.place board)
    c.deref-board-items.ensures.value c.board-item.is in
    let kind : IsKindOf kinds c.in_ok-kind.kind hands = subst (IsKindOf kinds c.in_ok-kind.kind) c.deref.ensures.value c.in_ok-kind.ensures.kind in
    let may : MayMark (seat_signals board.seats.items) hands (seat_signals other.seats.items) found.hands.items marks new =
    may_read c.deref-in-loop-place.result.now c.deref-in-loop-place-3.result.now board.seats.items other.seats.items c.deref-in-loop-place-2.result.now
    c.deref-in-loop-place-4.result.now c.deref_mut.result.now hands found.hands.items marks new
    c.deref-in-loop-place.ensures.value c.deref-in-loop-place-2.ensures.value c.deref-in-loop-place-3.ensures.value c.deref-in-loop-place-4.ensures.value
    c.deref_mut.ensures.value
    (record { long = c.mark_board.ensures.long; each = c.mark_board.ensures.each }) in
    let all : AreAlikeMarks g keys new =
    marks_after g c.args.self.now.by_rank boards keys (λ i l. omega (arith, c.type_inv.keys i)) c.args.self.now.each c.loop-place.place c.in_ok-kind.kind board
    other found kinds hands marks new here at c.in_ok-list_hands.ensures (known (goal.at.loop-place-preserved c).In_ok-kind) kind
    c.index-like.ensures c.index-other.ensures c.loop-place.invariant.marks_are may in
    let long : length new ≡ length marks = c.mark_board.ensures.long ∙ ap (λ (l : List ℕ). length l) c.deref_mut.ensures.value in
    let read : take c.loop-place.marks.len (new ++ drop (length new) marks) ≡ new = whole c.loop-place.marks.len new marks long
    (omega (arith, c.loop-place.marks.ok.0)) in
    record {
      marks_are = subst (AreAlikeMarks g keys) (sym read) all;
      kept = c.in_ok-kind.ensures.kept;
      known = known
          (goal.at.loop-place-preserved c).In_ok-kind;
    }

pub list_hands-requires : goal.list_hands-requires
list_hands-requires c =
    let board = read_board (rules_of c.args.self.now.signals.now) c.args.self.now.by_rank c.args.self.now.list.items c.deref-board-items.result.now
    c.loop-place.place c.board-item.result c.args.self.now.each c.deref-board-items.ensures.value c.loop-place-test.true c.board-item.is in
    λ k d l. subst (λ n. (get_or c.board-item.result.seats.items k d).signal < n) (sym c.requires) (board.within k d l)

pub mark_board-requires : goal.mark_board-requires
mark_board-requires c = record {
  hands = ap (λ (l : List ℕ). length l) c.deref-in-loop-place-2.ensures.value ∙ c.in_ok-list_hands.ensures.long
      ∙ ap (λ (l : List Seat). length l) (sym c.deref-in-loop-place.ensures.value);
  other_hands = let keys : List ℕ = c.args.keys.now in
      let hands : List ℕ = c.index-like.result.now.hands.items in
      let theirs : AreHands c.index-other.result.now keys hands = subst (λ (b : Board). AreHands b keys hands) (sym c.index-other.ensures)
      ((like (goal.at.mark_board-requires c).After-index-like).hands c.index-other.result.now) in
      ap (λ (l : List ℕ). length l) c.deref-in-loop-place-4.ensures.value ∙ theirs.long
      ∙ ap (λ (l : List Seat). length l) (sym c.deref-in-loop-place-3.ensures.value);
  within = let board = read_board (rules_of c.args.self.now.signals.now) c.args.self.now.by_rank c.args.self.now.list.items c.deref-board-items.result.now
      c.loop-place.place c.board-item.result c.args.self.now.each c.deref-board-items.ensures.value c.loop-place-test.true c.board-item.is in
      let long = ap (λ (l : List ℕ). length l) c.deref_mut.ensures.value ∙ c.loop-place.invariant.marks_are.long in
      subst (All (λ (s : Seat). s.signal < length c.deref_mut.result.now)) (sym c.deref-in-loop-place.ensures.value)
      (λ k d l. subst (λ n. (get_or c.board-item.result.seats.items k d).signal < n) (sym long) (board.within k d l));
}

pub index-like-requires : goal.index-like-requires
index-like-requires c = omega (arith, c.in_ok-kind.ensures.kind.within, c.kind_of.new.kinds.list.ok.0)
