-- Marks of signals.
use Rattle.std.proofs.Common.{◌≡◌, ◌⊎◌, ◌≤◌, ◌<◌, ◌∙◌, ℕ, Bool, List, ◌++◌, get_or, length, replicate, set, take, drop, inl, inr, refl, sym, ap, subst, arith}
use Rattle.std.proofs.{Common.{⊎_elim, length-set}, lemmas.Bool.{cases_eq}, lemmas.List.{length-replicate, take_all}, lemmas.List.Elements.{All-push}}
use Rattle.std.proofs.lemmas.List.{append-nil, drop_all, get_or-replicate, get_or-set_other, get_or-set_same, get_or_default, get_or-map, length-map}
use Rattle.std.specs.{Global.{Vec}, HashMap.{HashMap}, List.{All}, List.Sorted.{IsPermutation}, declared.hash.BuildHasherDefault.{BuildHasherDefault}}
use Rattle.std.specs.declared.hash.FoldHasher.{FoldHasher}
use Rattle.gs_model.specs.Game.{Game}
use Rattle.gs_tree.specs.Walk.{last_count}
use Rattle.gs_lossless.specs.{Alike.{AreAlike}, Boards.{IsBoard, seat_signals}, Firsts.{AreAlikeMarks}, Hands.{AreHands, HasMore, IsKindOf, IsMark, KeepsKinds}}
use Rattle.gs_lossless.specs.{declared.board.Board.{Board}, declared.board.Seat.{Seat}, declared.kinds.Kind.{Kind}}
use Rattle.gs_lossless.proofs.{Places.{mark_alike}, Seats.{none}}

-- marks that are as they were, or of a board
pub record MayMark (signals hands others other_hands old marks : List ℕ) : Type 0 where
  pub long : length marks ≡ length old
  pub each : (i : ℕ) → (get_or marks i 0 ≡ get_or old i 0) ⊎ IsMark signals hands others other_hands i (get_or marks i 0)

pub may_none : (signals hands others other_hands old : List ℕ) → MayMark signals hands others other_hands old old
may_none signals hands others other_hands old = record { long = refl; each = λ i. inl refl }

-- one more
pub may_more : (signals hands others other_hands old marks : List ℕ) (one two : ℕ) → MayMark signals hands others other_hands old marks → one < length signals
    → two < length others → get_or hands one 0 ≡ get_or other_hands two 0
    → get_or signals one 0 < length marks → MayMark signals hands others other_hands old (set marks (get_or signals one 0) (get_or others two 0))
may_more signals hands others other_hands old marks one two h l m same in' =
    let s : ℕ = get_or signals one 0 in
    let v : ℕ = get_or others two 0 in
    record {
      long = length-set marks s v ∙ h.long;
      each = λ i. ⊎_elim
          (λ (e : i ≡ s).
          let at : get_or (set marks s v) i 0 ≡ v = ap (λ k. get_or (set marks s v) k 0) e ∙ get_or-set_same marks s v 0 in' in
          inr (record { one = one; two = two; one_in = l; two_in = m; signal_is = sym e; mark_is = sym at; same = same }))
          (λ ne.
          let at : get_or (set marks s v) i 0 ≡ get_or marks i 0 = get_or-set_other marks s i v 0 ne in
          subst (λ (x : ℕ). (x ≡ get_or old i 0) ⊎ IsMark signals hands others other_hands i x) (sym at) (h.each i))
          (cases_eq i s);
    }

-- one more, of seats
pub may_seat : (seats others : List Seat) (hands other_hands old marks : List ℕ) (one two : ℕ)
    → MayMark (seat_signals seats) hands (seat_signals others) other_hands old marks → one < length seats → two < length others
    → get_or hands one 0 ≡ get_or other_hands two 0 → (get_or seats one none).signal < length marks
    → MayMark (seat_signals seats) hands (seat_signals others) other_hands old (set marks (get_or seats one none).signal (get_or others two none).signal)
may_seat seats others hands other_hands old marks one two h l m same in' =
    let f : Seat → ℕ = λ s. s.signal in
    let mine : get_or (seat_signals seats) one 0 ≡ (get_or seats one none).signal = get_or-map f seats one none 0 l in
    let theirs : get_or (seat_signals others) two 0 ≡ (get_or others two none).signal = get_or-map f others two none 0 m in
    let one_in : one < length (seat_signals seats) = omega (arith, l, length-map seats f) in
    let two_in : two < length (seat_signals others) = omega (arith, m, length-map others f) in
    let more = may_more (seat_signals seats) hands (seat_signals others) other_hands old marks one two h one_in two_in same (omega (arith, mine, in')) in
    subst (λ (k : ℕ). MayMark (seat_signals seats) hands (seat_signals others) other_hands old (set marks k (get_or others two none).signal)) mine
    (subst (λ (k : ℕ). MayMark (seat_signals seats) hands (seat_signals others) other_hands old (set marks (get_or (seat_signals seats) one 0) k)) theirs more)

-- the place that a board's hands are kept for, among the boards
pub record IsKnown (boards : List Board) (keys : List ℕ) (kind : Kind) : Type 0 where
  pub within : kind.board < length boards
  pub hands : (d : Board) → AreHands (get_or boards kind.board d) keys kind.hands.items

-- marks so far: each signal is marked by one that is like it, and the kinds are those of boards
pub record AreMarked (g : Game) (boards : List Board) (keys marks : List ℕ) (kinds : List Kind)
    (seen : HashMap (Vec ℕ) ℕ (BuildHasherDefault FoldHasher)) : Type 0 where
  pub marks_are : AreAlikeMarks g keys marks
  pub kept : KeepsKinds kinds seen
  pub known : All (IsKnown boards keys) kinds

pub unmarked : (g : Game) (keys marks : List ℕ) (none : ℕ) → marks ≡ replicate (last_count g) none → last_count g ≤ none → AreAlikeMarks g keys marks
unmarked g keys marks none e big = record {
  long = ap (λ (k : List ℕ). length k) e ∙ length-replicate (last_count g) none;
  alike = λ i l small. absurd (
      let is : get_or marks i 0 ≡ none = ap (λ (k : List ℕ). get_or k i 0) e ∙ get_or-replicate (last_count g) i none 0 l in
      omega (arith, is, small, big));
}

pub like_known : (boards : List Board) (keys hands : List ℕ) (kinds : List Kind) (kind : ℕ) (like : Kind) → All (IsKnown boards keys) kinds
    → IsKindOf kinds kind hands → like ≡ get_or kinds kind like → IsKnown boards keys like
like_known boards keys hands kinds kind like known of is = subst (IsKnown boards keys) (sym is) (known kind like of.within)

-- a list that was written as a whole
pub whole : (n : ℕ) (new old : List ℕ) → length new ≡ length old → length old ≡ n → take n (new ++ drop (length new) old) ≡ new
whole n new old e f =
    ap (λ (xs : List ℕ). take n (new ++ xs)) (drop_all (length new) old (omega (arith, e))) ∙ ap (take n) (append-nil new)
    ∙ take_all n new (omega (arith, e, f))

-- the board that is read at a place is one of the game
pub read_board : (g : Game) (by_rank : Bool) (boards read : List Board) (place : ℕ) (board : Board) → All (IsBoard g by_rank) boards → read ≡ boards
    → place < length read → board ≡ get_or read place board → IsBoard g by_rank board
read_board g by_rank boards read place board each e l at =
    subst (IsBoard g by_rank) (sym (at ∙ ap (λ (bs : List Board). get_or bs place board) e))
    (each place board (subst (λ (bs : List Board). place < length bs) e l))

-- the kinds after the board that is read at a place
pub known_after : (boards read : List Board) (keys hands now : List ℕ) (place : ℕ) (board : Board) (kinds more : List Kind) → read ≡ boards → now ≡ hands
    → place < length read → board ≡ get_or read place board → AreHands board keys hands
    → All (IsKnown boards keys) kinds → (more ≡ kinds) ⊎ HasMore kinds more place now → All (IsKnown boards keys) more
known_after boards read keys hands now place board kinds more e f l at here all step = ⊎_elim
    (λ same. subst (All (IsKnown boards keys)) (sym same) all)
    (λ (m : HasMore kinds more place now).
    let in' : place < length boards = subst (λ (bs : List Board). place < length bs) e l in
    let is : board ≡ get_or boards place board = subst (λ (bs : List Board). board ≡ get_or bs place board) e at in
    let P : ℕ → Type 0 = λ b. (d : Board) → AreHands (get_or boards b d) keys m.last.hands.items in
    let each : (d : Board) → AreHands (get_or boards place d) keys m.last.hands.items = λ d.
    let there : AreHands (get_or boards place d) keys hands = subst (λ (b : Board). AreHands b keys hands) (is
    ∙ get_or_default boards place board d in') here in
    subst (AreHands (get_or boards place d) keys) (sym (m.hands_are ∙ f)) there in
    let new : IsKnown boards keys m.last = record {
      within = subst (λ (b : ℕ). b < length boards) (sym m.board_is) in';
      hands =
          subst P (sym m.board_is) each;
    } in
    subst (All (IsKnown boards keys)) (sym m.joined) (All-push (IsKnown boards keys) kinds m.last all new))
    step

-- the marks after a board
pub marks_after : (g : Game) (by_rank : Bool) (boards : List Board) (keys : List ℕ) → ((i : ℕ) → i < last_count g → get_or keys i 0 < 4294967296)
    → All (IsBoard g by_rank) boards → (place kind : ℕ) (board other : Board) (like : Kind) (kinds : List Kind)
    → (hands marks new : List ℕ) → place < length boards → board ≡ get_or boards place board → AreHands board keys hands → All (IsKnown boards keys) kinds
    → IsKindOf kinds kind hands → like ≡ get_or kinds kind like → other ≡ get_or boards like.board other
    → AreAlikeMarks g keys marks → MayMark (seat_signals board.seats.items) hands (seat_signals other.seats.items) like.hands.items marks new
    → AreAlikeMarks g keys new
marks_after g by_rank boards keys few each place kind board other like kinds hands marks new l is h known of like_is other_is m may =
    let b : IsBoard g by_rank board = subst (IsBoard g by_rank) (sym is) (each place board l) in
    let k : IsKnown boards keys like = like_known boards keys hands kinds kind like known of like_is in
    let o : IsBoard g by_rank other = subst (IsBoard g by_rank) (sym other_is) (each like.board other k.within) in
    let theirs : AreHands other keys like.hands.items = subst (λ (x : Board). AreHands x keys like.hands.items) (sym other_is) (k.hands other) in
    let moved : IsPermutation like.hands.items hands = subst (λ (x : Kind). IsPermutation x.hands.items hands) (sym like_is) (of.same like) in
    record {
      long = may.long ∙ m.long;
      alike = λ i in' small. ⊎_elim
          (λ (e : get_or new i 0 ≡ get_or marks i 0). subst (AreAlike g keys i) (sym e) (m.alike i in' (omega (arith, e, small))))
          (λ mark. mark_alike g by_rank keys few board other hands like.hands.items b o h theirs moved i (get_or new i 0) mark)
          (may.each i);
    }

-- lists that are read through references
pub may_read : (s o seats others : List Seat) (h k m hands other_hands old marks : List ℕ) → s ≡ seats → h ≡ hands → o ≡ others → k ≡ other_hands → m ≡ old
    → MayMark (seat_signals s) h (seat_signals o) k m marks
    → MayMark (seat_signals seats) hands (seat_signals others) other_hands old marks
may_read s o seats others h k m hands other_hands old marks a b d e f may =
    subst (λ (x : List ℕ). MayMark (seat_signals seats) hands (seat_signals others) other_hands x marks) f
    (subst (λ (x : List ℕ). MayMark (seat_signals seats) hands (seat_signals others) x m marks) e
    (subst (λ (x : List Seat). MayMark (seat_signals seats) hands (seat_signals x) k m marks) d
    (subst (λ (x : List ℕ). MayMark (seat_signals seats) x (seat_signals o) k m marks) b
    (subst (λ (x : List Seat). MayMark (seat_signals x) h (seat_signals o) k m marks) a may))))
