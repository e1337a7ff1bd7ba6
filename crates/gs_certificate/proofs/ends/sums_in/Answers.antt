use Rattle.std.proofs.Common.{◌≡◌, ℕ, ◌+◌, ◌-◌, ◌<◌, ◌≤◌, ◌∷◌, [], ◌++◌, length, take, sym, ap, ◌∙◌, subst, arith}
use Rattle.std.proofs.lemmas.List.{get_or-take, length-take-le}
use Rattle.std.specs.Prelude.{pos}
use Rattle.gs_model.specs.{Classes.{class_count}, Frame.{end_count, round_of}, Positions.{at_end}}
use Rattle.gs_seq.specs.Plans.{class_plan}
use Rattle.gs_best.specs.{Rooms.{IsWide}, Sides.{frame_at, lists_at}}
use Rattle.gs_best.proofs.Players.{walked}
use Rattle.gs_certificate.specs.Paid.{AreKept}
use Rattle.gs_certificate.proofs.{Kept.{kept_more, none_kept}, ends.sums_in.Goals.{In-loop-end}}
use Rattle.gs_certificate.proofs.ends.sums_in.Goals as goal

-- the end of a turn is one of the game's, and what is wide has room for the classes of its round
inside : (c : In-loop-end) → c.loop-end.end < end_count (frame_at c.args.side.now)
inside c = omega (arith, c.loop-end-test.true, c.end_total-ends.ensures)

fitting : (c : In-loop-end) (n : ℕ) → IsWide (frame_at c.args.side.now) (lists_at c.args.side.now) n
    → class_count (lists_at c.args.side.now) (round_of (frame_at c.args.side.now) (at_end c.loop-end.end)) ≤ n
fitting c n wide =
    let d = c.args.side.now in
    let z = c.loop-end.end in
    wide (round_of (frame_at d) (at_end z)) ((walked d).end_round z (inside c)) ((walked d).end_in z (inside c))

pub end_sums-requires-clause-wide : goal.end_sums-requires-clause-wide
end_sums-requires-clause-wide c = omega (arith, fitting (goal.at.end_sums-requires-clause-wide c).In-loop-end _ c.requires.wide, c.loop-end.auto.numbers)

pub end_sums-requires-clause-room : goal.end_sums-requires-clause-room
end_sums-requires-clause-room c = omega (arith, fitting (goal.at.end_sums-requires-clause-room c).In-loop-end _ c.requires.row, c.loop-end.auto.row)

pub loop-end-init : goal.loop-end-init
loop-end-init c =
    let d = c.args.side.now in
    none_kept (frame_at d) (lists_at d) d.player (class_plan (frame_at d) (lists_at d) d.other.now) c.in_ok-starts.starts.items c.new-sums.result.items
    (ap length c.in_ok-starts.ensures.items)

pub loop-end-preserved : goal.loop-end-preserved
loop-end-preserved c =
    let d = c.args.side.now in
    let f = frame_at d in
    let ls = lists_at d in
    let y = class_plan f ls d.other.now in
    let z = c.loop-end.end in
    let starts = c.loop-end.starts.items in
    let sums = c.loop-end.sums.items in
    let n = c.class_total-count.result in
    let paid = c.end_sums.new.sums in
    let count : n ≡ class_count ls (round_of f (at_end z)) = c.class_total-count.ensures.value ∙ ap (class_count ls) c.end_round.ensures.value in
    let wide : n ≤ length paid = omega (
      arith,
      count,
      fitting (goal.at.loop-end-preserved c).In-loop-end _ c.requires.row,
      c.loop-end.auto.row,
      c.end_sums.auto.sums,
    ) in
    let long = length-take-le n paid wide ∙ count in
    let more = kept_more f ls d.player y z starts sums (take n paid) c.loop-end.invariant long
    (λ k lk. get_or-take n paid (k - 1) (pos 0) (omega (arith, lk.0, lk.1, count))
    ∙ c.end_sums.ensures.here k lk) in
    let places : c.push.new.self.items ≡ starts ++ length sums ∷ [] = c.in_ok-push.ensures.items
    ∙ ap (λ m. starts ++ m ∷ []) (c.len.ensures ∙ c.loop-end.sums.ok.0) in
    let all : c.extend_from_slice.new.self.items ≡ sums ++ take n paid = c.in_ok-extend_from_slice.ensures.items in
    subst (λ xs. AreKept f ls d.player y (z + 1) xs c.extend_from_slice.new.self.items) (sym places)
    (subst (λ xs. AreKept f ls d.player y (z + 1) (starts ++ length sums ∷ []) xs) (sym all) more)

pub returns : goal.returns
returns c =
    let d = c.args.side.now in
    let f = frame_at d in
    let ls = lists_at d in
    let all : c.loop-end.end ≡ end_count f = omega (arith, c.loop-end-test.false, c.loop-end.auto.end-end, c.end_total-ends.ensures) in
    subst (λ n. AreKept f ls d.player (class_plan f ls d.other.now) n c.loop-end.starts.items c.loop-end.sums.items) all c.loop-end.invariant

pub slice_bounds-extend_from_slice-end-in-loop-end : goal.slice_bounds-extend_from_slice-end-in-loop-end
slice_bounds-extend_from_slice-end-in-loop-end c =
    let d = c.args.side.now in
    let n = c.class_total-count.result in
    let paid = c.end_sums.new.sums in
    let count : n ≡ class_count (lists_at d) (round_of (frame_at d) (at_end c.loop-end.end)) =
    c.class_total-count.ensures.value ∙ ap (class_count (lists_at d)) c.end_round.ensures.value in
    let fits = fitting (goal.at.slice_bounds-extend_from_slice-end-in-loop-end c).In-loop-end _ c.requires.row in
    sym (length-take-le n paid (omega (arith, count, fits, c.loop-end.auto.row, c.end_sums.auto.sums)))

pub slice_bounds-extend_from_slice-end : goal.slice_bounds-extend_from_slice-end
slice_bounds-extend_from_slice-end c = grind arith

pub end_sums-requires-clause-other : goal.end_sums-requires-clause-other
end_sums-requires-clause-other c = grind arith

pub end_sums-requires-clause-end : goal.end_sums-requires-clause-end
end_sums-requires-clause-end c = omega arith

pub class_total-count-requires-clause-top : goal.class_total-count-requires-clause-top
class_total-count-requires-clause-top c = omega arith

pub end_sums-requires-clause-some : goal.end_sums-requires-clause-some
end_sums-requires-clause-some c = omega arith

pub end_round-requires : goal.end_round-requires
end_round-requires c = omega arith

pub end_sums-requires-clause-two : goal.end_sums-requires-clause-two
end_sums-requires-clause-two c = omega arith
