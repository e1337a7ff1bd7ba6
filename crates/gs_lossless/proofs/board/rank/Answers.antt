use Rattle.std.proofs.{Common.{◌≡◌, ◌+◌, ◌<◌, ◌∙◌, ℕ, List, ap, arith, get_or, length, set, subst, sym}, lemmas.List.{get_or_default}}
use Rattle.gs_lossless.specs.{Boards.{levels_in}, declared.board.Seat.{Seat}}
use Rattle.gs_lossless.proofs.{Ranked.{AreRanked, all_ranked, level_is, more_again, more_ranked, start_ranked}, Seats.{none}}
use Rattle.gs_lossless.proofs.board.rank.Goals.{then-above-level, else-above-level}
use Rattle.gs_lossless.proofs.board.rank.Goals as goal

pub loop-place-init : goal.loop-place-init
loop-place-init c = start_ranked c.args.seats.now.items

pub loop-place-preserved : goal.loop-place-preserved
loop-place-preserved c =
    let seats : List Seat = c.args.seats.now.items in
    let n : ℕ = c.loop-place.place in
    let now : List Seat = c.loop-place.seats.items in
    let read : Seat = c.index.result.now in
    let h : AreRanked seats n now c.loop-place.rank c.loop-place.above = c.loop-place.invariant in
    let in' : n < length now = omega (arith, c.loop-place-test.true, h.long, c.len-place-end.ensures, c.args.seats.now.ok.0) in
    let l : n < length seats = omega (arith, in', h.long) in
    let is : get_or now n none ≡ read = sym (c.index.ensures ∙ get_or_default now n read none in') in
    let level : get_or (levels_in seats) n 0 ≡ read.level = level_is seats c.requires.ascending n l now c.loop-place.rank c.loop-place.above h
    ∙ ap (λ (s : Seat). s.level) is in
    let P : ℕ → ℕ → ℕ → Seat → Type 0 = λ k r a s. AreRanked seats (n + 1) (set now n (let x : Seat = record { level = k; signal = s.signal } in x)) r a in
    elim c.if-above-level.branch [
      | then-above-level w ↦
          let made = more_ranked seats c.requires.ascending n l now c.loop-place.rank c.loop-place.above h (omega (arith, w.if-above-level.true, level)) in
          let there : P n n read.level read = subst (P n n read.level) is (subst (λ (a : ℕ). P n n a (get_or now n none)) level made) in
          subst (λ (a : ℕ). P c.if-above-level.rank c.if-above-level.rank a read) (sym w.above-is)
          (subst (λ (r : ℕ). P r r read.level read) (sym w.rank-is) there)
      | else-above-level w ↦
          let made = more_again seats c.requires.ascending n l now c.loop-place.rank c.loop-place.above h (omega (arith, w.if-above-level.false, level)) in
          let there : P c.loop-place.rank c.loop-place.rank c.loop-place.above read =
          subst (P c.loop-place.rank c.loop-place.rank c.loop-place.above) is made in
          subst (λ (a : ℕ). P c.if-above-level.rank c.if-above-level.rank a read) (sym w.above-is)
          (subst (λ (r : ℕ). P r r c.loop-place.above read) (sym w.rank-is) there)
    ]

pub returns : goal.returns
returns c = all_ranked c.args.seats.now.items c.loop-place.place c.loop-place.seats.items c.loop-place.rank c.loop-place.above
    (omega arith) c.loop-place.invariant
