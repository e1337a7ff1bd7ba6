-- From a class total that is found again in the lists to a settled class: the lines of a cell are the worths of its moves, and what is written is their first
-- greatest or their sum.
use Rattle.std.proofs.Common.{◌≡◌, ◌≢◌, ℕ, ◌+◌, ◌-◌, ◌*◌, ◌^◌, ◌<◌, ◌≤◌, List, length, take, drop, set, sym, ap, ◌∙◌, subst, arith, ⊎_elim, get_or-set_same}
use Rattle.std.specs.{Prelude.{ℤ, pos, ◌+ℤ◌, ◌-ℤ◌, ◌*ℤ◌, slice_index, unsigned_abs}, List.{range_with_len}}
use Rattle.std.proofs.{lemmas.Bool.{cases_eq}, lemmas.Int.{ints}, lemmas.List.{get_or-drop, get_or-take, length-drop, length-take-le}}
use Rattle.gs_model.specs.{BestAnswers.{Values}, Classes.{ClassLists, IsClass}, Frame.{Frame, choices_at, move_count, player_at, point_count, round_of}}
use Rattle.gs_model.specs.{FrameFacts.{IsWalked}, Positions.{at_point}, Sums.{sum_z}}
use Rattle.gs_best.specs.{Tables.{moves_of}, ClassTotals.{total_worth}}
use Rattle.gs_best.proofs.{Ranges.{sum_same}, PointStarts.{place_before}}
use Rattle.gs_play.specs.{Lines.{StaysFirst, flat, line_at, wrapped}, Plots.{IsRowIn, cell_place, worth_place}, Tables.{IsLineSettled}}
use Rattle.gs_play.specs.Tallies.{AreSmallAtEnds, HasTallyRoom, HasWorths, IsAddedUp, IsChosen, IsLineFound, IsPicked, IsTally, at_part, lines_at, part_table}
use Rattle.gs_play.specs.{Tallies.{slope_part, slopes_of, zeros_of}, declared.line.Line.{Line}, declared.plot.PointRow.{PointRow}, declared.tally.Tally.{Tally}}
use Rattle.gs_play.proofs.{Found.{AreWorthLines, other_found, own_found}, Known.{slope_few, slopes_few, zero_few, zeros_few}, Wrapped.{unwrapped}}
use Rattle.gs_play.proofs.{Lists.{changed_table, worths_before}, PlotRows.{row_first}, Settling.{IsChanged}}

part_here : (xs : List Line) (first n m : ℕ) → m < n → line_at (take n (drop first xs)) m ≡ line_at xs (first + m)
part_here xs first n m lm = get_or-take n (drop first xs) m flat lm ∙ get_or-drop first xs m flat

-- the lines of what the moves of a point are worth to a class
abbrev pub lines_for : Frame → ClassLists → ℕ → ℕ → List Line → List Line
lines_for f lists q c worths = take (move_count f q) (drop (worth_place f lists q c 0) worths)

-- they are those, where no worth wraps around
pub worth_lines : (f : Frame) (lists : ClassLists) (zeros slopes : Values) (worths : List Line) → HasWorths f lists at_part zeros worths
    → HasWorths f lists slope_part slopes worths → (q c : ℕ) → q < point_count f → IsClass lists (round_of f (at_point q)) c
    → worth_place f lists q c 0 + move_count f q ≤ length worths
    → ((m : ℕ) → m < move_count f q → unsigned_abs (total_worth f lists zeros q m c) ≤ 2 ^ 59)
    → ((m : ℕ) → m < move_count f q → unsigned_abs (total_worth f lists slopes q m c) ≤ 2 ^ 59)
    → AreWorthLines f lists zeros slopes q c (lines_for f lists q c worths)
worth_lines f lists zeros slopes worths a s q c lq lc room few_a few_s =
    let n = move_count f q in
    let first = worth_place f lists q c 0 in
    let place : (m : ℕ) → first + m ≡ worth_place f lists q c m = λ m. omega arith in
    record {
      long = (let d = length-drop first worths in let l : n ≤ length (drop first worths) = omega (arith, d, room) in length-take-le n (drop first worths) l);
      at_is = λ m lm. ap at_part (part_here worths first n m lm ∙ ap (line_at worths) (place m)) ∙ a q c m lq lc lm ∙ unwrapped _ (few_a m lm);
      slope_is = λ m lm. ap slope_part (part_here worths first n m lm ∙ ap (line_at worths) (place m)) ∙ s q c m lq lc lm ∙ unwrapped _ (few_s m lm);
    }

-- the class total of a class of a point is found again from the worths of its moves
pub record IsFoundFor (f : Frame) (lists : ClassLists) (player q c now last : ℕ) (old new : Tally) : Type 0 where
  pub own : player_at f q ≡ player → IsChosen (lines_for f lists q c old.worths.items) q (cell_place f lists q c) now last old new
  pub others : player_at f q ≢ player → IsAddedUp (lines_for f lists q c old.worths.items) (cell_place f lists q c) last old new
  pub worths : new.worths ≡ old.worths

-- a row has the lines of its point
row_lines : (f : Frame) (lists : ClassLists) (r : PointRow) → IsRowIn f lists r → (c : ℕ) (t : Tally)
    → lines_at r (cell_place f lists r.point c) t ≡ lines_for f lists r.point c t.worths.items
row_lines f lists r row c t =
    let cell = cell_place f lists r.point c in
    ap (λ n. take n (drop (r.worth + (cell - r.cell) * r.moves) t.worths.items)) row.moves
    ∙ ap (λ i. take (move_count f r.point) (drop i t.worths.items)) (row_first f lists r row cell c (omega (arith, row.cell)))

-- so what is found by a row is found for a class of its point
pub found_for : (f : Frame) (lists : ClassLists) (player : ℕ) (r : PointRow) → IsRowIn f lists r → (c now last : ℕ) (old new : Tally)
    → IsLineFound player r (cell_place f lists r.point c) now last old new → IsFoundFor f lists player r.point c now last old new
found_for f lists player r row c now last old new found =
    let cell = cell_place f lists r.point c in
    let lines = row_lines f lists r row c old in
    record {
      own = λ own. subst (λ (xs : List Line). IsChosen xs r.point cell now last old new) lines (found.own (row.player ∙ own));
      others = λ other. subst (λ (xs : List Line). IsAddedUp xs cell last old new) lines (found.others (λ e. other (sym row.player ∙ e)));
      worths = found.worths;
    }

-- a class total that is found again is settled, and no other total changes
pub record IsFoundAgain (f : Frame) (lists : ClassLists) (player : ℕ) (zeros slopes zeros' slopes' : Values) (q c now : ℕ) (old new : Tally) : Type 0 where
  pub settled : let cell = cell_place f lists q c in
      IsLineSettled f lists player zeros' slopes' q c (slice_index new.picks.items cell) now (slice_index new.dues.turns.items cell)
  pub zero_more : let cell = cell_place f lists q c in
      IsChanged f lists zeros zeros' (at_point q) c ((line_at new.totals.items cell).at -ℤ (line_at old.totals.items cell).at)
  pub slope_more : let cell = cell_place f lists q c in
      IsChanged f lists slopes slopes' (at_point q) c ((line_at new.totals.items cell).slope -ℤ (line_at old.totals.items cell).slope)

difference : (x y : ℤ) → x ≡ y +ℤ (x -ℤ y)
difference x y = omega (arith, ints)

module _ (f : Frame) (lists : ClassLists) (player : ℕ) (walked : IsWalked f player) (pays rise : ℕ → ℕ → ℤ) (now last : ℕ) (soon : now ≤ 2 ^ 20)
    (few : AreSmallAtEnds f lists player pays rise) (old new : Tally) (room : HasTallyRoom f lists old) (h : IsTally f lists player pays rise now old) (q c : ℕ)
    (lq : q < point_count f) (lc : IsClass lists (round_of f (at_point q)) c)
    (late : (p e : ℕ) → q < p → p < point_count f → IsClass lists (round_of f (at_point p)) e → now < moves_of f lists old.dues.turns.items p e)
    (found : IsFoundFor f lists player q c now last old new) where
  abbrev cell : ℕ
  cell = cell_place f lists q c

  abbrev Z : Tally → Values
  Z t = zeros_of f lists pays rise now t.totals.items

  abbrev S : Tally → Values
  S t = slopes_of f lists rise t.totals.items

  abbrev pick : ℕ → ℕ → ℕ
  pick = moves_of f lists old.picks.items

  abbrev due : ℕ → ℕ → ℕ
  due = moves_of f lists old.dues.turns.items

  room_here : worth_place f lists q c 0 + move_count f q ≤ length old.worths.items
  room_here = omega (arith, worths_before f lists q c (point_count f) lc lq, room.worths)

  inside : cell < length old.totals.items
  inside = omega (arith, place_before f lists q c (point_count f) lc lq, room.totals)

  lines_are : AreWorthLines f lists (Z old) (S old) q c (lines_for f lists q c old.worths.items)
  lines_are = worth_lines f lists (Z old) (S old) old.worths.items h.zeros h.slopes q c lq lc room_here
      (λ m lm. zero_few f lists player pays rise now soon few old.totals.items pick due q lq h.settled late m c lm lc)
      (λ m lm. let s = slope_few f lists player pays rise now soon few old.totals.items pick due q lq h.settled late m c lm lc in omega (arith, s))

  -- what is written changes no other total
  module _ (x : Line) (totals : new.totals.items ≡ set old.totals.items cell x) where
    here : line_at new.totals.items cell ≡ x
    here = ap (λ xs. line_at xs cell) totals ∙ get_or-set_same old.totals.items cell x flat inside

    changed : (part : Line → ℤ) (ends : ℕ → ℕ → ℤ)
        → IsChanged f lists (part_table f lists part ends old.totals.items) (part_table f lists part ends new.totals.items) (at_point q) c
        (part (line_at new.totals.items cell) -ℤ part (line_at old.totals.items cell))
    changed part ends =
        let more = part (line_at new.totals.items cell) -ℤ part (line_at old.totals.items cell) in
        subst (λ (xs : List Line). IsChanged f lists (part_table f lists part ends old.totals.items) (part_table f lists part ends xs) (at_point q) c more)
        (sym totals)
        (changed_table f lists part ends old.totals.items q c x more lc inside
        (sym (ap part here) ∙ difference (part (line_at new.totals.items cell)) (part (line_at old.totals.items cell))))

    zeros_changed : IsChanged f lists (Z old) (Z new) (at_point q) c ((line_at new.totals.items cell).at -ℤ (line_at old.totals.items cell).at)
    zeros_changed = changed at_part (λ z e. pays z e -ℤ pos now *ℤ rise z e)

    slopes_changed : IsChanged f lists (S old) (S new) (at_point q) c ((line_at new.totals.items cell).slope -ℤ (line_at old.totals.items cell).slope)
    slopes_changed = changed slope_part rise

  -- by the first greatest line
  own_again : player_at f q ≡ player → IsFoundAgain f lists player (Z old) (S old) (Z new) (S new) q c now old new
  own_again own =
      let k = found.own own in
      let best = slice_index new.picks.items cell in
      let line = line_at (lines_for f lists q c old.worths.items) best in
      let ca = zeros_changed line k.totals in
      let cs = slopes_changed line k.totals in
      record {
        settled = record {
          own = λ o. own_found f lists player walked (Z old) (S old) (Z new) (S new) q c lq _ _ ca cs (lines_for f lists q c old.worths.items)
              lines_are best now (slice_index new.dues.turns.items cell) k.inside k.stays (ap at_part (here line k.totals))
              (ap slope_part (here line k.totals));
          others = λ no. absurd (no own);
        };
        zero_more = ca;
        slope_more = cs;
      }

  -- by the sum of all lines
  other_again : player_at f q ≢ player → IsFoundAgain f lists player (Z old) (S old) (Z new) (S new) q c now old new
  other_again other =
      let k = found.others other in
      let lines = lines_for f lists q c old.worths.items in
      let n = move_count f q in
      let ca = zeros_changed k.total k.totals in
      let cs = slopes_changed k.total k.totals in
      let zeros : sum_z (λ m. (line_at lines m).at) (choices_at f q) ≡ sum_z (λ m. total_worth f lists (Z old) q m c) (choices_at f q) =
      sum_same (λ m. (line_at lines m).at) (λ m. total_worth f lists (Z old) q m c) 0 n (λ m lo hi. lines_are.at_is m (omega (arith, hi))) in
      let slopes : sum_z (λ m. (line_at lines m).slope) (choices_at f q) ≡ sum_z (λ m. total_worth f lists (S old) q m c) (choices_at f q) =
      sum_same (λ m. (line_at lines m).slope) (λ m. total_worth f lists (S old) q m c) 0 n (λ m lo hi. lines_are.slope_is m (omega (arith, hi))) in
      let small_s = slopes_few f lists player pays rise now soon few old.totals.items pick due q lq h.settled late walked other c lc in
      let at_all : (line_at new.totals.items cell).at ≡ sum_z (λ m. (line_at lines m).at) (choices_at f q) =
      ap at_part (here k.total k.totals) ∙ k.at_is ∙ ap (λ i. wrapped (sum_z (λ m. (line_at lines m).at) (range_with_len 0 i))) lines_are.long
      ∙ ap wrapped zeros
      ∙ unwrapped _ (zeros_few f lists player pays rise now soon few old.totals.items pick due q lq h.settled late walked other c lc) ∙ sym zeros in
      let slope_all : (line_at new.totals.items cell).slope ≡ sum_z (λ m. (line_at lines m).slope) (choices_at f q) =
      ap slope_part (here k.total k.totals) ∙ k.slope_is ∙ ap (λ i. wrapped (sum_z (λ m. (line_at lines m).slope) (range_with_len 0 i))) lines_are.long
      ∙ ap wrapped slopes ∙ unwrapped _ (omega (arith, small_s)) ∙ sym slopes in
      record {
        settled = record {
          own = λ o. absurd (other o);
          others = λ no. other_found f lists player walked (Z old) (S old) (Z new) (S new) q c lq _ _ ca cs lines lines_are at_all slope_all;
        };
        zero_more = ca;
        slope_more = cs;
      }

  pub found_again : IsFoundAgain f lists player (Z old) (S old) (Z new) (S new) q c now old new
  found_again = ⊎_elim own_again other_again (cases_eq (player_at f q) player)

-- what is written at a cell, where its picks and its turns are those before with the choice and the turn in its place
pub written : (lines : List Line) (point cell now last best until : ℕ) (old new : Tally) → cell < length old.picks.items
    → cell < length old.dues.turns.items → best < length lines → StaysFirst lines best now until → now < until
    → new.totals.items ≡ set old.totals.items cell (line_at lines best) → IsPicked point cell best old new
    → new.dues.turns.items ≡ set old.dues.turns.items cell until → IsChosen lines point cell now last old new
written lines point cell now last best until old new inside_picks inside_turns inside stays later totals picked turns =
    let at : best ≡ slice_index new.picks.items cell =
    sym (ap (λ (xs : List ℕ). slice_index xs cell) picked.picks ∙ get_or-set_same old.picks.items cell best 0 inside_picks) in
    let due : until ≡ slice_index new.dues.turns.items cell =
    sym (ap (λ (xs : List ℕ). slice_index xs cell) turns ∙ get_or-set_same old.dues.turns.items cell until 0 inside_turns) in
    record {
      inside = subst (λ b. b < length lines) at inside;
      stays = subst (λ b. StaysFirst lines b now (slice_index new.dues.turns.items cell)) at (subst (λ t. StaysFirst lines best now t) due stays);
      later = subst (λ t. now < t) due later;
      totals = totals ∙ ap (λ b. set old.totals.items cell (line_at lines b)) at;
      picked = subst (λ b. IsPicked point cell b old new) at picked;
      dues = turns ∙ ap (λ t. set old.dues.turns.items cell t) due;
    }
