-- What a player holds at the start.
use Rattle.std.proofs.{Common.{◌≡◌, ℕ, ◌+◌, ◌-◌, ◌<◌, ◌≤◌, Bool, true, false, cond, Vec, refl, sym, ap, ◌∙◌, subst, arith}, lemmas.Int.{ints}}
use Rattle.std.specs.{Prelude.{◌==◌, get_or, slice_index, ℤ, pos, ◌-ℤ◌, ◌*ℤ◌}, declared.alloc.Global.{Global}}
use Rattle.gs_model.specs.{BestAnswers.{Values}, Classes.{ClassLists, class_count}, Frame.{Frame, end_count, leads_to, other_player, round_of}}
use Rattle.gs_model.specs.{FrameFacts.{IsWalked}, Play.{IsFirstMoves}, Plans.{Plan}, Positions.{Target, at_end, at_point}}
use Rattle.gs_model.proofs.Sparse.{sum_none}
use Rattle.gs_seq.specs.{Abstracts.{abstract_frame, lists_of}, Payoffs.{end_sum}, declared.form.Abstract.{Abstract}}
use Rattle.gs_seq.proofs.Forms.{form_classes, form_in_range, form_moves, form_walked}
use Rattle.gs_best.specs.{ClassTotals.{earlier_class, total_worth}, Tables.{moves_of, start_of}}
use Rattle.gs_play.specs.{Answers.{AreRight, HasAnswer, answer_plan}, Lines.{line_at, wrapped}, Plots.{cell_place, worth_place}, Seats.{IsAtStart}}
use Rattle.gs_play.specs.{Tallies.{IsBlank, IsTally, KeepsChoices, at_part, part_table, slope_part}, declared.answers.Answer.{Answer}}
use Rattle.gs_play.specs.{declared.line.Line.{Line}, declared.tally.Tally.{Tally}}
use Rattle.gs_play.proofs.{Alike.{tally_same}, Played.{end_alike}, PlansAlike.{firsts_same, puts_firsts}, Taken.{taken_puts}, Wrapped.{unwrapped}}

-- ---- class totals that are 0

none_worth : (f : Frame) (lists : ClassLists) (v : Values) → ((g : Target) (c : ℕ) → v g c ≡ pos 0) → (q m c : ℕ) → total_worth f lists v q m c ≡ pos 0
none_worth f lists v none q m c =
    let from = round_of f (leads_to f q m) in
    let to = round_of f (at_point q) in
    sum_none (λ n. cond (earlier_class f lists from to n == c) (v (leads_to f q m) n) (pos 0)) 1 (class_count lists from)
    (λ n a b. by (earlier_class f lists from to n == c) (v (leads_to f q m) n) (none (leads_to f q m) n))
  where
    by : (t : Bool) (x : ℤ) → x ≡ pos 0 → cond t x (pos 0) ≡ pos 0
    by true x e = e
    by false x e = refl

pub clear_tally : (f : Frame) (lists : ClassLists) (player : ℕ) (t : Tally) → IsBlank t → IsTally f lists player (λ z c. pos 0) (λ z c. pos 0) 0 t
clear_tally f lists player t clear = record {
  zeros = λ q c m lq lc lm. worth at_part (λ z c. pos 0 -ℤ pos 0 *ℤ pos 0) (λ z c. omega (arith, ints)) refl q c m;
  slopes = λ q c m lq lc lm. worth slope_part (λ z c. pos 0) (λ z c. refl) refl q c m;
  settled = λ q c lq lc later. absurd (let d = clear.due (start_of f lists q + (c - 1)) in omega (arith, later, d));
}
  where
    table : (part : Line → ℤ) (ends : ℕ → ℕ → ℤ) → ((z c : ℕ) → ends z c ≡ pos 0) → part (record { at = pos 0; slope = pos 0 }) ≡ pos 0 → (g : Target) (c : ℕ)
        → part_table f lists part ends t.totals.items g c ≡ pos 0
    table part ends none flat (at_point q) c = ap part (clear.totals (cell_place f lists q c)) ∙ flat
    table part ends none flat (at_end z) c = none z c

    worth : (part : Line → ℤ) (ends : ℕ → ℕ → ℤ) → ((z c : ℕ) → ends z c ≡ pos 0) → part (record { at = pos 0; slope = pos 0 }) ≡ pos 0 → (q c m : ℕ)
        → part (line_at t.worths.items (worth_place f lists q c m)) ≡ wrapped (total_worth f lists (part_table f lists part ends t.totals.items) q m c)
    worth part ends none flat q c m =
        ap part (clear.worths (worth_place f lists q c m)) ∙ flat ∙ sym (unwrapped (pos 0) (omega arith))
        ∙ ap wrapped (sym (none_worth f lists (part_table f lists part ends t.totals.items) (table part ends none flat) q m c))

-- ---- a player

module _ (a : Abstract) (player : ℕ) (some : 0 < player) (two : player ≤ 2) where
  abbrev F : Frame
  F = abstract_frame a

  abbrev L : ClassLists
  L = lists_of a

  own : IsWalked F player
  own = form_walked a player some two

  other : IsWalked F (other_player player)
  other = form_walked a (other_player player) (omega (arith, two)) (omega (arith, some))

  module _ (answer : Answer) (right : AreRight F L player (moves_of F L answer.taken.items) (λ q c. 0)) where
    -- what takes the first moves is the first plan
    pub answer_first : IsFirstMoves F L player (answer_plan F L answer)
    answer_first = puts_firsts F L player (form_in_range a) own (form_classes a) (answer_plan F L answer) (λ q lq. (form_moves a q lq).some)
        (taken_puts F L player (moves_of F L answer.taken.items) (λ q c. 0) (λ q lq. let m = (form_moves a q lq).few in omega (arith, m)) right)

    -- with class totals that were 0 and then got what a first plan of the other's pays in each turn
    pub at_start : HasAnswer F L player 0 answer → (clear start : Tally) → IsBlank clear → KeepsChoices F L clear start
        → (plan : Plan) → IsFirstMoves F L (other_player player) plan
        → (IsTally F L player (λ z c. pos 0) (λ z c. pos 0) 0 clear → IsTally F L player (λ z c. pos 0) (end_sum F L player plan) 0 start)
        → IsAtStart F L player (record { answer = answer; tally = start })
    at_start has clear start none kept plan first begun = record {
      seat = record {
        answer = has;
        room = kept.room;
        plan = answer_first.plan;
        right = λ q c lq mine lc. (let r = right q c lq mine lc in let e = pick q c in record { on = λ reached. r.on reached ∙ sym e; off = r.off });
        still = λ q lq h. none.still q (subst (λ v. get_or v.items q false ≡ true) kept.moved h);
      };
      first = answer_first;
      faces = λ y h. tally_same F L player own (λ z c. pos 0) (end_sum F L player plan) (λ z c. pos 0) (end_sum F L player y) 0 0
          (λ z c lz lc. let e = pays y h z c lz in omega (arith, ints, e)) (λ z c lz lc. pays y h z c lz) start (omega arith)
          (begun (clear_tally F L player clear none));
    }
      where
        pick : (q c : ℕ) → moves_of F L start.picks.items q c ≡ 0
        pick q c = ap (λ (v : Vec ℕ Global). slice_index v.items (start_of F L q + (c - 1))) kept.picks ∙ none.picks (start_of F L q + (c - 1))

        pays : (y : Plan) → IsFirstMoves F L (other_player player) y → (z c : ℕ) → z < end_count F → end_sum F L player y z c ≡ end_sum F L player plan z c
        pays y h z c lz = end_alike F (form_in_range a) L (form_classes a) player own other y plan
            (firsts_same F L (other_player player) (form_in_range a) other (form_classes a) y plan h first) z c lz
