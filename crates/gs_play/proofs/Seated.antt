-- What a turn makes of what both players hold.
use Rattle.std.specs.{declared.alloc.Global.{Global}, Prelude.{length, slice_index, ℤ}}
use Rattle.std.proofs.Common.{◌≡◌, ℕ, Vec, Bool, false, true, get_or, ◌+◌, ◌-◌, ◌*◌, ◌<◌, ◌≤◌, refl, sym, ap, ◌∙◌, subst, arith}
use Rattle.gs_model.specs.{Classes.{ClassLists, IsClass, IsClasses}, Frame.{Frame, move_count, other_player, player_at, point_count, round_of}}
use Rattle.gs_model.specs.{FrameFacts.{InRange, IsWalked}, Plans.{IsClassPlan, Plan}, Play.{IsFictitiousPlay}, Positions.{at_point}}
use Rattle.gs_model.proofs.PlanLaws.{played_are_plans}
use Rattle.gs_seq.specs.{Abstracts.{abstract_frame, lists_of}, Payoffs.{end_sum}, Plans.{IsPlanOf, class_plan}, Slots.{slot_count}}
use Rattle.gs_seq.specs.{declared.form.Abstract.{Abstract}, declared.plan.Plan.{Plan as KeptPlan}}
use Rattle.gs_seq.proofs.Forms.{form_classes, form_in_range, form_lossless, form_moves, form_walked}
use Rattle.gs_best.specs.Tables.{AreInMoves, moves_of}
use Rattle.gs_play.specs.{PlanSums.{ArePlansAlike}, declared.answers.Answer.{Answer}, declared.seat.Seat.{Seat}, declared.tally.Tally.{Tally}}
use Rattle.gs_play.proofs.{Jumps.{AnswerStays, jump}, Few.{few_lines}, PlansAlike.{alike_on, firsts_alike, played_alike, puts_plan}, SumLaws.{plus_times}}
use Rattle.gs_play.specs.{Answers.{AreRight, IsRight, IsRenewed, IsSameTally, answer_plan, plan_after, taken_plan}, DueTurns.{IsNoneDue}}
use Rattle.gs_play.specs.{Seats.{ArePlaying, IsAtStart, IsNextDue, IsSeat}, Tallies.{AreSmallAtEnds, HasMoved, HasTallyRoom, IsSwept, IsTally, TellsMoves}}
use Rattle.gs_play.proofs.{Played.{answer_stays, faces_first, faces_later, picks_inside, plan_first, plan_later, stays_on}, Taken.{taken_puts}}

-- ---- one player

-- where no choice has changed since, what is taken is right by the new choices too
pub right_kept : (f : Frame) (lists : ClassLists) (player : ℕ) (taken : ℕ → ℕ → ℕ) (old new : Tally)
    → AreRight f lists player taken (moves_of f lists old.picks.items)
    → TellsMoves f lists old new → (q : ℕ) → q < point_count f → player_at f q ≡ player → (HasMoved new q → ⊥) → (c : ℕ)
    → IsClass lists (round_of f (at_point q)) c → IsRight f lists taken (moves_of f lists new.picks.items) q c
right_kept f lists player taken old new right tells q lq own still c lc =
    let r = right q c lq own lc in
    let same = (tells q lq still).1 c lc in
    record { on = λ reached. r.on reached ∙ sym same; off = r.off }

-- such tallies are of the same class totals
pub tally_kept : (f : Frame) (lists : ClassLists) (player : ℕ) (pays rise : ℕ → ℕ → ℤ) (now : ℕ) (old new : Tally) → IsSameTally old new
    → IsTally f lists player pays rise now old → IsTally f lists player pays rise now new
tally_kept f lists player pays rise now old new same h =
    subst (λ x. IsTally f lists player pays rise now (record { worths = x; totals = new.totals; dues = new.dues; picks = new.picks; moved = new.moved }))
    (sym same.worths)
    (subst (λ x. IsTally f lists player pays rise now (record { worths = old.worths; totals = x; dues = new.dues; picks = new.picks; moved = new.moved }))
    (sym same.totals)
    (subst (λ x. IsTally f lists player pays rise now (record { worths = old.worths; totals = old.totals; dues = x; picks = new.picks; moved = new.moved }))
    (sym same.dues)
    (subst (λ x. IsTally f lists player pays rise now (record { worths = old.worths; totals = old.totals; dues = old.dues; picks = x; moved = new.moved }))
    (sym same.picks)
    (record { zeros = h.zeros; slopes = h.slopes; settled = h.settled }))))

pub still_kept : (n : ℕ) (old new : Tally) → new.moved ≡ old.moved → ((q : ℕ) → q < n → HasMoved old q → ⊥) → (q : ℕ) → q < n → HasMoved new q → ⊥
still_kept n old new moved still q l h = still q l (subst (λ (v : Vec Bool Global). get_or v.items q false ≡ true) moved h)

-- there is room in a later turn too
pub seat_later : (f : Frame) (lists : ClassLists) (player now later : ℕ) (s : Seat) → now ≤ later → IsSeat f lists player now s → IsSeat f lists player later s
seat_later f lists player now later s l h = record {
  answer = record {
    weights = h.answer.weights;
    taken = h.answer.taken;
    since = h.answer.since;
    turned = h.answer.turned;
    moves = h.answer.moves;
    begun = λ n. (let b = h.answer.begun n in omega (arith, b, l));
    few = h.answer.few;
  };
  room = h.room;
  plan = h.plan;
  right = h.right;
  still = h.still;
}

plus_alike : (f : Frame) (lists : ClassLists) (player : ℕ) (x y b : Plan) (times : ℕ) → ArePlansAlike f lists player x y
    → ArePlansAlike f lists player (plus_times x times b) (plus_times y times b)
plus_alike f lists player x y b times a = record {
  total = ap (λ n. n + times * b.total) a.total;
  numbers = λ q c m lq own lc lm. ap (λ n. n + times * b.number q c m) (a.numbers q c m lq own lc lm);
}

-- ---- both players

module _ (f : Frame) (r : InRange f) (lists : ClassLists) (k : IsClasses f.parents lists) (w : IsWalked f 1) (v : IsWalked f 2) where
  module _ (now next : ℕ) (some : 0 < now) (later : now < next) (old_one old_two : Answer) (one two : Seat)
      (seat_one : IsSeat f lists 1 now one) (seat_two : IsSeat f lists 2 now two)
      (plan_one : ArePlansAlike f lists 1 (plan_after f lists one.answer now) (plan_after f lists old_one now))
      (plan_two : ArePlansAlike f lists 2 (plan_after f lists two.answer now) (plan_after f lists old_two now)) where
    abbrev times : ℕ
    times = next - now

    since_now : next ≡ now + times
    since_now = omega (arith, later)

    -- the plan of the next turn
    grown : (player : ℕ) (old : Answer) (s : Seat) → IsSeat f lists player now s → ArePlansAlike f lists player (plan_after f lists s.answer now)
        (plan_after f lists old now)
        → ArePlansAlike f lists player (plan_after f lists s.answer next) (plus_times (plan_after f lists old now) times (answer_plan f lists s.answer))
    grown player old s h same =
        subst (λ n. ArePlansAlike f lists player (plan_after f lists s.answer n) (plus_times (plan_after f lists old now) times (answer_plan f lists s.answer)))
        (sym since_now)
        (alike_on f lists player (plan_after f lists s.answer (now + times)) (plus_times (plan_after f lists s.answer now) times (answer_plan f lists s.answer))
        (plus_times (plan_after f lists old now) times (answer_plan f lists s.answer)) (plan_later f lists player now times s.answer h.answer)
        (plus_alike f lists player (plan_after f lists s.answer now) (plan_after f lists old now) (answer_plan f lists s.answer) times same))

    -- as long as both answers stay, so many turns lead to the next turn
    pub next_playing : IsFictitiousPlay f lists (now - 1) (plan_after f lists old_one now) (plan_after f lists old_two now)
        → IsTally f lists 1 (end_sum f lists 1 (plan_after f lists old_two now)) (end_sum f lists 1 (answer_plan f lists two.answer)) now one.tally
        → IsTally f lists 2 (end_sum f lists 2 (plan_after f lists old_one now)) (end_sum f lists 2 (answer_plan f lists one.answer)) now two.tally
        → AnswerStays f lists 1 (plan_after f lists old_two now) (answer_plan f lists two.answer) (answer_plan f lists one.answer) times
        → AnswerStays f lists 2 (plan_after f lists old_one now) (answer_plan f lists one.answer) (answer_plan f lists two.answer) times
        → ArePlaying f lists next one two
    next_playing played faces_one faces_two stays_one stays_two =
        let g = grown 1 old_one one seat_one plan_one in
        let h = grown 2 old_two two seat_two plan_two in
        let turns : (now - 1) + times ≡ next - 1 = omega (arith, some, later) in
        record {
          some = omega (arith, later);
          seat_one = seat_later f lists 1 now next one (omega (arith, later)) seat_one;
          seat_two = seat_later f lists 2 now next two (omega (arith, later)) seat_two;
          faces_one = faces_later f r lists k 1 w v (plan_after f lists old_two now) (answer_plan f lists two.answer)
              (plan_after f lists two.answer next) now times next
              one.tally since_now h faces_one;
          faces_two = faces_later f r lists k 2 v w (plan_after f lists old_one now) (answer_plan f lists one.answer)
              (plan_after f lists one.answer next) now times next
              two.tally since_now g faces_two;
          played = subst (λ n. IsFictitiousPlay f lists n (plan_after f lists one.answer next) (plan_after f lists two.answer next)) turns
              (jump f lists (now - 1) times (plan_after f lists old_one now) (plan_after f lists old_two now) (answer_plan f lists one.answer)
              (answer_plan f lists two.answer) played stays_one stays_two (plan_after f lists one.answer next) (plan_after f lists two.answer next)
              (omega (arith, later)) g h);
        }

  -- the start is turn 1
  pub starts_playing : (one two : Seat) → IsAtStart f lists 1 one → IsAtStart f lists 2 two → ArePlaying f lists 1 one two
  starts_playing one two a b =
      let g = plan_first f lists 1 one.answer a.seat.answer in
      let h = plan_first f lists 2 two.answer b.seat.answer in
      record {
        some = omega arith;
        seat_one = seat_later f lists 1 0 1 one (omega arith) a.seat;
        seat_two = seat_later f lists 2 0 1 two (omega arith) b.seat;
        faces_one = faces_first f r lists k 1 w v (answer_plan f lists two.answer) (plan_after f lists two.answer 1) one.tally h
            (a.faces (answer_plan f lists two.answer) b.first);
        faces_two = faces_first f r lists k 2 v w (answer_plan f lists one.answer) (plan_after f lists one.answer 1) two.tally g
            (b.faces (answer_plan f lists one.answer) a.first);
        played = (
          firsts_alike f lists 1 r w k (plan_after f lists one.answer 1) (answer_plan f lists one.answer) g a.first,
          firsts_alike f lists 2 r v k (plan_after f lists two.answer 1) (answer_plan f lists two.answer) h b.first,
        );
      }

-- ---- the end

-- what is handed out in the last turn
pub record IsHandedOut (f : Frame) (lists : ClassLists) (player last : ℕ) (a : Answer) (p : KeptPlan) : Type 0 where
  pub player_is : p.player ≡ player
  pub long : length p.weights.items ≡ slot_count f lists player
  pub alike : ArePlansAlike f lists player (class_plan f lists p) (plan_after f lists a last)

-- the plans after some turns of play
pub record AreEnded (f : Frame) (lists : ClassLists) (turns : ℕ) (p q : KeptPlan) : Type 0 where
  pub played : IsFictitiousPlay f lists turns (class_plan f lists p) (class_plan f lists q)
  pub one : IsPlanOf f lists 1 p
  pub two : IsPlanOf f lists 2 q

pub ended : (f : Frame) (lists : ClassLists) → InRange f → IsWalked f 1 → IsWalked f 2 → IsClasses f.parents lists → (turns : ℕ) → turns ≤ 1000000
    → (one two : Seat) → ArePlaying f lists (turns + 1) one two → (p q : KeptPlan) → IsHandedOut f lists 1 (turns + 1) one.answer p
    → IsHandedOut f lists 2 (turns + 1) two.answer q → AreEnded f lists turns p q
ended f lists r w v k turns few one two h p q a b =
    let same : turns + 1 - 1 ≡ turns = omega arith in
    let x = class_plan f lists p in
    let y = class_plan f lists q in
    let played : IsFictitiousPlay f lists turns x y = played_alike f lists r w v k turns (plan_after f lists one.answer (turns + 1))
    (plan_after f lists two.answer (turns + 1)) x y
    a.alike b.alike (subst (λ n. IsFictitiousPlay f lists n (plan_after f lists one.answer (turns + 1)) (plan_after f lists two.answer (turns + 1)))
    same h.played) in
    let plans = played_are_plans f lists r w v k turns x y (omega (arith, few)) played in
    record {
      played = played;
      one = record { player_is = a.player_is; plan = record { long = a.long; plan = plans.0 } };
      two = record { player_is = b.player_is; plan = record { long = b.long; plan = plans.1 } };
    }

-- both plans of a turn
pub plans_in : (f : Frame) (lists : ClassLists) → InRange f → IsWalked f 1 → IsWalked f 2 → IsClasses f.parents lists → (now : ℕ) → now ≤ 1000001
    → (one two : Seat) → ArePlaying f lists now one two
    → IsClassPlan f lists 1 (plan_after f lists one.answer now) × IsClassPlan f lists 2 (plan_after f lists two.answer now)
plans_in f lists r w v k now few one two h =
    let plans = played_are_plans f lists r w v k (now - 1) (plan_after f lists one.answer now) (plan_after f lists two.answer now)
    (omega (arith, few)) h.played in
    (plans.0, plans.1)

-- ---- players of a game

module _ (a : Abstract) where
  abbrev F : Frame
  F = abstract_frame a

  abbrev L : ClassLists
  L = lists_of a

  -- ---- a player's answer

  module _ (player : ℕ) (some : 0 < player) (two : player ≤ 2) where
    own : IsWalked F player
    own = form_walked a player some two

    other : IsWalked F (other_player player)
    other = form_walked a (other_player player) (omega (arith, two)) (omega (arith, some))

    -- the moves of a point are fewer than the mark that none is taken
    few_moves : (q : ℕ) → q < point_count F → move_count F q ≤ 255
    few_moves q lq = let m = (form_moves a q lq).few in omega (arith, m)

    -- class totals that are kept against a plan so far and an answer are small
    pub seat_few : (y b : Plan) (now : ℕ) → now ≤ 1000001 → IsClassPlan F L (other_player player) y → IsClassPlan F L (other_player player) b → y.total ≡ now
        → b.total ≡ 1 → AreSmallAtEnds F L player (end_sum F L player y) (end_sum F L player b)
    seat_few y b now soon plan added total one = few_lines a player some two y b plan added (omega (arith, soon, total)) (omega (arith, one))

    module _ (y b : Plan) (now : ℕ) (t : Tally) (room : HasTallyRoom F L t) (none : IsNoneDue t.dues.turns.items 0 (length t.dues.turns.items) now)
        (faces : IsTally F L player (end_sum F L player y) (end_sum F L player b) now t) where
      least : (n : ℕ) → n < length t.dues.turns.items → now + 1 ≤ slice_index t.dues.turns.items n
      least n l = let d = none n (omega arith) l in omega (arith, d)

      -- after a sweep each choice is a move of its point
      pub choices_inside : AreInMoves F L player (moves_of F L t.picks.items)
      choices_inside = picks_inside F (form_in_range a) L (form_classes a) player own other (form_lossless a) y b now t room faces 1 (omega arith) least

      module _ (taken : ℕ → ℕ → ℕ) (right : AreRight F L player taken (moves_of F L t.picks.items)) where
        -- what is taken by them is a plan
        pub taken_is_plan : IsClassPlan F L player (taken_plan taken)
        taken_is_plan = puts_plan F L player (form_in_range a) own (form_classes a) (taken_plan taken) (moves_of F L t.picks.items) choices_inside
            (taken_puts F L player taken (moves_of F L t.picks.items) few_moves right)

        -- and the first best answer in the turn
        pub taken_once : AnswerStays F L player y b (taken_plan taken) 1
        taken_once = answer_stays F (form_in_range a) L (form_classes a) player own other (form_lossless a) y b now t room faces 1 (omega arith) least
            (taken_plan taken) (taken_puts F L player taken (moves_of F L t.picks.items) few_moves right)

    -- up to the next turn in which a total may be due it stays that, by class totals that know what the other adds in each turn
    pub taken_on : (y b added : Plan) (now next : ℕ) → now < next → (t : Tally) → HasTallyRoom F L t
        → IsTally F L player (end_sum F L player y) (end_sum F L player added) now t → IsNextDue t.dues.turns.items now next
        → (taken : ℕ → ℕ → ℕ) → AreRight F L player taken (moves_of F L t.picks.items) → AnswerStays F L player y b (taken_plan taken) 1
        → AnswerStays F L player y added (taken_plan taken) (next - now)
    taken_on y b added now next later t room faces due taken right once =
        stays_on F L player y b added (taken_plan taken) (next - now) once
        (λ more. answer_stays F (form_in_range a) L (form_classes a) player own other (form_lossless a) y added now t room faces (next - now)
        (omega (arith, later))
        (λ n l. let d = due (omega (arith, more)) n l in omega (arith, d, later))
        (taken_plan taken) (taken_puts F L player taken (moves_of F L t.picks.items) few_moves right))

  -- ---- a turn

  -- so far no cell is due
  abbrev HasNone : ℕ → Tally → Type 0
  HasNone now t = IsNoneDue t.dues.turns.items 0 (length t.dues.turns.items) now

  module _ (now last : ℕ) (order : now < last) (top : last ≤ 1000001) (one two : Seat) (p : ArePlaying F L now one two) where
    abbrev x : Plan
    x = plan_after F L one.answer now

    abbrev y : Plan
    y = plan_after F L two.answer now

    abbrev b : Plan
    b = answer_plan F L two.answer

    soon : now ≤ 1000001
    soon = omega (arith, order, top)

    plans : IsClassPlan F L 1 x × IsClassPlan F L 2 y
    plans = plans_in F L (form_in_range a) (form_walked a 1 (omega arith) (omega arith)) (form_walked a 2 (omega arith) (omega arith)) (form_classes a) now soon
        one two p

    -- player 1 sweeps
    module _ (first : Tally) (none : HasNone now first) (swept : IsSwept F L 1 now one.tally first) where
      faces_one : IsTally F L 1 (end_sum F L 1 y) (end_sum F L 1 b) now first
      faces_one = swept.kept (end_sum F L 1 y) (end_sum F L 1 b) (seat_few 1 (omega arith) (omega arith) y b now soon plans.1 p.seat_two.plan refl refl)
          p.faces_one

      pub inside_one : AreInMoves F L 1 (moves_of F L first.picks.items)
      inside_one = choices_inside 1 (omega arith) (omega arith) y b now first swept.room none faces_one

      -- and finds an answer
      module _ (new_one : Answer) (own_one : Tally) (same_one : IsSameTally first own_one)
          (right_one : AreRight F L 1 (moves_of F L new_one.taken.items) (moves_of F L own_one.picks.items)) where
        abbrev b_one : Plan
        b_one = answer_plan F L new_one

        right_first : AreRight F L 1 (moves_of F L new_one.taken.items) (moves_of F L first.picks.items)
        right_first = subst (λ (v : Vec ℕ Global). AreRight F L 1 (moves_of F L new_one.taken.items) (moves_of F L v.items)) same_one.picks right_one

        plan_one : IsClassPlan F L 1 b_one
        plan_one = taken_is_plan 1 (omega arith) (omega arith) y b now first swept.room none faces_one (moves_of F L new_one.taken.items) right_first

        once_one : AnswerStays F L 1 y b b_one 1
        once_one = taken_once 1 (omega arith) (omega arith) y b now first swept.room none faces_one (moves_of F L new_one.taken.items) right_first

        -- player 2 is told, and sweeps
        module _ (told_two second : Tally) (renewed_one : IsRenewed F L 1 now one.answer new_one two.tally told_two)
            (none_two : HasNone now second) (swept_two : IsSwept F L 2 now told_two second) where
          faces_two : IsTally F L 2 (end_sum F L 2 x) (end_sum F L 2 b_one) now second
          faces_two = swept_two.kept (end_sum F L 2 x) (end_sum F L 2 b_one)
              (seat_few 2 (omega arith) (omega arith) x b_one now soon plans.0 plan_one refl refl)
              (renewed_one.passed_on (end_sum F L 2 x) p.faces_two)

          pub inside_two : AreInMoves F L 2 (moves_of F L second.picks.items)
          inside_two = choices_inside 2 (omega arith) (omega arith) x b_one now second swept_two.room none_two faces_two

          -- and finds an answer
          module _ (new_two : Answer) (own_two : Tally) (same_two : IsSameTally second own_two)
              (right_two : AreRight F L 2 (moves_of F L new_two.taken.items) (moves_of F L own_two.picks.items)) where
            abbrev b_two : Plan
            b_two = answer_plan F L new_two

            right_second : AreRight F L 2 (moves_of F L new_two.taken.items) (moves_of F L second.picks.items)
            right_second = subst (λ (v : Vec ℕ Global). AreRight F L 2 (moves_of F L new_two.taken.items) (moves_of F L v.items)) same_two.picks right_two

            plan_two : IsClassPlan F L 2 b_two
            plan_two = taken_is_plan 2 (omega arith) (omega arith) x b_one now second swept_two.room none_two faces_two
                (moves_of F L new_two.taken.items) right_second

            once_two : AnswerStays F L 2 x b_one b_two 1
            once_two = taken_once 2 (omega arith) (omega arith) x b_one now second swept_two.room none_two faces_two
                (moves_of F L new_two.taken.items) right_second

            -- player 1 is told
            module _ (told_one : Tally) (renewed_two : IsRenewed F L 2 now two.answer new_two own_one told_one) where
              known_one : IsTally F L 1 (end_sum F L 1 y) (end_sum F L 1 b_two) now told_one
              known_one = renewed_two.passed_on (end_sum F L 1 y) (tally_kept F L 1 (end_sum F L 1 y) (end_sum F L 1 b) now first own_one same_one faces_one)

              known_two : IsTally F L 2 (end_sum F L 2 x) (end_sum F L 2 b_one) now own_two
              known_two = tally_kept F L 2 (end_sum F L 2 x) (end_sum F L 2 b_one) now second own_two same_two faces_two

              right_told : AreRight F L 1 (moves_of F L new_one.taken.items) (moves_of F L told_one.picks.items)
              right_told = subst (λ (v : Vec ℕ Global). AreRight F L 1 (moves_of F L new_one.taken.items) (moves_of F L v.items))
                  (sym renewed_two.kept.picks) right_one

              -- the next turn
              module _ (next : ℕ) (later : now < next) (due_one : IsNextDue told_one.dues.turns.items now next)
                  (due_two : IsNextDue own_two.dues.turns.items now next)
                  (room_last : HasTallyRoom F L own_two) where
                stays_one : AnswerStays F L 1 y b_two b_one (next - now)
                stays_one = taken_on 1 (omega arith) (omega arith) y b b_two now next later told_one renewed_two.kept.room known_one due_one
                    (moves_of F L new_one.taken.items)
                    right_told once_one

                stays_two : AnswerStays F L 2 x b_one b_two (next - now)
                stays_two = taken_on 2 (omega arith) (omega arith) x b_one b_one now next later own_two room_last known_two due_two
                    (moves_of F L new_two.taken.items)
                    right_two once_two

                pub turned : ((q : ℕ) → q < point_count F → HasMoved told_one q → ⊥) → ((q : ℕ) → q < point_count F → HasMoved own_two q → ⊥)
                    → ArePlaying F L next (record { answer = new_one; tally = told_one }) (record { answer = new_two; tally = own_two })
                turned still_one still_two =
                    next_playing F (form_in_range a) L (form_classes a) (form_walked a 1 (omega arith) (omega arith))
                    (form_walked a 2 (omega arith) (omega arith))
                    now next p.some later one.answer two.answer (record { answer = new_one; tally = told_one }) (record { answer = new_two; tally = own_two })
                    (record { answer = renewed_one.answer; room = renewed_two.kept.room; plan = plan_one; right = right_told; still = still_one })
                    (record { answer = renewed_two.answer; room = room_last; plan = plan_two; right = right_two; still = still_two })
                    renewed_one.plan renewed_two.plan p.played known_one known_two stays_one stays_two
