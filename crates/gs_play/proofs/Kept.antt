-- A class total that is found again, and what it counts for: all that is kept of a player is right again.
use Rattle.std.proofs.{Common.{◌≡◌, ℕ, ◌+◌, ◌<◌, ◌≤◌, List, length, set, sym, ap, ◌∙◌, subst, arith, ⊎_elim, get_or-set_same, Vec}, lemmas.Bool.{cases_eq}}
use Rattle.std.specs.{Prelude.{ℤ, ◌+ℤ◌, ◌-ℤ◌}, declared.alloc.Global.{Global}}
use Rattle.std.proofs.lemmas.List.{length-set}
use Rattle.gs_model.specs.{BestAnswers.{Values}, Classes.{ClassLists, IsClass}, Frame.{Frame, leads_to, move_count, player_at, point_count, round_of}}
use Rattle.gs_model.specs.{FrameFacts.{IsFrom, IsWalked}, Positions.{at_point}}
use Rattle.gs_best.specs.{Tables.{moves_of, start_of}, ClassTotals.{earlier_class}}
use Rattle.gs_play.specs.{Lines.{line_at, wrapped}, Plots.{cell_place, worth_place}, Tables.{AreSettledUntil, IsLineSettled}, declared.line.Line.{Line}}
use Rattle.gs_play.specs.{Tallies.{HasTallyRoom, HasWorths, IsFed, IsTally, at_part, slope_part, slopes_of, zeros_of}, declared.tally.Tally.{Tally}}
use Rattle.gs_play.proofs.{Chosen.{IsFoundAgain, IsFoundFor}, Lists.{cell_inside, other_cell, worth_inside, worths_fed, worths_stay}, OneWay.{one_way}}
use Rattle.gs_play.proofs.Settling.{settled_step}

module _ (f : Frame) (lists : ClassLists) (player : ℕ) (walked : IsWalked f player) (pays rise : ℕ → ℕ → ℤ) (now last : ℕ) (order : now < last)
    (old mid : Tally) (room : HasTallyRoom f lists old) (h : IsTally f lists player pays rise now old) (q c : ℕ) (lq : q < point_count f)
    (lc : IsClass lists (round_of f (at_point q)) c) (found : IsFoundFor f lists player q c now last old mid) where
  abbrev Z : Tally → Values
  Z t = zeros_of f lists pays rise now t.totals.items

  abbrev S : Tally → Values
  S t = slopes_of f lists rise t.totals.items

  abbrev pick : Tally → ℕ → ℕ → ℕ
  pick t = moves_of f lists t.picks.items

  abbrev due : Tally → ℕ → ℕ → ℕ
  due t = moves_of f lists t.dues.turns.items

  abbrev Apart : ℕ → ℕ → Type 0
  Apart p e = p ≡ q → e ≡ c → ⊥

  -- no other cell has changed
  elsewhere : (p e : ℕ) → IsClass lists (round_of f (at_point p)) e → Apart p e → (due mid p e ≡ due old p e) × (pick mid p e ≡ pick old p e)
  elsewhere p e le apart = ⊎_elim
      (λ (own : player_at f q ≡ player). let k = found.own own in (
        other_cell f lists old.dues.turns.items mid.dues.turns.items q c _ p e k.dues lc le apart,
        other_cell f lists old.picks.items mid.picks.items q c _ p e k.picked.picks lc le apart,
      ))
      (λ (other : player_at f q ≡ player → ⊥). let k = found.others other in (
        other_cell f lists old.dues.turns.items mid.dues.turns.items q c _ p e k.dues lc le apart,
        ap (λ (v : Vec ℕ Global). moves_of f lists v.items p e) k.picks,
      ))
      (cases_eq (player_at f q) player)

  module _ (again : IsFoundAgain f lists player (Z old) (S old) (Z mid) (S mid) q c now old mid) where
    here : (due' pick' : ℕ → ℕ → ℕ) → due' q c ≡ due mid q c → pick' q c ≡ pick mid q c
        → IsLineSettled f lists player (Z mid) (S mid) q c (pick' q c) now (due' q c)
    here due' pick' d p =
        subst (λ m. IsLineSettled f lists player (Z mid) (S mid) q c m now (due' q c)) (sym p)
        (subst (λ n. IsLineSettled f lists player (Z mid) (S mid) q c (pick mid q c) now n) (sym d) again.settled)

    -- where no move leads to the point, the total counts for nothing
    pub kept_nowhere : ((p m : ℕ) → p < point_count f → m < move_count f p → leads_to f p m ≡ at_point q → ⊥) → IsTally f lists player pays rise now mid
    kept_nowhere none = record {
      zeros = subst (λ (v : Vec Line Global). HasWorths f lists at_part (Z mid) v.items) (sym found.worths)
          (worths_stay f lists player walked at_part (Z old) (Z mid) (at_point q) c _ lq lc again.zero_more old.worths.items h.zeros none);
      slopes = subst (λ (v : Vec Line Global). HasWorths f lists slope_part (S mid) v.items) (sym found.worths)
          (worths_stay f lists player walked slope_part (S old) (S mid) (at_point q) c _ lq lc again.slope_more old.worths.items h.slopes none);
      settled = settled_step f lists player walked (Z old) (S old) (Z mid) (S mid) (pick old) (pick mid) (due old) (due mid) now q c _ _ again.zero_more
          again.slope_more again.settled
          (λ p e lp le apart later. let o = elsewhere p e le apart in (o.0, o.1, λ m lm to above. none p m lp lm to))
          h.settled;
    }

    -- where the total is what it was, nothing else has to change
    pub kept_same : mid.totals.items ≡ old.totals.items → IsTally f lists player pays rise now mid
    kept_same same =
        let zs : Z mid ≡ Z old = ap (zeros_of f lists pays rise now) same in
        let ss : S mid ≡ S old = ap (slopes_of f lists rise) same in
        record {
          zeros = subst (λ (v : Vec Line Global). HasWorths f lists at_part (Z mid) v.items) (sym found.worths)
              (subst (λ v. HasWorths f lists at_part v old.worths.items) (sym zs) h.zeros);
          slopes = subst (λ (v : Vec Line Global). HasWorths f lists slope_part (S mid) v.items) (sym found.worths)
              (subst (λ v. HasWorths f lists slope_part v old.worths.items) (sym ss) h.slopes);
          settled = λ p e lp le later.
              let stays : Apart p e → IsLineSettled f lists player (Z mid) (S mid) p e (pick mid p e) now (due mid p e) = λ apart.
              (let o = elsewhere p e le apart in
              let was = h.settled p e lp le (subst (λ n. now < n) o.0 later) in
              subst (λ n. IsLineSettled f lists player (Z mid) (S mid) p e (pick mid p e) now n) (sym o.0)
              (subst (λ m. IsLineSettled f lists player (Z mid) (S mid) p e m now (due old p e)) (sym o.1)
              (subst (λ v. IsLineSettled f lists player v (S mid) p e (pick old p e) now (due old p e)) (sym zs)
              (subst (λ v. IsLineSettled f lists player (Z old) v p e (pick old p e) now (due old p e)) (sym ss) was)))) in
              ⊎_elim
              (λ (sp : p ≡ q). ⊎_elim
              (λ (se : e ≡ c).
              subst (λ i. IsLineSettled f lists player (Z mid) (S mid) i e (pick mid i e) now (due mid i e)) (sym sp)
              (subst (λ i. IsLineSettled f lists player (Z mid) (S mid) q i (pick mid q i) now (due mid q i)) (sym se) again.settled))
              (λ (no : e ≡ c → ⊥). stays (λ s i. no i))
              (cases_eq e c))
              (λ (no : p ≡ q → ⊥). stays (λ s i. no s))
              (cases_eq p q);
        }

    -- where a move leads there, what it is worth changes as much
    pub kept_fed : (o m : ℕ) → o < point_count f → m < move_count f o → leads_to f o m ≡ at_point q → (more : Line)
        → wrapped more.at ≡ wrapped ((line_at mid.totals.items (cell_place f lists q c)).at -ℤ (line_at old.totals.items (cell_place f lists q c)).at)
        → wrapped more.slope ≡ wrapped ((line_at mid.totals.items (cell_place f lists q c)).slope -ℤ (line_at old.totals.items (cell_place f lists q c)).slope)
        → let up = earlier_class f lists (round_of f (at_point q)) (round_of f (at_point o)) c in IsClass lists (round_of f (at_point o)) up
        → (new : Tally) → IsFed (worth_place f lists o up m) (cell_place f lists o up) more mid new → IsTally f lists player pays rise now new
    kept_fed o m lo lm leads more by_zero by_slope lup new fed =
        let up = earlier_class f lists (round_of f (at_point q)) (round_of f (at_point o)) c in
        let place = worth_place f lists o up m in
        let worths_were : mid.worths.items ≡ old.worths.items = ap (λ (v : Vec Line Global). v.items) found.worths in
        let place_in : place < length old.worths.items = worth_inside f lists o up m old lo lup lm room in
        let earlier : o + 1 ≤ q = subst (IsFrom (o + 1)) leads (walked.later o m lo lm) in
        let same_totals : new.totals.items ≡ mid.totals.items = ap (λ (v : Vec Line Global). v.items) fed.totals in
        let zs : Z new ≡ Z mid = ap (zeros_of f lists pays rise now) same_totals in
        let ss : S new ≡ S mid = ap (slopes_of f lists rise) same_totals in
        let picks_same : (p e : ℕ) → pick new p e ≡ pick mid p e = λ p e. ap (λ (v : Vec ℕ Global). moves_of f lists v.items p e) fed.picks in
        let due_same : (p e : ℕ) → IsClass lists (round_of f (at_point p)) e → (p ≡ o → e ≡ up → ⊥) → due new p e ≡ due mid p e =
        λ p e le apart. other_cell f lists mid.dues.turns.items new.dues.turns.items o up 0 p e fed.dues lup le apart in
        let due_fed : due new o up ≡ 0 = ap (λ zs. moves_of f lists zs o up) fed.dues
        ∙ get_or-set_same mid.dues.turns.items (cell_place f lists o up) 0 0 (cell_inside f lists o up mid lo lup mid_long) in
        record {
          zeros = subst (λ v. HasWorths f lists at_part v new.worths.items) (sym zs)
              (subst (λ ws. HasWorths f lists at_part (Z mid) ws) (sym (fed.worths ∙ ap (λ ws. set ws place fed.worth) worths_were))
              (worths_fed f lists player walked at_part (Z old) (Z mid) (at_point q) c _ lq lc again.zero_more old.worths.items h.zeros o m lo
              lm leads lup place_in fed.worth more.at by_zero (fed.at_is ∙ ap (λ ws. wrapped ((line_at ws place).at +ℤ more.at)) worths_were)));
          slopes = subst (λ v. HasWorths f lists slope_part v new.worths.items) (sym ss)
              (subst (λ ws. HasWorths f lists slope_part (S mid) ws) (sym (fed.worths ∙ ap (λ ws. set ws place fed.worth) worths_were))
              (worths_fed f lists player walked slope_part (S old) (S mid) (at_point q) c _ lq lc again.slope_more old.worths.items h.slopes o m lo
              lm leads lup place_in fed.worth more.slope by_slope (fed.slope_is ∙ ap (λ ws. wrapped ((line_at ws place).slope +ℤ more.slope)) worths_were)));
          settled = subst (λ v. AreSettledUntil f lists player v (S new) (pick new) (due new) now) (sym zs)
              (subst (λ v. AreSettledUntil f lists player (Z mid) v (pick new) (due new) now) (sym ss)
              (settled_step f lists player walked (Z old) (S old) (Z mid) (S mid) (pick old) (pick new) (due old)
              (due new) now q c _ _ again.zero_more again.slope_more
              (here (due new) (pick new) (due_same q c lc (λ s i. omega (arith, s, earlier))) (picks_same q c))
              (λ p e lp le apart later.
              let same = elsewhere p e le apart in
              let not : p ≡ o → e ≡ up → ⊥ = λ s i.
              (let z : due new p e ≡ 0 = ap (λ a. due new a e) s ∙ ap (due new o) i ∙ due_fed in omega (arith, later, z)) in (
                due_same p e le not ∙ same.0,
                picks_same p e ∙ same.1,
                λ k lk to above.
                    let w = one_way f player walked p k o m lp lo lk lm (to ∙ sym leads) in
                    not w.point (sym above ∙ ap (λ i. earlier_class f lists (round_of f (at_point q)) (round_of f (at_point i)) c) w.point),
              ))
              h.settled));
        }
      where
        mid_long : length mid.dues.turns.items ≡ start_of f lists (point_count f)
        mid_long = ⊎_elim
            (λ (own : player_at f q ≡ player). ap (λ (xs : List ℕ). length xs) (found.own own).dues ∙ length-set old.dues.turns.items _ _ ∙ room.turns)
            (λ (other : player_at f q ≡ player → ⊥). ap (λ (xs : List ℕ). length xs) (found.others other).dues ∙ length-set old.dues.turns.items _ _
            ∙ room.turns)
            (cases_eq (player_at f q) player)
