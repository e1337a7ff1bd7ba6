-- The line of one class at an end turns, and the worth that it counts for changes as much: all that is kept of a player is right with the new numbers at ends.
use Rattle.std.proofs.{Common.{◌≡◌, ℕ, ◌<◌, Bool, true, false, cond, refl, sym, ap, ◌∙◌, subst, arith, Vec, length, get_or-set_same}, lemmas.Int.{ints}}
use Rattle.std.specs.{Prelude.{◌==◌, ℤ, pos, ◌+ℤ◌, ◌-ℤ◌, ◌*ℤ◌}, declared.alloc.Global.{Global}}
use Rattle.std.proofs.{lemmas.Bool.Decides.{Decides-eqb}, Math.IntN.{*ℤ_comm}, Math.Path.{fun_ext}}
use Rattle.gs_model.specs.{BestAnswers.{Values}, Classes.{ClassLists, IsClass}, Frame.{Frame, end_count, round_of}, FrameFacts.{IsInside, IsWalked}}
use Rattle.gs_model.specs.Positions.{Target, at_end, at_point}
use Rattle.gs_model.proofs.Total.{mul-add_right}
use Rattle.gs_best.specs.{ClassTotals.{earlier_class}, Tables.{moves_of}}
use Rattle.gs_play.specs.{Lines.{wrapped}, Plots.{LeadsTo, cell_place, worth_place}, Tables.{AreSettledUntil}, declared.line.Line.{Line}}
use Rattle.gs_play.specs.Tallies.{FeedsAbove, HasTallyRoom, HasWorths, IsFed, IsTally, at_part, risen, slope_part, slopes_of, up_of, zeros_of}
use Rattle.gs_play.specs.{declared.plot.Way.{Way}, declared.tally.Tally.{Tally}}
use Rattle.gs_play.proofs.{Feeds.{feeds_at, up_in}, Lists.{cell_inside, other_cell, worth_inside, worths_fed}, OneWay.{one_way}, Wrapped.{wrapped_twice}}
use Rattle.gs_play.proofs.Settling.{IsChanged, settled_turn}

-- nothing more
pub risen_none : (rise : ℕ → ℕ → ℤ) (z k : ℕ) → risen rise z k (pos 0) ≡ rise
risen_none rise z k = fun_ext (λ y. fun_ext (λ c. none (y == z) (k == c) (rise y c)))
  where
    none : (a b : Bool) (x : ℤ) → x +ℤ cond a (cond b (pos 0) (pos 0)) (pos 0) ≡ x
    none true true x = omega (arith, ints)
    none true false x = omega (arith, ints)
    none false b x = omega (arith, ints)

module _ (f : Frame) (lists : ClassLists) (player : ℕ) (walked : IsWalked f player) (pays rise : ℕ → ℕ → ℤ) (now z k : ℕ) (more : ℤ) (lz : z < end_count f)
    (lk : IsClass lists (round_of f (at_end z)) k) (t : Tally) (h : IsTally f lists player pays rise now t) where
  abbrev rise' : ℕ → ℕ → ℤ
  rise' = risen rise z k more

  abbrev Z : (ℕ → ℕ → ℤ) → Values
  Z r = zeros_of f lists pays r now t.totals.items

  abbrev S : (ℕ → ℕ → ℤ) → Values
  S r = slopes_of f lists r t.totals.items

  here : rise' z k ≡ rise z k +ℤ more
  here = ap (λ b. rise z k +ℤ cond b (cond (k == k) more (pos 0)) (pos 0)) ((Decides-eqb z z).1 refl)
      ∙ ap (λ b. rise z k +ℤ cond b more (pos 0)) ((Decides-eqb k k).1 refl)

  apart : (y c : ℕ) → (y ≡ z → c ≡ k → ⊥) → rise' y c ≡ rise y c
  apart y c n = by (y == z) (k == c) refl refl
    where
      by : (a b : Bool) → (y == z) ≡ a → (k == c) ≡ b → rise y c +ℤ cond a (cond b more (pos 0)) (pos 0) ≡ rise y c
      by true true ea eb = absurd (n ((Decides-eqb y z).0 ea) (sym ((Decides-eqb k c).0 eb)))
      by true false ea eb = omega (arith, ints)
      by false b ea eb = omega (arith, ints)

  slopes_changed : IsChanged f lists (S rise) (S rise') (at_end z) k more
  slopes_changed = record { here = here; elsewhere = other }
    where
      other : (g : Target) (c : ℕ) → IsInside f g → IsClass lists (round_of f g) c → (g ≡ at_end z → c ≡ k → ⊥) → S rise' g c ≡ S rise g c
      other (at_point q) c i lc n = refl
      other (at_end y) c i lc n = apart y c (λ e. n (ap at_end e))

  zeros_changed : IsChanged f lists (Z rise) (Z rise') (at_end z) k (pos 0 -ℤ more *ℤ pos now)
  zeros_changed = record { here = zero_here; elsewhere = other }
    where
      zero_here : pays z k -ℤ pos now *ℤ rise' z k ≡ (pays z k -ℤ pos now *ℤ rise z k) +ℤ (pos 0 -ℤ more *ℤ pos now)
      zero_here =
          let e = ap (λ x. pos now *ℤ x) here in
          let d = mul-add_right (pos now) (rise z k) more in
          let s = *ℤ_comm (pos now) more in
          omega (arith, ints, e, d, s)

      other : (g : Target) (c : ℕ) → IsInside f g → IsClass lists (round_of f g) c → (g ≡ at_end z → c ≡ k → ⊥) → Z rise' g c ≡ Z rise g c
      other (at_point q) c i lc n = refl
      other (at_end y) c i lc n = ap (λ x. pays y c -ℤ pos now *ℤ x) (apart y c (λ e. n (ap at_end e)))

  module _ (room : HasTallyRoom f lists t) (way : Way) (leads : LeadsTo f lists (at_end z) way) (by : Line) (by_at : by.at ≡ wrapped (pos 0 -ℤ more *ℤ pos now))
      (by_slope : by.slope ≡ more) (new : Tally) where
    abbrev point : ℕ
    point = way.row.point

    -- the class above, whose worth changes
    abbrev up : ℕ
    up = earlier_class f lists (round_of f (at_end z)) (round_of f (at_point point)) k

    abbrev Feeds : Type 0
    Feeds = IsFed (worth_place f lists point up way.choice) (cell_place f lists point up) by t new

    module _ (lup : IsClass lists (round_of f (at_point point)) up) (fed : Feeds) where
      abbrev due : Tally → ℕ → ℕ → ℕ
      due x = moves_of f lists x.dues.turns.items

      same_totals : new.totals.items ≡ t.totals.items
      same_totals = ap (λ (v : Vec Line Global). v.items) fed.totals

      same_picks : moves_of f lists new.picks.items ≡ moves_of f lists t.picks.items
      same_picks = ap (λ (v : Vec ℕ Global). moves_of f lists v.items) fed.picks

      due_same : (p e : ℕ) → IsClass lists (round_of f (at_point p)) e → (p ≡ point → e ≡ up → ⊥) → due new p e ≡ due t p e
      due_same p e le n = other_cell f lists t.dues.turns.items new.dues.turns.items point up 0 p e fed.dues lup le n

      due_fed : due new point up ≡ 0
      due_fed = ap (λ xs. moves_of f lists xs point up) fed.dues
          ∙ get_or-set_same t.dues.turns.items (cell_place f lists point up) 0 0 (cell_inside f lists point up t leads.way.row.inside lup room.turns)

      place_in : worth_place f lists point up way.choice < length t.worths.items
      place_in = worth_inside f lists point up way.choice t leads.way.row.inside lup leads.way.choice room

      zeros_fed : HasWorths f lists at_part (Z rise') new.worths.items
      zeros_fed = subst (HasWorths f lists at_part (Z rise')) (sym fed.worths)
          (worths_fed f lists player walked at_part (Z rise) (Z rise') (at_end z) k _ lz lk zeros_changed t.worths.items h.zeros point way.choice
          leads.way.row.inside leads.way.choice leads.leads lup place_in fed.worth by.at
          (ap wrapped by_at ∙ wrapped_twice (pos 0 -ℤ more *ℤ pos now)) fed.at_is)

      slopes_fed : HasWorths f lists slope_part (S rise') new.worths.items
      slopes_fed = subst (HasWorths f lists slope_part (S rise')) (sym fed.worths)
          (worths_fed f lists player walked slope_part (S rise) (S rise') (at_end z) k _ lz lk slopes_changed t.worths.items h.slopes point way.choice
          leads.way.row.inside leads.way.choice leads.leads lup place_in fed.worth by.slope (ap wrapped by_slope) fed.slope_is)

      settled_fed : AreSettledUntil f lists player (Z rise') (S rise') (moves_of f lists t.picks.items) (due new) now
      settled_fed =
          settled_turn f lists player walked (Z rise) (S rise) (Z rise') (S rise') (moves_of f lists t.picks.items) (due t) (due new) now z k _ _
          zeros_changed slopes_changed
          (λ p e lp le later.
          let not : p ≡ point → e ≡ up → ⊥ = λ s i.
          (let none : due new p e ≡ 0 = ap (λ a. due new a e) s ∙ ap (due new point) i ∙ due_fed in omega (arith, later, none)) in (
            due_same p e le not,
            λ m lm to above.
                let same = one_way f player walked p m point way.choice lp leads.way.row.inside lm leads.way.choice (to ∙ sym leads.leads) in
                not same.point (sym above ∙ ap (λ i. earlier_class f lists (round_of f (at_end z)) (round_of f (at_point i)) k) same.point),
          ))
          h.settled

      fed_tally : IsTally f lists player pays rise' now new
      fed_tally =
          let zs : zeros_of f lists pays rise' now new.totals.items ≡ Z rise' = ap (zeros_of f lists pays rise' now) same_totals in
          let ss : slopes_of f lists rise' new.totals.items ≡ S rise' = ap (slopes_of f lists rise') same_totals in
          record {
            zeros = subst (λ v. HasWorths f lists at_part v new.worths.items) (sym zs) zeros_fed;
            slopes = subst (λ v. HasWorths f lists slope_part v new.worths.items) (sym ss) slopes_fed;
            settled = subst (λ v. AreSettledUntil f lists player v (slopes_of f lists rise' new.totals.items) (moves_of f lists new.picks.items) (due new) now)
                (sym zs)
                (subst (λ v. AreSettledUntil f lists player (Z rise') v (moves_of f lists new.picks.items) (due new) now) (sym ss)
                (subst (λ p. AreSettledUntil f lists player (Z rise') (S rise') p (due new) now) (sym same_picks) settled_fed));
          }

    -- what the move that leads there is worth changes as much
    pub turned_fed : IsClass lists way.row.round (up_of f lists way k) → FeedsAbove f lists way k by t new → IsTally f lists player pays rise' now new
    turned_fed class feeds = fed_tally (up_in f lists (at_end z) way leads k class) (feeds_at f lists (at_end z) way leads k by t new feeds)
