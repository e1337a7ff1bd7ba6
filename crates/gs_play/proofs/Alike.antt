-- What is kept of a player hangs on the numbers at ends only for the ends to which moves lead, and for the classes of their rounds.
use Rattle.std.proofs.Common.{◌≡◌, ℕ, ◌<◌, ◌≤◌, refl, sym, ap, ◌∙◌, subst, arith}
use Rattle.std.specs.Prelude.{ℤ, pos, ◌-ℤ◌, ◌*ℤ◌}
use Rattle.gs_model.specs.{BestAnswers.{Values}, Classes.{ClassLists, IsClass}, Frame.{Frame, end_count, leads_to, move_count, point_count, round_of}}
use Rattle.gs_model.specs.{FrameFacts.{IsInside, IsWalked}, Positions.{Target, at_end, at_point}}
use Rattle.gs_best.specs.{ClassTotals.{total_worth}, Tables.{moves_of}}
use Rattle.gs_play.specs.{Lines.{wrapped}, Tallies.{IsTally, slopes_of, zeros_of}, declared.tally.Tally.{Tally}}
use Rattle.gs_play.proofs.Settled.{AgreeUnder, gathered_same, settled_less, stays_settled}

-- two numberings of ends agree where moves lead
abbrev pub AgreeReached : Frame → ClassLists → (ℕ → ℕ → ℤ) → (ℕ → ℕ → ℤ) → Type 0
AgreeReached f lists u v =
    (q m z c : ℕ) → q < point_count f → m < move_count f q → leads_to f q m ≡ at_end z → IsClass lists (round_of f (at_end z)) c → v z c ≡ u z c

-- what ends paid in turn 0, if they pay `pays` now and each turn adds `rise`
abbrev pub began : (ℕ → ℕ → ℤ) → (ℕ → ℕ → ℤ) → ℕ → ℕ → ℕ → ℤ
began pays rise now z c = pays z c -ℤ pos now *ℤ rise z c

module _ (f : Frame) (lists : ClassLists) (pays rise pays' rise' : ℕ → ℕ → ℤ) (now now' : ℕ)
    (zeros : AgreeReached f lists (began pays rise now) (began pays' rise' now')) (rises : AgreeReached f lists rise rise') (t : Tally) where
  abbrev Z : Values
  Z = zeros_of f lists pays rise now t.totals.items

  abbrev Z' : Values
  Z' = zeros_of f lists pays' rise' now' t.totals.items

  abbrev S : Values
  S = slopes_of f lists rise t.totals.items

  abbrev S' : Values
  S' = slopes_of f lists rise' t.totals.items

  -- two tables agree where moves lead
  abbrev Agree : Values → Values → Type 0
  Agree v w = (q m c : ℕ) → q < point_count f → m < move_count f q → IsClass lists (round_of f (leads_to f q m)) c → w (leads_to f q m) c ≡ v (leads_to f q m) c

  zero_same : Agree Z Z'
  zero_same q m c lq lm = by (leads_to f q m) refl
    where
      by : (g : Target) → leads_to f q m ≡ g → IsClass lists (round_of f g) c → Z' g c ≡ Z g c
      by (at_point p) e lc = refl
      by (at_end z) e lc = zeros q m z c lq lm e lc

  slope_same : Agree S S'
  slope_same q m c lq lm = by (leads_to f q m) refl
    where
      by : (g : Target) → leads_to f q m ≡ g → IsClass lists (round_of f g) c → S' g c ≡ S g c
      by (at_point p) e lc = refl
      by (at_end z) e lc = rises q m z c lq lm e lc

  worth_same : (v w : Values) → Agree v w → (q m c : ℕ) → q < point_count f → m < move_count f q → total_worth f lists w q m c ≡ total_worth f lists v q m c
  worth_same v w same q m c lq lm =
      gathered_same f lists (round_of f (leads_to f q m)) (round_of f (at_point q)) (v (leads_to f q m)) (w (leads_to f q m)) c
      (λ k lk above. same q m k lq lm lk)

  below : (v w : Values) → Agree v w → (q c : ℕ) → q < point_count f → w (at_point q) c ≡ v (at_point q) c → AgreeUnder f lists v w q c
  below v w same q c lq here = record { here = here; below = λ m k lm lk above. same q m k lq lm lk }

  -- so with other numbers at ends that make the same lines there, in the same turn or a later one
  pub tally_reached : (player : ℕ) → now ≤ now' → IsTally f lists player pays rise now t → IsTally f lists player pays' rise' now' t
  tally_reached player l h = record {
    zeros = λ q c m lq lc lm. h.zeros q c m lq lc lm ∙ ap wrapped (sym (worth_same Z Z' zero_same q m c lq lm));
    slopes = λ q c m lq lc lm. h.slopes q c m lq lc lm ∙ ap wrapped (sym (worth_same S S' slope_same q m c lq lm));
    settled = λ q c lq lc later.
        let due = moves_of f lists t.dues.turns.items q c in
        let pick = moves_of f lists t.picks.items q c in
        settled_less f lists player Z' S' q c pick now due now' due l (omega arith)
        (stays_settled f lists player Z S Z' S' q c pick now due (below Z Z' zero_same q c lq refl) (below S S' slope_same q c lq refl)
        (h.settled q c lq lc (omega (arith, l, later))));
  }

-- what agrees at all ends agrees where moves lead
reached : (f : Frame) (lists : ClassLists) (player : ℕ) → IsWalked f player → (u v : ℕ → ℕ → ℤ)
    → ((z c : ℕ) → z < end_count f → IsClass lists (round_of f (at_end z)) c → v z c ≡ u z c) → AgreeReached f lists u v
reached f lists player walked u v same q m z c lq lm leads lc = same z c (subst (IsInside f) leads (walked.inside q m lq lm)) lc

-- so with other numbers at ends that make the same lines at all ends
pub tally_same : (f : Frame) (lists : ClassLists) (player : ℕ) → IsWalked f player → (pays rise pays' rise' : ℕ → ℕ → ℤ) (now now' : ℕ)
    → ((z c : ℕ) → z < end_count f → IsClass lists (round_of f (at_end z)) c → pays' z c -ℤ pos now' *ℤ rise' z c ≡ pays z c -ℤ pos now *ℤ rise z c)
    → ((z c : ℕ) → z < end_count f → IsClass lists (round_of f (at_end z)) c → rise' z c ≡ rise z c)
    → (t : Tally) → now ≤ now' → IsTally f lists player pays rise now t → IsTally f lists player pays' rise' now' t
tally_same f lists player walked pays rise pays' rise' now now' zeros rises t =
    tally_reached f lists pays rise pays' rise' now now'
    (reached f lists player walked (began pays rise now) (began pays' rise' now') zeros) (reached f lists player walked rise rise' rises) t player
