-- One class total found again: what it counts for, and what stays settled.
use Rattle.std.proofs.{Common.{◌≡◌, ℕ, ◌<◌, ◌≤◌, sym, ap, ◌∙◌, subst, arith, ⊎_elim}, lemmas.Bool.{cases_eq}}
use Rattle.std.specs.Prelude.{ℤ, ◌+ℤ◌}
use Rattle.gs_model.specs.{BestAnswers.{Values}, Classes.{ClassLists, IsClass}, Frame.{Frame, leads_to, move_count, point_count, round_of}}
use Rattle.gs_model.specs.{FrameFacts.{IsInside, IsWalked}, Positions.{Target, at_end, at_point}}
use Rattle.gs_best.specs.ClassTotals.{earlier_class, gathered_below, total_worth}
use Rattle.gs_play.specs.Tables.{AreSettledUntil, IsLineSettled}
use Rattle.gs_play.proofs.{Raised.{gathered_with}, Settled.{AgreeUnder, AreLinesSettled, gathered_same, settled_less, stays_settled}}

-- a table has so much more at a position and a class, and is elsewhere as it was
pub record IsChanged (f : Frame) (lists : ClassLists) (v w : Values) (g : Target) (e : ℕ) (more : ℤ) : Type 0 where
  pub here : w g e ≡ v g e +ℤ more
  pub elsewhere : (t : Target) (c : ℕ) → IsInside f t → IsClass lists (round_of f t) c → (t ≡ g → c ≡ e → ⊥) → w t c ≡ v t c

-- a point and class is not the one that a class at a position counts for
abbrev pub IsNotAbove : Frame → ClassLists → Target → ℕ → ℕ → ℕ → Type 0
IsNotAbove f lists g e q c = (m : ℕ) → m < move_count f q → leads_to f q m ≡ g → earlier_class f lists (round_of f g) (round_of f (at_point q)) e ≡ c → ⊥

point_is : (q p : ℕ) → at_point q ≡ at_point p → q ≡ p
point_is q p e = ap number e
  where
    number : Target → ℕ
    number (at_point i) = i
    number (at_end i) = i

-- ---- what a class total counts for

module _ (f : Frame) (lists : ClassLists) (v w : Values) (g : Target) (e : ℕ) (more : ℤ) (changed : IsChanged f lists v w g e more) where
  -- the worth of the move that leads there, to the class above
  pub fed_here : (q m : ℕ) → leads_to f q m ≡ g → IsInside f g → IsClass lists (round_of f g) e
      → let c = earlier_class f lists (round_of f g) (round_of f (at_point q)) e in total_worth f lists w q m c ≡ total_worth f lists v q m c +ℤ more
  fed_here q m is inside le =
      let j = round_of f (at_point q) in
      let c = earlier_class f lists (round_of f g) j e in
      let same : (u : Values) → total_worth f lists u q m c ≡ gathered_below f lists (round_of f g) j (u g) c = λ u.
      ap (λ t. gathered_below f lists (round_of f t) j (u t) c) is in
      same w
      ∙ gathered_with f lists (round_of f g) j (v g) (w g) e more le changed.here (λ k lk other. changed.elsewhere g k inside lk (λ t s. other s))
      ∙ ap (λ x. x +ℤ more) (sym (same v))

  -- and no other one
  pub fed_elsewhere : (q m c : ℕ) → IsInside f (leads_to f q m)
      → (leads_to f q m ≡ g → earlier_class f lists (round_of f g) (round_of f (at_point q)) e ≡ c → ⊥)
      → total_worth f lists w q m c ≡ total_worth f lists v q m c
  fed_elsewhere q m c inside apart =
      let j = round_of f (at_point q) in
      gathered_same f lists (round_of f (leads_to f q m)) j (v (leads_to f q m)) (w (leads_to f q m)) c
      (λ k lk above. changed.elsewhere (leads_to f q m) k inside lk
      (λ is same. apart is (subst (λ i. earlier_class f lists (round_of f g) j i ≡ c) same
      (subst (λ t. earlier_class f lists (round_of f t) j k ≡ c) is above))))

  -- what is not above agrees
  pub agree_elsewhere : (player : ℕ) → IsWalked f player → (q c : ℕ) → q < point_count f → IsClass lists (round_of f (at_point q)) c
      → (at_point q ≡ g → c ≡ e → ⊥) → IsNotAbove f lists g e q c → AgreeUnder f lists v w q c
  agree_elsewhere player walked q c lq lc other apart = record {
    here = changed.elsewhere (at_point q) c lq lc other;
    below = λ m k lm lk above. changed.elsewhere (leads_to f q m) k (walked.inside q m lq lm) lk
        (λ is same. apart m lm is (subst (λ i. earlier_class f lists (round_of f g) (round_of f (at_point q)) i ≡ c) same
        (subst (λ t. earlier_class f lists (round_of f t) (round_of f (at_point q)) k ≡ c) is above)));
  }

-- ---- one step of a sweep

-- where one class total is found again, and what it counts for becomes due, all that is due later is settled still
pub settled_step : (f : Frame) (lists : ClassLists) (player : ℕ) → IsWalked f player → (at slope at' slope' : Values) (pick pick' due due' : ℕ → ℕ → ℕ)
    (now p e : ℕ)
    (more rise : ℤ) → IsChanged f lists at at' (at_point p) e more → IsChanged f lists slope slope' (at_point p) e rise
    → IsLineSettled f lists player at' slope' p e (pick' p e) now (due' p e)
    → ((q c : ℕ) → q < point_count f → IsClass lists (round_of f (at_point q)) c → (q ≡ p → c ≡ e → ⊥) → now < due' q c
    → (due' q c ≡ due q c) × (pick' q c ≡ pick q c) × IsNotAbove f lists (at_point p) e q c)
    → AreSettledUntil f lists player at slope pick due now → AreSettledUntil f lists player at' slope' pick' due' now
settled_step f lists player walked at slope at' slope' pick pick' due due' now p e more rise ca cs here others all q c lq lc later = ⊎_elim
    (λ (same : q ≡ p). ⊎_elim
    (λ (is : c ≡ e). subst (λ i. IsLineSettled f lists player at' slope' i c (pick' i c) now (due' i c)) (sym same)
    (subst (λ i. IsLineSettled f lists player at' slope' p i (pick' p i) now (due' p i)) (sym is) here))
    (λ (apart : c ≡ e → ⊥). kept (λ s i. apart i))
    (cases_eq c e))
    (λ (apart : q ≡ p → ⊥). kept (λ s i. apart s))
    (cases_eq q p)
  where
    kept : (q ≡ p → c ≡ e → ⊥) → IsLineSettled f lists player at' slope' q c (pick' q c) now (due' q c)
    kept other =
        let o = others q c lq lc other later in
        let old = all q c lq lc (subst (λ n. now < n) o.0 later) in
        let not : at_point q ≡ at_point p → c ≡ e → ⊥ = λ s i. other (point_is q p s) i in
        subst (λ n. IsLineSettled f lists player at' slope' q c (pick' q c) now n) (sym o.0)
        (subst (λ m. IsLineSettled f lists player at' slope' q c m now (due q c)) (sym o.1)
        (stays_settled f lists player at slope at' slope' q c (pick q c) now (due q c)
        (agree_elsewhere f lists at at' (at_point p) e more ca player walked q c lq lc not o.2)
        (agree_elsewhere f lists slope slope' (at_point p) e rise cs player walked q c lq lc not o.2) old))

-- where the line of one class at an end turns, and what it counts for becomes due, all that is due later is settled still
pub settled_turn : (f : Frame) (lists : ClassLists) (player : ℕ) → IsWalked f player → (at slope at' slope' : Values) (pick due due' : ℕ → ℕ → ℕ) (now z e : ℕ)
    (more rise : ℤ) → IsChanged f lists at at' (at_end z) e more → IsChanged f lists slope slope' (at_end z) e rise
    → ((q c : ℕ) → q < point_count f → IsClass lists (round_of f (at_point q)) c → now < due' q c → (due' q c ≡ due q c) × IsNotAbove f lists (at_end z) e q c)
    → AreSettledUntil f lists player at slope pick due now → AreSettledUntil f lists player at' slope' pick due' now
settled_turn f lists player walked at slope at' slope' pick due due' now z e more rise ca cs others all q c lq lc later =
    let o = others q c lq lc later in
    let old = all q c lq lc (subst (λ n. now < n) o.0 later) in
    let apart : at_point q ≡ at_end z → c ≡ e → ⊥ = λ s i. no_end q z s in
    subst (λ n. IsLineSettled f lists player at' slope' q c (pick q c) now n) (sym o.0)
    (stays_settled f lists player at slope at' slope' q c (pick q c) now (due q c)
    (agree_elsewhere f lists at at' (at_end z) e more ca player walked q c lq lc apart o.1)
    (agree_elsewhere f lists slope slope' (at_end z) e rise cs player walked q c lq lc apart o.1) old)
  where
    kind : Target → ℕ
    kind (at_point i) = 0
    kind (at_end i) = 1

    no_end : (q z : ℕ) → at_point q ≡ at_end z → ⊥
    no_end q z s = absurd (let k : kind (at_point q) ≡ kind (at_end z) = ap kind s in omega (arith, k))

-- at the end of a sweep nothing is due: all is settled until the least turn that is kept
pub all_settled : (f : Frame) (lists : ClassLists) (player : ℕ) (at slope : Values) (pick due : ℕ → ℕ → ℕ) (now until : ℕ)
    → ((q c : ℕ) → q < point_count f → IsClass lists (round_of f (at_point q)) c → now < due q c)
    → ((q c : ℕ) → q < point_count f → IsClass lists (round_of f (at_point q)) c → until ≤ due q c)
    → AreSettledUntil f lists player at slope pick due now → AreLinesSettled f lists player at slope pick now until
all_settled f lists player at slope pick due now until late least all q c lq lc =
    settled_less f lists player at slope q c (pick q c) now (due q c) now until (omega arith) (least q c lq lc) (all q c lq lc (late q c lq lc))
