-- Walks over places in order, up and down: what a walk has passed when it comes to a place.
use Rattle.std.proofs.Common.{◌≡◌, ◌≢◌, ◌+◌, ◌-◌, ◌<◌, ◌≤◌, ◌∙◌, ℕ, Bool, true, false, cond, List, length, get_or, refl, sym, ap, subst, arith, ⊎_elim}
use Rattle.std.proofs.{Common.{sum_by, take, drop, set, get_or-set_other, get_or-set_same}, lemmas.List.Sums.{sum_by-drop_more, sum_by_more}}
use Rattle.std.proofs.{lemmas.Bool.{cases_eq, cases_lt}, lemmas.List.{get_or-drop, get_or-take, get_or_default, length-drop, length-take}}
use Rattle.std.specs.Prelude.{◌==◌, All}
use Rattle.gs_boards.specs.{Places.{AreApart, AreInOrder}, Runs.{arrived, lost_by, number_at, paid_by, passed_by, won_by}, declared.place.Place.{Place}}
use Rattle.gs_boards.specs.declared.{pays.Pays.{Pays}, running.Running.{Running}}
use Rattle.gs_boards.proofs.Payments.{lost_is, place_worth, won_is}
use Rattle.gs_boards.proofs.Runs.{HasPassed, IsBefore, arrives, level_within, passes}

-- a walk is at a place
pub record IsAt (r : Running) (p : Place) : Type 0 where
  pub board : r.board ≡ p.board
  pub strength : r.strength ≡ p.strength

-- a walk up has passed the first n places
pub record HasClimbed (worth : Place → ℕ) (places : List Place) (n : ℕ) (r : Running) : Type 0 where
  pub passed : HasPassed worth (take n places) r
  pub last : (d : Place) → 0 < n → IsAt r (get_or places (n - 1) d)

-- a walk down has passed all places from n on
pub record HasDescended (worth : Place → ℕ) (places : List Place) (n : ℕ) (r : Running) : Type 0 where
  pub passed : HasPassed worth (drop n places) r
  pub last : (d : Place) → n < length places → IsAt r (get_or places n d)

pub one_back : (worth : Place → ℕ) (places : List Place) (n : ℕ) (r : Running) → 0 < n → HasDescended worth places n r
    → HasDescended worth places (n - 1 + 1) r
one_back worth places n r some h = let e : n ≡ n - 1 + 1 = omega arith in subst (λ (k : ℕ). HasDescended worth places k r) e h

-- what holds of each place on p's board
stands : (qs : List Place) (r : Running) (p : Place)
    → All (λ q. q.board ≡ p.board → (p.board ≡ r.board) × (q.strength ≡ p.strength → p.strength ≡ r.strength)) qs → IsBefore qs r p
stands qs r p h = record { boards = λ ne i d l b. ne (h i d l b).0; levels = λ same ne i d l b s. ne ((h i d l b).1 s) }

module _ (worth : Place → ℕ) (places : List Place) (order : AreInOrder places) (n : ℕ) (p : Place) (inside : n < length places) (read : p
    ≡ get_or places n p) where
  -- the places before one, and those behind it
  earlier : (i : ℕ) (d : Place) → i < n → get_or (take n places) i d ≡ get_or places i p
  earlier i d l = let in' : i < length places = omega arith in get_or-take n places i d l ∙ get_or_default places i d p in'

  later : (i : ℕ) (d : Place) → n + 1 + i < length places → get_or (drop (n + 1) places) i d ≡ get_or places (n + 1 + i) p
  later i d l = get_or-drop (n + 1) places i d ∙ get_or_default places (n + 1 + i) d p l

  board_is : p.board ≡ (get_or places n p).board
  board_is = ap (λ (x : Place). x.board) read

  strength_is : p.strength ≡ (get_or places n p).strength
  strength_is = ap (λ (x : Place). x.strength) read

  no_stronger : All (λ q. q.board ≡ p.board → q.strength ≤ p.strength) (take n places)
  no_stronger i d l b =
      let m : i < n = omega (arith, length-take n places, l) in
      let is = earlier i d m in
      let o = order i n p (omega arith) inside in
      let e : (get_or places i p).board ≡ (get_or places n p).board = sym (ap (λ (x : Place). x.board) is) ∙ b ∙ board_is in
      omega (arith, o.strength e, ap (λ (x : Place). x.strength) is, strength_is)

  no_weaker : All (λ q. q.board ≡ p.board → p.strength ≤ q.strength) (drop (n + 1) places)
  no_weaker i d l b =
      let m : n + 1 + i < length places = omega (arith, length-drop (n + 1) places, l) in
      let is = later i d m in
      let o = order n (n + 1 + i) p (omega arith) m in
      let e : (get_or places n p).board ≡ (get_or places (n + 1 + i) p).board = sym board_is ∙ sym b ∙ ap (λ (x : Place). x.board) is in
      omega (arith, o.strength e, ap (λ (x : Place). x.strength) is, strength_is)

  before : (r : Running) → HasClimbed worth places n r → IsBefore (take n places) r p
  before r h = stands (take n places) r p
      (λ i d l b.
      let m : i < n = omega (arith, length-take n places, l) in
      let q = order i (n - 1) p (omega arith) (omega arith) in
      let o = order (n - 1) n p (omega arith) inside in
      let at = h.last p (omega arith) in
      let board = ap (λ (x : Place). x.board) (earlier i d m) in
      let same : p.board ≡ r.board = omega (arith, q.board, o.board, b, board, board_is, at.board) in
      let below = q.strength (omega (arith, b, board, same, at.board)) in
      let above = o.strength (omega (arith, same, at.board, board_is)) in
      (same, λ s. omega (arith, below, above, s, ap (λ (x : Place). x.strength) (earlier i d m), strength_is, at.strength)))

  behind : (r : Running) → HasDescended worth places (n + 1) r → IsBefore (drop (n + 1) places) r p
  behind r h = stands (drop (n + 1) places) r p
      (λ i d l b.
      let m : n + 1 + i < length places = omega (arith, length-drop (n + 1) places, l) in
      let q = order (n + 1) (n + 1 + i) p (omega arith) m in
      let o = order n (n + 1) p (omega arith) (omega arith) in
      let at = h.last p (omega arith) in
      let board = ap (λ (x : Place). x.board) (later i d m) in
      let same : p.board ≡ r.board = omega (arith, q.board, o.board, b, board, board_is, at.board) in
      let above = q.strength (omega (arith, b, board, same, at.board)) in
      let below = o.strength (omega (arith, same, at.board, board_is)) in
      (same, λ s. omega (arith, above, below, s, ap (λ (x : Place). x.strength) (later i d m), strength_is, at.strength)))

  -- a walk comes to the place
  climb_at : (r : Running) → HasClimbed worth places n r → HasPassed worth (take n places) (arrived r p)
  climb_at r h = arrives worth (take n places) r p h.passed (before r h)

  descend_at : (r : Running) → HasDescended worth places (n + 1) r → HasPassed worth (drop (n + 1) places) (arrived r p)
  descend_at r h = arrives worth (drop (n + 1) places) r p h.passed (behind r h)

  -- and passes it
  climb_on : (r : Running) → HasClimbed worth places n r → HasClimbed worth places (n + 1) (passed_by (arrived r p) (worth p))
  climb_on r h = record {
    passed = passes worth (take n places) (take (n + 1) places) (arrived r p) p refl refl (λ f. sum_by_more f places n p inside
        ∙ ap (λ q. sum_by f (take n places) + f q) (sym read)) (climb_at r h);
    last = λ d some.
        let back : n + 1 - 1 ≡ n = omega arith in
        let is : p ≡ get_or places (n + 1 - 1) d = read ∙ get_or_default places n p d inside ∙ ap (λ k. get_or places k d) (sym back) in
        record { board = ap (λ (x : Place). x.board) is; strength = ap (λ (x : Place). x.strength) is };
  }

  descend_on : (r : Running) → HasDescended worth places (n + 1) r → HasDescended worth places n (passed_by (arrived r p) (worth p))
  descend_on r h = record {
    passed = passes worth (drop (n + 1) places) (drop n places) (arrived r p) p refl refl
        (λ f. (let e = sum_by-drop_more f places n p inside in let g = ap f read in omega (arith, e, g)))
        (descend_at r h);
    last = λ d some.
        let is : p ≡ get_or places n d = read ∙ get_or_default places n p d inside in
        record { board = ap (λ (x : Place). x.board) is; strength = ap (λ (x : Place). x.strength) is };
  }

-- a walk that comes to a place has passed no more on its board than before
arrived_within : (r : Running) (p : Place) → (arrived r p).on_board ≤ r.on_board
arrived_within r p = go (p.board == r.board)
  where
    go : (b : Bool) → cond {A = ℕ} b r.on_board 0 ≤ r.on_board
    go true = omega arith
    go false = omega arith

-- a walk has come to a place, with some places passed
pub record HasCome (worth : Place → ℕ) (qs : List Place) (p : Place) (here : Running) : Type 0 where
  pub passed : HasPassed worth qs here
  pub at : IsAt here p
  pub within : here.off_level ≤ here.on_board

come : (worth : Place → ℕ) (qs : List Place) (p : Place) (r here : Running) → here ≡ arrived r p → HasPassed worth qs (arrived r p) → HasCome worth qs p here
come worth qs p r here e passed = record {
  passed = subst (HasPassed worth qs) (sym e) passed;
  at = record { board = ap (λ (x : Running). x.board) e; strength = ap (λ (x : Running). x.strength) e };
  within = subst (λ (x : Running). x.off_level ≤ x.on_board) (sym e) (level_within worth qs (arrived r p) passed);
}

module _ (worth : Place → ℕ) (places : List Place) (order : AreInOrder places) (n : ℕ) (d : Place) (inside : n < length places) (r here : Running) (is : here
    ≡ arrived r (get_or places n d)) where
  read : get_or places n d ≡ get_or places n (get_or places n d)
  read = get_or_default places n d (get_or places n d) inside

  -- the places before one are no stronger on its board, those behind it no weaker
  pub weaker_before : All (λ q. q.board ≡ (get_or places n d).board → q.strength ≤ (get_or places n d).strength) (take n places)
  weaker_before = no_stronger worth places order n (get_or places n d) inside read

  pub stronger_behind : All (λ q. q.board ≡ (get_or places n d).board → (get_or places n d).strength ≤ q.strength) (drop (n + 1) places)
  stronger_behind = no_weaker worth places order n (get_or places n d) inside read

  pub come_up : HasClimbed worth places n r → HasCome worth (take n places) (get_or places n d) here
  come_up h = come worth (take n places) (get_or places n d) r here is (climb_at worth places order n (get_or places n d) inside read r h)

  pub come_down : HasDescended worth places (n + 1) r → HasCome worth (drop (n + 1) places) (get_or places n d) here
  come_down h = come worth (drop (n + 1) places) (get_or places n d) r here is (descend_at worth places order n (get_or places n d) inside read r h)

  gone_on : (w : ℕ) (gone : Running) → w ≡ worth (get_or places n d) → gone ≡ passed_by here w
      → gone ≡ passed_by (arrived r (get_or places n d)) (worth (get_or places n d))
  gone_on w gone counts e = e ∙ ap (λ (x : Running). passed_by x w) is ∙ ap (passed_by (arrived r (get_or places n d))) counts

  pub go_up : (w : ℕ) (gone : Running) → w ≡ worth (get_or places n d) → gone ≡ passed_by here w → HasClimbed worth places n r
      → HasClimbed worth places (n + 1) gone
  go_up w gone counts e h = subst (HasClimbed worth places (n + 1)) (sym (gone_on w gone counts e))
      (climb_on worth places order n (get_or places n d) inside read r h)

  pub go_down : (w : ℕ) (gone : Running) → w ≡ worth (get_or places n d) → gone ≡ passed_by here w → HasDescended worth places (n + 1) r
      → HasDescended worth places n gone
  go_down w gone counts e h = subst (HasDescended worth places n) (sym (gone_on w gone counts e))
      (descend_on worth places order n (get_or places n d) inside read r h)

  -- it has passed no more on its board than before, and one worth more when it goes on
  pub come_within : (w : ℕ) (gone : Running) → gone ≡ passed_by here w → gone.on_board ≤ r.on_board + w
  come_within w gone e = omega (arith, ap (λ (x : Running). x.on_board) e, ap (λ (x : Running). x.on_board) is, arrived_within r (get_or places n d))

-- what a place is paid by those that a walk has passed
pub won_up : (pays : Pays) (numbers : List ℕ) (places : List Place) (n : ℕ) (d : Place) (r here : Running) → AreInOrder places → n < length places
    → here ≡ arrived r (get_or places n d) → HasClimbed (number_at numbers) places n r
    → won_by pays (get_or places n d) here ≡ paid_by pays numbers (get_or places n d) (take n places)
won_up pays numbers places n d r here order inside is h =
    let come = come_up (number_at numbers) places order n d inside r here is h in
    won_is pays numbers (take n places) here (get_or places n d) come.passed come.at.board come.at.strength
    (weaker_before (number_at numbers) places order n d inside r here is)

pub lost_down : (pays : Pays) (numbers : List ℕ) (places : List Place) (n : ℕ) (d : Place) (r here : Running) → AreInOrder places → n < length places
    → here ≡ arrived r (get_or places n d) → HasDescended (place_worth pays numbers) places (n + 1) r
    → lost_by pays here ≡ paid_by pays numbers (get_or places n d) (drop (n + 1) places)
lost_down pays numbers places n d r here order inside is h =
    let come = come_down (place_worth pays numbers) places order n d inside r here is h in
    lost_is pays numbers (drop (n + 1) places) here (get_or places n d) come.passed come.at.board come.at.strength
    (stronger_behind (place_worth pays numbers) places order n d inside r here is)

-- ---- what is written for places

module _ {A : Type 0} (z : A) (places : List Place) (apart : AreApart places) (sums : List A) (inside : All (λ p. p.signal < length sums) places) where
  same_place : (n : ℕ) (d e : Place) → n < length places → get_or places n d ≡ get_or places n e
  same_place n d e l = get_or_default places n d e l

  other_signal : (n k : ℕ) (d e : Place) → n < length places → k < length places → (k ≡ n → ⊥) → (get_or places k e).signal ≢ (get_or places n d).signal
  other_signal n k d e l m ne is =
      let one : (get_or places k e).signal ≡ (get_or places n e).signal = is ∙ ap (λ (x : Place). x.signal) (same_place n d e l) in
      ⊎_elim (λ (lt : k < n). apart k n e lt l one) (λ (ge : n ≤ k). apart n k e (omega (arith, ge, ne)) m (sym one)) (cases_lt k n)

  -- what is written for one place is there, and what stands for the others stays
  pub written : (R : ℕ → Place → A → Type 0) (n : ℕ) (d : Place) (v : A) → n < length places → (k : ℕ) (e : Place) → k < length places
      → (k ≡ n → R n (get_or places n d) v) → ((k ≡ n → ⊥) → R k (get_or places k e) (get_or sums (get_or places k e).signal z))
      → R k (get_or places k e) (get_or (set sums (get_or places n d).signal v) (get_or places k e).signal z)
  written R n d v l k e m here there = ⊎_elim
      (λ (is : k ≡ n).
      let at : get_or (set sums (get_or places n d).signal v) (get_or places n d).signal z ≡ v =
      get_or-set_same sums (get_or places n d).signal v z (inside n d l) in
      let P : Place → Type 0 = λ q. R n q (get_or (set sums (get_or places n d).signal v) q.signal z) in
      let Q : ℕ → Type 0 = λ j. R j (get_or places j e) (get_or (set sums (get_or places n d).signal v) (get_or places j e).signal z) in
      subst Q (sym is) (subst P (same_place n d e l) (subst (R n (get_or places n d)) (sym at) (here is))))
      (λ (ne : k ≡ n → ⊥).
      let other : (get_or places k e).signal ≢ (get_or places n d).signal = other_signal n k d e l m ne in
      subst (R k (get_or places k e)) (sym (get_or-set_other sums (get_or places n d).signal (get_or places k e).signal v z other)) (there ne))
      (cases_eq k n)
