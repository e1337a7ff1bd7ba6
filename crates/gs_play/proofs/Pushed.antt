-- What a move of the other player adds at an end, pair by pair: a player is paid what the other loses.
use Rattle.std.proofs.Common.{◌≡◌, ℕ, zero, suc, ◌+◌, ◌<◌, ◌≤◌, Bool, true, false, cond, List, [], ◌∷◌, take, drop, refl, sym, ap, ◌∙◌, subst, arith, ⊎_elim}
use Rattle.std.specs.{Prelude.{◌==◌, ◌⊎◌, map, ℤ, pos, neg_ℤ, ◌+ℤ◌, ◌*ℤ◌}, List.{range_with_len}}
use Rattle.std.proofs.{lemmas.Bool.{cases_eq}, lemmas.Bool.Decides.{Decides-eqb}, lemmas.Int.{ints}}
use Rattle.gs_game.specs.Games.{game_of}
use Rattle.gs_model.specs.{Classes.{ClassLists, IsClass, IsClasses, class_count, class_of, classes_in}, Deals.{Deal, exchanged}, Pairs.{pair_sum}, Sums.{sum_z}}
use Rattle.gs_model.specs.{Frame.{Frame, at_round, end_at, end_count, other_player, payoff_to, round_of}, FrameFacts.{InRange, IsExchanged, IsWalked}}
use Rattle.gs_model.specs.Positions.{End, at_end}
use Rattle.gs_model.proofs.{Basics.{not_eq, sum_z-neg}, Exchange.{neg_out}, Exchanged.{exchanged_one, exchanged_two}, Lift.{one_guard}, RawBound.{sum_z-map}}
use Rattle.gs_model.proofs.{Sparse.{sum_none}, Total.{sum_z-IsPermutation, sum_z-same}}
use Rattle.gs_seq.specs.{Abstracts.{game_in}, Payoffs.{pair_pays}, Rows.{IsRow}, declared.pair.Pair.{Pair}}
use Rattle.gs_seq.proofs.{EndSums.{row_sum}, Forms.{form_walked, given_in, one_or_two}}
use Rattle.gs_seq.proofs.Turns.{IsKnown, IsTurn, begun, known, none_passed, passed, sum_ended, sum_turned, turn}
use Rattle.gs_play.specs.{Pushes.{with_sign}, Sides.{side_frame, side_lists}, Tallies.{IsTally, risen, risen_at}, declared.role.Role.{Role}}
use Rattle.gs_play.specs.declared.tally.Tally.{Tally}
use Rattle.gs_play.proofs.Risen.{risen_alike, risen_by_none, risen_same, risen_twice}

-- ---- the players of a side

pub walked : (s : Role) → IsWalked (side_frame s) s.player
walked s = form_walked s.form.now s.player s.some s.two

pub other_walked : (s : Role) → IsWalked (side_frame s) (other_player s.player)
other_walked s = form_walked s.form.now (other_player s.player) (let t = s.two in omega arith) (let l = s.some in omega arith)

turned_frame : (s : Role) → IsExchanged (side_frame s) s.player
turned_frame s = ⊎_elim
    (λ (one : s.player ≡ 1). subst (IsExchanged (side_frame s)) (sym one) (exchanged_one (game_of (game_in s.form.now).game)))
    (λ (two : s.player ≡ 2). subst (IsExchanged (side_frame s)) (sym two) (exchanged_two (game_of (game_in s.form.now).game)))
    (one_or_two s.player s.some s.two)

-- ---- from the other side

swap : (a b : Bool) (w : ℕ) (x y : ℤ) → x ≡ neg_ℤ y → cond a (cond b (pos w *ℤ x) (pos 0)) (pos 0) ≡ neg_ℤ (cond b (cond a (pos w *ℤ y) (pos 0)) (pos 0))
swap true true w x y e = ap (λ i. pos w *ℤ i) e ∙ neg_out w y
swap true false w x y e = refl
swap false true w x y e = refl
swap false false w x y e = refl

-- a player is paid what the other loses
pub pays_turned : (f : Frame) (lists : ClassLists) (player : ℕ) (h : IsExchanged f player) (z c k : ℕ)
    → let round = round_of f (at_end z) in pair_sum f lists lists round (payoff_to f player z) c k
    ≡ neg_ℤ (pair_sum f lists lists round (payoff_to f (other_player player) z) k c)
pays_turned f lists player h z c k =
    let round = round_of f (at_end z) in
    let one : Deal → ℕ = λ d. class_of lists round (at_round f round d.one) in
    let two : Deal → ℕ = λ d. class_of lists round (at_round f round d.two) in
    let term : Deal → ℤ = λ d. cond (two d == k) (cond (one d == c) (pos d.weight *ℤ payoff_to f player z d.outcome) (pos 0)) (pos 0) in
    let back : Deal → ℤ = λ d. cond (two d == c) (cond (one d == k) (pos d.weight *ℤ payoff_to f (other_player player) z d.outcome) (pos 0)) (pos 0) in
    let value : (o : ℤ) → payoff_to f player z (neg_ℤ o) ≡ neg_ℤ (payoff_to f (other_player player) z o) = λ o.
    (let e = h.pays z (neg_ℤ o) in let twice : neg_ℤ (neg_ℤ o) ≡ o = omega (arith, ints) in
    let g = ap (payoff_to f (other_player player) z) twice in omega (arith, ints, e, g)) in
    sym (sum_z-IsPermutation term f.deals (map exchanged f.deals) h.deals)
    ∙ sum_z-map term exchanged f.deals
    ∙ sum_z-same (λ d. term (exchanged d)) (λ d. neg_ℤ (back d))
    (λ d. swap (one d == k) (two d == c) d.weight (payoff_to f player z (neg_ℤ d.outcome)) (payoff_to f (other_player player) z d.outcome)
    (value d.outcome)) f.deals
    ∙ sum_z-neg back f.deals

-- what a pair of a class of the other's adds for a class of the player
abbrev pub pair_adds : ℕ → End → Bool → ℕ → Pair → ℤ
pair_adds other at on c p = cond (p.two == c) (with_sign on (neg_ℤ (pair_pays other at p))) (pos 0)

out : (t on : Bool) (x : ℤ) → cond t (with_sign on (neg_ℤ x)) (pos 0) ≡ with_sign on (neg_ℤ (cond t x (pos 0)))
out true on x = refl
out false true x = refl
out false false x = refl

signed_neg : {X : Type 0} (on : Bool) (u : X → ℤ) (xs : List X) → sum_z (λ x. with_sign on (neg_ℤ (u x))) xs ≡ with_sign on (neg_ℤ (sum_z u xs))
signed_neg true u xs = sum_z-neg u xs
signed_neg false u xs =
    sum_z-same (λ x. neg_ℤ (neg_ℤ (u x))) u (λ x. (let e : neg_ℤ (neg_ℤ (u x)) ≡ u x = omega (arith, ints) in e)) xs
    ∙ (let e : sum_z u xs ≡ neg_ℤ (neg_ℤ (sum_z u xs)) = omega (arith, ints) in e)

single : (u : ℕ → ℤ) (c a n : ℕ) → a ≤ c → c < a + n → sum_z (λ m. cond (m == c) (u m) (pos 0)) (range_with_len a n) ≡ u c
single u c a zero lo hi = absurd (omega (arith, lo, hi))
single u c a (suc n) lo hi = ⊎_elim
    (λ (is : a ≡ c).
    let head : cond (a == c) (u a) (pos 0) ≡ u c = ap (λ t. cond t (u a) (pos 0)) ((Decides-eqb a c).1 is) ∙ ap u is in
    let rest = sum_none (λ m. cond (m == c) (u m) (pos 0)) (a + 1) n (λ m lo' hi'. ap (λ t. cond t (u m) (pos 0)) (not_eq m c (omega (arith, lo', is)))) in
    omega (arith, ints, head, rest))
    (λ (other : a ≡ c → ⊥).
    let head : cond (a == c) (u a) (pos 0) ≡ pos 0 = ap (λ t. cond t (u a) (pos 0)) (not_eq a c other) in
    let rest = single u c (a + 1) n (omega (arith, lo, other)) (omega (arith, hi)) in
    omega (arith, ints, head, rest))
    (cases_eq a c)

-- over all pairs of the class: what one more there adds
row_adds : (f : Frame) → InRange f → (lists : ClassLists) → IsClasses f.parents lists → (player : ℕ) (h : IsExchanged f player)
    (either : (other_player player ≡ 1) ⊎ (other_player player ≡ 2)) (w : IsWalked f (other_player player)) (z : ℕ) → z < end_count f
    → (k : ℕ) (row : List Pair)
    → IsRow f lists (round_of f (at_end z)) k row → (on : Bool) (c : ℕ) → IsClass lists (round_of f (at_end z)) c
    → sum_z (pair_adds (other_player player) (end_at f z) on c) row ≡ with_sign on (pair_sum f lists lists (round_of f (at_end z)) (payoff_to f player z) c k)
row_adds f r lists classes player h either w z lz k row is on c lc =
    let round = round_of f (at_end z) in
    let other = other_player player in
    let pays : Pair → ℤ = pair_pays other (end_at f z) in
    let n : ℕ → ℕ = λ e. cond (e == c) 1 0 in
    let sums : ℕ → ℤ = λ e. pair_sum f lists lists round (payoff_to f other z) k e in
    sum_z-same (pair_adds other (end_at f z) on c) (λ x. with_sign on (neg_ℤ (pos (n x.two) *ℤ pays x)))
    (λ (x : Pair). out (x.two == c) on (pays x) ∙ ap (λ v. with_sign on (neg_ℤ v)) (one_guard (x.two == c) (pays x))) row
    ∙ signed_neg on (λ (x : Pair). pos (n x.two) *ℤ pays x) row
    ∙ ap (λ x. with_sign on (neg_ℤ x)) (row_sum f lists other either w z lz k row is r classes n
    ∙ sum_z-same (λ e. pos (n e) *ℤ sums e) (λ e. cond (e == c) (sums e) (pos 0)) (λ e. sym (one_guard (e == c) (sums e))) (classes_in lists round)
    ∙ single sums c 1 (class_count lists round) lc.0 (omega (arith, lc.1)))
    ∙ ap (with_sign on) (sym (pays_turned f lists player h z c k))

-- ---- a walk over the pairs of a class

-- what the pairs that are passed add
abbrev pub passed_adds : ℕ → End → Bool → List Pair → List Pair → ℕ → ℤ
passed_adds other at on row left c = sum_z (pair_adds other at on c) (take (passed row left) row)

-- the walk over the pairs of class `k` at an end has come so far, and each turn adds what the pairs that are passed bring
pub record IsPushedBy (s : Role) (z k : ℕ) (on : Bool) (now : ℕ) (left : List Pair) (old new : Tally) : Type 0 where
  pub row : List Pair
  pub is_row : IsRow (side_frame s) (side_lists s) (round_of (side_frame s) (at_end z)) k row
  pub on_row : left ≡ drop (passed row left) row
  pub pushed : (pays rise : ℕ → ℕ → ℤ) → IsTally (side_frame s) (side_lists s) s.player pays rise now old
      → IsTally (side_frame s) (side_lists s) s.player pays
      (risen_at rise z (passed_adds (other_player s.player) (end_at (side_frame s) z) on row left)) now new

module _ (s : Role) (z k : ℕ) (lz : z < end_count (side_frame s)) (on : Bool) (now : ℕ) where
  abbrev f : Frame
  f = side_frame s

  abbrev lists : ClassLists
  lists = side_lists s

  abbrev other : ℕ
  other = other_player s.player

  -- the walk begins
  pub row_begun : (row left : List Pair) (t : Tally) → IsRow f lists (round_of f (at_end z)) k row → left ≡ row → IsPushedBy s z k on now left t t
  row_begun row left t is same = record {
    row = row;
    is_row = is;
    on_row = begun row left same;
    pushed = λ pays rise h. subst (λ r. IsTally f lists s.player pays r now t)
        (sym (risen_by_none rise z (passed_adds other (end_at f z) on row left)
        (λ c. ap (λ n. sum_z (pair_adds other (end_at f z) on c) (take n row)) (none_passed row left same)))) h;
  }

  module _ (left rest : List Pair) (p : Pair) (old mid : Tally) (so_far : IsPushedBy s z k on now left old mid) (first : left ≡ p ∷ rest) where
    at_pair : IsTurn so_far.row left rest p
    at_pair = turn so_far.row left rest p so_far.on_row first

    -- what is known of the pair at which it stands
    pub pair_known : IsKnown f lists other z p
    pair_known =
        let g = given_in s.form.now in
        known f g.in_range lists g.classes other (other_walked s) g.modest z lz k so_far.row so_far.is_row left rest p at_pair

    -- and the walk goes on
    pub row_further : (more : ℤ) (new : Tally) → more ≡ with_sign on (neg_ℤ (pair_pays other (end_at f z) p))
        → ((pays rise : ℕ → ℕ → ℤ) → IsTally f lists s.player pays rise now mid → IsTally f lists s.player pays (risen rise z p.two more) now new)
        → IsPushedBy s z k on now rest old new
    row_further more new is turned = record {
      row = so_far.row;
      is_row = so_far.is_row;
      on_row = at_pair.on;
      pushed = λ pays rise h.
          let adds = passed_adds other (end_at f z) on so_far.row in
          let same : risen (risen_at rise z (adds left)) z p.two more ≡ risen_at rise z (adds rest) =
          risen_twice rise z (adds left) (λ c. cond (p.two == c) more (pos 0))
          ∙ risen_same rise z (λ c. adds left c +ℤ cond (p.two == c) more (pos 0)) (adds rest)
          (λ c. sum_turned (pair_adds other (end_at f z) on c) so_far.row left rest p at_pair (adds left c) (cond (p.two == c) more (pos 0)) refl
          (ap (λ x. cond (p.two == c) x (pos 0)) is)) in
          subst (λ r. IsTally f lists s.player pays r now new) same (turned pays (risen_at rise z (adds left)) (so_far.pushed pays rise h));
    }

  -- at its end each turn adds what one more of the class brings
  pub row_ended : (left : List Pair) (old new : Tally) → IsPushedBy s z k on now left old new → left ≡ [] → (pays rise : ℕ → ℕ → ℤ)
      → IsTally f lists s.player pays rise now old → IsTally f lists s.player pays
      (risen_at rise z (λ c. with_sign on (pair_sum f lists lists (round_of f (at_end z)) (payoff_to f s.player z) c k))) now new
  row_ended left old new so_far none pays rise h =
      let g = given_in s.form.now in
      let adds = passed_adds other (end_at f z) on so_far.row left in
      let all : ℕ → ℤ = λ c. with_sign on (pair_sum f lists lists (round_of f (at_end z)) (payoff_to f s.player z) c k) in
      risen_alike f lists s.player (walked s) pays rise now z adds all new
      (λ c lc. sym (sum_ended (pair_adds other (end_at f z) on c) so_far.row left none (adds c) refl
      ∙ row_adds f g.in_range lists g.classes s.player (turned_frame s) (one_or_two other (let t = s.two in omega arith) (let l = s.some in omega arith))
      (other_walked s) z lz k so_far.row so_far.is_row on c lc))
      (so_far.pushed pays rise h)
