-- Sums along the paths of a tree stay small.
use Rattle.std.proofs.Common.{◌≡◌, ℕ, zero, suc, ◌+◌, ◌*◌, ◌^◌, ◌≤◌, ◌&&◌, not, nat_le, true, arith, inl, inr, refl, max, ap, ◌∙◌}
use Rattle.std.proofs.lemmas.Bool.{and_parts, leb-true, cases_Bool}
use Rattle.std.specs.Prelude.{◌==◌}
use Rattle.gs_model.specs.Betting.{Bet, Moves, act, move}
use Rattle.gs_bet.specs.{MoveLists.{has_move, has_letter}, Grammar.{is_letter, is_player, is_sound, are_sound, is_fold, is_tree}}
use Rattle.gs_game.specs.Money.{Fits, one_after, two_after, most_put, most_moved}

-- the trees that the moves lead to leave this room, with one more level of acts for the move itself
pub record MovesFit (one two : ℕ) (ms : Moves) : Type 0 where
  pub left : ℕ
  pub sound : are_sound left ms ≡ true
  pub room_one : one + (left + 1) * 4096 ≤ 2 ^ 24
  pub room_two : two + (left + 1) * 4096 ≤ 2 ^ 24

pub sound_act : (left p : ℕ) (ms : Moves) → is_sound left (act p ms) ≡ true → (k : ℕ) × (left ≡ suc k) × (are_sound k ms ≡ true) × (has_move ms ≡ true)
sound_act zero p ms h = absurd cc
sound_act (suc left) p ms h =
    let parts = and_parts (has_move ms) (are_sound left ms) (and_parts (is_player p) (has_move ms && are_sound left ms) h).1 in
    (left, refl, parts.1, parts.0)

pub record SoundMove (left chips : ℕ) (t : Bet) (ms : Moves) : Type 0 where
  pub chips_in : chips ≤ 4096
  pub next : is_sound left t ≡ true
  pub others : are_sound left ms ≡ true

pub sound_move : (left letter chips : ℕ) (t : Bet) (ms : Moves) → are_sound left (move letter chips t ms) ≡ true → SoundMove left chips t ms
sound_move left letter chips t ms h =
    let both = (and_parts (is_letter letter && not (has_letter ms letter)) (nat_le chips 4096 && (is_sound left t && are_sound left ms)) h).1 in
    let sides = and_parts (nat_le chips 4096) (is_sound left t && are_sound left ms) both in
    let trees = and_parts (is_sound left t) (are_sound left ms) sides.1 in
    record { chips_in = leb-true chips 4096 sides.0; next = trees.0; others = trees.1 }

pub fits_moves : (one two p : ℕ) (ms : Moves) → Fits one two (act p ms) → MovesFit one two ms
fits_moves one two p ms h =
    let a = sound_act h.left p ms h.sound in
    let e : h.left ≡ a.0 + 1 = omega (arith, a.1) in
    record { left = a.0; sound = a.2; room_one = rw e at h.room_one; room_two = rw e at h.room_two }

after_most : (p chips x : ℕ) → chips ≤ 4096 → one_after p chips x ≤ x + 4096
after_most p chips x h = elim (cases_Bool (p == 1)) [ inl e ↦ rw e (omega arith) | inr e ↦ rw e (omega arith) ]

after_other : (p chips x : ℕ) → chips ≤ 4096 → two_after p chips x ≤ x + 4096
after_other p chips x h = elim (cases_Bool (p == 1)) [ inl e ↦ rw e (omega arith) | inr e ↦ rw e (omega arith) ]

pub fits_first : (one two p letter chips : ℕ) (t : Bet) (ms : Moves) → MovesFit one two (move letter chips t ms)
    → Fits (one_after p chips one) (two_after p chips two) t
fits_first one two p letter chips t ms h =
    let s = sound_move h.left letter chips t ms h.sound in
    record {
      left = h.left;
      sound = s.next;
      room_one = omega (arith, h.room_one, after_most p chips one s.chips_in);
      room_two = omega (arith, h.room_two, after_other p chips two s.chips_in);
    }

pub fits_rest : (one two letter chips : ℕ) (t : Bet) (ms : Moves) → MovesFit one two (move letter chips t ms) → MovesFit one two ms
fits_rest one two letter chips t ms h =
    record { left = h.left; sound = (sound_move h.left letter chips t ms h.sound).others; room_one = h.room_one; room_two = h.room_two }

-- the same where the amounts after the move have names of their own
pub fits_after : (one two p letter chips : ℕ) (t : Bet) (ms all : Moves) (one' two' : ℕ) → MovesFit one two all → all ≡ move letter chips t ms
    → one' ≡ one_after p chips one → two' ≡ two_after p chips two → Fits one' two' t
fits_after one two p letter chips t ms all one' two' h is e f = rw (e, f) (fits_first one two p letter chips t ms (rw is at h))

pub fits_behind : (one two letter chips : ℕ) (t : Bet) (ms all : Moves) → MovesFit one two all → all ≡ move letter chips t ms → MovesFit one two ms
fits_behind one two letter chips t ms all h is = fits_rest one two letter chips t ms (rw is at h)

-- one move more of a loop that keeps the greatest
pub most_step : (go_on : ℕ → ℕ → ℕ) (one two p letter chips : ℕ) (t : Bet) (ms all : Moves) (total most here new one' two' : ℕ)
    → total ≡ max most (most_moved go_on one two p all) → all ≡ move letter chips t ms → here ≡ most_put go_on one' two' t
    → one' ≡ one_after p chips one → two' ≡ two_after p chips two → new ≡ max here most → total ≡ max new (most_moved go_on one two p ms)
most_step go_on one two p letter chips t ms all total most here new one' two' so_far is at e f greater =
    let parts : max most (most_moved go_on one two p all) ≡ max most (max (most_put go_on (one_after p chips one) (two_after p chips two) t)
    (most_moved go_on one two p ms)) = ap (λ (x : Moves). max most (most_moved go_on one two p x)) is in
    let first : here ≡ most_put go_on (one_after p chips one) (two_after p chips two) t =
    at ∙ ap (λ (x : ℕ). most_put go_on x two' t) e ∙ ap (λ (x : ℕ). most_put go_on (one_after p chips one) x t) f in
    omega (arith, so_far, parts, first, greater)

-- a well-formed tree has at most sixteen acts within each other
pub tree_sound : (t : Bet) → is_tree t ≡ true → is_sound 16 t ≡ true
tree_sound t h = (and_parts (not (is_fold t)) (is_sound 16 t) h).1
