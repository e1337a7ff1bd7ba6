-- One turn of fictitious play in Kuhn's game: both players' first best plans against the first moves, added to the first moves.
use Rattle.std.proofs.{Common.{◌≡◌, ℕ, zero, suc, ◌+◌, ◌-◌, ◌<◌, [], ◌∷◌, ◌==◌, List, get_or, refl, true, arith}, lemmas.Bool.{ne_eqb}}
use Rattle.std.specs.Prelude.{pos, sum_by, if◌then◌else◌}
use Rattle.gs_model.specs.{BestAnswers.{Values}, Classes.{first_member}, Plans.{Plan, lift, number_before}}
use Rattle.gs_model.specs.Frame.{ancestor, choices_at, frame_of, last_step, leads_to, move_count, payoff_to, player_at, round_of}
use Rattle.gs_model.specs.{Play.{IsFirstMoves}, Positions.{at_point}}
use Rattle.gs_worked.proofs.{Kuhn.{firsts, kuhn_best, kuhn_move, kuhn_values, moves_by, values_by}, Tested.{are_same, best_at, same_at}}
use Rattle.gs_worked.specs.Kuhn.{KuhnPlay, apart, kuhn, turn_one, turn_two}

abbrev answer_by : List (List (List ℕ)) → Plan
answer_by rows = record { total = 1; number = λ q c m. get_or (get_or (get_or rows q []) (c - 1) []) m 0 }

abbrev one_answer : Plan
one_answer = answer_by (((0 ∷ 1 ∷ []) ∷ (0 ∷ 1 ∷ []) ∷ (1 ∷ 0 ∷ []) ∷ []) ∷ [] ∷ ((0 ∷ 0 ∷ []) ∷ (0 ∷ 0 ∷ []) ∷ (1 ∷ 0 ∷ []) ∷ []) ∷ [] ∷ [])

abbrev two_answer : Plan
two_answer = answer_by ([] ∷ ((0 ∷ 1 ∷ []) ∷ (0 ∷ 1 ∷ []) ∷ (1 ∷ 0 ∷ []) ∷ []) ∷ [] ∷ ((1 ∷ 0 ∷ []) ∷ (1 ∷ 0 ∷ []) ∷ (1 ∷ 0 ∷ []) ∷ []) ∷ [])

-- the first moves put nothing on another move
no_other : (m : ℕ) → 0 < m → firsts.number 0 0 m ≡ 0
no_other zero some = absurd (omega arith)
no_other (suc m) some = rw (ne_eqb (suc m) 0 (λ e. omega arith)) refl

-- the number of a player's last step before a point, at a card
abbrev before : ℕ → Plan → ℕ → ℕ → ℕ
before player x q c =
    let round = round_of (frame_of kuhn) (at_point q) in
    number_before (frame_of kuhn) (lift (frame_of kuhn) apart x) (last_step (frame_of kuhn) player (at_point q)) round (first_member apart round c)

abbrev firsts_flow : ℕ → ℕ → ℕ → ℕ
firsts_flow q c m = sum_by (λ k. firsts.number q c k) (choices_at (frame_of kuhn) q)

firsts_by : (player : ℕ) → are_same (frame_of kuhn) apart player (λ q. 1) firsts_flow (λ q c m. before player firsts q c) ≡ true
    → IsFirstMoves (frame_of kuhn) apart player firsts
firsts_by player tested = record {
  plan = record {
    total_in = (omega arith, omega arith);
    flow = λ q c l h i. same_at (frame_of kuhn) apart player (λ q. 1) firsts_flow (λ q c m. before player firsts q c) tested q c 0 l h i (omega arith);
  };
  one = refl;
  first = λ q c m l h i some less. no_other m some;
}

-- all on the moves of a table
abbrev on_moves : ℕ → Plan → (ℕ → ℕ → ℕ) → ℕ → ℕ → ℕ → ℕ
on_moves player x move q c m = if m == move q c then before player x q c else 0

abbrev moves : ℕ → ℕ
moves = move_count (frame_of kuhn)

-- best values of player 2 against the first moves of player 1
abbrev reply_values : Values
reply_values = values_by 2 firsts ((pos 2 ∷ pos 2 ∷ pos 2 ∷ []) ∷ (pos 2 ∷ pos 2 ∷ pos 2 ∷ []) ∷ (pos 2 ∷ pos 2 ∷ pos 2 ∷ []) ∷ (pos 0 ∷ pos 0 ∷ pos 0 ∷ []) ∷ [])

abbrev reply_move : ℕ → ℕ → ℕ
reply_move = moves_by ([] ∷ (1 ∷ 1 ∷ 0 ∷ []) ∷ [] ∷ (0 ∷ 0 ∷ 0 ∷ []) ∷ [])

-- a best plan, and its sum with the first moves
abbrev firsts_and : Plan → ℕ → ℕ → ℕ → ℕ
firsts_and x q c m = firsts.number q c m + x.number q c m

pub kuhn_play : KuhnPlay
unfolding ancestor round_of last_step payoff_to player_at move_count leads_to
kuhn_play = (
  firsts,
  firsts,
  one_answer,
  two_answer,
  (firsts_by 1 refl, firsts_by 2 refl),
  record {
    values = kuhn_values;
    move = kuhn_move;
    best = kuhn_best;
    one = refl;
    puts = same_at (frame_of kuhn) apart 1 moves one_answer.number (on_moves 1 one_answer kuhn_move) refl;
  },
  record {
    values = reply_values;
    move = reply_move;
    best = best_at (frame_of kuhn) apart 2 (lift (frame_of kuhn) apart firsts) reply_values reply_move refl (λ z c l m. refl);
    one = refl;
    puts = same_at (frame_of kuhn) apart 2 moves two_answer.number (on_moves 2 two_answer reply_move) refl;
  },
  record { total = refl; numbers = same_at (frame_of kuhn) apart 1 moves turn_one.number (firsts_and one_answer) refl },
  record { total = refl; numbers = same_at (frame_of kuhn) apart 2 moves turn_two.number (firsts_and two_answer) refl },
)
