-- Each choice of a well-formed tree is player 1's or player 2's.
use Rattle.std.proofs.{Common.{◌≡◌, ℕ, zero, suc, true, ◌&&◌, ◌==◌, ◌⊎◌, inl, inr, not, nat_le}, lemmas.Bool.{and_parts, or_cases, eqb-true}}
use Rattle.gs_model.specs.Betting.{Bet, Moves, act, fold, even, none, move, HasPlayers, MovesHavePlayers}
use Rattle.gs_bet.specs.{MoveLists.{has_move, has_letter}, Grammar.{is_player, is_letter, is_sound, are_sound, is_fold, is_tree}}

pub player_cases : (p : ℕ) → is_player p ≡ true → (p ≡ 1) ⊎ (p ≡ 2)
player_cases p h = elim (or_cases (p == 1) (p == 2) h) [ inl e ↦ inl (eqb-true p 1 e) | inr e ↦ inr (eqb-true p 2 e) ]

mutual
  sound_players : (left : ℕ) (t : Bet) → is_sound left t ≡ true → HasPlayers t
  sound_players zero (act player moves) h = absurd (cc)
  sound_players (suc left) (act player moves) h =
      let both = and_parts (is_player player) (has_move moves && are_sound left moves) h in
      (player_cases player both.0, sound_moves left moves (and_parts (has_move moves) (are_sound left moves) both.1).1)
  sound_players left fold h = tt
  sound_players left even h = tt

  sound_moves : (left : ℕ) (ms : Moves) → are_sound left ms ≡ true → MovesHavePlayers ms
  sound_moves left none h = tt
  sound_moves left (move letter chips next ms) h =
      let both = (and_parts (is_letter letter && not (has_letter ms letter)) (nat_le chips 4096 && (is_sound left next && are_sound left ms)) h).1 in
      let trees = and_parts (is_sound left next) (are_sound left ms) (and_parts (nat_le chips 4096) (is_sound left next && are_sound left ms) both).1 in
      (sound_players left next trees.0, sound_moves left ms trees.1)

pub has_players : (t : Bet) → is_tree t ≡ true → HasPlayers t
has_players t h = sound_players 16 t (and_parts (not (is_fold t)) (is_sound 16 t) h).1
