-- A player and the other one.
use Rattle.std.proofs.{Common.{◌≡◌, ◌≢◌, ℕ, ◌<◌, ◌≤◌, sym, ◌∙◌, arith, ⊎_elim}, lemmas.Bool.{cases_eq}}
use Rattle.gs_model.specs.{Frame.{other_player, player_at, point_count}, FrameFacts.{IsWalked}}
use Rattle.gs_seq.specs.{Abstracts.{abstract_frame, game_in}, declared.form.Abstract.{Abstract}}
use Rattle.gs_seq.proofs.{Points.{players}, Forms.{form_walked}}
use Rattle.gs_best.specs.{Sides.{frame_at}, declared.side.Side.{Side}}

pub walked : (s : Side) → IsWalked (frame_at s) s.player
walked s = form_walked s.form.now s.player s.some s.two

pub other_walked : (s : Side) → IsWalked (frame_at s) (other_player s.player)
other_walked s = form_walked s.form.now (other_player s.player) (let t = s.two in omega arith) (let l = s.some in omega arith)

pub either_player : (a : Abstract) (player q : ℕ) → 0 < player → player ≤ 2 → q < point_count (abstract_frame a) → (player_at (abstract_frame a) q ≡ player → ⊥)
    → player_at (abstract_frame a) q ≡ other_player player
either_player a player q some two l other =
    ⊎_elim
    (λ (one : player_at (abstract_frame a) q ≡ 1). ⊎_elim (λ (e : player ≡ 1). absurd (other (one ∙ sym e))) (λ (n : player ≡ 1
    → ⊥). omega (arith, one, some, two)) (cases_eq player 1))
    (λ (his : player_at (abstract_frame a) q ≡ 2). ⊎_elim (λ (e : player ≡ 2). absurd (other (his ∙ sym e))) (λ (n : player ≡ 2
    → ⊥). omega (arith, his, some, two)) (cases_eq player 2))
    (players (game_in a) q l)

pub apart : (player : ℕ) → 0 < player → player ≤ 2 → player ≢ other_player player
apart player some two e = omega (arith, some, two, e)
