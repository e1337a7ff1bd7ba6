-- The slots of a game in sequence form.
use Rattle.std.proofs.Common.{◌≡◌, ℕ, ◌+◌, ◌-◌, ◌*◌, ◌<◌, ◌≤◌, ◌^◌, get_or, refl, sym, ap, ◌∙◌, subst, arith, ⊎_elim}
use Rattle.gs_game.specs.declared.valid.ValidGame.{ValidGame}
use Rattle.gs_model.specs.{Classes.{ClassLists, IsClass}, Frame.{Frame, move_count, player_at, point_count, round_of}, Positions.{at_point}}
use Rattle.gs_seq.specs.{Abstracts.{abstract_frame, game_in, lists_of}, Games.{frame_in}, Slots.{sequence_count, slot_of, slots_before}}
use Rattle.gs_seq.specs.{Stops.{HasSequencesWithin}, declared.form.Abstract.{Abstract}}
use Rattle.gs_seq.proofs.{Coming.{slot_before}, Points.{players}}

-- where a move of a point stands, and that its slot is small
pub record SlotFacts (f : Frame) (lists : ClassLists) (q c m base moves : ℕ) : Type 0 where
  pub is : base + (c - 1) * moves + m ≡ slot_of f lists q c m
  pub within : base + (c - 1) * moves + m + 1 < sequence_count f lists (player_at f q)
  pub few : base + (c - 1) * moves + m < 2 ^ 30

few_sequences : (g : ValidGame) (lists : ClassLists) (q : ℕ) → HasSequencesWithin (2 ^ 30) (frame_in g) lists → q < point_count (frame_in g)
    → sequence_count (frame_in g) lists (player_at (frame_in g) q) ≤ 2 ^ 30
few_sequences g lists q h l = ⊎_elim
    (λ one. subst (λ p. sequence_count (frame_in g) lists p ≤ 2 ^ 30) (sym one) h.one)
    (λ two. subst (λ p. sequence_count (frame_in g) lists p ≤ 2 ^ 30) (sym two) h.two)
    (players g q l)

slot_facts : (f : Frame) (lists : ClassLists) (q c m base moves : ℕ) → q < point_count f → IsClass lists (round_of f (at_point q)) c → m < move_count f q
    → base ≡ slots_before f lists (player_at f q) q → moves ≡ move_count f q → sequence_count f lists (player_at f q) ≤ 2 ^ 30
    → SlotFacts f lists q c m base moves
slot_facts f lists q c m base moves l k lm b e few =
    let shift = ap (λ n. (c - 1) * n) e in
    let here = slot_before f lists (player_at f q) q c m (point_count f) refl k lm l in
    record {
      is = omega (arith, b, shift);
      within = omega (arith, b, shift, here);
      few = omega (arith, b, shift, here, few);
    }

-- the same of a game in sequence form
pub slot_at : (a : Abstract) (q c m base moves : ℕ) → q < point_count (abstract_frame a)
    → IsClass (lists_of a) (round_of (abstract_frame a) (at_point q)) c → m < move_count (abstract_frame a) q
    → base ≡ get_or a.offsets.items q 0 → moves ≡ move_count (abstract_frame a) q → SlotFacts (abstract_frame a) (lists_of a) q c m base moves
slot_at a q c m base moves l k lm b n =
    slot_facts (abstract_frame a) (lists_of a) q c m base moves l k lm (b ∙ a.placed.first q l) n (few_sequences (game_in a) (lists_of a) q a.few l)
