-- A game that keeps the rules has 1 to 4 rounds.
use Rattle.std.proofs.Common.{◌≡◌, ◌≤◌, ◌&&◌, List, length, Some, None, Ok, inl, inr, refl, arith, nat_le}
use Rattle.std.proofs.lemmas.Bool.{and_parts, cases_Bool, le-ltb, leb-true}
use Rattle.gs_game.proofs.Evenly.{neither}
use Rattle.gs_game.specs.{Money.{first_of}, Refusals.{ranking_refusal, copies_refusal}}
use Rattle.gs_game.specs.Refusals.{Refusal, rounds, first_refusal, card_refusal, betting_refusal, deal_refusal, rounds_refusal, private_refusal}
use Rattle.gs_model.specs.Game.{Game, round_count}
use Rattle.toml.specs.Data.{Members}
use Rattle.gs_file.specs.Reading.{FileGame, counted, file_rules}

rounds_first : (g : Game) → first_refusal g ≡ None → rounds_refusal g ≡ None
unfolding first_refusal card_refusal
rounds_first g h =
    let cards = neither (card_refusal g) (first_of (betting_refusal g) (deal_refusal g)) h in
    (neither (rounds_refusal g) (first_of (private_refusal g) (first_of (ranking_refusal g) (copies_refusal g))) cards.0).0

rounds_pass : (g : Game) → rounds_refusal g ≡ None → (1 ≤ length g.rounds) × (length g.rounds ≤ 4)
unfolding rounds_refusal
rounds_pass g h = elim (cases_Bool (nat_le 1 (round_count g) && nat_le (round_count g) 4)) [
  | inl e ↦ let p = and_parts (nat_le 1 (round_count g)) (nat_le (round_count g) 4) e in (leb-true 1 (round_count g) p.0, leb-true (round_count g) 4 p.1)
  | inr e ↦ absurd (some_none (rounds (round_count g)) (rw e at h))
]
  where
    some_none : (x : Refusal) → Some x ≡ None → ⊥
    some_none x e = cc

-- so many rounds pass their check
pub counted_is : (g : FileGame) (ts : List Members) → first_refusal (file_rules g) ≡ None → length ts ≡ length g.rounds → counted ts ≡ Ok tt
counted_is g ts h same =
    let n = rounds_pass (file_rules g) (rounds_first (file_rules g) h) in
    rw (le-ltb (length ts) 1 (omega (arith, n, same)), le-ltb 4 (length ts) (omega (arith, n, same))) refl
