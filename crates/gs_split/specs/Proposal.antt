-- The proposal, which splits classes before the exact turns, and the numbers that it splits by.
use Rattle.std.specs.Prelude.{ℕ, ◌+◌, ◌*◌, ◌/◌, ◌%◌, ◌^◌, ◌<◌, ◌≡◌, ◌==◌, List, [], get_or, length, sum_by, if◌then◌else◌}
use Rattle.std.specs.{Int.Bits.{bit_xor}, List.{range_with_len}}
use Rattle.gs_model.specs.{Classes.{ClassLists, InOneClass}, Frame.{Frame, last_round, signal_count}, Lossless.{IsLossless}, Refinement.{Refines}}

-- a hash: the upper half of 64 bits that a number is spread over. Nothing is claimed of it but that it depends on the number alone
unfoldable pub mixed : ℕ → ℕ
mixed number =
    let spread = (number * 11400714819323198485) % 2 ^ 64 in
    (bit_xor spread (spread / 2 ^ 32) * 11400714819323198485) % 2 ^ 64 / 2 ^ 32

-- what a child adds to its parent's number: a hash of its class and its number
abbrev pub child_term : List ℕ → List ℕ → ℕ → ℕ
child_term classes numbers child = mixed (get_or classes child 0 + get_or numbers child 0 * 2 ^ 32)

-- the sum of the terms of a signal's children, modulo 2^32; `parents` has the parent of each child
abbrev pub child_number : List ℕ → List ℕ → List ℕ → ℕ → ℕ
child_number parents classes numbers s = sum_by (λ x. if get_or parents x 0 == s then child_term classes numbers x
    else 0) (range_with_len 0 (length parents)) % 2 ^ 32

-- numbers of the signals of a round: equal for any two signals that some lossless refinement of the classes keeps together
pub record AreFair (f : Frame) (lists : ClassLists) (round : ℕ) (numbers : List ℕ) : Type 0 where
  pub long : length numbers ≡ signal_count f round
  pub same : (other : ClassLists) → IsLossless f other → Refines f other lists → (s t : ℕ) → InOneClass f other round s t
      → get_or numbers s 0 ≡ get_or numbers t 0

-- fair numbers for each round from the round `from` to the last
pub record AreFairFrom (f : Frame) (lists : ClassLists) (from : ℕ) (numbers : ClassLists) : Type 0 where
  pub rounds : length numbers + from ≡ last_round f + 1
  pub each : (k : ℕ) → k < length numbers → AreFair f lists (from + k) (get_or numbers k [])

-- `lists` refines `from`, and every lossless refinement of `from` refines `lists`
pub record IsProposal (f : Frame) (from lists : ClassLists) : Type 0 where
  pub refines : Refines f lists from
  pub keeps : (other : ClassLists) → IsLossless f other → Refines f other from → Refines f other lists
