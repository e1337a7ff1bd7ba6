-- What an end pays in the deals of pairs of classes.
use Rattle.std.specs.Prelude.{All, ℕ, get_or, length, ◌-◌, ◌<◌, ◌≤◌, ◌≡◌, ◌==◌, ◌^◌, List, ℤ, pos, neg_ℤ, ◌*ℤ◌, if◌then◌else◌, slice_index}
use Rattle.gs_model.specs.{Classes.{ClassLists, IsClass, class_count, classes_in}, Frame.{Frame, other_player, payoff_to, round_of}}
use Rattle.gs_model.specs.{Pairs.{class_number, pair_sum}, Plans.{Plan}, Positions.{End, EndKind, Folded1, Folded2, Show, at_end}, Sums.{sum_z}}
use Rattle.gs_seq.specs.{Rows.{AreWholesIn}, declared.pair.Pair.{Pair}}

-- what an end pays a player at the player's class `c` against a plan of the other player:
-- the sum, over the other's classes, of the plan's number at the end times what the end pays in the deals of both classes
abbrev pub end_sum : Frame → ClassLists → ℕ → Plan → ℕ → ℕ → ℤ
end_sum f lists player y z c =
    let round = round_of f (at_end z) in
    sum_z (λ e. pos (class_number f lists (other_player player) y z e) *ℤ pair_sum f lists lists round (payoff_to f player z) c e) (classes_in lists round)

-- how many classes the round of an end has
abbrev pub end_classes : Frame → ClassLists → ℕ → ℕ
end_classes f lists z = class_count lists (round_of f (at_end z))

-- the list has a player's number at an end for each class of the end's round
abbrev pub AreNumbersAt : Frame → ClassLists → ℕ → Plan → ℕ → List ℕ → Type 0
AreNumbersAt f lists player y z numbers = (e : ℕ) → IsClass lists (round_of f (at_end z)) e → slice_index numbers (e - 1) ≡ class_number f lists player y z e

-- ---- of private functions

-- what two plans pay player 1 at an end: the sum over player 1's classes of the number at the end times `end_sum`
abbrev pub payoff_at : Frame → ClassLists → Plan → Plan → ℕ → ℤ
payoff_at f lists x y z = sum_z (λ c. pos (class_number f lists 1 x z c) *ℤ end_sum f lists 1 y z c) (classes_in lists (round_of f (at_end z)))

-- the chips that a fold pays a player: the player who folds loses the chips `put`, and the other wins them
abbrev pub stake : ℕ → ℕ → ℕ → ℤ
stake player folder put = if player == folder then neg_ℤ (pos put) else pos put

-- what an end pays a player in the deals of a pair: at a fold the stake times the weight, at a showdown the chips put in times the signed weight
abbrev pub pair_pays : ℕ → End → Pair → ℤ
pair_pays player z p = pays z.kind
  where
    pays : EndKind → ℤ
    pays Folded1 = stake player 1 z.put *ℤ pos p.weight
    pays Folded2 = stake player 2 z.put *ℤ pos p.weight
    pays Show = pos z.put *ℤ p.signed

-- the chips that an end pays a player for a unit of the weight that counts there: at a fold the stake, at a showdown the chips put in
abbrev pub chips_of : ℕ → EndKind → ℕ → ℤ
chips_of player Folded1 put = stake player 1 put
chips_of player Folded2 put = stake player 2 put
chips_of player Show put = pos put

-- the weight of a pair that counts at an end: at a fold the weight, at a showdown the signed weight
abbrev pub weight_of : EndKind → Pair → ℤ
weight_of Folded1 p = pos p.weight
weight_of Folded2 p = pos p.weight
weight_of Show p = p.signed

-- each of the first n numbers of a list is at most 2^36, the greatest total of a plan
abbrev pub AreFew : ℕ → List ℕ → Type 0
AreFew n numbers = (k : ℕ) → k < n → slice_index numbers k ≤ 2 ^ 36

-- what an end pays a player at the player's class `c`, from a list of the other player's numbers there, one for each class
abbrev pub number_sum : Frame → ClassLists → ℕ → List ℕ → ℕ → ℕ → ℤ
number_sum f lists player numbers z c =
    let round = round_of f (at_end z) in
    sum_z (λ e. pos (slice_index numbers (e - 1)) *ℤ pair_sum f lists lists round (payoff_to f player z) c e) (classes_in lists round)

-- the sums have `number_sum` at each class, and behind the classes what they had before
pub record ArePaid (f : Frame) (lists : ClassLists) (player : ℕ) (numbers : List ℕ) (z : ℕ) (old new : List ℤ) : Type 0 where
  pub here : (c : ℕ) → IsClass lists (round_of f (at_end z)) c → get_or new (c - 1) (pos 0) ≡ number_sum f lists player numbers z c
  pub behind : (i : ℕ) → end_classes f lists z ≤ i → get_or new i (pos 0) ≡ get_or old i (pos 0)

-- each pair of a row has a number in the list, of at most 2^36
abbrev pub HasNumbers : List ℕ → List Pair → Type 0
HasNumbers numbers row = All (λ p. (0 < p.two) × (p.two ≤ length numbers) × (slice_index numbers (p.two - 1) ≤ 2 ^ 36)) row

-- what an end pays a player in the deals of a row, each pair times the number of its class
abbrev pub row_pays : ℕ → End → List ℕ → List Pair → ℤ
row_pays player z numbers row = sum_z (λ (p : Pair). pos (slice_index numbers (p.two - 1)) *ℤ pair_pays player z p) row

-- the numbers of an end's classes are all the same, and `wholes` has for each class all pairs of its row as one
pub record AreWholesFor (f : Frame) (lists : ClassLists) (z : ℕ) (numbers : List ℕ) (wholes : List Pair) : Type 0 where
  pub same : (k : ℕ) → k < end_classes f lists z → slice_index numbers k ≡ slice_index numbers 0
  pub wholes_are : AreWholesIn f lists (round_of f (at_end z)) wholes
