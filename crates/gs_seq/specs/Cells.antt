-- Pairs of classes that meet in some deal, and how many of them the ends have.
use Rattle.std.specs.Prelude.{ℕ, ◌-◌, ◌<◌, ◌≤◌, ◌≡◌, ◌==◌, ◌&&◌, Bool, true, false, List, length, get_or, ℤ, pos, if◌then◌else◌, sum_by, count_by}
use Rattle.std.specs.List.{list_any}
use Rattle.gs_model.specs.{Classes.{ClassLists, class_of, classes_in}, Deals.{Deal}, Frame.{Frame, at_round, last_round}, Pairs.{pair_sum}, Positions.{End}}
use Rattle.gs_seq.specs.declared.pair.Pair.{Pair}

-- whether in some deal player 1's signal of the round is in class `c` and player 2's is in class `e`
abbrev pub meets : Frame → ClassLists → ℕ → ℕ → ℕ → Bool
meets f lists round c e = list_any (λ (d : Deal). (class_of lists round (at_round f round d.one) == c)
    && (class_of lists round (at_round f round d.two) == e)) f.deals

-- how many pairs of classes of a round meet in some deal
abbrev pub pair_count : Frame → ClassLists → ℕ → ℕ
pair_count f lists round = sum_by (λ c. count_by (λ e. meets f lists round c e) (classes_in lists round)) (classes_in lists round)

-- the number of cells: over all ends, the pairs of classes of the end's round that meet in some deal, added up
abbrev pub cell_count : Frame → ClassLists → ℕ
cell_count f lists = sum_by (λ (z : End). pair_count f lists z.round) f.ends

-- for each round how many pairs of its classes meet in some deal
pub record AreCounts (f : Frame) (lists : ClassLists) (counts : List ℕ) : Type 0 where
  pub long : length counts ≡ last_round f
  pub count : (round : ℕ) → 0 < round → round ≤ last_round f → get_or counts (round - 1) 0 ≡ pair_count f lists round

-- the weight of the deals of a pair of classes
abbrev pub pair_weight : Frame → ClassLists → ℕ → ℕ → ℕ → ℤ
pair_weight f lists round c e = pair_sum f lists lists round (λ o. pos 1) c e

-- the signed weight of a pair of classes: in the last round, the sum over its deals of weight times player 1's outcome; before it, 0
abbrev pub pair_signed : Frame → ClassLists → ℕ → ℕ → ℕ → ℤ
pair_signed f lists round c e = if round == last_round f then pair_sum f lists lists round (λ o. o) c e else pos 0

-- the pair of a class with the least class above `after` that it meets in some deal
pub record IsPairAfter (f : Frame) (lists : ClassLists) (round one after : ℕ) (p : Pair) : Type 0 where
  pub later : after < p.two
  pub met : meets f lists round one p.two ≡ true
  pub between : (e : ℕ) → after < e → e < p.two → meets f lists round one e ≡ false
  pub weight : pos p.weight ≡ pair_weight f lists round one p.two
  pub signed : p.signed ≡ pair_signed f lists round one p.two

-- no class above `after` meets the class
abbrev pub MeetsNoneAfter : Frame → ClassLists → ℕ → ℕ → ℕ → Type 0
MeetsNoneAfter f lists round one after = (e : ℕ) → after < e → meets f lists round one e ≡ false
