use Rattle.std.proofs.Common.{◌≡◌, ◌+◌, ◌<◌, ◌≤◌, All, length, map, drop}
use Rattle.gs_file.specs.{Keys.{top}, Tables.{each, within}, declared.fault.Key.TheVariants.{Bonus}}
use Rattle.gs_file.proofs.Loop.{with_front}
use Rattle.gs_file.proofs.ranges.each_bonus.Given as goal

abbrev pub invariant-loop-number : goal.invariant-loop-number
invariant-loop-number l = record {
  so_far : with_front l.bonuses.items (each (λ n. within (top Bonus) 1 9) (l.number-index + 1) (map (λ z. z) (drop l.number-index l.numbers)))
      ≡ each (λ n. within (top Bonus) 1 9) 1 l.numbers;
  range : All (λ n. (0 < n) × (n ≤ 9)) l.bonuses.items;
  count : length l.bonuses.items ≡ l.number-index;
}
