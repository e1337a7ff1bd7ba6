use Rattle.std.proofs.lemmas.Grind.{common_steps}
use Rattle.std.proofs.Common.{◌≡◌, ◌∙◌, ◌<◌, ℕ, List, true, ap, arith, get_or, length, subst, sym}
use Rattle.std.proofs.lemmas.Option.{IfSome_then}
use Rattle.gs_tree.specs.{Trees.{rules_of}, Walk.{last_count, shows_same}}
use Rattle.gs_lossless.specs.declared.rivals.RivalTable.{RivalTable}
use Rattle.gs_lossless.proofs.aspect_keys.AspectKeys.table_of.Goals as goal

pub returns-in_err-first : goal.returns-in_err-first
returns-in_err-first c = grind (arith, common_steps)

pub returns : goal.returns
returns c = record {
  within = let lookup = c.in_ok-first.ensures.lookup in
      let within : c.args.signal < last_count (rules_of c.args.self.now.signals.now) = omega (arith, lookup.3.0, c.boards.ensures.firsts_long) in
      IfSome_then c.place_of.result c.place_of.ensures
      (λ place found. (subst (λ (ts : List RivalTable). place < length ts) c.deref.ensures.value found.0, within));
  same = let g = rules_of c.args.self.now.signals.now in
      let signal = c.args.signal in
      let boards = c.boards.ensures in
      let lookup = c.in_ok-first.ensures.lookup in
      let within : signal < last_count g = omega (arith, lookup.3.0, boards.firsts_long) in
      let same : shows_same g signal c.in_ok-first.first.now ≡ true =
      subst (λ (n : ℕ). shows_same g signal n ≡ true) (sym (lookup.3.1 0)) (boards.first_same signal within) in
      IfSome_then c.place_of.result c.place_of.ensures (λ place found d. subst (λ (n : ℕ). shows_same g signal n ≡ true)
      (sym (ap (λ (ts : List RivalTable). (get_or ts place d).first) (sym c.deref.ensures.value) ∙ found.1 d)) same);
}
