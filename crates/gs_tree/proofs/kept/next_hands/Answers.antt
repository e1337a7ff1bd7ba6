use Rattle.std.proofs.{lemmas.Grind.{common_steps}, Common.{◌≡◌, ◌≤◌, ℕ, List, [], suc, length, take, ap, subst, ◌∙◌, arith}, lemmas.List.{length-map}}
use Rattle.std.specs.Prelude.{max}
use Rattle.gs_model.specs.{Deals.{path_weight}, Game.{Game}, Signals.{Signal, own_cards, public_cards, signals}}
use Rattle.gs_game.specs.{Games.{game_of}, Refusals.{own_card_total as own_count, public_card_total as public_count}}
use Rattle.gs_tree.proofs.{Hands.{dealt}, Rows.{part_long}}
use Rattle.gs_tree.proofs.kept.next_hands.Goals as goal

pub returns : goal.returns
returns c =
    let g : Game = game_of c.args.valid.now.game in
    let n : ℕ = suc c.args.round in
    let ss : List Signal = signals g n in
    let count : length c.in_ok-paths.paths ≡ length ss = ap (λ (x : List ℕ). length x) c.in_ok-paths.ensures ∙ length-map ss (path_weight g.copies) in
    let many : c.len.result ≡ length ss = c.len.ensures ∙ count in
    let each : c.max-each.result ≡ max (length ss) 1 = c.max-each.ensures ∙ ap (λ k. max k 1) many in
    let within : n ≤ length g.rounds = subst (λ (k : ℕ). n ≤ k) c.requires.all c.requires.round_in in
    record {
      weighed = c.in_ok-paths.ensures;
      owned = c.in_ok-owns.ensures;
      shown = c.in_ok-publics.ensures;
      own_each = part_long own_cards (own_count (take n g.rounds)) ss [] c.len-2.result c.max-each.result (λ i l. (dealt g n i within l).own_n)
          (c.len-2.ensures ∙ c.in_ok-owns.owns.ok.0 ∙ ap (λ (x : List ℕ). length x) c.in_ok-owns.ensures) each;
      public_each = part_long public_cards (public_count (take n g.rounds)) ss [] c.len-3.result c.max-each.result (λ i l. (dealt g n i within l).public_n)
          (c.len-3.ensures ∙ c.in_ok-publics.publics.ok.0 ∙ ap (λ (x : List ℕ). length x) c.in_ok-publics.ensures) each;
    }

pub next_cards-requires-2 : goal.next_cards-requires-2
next_cards-requires-2 c = record {
  tables = c.requires.tables;
  all = c.requires.all;
  round_in = c.requires.round_in;
  before = c.deref-2.ensures.value ∙ c.requires.before.shown;
  each = grind (arith, common_steps);
}

pub next_cards-requires : goal.next_cards-requires
next_cards-requires c = record {
  tables = c.requires.tables;
  all = c.requires.all;
  round_in = c.requires.round_in;
  before = c.deref.ensures.value ∙ c.requires.before.owned;
  each = grind (arith, common_steps);
}

pub nonzero_div-own : goal.nonzero_div-own
nonzero_div-own c = omega arith

pub same-paths : goal.same-paths
same-paths c = grind arith

pub nonzero_div-public : goal.nonzero_div-public
nonzero_div-public c = omega arith
