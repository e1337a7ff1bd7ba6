use Rattle.std.proofs.Common.{◌≡◌, ◌+◌, ◌-◌, ◌<◌, ◌++◌, ◌∷◌, [], ℕ, suc, List, length, length-append, map, get_or, sym, ap, ◌∙◌, subst, arith}
use Rattle.std.proofs.lemmas.List.{get_or-map, length-map}
use Rattle.std.proofs.lemmas.Grind.{common_steps}
use Rattle.std.specs.Global.{Vec}
use Rattle.gs_model.specs.{Betting.{even}, Game.{Game, Round as Rules}, Signals.{signals, parents}}
use Rattle.gs_model.proofs.Ranges.{length-parents}
use Rattle.gs_game.specs.{Games.{game_of, round_rules}, declared.game.Round.{Round}}
use Rattle.gs_tree.specs.{Tables.{AreTables, IsLayer}, declared.layer.Layer.{Layer}}
use Rattle.gs_tree.proofs.Lookups.{tables_push, small_round}
use Rattle.gs_tree.proofs.tables.Tables.of.Goals as goal

counting : (m n : ℕ) → m ≡ n → suc m ≡ n + 1
counting m n e = omega arith

pub overflow_cast-count : goal.overflow_cast-count
overflow_cast-count c =
    let g : Game = game_of c.args.valid.now.game in
    let m : ℕ = length c.loop-next.tables.layers.items in
    let n : m ≡ c.loop-next.next-index = c.loop-next.invariant.rounds in
    let few = c.args.valid.now.limits.signals_in (suc m) (omega
    (arith, n, ap (λ (x : List Round). length x) c.deref-next-items.ensures.value, length-map c.args.valid.now.game.rounds.items round_rules)) in
    let owned : c.in_ok-parents.field-0.parents.items ≡ parents g (suc m) = c.in_ok-parents.ensures.parents in
    omega (arith, few, ap (λ (x : List ℕ). length x) owned, length-parents g (suc m), c.len-count.ensures, c.in_ok-parents.field-0.parents.ok.0)

pub loop-next-preserved : goal.loop-next-preserved
loop-next-preserved c =
    let g : Game = game_of c.args.valid.now.game in
    let m : ℕ = length c.loop-next.tables.layers.items in
    let ls : List Layer = c.loop-next.tables.layers.items in
    let row : Vec ℕ = c.in_ok-parents.field-0.parents in
    let layer : Layer = c.in_ok-parents.field-0.layer in
    let owned : c.in_ok-parents.field-0.parents.items ≡ parents g (suc (length ls)) = c.in_ok-parents.ensures.parents in
    let listed : IsLayer g (length ls) layer = c.in_ok-parents.ensures.layer in
    let more = tables_push g c.loop-next.tables.parents.items ls row layer c.loop-next.invariant.tables owned listed in
    let R : List (Vec ℕ) → Type 0 = λ ps. AreTables g ps (ls ++ layer ∷ []) in
    let S : List Layer → Type 0 = λ x. AreTables g c.push.new.self.items x in
    let counted : c.len-count.result ≡ length (signals g (c.loop-next.next-index + 1)) =
    c.len-count.ensures ∙ c.in_ok-parents.field-0.parents.ok.0 ∙ ap (λ (x : List ℕ). length x) owned ∙ length-parents g (suc (length ls))
    ∙ ap (λ k. length (signals g k)) (counting (length ls) c.loop-next.next-index c.loop-next.invariant.rounds) in
    record {
      tables = subst S (sym c.in_ok-push-2.ensures.items) (subst R (sym c.in_ok-push.ensures.items) more);
      rounds = ap (λ (x : List Layer). length x) c.in_ok-push-2.ensures.items ∙ length-append ls (layer ∷ []) ∙ ap (λ k. k + 1) c.loop-next.invariant.rounds;
      counted = counted;
    }

pub returns : goal.returns
returns c = grind (arith, common_steps)

pub grow-requires : goal.grow-requires
grow-requires c = record {
  tables = grind arith;
  next = let s = small_round c.args.valid.now.game.rounds.items c.loop-next.next-index c.next-item.result c.args.valid.now.dealable.small
      (omega (arith, ap (λ (x : List Round). length x) c.deref-next-items.ensures.value))
      (c.next-item.is ∙ ap (λ (x : List Round). get_or x c.loop-next.next-index c.next-item.result) c.deref-next-items.ensures.value) in
      record {
        counted = c.loop-next.invariant.counted ∙ ap (λ k. length (signals (game_of c.args.valid.now.game) k)) (sym c.loop-next.invariant.rounds);
        ruled = let i : ℕ = c.loop-next.next-index in
            let next : Round = c.next-item.result in
            let rounds : List Round = c.args.valid.now.game.rounds.items in
            let none : Rules = record { private = 0; public = 0; tree = even } in
            let here : i < length rounds = omega (arith, ap (λ (x : List Round). length x) c.deref-next-items.ensures.value) in
            let at : i ≡ suc (length c.loop-next.tables.layers.items) - 1 = omega (arith, c.loop-next.invariant.rounds) in
            ap round_rules (c.next-item.is ∙ ap (λ (x : List Round). get_or x i next) c.deref-next-items.ensures.value)
            ∙ sym (get_or-map round_rules rounds i next none here) ∙ ap (λ k. get_or (map round_rules rounds) k none) at;
        few = let n : length c.loop-next.tables.layers.items ≡ c.loop-next.next-index = c.loop-next.invariant.rounds in
            c.args.valid.now.limits.signals_in (suc (length c.loop-next.tables.layers.items))
            (omega (arith, n, ap (λ (x : List Round). length x) c.deref-next-items.ensures.value, length-map c.args.valid.now.game.rounds.items round_rules));
        private = omega (arith, s.0);
        public = s.1;
      };
}
