use Rattle.std.proofs.{Common.{◌≡◌, ◌<◌, ℕ, Some, length, sym, ap, ◌∙◌, ⊎_elim, arith}, lemmas.Bool.{cases_lt, false≢true}}
use Rattle.gs_model.specs.{Game.{Game}, Signals.{signal_at, signals}}
use Rattle.gs_tree.specs.{Texts.{signal_text}, Trees.{deck_of, rules_of}}
use Rattle.gs_tree.proofs.Named.{text_once}
use Rattle.gs_tree.proofs.signals.Signals.index_of.Goals as goal

pub loop-signal-preserved : goal.loop-signal-preserved
loop-signal-preserved c =
    let g : Game = rules_of c.args.self.now in
    let d = deck_of c.args.self.now in
    let n : ℕ = c.loop-signal.signal in
    let read : signal_text d (signal_at g c.from.result n) ≡ signal_text d (signal_at g c.args.round n) =
    ap (λ k. signal_text d (signal_at g k n)) c.from.ensures in
    λ k below e. ⊎_elim
    (λ before. c.loop-signal.invariant k before e)
    (λ from.
    let at : k ≡ n = omega arith in
    false≢true (sym c.if-is_text_of.false ∙ c.is_text_of.ensures.1 (c.as_bytes-bytes.ensures.value ∙ e
    ∙ ap (λ i. signal_text d (signal_at g c.args.round i)) at ∙ sym read)))
    (cases_lt k n)

pub is_text_of-requires-clause-signal_in : goal.is_text_of-requires-clause-signal_in
is_text_of-requires-clause-signal_in c =
    let same : length (signals (rules_of c.args.self.now) c.from.result) ≡ length (signals (rules_of c.args.self.now) c.args.round) =
    ap (λ k. length (signals (rules_of c.args.self.now) k)) c.from.ensures in
    omega (arith, same, c.count-signal-end.ensures.value, c.loop-signal-test.true)

pub returns-clause-only : goal.returns-clause-only
returns-clause-only c = grind arith

pub returns-then-is_text_of : goal.returns-then-is_text_of
returns-then-is_text_of c = record {
  found = grind arith;
  only = let g : Game = rules_of c.args.self.now in
      let d = deck_of c.args.self.now in
      let n : ℕ = c.loop-signal.signal in
      let here : c.args.text.now ≡ signal_text d (signal_at g c.args.round n) =
      sym c.as_bytes-bytes.ensures.value ∙ c.is_text_of.ensures.0 c.if-is_text_of.true
      ∙ ap (λ k. signal_text d (signal_at g k n)) c.from.ensures in
      let within : n < length (signals g c.args.round) = omega (arith, c.loop-signal-test.true, c.count-signal-end.ensures.value) in
      let deck = c.args.self.now.game.now.deck in
      λ i l e. ap Some (text_once g d c.args.round n i deck deck.counted within l (sym here ∙ e));
}

pub is_text_of-requires-clause-tables : goal.is_text_of-requires-clause-tables
is_text_of-requires-clause-tables c = grind arith
