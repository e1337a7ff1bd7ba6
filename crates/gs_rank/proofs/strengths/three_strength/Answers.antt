use Rattle.std.proofs.Common.{◌≡◌, ◌+◌, ◌-◌, ◌∙◌, ℕ, Bool, true, false, max, min, refl, sym, ap}
use Rattle.std.proofs.lemmas.Bool.{eq-eqb, ne_eqb}
use Rattle.std.specs.Prelude.{◌==◌, ◌&&◌, length}
use Rattle.gs_model.specs.Outcome.{rank_of, suit_of, three_ranks, three_strength}
use Rattle.gs_rank.proofs.strengths.three_strength.Goals as goal
use Rattle.gs_rank.proofs.strengths.three_strength.Goals.{then-suit, else-suit}

-- the strength from what was read of three cards
strength_is : (suits a b c x y z high low : ℕ) (flush : Bool) → x ≡ rank_of suits a → y ≡ rank_of suits b → z ≡ rank_of suits c → high ≡ max x (max y z)
    → low ≡ min x (min y z) → flush ≡ ((suit_of suits a == suit_of suits b) && (suit_of suits b == suit_of suits c))
    → three_ranks high (x + y + z - high - low) low flush ≡ three_strength suits a b c
strength_is suits a b c x y z high low flush p q r top bottom same = rw (same, top, bottom, p, q, r) refl

pub returns-clause-value : goal.returns-clause-value
returns-clause-value c =
    let suits : ℕ = length c.args.ranker.now.deck.now.suits in
    let a : ℕ = suit_of suits c.args.a in
    let b : ℕ = suit_of suits c.args.b in
    let d : ℕ = suit_of suits c.args.c in
    let flush : c.if-suit.flush ≡ ((a == b) && (b == d)) = elim c.if-suit.branch [
      | then-suit w ↦
          let alike : (a == b) ≡ true = eq-eqb a b (sym c.suit.ensures ∙ w.if-suit.true ∙ c.suit-2.ensures) in
          w.flush-is ∙ ap (λ s. s == w.suit-then-suit-2.result) w.suit-then-suit.ensures ∙ ap (λ s. b == s) w.suit-then-suit-2.ensures
          ∙ ap (λ t. t && (b == d)) (sym alike)
      | else-suit w ↦
          let apart : (a == b) ≡ false = ne_eqb a b (λ (e : a ≡ b). w.if-suit.false (c.suit.ensures ∙ e ∙ sym c.suit-2.ensures)) in
          w.flush-is ∙ ne_eqb c.suit.result c.suit-2.result w.if-suit.false ∙ ap (λ t. t && (b == d)) (sym apart)
    ] in
    c.three_ranks.ensures.value
    ∙ strength_is suits c.args.a c.args.b c.args.c c.from-x.result c.from-y.result c.from-z.result c.max-high.result c.min-low.result c.if-suit.flush
    (c.from-x.ensures ∙ c.rank.ensures.rank) (c.from-y.ensures ∙ c.rank-2.ensures.rank) (c.from-z.ensures ∙ c.rank-3.ensures.rank)
    (c.max-high.ensures ∙ ap (max c.from-x.result) c.max.ensures) (c.min-low.ensures ∙ ap (min c.from-x.result) c.min.ensures) flush
