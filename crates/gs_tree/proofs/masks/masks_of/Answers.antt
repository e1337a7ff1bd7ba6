use Rattle.std.proofs.Common.{◌≡◌, ◌<◌, ◌+◌, ◌*◌, ◌≤◌, ◌==◌, ◌∙◌, ℕ, List, All, ap, arith, count_by, drop, get_or, length, min, subst, sym, take}
use Rattle.std.proofs.{lemmas.Grind.{common_steps}, lemmas.List.{length_push}}
use Rattle.std.specs.Int.{bit_at}
use Rattle.gs_game.specs.Games.{game_of}
use Rattle.gs_model.specs.{Game.{Game, round_count}, Signals.{own_cards, signal_at, signals}}
use Rattle.gs_tree.proofs.{Hands.{dealt}, Linked.{old_read}, Parts.{own_part, own_room, paths_long}, masks.masks_of.Goals.{After-deref, After-part}}
use Rattle.gs_tree.proofs.masks.masks_of.Goals as goal

-- the signal is one of the last round
here : (c : After-deref) → c.loop-signal.signal < length (signals (game_of c.args.valid.now.game) (round_count (game_of c.args.valid.now.game)))
here c =
    let g : Game = game_of c.args.valid.now.game in
    let h = c.args.hands.now in
    omega (
      arith,
      paths_long g (round_count g) h.paths h.owns.items h.publics.items h.own h.public c.requires.hands,
      c.len-count.ensures,
      c.loop-signal-test.true,
    )

-- the part is its own cards
own : (c : After-part) → c.part.result.now ≡ own_cards (signal_at (game_of c.args.valid.now.game) (round_count (game_of c.args.valid.now.game))
    c.loop-signal.signal)
own c =
    let g : Game = game_of c.args.valid.now.game in
    let h = c.args.hands.now in
    c.part.ensures ∙ ap (λ (x : List ℕ). take h.own (drop (c.loop-signal.signal * h.own) x)) c.deref.ensures.value
    ∙ own_part g (round_count g) h.paths h.owns.items h.publics.items h.own h.public c.requires.hands c.loop-signal.signal
    (here (goal.at.mask_of-requires c).After-deref)

pub part-requires : goal.part-requires
part-requires c =
    let g : Game = game_of c.args.valid.now.game in
    let h = c.args.hands.now in
    let P : List ℕ → Type 0 = λ x. c.loop-signal.signal * h.own + h.own ≤ length x in
    subst P (sym c.deref.ensures.value) (own_room g (round_count g) h.paths h.owns.items h.publics.items h.own h.public c.requires.hands c.loop-signal.signal
    (here c))

pub mask_of-requires : goal.mask_of-requires
mask_of-requires c =
    let g : Game = game_of c.args.valid.now.game in
    let in' = (dealt g (round_count g) c.loop-signal.signal (omega arith) (here (goal.at.mask_of-requires c).After-deref)).own_in in
    let d = c.counts-copies.ensures.deck in
    let P : List ℕ → Type 0 = λ x. All (λ card. card < 64) x in
    subst P (sym (own c)) (λ k e l. omega (arith, in' k e l, d.counted, d.few))

pub loop-signal-preserved : goal.loop-signal-preserved
loop-signal-preserved c =
    let w = goal.at.loop-signal-preserved c in
    let g : Game = game_of c.args.valid.now.game in
    let Held : ℕ → ℕ → Type 0 = λ i mask. (card : ℕ)
    → bit_at mask card ≡ min (count_by (λ other. other == card) (own_cards (signal_at g (round_count g) i))) 1 in
    let Q : List ℕ → Type 0 = λ cards. (card : ℕ) → bit_at c.mask_of.result card ≡ min (count_by (λ other. other == card) cards) 1 in
    let new : Held c.loop-signal.signal c.mask_of.result = subst Q (own w.After-part) c.mask_of.ensures in
    let masks : List ℕ = c.loop-signal.masks.items in
    let items = c.in_ok-push.ensures.items in
    record {
      long = ap (λ (x : List ℕ). length x) items ∙ omega (arith, length_push masks c.mask_of.result, c.loop-signal.invariant.long);
      held = λ i card l.
          let P : List ℕ → Type 0 = λ x. bit_at (get_or x i 0) card ≡ min (count_by (λ other. other == card) (own_cards (signal_at g (round_count g) i))) 1 in
          subst P (sym items) (old_read Held masks c.loop-signal.signal c.mask_of.result c.loop-signal.invariant.long
          (λ j m k. c.loop-signal.invariant.held j k m) new i l card);
    }

pub returns : goal.returns
returns c = grind (arith, common_steps)

pub overflow_cast-count : goal.overflow_cast-count
overflow_cast-count c = grind (arith, common_steps)

pub returns-then-hands-le1 : goal.returns-then-hands-le1
returns-then-hands-le1 c = grind arith
