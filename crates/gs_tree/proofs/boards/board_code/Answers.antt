use Rattle.std.proofs.Common.{◌≡◌, ◌+◌, ◌*◌, ◌<◌, ◌≤◌, ℕ, List, All, arith, length, drop, take, refl, sym, ap, ◌∙◌, subst}
use Rattle.gs_card.specs.Decks.{DeckValue, kinds}
use Rattle.gs_game.specs.Games.{game_of}
use Rattle.gs_model.specs.{Game.{Game, round_count}, Signals.{public_cards, signal_at}}
use Rattle.gs_tree.specs.Boards.{code_behind}
use Rattle.gs_tree.proofs.{Coded.{shown_board}, Parts.{public_part, public_room}, boards.board_code.Goals.{After-part}}
use Rattle.gs_tree.proofs.boards.board_code.Goals as goal

pub part-requires : goal.part-requires
part-requires c =
    let h = c.args.hands.now in
    let P : List ℕ → Type 0 = λ x. c.args.signal * h.public + h.public ≤ length x in
    subst P (sym c.deref.ensures.value) (public_room (game_of c.args.valid.now.game) (round_count (game_of c.args.valid.now.game)) h.paths h.owns.items
    h.publics.items h.own h.public c.requires.hands c.args.signal c.requires.signal_in)

-- the part is the signal's public cards
shown : (c : After-part) → let g = game_of c.args.valid.now.game in c.part.result.now ≡ public_cards (signal_at g (round_count g) c.args.signal)
shown c =
    let g : Game = game_of c.args.valid.now.game in
    let h = c.args.hands.now in
    c.part.ensures ∙ ap (λ (x : List ℕ). take h.public (drop (c.args.signal * h.public) x)) c.deref.ensures.value
    ∙ public_part g (round_count g) h.paths h.owns.items h.publics.items h.own h.public c.requires.hands c.args.signal c.requires.signal_in

pub code-requires-clause-few_cards : goal.code-requires-clause-few_cards
code-requires-clause-few_cards c =
    omega (
      arith,
      ap (λ (x : List ℕ). length x) (shown (goal.at.code-requires-clause-few_cards c).After-part),
      c.requires.hands.public_each c.args.signal
          c.requires.signal_in,
      c.requires.few,
    )

pub code-requires-clause-of_deck : goal.code-requires-clause-of_deck
code-requires-clause-of_deck c =
    let g : Game = game_of c.args.valid.now.game in
    let d : DeckValue = c.args.valid.now.game.deck in
    let h = c.args.hands.now in
    let board = shown_board g d h.paths h.owns.items h.publics.items h.own h.public c.args.signal c.kinds.ensures.deck refl c.requires.hands
    c.requires.signal_in in
    let P : ℕ → Type 0 = λ n. All (λ card. card < n) (public_cards (signal_at g (round_count g) c.args.signal)) in
    let Q : List ℕ → Type 0 = λ x. All (λ card. card < c.from-kinds.result) x in
    subst Q (sym (shown (goal.at.code-requires-clause-of_deck c).After-part)) (subst P (sym (c.from-kinds.ensures ∙ c.kinds.ensures.number)) board.of_deck)

pub returns : goal.returns
returns c =
    c.code.ensures
    ∙ ap (λ k. code_behind k 0 c.part.result.now) (c.from-kinds.ensures ∙ c.kinds.ensures.number)
    ∙ ap (code_behind (kinds c.args.valid.now.game.deck) 0) (shown (goal.at.returns c).After-part)
