use Rattle.std.proofs.Common.{◌≡◌, ◌+◌, ◌*◌, ◌<◌, ◌≤◌, ℕ, List, [], All, length, map, take, take_all, get_or, sym, ap, ◌∙◌, subst, arith}
use Rattle.std.proofs.{lemmas.List.{length-map, length-take-le}, lemmas.Slice.{between_from_start}}
use Rattle.std.specs.List.{between}
use Rattle.gs_card.specs.Decks.{DeckValue, IsDeck, kinds}
use Rattle.gs_game.specs.{Games.{round_rules}, declared.game.Game.{Game as Described}}
use Rattle.gs_model.specs.{Cards.{ways, left_after}, Deals.{own_ways}, Game.{Game, Round, round_count}}
use Rattle.gs_model.specs.Signals.{Seen, Signal, signal_at, signals, left_by, own_cards}
use Rattle.gs_tree.specs.Trees.{rules_of}
use Rattle.gs_tree.proofs.{Beside.{left_by_cards, own_ways-one}, Grown.{nothing_seen}, Hands.{dealt}, Paths.{power_fits}, Taken.{taken_none}}
use Rattle.gs_tree.proofs.Rows.{IsTurn, has_rounds, part_in, parts_length, power_more, turn}
use Rattle.gs_tree.proofs.signals.Signals.own_ways.Goals.{After-deref-round-items, After-from, After-own-own}
use Rattle.gs_tree.proofs.signals.Signals.own_ways.Goals as goal

-- the rounds of the loop are the game's
all_rounds : (c : After-deref-round-items) → (rules_of c.args.self.now).rounds ≡ map round_rules c.deref-round-items.result.now
all_rounds c = sym (ap (map round_rules) (c.deref-round-items.ensures.value ∙ ap (λ (x : Described). x.rounds.items) c.game.ensures))

-- what one turn reads
read_turn : (c : After-from) → (rules_of c.args.self.now).rounds ≡ map round_rules c.deref-round-items.result.now
    → IsTurn (rules_of c.args.self.now) (left_by (rules_of c.args.self.now).copies
    (signal_at (rules_of c.args.self.now) (round_count (rules_of c.args.self.now)) c.args.one))
    (signal_at (rules_of c.args.self.now) (round_count (rules_of c.args.self.now)) c.args.two) c.loop-round.round-index c.loop-round.start
    (c.loop-round.start + c.from.result) c.own-own.result.now
read_turn c all =
    let s = c.args.self.now in
    let g : Game = rules_of s in
    let left : List ℕ = left_by g.copies (signal_at g (round_count g) c.args.one) in
    turn g left c.deref-round-items.result.now c.args.two c.loop-round.round-index c.round-item.result c.loop-round.start
    (c.loop-round.start + c.from.result) c.own-own.result.now s.game.now.dealable all c.requires.two_in c.own-own.ensures c.loop-round-test.true c.round-item.is
    c.loop-round.invariant.start
    (ap (λ w. c.loop-round.start + w) c.from.ensures)

-- the copies that `one` leaves
copies_left : (c : After-own-own) → left_after (left_after c.deck-deck.result.now.counts c.own-held.result.now) c.public-board.result.now
    ≡ left_by (rules_of c.args.self.now).copies (signal_at (rules_of c.args.self.now) (round_count (rules_of c.args.self.now)) c.args.one)
copies_left c =
    let g : Game = rules_of c.args.self.now in
    let s : Signal = signal_at g (round_count g) c.args.one in
    ap (λ (d : DeckValue). left_after (left_after d.counts c.own-held.result.now) c.public-board.result.now) c.deck-deck.ensures
    ∙ ap (λ x. left_after (left_after g.copies x) c.public-board.result.now) c.own-held.ensures
    ∙ ap (left_after (left_after g.copies (own_cards s))) c.public-board.ensures ∙ sym (left_by_cards g.copies s)

pub ways_beside-requires-clause-deck : goal.ways_beside-requires-clause-deck
ways_beside-requires-clause-deck c = subst IsDeck (sym c.deck-deck.ensures) c.args.self.now.game.now.deck

pub ways_beside-requires-clause-own_in : goal.ways_beside-requires-clause-own_in
ways_beside-requires-clause-own_in c =
    let g : Game = rules_of c.args.self.now in
    let kinds_are : length g.copies ≡ kinds c.deck-deck.result.now = c.args.self.now.game.now.deck.counted ∙ sym (ap kinds c.deck-deck.ensures) in
    let P : ℕ → Type 0 = λ n. All (λ card. card < n) c.own-own.result.now in
    let Q : List ℕ → Type 0 = λ xs. All (λ card. card < length g.copies) xs in
    subst P kinds_are (subst Q (sym c.own-own.ensures) (dealt g (round_count g) c.args.two (omega arith) c.requires.two_in).own_in)

pub returns-then-own-eq1 : goal.returns-then-own-eq1
returns-then-own-eq1 c =
    let g : Game = rules_of c.args.self.now in
    let left : List ℕ = left_by g.copies (signal_at g (round_count g) c.args.one) in
    let t : Signal = signal_at g (round_count g) c.args.two in
    let own : List ℕ = c.own-own.result.now in
    let before : List ℕ = left_after (left_after c.deck-deck.result.now.counts c.own-held.result.now) c.public-board.result.now in
    let one : length (own_cards t) ≡ 1 = omega (arith, c.if-own-eq1.true, ap (λ (x : List ℕ). length x) c.own-own.ensures) in
    c.ways_beside.ensures.value ∙ ap (λ l. ways l own) (taken_none before ∙ copies_left (goal.at.returns-then-own-eq1 c).After-own-own)
    ∙ ap (ways left) c.own-own.ensures ∙ sym (own_ways-one left t one)

pub overflow_add-end : goal.overflow_add-end
overflow_add-end c =
    let w = goal.at.overflow_add-end c in
    let s = c.args.self.now in
    let g : Game = rules_of s in
    let h = read_turn w.After-from (all_rounds w.After-deref-round-items) in
    let ss : List Signal = signals g (round_count g) in
    let long : length s.hands.owns.items ≡ length ss * s.hands.own = ap (λ (x : List ℕ). length x) s.sound.dealt.owned
    ∙ parts_length own_cards s.hands.own ss [] s.sound.dealt.own_each in
    let room : c.args.two * s.hands.own + s.hands.own ≤ length ss * s.hands.own = part_in c.args.two (length ss) s.hands.own c.requires.two_in in
    let each : length c.own-own.result.now ≡ s.hands.own = ap (λ (x : List ℕ). length x) c.own-own.ensures ∙ s.sound.dealt.own_each c.args.two c.requires.two_in in
    omega (arith, h.step.within, each, room, long, s.hands.owns.ok.0, s.hands.owns.small)

pub slice_bounds-ways_beside-end-in-loop-round : goal.slice_bounds-ways_beside-end-in-loop-round
slice_bounds-ways_beside-end-in-loop-round c =
    let w = goal.at.slice_bounds-ways_beside-end-in-loop-round c in
    sym (length-take-le c.loop-round.start c.own-own.result.now (omega (arith, (read_turn w.After-from (all_rounds w.After-deref-round-items)).step.within)))

pub slice_bounds-ways_beside-end-in-loop-round-2 : goal.slice_bounds-ways_beside-end-in-loop-round-2
slice_bounds-ways_beside-end-in-loop-round-2 c =
    let w = goal.at.slice_bounds-ways_beside-end-in-loop-round-2 c in
    omega (arith, (read_turn w.After-from (all_rounds w.After-deref-round-items)).step.within)

pub ways_beside-ways-requires : goal.ways_beside-ways-requires
ways_beside-ways-requires c = record {
  deck = subst IsDeck (sym c.deck-deck.ensures) c.args.self.now.game.now.deck;
  own_in = let w = goal.at.ways_beside-ways-requires c in
      let kinds_are : length (rules_of c.args.self.now).copies ≡ kinds c.deck-deck.result.now = c.args.self.now.game.now.deck.counted
      ∙ sym (ap kinds c.deck-deck.ensures) in
      let P : ℕ → Type 0 = λ n. All (λ card. card < n) (between c.loop-round.start (c.loop-round.start + c.from.result) c.own-own.result.now) in
      subst P kinds_are (read_turn w.After-from (all_rounds w.After-deref-round-items)).own_in;
  own_few = let w = goal.at.ways_beside-ways-requires c in
      (read_turn w.After-from (all_rounds w.After-deref-round-items)).few;
}

pub overflow_mul-ways : goal.overflow_mul-ways
overflow_mul-ways c =
    let k : ℕ = c.loop-round.round-index in
    let all = all_rounds (goal.at.overflow_mul-ways c).After-deref-round-items in
    let power = power_more c.loop-round.ways c.ways_beside-ways.result k c.loop-round.invariant.small c.ways_beside-ways.ensures.small in
    let few : k + 1 ≤ 4 = omega (
      arith,
      c.args.self.now.game.now.limits.few_rounds,
      c.loop-round-test.true,
      ap (λ (x : List Round). length x) all,
      length-map c.deref-round-items.result.now round_rules,
    ) in
    let fits = power_fits (c.loop-round.ways * c.ways_beside-ways.result) (k + 1) few power in
    omega (arith, fits)

pub loop-round-preserved : goal.loop-round-preserved
loop-round-preserved c =
    let w = goal.at.loop-round-preserved c in
    let g : Game = rules_of c.args.self.now in
    let k : ℕ = c.loop-round.round-index in
    let left : List ℕ = left_by g.copies (signal_at g (round_count g) c.args.one) in
    let h = read_turn w.After-from (all_rounds w.After-deref-round-items) in
    let t : Signal = signal_at g (round_count g) c.args.two in
    let p : Seen = get_or t k nothing_seen in
    let copies : left_after (left_after c.deck-deck.result.now.counts c.own-held.result.now) c.public-board.result.now ≡ left =
    copies_left w.After-own-own in
    let before : take c.loop-round.start c.own-own.result.now ≡ own_cards (take k t) = sym (between_from_start c.own-own.result.now c.loop-round.start)
    ∙ h.step.before in
    let group : List ℕ = between c.loop-round.start (c.loop-round.start + c.from.result) c.own-own.result.now in
    let here : c.ways_beside-ways.result ≡ ways (left_after left (own_cards (take k t))) p.own =
    c.ways_beside-ways.ensures.value
    ∙ ap (λ x. ways (left_after x (take c.loop-round.start c.own-own.result.now)) group) copies
    ∙ ap (λ x. ways (left_after left x) group) before
    ∙ ap (ways (left_after left (own_cards (take k t)))) h.step.here in
    record {
      start = h.step.next;
      counted = ap (λ n. n * c.ways_beside-ways.result) c.loop-round.invariant.counted ∙ ap (λ n. own_ways left (take k t) * n) here ∙ sym h.step.more;
      small = power_more c.loop-round.ways c.ways_beside-ways.result k c.loop-round.invariant.small c.ways_beside-ways.ensures.small;
    }

pub returns : goal.returns
returns c =
    let g : Game = rules_of c.args.self.now in
    let t : Signal = signal_at g (round_count g) c.args.two in
    let all = all_rounds (goal.at.returns c).After-deref-round-items in
    let h = has_rounds g (round_count g) c.args.two c.requires.two_in in
    let over : length t ≤ c.loop-round.round-index = omega
    (arith, h.long, c.loop-round-test.false, ap (λ (x : List Round). length x) all, length-map c.deref-round-items.result.now round_rules) in
    c.loop-round.invariant.counted ∙ ap (own_ways (left_by g.copies (signal_at g (round_count g) c.args.one))) (take_all c.loop-round.round-index t over)
