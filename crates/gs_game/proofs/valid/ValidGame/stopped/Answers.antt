use Rattle.std.proofs.Common.{length, refl, ◌≡◌, ◌<◌, ◌≤◌, ◌++◌, ◌∷◌, ℕ, [], List, length-take, map, take, ap, sym, ◌∙◌, subst, arith, rules}
use Rattle.std.proofs.{lemmas.Grind.{common_steps}, lemmas.List.{get_or-take, take-map}, lemmas.List.Elements.{All-from_recursion, recursion_from_All}}
use Rattle.std.specs.{Prelude.{All, IfOk, IfSome, MatchOption, Option, Result, None, ◌≢◌}, declared.alloc.AllocError.{AllocError}, List.{AllByRecursion}}
use Rattle.gs_card.specs.Decks.{DeckValue}
use Rattle.gs_model.specs.{Game.{Game as Rules, Round as RoundRules, High}, Outcome.{IsBonus}}
use Rattle.gs_game.specs.{FaultOf.{IsErrorOf}, Games.{HasFewCards, game_of, round_rules}, GoingOn.{StopsAfter, stopped_game, unbet}, Refusals.{Refusal, first_refusal}}
use Rattle.gs_game.specs.{Sequences.{seen_sizes}, declared.faults.GameError.{GameError}, declared.game.Game.{Game}, declared.game.Round.{Round}}
use Rattle.gs_game.specs.declared.valid.ValidGame.{ValidGame}
use Rattle.gs_game.specs.declared.faults.GameError.TheVariants as errors
use Rattle.gs_game.proofs.valid.ValidGame.stopped.Goals as goal
use Rattle.gs_game.proofs.valid.ValidGame.stopped.Goals.{in-Memory, in_default}

few_each : (rs : List Round) → AllByRecursion (λ (r : RoundRules). (r.private ≤ 2) × (r.public ≤ 3)) (map round_rules rs) → AllByRecursion HasFewCards rs
few_each [] h = tt
few_each (r ∷ rs) h = (record { private = h.0.0; public = h.0.1 }, few_each rs h.1)

few_first : (rs : List Round) (n : ℕ) → All (λ (r : RoundRules). (r.private ≤ 2) × (r.public ≤ 3)) (map round_rules rs) → All HasFewCards (take n rs)
few_first rs n h =
    let each = All-from_recursion HasFewCards rs (few_each rs
    (recursion_from_All (λ (r : RoundRules). (r.private ≤ 2) × (r.public ≤ 3)) (map round_rules rs) h)) in
    λ k d l. let m = length-take n rs in subst HasFewCards (sym (get_or-take n rs k d (omega (arith, l, m)))) (each k d (omega (arith, l, m)))

-- an error that is not want of memory is a refusal
refused : (r : Option Refusal) (error : GameError) → error ≢ errors.Memory → IsErrorOf r error → r ≢ None
refused r errors.Memory apart answers none = apart refl
refused r (errors.Fault why) apart answers none = cc

-- the game of a copied deck and of such rounds is the stopped game
made_so : (g : Rules) (round : ℕ) (d e : DeckValue) (bonus : List ℕ) (rs : List RoundRules) → e ≡ d → bonus ≡ 1 ∷ [] → g.suits ≡ length d.suits
    → g.copies ≡ d.counts
    → rs ≡ map (λ (r : RoundRules). unbet r.private r.public) (take round g.rounds) ++ unbet 0 0 ∷ []
    → (let made : Rules = record { suits = length e.suits; copies = e.counts; ranking = High; bonus = bonus; ante = 1; rounds = rs } in made) ≡
    stopped_game g round
made_so g round d e bonus rs same one suits copies rounds =
    let of = λ (s : ℕ) (cs bonus : List ℕ) (rs : List RoundRules). let made : Rules =
    record { suits = s; copies = cs; ranking = High; bonus = bonus; ante = 1; rounds = rs } in made in
    ap (λ (x : DeckValue). of (length x.suits) x.counts bonus rs) same
    ∙ ap (λ (b : List ℕ). of (length d.suits) d.counts b rs) one
    ∙ ap (λ (s : ℕ). of s d.counts (1 ∷ []) rs) (sym suits)
    ∙ ap (λ (cs : List ℕ). of g.suits cs (1 ∷ []) rs) (sym copies)
    ∙ ap (λ (rs : List RoundRules). of g.suits g.copies (1 ∷ []) rs) rounds

-- one hand in each category, which wins the put once
one_bonus : IsBonus High (1 ∷ [])
one_bonus = record { each = refl; in_range = All-from_recursion (λ (n : ℕ). (0 < n) × (n ≤ 9)) (1 ∷ []) ((omega arith, omega arith), tt) }

-- what a game's first rounds are turned into, from what was read of the game
stopped_so : (game read : Game) (round n : ℕ) (now stopped : List Round) (deck : DeckValue) (bonus : List ℕ) → read ≡ game → now ≡ read.rounds.items → n ≡ round
    → map round_rules stopped ≡ map (λ (r : RoundRules). unbet r.private r.public) (map round_rules (take n now)) ++ unbet 0 0 ∷ [] → deck ≡ read.deck
    → bonus ≡ 1 ∷ []
    → (let made : Rules = record {
      suits = length deck.suits;
      copies = deck.counts;
      ranking = High;
      bonus = bonus;
      ante = 1;
      rounds = map round_rules stopped;
    } in made) ≡ stopped_game (game_of game) round
stopped_so game read round n now stopped deck bonus same rounds count made copied one =
    let unbets = λ (rs : List RoundRules). map (λ (r : RoundRules). unbet r.private r.public) rs ++ unbet 0 0 ∷ [] in
    let first : take n now ≡ take round game.rounds.items =
    ap (λ (k : ℕ). take k now) count ∙ ap (λ (rs : List Round). take round rs) (rounds ∙ ap (λ (g : Game). g.rounds.items) same) in
    made_so (game_of game) round game.deck deck bonus (map round_rules stopped) (copied ∙ ap (λ (g : Game). g.deck) same) one refl refl
    (made ∙ ap (λ (rs : List Round). unbets (map round_rules rs)) first ∙ ap unbets (sym (take-map round_rules round game.rounds.items)))

pub stopped_rounds-requires : goal.stopped_rounds-requires
stopped_rounds-requires c =
    subst (λ (n : ℕ). All HasFewCards (take n c.deref.result.now)) (sym c.from.ensures)
    (subst (λ (rs : List Round). All HasFewCards (take c.args.round rs)) (sym (c.deref.ensures.value ∙ ap (λ (g : Game). g.rounds.items) c.game-game.ensures))
    (few_first c.args.self.now.game.rounds.items c.args.round c.args.self.now.dealable.small))

pub returns-in-Ok : goal.returns-in-Ok
returns-in-Ok c =
    let same = c.in-Ok.ensures.accepted.1 in
    let rounds = c.args.self.now.game.rounds.items in
    let read : take c.from.result c.deref.result.now ≡ take c.args.round rounds =
    ap (λ (n : ℕ). take n c.deref.result.now) c.from.ensures
    ∙ ap (λ (rs : List Round). take c.args.round rs) (c.deref.ensures.value ∙ ap (λ (g : Game). g.rounds.items) c.game-game.ensures) in
    record {
      stops = record {
        copies = ap (λ (g : Game). g.deck.counts) same ∙ ap (λ d. d.counts) c.in_ok-copy.ensures ∙ ap (λ (g : Game). g.deck.counts) c.game-game.ensures;
        sizes = ap (λ (g : Game). seen_sizes (map round_rules g.rounds.items)) same ∙ c.in_ok-rounds.ensures.sizes
            ∙ ap (λ (rs : List Round). seen_sizes (map round_rules rs) ++ 0 ∷ 0 ∷ []) read
            ∙ ap (λ (rs : List RoundRules). seen_sizes rs ++ 0 ∷ 0 ∷ []) (sym (take-map round_rules c.args.round rounds));
      };
      whenever = ap game_of same
          ∙ stopped_so c.args.self.now.game c.game-game.result.now c.args.round c.from.result c.deref.result.now c.in_ok-rounds.rounds.items
          c.in_ok-copy.field-0 c.in_ok-vec.field-0.items
          c.game-game.ensures c.deref.ensures.value c.from.ensures c.in_ok-rounds.ensures.rounds c.in_ok-copy.ensures
          (c.in_ok-vec.ensures.items_if_clones_equal (λ y k. search rules));
    }

pub returns-after-fault-clause-whenever : goal.returns-after-fault-clause-whenever
returns-after-fault-clause-whenever c =
    let game = c.args.self.now.game in
    let P : Result (Option ValidGame) AllocError → Type 0 = λ r. IfOk r
    (λ o. MatchOption o (first_refusal (stopped_game (game_of game) c.args.round) ≢ None)
    (λ v. game_of v.game ≡ stopped_game (game_of game) c.args.round)) in
    let made =
    stopped_so game c.game-game.result.now c.args.round c.from.result c.deref.result.now c.in_ok-rounds.rounds.items c.in_ok-copy.field-0
    c.in_ok-vec.field-0.items
    c.game-game.ensures c.deref.ensures.value c.from.ensures c.in_ok-rounds.ensures.rounds c.in_ok-copy.ensures
    (c.in_ok-vec.ensures.items_if_clones_equal (λ y k. search rules)) in
    elim c.match-fault.branch [
      | in-Memory w ↦ subst P (sym w.result-is) tt
      | in_default w ↦
          subst P (sym w.result-is)
          (refused (first_refusal (stopped_game (game_of game) c.args.round)) c.in-Err.fault w.in_default.not-Memory
          (subst (λ (g : Rules). IsErrorOf (first_refusal g) c.in-Err.fault) made c.in-Err.ensures.refused))
    ]

pub returns-after-fault-clause-stops : goal.returns-after-fault-clause-stops
returns-after-fault-clause-stops c =
    let P : Result (Option ValidGame) AllocError → Type 0 = λ r. IfOk r (λ o. IfSome o
    (λ v. StopsAfter (game_of c.args.self.now.game) c.args.round (game_of v.game))) in
    elim c.match-fault.branch [ in-Memory w ↦ subst P (sym w.result-is) tt | in_default w ↦ subst P (sym w.result-is) tt ]

pub slice_bounds-stopped_rounds-end : goal.slice_bounds-stopped_rounds-end
slice_bounds-stopped_rounds-end c = grind (arith, common_steps)

pub check-requires-clause-bonus : goal.check-requires-clause-bonus
check-requires-clause-bonus c = subst (IsBonus High) (sym (c.in_ok-vec.ensures.items_if_clones_equal (λ y k. search rules))) one_bonus

pub check-requires-clause-cards : goal.check-requires-clause-cards
check-requires-clause-cards c = grind (arith, common_steps)

pub same-stopped : goal.same-stopped
same-stopped c = grind arith
