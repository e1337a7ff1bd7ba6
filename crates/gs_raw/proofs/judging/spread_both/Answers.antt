use Rattle.std.proofs.Common.{◌≡◌, ℕ, sym, subst}
use Rattle.gs_filter.specs.Filter.{single_classes}
use Rattle.gs_game.specs.declared.valid.ValidGame.{ValidGame}
use Rattle.gs_model.specs.Classes.{ClassLists}
use Rattle.gs_seq.specs.{Games.{frame_in}, Plans.{IsPlanOf, lifted}, declared.plan.Plan.{Plan}}
use Rattle.gs_raw.specs.Lifts.{AreSame}
use Rattle.gs_raw.proofs.Same.{turned}
use Rattle.gs_raw.proofs.judging.spread_both.Goals as goal

-- a plan of the game, seen as the plan's own player's
of_game : (g h : ValidGame) → h ≡ g → (lists : ClassLists) (p : ℕ) (x : Plan) → x.player ≡ p → IsPlanOf (frame_in g) lists p x
    → IsPlanOf (frame_in h) lists x.player x
of_game g h same lists p x own k = subst (λ (g : ValidGame). IsPlanOf (frame_in g) lists x.player x) (sym same)
    (subst (λ p. IsPlanOf (frame_in g) lists p x) (sym own) k)

-- the spread plan is the player's, and it gives what was spread
of_player : (g h : ValidGame) → h ≡ g → (p q : ℕ) → q ≡ p → (x : Plan) → IsPlanOf (frame_in h) (single_classes (frame_in h).parents) q x
    → IsPlanOf (frame_in g) (single_classes (frame_in g).parents) p x
of_player g h same p q own x k =
    subst (λ (g : ValidGame). IsPlanOf (frame_in g) (single_classes (frame_in g).parents) p x) same
    (subst (λ p. IsPlanOf (frame_in h) (single_classes (frame_in h).parents) p x) own k)

same_lift : (g h : ValidGame) → h ≡ g → (p q : ℕ) → q ≡ p → (lists : ClassLists) (given x : Plan)
    → AreSame (frame_in h) q (lifted (frame_in h) lists given) (lifted (frame_in h) (single_classes (frame_in h).parents) x)
    → AreSame (frame_in g) p (lifted (frame_in g) (single_classes (frame_in g).parents) x) (lifted (frame_in g) lists given)
same_lift g h same p q own lists given x k =
    let f = frame_in g in
    let here = subst (λ (g : ValidGame). AreSame (frame_in g) q (lifted (frame_in g) lists given)
    (lifted (frame_in g) (single_classes (frame_in g).parents) x)) same k in
    turned f p (lifted f lists given) (lifted f (single_classes f.parents) x)
    (subst (λ p. AreSame f p (lifted f lists given) (lifted f (single_classes f.parents) x)) own here)

pub spread-requires-clause-parents : goal.spread-requires-clause-parents
spread-requires-clause-parents c = let facing = c.args.facing.now in subst (λ (g : ValidGame). facing.first.now.parents ≡ (frame_in g).parents)
    (sym c.game-game.ensures) facing.first_parents

pub spread-requires-clause-plan : goal.spread-requires-clause-plan
spread-requires-clause-plan c =
    let facing = c.args.facing.now in of_game facing.signals.now.game.now c.game-game.result.now c.game-game.ensures facing.first.now.lists 1 facing.one.now
    facing.one_plan.player_is facing.one_plan

pub spread-requires-2-clause-parents : goal.spread-requires-2-clause-parents
spread-requires-2-clause-parents c = let facing = c.args.facing.now in subst (λ (g : ValidGame). facing.second.now.parents ≡ (frame_in g).parents)
    (sym c.game-game.ensures) facing.second_parents

pub spread-requires-2-clause-plan : goal.spread-requires-2-clause-plan
spread-requires-2-clause-plan c =
    let facing = c.args.facing.now in of_game facing.signals.now.game.now c.game-game.result.now c.game-game.ensures facing.second.now.lists 2 facing.two.now
    facing.two_plan.player_is facing.two_plan

pub returns : goal.returns
returns c =
    let facing = c.args.facing.now in
    let g = facing.signals.now.game.now in
    let h = c.game-game.result.now in
    let same = c.game-game.ensures in
    record {
      one = of_player g h same 1 _ facing.one_plan.player_is c.in_ok-raw_one.raw_one c.in_ok-raw_one.ensures.plan;
      two = of_player g h same 2 _ facing.two_plan.player_is c.in_ok-raw_two.raw_two c.in_ok-raw_two.ensures.plan;
      same_one = same_lift g h same 1 _ facing.one_plan.player_is facing.first.now.lists facing.one.now c.in_ok-raw_one.raw_one c.in_ok-raw_one.ensures.same;
      same_two = same_lift g h same 2 _ facing.two_plan.player_is facing.second.now.lists facing.two.now c.in_ok-raw_two.raw_two c.in_ok-raw_two.ensures.same;
    }
