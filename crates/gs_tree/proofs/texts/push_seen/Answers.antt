use Rattle.std.proofs.{Common.{arith, ◌<◌, ℕ, All, subst, sym}, lemmas.Grind.{common_steps}}
use Rattle.gs_card.specs.Decks.{kinds}
use Rattle.gs_tree.proofs.texts.push_seen.Goals as goal

pub push_group-requires-then-not-is_empty : goal.push_group-requires-then-not-is_empty
push_group-requires-then-not-is_empty c = grind (arith, common_steps)

pub returns-in_ok-push_group-2 : goal.returns-in_ok-push_group-2
returns-in_ok-push_group-2 c = grind (arith, common_steps)

pub push_group-requires : goal.push_group-requires
push_group-requires c = subst (All (λ (card : ℕ). card < kinds c.args.deck.now)) (sym c.cards.ensures) c.requires.own
