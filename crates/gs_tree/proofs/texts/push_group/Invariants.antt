use Rattle.std.proofs.Common.{◌≡◌, ◌++◌, take}
use Rattle.std.specs.Prelude.{string_bytes}
use Rattle.gs_tree.specs.Texts.{group_text}
use Rattle.gs_tree.proofs.texts.push_group.Given as goal

abbrev pub invariant-loop-card : goal.invariant-loop-card
invariant-loop-card l = string_bytes l.text ≡ string_bytes l.fn.text ++ group_text l.deck (take l.card-index l.cards)
