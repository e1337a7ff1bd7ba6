-- An aspect of a round with its keys, and what was asked for.
use Rattle.std.proofs.Common.{◌≡◌, ◌∙◌, ℕ, ap, length, subst}
use Rattle.gs_filter.specs.Filter.{Filter}
use Rattle.gs_model.specs.Game.{round_count}
use Rattle.gs_tree.specs.{Trees.{rules_of}, Walk.{last_count}, declared.signals.Signals.{Signals}}
use Rattle.gs_lossless.specs.{Amounts.{key_count}, declared.aspect_keys.AspectKeys.{AspectKeys}, declared.aspects.Aspect.{Aspect}}
use Rattle.gs_lossless.proofs.{Alike.{last_keys}, Descent.{keys_long, playable}}

-- what holds of an aspect holds of the one that was asked for
pub as_asked : (P : Signals → Filter → Aspect → ℕ → Type 0) {s t : Signals} {k l : Filter} {a b : Aspect} {m n : ℕ} → s ≡ t → k ≡ l → (a ≡ b) × (m ≡ n)
    → P s k a m → P t l b n
as_asked P {s} {t} {k} {l} {a} {b} {m} {n} e f g h =
    subst (P t l b) g.1 (subst (λ x. P t l x m) g.0 (subst (λ x. P t x a m) f (subst (λ x. P x k a m) e h)))

-- there are as many keys as the aspect counts
pub many : (at : AspectKeys) → length at.keys.items ≡ key_count (rules_of at.signals.now) at.aspect at.round
many at = ap length at.are ∙ keys_long (rules_of at.signals.now) at.classes.now at.parents (playable at.signals.now) at.aspect at.round at.has

pub many_last : (at : AspectKeys) → at.round ≡ round_count (rules_of at.signals.now) → length at.keys.items ≡ last_count (rules_of at.signals.now)
many_last at last = last_keys (rules_of at.signals.now) at.aspect at.round (length at.keys.items) at.has last (many at)
