-- The signals that a game in sequence form holds, as they are read from it.
use Rattle.std.proofs.Common.{◌≡◌, ap, ◌∙◌}
use Rattle.gs_lossless.specs.declared.checking.Lossless.{Lossless}
use Rattle.gs_seq.specs.declared.form.Abstract.{Abstract}
use Rattle.gs_tree.specs.declared.signals.Signals.{Signals}

pub signals_held : (a : Abstract) (l : Lossless) (s : Signals) → l ≡ a.lossless.now → s ≡ l.signals.now → s ≡ a.lossless.now.signals.now
signals_held a l s e f = f ∙ ap (λ (x : Lossless). x.signals.now) e
