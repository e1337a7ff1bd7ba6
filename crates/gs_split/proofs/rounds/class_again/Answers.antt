use Rattle.std.proofs.Common.{◌≡◌, ◌∙◌, Bool, false, true, not, true≢false, refl, sym}
use Rattle.gs_split.proofs.Agreed.{key_exact}
use Rattle.gs_split.proofs.rounds.class_again.Goals as goal

held : (b : Bool) → not b ≡ false → b ≡ true
held true e = refl
held false e = absurd (true≢false e)

pub returns : goal.returns
returns c = record {
  item = c.args.item;
  within = c.if-classes-place.false;
  is = refl;
  alike = sym c.key_at.ensures ∙ (key_exact c.key_at.result c.args.key).0 (held _ (sym c.ne.ensures ∙ c.if-ne.false));
}
