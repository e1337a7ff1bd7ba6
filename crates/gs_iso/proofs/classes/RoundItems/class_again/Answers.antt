use Rattle.std.proofs.Common.{◌≡◌, ◌≤◌, ◌<◌, ◌∙◌, ℕ, Bool, false, true, not, true≢false, arith, refl, sym}
use Rattle.gs_iso.proofs.Exact.{child_exact}
use Rattle.gs_iso.proofs.classes.RoundItems.class_again.Goals as goal

held : (b : Bool) → not b ≡ false → b ≡ true
held true e = refl
held false e = absurd (true≢false e)

within : (item n most : ℕ) → item < n → n ≤ most → item < most
within item n most l few = omega (arith, l, few)

pub returns : goal.returns
returns c =
    let lookup = c.in_ok-class.ensures.lookup in
    record {
      item = c.args.item;
      within = lookup.3.0;
      is = sym (lookup.3.1 0);
      alike = sym c.key.ensures ∙ (child_exact c.key.result c.args.key).0 (held _ (sym c.ne.ensures ∙ c.if-ne.false));
    }

pub key-requires : goal.key-requires
key-requires c = within c.args.item _ _ c.in_ok-class.ensures.lookup.3.0 c.requires
