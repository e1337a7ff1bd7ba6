use Rattle.std.proofs.Common.{◌≡◌, ◌<◌, ◌^◌, ℤ, pos, ◌*ℤ◌, unsigned_abs, refl, sym, ap, subst, ◌∙◌, rules}
use Prim.Native.Nat.{◌∣◌}
use Rattle.gs_simplex.proofs.{Fits.{kept_64, narrow_passed}, Guesses.{quotient_narrow}}
use Rattle.gs_simplex.proofs.row.guessed_quotient.Goals as goal

pub narrow_quotient-requires : goal.narrow_quotient-requires
narrow_quotient-requires c =
    let m = c.requires.multiple in let P : ℤ → Type 0 = λ t. c.args.by ∣ unsigned_abs t in
    record {
      some = m.some;
      small = m.small;
      narrow = narrow_passed c.args.number m.narrow;
      divides = subst P (sym (kept_64 c.args.number m.narrow)) m.divides;
    }

pub returns-in-Some : goal.returns-in-Some
returns-in-Some c =
    let z = c.args.number in let q = c.in-Some.quotient in let d = c.args.divisor.now.number in let m = c.requires.multiple in
    let e : z ≡ d *ℤ q = sym (kept_64 z m.narrow) ∙ c.in-Some.ensures q refl in
    let n : unsigned_abs q < 2 ^ 62 = quotient_narrow c.args.by z d q c.requires.same m.some m.narrow e in
    record { value = e ∙ ap (λ t. t *ℤ q) c.requires.same ∙ ap (λ t. pos c.args.by *ℤ t) (sym (kept_64 q n)); narrow = narrow_passed q n }

pub returns-in-None : goal.returns-in-None
returns-in-None c = record { value = search rules; narrow = search rules }

pub returns-then-number-eq0 : goal.returns-then-number-eq0
returns-then-number-eq0 c = record { value = search rules; narrow = search rules }
