-- Stand-ins that become numbers, signal by signal.
use Rattle.std.proofs.Common.{◌≡◌, ℕ, ◌+◌, ◌<◌, ◌≤◌, ◌∷◌, [], ◌++◌, List, Vec, Global, length, get_or, set, take, refl, sym, ◌∙◌, subst, arith}
use Rattle.std.proofs.{lemmas.Bool.Decides.{Decides-eqb}, lemmas.List.{get_or-set_other, length-set, take_more_set}}
use Rattle.std.specs.Prelude.{nat_eq}
use Rattle.gs_lossless.specs.Alike.{AreAlike, AreStandIns}
use Rattle.gs_model.specs.Game.{Game}
use Rattle.gs_tree.specs.Walk.{last_count}
use Rattle.gs_iso.proofs.Numbered.{AreNumbered, numbered_none}
use Rattle.gs_iso.specs.Numbers.{IsLeafSignature}

-- before a signal stand numbers, by the signatures that were seen, and from it on stand-ins
pub record AreBecoming (g : Game) (keys : List ℕ) (seen : List (Vec ℕ Global)) (numbers : List ℕ) (signal : ℕ) : Type 0 where
  pub long : length numbers ≡ last_count g
  pub before : (i : ℕ) → signal ≤ i → i < last_count g → get_or numbers i 0 ≤ i
  pub alike : (i : ℕ) → signal ≤ i → i < last_count g → AreAlike g keys i (get_or numbers i 0)
  pub done : AreNumbered nat_eq Decides-eqb (IsLeafSignature g) seen (take signal numbers) signal

pub becoming_none : (g : Game) (keys : List ℕ) (seen : List (Vec ℕ Global)) (firsts : List ℕ) → AreStandIns g keys firsts → seen ≡ []
    → AreBecoming g keys seen firsts 0
becoming_none g keys seen firsts h none = record {
  long = h.long;
  before = λ i _ l. h.before i l;
  alike = λ i _ l. h.alike i l;
  done = numbered_none nat_eq Decides-eqb (IsLeafSignature g) seen (take 0 firsts) none refl;
}

-- the next signal's number is written
pub becoming_more : (g : Game) (keys : List ℕ) (seen more : List (Vec ℕ Global)) (numbers : List ℕ) (signal n : ℕ) → AreBecoming g keys seen numbers signal
    → signal < last_count g
    → (take (signal + 1) (set numbers signal n) ≡ take signal numbers ++ n ∷ []
    → AreNumbered nat_eq Decides-eqb (IsLeafSignature g) more (take (signal + 1) (set numbers signal n)) (signal + 1))
    → AreBecoming g keys more (set numbers signal n) (signal + 1)
becoming_more g keys seen more numbers signal n h l next =
    let same : (i : ℕ) → signal + 1 ≤ i → get_or numbers i 0 ≡ get_or (set numbers signal n) i 0 =
    λ i above. sym (get_or-set_other numbers signal i n 0 (omega (arith, above))) in
    record {
      long = length-set numbers signal n ∙ h.long;
      before = λ i above in'. subst (λ k. k ≤ i) (same i above) (h.before i (omega (arith, above)) in');
      alike = λ i above in'. subst (AreAlike g keys i) (same i above) (h.alike i (omega (arith, above)) in');
      done = next (take_more_set numbers signal n (omega (arith, l, h.long)));
    }
