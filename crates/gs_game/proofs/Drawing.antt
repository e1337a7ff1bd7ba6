-- All ways to draw a group of a size are the ways to choose so many of the copies. Source: Vandermonde's identity.
use Rattle.std.proofs.Common.{◌≡◌, ℕ, zero, suc, ◌+◌, ◌*◌, ◌<◌, refl, arith}
use Rattle.gs_model.specs.Cards.{choose}
use Rattle.gs_model.proofs.Choose.{choose-zero}

-- choosing from n, of which t more are chosen anyway, and from s others
abbrev pub mixed : ℕ → ℕ → ℕ → ℕ → ℕ
mixed n t s zero = choose n t
mixed n t s (suc size) = choose n t * choose s (suc size) + mixed n (t + 1) s size

pub mixed-none : (n t s size : ℕ) → n < t → mixed n t s size ≡ 0
mixed-none n t s zero h = choose-zero n t h
mixed-none n t s (suc size) h =
    let a = choose-zero n t h in
    let b = mixed-none n (t + 1) s size (omega arith) in
    let c : choose n t * choose s (suc size) ≡ 0 = rw a (omega arith) in
    omega (arith, b, c)

-- one thing more to choose from
mixed-more : (n t s size : ℕ) → mixed (suc n) (suc t) s size ≡ mixed n t s size + mixed n (suc t) s size
mixed-more n t s zero = refl
mixed-more n t s (suc size) =
    let r = mixed-more n (suc t) s size in
    let e : suc t + 1 ≡ suc (suc t) = omega arith in
    let f : t + 1 ≡ suc t = omega arith in
    rw (e, f) (omega (arith, r))

pub mixed-choose : (n s size : ℕ) → mixed n 0 s size ≡ choose (n + s) size
mixed-choose n s zero = refl
mixed-choose zero s (suc size) =
    let none = mixed-none 0 (0 + 1) s size (omega arith) in
    let e : 0 + s ≡ s = omega arith in
    rw e (omega (arith, none))
mixed-choose (suc n) s (suc size) =
    let e : suc n + s ≡ suc (n + s) = omega arith in
    let more = mixed-more n 0 s size in
    let f : 0 + 1 ≡ suc 0 = refl in
    let a = mixed-choose n s size in
    let b = mixed-choose n s (suc size) in
    rw (e, f) (omega (arith, more, a, b))
