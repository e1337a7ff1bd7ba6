use Rattle.std.specs.{Fmt.{signed_decimal}, Prelude.{ℤ, unsigned_abs}}
use Rattle.std.proofs.{Common.{◌≡◌, ◌∷◌, [], ◌++◌, ◌<◌, ◌^◌, All, List, ℕ, sym, ap, subst, ◌∙◌}, lemmas.List.Elements.{All-push}}
use mir.Syntax.{w128}
use mir.Val.{of_z, to_z}
use Rattle.gs_certificate.specs.Straight.{opened}
use Rattle.gs_certificate.proofs.PlainTexts.{goes_on, kept}
use Rattle.gs_certificate.proofs.straight.numbers_in.Goals as goal

pub loop-preserved : goal.loop-preserved
loop-preserved c =
    let zs : List ℤ = c.loop.numbers.items in
    let z : ℤ = c.in_ok-number.number in
    let next : List ℕ = c.in-Ok.next.now in
    let small : unsigned_abs z < 2 ^ 90 = c.in_ok-number.ensures.small in
    let one_more : zs ++ z ∷ [] ≡ c.push.new.self.items = ap (λ (x : ℤ). zs ++ x ∷ []) (kept z small) ∙ sym c.in_ok-push.ensures.items in
    record {
      text = subst (λ (all : List ℤ). c.args.bytes.now ≡ opened all ++ next) one_more
          (goes_on c.args.bytes.now c.loop.left.now c.in_ok-number.rest.now next zs z c.loop.invariant.text c.in_ok-number.ensures.text c.in-Ok.ensures);
      small = subst (All (λ (x : ℤ). unsigned_abs x < 2 ^ 90)) one_more (All-push (λ (x : ℤ). unsigned_abs x < 2 ^ 90) zs z c.loop.invariant.small small);
    }

-- the numbers with one more, as it is handed on
pushed : (zs items : List ℤ) (z : ℤ) → unsigned_abs z < 2 ^ 90 → items ≡ zs ++ to_z w128 (of_z w128 z) ∷ [] → zs ++ z ∷ [] ≡ items
pushed zs items z small is = ap (λ (x : ℤ). zs ++ x ∷ []) (kept z small) ∙ sym is

pub returns-in-Err-clause-small : goal.returns-in-Err-clause-small
returns-in-Err-clause-small c =
    let zs : List ℤ = c.loop.numbers.items in
    let z : ℤ = c.in_ok-number.number in
    let small : unsigned_abs z < 2 ^ 90 = c.in_ok-number.ensures.small in
    subst (All (λ (x : ℤ). unsigned_abs x < 2 ^ 90)) (pushed zs c.push.new.self.items z small c.in_ok-push.ensures.items)
    (All-push (λ (x : ℤ). unsigned_abs x < 2 ^ 90) zs z c.loop.invariant.small small)

pub returns-in-Err-clause-text : goal.returns-in-Err-clause-text
returns-in-Err-clause-text c =
    let zs : List ℤ = c.loop.numbers.items in
    let z : ℤ = c.in_ok-number.number in
    record {
      front = zs;
      last = z;
      numbers = sym (pushed zs c.push.new.self.items z c.in_ok-number.ensures.small c.in_ok-push.ensures.items);
      text = c.loop.invariant.text ∙ ap (λ (q : List ℕ). opened zs ++ q)
          (c.in_ok-number.ensures.text ∙ ap (λ (q : List ℕ). signed_decimal z ++ q) c.in_ok-behind-in-Err.ensures);
    }
