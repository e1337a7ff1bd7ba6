use Rattle.std.proofs.Common.{◌≡◌, inl, inr, ℕ, ◌<◌, ◌^◌, Bool, true, false, MatchBool, ℤ, ◌*ℤ◌, ◌≤ℤ◌, unsigned_abs, to_z, of_z, w64, nat_eq, refl, sym, ap}
use Rattle.std.proofs.{Common.{subst, ◌∙◌, arith}, lemmas.Bool.{ltb-true, ltb-false}}
use mir.Syntax.{w128}
use Rattle.std.specs.Int.Signed.{lt_z}
use lib.Dec.{ltb}
use Rattle.gs_simplex.specs.{declared.choice.Ratio.{Ratio}, Choice.{Before, NotAfter}}
use Rattle.gs_simplex.proofs.{Ring.{linear}, Fits.{kept_64, narrow_passed, kept_128, lt_true, lt_false}, choice.is_before.Goals.{After-product-right}}
use Rattle.gs_simplex.proofs.choice.is_before.Goals as goal

not_equal : (x y : ℕ) → (x ≡ y → ⊥) → nat_eq x y ≡ false
not_equal x y ne = grind (arith, Rattle.std.proofs.lemmas.Bool.Decides.nat_tests)

same_le : (x y : ℤ) → x ≡ y → y ≤ℤ x
same_le x y e = omega (arith, linear)

product_is : (z x y : ℤ) → z ≡ to_z w64 (of_z w64 x) *ℤ to_z w64 (of_z w64 y) → unsigned_abs x < 2 ^ 62 → unsigned_abs y < 2 ^ 62 → z ≡ x *ℤ y
product_is z x y e h k = e ∙ ap (λ t. t *ℤ to_z w64 (of_z w64 y)) (kept_64 x h) ∙ ap (λ t. x *ℤ t) (kept_64 y k)

pub product-left-requires : goal.product-left-requires
product-left-requires c = record {
  narrow = narrow_passed c.args.a.now.side c.requires.narrow_side;
  narrow_other = narrow_passed c.args.b.now.over c.requires.narrow_other_over;
}

pub product-right-requires : goal.product-right-requires
product-right-requires c = record {
  narrow = narrow_passed c.args.b.now.side c.requires.narrow_other;
  narrow_other = narrow_passed c.args.a.now.over c.requires.narrow_over;
}

-- the two numbers that are compared are the products, and stay themselves
record AreProducts (a b : Ratio) (l r : ℤ) : Type 0 where
  left : l ≡ a.side *ℤ b.over
  right : r ≡ b.side *ℤ a.over
  left_kept : to_z w128 (of_z w128 l) ≡ l
  right_kept : to_z w128 (of_z w128 r) ≡ r

products : (c : After-product-right) → AreProducts c.args.a.now c.args.b.now c.product-left.result c.product-right.result
products c =
    let q = c.requires in let l = c.product-left in let r = c.product-right in record {
      left = product_is l.result c.args.a.now.side c.args.b.now.over l.ensures.value q.narrow_side q.narrow_other_over;
      right = product_is r.result c.args.b.now.side c.args.a.now.over r.ensures.value q.narrow_other q.narrow_over;
      left_kept = kept_128 l.result (omega (arith, l.ensures.size));
      right_kept = kept_128 r.result (omega (arith, r.ensures.size));
    }

module _ (a b : Ratio) (l r : ℤ) (u : AreProducts a b l r) where
  kept_test : (t : Bool) → lt_z (to_z w128 (of_z w128 l)) (to_z w128 (of_z w128 r)) ≡ t → lt_z (a.side *ℤ b.over) (b.side *ℤ a.over) ≡ t
  kept_test t e =
      ap (λ x. lt_z x (b.side *ℤ a.over)) (sym (u.left_kept ∙ u.left)) ∙ ap (λ x. lt_z (to_z w128 (of_z w128 l)) x) (sym (u.right_kept ∙ u.right)) ∙ e

  less : lt_z (to_z w128 (of_z w128 l)) (to_z w128 (of_z w128 r)) ≡ true → Before a b
  less e = inl (lt_true (a.side *ℤ b.over) (b.side *ℤ a.over) (kept_test true e))

  same : of_z w128 l ≡ of_z w128 r → a.side *ℤ b.over ≡ b.side *ℤ a.over
  same e = sym (u.left_kept ∙ u.left) ∙ ap (to_z w128) e ∙ u.right_kept ∙ u.right

  tied : of_z w128 l ≡ of_z w128 r → (t : Bool) → ltb a.column b.column ≡ t → MatchBool t (Before a b) (NotAfter b a)
  tied e true h = inr (same e, ltb-true a.column b.column h)
  tied e false h = (same_le (a.side *ℤ b.over) (b.side *ℤ a.over) (same e), λ _. ltb-false a.column b.column h)

  not_less : lt_z (to_z w128 (of_z w128 l)) (to_z w128 (of_z w128 r)) ≡ false → (of_z w128 l ≡ of_z w128 r → ⊥) → NotAfter b a
  not_less e ne = (
    lt_false (a.side *ℤ b.over) (b.side *ℤ a.over) (kept_test false e),
    λ q. absurd (ne (ap (of_z w128) (u.left ∙ sym q ∙ sym u.right))),
  )

pub returns-then-left-right : goal.returns-then-left-right
returns-then-left-right c =
    let a = c.args.a.now in let b = c.args.b.now in let w = goal.at.returns-then-left-right c in
    let P : Bool → Type 0 = λ t. MatchBool t (Before a b) (NotAfter b a) in
    subst P (sym c.if-left-right.true) (less a b c.product-left.result c.product-right.result (products w.After-product-right) c.if-left-right.true)

pub returns-then-left-right-2 : goal.returns-then-left-right-2
returns-then-left-right-2 c =
    let a = c.args.a.now in let b = c.args.b.now in let w = goal.at.returns-then-left-right-2 c in
    tied a b c.product-left.result c.product-right.result (products w.After-product-right) c.if-left-right-2.true (ltb a.column b.column) refl

pub returns-else-left-right-2 : goal.returns-else-left-right-2
returns-else-left-right-2 c =
    let a = c.args.a.now in let b = c.args.b.now in let w = goal.at.returns-else-left-right-2 c in
    let P : Bool → Type 0 = λ t. MatchBool t (Before a b) (NotAfter b a) in
    subst P (sym (not_equal (of_z w128 c.product-left.result) (of_z w128 c.product-right.result) c.if-left-right-2.false))
    (not_less a b c.product-left.result c.product-right.result (products w.After-product-right) c.if-left-right.false c.if-left-right-2.false)
