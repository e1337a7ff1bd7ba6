-- Lists whose members are the same one by one, as functions of these see them.
use Rattle.std.proofs.{Common.{◌≡◌, ℕ, ◌+◌, ◌<◌, List, length, map, get_or, sym, ap, ◌∙◌, subst, arith, ⊎_elim}, lemmas.Bool.{cases_eq}}
use Rattle.std.proofs.lemmas.List.{get_or-map, length-map, same_lists}

module _ {X Y : Type 0} (f : X → Y) (xs ys : List X) where
  -- so far they are
  abbrev pub Same : ℕ → Type 0
  Same n = (k : ℕ) (d : Y) → k < n → get_or (map f xs) k d ≡ get_or (map f ys) k d

  pub same_more : (n : ℕ) (x y : X) → n < length xs → n < length ys → x ≡ get_or xs n x → y ≡ get_or ys n y → f x ≡ f y → Same n → Same (n + 1)
  same_more n x y lx ly ix iy e h k d l = ⊎_elim
      (λ (here : k ≡ n). subst (λ v. get_or (map f xs) v d ≡ get_or (map f ys) v d) (sym here)
      (get_or-map f xs n x d lx ∙ ap f (sym ix) ∙ e ∙ ap f iy ∙ sym (get_or-map f ys n y d ly)))
      (λ other. h k d (omega (arith, l, other)))
      (cases_eq k n)

  pub same_all : length xs ≡ length ys → Same (length xs) → map f xs ≡ map f ys
  same_all long h = same_lists (map f xs) (map f ys) (length-map xs f ∙ long ∙ sym (length-map ys f)) (λ k d l. h k d (omega (arith, l, length-map xs f)))

  pub one_same : (n : ℕ) (x y : X) → n < length xs → n < length ys → x ≡ get_or xs n x → y ≡ get_or ys n y → map f xs ≡ map f ys → f x ≡ f y
  one_same n x y lx ly ix iy e = ap f ix ∙ sym (get_or-map f xs n x (f x) lx) ∙ ap (λ (l : List Y). get_or l n (f x)) e ∙ get_or-map f ys n y (f x) ly
      ∙ ap f (sym iy)
