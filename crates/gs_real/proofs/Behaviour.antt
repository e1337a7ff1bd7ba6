-- A behaviour strategy in fractions is a raw plan: over one denominator for all points and signals, a plan whose total is a power of it.
use Rattle.std.proofs.Common.{◌≡◌, ℕ, zero, suc, ◌+◌, ◌-◌, ◌*◌, ◌^◌, ◌<◌, ◌≤◌, List, [], ◌∷◌, refl, sym, ap, ◌∙◌, subst, arith, Bool, true, false, cond, eqb}
use Rattle.std.proofs.Common.{true≢false, Option, Some, None, inl, inr}
use Rattle.std.proofs.{lemmas.Nat.{pow-add}, lemmas.Bool.{cases_lt, cases_eq}, lemmas.Bool.Decides.{Decides-eqb}, lemmas.List.Sums.{sum_by-cons}, Math.Nat.{one-le-pow, pow-suc}}
use Rattle.std.specs.Prelude.{sum_by}
use Rattle.gs_model.specs.Frame.{Frame, ancestor, choices_at, last_step, move_count, player_at, point_count, round_of, signal_count}
use Rattle.gs_model.specs.{FrameFacts.{IsWalked}, Plans.{IsRawPlan, Plan, number_before}, Positions.{Step, at_point}}
use Rattle.gs_model.proofs.Basics.{not_eq}
use Rattle.gs_real.specs.Behaviour.{BehaviourIsAPlan, IsBehaviour, Plays}

-- ---- products

-- the product of the first n numbers
abbrev product : ℕ → (ℕ → ℕ) → ℕ
product zero f = 1
product (suc n) f = f n * product n f

-- all but one of them
abbrev but : ℕ → (ℕ → ℕ) → ℕ → ℕ
but i f j = cond (eqb j i) 1 (f j)

some_product : (n : ℕ) (f : ℕ → ℕ) → ((i : ℕ) → i < n → 0 < f i) → 0 < product n f
some_product zero f h = omega arith
some_product (suc n) f h =
    let a = h n (omega arith) in
    let b = some_product n f (λ i l. h i (omega arith)) in
    above (f n) (product n f) a b
  where
    above : (a b : ℕ) → 0 < a → 0 < b → 0 < a * b
    above zero b h k = absurd (omega arith)
    above (suc a) b h k = grind arith

none_but : (n i : ℕ) (f : ℕ → ℕ) → n ≤ i → product n (but i f) ≡ product n f
none_but zero i f h = refl
none_but (suc n) i f h =
    let e : but i f n ≡ f n = ap (λ b. cond {A = ℕ} b 1 (f n)) (not_eq n i (λ e. omega arith)) in
    ap (λ a. a * product n (but i f)) e ∙ ap (λ a. f n * a) (none_but n i f (omega arith))

one_but : (n i : ℕ) (f : ℕ → ℕ) → i < n → product n f ≡ f i * product n (but i f)
one_but zero i f h = absurd (omega arith)
one_but (suc n) i f h = elim (cases_eq n i) [
  | inl e ↦ (let here : but i f n ≡ 1 = ap (λ b. cond {A = ℕ} b 1 (f n)) ((Decides-eqb n i).1 e) in
      let rest = none_but n i f (omega arith) in
      let right : but i f n * product n (but i f) ≡ product n f = ap (λ a. a * product n (but i f)) here ∙ (let o : 1 * product n (but i f)
      ≡ product n (but i f) = omega arith in o) ∙ rest in
      ap (λ k. f k * product n f) e ∙ ap (λ a. f i * a) (sym right))
  | inr ne ↦ (let here : but i f n ≡ f n = ap (λ b. cond {A = ℕ} b 1 (f n)) (not_eq n i ne) in
      let rest = one_but n i f (omega arith) in
      ap (λ a. f n * a) rest ∙ across (f n) (f i) (product n (but i f)) ∙ ap (λ a. f i * (a * product n (but i f))) (sym here))
]
  where
    across : (a b c : ℕ) → a * (b * c) ≡ b * (a * c)
    across a b c = omega arith

-- a number times each member of a sum
times_sum : (k : ℕ) (g : ℕ → ℕ) (xs : List ℕ) → sum_by (λ c. k * g c) xs ≡ k * sum_by g xs
times_sum k g [] = omega arith
times_sum k g (x ∷ xs) =
    sum_by-cons (λ c. k * g c) x xs ∙ ap (λ n. k * g x + n) (times_sum k g xs)
    ∙ (let e : k * g x + k * sum_by g xs ≡ k * (g x + sum_by g xs) = omega arith in e) ∙ ap (λ n. k * n) (sym (sum_by-cons g x xs))

module _ (f : Frame) (player : ℕ) (w : IsWalked f player) where
  -- ---- one denominator

  module _ (M : ℕ) (some : 0 < M) (share : ℕ → ℕ → ℕ → ℕ) where
    -- what a point's move has of its step's number, in units that a later point's moves split again
    abbrev behind : ℕ → (ℕ → ℕ → ℕ → ℕ) → Option Step → ℕ → ℕ → ℕ
    behind q part None round s = M ^ q
    behind q part (Some u) round s = part u.point (ancestor f round (round_of f (at_point u.point)) s) u.choice * M ^ (q - u.point - 1)

    -- going back over at most so many own steps
    abbrev part : ℕ → ℕ → ℕ → ℕ → ℕ
    part zero q s c = 0
    part (suc k) q s c = share q s c * behind q (part k) (last_step f player (at_point q)) (round_of f (at_point q)) s

    abbrev units : ℕ
    units = point_count f

    abbrev plan : Plan
    plan = record { total = M ^ units; number = λ q s c. M ^ (units - q - 1) * part (suc q) q s c }

    same_behind : (q : ℕ) (a b : ℕ → ℕ → ℕ → ℕ) (l : Option Step) (round s : ℕ) → ((u : Step) → l ≡ Some u → u.point < q)
        → ((u s c : ℕ) → u < q → a u s c ≡ b u s c) → behind q a l round s ≡ behind q b l round s
    same_behind q a b None round s h same = refl
    same_behind q a b (Some u) round s h same =
        ap (λ n. n * M ^ (q - u.point - 1)) (same u.point (ancestor f round (round_of f (at_point u.point)) s) u.choice (h u refl))

    -- more steps back change nothing
    stable : (k l q s c : ℕ) → q < k → q < l → q < units → part k q s c ≡ part l q s c
    stable zero l q s c a b i = absurd (omega arith)
    stable (suc k) zero q s c a b i = absurd (omega arith)
    stable (suc k) (suc l) q s c a b i =
        ap (λ n. share q s c * n) (same_behind q (part k) (part l) (last_step f player (at_point q)) (round_of f (at_point q)) s (λ u e. w.earlier q u i e)
        (λ u t d o. stable k l u t d (omega arith) (omega arith) (omega arith)))

    abbrev before : ℕ → ℕ → ℕ
    before q s = number_before f plan (last_step f player (at_point q)) (round_of f (at_point q)) s

    abbrev held : ℕ → ℕ → ℕ
    held q s = behind q (part q) (last_step f player (at_point q)) (round_of f (at_point q)) s

    before_is : (q s : ℕ) → q < units → before q s ≡ M ^ (units - q) * held q s
    before_is q s i = go (last_step f player (at_point q)) (λ u e. w.earlier q u i e)
      where
        power : (a b n : ℕ) → a + b ≡ n → M ^ n ≡ M ^ a * M ^ b
        power a b n e = ap (λ k. M ^ k) (sym e) ∙ pow-add M a b

        across : (a b c : ℕ) → (a * b) * c ≡ a * (c * b)
        across a b c = omega arith

        go : (l : Option Step) → ((u : Step) → l ≡ Some u → u.point < q)
            → number_before f plan l (round_of f (at_point q)) s ≡ M ^ (units - q) * behind q (part q) l (round_of f (at_point q)) s
        go None h = power (units - q) q units (omega arith)
        go (Some u) h =
            let early = h u refl in
            let r = ancestor f (round_of f (at_point q)) (round_of f (at_point u.point)) s in
            ap (λ n. M ^ (units - u.point - 1) * n) (stable (suc u.point) q u.point r u.choice (omega arith) early (omega arith))
            ∙ ap (λ n. n * part q u.point r u.choice) (power (units - q) (q - u.point - 1) (units - u.point - 1) (omega arith))
            ∙ across (M ^ (units - q)) (M ^ (q - u.point - 1)) (part q u.point r u.choice)

    number_is : (q s c : ℕ) → plan.number q s c ≡ (M ^ (units - q - 1) * held q s) * share q s c
    number_is q s c = turned (M ^ (units - q - 1)) (share q s c) (held q s)
      where
        turned : (a b c : ℕ) → a * (b * c) ≡ (a * c) * b
        turned a b c = omega arith

    -- one more factor M makes the number of the last step of it
    up : (q s : ℕ) → q < units → (M ^ (units - q - 1) * held q s) * M ≡ before q s
    up q s i =
        let e : suc (units - q - 1) ≡ units - q = omega arith in
        let p : M ^ (units - q) ≡ M ^ (units - q - 1) * M = ap (λ k. M ^ k) (sym e) ∙ pow-suc M (units - q - 1) in
        turned (M ^ (units - q - 1)) (held q s) M ∙ ap (λ n. n * held q s) (sym p) ∙ sym (before_is q s i)
      where
        turned : (a b c : ℕ) → (a * b) * c ≡ (a * c) * b
        turned a b c = omega arith

    flows : (q s : ℕ) → q < units → sum_by (λ c. share q s c) (choices_at f q) ≡ M → sum_by (λ c. plan.number q s c) (choices_at f q) ≡ before q s
    flows q s i whole =
        sums (choices_at f q) ∙ times_sum (M ^ (units - q - 1) * held q s) (λ c. share q s c) (choices_at f q)
        ∙ ap (λ n. (M ^ (units - q - 1) * held q s) * n) whole ∙ up q s i
      where
        sums : (xs : List ℕ) → sum_by (λ c. plan.number q s c) xs ≡ sum_by (λ c. (M ^ (units - q - 1) * held q s) * share q s c) xs
        sums [] = refl
        sums (x ∷ xs) =
            sum_by-cons (λ c. plan.number q s c) x xs ∙ ap (λ n. plan.number q s x + n) (sums xs)
            ∙ ap (λ n. n + sum_by (λ c. (M ^ (units - q - 1) * held q s) * share q s c) xs) (number_is q s x)
            ∙ sym (sum_by-cons (λ c. (M ^ (units - q - 1) * held q s) * share q s c) x xs)

    total_some : 0 < M ^ units
    total_some = let p = one-le-pow units M some in omega (arith, p)

  -- ---- a denominator for each point and signal

  module _ (num : ℕ → ℕ → ℕ → ℕ) (den : ℕ → ℕ → ℕ) (h : IsBehaviour f player num den) where
    abbrev count : ℕ → ℕ
    count q = signal_count f (round_of f (at_point q))

    -- the product of the denominators at a point of the player
    abbrev at : ℕ → ℕ
    at q = cond (eqb (player_at f q) player) (product (count q) (den q)) 1

    abbrev all : ℕ
    all = product (point_count f) at

    abbrev others : ℕ → ℕ → ℕ
    others q s = product (count q) (but s (den q)) * product (point_count f) (but q at)

    at_own : (q : ℕ) → player_at f q ≡ player → at q ≡ product (count q) (den q)
    at_own q hp = ap (λ b. cond {A = ℕ} b (product (count q) (den q)) 1) ((Decides-eqb (player_at f q) player).1 hp)

    at_some : (q : ℕ) → q < point_count f → 0 < at q
    at_some q i = elim (cases_eq (player_at f q) player) [
      | inl own ↦ subst (λ n. 0 < n) (sym (at_own q own)) (some_product (count q) (den q) (λ s l. h.positive q s i own l))
      | inr other ↦ (let e : at q ≡ 1 = ap (λ b. cond {A = ℕ} b (product (count q) (den q)) 1) (not_eq (player_at f q) player other) in omega (arith, e))
    ]

    all_is : (q s : ℕ) → q < point_count f → player_at f q ≡ player → s < count q → all ≡ den q s * others q s
    all_is q s i own l =
        one_but (point_count f) q at i ∙ ap (λ n. n * product (point_count f) (but q at)) (at_own q own ∙ one_but (count q) s (den q) l)
        ∙ grouped (den q s) (product (count q) (but s (den q))) (product (point_count f) (but q at))
      where
        grouped : (a b c : ℕ) → (a * b) * c ≡ a * (b * c)
        grouped a b c = omega arith

    abbrev share : ℕ → ℕ → ℕ → ℕ
    share q s c = others q s * num q s c

    all_some : 0 < all
    all_some = some_product (point_count f) at (λ q i. at_some q i)

    shares : (q s : ℕ) → q < point_count f → player_at f q ≡ player → s < count q → sum_by (λ c. share q s c) (choices_at f q) ≡ all
    shares q s i own l =
        times_sum (others q s) (λ c. num q s c) (choices_at f q) ∙ ap (λ n. others q s * n) (h.whole q s i own l)
        ∙ (let e : others q s * den q s ≡ den q s * others q s = omega arith in e) ∙ sym (all_is q s i own l)

    pub behaviour_plan : (x : Plan) × IsRawPlan f player x × Plays f player num den x
    behaviour_plan = (
      plan all all_some share,
      record { some = total_some all all_some share; flow = λ q s i own l. flows all all_some share q s i (shares q s i own l) },
      λ q s c i own l lc.
          let a = all ^ (point_count f - q - 1) * held all all_some share q s in
          ap (λ n. n * den q s) (number_is all all_some share q s c) ∙ turned a (others q s) (num q s c) (den q s)
          ∙ ap (λ n. (a * n) * num q s c) (sym (all_is q s i own l)) ∙ ap (λ n. n * num q s c) (up all all_some share q s i),
    )
      where
        turned : (a o n d : ℕ) → (a * (o * n)) * d ≡ (a * (d * o)) * n
        turned a o n d = omega arith

pub behaviour_is_a_plan : BehaviourIsAPlan
behaviour_is_a_plan f player num den w h = behaviour_plan f player w num den h
