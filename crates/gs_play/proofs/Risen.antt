-- Numbers at ends that rise at one end, class by class, and end by end.
use Rattle.std.proofs.{Common.{◌≡◌, ℕ, ◌+◌, ◌-◌, ◌<◌, ◌≤◌, Bool, true, false, cond, refl, sym, ap, ◌∙◌, subst, arith, ⊎_elim}, Math.Path.{fun_ext}}
use Rattle.std.specs.{Prelude.{◌==◌, nat_lt, ℤ, pos, ◌+ℤ◌, ◌-ℤ◌, ◌*ℤ◌}, List.{range_with_len}}
use Rattle.std.proofs.{lemmas.Bool.{cases_eq, cases_lt, le-ltb, lt-ltb}, lemmas.Bool.Decides.{Decides-eqb}, lemmas.Int.{ints}}
use Rattle.gs_model.specs.{Classes.{ClassLists, IsClass, class_count}, Frame.{Frame, end_count, leads_to, move_count, point_count, round_of}, Sums.{sum_z}}
use Rattle.gs_model.specs.{FrameFacts.{IsWalked}, Positions.{at_end}}
use Rattle.gs_model.proofs.Basics.{not_eq}
use Rattle.gs_best.proofs.Ranges.{run_step}
use Rattle.gs_play.specs.{Plots.{HasNoWay}, Pushes.{with_sign}, Tallies.{IsTally, risen, risen_at}, declared.tally.Tally.{Tally}}
use Rattle.gs_play.proofs.Alike.{tally_reached, tally_same}

-- ---- numbers that rise twice

pub risen_twice : (rise : ℕ → ℕ → ℤ) (z : ℕ) (a b : ℕ → ℤ) → risen_at (risen_at rise z a) z b ≡ risen_at rise z (λ c. a c +ℤ b c)
risen_twice rise z a b = fun_ext (λ y. fun_ext (λ c. by (y == z) (rise y c) (a c) (b c)))
  where
    by : (t : Bool) (r x y : ℤ) → (r +ℤ cond t x (pos 0)) +ℤ cond t y (pos 0) ≡ r +ℤ cond t (x +ℤ y) (pos 0)
    by true r x y = omega (arith, ints)
    by false r x y = omega (arith, ints)

pub risen_same : (rise : ℕ → ℕ → ℤ) (z : ℕ) (a b : ℕ → ℤ) → ((c : ℕ) → a c ≡ b c) → risen_at rise z a ≡ risen_at rise z b
risen_same rise z a b same = ap (risen_at rise z) (fun_ext same)

pub risen_by_none : (rise : ℕ → ℕ → ℤ) (z : ℕ) (a : ℕ → ℤ) → ((c : ℕ) → a c ≡ pos 0) → risen_at rise z a ≡ rise
risen_by_none rise z a none = fun_ext (λ y. fun_ext (λ c. by (y == z) (rise y c) (a c) (none c)))
  where
    by : (t : Bool) (r x : ℤ) → x ≡ pos 0 → r +ℤ cond t x (pos 0) ≡ r
    by true r x e = omega (arith, ints, e)
    by false r x e = omega (arith, ints)

pub risen_there : (rise : ℕ → ℕ → ℤ) (z c : ℕ) (a : ℕ → ℤ) → risen_at rise z a z c ≡ rise z c +ℤ a c
risen_there rise z c a = ap (λ b. rise z c +ℤ cond b (a c) (pos 0)) ((Decides-eqb z z).1 refl)

pub risen_apart : (rise : ℕ → ℕ → ℤ) (z y c : ℕ) (a : ℕ → ℤ) → (y ≡ z → ⊥) → risen_at rise z a y c ≡ rise y c
risen_apart rise z y c a apart =
    ap (λ b. rise y c +ℤ cond b (a c) (pos 0)) (not_eq y z apart) ∙ (let e : rise y c +ℤ pos 0 ≡ rise y c = omega (arith, ints) in e)

-- ---- what is kept of a player

-- other numbers that each turn adds, but the same ones for the classes of each end's round
pub rise_same : (f : Frame) (lists : ClassLists) (player : ℕ) → IsWalked f player → (pays rise rise' : ℕ → ℕ → ℤ) (now : ℕ) (t : Tally)
    → ((z c : ℕ) → z < end_count f → IsClass lists (round_of f (at_end z)) c → rise' z c ≡ rise z c)
    → IsTally f lists player pays rise now t → IsTally f lists player pays rise' now t
rise_same f lists player walked pays rise rise' now t same =
    tally_same f lists player walked pays rise pays rise' now now (λ z c lz lc. ap (λ x. pays z c -ℤ pos now *ℤ x) (same z c lz lc)) same t (omega arith)

-- numbers that rise at an end by as much for each class of its round
pub risen_alike : (f : Frame) (lists : ClassLists) (player : ℕ) → IsWalked f player → (pays rise : ℕ → ℕ → ℤ) (now z : ℕ) (a b : ℕ → ℤ) (t : Tally)
    → ((c : ℕ) → IsClass lists (round_of f (at_end z)) c → b c ≡ a c)
    → IsTally f lists player pays (risen_at rise z a) now t → IsTally f lists player pays (risen_at rise z b) now t
risen_alike f lists player walked pays rise now z a b t same =
    rise_same f lists player walked pays (risen_at rise z a) (risen_at rise z b) now t
    (λ y c ly lc. ⊎_elim
    (λ (is : y ≡ z). ap (λ x. rise y c +ℤ cond (y == z) x (pos 0)) (same c (subst (λ i. IsClass lists (round_of f (at_end i)) c) is lc)))
    (λ (apart : y ≡ z → ⊥). risen_apart rise z y c b apart ∙ sym (risen_apart rise z y c a apart))
    (cases_eq y z))

-- at an end to which no move leads all numbers may rise: they count for nothing
pub risen_nowhere : (f : Frame) (lists : ClassLists) (player : ℕ) (pays rise : ℕ → ℕ → ℤ) (now z : ℕ) (more : ℕ → ℤ) (t : Tally) → HasNoWay f (at_end z)
    → IsTally f lists player pays rise now t → IsTally f lists player pays (risen_at rise z more) now t
risen_nowhere f lists player pays rise now z more t none =
    tally_reached f lists pays rise pays (risen_at rise z more) now now
    (λ q m y c lq lm leads lc. ap (λ x. pays y c -ℤ pos now *ℤ x) (same q m y c lq lm leads)) (λ q m y c lq lm leads lc. same q m y c lq lm leads) t player
    (omega arith)
  where
    same : (q m y c : ℕ) → q < point_count f → m < move_count f q → leads_to f q m ≡ at_end y → risen_at rise z more y c ≡ rise y c
    same q m y c lq lm leads = risen_apart rise z y c more (λ e. none q m lq lm (leads ∙ ap at_end e))

-- ---- class by class, over a run of the other's classes

pub signed_sum : (on : Bool) (x y : ℤ) → with_sign on x +ℤ with_sign on y ≡ with_sign on (x +ℤ y)
signed_sum true x y = refl
signed_sum false x y = omega (arith, ints)

pub signed_none : (on : Bool) → with_sign on (pos 0) ≡ pos 0
signed_none true = refl
signed_none false = refl

-- what the classes of a run, from the first one up to but not including another, add to the numbers at an end
abbrev pub run_adds : Bool → (ℕ → ℕ → ℤ) → ℕ → ℕ → ℕ → ℤ
run_adds on u first class c = with_sign on (sum_z (λ k. u c k) (range_with_len first (class - first)))

pub run_begun : (rise : ℕ → ℕ → ℤ) (z : ℕ) (on : Bool) (u : ℕ → ℕ → ℤ) (first : ℕ) → risen_at rise z (run_adds on u first first) ≡ rise
run_begun rise z on u first =
    risen_by_none rise z (run_adds on u first first)
    (λ c. (let none : first - first ≡ 0 = omega arith in ap (λ n. with_sign on (sum_z (λ k. u c k) (range_with_len first n))) none ∙ signed_none on))

pub run_more : (rise : ℕ → ℕ → ℤ) (z : ℕ) (on : Bool) (u : ℕ → ℕ → ℤ) (first class : ℕ) → first ≤ class
    → risen_at (risen_at rise z (run_adds on u first class)) z (λ c. with_sign on (u c class)) ≡ risen_at rise z (run_adds on u first (class + 1))
run_more rise z on u first class l =
    risen_twice rise z (run_adds on u first class) (λ c. with_sign on (u c class))
    ∙ risen_same rise z (λ c. run_adds on u first class c +ℤ with_sign on (u c class)) (run_adds on u first (class + 1))
    (λ c. signed_sum on (sum_z (λ k. u c k) (range_with_len first (class - first))) (u c class)
    ∙ ap (with_sign on) (run_step (λ k. u c k) first class (sum_z (λ k. u c k) (range_with_len first (class - first))) l refl))

-- ---- class by class, over the player's classes

-- what the classes below one add to the numbers at an end
abbrev pub adds_below : (ℕ → ℤ) → ℕ → ℕ → ℤ
adds_below more class c = cond (nat_lt c class) (more c) (pos 0)

pub below_more : (rise : ℕ → ℕ → ℤ) (z : ℕ) (more : ℕ → ℤ) (class : ℕ) (x : ℤ) → x ≡ more class
    → risen (risen_at rise z (adds_below more class)) z class x ≡ risen_at rise z (adds_below more (class + 1))
below_more rise z more class x is =
    risen_twice rise z (adds_below more class) (λ c. cond (class == c) x (pos 0))
    ∙ risen_same rise z (λ c. adds_below more class c +ℤ cond (class == c) x (pos 0)) (adds_below more (class + 1)) each
  where
    -- one class more, by where the class is
    each : (c : ℕ) → adds_below more class c +ℤ cond (class == c) x (pos 0) ≡ adds_below more (class + 1) c
    each c = ⊎_elim
        (λ (lt : c < class).
        let a = ap (λ b. cond b (more c) (pos 0)) (lt-ltb c class lt) in
        let b = ap (λ b. cond b x (pos 0)) (not_eq class c (λ e. omega (arith, e, lt))) in
        let d = ap (λ b. cond b (more c) (pos 0)) (lt-ltb c (class + 1) (omega (arith, lt))) in
        omega (arith, ints, a, b, d))
        (λ (ge : class ≤ c). ⊎_elim
        (λ (same : class ≡ c).
        let a = ap (λ b. cond b (more c) (pos 0)) (le-ltb c class ge) in
        let b = ap (λ b. cond b x (pos 0)) ((Decides-eqb class c).1 same) in
        let d = ap (λ b. cond b (more c) (pos 0)) (lt-ltb c (class + 1) (omega (arith, same))) in
        let e = ap more same in
        omega (arith, ints, a, b, d, e, is))
        (λ (other : class ≡ c → ⊥).
        let a = ap (λ b. cond b (more c) (pos 0)) (le-ltb c class ge) in
        let b = ap (λ b. cond b x (pos 0)) (not_eq class c other) in
        let d = ap (λ b. cond b (more c) (pos 0)) (le-ltb c (class + 1) (omega (arith, ge, other))) in
        omega (arith, ints, a, b, d))
        (cases_eq class c))
        (cases_lt c class)

module _ (f : Frame) (lists : ClassLists) (player : ℕ) (walked : IsWalked f player) (pays rise : ℕ → ℕ → ℤ) (now z : ℕ) (more : ℕ → ℤ) (t : Tally) where
  -- the classes below the first one add nothing
  pub below_begun : IsTally f lists player pays rise now t → IsTally f lists player pays (risen_at rise z (adds_below more 1)) now t
  below_begun h =
      risen_alike f lists player walked pays rise now z (λ c. pos 0) (adds_below more 1) t
      (λ c lc. ap (λ b. cond b (more c) (pos 0)) (le-ltb c 1 (omega (arith, lc.0))))
      (subst (λ r. IsTally f lists player pays r now t) (sym (risen_by_none rise z (λ c. pos 0) (λ c. refl))) h)

  -- below a class behind all of them each class adds its own number
  pub below_all : (class : ℕ) → class_count lists (round_of f (at_end z)) < class
      → IsTally f lists player pays (risen_at rise z (adds_below more class)) now t → IsTally f lists player pays (risen_at rise z more) now t
  below_all class all =
      risen_alike f lists player walked pays rise now z (adds_below more class) more t
      (λ c lc. sym (ap (λ b. cond b (more c) (pos 0)) (lt-ltb c class (omega (arith, lc.1, all)))))

-- ---- end by end

-- new numbers at all ends before one, old ones from it on
abbrev pub renewed_before : (ℕ → ℕ → ℤ) → (ℕ → ℕ → ℤ) → ℕ → ℕ → ℕ → ℤ
renewed_before old new end z c = cond (nat_lt z end) (new z c) (old z c)

pub renewed_new : (old new : ℕ → ℕ → ℤ) (end z c : ℕ) → z < end → renewed_before old new end z c ≡ new z c
renewed_new old new end z c l = ap (λ b. cond b (new z c) (old z c)) (lt-ltb z end l)

pub renewed_old : (old new : ℕ → ℕ → ℤ) (end z c : ℕ) → end ≤ z → renewed_before old new end z c ≡ old z c
renewed_old old new end z c l = ap (λ b. cond b (new z c) (old z c)) (le-ltb z end l)

renewed_apart : (old new : ℕ → ℕ → ℤ) (end z c : ℕ) → (z ≡ end → ⊥) → renewed_before old new (end + 1) z c ≡ renewed_before old new end z c
renewed_apart old new end z c apart = ⊎_elim
    (λ (lt : z < end). renewed_new old new (end + 1) z c (omega (arith, lt)) ∙ sym (renewed_new old new end z c lt))
    (λ (ge : end ≤ z). renewed_old old new (end + 1) z c (omega (arith, ge, apart)) ∙ sym (renewed_old old new end z c ge))
    (cases_lt z end)

module _ (f : Frame) (lists : ClassLists) (player : ℕ) (walked : IsWalked f player) (pays old new : ℕ → ℕ → ℤ) (now end : ℕ) (t : Tally) where
  -- one end more, whose numbers have risen
  pub renewed_more : (more : ℕ → ℤ) → ((c : ℕ) → IsClass lists (round_of f (at_end end)) c → new end c ≡ old end c +ℤ more c)
      → IsTally f lists player pays (risen_at (renewed_before old new end) end more) now t
      → IsTally f lists player pays (renewed_before old new (end + 1)) now t
  renewed_more more is =
      rise_same f lists player walked pays (risen_at (renewed_before old new end) end more) (renewed_before old new (end + 1)) now t
      (λ z c lz lc. ⊎_elim
      (λ (same : z ≡ end).
      let class : IsClass lists (round_of f (at_end end)) c = subst (λ y. IsClass lists (round_of f (at_end y)) c) same lc in
      ap (λ y. renewed_before old new (end + 1) y c) same ∙ renewed_new old new (end + 1) end c (omega arith) ∙ is c class
      ∙ ap (λ x. x +ℤ more c) (sym (renewed_old old new end end c (omega arith)))
      ∙ sym (risen_there (renewed_before old new end) end c more)
      ∙ ap (λ y. risen_at (renewed_before old new end) end more y c) (sym same))
      (λ (other : z ≡ end → ⊥). renewed_apart old new end z c other ∙ sym (risen_apart (renewed_before old new end) end z c more other))
      (cases_eq z end))

  -- one end more, whose numbers are what they were
  pub renewed_kept : ((c : ℕ) → IsClass lists (round_of f (at_end end)) c → new end c ≡ old end c)
      → IsTally f lists player pays (renewed_before old new end) now t → IsTally f lists player pays (renewed_before old new (end + 1)) now t
  renewed_kept is =
      rise_same f lists player walked pays (renewed_before old new end) (renewed_before old new (end + 1)) now t
      (λ z c lz lc. ⊎_elim
      (λ (same : z ≡ end).
      let class : IsClass lists (round_of f (at_end end)) c = subst (λ y. IsClass lists (round_of f (at_end y)) c) same lc in
      ap (λ y. renewed_before old new (end + 1) y c) same ∙ renewed_new old new (end + 1) end c (omega arith) ∙ is c class
      ∙ sym (renewed_old old new end end c (omega arith)) ∙ ap (λ y. renewed_before old new end y c) (sym same))
      (λ (other : z ≡ end → ⊥). renewed_apart old new end z c other)
      (cases_eq z end))

  -- where the numbers of all earlier ends are what they were
  pub renewed_begun : ((z c : ℕ) → z < end → z < end_count f → IsClass lists (round_of f (at_end z)) c → new z c ≡ old z c)
      → IsTally f lists player pays old now t → IsTally f lists player pays (renewed_before old new end) now t
  renewed_begun is =
      rise_same f lists player walked pays old (renewed_before old new end) now t
      (λ z c lz lc. ⊎_elim
      (λ (lt : z < end). renewed_new old new end z c lt ∙ is z c lt lz lc)
      (λ (ge : end ≤ z). renewed_old old new end z c ge)
      (cases_lt z end))

  -- where the numbers of all ends from there on are what they were
  pub renewed_all : ((z c : ℕ) → end ≤ z → z < end_count f → IsClass lists (round_of f (at_end z)) c → new z c ≡ old z c)
      → IsTally f lists player pays (renewed_before old new end) now t → IsTally f lists player pays new now t
  renewed_all is =
      rise_same f lists player walked pays (renewed_before old new end) new now t
      (λ z c lz lc. ⊎_elim
      (λ (lt : z < end). sym (renewed_new old new end z c lt))
      (λ (ge : end ≤ z). is z c ge lz lc ∙ sym (renewed_old old new end z c ge))
      (cases_lt z end))
