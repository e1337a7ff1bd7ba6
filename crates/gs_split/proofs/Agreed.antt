-- Sums of one signal and of another, and the numbers that they get.
use Rattle.std.proofs.Common.{◌≡◌, ◌↔◌, ℕ, ℤ, pos, ◌<◌, ◌≤◌, Bool, true, cond, List, length, get_or, sym, ap, ◌∙◌, subst, arith}
use Rattle.std.proofs.Common.{◌-◌, false, replicate, ⊎_elim}
use Rattle.std.proofs.lemmas.{Bool.{cases_lt}, List.{get_or-replicate, get_or_default, length-replicate, same_lists}}
use Rattle.std.proofs.lemmas.List.FromFn.{get_or-map-range_with_len, length-map-range_with_len}
use Rattle.std.proofs.lemmas.Bool.Decides.{Decides-and, Decides-eqb, Decides-like}
use Rattle.std.specs.{Prelude.{◌==◌, ◌&&◌, ◌+◌, if◌then◌else◌}, Bool.{Decides}, Ordering.{int_eq}}
use Rattle.gs_model.specs.{Classes.{ClassLists, IsClass, class_of, first_member, list_of}, Game.{Game, IsPlayable, round_count}}
use Rattle.gs_model.specs.Frame.{Frame, at_round, frame_of, last_round, signal_count}
use Rattle.gs_model.specs.{Lossless.{weight_against, weight_with}, Signals.{signals}}
use Rattle.gs_model.proofs.{Ranges.{signal_count_is}, Walked.{last_round_of}}
use Rattle.gs_lossless.proofs.{Alike.{firsts_of_deals}, Descent.{tabled}}
use Rattle.gs_lossless.specs.{Amounts.{HaveEqualAmounts, AgreesWithFirst, AreAspectFirsts, HasAspect, amount, keys_of}, Alike.{AreStandIns}}
use Rattle.gs_lossless.specs.{declared.parts.Part.{Part}, declared.aspects.Aspect.{Aspect}}
use Rattle.gs_lossless.specs.declared.aspects.Aspect.TheVariants.{Deals, Children}
use Rattle.gs_split.specs.Turns.{AreSettled, AreAspectNumbers, AreTurnNumbers, HaveSameSums, IsSettled}

-- whether two sums are the same
abbrev pub part_eq : Part → Part → Bool
part_eq p q = (p.class == q.class) && (int_eq p.outcome q.outcome && (p.weight == q.weight))

-- whether two such keys are the same
abbrev pub key_eq : ℕ × ℕ × ℕ → ℕ × ℕ × ℕ → Bool
key_eq x y = (x.0 == y.0) && ((x.1 == y.1) && (x.2 == y.2))

module _ (f : Frame) (lists : ClassLists) (round : ℕ) where
  -- members of a settled class agree with its first member
  settled_agrees : (aspect : Aspect) (firsts : List ℕ) (settled : List Bool) (s : ℕ) → AreAspectFirsts f lists aspect round firsts
      → AreSettled lists round firsts settled → s < length firsts → IsSettled lists round settled s → AgreesWithFirst f lists aspect round s
  settled_agrees aspect firsts settled s stands h l one = subst (λ (x : ℕ). HaveEqualAmounts f lists aspect round x s) (h.first s l one) (stands.agree s l)

  -- members of a settled class agree
  pub settled_alike : (aspect : Aspect) (firsts : List ℕ) (settled : List Bool) (i j : ℕ) → AreAspectFirsts f lists aspect round firsts
      → AreSettled lists round firsts settled → i < length firsts → j < length firsts → class_of lists round i ≡ class_of lists round j
      → IsSettled lists round settled i → IsSettled lists round settled j → HaveEqualAmounts f lists aspect round i j
  settled_alike aspect firsts settled i j stands h li lj same one two =
      let p = settled_agrees aspect firsts settled i stands h li one in
      let q = settled_agrees aspect firsts settled j stands h lj two in
      λ c o. sym (p c o) ∙ ap (λ x. amount f lists aspect round (first_member lists round x) c o) same ∙ q c o

  -- before the last round agreement is about children
  children_same : (i j : ℕ) → round < last_round f → HaveEqualAmounts f lists Children round i j ↔ HaveSameSums f lists round i j
  children_same i j l = (
    (λ g. record { sums = λ e. absurd (omega (arith, e, l)); children = λ _ c. g c (pos 0) }),
    (λ h c o. ap (λ n. cond {A = ℕ} (int_eq (pos 0) o) n 0) (h.children l c)),
  )

  -- in the last round it is about deals by outcome
  deals_same : (i j : ℕ) → round ≡ last_round f → HaveEqualAmounts f lists Deals round i j ↔ HaveSameSums f lists round i j
  deals_same i j e =
      let t : (round == last_round f) ≡ true = (Decides-eqb round (last_round f)).1 e in
      let P : Bool → ℕ → ℤ → Type 0 = λ b c o. cond b (weight_with f lists i c o) (cond (int_eq (pos 0) o) (weight_against f lists round i c) 0)
      ≡ cond b (weight_with f lists j c o) (cond (int_eq (pos 0) o) (weight_against f lists round j c) 0) in (
        (λ g. record { sums = λ _ c o. subst (λ b. P b c o) t (g c o); children = λ l. absurd (omega (arith, e, l)) }),
        (λ h c o. subst (λ b. P b c o) (sym t) (h.sums e c o)),
      )

  pub numbers_of_children : (numbers : List ℕ) → round < last_round f → AreAspectNumbers f lists Children round numbers → AreTurnNumbers f lists round numbers
  numbers_of_children numbers l h = record {
    long = h.long;
    same = λ i j li lj e. let a = h.same i j li lj e in let b = children_same i j l in (λ x. b.0 (a.0 x), λ y. a.1 (b.1 y));
  }

  pub numbers_of_deals : (numbers : List ℕ) → round ≡ last_round f → AreAspectNumbers f lists Deals round numbers → AreTurnNumbers f lists round numbers
  numbers_of_deals numbers l h = record {
    long = h.long;
    same = λ i j li lj e. let a = h.same i j li lj e in let b = deals_same i j l in (λ x. b.0 (a.0 x), λ y. a.1 (b.1 y));
  }

-- where each class is settled, the numbers 0 tell its members apart
module _ (f : Frame) (lists : ClassLists) (round : ℕ) (firsts numbers : List ℕ) (settled : List Bool) where
  module _ (known : AreSettled lists round firsts settled) (all : (k : ℕ) → k < length settled → get_or settled k false ≡ true) where
    module _ (within : (s : ℕ) → s < length firsts → IsClass lists round (class_of lists round s)) (none : numbers ≡ replicate (length firsts) 0) where
      settled_numbers : (aspect : Aspect) → AreAspectFirsts f lists aspect round firsts → AreAspectNumbers f lists aspect round numbers
      settled_numbers aspect stands =
          let long : length numbers ≡ length firsts = ap (λ (l : List ℕ). length l) none ∙ length-replicate {A = ℕ} (length firsts) 0 in
          let zero : (s : ℕ) → s < length numbers → get_or numbers s 0 ≡ 0 = λ s l. ap (λ (l : List ℕ). get_or l s 0) none
          ∙ get_or-replicate (length firsts) s 0 0 (omega (arith, l, long)) in
          let is : (s : ℕ) → s < length firsts → IsSettled lists round settled s = λ s l.
          (let w = within s l in all (class_of lists round s - 1) (omega (arith, w.0, w.1, known.long))) in
          record {
            long = long ∙ stands.long;
            same = λ i j li lj e.
                let a : i < length firsts = omega (arith, li, long) in
                let b : j < length firsts = omega (arith, lj, long) in (
                  (λ _. settled_alike f lists round aspect firsts settled i j stands known a b e (is i a) (is j b)),
                  (λ _. zero i li ∙ sym (zero j lj)),
                );
          }

      pub settled_turn : 0 < round → round ≤ last_round f → ((aspect : Aspect) → HasAspect f aspect round → AreAspectFirsts f lists aspect round firsts)
          → AreTurnNumbers f lists round numbers
      settled_turn some top stands = ⊎_elim
          (λ (lt : round < last_round f). numbers_of_children f lists round numbers lt (settled_numbers Children (stands Children (some, lt))))
          (λ (ge : last_round f ≤ round). numbers_of_deals f lists round numbers (omega (arith, ge, top)) (settled_numbers Deals (stands Deals (some, top))))
          (cases_lt round (last_round f))

-- the classes of the last round are the keys of its deals
classes_are_keys : (g : Game) → IsPlayable g → (lists : ClassLists)
    → length (list_of lists (last_round (frame_of g))) ≡ signal_count (frame_of g) (last_round (frame_of g))
    → list_of lists (last_round (frame_of g)) ≡ keys_of (frame_of g) lists Deals (last_round (frame_of g))
classes_are_keys g p lists long =
    let f = frame_of g in
    let last = last_round f in
    let key : ℕ → ℕ = λ x. class_of lists last (at_round f last x) in
    let n = length-map-range_with_len key 0 (signal_count f last) in
    same_lists (list_of lists last) (keys_of f lists Deals last) (long ∙ sym n) (λ i d l.
    get_or_default (list_of lists last) i d 0 l ∙ sym (ap (class_of lists last) ((tabled g p).itself last i))
    ∙ sym (get_or-map-range_with_len key 0 (signal_count f last) i i d (omega (arith, l, long)) (omega arith)))

-- stand-ins for these keys are stand-ins in the last round
pub firsts_of_classes : (g : Game) → IsPlayable g → (round : ℕ) (lists : ClassLists) (keys firsts : List ℕ) → round ≡ round_count g
    → length (list_of lists round) ≡ signal_count (frame_of g) round → keys ≡ list_of lists round → AreStandIns g keys firsts
    → (aspect : Aspect) → HasAspect (frame_of g) aspect round → AreAspectFirsts (frame_of g) lists aspect round firsts
firsts_of_classes g p round lists keys firsts e long is h Children has = absurd (omega (arith, has.1, e, last_round_of g))
firsts_of_classes g p round lists keys firsts e long is h Deals has =
    let f = frame_of g in
    let top : last_round f ≡ round = omega (arith, e, last_round_of g) in
    let P : ℕ → Type 0 = λ r. length (list_of lists r) ≡ signal_count f r → list_of lists r ≡ keys_of f lists Deals r in
    firsts_of_deals g p Deals round has e lists keys firsts (is ∙ subst P top (classes_are_keys g p lists) long) h

-- each signal stands for itself
pub firsts_of_themselves : (g : Game) (aspect : Aspect) (round n : ℕ) (lists : ClassLists) (firsts : List ℕ) → 0 < round → round ≤ round_count g
    → n ≡ length (signals g round) → length firsts ≡ n
    → ((s : ℕ) → s < n → get_or firsts s 0 ≡ s) → AreAspectFirsts (frame_of g) lists aspect round firsts
firsts_of_themselves g aspect round n lists firsts some top e long each =
    let f = frame_of g in
    let all = signal_count_is g round some top in
    record {
      long = long ∙ e ∙ sym all;
      before = λ s l. let x = each s (omega (arith, l, long)) in omega (arith, x);
      class = λ s l. ap (class_of lists round) (each s (omega (arith, l, long)));
      agree = λ s l c o. ap (λ (x : ℕ). amount f lists aspect round x c o) (each s (omega (arith, l, long)));
    }

-- three numbers are equal exactly where the test says so
pub triples : (p q : ℕ × ℕ × ℕ) → p.0 ≡ q.0 → p.1 ≡ q.1 → p.2 ≡ q.2 → p ≡ q
triples p q e f g =
    let a : ℕ → ℕ × ℕ × ℕ = λ n. (n, p.1, p.2) in
    let b : ℕ → ℕ × ℕ × ℕ = λ n. (q.0, n, p.2) in
    let c : ℕ → ℕ × ℕ × ℕ = λ n. (q.0, q.1, n) in
    ap a e ∙ ap b f ∙ ap c g

pub key_exact : (x y : ℕ × ℕ × ℕ) → Decides (key_eq x y) (x ≡ y)
key_exact x y =
    Decides-like (key_eq x y) (λ p. triples x y p.0 p.1.0 p.1.1) (λ e. (
      ap (λ (p : ℕ × ℕ × ℕ). p.0) e,
      (ap (λ (p : ℕ × ℕ × ℕ). p.1) e, ap (λ (p : ℕ × ℕ × ℕ). p.2) e),
    ))
    (Decides-and _ _ (Decides-eqb x.0 y.0) (Decides-and _ _ (Decides-eqb x.1 y.1) (Decides-eqb x.2 y.2)))

-- a key that is added is at most one more
pub one_more : (new : Bool) (n : ℕ) → n + (if new then 1 else 0) ≤ n + 1
one_more true n = omega arith
one_more false n = omega arith
