-- Turns until nothing is parted.
use Rattle.std.proofs.Common.{◌≡◌, ℕ, zero, suc, ◌+◌, ◌-◌, ◌<◌, ◌≤◌, List, [], ◌∷◌, length, get_or, sym, ap, ◌∙◌, subst, arith, sum_by}
use Rattle.std.proofs.{lemmas.List.{get_or_default, same_lists}, lemmas.List.Sums.{sum_by-cons}, lemmas.Grind.{same_number_lists}}
use Rattle.gs_model.specs.{Classes.{ClassLists, IsClasses, class_of}, Frame.{Frame, last_round, signal_count}, FrameFacts.{InRange}, Lossless.{IsLossless}}
use Rattle.gs_model.specs.{Numbering.{IsFinerList, IsNumbered, greatest}, Refinement.{IsCoarsestLossless, Refines}, RefinementTurn.{IsTurn}}
use Rattle.gs_model.proofs.{Numbered.{finer_and_no_more}, Split.{coarsest_at_end, turn_invariant}, Tables.{is_table}}

-- ---- a turn that adds no class changes nothing

sums_le : (xs ys : List (List ℕ)) → length xs ≡ length ys → ((k : ℕ) → k < length xs → greatest (get_or xs k []) ≤ greatest (get_or ys k []))
    → sum_by greatest xs ≤ sum_by greatest ys
sums_le [] [] e h = omega arith
sums_le [] (y ∷ ys) e h = absurd (omega (arith, e))
sums_le (x ∷ xs) [] e h = absurd (omega (arith, e))
sums_le (x ∷ xs) (y ∷ ys) e h =
    let r = sums_le xs ys (omega (arith, e)) (λ k l. h (suc k) (omega (arith, l))) in
    omega (arith, sum_by-cons greatest x xs, sum_by-cons greatest y ys, h zero (omega arith), r)

-- where each is no greater and the sums are not less, each is no less
each_le : (xs ys : List (List ℕ)) → length xs ≡ length ys → ((k : ℕ) → k < length xs → greatest (get_or xs k []) ≤ greatest (get_or ys k []))
    → sum_by greatest ys ≤ sum_by greatest xs
    → (k : ℕ) → k < length xs → greatest (get_or ys k []) ≤ greatest (get_or xs k [])
each_le [] ys e h t k l = absurd (omega (arith, l))
each_le (x ∷ xs) [] e h t k l = absurd (omega (arith, e))
each_le (x ∷ xs) (y ∷ ys) e h t zero l =
    let r = sums_le xs ys (omega (arith, e)) (λ k l. h (suc k) (omega (arith, l))) in
    omega (arith, sum_by-cons greatest x xs, sum_by-cons greatest y ys, r, t)
each_le (x ∷ xs) (y ∷ ys) e h t (suc k) l =
    each_le xs ys (omega (arith, e)) (λ k l. h (suc k) (omega (arith, l)))
    (omega (arith, sum_by-cons greatest x xs, sum_by-cons greatest y ys, h zero (omega arith), t)) k (omega (arith, l))

module _ (f : Frame) (old new : ClassLists) (a : IsClasses f.parents old) (b : IsClasses f.parents new) (turn : IsTurn f old new) where
  -- what a turn keeps together was together
  pub turn_refines : Refines f new old
  turn_refines round s t some le c = ((turn round s t some le c.first_in c.second_in).0 c.same).before

  module _ (k : ℕ) (l : k < length old) where
    in' : k + 1 ≤ length f.parents
    in' = omega (arith, l, a.rounds)

    back : k + 1 - 1 ≡ k
    back = omega arith

    long_old : length (get_or old k []) ≡ signal_count f (k + 1)
    long_old = ap (λ j. length (get_or old j [])) (sym back) ∙ a.lengths (k + 1) (omega arith) in'

    long_new : length (get_or new k []) ≡ signal_count f (k + 1)
    long_new = ap (λ j. length (get_or new j [])) (sym back) ∙ b.lengths (k + 1) (omega arith) in'

    finer : IsFinerList (get_or new k []) (get_or old k [])
    finer i j li lj e =
        let at : (lists : ClassLists) (s : ℕ) → class_of lists (k + 1) s ≡ get_or (get_or lists k []) s 0 =
        λ lists s. ap (λ m. get_or (get_or lists m []) s 0) back in
        sym (at old i)
        ∙ turn_refines (k + 1) i j (omega arith) in' (record {
          first_in =
              omega (arith, li, long_new);
          second_in = omega (arith, lj, long_new);
          same = at new i ∙ e ∙ sym (at new j);
        })
        ∙ at old j

    counted : (greatest (get_or old k []) ≤ greatest (get_or new k [])) × (greatest (get_or new k []) ≤ greatest (get_or old k []) → (i : ℕ)
        → i < length (get_or old k []) → get_or (get_or old k []) i 0 ≡ get_or (get_or new k []) i 0)
    counted =
        finer_and_no_more (get_or old k []) (get_or new k []) (long_old ∙ sym long_new)
        (subst (λ j. IsNumbered (get_or old j [])) back (a.numbered (k + 1) (omega arith) in'))
        (subst (λ j. IsNumbered (get_or new j [])) back (b.numbered (k + 1) (omega arith) in')) finer

  round_same : sum_by greatest new ≤ sum_by greatest old → (k : ℕ) → k < length old → get_or old k [] ≡ get_or new k []
  round_same t k l =
      let no_more = each_le old new (a.rounds ∙ sym b.rounds) (λ k l. (counted k l).0) t k l in
      same_number_lists (get_or old k []) (get_or new k []) (long_old k l ∙ sym (long_new k l)) ((counted k l).1 no_more)

  pub unchanged : sum_by greatest new ≤ sum_by greatest old → old ≡ new
  unchanged t =
      same_lists old new (a.rounds ∙ sym b.rounds)
      (λ k d l. get_or_default old k d [] l ∙ round_same t k l ∙ get_or_default new k [] d (omega (arith, l, a.rounds, b.rounds)))

-- ---- the turns

-- the classes `new` are one turn after classes that every lossless refinement of `from` refines, which number `total`
pub record IsUnderway (f : Frame) (from new : ClassLists) (total : ℕ) : Type 0 where
  pub old : ClassLists
  pub classes : IsClasses f.parents old
  pub refines : Refines f old from
  pub keeps : (other : ClassLists) → IsLossless f other → Refines f other from → Refines f other old
  pub turn : IsTurn f old new
  pub counted : total ≡ sum_by greatest old

module _ (f : Frame) (q : InRange f) (from new : ClassLists) (total : ℕ) (k : IsClasses f.parents new) (h : IsUnderway f from new total) where
  pub one_more : (next : ClassLists) (n : ℕ) → IsTurn f new next → n ≡ sum_by greatest new → IsUnderway f from next n
  one_more next n turn e = record {
    old = new;
    classes = k;
    refines = λ round s t some le c. h.refines round s t some le (record {
      first_in = c.first_in;
      second_in = c.second_in;
      same = turn_refines f h.old new h.classes k h.turn round s t some le c;
    });
    keeps = turn_invariant f (is_table f q) from h.old new h.keeps h.turn;
    turn = turn;
    counted = e;
  }

  -- where a turn adds no class, its classes are the coarsest
  pub ended : 0 < last_round f → sum_by greatest new ≤ total → IsCoarsestLossless f from new
  ended some t =
      let e : h.old ≡ new = unchanged f h.old new h.classes k h.turn (omega (arith, t, h.counted)) in
      subst (IsCoarsestLossless f from) e
      (coarsest_at_end f (is_table f q) from h.old new some h.refines h.keeps h.turn
      (λ round s t some le c. subst (λ lists. class_of lists round s ≡ class_of lists round t) e c.same) h.classes)
