-- What a turn leaves to be told apart by sums, where the classes that it took the sums by have stayed.
use Rattle.std.proofs.Common.{◌≡◌, ◌==◌, ◌+◌, ◌-◌, ◌<◌, ◌≤◌, ◌++◌, ◌∷◌, [], ℕ, ℤ, Bool, true, false, true≢false, cond, replicate, List, length, length-append}
use Rattle.std.proofs.Common.{get_or, sum_by, sym, ap, ◌∙◌, subst, arith, ⊎_elim}
use Rattle.std.proofs.{lemmas.Bool.{cases_eq}, lemmas.List.{get_or-replicate, get_or_append_left, get_or_push, length-replicate}}
use Rattle.std.specs.Ordering.{int_eq}
use Rattle.gs_model.specs.{Classes.{ClassLists, InOneClass, list_of}, Deals.{Deal}, Frame.{Frame, ancestor, at_round, last_round, signal_count, signals_in}}
use Rattle.gs_model.specs.{Lossless.{children_in, weight_with}, RefinementTurn.{IsTurn}}
use Rattle.gs_split.specs.Turns.{AreKnown, AreTurnNumbers, HaveSameSums}

module _ (f : Frame) (old new : ClassLists) where
  -- the weight of a signal's deals is a matter of the last round's classes alone
  weight_stays : list_of old (last_round f) ≡ list_of new (last_round f) → (s c : ℕ) (o : ℤ) → weight_with f old s c o ≡ weight_with f new s c o
  weight_stays e s c o =
      ap (λ (l : List ℕ). sum_by (λ (d : Deal). cond {A = ℕ} (int_eq d.outcome o) (cond {A =
      ℕ} (get_or l (at_round f (last_round f) d.two) 0 == c) (cond {A = ℕ} (at_round f (last_round f) d.one == s) d.weight 0) 0) 0) f.deals) e

  -- and the children of a signal are one of the next round's
  children_stay : (round : ℕ) → list_of old (round + 1) ≡ list_of new (round + 1) → (s c : ℕ) → children_in f old round s c ≡ children_in f new round s c
  children_stay round e s c =
      ap (λ (l : List ℕ). sum_by (λ r. cond {A = ℕ} (get_or l r 0 == c) (cond {A = ℕ} (ancestor f (round + 1) round r == s) 1 0) 0)
      (signals_in f (round + 1))) e

  known_sums : IsTurn f old new → (round s t : ℕ) → 0 < round → round ≤ last_round f
      → (round < last_round f → list_of old (round + 1) ≡ list_of new (round + 1))
      → (round ≡ last_round f → list_of old (last_round f) ≡ list_of new (last_round f)) → InOneClass f new round s t → HaveSameSums f new round s t
  known_sums turn round s t some top below last one =
      let st = (turn round s t some top one.first_in one.second_in).0 one.same in
      record {
        sums = λ e c o. sym (weight_stays (last e) s c o) ∙ st.sums e c o ∙ weight_stays (last e) t c o;
        children = λ l c. sym (children_stay round (below l) s c) ∙ st.children l c ∙ children_stay round (below l) t c;
      }

  -- the first rounds are marked
  pub record AreKnownTo (n : ℕ) (known : List Bool) : Type 0 where
    pub long : length known ≡ n
    pub same : (round s t : ℕ) → 0 < round → round ≤ n → get_or known (round - 1) false ≡ true → InOneClass f new round s t → HaveSameSums f new round s t

  -- one more round
  pub known_more : IsTurn f old new → (n : ℕ) (known : List Bool) (b : Bool) (key : ℕ) → n < last_round f → (n + 2 ≤ last_round f → key ≡ n + 2)
      → (last_round f < n + 2 → key ≡ last_round f)
      → (b ≡ true → list_of old key ≡ list_of new key) → AreKnownTo n known → AreKnownTo (n + 1) (known ++ b ∷ [])
  known_more turn n known b key lt below top stays h = record {
    long = length-append known (b ∷ []) ∙ ap (λ k. k + 1) h.long;
    same = λ round s t some le marked one. ⊎_elim
        (λ e.
        let here : round - 1 ≡ length known = omega (arith, e, h.long) in
        let is : b ≡ true = sym (get_or_push known b false (round - 1) (sym here)) ∙ marked in
        let k = stays is in
        known_sums turn round s t some (omega (arith, e, lt))
        (λ l. let q : key ≡ round + 1 = (let j = below (omega (arith, e, l)) in omega (arith, j, e)) in subst (λ (j : ℕ). list_of old j ≡ list_of new j) q k)
        (λ l. let q : key ≡ last_round f = top (omega (arith, e, l)) in subst (λ (j : ℕ). list_of old j ≡ list_of new j) q k)
        one)
        (λ ne. h.same round s t some (omega (arith, le, ne)) (sym (get_or_append_left known (b ∷ []) false (round - 1) (omega (arith, le, ne, some, h.long)))
        ∙ marked) one)
        (cases_eq round (n + 1));
  }

  pub all_known : (n : ℕ) (known : List Bool) → n ≡ last_round f → AreKnownTo n known → AreKnown f new known
  all_known n known e h = record {
    long = h.long ∙ e;
    same = λ round s t some le marked one. h.same round s t some (omega (arith, le, e)) marked one;
  }

-- no round is marked
pub none_known : (f : Frame) (lists : ClassLists) (known : List Bool) (n : ℕ) → known ≡ replicate n false → n ≡ last_round f → AreKnown f lists known
none_known f lists known n is e = record {
  long = ap (λ (l : List Bool). length l) is ∙ length-replicate n false ∙ e;
  same = λ round s t some le marked one. absurd (true≢false (sym marked ∙ ap (λ (l : List Bool). get_or l (round - 1) false) is
      ∙ get_or-replicate n (round - 1) false false (omega (arith, some, le, e))));
}

-- equal numbers are those of members that all have the same sums
pub known_numbers : (f : Frame) (lists : ClassLists) (round : ℕ) (numbers : List ℕ) (n : ℕ) → numbers ≡ replicate n 0 → n ≡ signal_count f round
    → ((s t : ℕ) → InOneClass f lists round s t → HaveSameSums f lists round s t) → AreTurnNumbers f lists round numbers
known_numbers f lists round numbers n is e same =
    let long : length numbers ≡ n = ap (λ (l : List ℕ). length l) is ∙ length-replicate n 0 in
    record {
      long = long ∙ e;
      same = λ i j li lj one. (
        (λ _. same i j (record { first_in = omega (arith, li, long, e); second_in = omega (arith, lj, long, e); same = one })),
        (λ _. ap (λ (l : List ℕ). get_or l i 0) is ∙ get_or-replicate n i 0 0 (omega (arith, li, long))
            ∙ sym (ap (λ (l : List ℕ). get_or l j 0) is ∙ get_or-replicate n j 0 0 (omega (arith, lj, long)))),
      );
    }
