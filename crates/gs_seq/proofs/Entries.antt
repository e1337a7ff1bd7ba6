-- The pairs of a row one by one, and the first one behind a class.
use Rattle.std.proofs.Common.{◌≡◌, ℕ, pos, suc, ◌<◌, ◌≤◌, cond, List, [], ◌∷◌, length, get_or, refl, sym, ap, ◌∙◌, arith, sum_by, ⊎_elim, subst, nat_lt}
use Rattle.std.proofs.{lemmas.Bool.{cases_lt, lt-ltb}, lemmas.List.Sums.{sum_by-cons}}
use Rattle.std.specs.Prelude.{◌==◌, All, MatchOption, Option, Some, None}
use Rattle.gs_model.specs.{Classes.{ClassLists}, Deals.{Deal}, Frame.{Frame}}
use Rattle.gs_model.proofs.Basics.{not_eq}
use Rattle.gs_seq.specs.{Cells.{IsPairAfter, MeetsNoneAfter}, Rows.{IsRow, signed_in, weight_in}, Singles.{IsFirstAfter}, declared.pair.Pair.{Pair}}
use Rattle.gs_seq.proofs.{Meeting.{meets_at}, RowFacts.{signed_at_pair, weight_at_pair}}

-- ---- entries of a row

none_at : (v : Pair → ℕ) (row : List Pair) (d : Pair) → ((j : ℕ) → j < length row → v (get_or row j d) ≡ 0) → sum_by v row ≡ 0
none_at v [] d h = refl
none_at v (p ∷ ps) d h = omega (arith, sum_by-cons v p ps, h 0 (omega arith), none_at v ps d (λ j k. h (suc j) (omega arith)))

-- for a class of none of its pairs it holds nothing
pub weight_of_none : (row : List Pair) (d : Pair) (e : ℕ) → ((j : ℕ) → j < length row → (get_or row j d).two ≡ e → ⊥) → weight_in row e ≡ 0
weight_of_none row d e h = none_at (λ (p : Pair). cond (p.two == e) p.weight 0) row d
    (λ j l. ap (λ b. cond b (get_or row j d).weight 0) (not_eq ((get_or row j d).two) e (h j l)))

-- the pair that stands first behind a class in a row
pub after_in_row : (f : Frame) (lists : ClassLists) (round c after : ℕ) (row : List Pair) (o : Option Pair) → All (λ (d : Deal). 0 < d.weight) f.deals
    → IsRow f lists round c row
    → MatchOption o (All (λ (p : Pair). p.two ≤ after) row) (IsFirstAfter row after)
    → MatchOption o (MeetsNoneAfter f lists round c after) (IsPairAfter f lists round c after)
after_in_row f lists round c after row None weigh r h =
    λ e l. meets_at f lists weigh round c e row r ∙ ap (nat_lt 0) (none e l)
  where
    none : (e : ℕ) → after < e → weight_in row e ≡ 0
    none e l = elim row as (λ (row : List Pair). ((k : ℕ) (d : Pair) → k < length row → (get_or row k d).two ≡ e → ⊥) → weight_in row e ≡ 0) [
      | [] ↦ λ g. refl
      | (p ∷ ps) ↦ λ g. weight_of_none (p ∷ ps) p e (λ j lj. g j p lj)
    ] (λ k d lk is. (let b = h k d lk in omega arith))
after_in_row f lists round c after row (Some p) weigh r h =
    let place = h.place in
    let is : p ≡ get_or row place p = sym (h.read p) in
    let here : weight_in row p.two ≡ p.weight = subst (λ (q : Pair). weight_in row q.two ≡ q.weight) (sym is) (weight_at_pair row p r.rises place h.inside) in
    let sign : signed_in row p.two ≡ p.signed = subst (λ (q : Pair). signed_in row q.two ≡ q.signed) (sym is) (signed_at_pair row p r.rises place h.inside) in
    let some : 0 < p.weight = subst (λ (q : Pair). 0 < q.weight) (sym is) (r.rises.some place p h.inside) in
    let other : (e : ℕ) → after < e → e < p.two → weight_in row e ≡ 0 = λ e le lt. weight_of_none row p e (λ j lj k. ⊎_elim
    (λ (l : j < place). (let b = h.before j p l in omega arith))
    (λ (l : place ≤ j). ⊎_elim
    (λ (m : place < j). (let b = r.rises.ascends place j p m lj in let i = ap (λ (q : Pair). q.two) is in omega arith))
    (λ (m : j ≤ place). (let n : j ≡ place = omega arith in let i = ap (λ (q : Pair). q.two) is ∙ ap (λ v. (get_or row v p).two) (sym n) in omega arith))
    (cases_lt place j))
    (cases_lt j place)) in
    record {
      later = h.above;
      met = meets_at f lists weigh round c p.two row r ∙ lt-ltb 0 (weight_in row p.two) (omega (arith, here, some));
      between = λ e le lt. meets_at f lists weigh round c e row r ∙ ap (nat_lt 0) (other e le lt);
      weight = ap pos (sym here) ∙ r.weights p.two;
      signed = sym sign ∙ r.signed p.two;
    }
