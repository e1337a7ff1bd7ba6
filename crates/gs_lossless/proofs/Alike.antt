-- Signals that see the same deals agree on the aspect of deals.
use Rattle.std.proofs.Common.{◌≡◌, ◌+◌, ◌-◌, ◌<◌, ◌==◌, ◌∷◌, [], ℕ, ℤ, true, List, map, get_or, refl, sym, ap, ◌∙◌, subst, arith}
use Rattle.std.proofs.{lemmas.Bool.Decides.{Decides-eqb}, lemmas.List.{append-nil}, lemmas.List.FromFn.{get_or-map-range_with_len}}
use Rattle.std.proofs.lemmas.List.Sorted.{IsPermutation-map, sum_by-IsPermutation}
use Rattle.std.specs.{Prelude.{flat_map}, List.{filter, range_with_len}, List.Sorted.{IsPermutation}}
use Rattle.gs_model.specs.{Classes.{ClassLists, class_of}, Deals.{Deal, deals}, Frame.{at_round, frame_of, last_round, signal_count}}
use Rattle.gs_model.specs.Game.{Game, IsPlayable, round_count}
use Rattle.gs_model.proofs.Walked.{last_round_of}
use Rattle.gs_tree.specs.Walk.{last_count}
use Rattle.gs_lossless.specs.Alike.{AreAlike, AreStandIns, seen, seen_by}
use Rattle.gs_lossless.specs.{Amounts.{HaveEqualAmounts, AreAspectFirsts, HasAspect, amount, deal_part, key_count, keys_of}, Sums.{sum_at, weight_at}}
use Rattle.gs_lossless.specs.{declared.parts.Part.{Part}, declared.aspects.Aspect.{Aspect}, declared.aspects.Aspect.TheVariants.{Deals, Children}}
use Rattle.gs_lossless.proofs.{Descent.{count_last, run_start, tabled}, Weighed.{deals_amount}}

-- the part that a deal is, from how it is seen
abbrev part : ℕ × ℤ × ℕ → Part
part d = record { class = d.0; outcome = d.1; weight = d.2 }

parts_seen : (keys : List ℕ) (ds : List Deal) → map (deal_part keys true) ds ≡ map part (map (seen_by keys) ds)
parts_seen keys [] = refl
parts_seen keys (d ∷ ds) = ap (λ (l : List Part). deal_part keys true d ∷ l) (parts_seen keys ds)

module _ (g : Game) (p : IsPlayable g) (lists : ClassLists) where
  abbrev keys : List ℕ
  keys = keys_of (frame_of g) lists Deals (last_round (frame_of g))

  -- what a signal's deals come to, from how they are seen
  amount_seen : (s : ℕ) → s < signal_count (frame_of g) (last_round (frame_of g)) → (c : ℕ) (o : ℤ)
      → amount (frame_of g) lists Deals (last_round (frame_of g)) s c o ≡ sum_at (map part (seen g keys s)) c o
  amount_seen s l c o =
      let last = last_round (frame_of g) in
      let run = run_start g p last s l in
      let at : ℕ → List Part = λ x. map (deal_part keys true) (filter (λ (d : Deal). d.one == x) (deals g)) in
      let one : s + 1 - s ≡ 1 = omega arith in
      sym (deals_amount g p lists last s s (s + 1) run c o true (sym ((Decides-eqb last last).1 refl)))
      ∙ ap (λ (n : ℕ). sum_at (flat_map at (range_with_len s n)) c o) one
      ∙ ap (λ (l : List Part). sum_at l c o) (append-nil (at s) ∙ parts_seen keys (filter (λ (d : Deal). d.one == s) (deals g)))

  agree_alike : (s t : ℕ) → s < signal_count (frame_of g) (last_round (frame_of g)) → t < signal_count (frame_of g) (last_round (frame_of g))
      → AreAlike g keys s t → HaveEqualAmounts (frame_of g) lists Deals (last_round (frame_of g)) t s
  agree_alike s t ls lt like c o =
      let moved : IsPermutation (map part (seen g keys s)) (map part (seen g keys t)) = IsPermutation-map part (seen g keys s) (seen g keys t) like.deals in
      amount_seen t lt c o ∙ sum_by-IsPermutation (weight_at c o) (map part (seen g keys s)) (map part (seen g keys t)) moved ∙ sym (amount_seen s ls c o)

  -- the key of a last-round signal is its class
  key_is : (s : ℕ) → s < signal_count (frame_of g) (last_round (frame_of g)) → get_or keys s 0 ≡ class_of lists (last_round (frame_of g)) s
  key_is s l =
      let f = frame_of g in
      get_or-map-range_with_len (λ x. class_of lists (last_round f) (at_round f (last_round f) x)) 0 (signal_count f (last_round f)) s s 0 l (omega arith)
      ∙ ap (class_of lists (last_round f)) ((tabled g p).itself (last_round f) s)

  -- signals that stand for others in the last round stand for them on the aspect of deals
  deal_firsts : (firsts : List ℕ) → AreStandIns g keys firsts → AreAspectFirsts (frame_of g) lists Deals (last_round (frame_of g)) firsts
  deal_firsts firsts h =
      let f = frame_of g in
      let n = count_last g p in
      record {
        long = h.long ∙ sym n;
        before = λ s l. h.before s (omega (arith, l, h.long));
        class = λ s l.
            let ls : s < signal_count f (last_round f) = omega (arith, l, h.long, n) in
            let b = h.before s (omega (arith, l, h.long)) in
            sym (key_is (get_or firsts s 0) (omega (arith, b, ls))) ∙ sym (h.alike s (omega (arith, l, h.long))).key ∙ key_is s ls;
        agree = λ s l.
            let ls : s < signal_count f (last_round f) = omega (arith, l, h.long, n) in
            let b = h.before s (omega (arith, l, h.long)) in
            agree_alike s (get_or firsts s 0) ls (omega (arith, b, ls)) (h.alike s (omega (arith, l, h.long)));
      }

pub firsts_of_deals : (g : Game) → IsPlayable g → (aspect : Aspect) (round : ℕ) → HasAspect (frame_of g) aspect round → round ≡ round_count g
    → (lists : ClassLists) (keys firsts : List ℕ)
    → keys ≡ keys_of (frame_of g) lists aspect round → AreStandIns g keys firsts → AreAspectFirsts (frame_of g) lists aspect round firsts
firsts_of_deals g p Children round aspect e lists keys firsts is h = absurd (omega (arith, aspect.1, e, last_round_of g))
firsts_of_deals g p Deals round aspect e lists keys firsts is h =
    let f = frame_of g in
    let top : round ≡ last_round f = omega (arith, e, last_round_of g) in
    let is' : keys ≡ keys_of f lists Deals (last_round f) = is ∙ ap (keys_of f lists Deals) top in
    subst (λ (r : ℕ). AreAspectFirsts f lists Deals r firsts) (sym top) (deal_firsts g p lists firsts (subst (λ (k : List ℕ). AreStandIns g k firsts) is' h))

-- in the last round the aspect's keys are one for each last-round signal
pub last_keys : (g : Game) (aspect : Aspect) (round n : ℕ) → HasAspect (frame_of g) aspect round → round ≡ round_count g → n ≡ key_count g aspect round
    → n ≡ last_count g
last_keys g Children round n aspect e all = absurd (omega (arith, aspect.1, e, last_round_of g))
last_keys g Deals round n aspect e all = all
