-- What is known of the parts of a signal on one aspect.
use Rattle.std.proofs.Common.{◌≡◌, ℕ, suc, ◌+◌, ◌-◌, Bool, true, List, length, map, ap, sym, subst, ◌∙◌, arith, sum_by, append-nil}
use Rattle.std.proofs.lemmas.Bool.Decides.{Decides-eqb}
use Rattle.std.specs.{Prelude.{All, ◌==◌, ◌<◌, filter, flat_map}, List.{range_with_len}}
use Rattle.gs_model.specs.{Classes.{ClassLists}, Deals.{Deal, deals}, Frame.{Frame, frame_of, last_round, signal_count}}
use Rattle.gs_model.specs.Signals.{child_count, first_child, signals}
use Rattle.gs_model.proofs.{SingleCards.{children_within}, Walked.{last_round_of}}
use Rattle.gs_tree.specs.{Trees.{rules_of}, declared.signals.Signals.{Signals}}
use Rattle.gs_lossless.specs.{Amounts.{AreAmounts, ArePartsOf, HasAspect, IsRun, counted_part, deal_part, deal_parts, keys_of}, Sums.{AreSumsOf, weight_at}}
use Rattle.gs_lossless.specs.{declared.parts.Part.{Part}, declared.aspects.Aspect.{Aspect}, declared.aspects.Aspect.TheVariants.{Deals, Children}}
use Rattle.gs_lossless.proofs.Descent.{child_run, playable, run_start}
use Rattle.gs_lossless.proofs.Weighed.{children_amount, children_some, children_total, deals_amount, deals_some, deals_total}

pub before_last : (f : Frame) (aspect : Aspect) (round : ℕ) → aspect ≡ Children → HasAspect f aspect round → round < last_round f
before_last f Deals round is h = absurd (cc)
before_last f Children round is h = h.1

pub of_children : (s : Signals) (lists : ClassLists) (aspect : Aspect) (round x : ℕ) (keys : List ℕ) (parts : List Part) (start end : ℕ) → aspect ≡ Children
    → HasAspect (frame_of (rules_of s)) aspect round → keys ≡ keys_of (frame_of (rules_of s)) lists aspect round
    → x < length (signals (rules_of s) round) → start ≡ first_child (rules_of s) round x
    → end ≡ first_child (rules_of s) round x + child_count (rules_of s) round x
    → parts ≡ map (counted_part keys) (range_with_len start (end - start)) → ArePartsOf (frame_of (rules_of s)) lists aspect round x parts
of_children s lists Deals round x keys parts start end is h are l from to e = absurd (cc)
of_children s lists Children round x keys parts start end is h are l from to e =
    let g = rules_of s in
    let first = first_child g round x in
    let n = child_count g round x in
    let run = child_run g (playable s) round x h.0 (omega (arith, h.1, last_round_of g)) l in
    let many : end - start ≡ n = omega (arith, from, to) in
    let all = e ∙ ap (λ k. map (counted_part keys) (range_with_len k (end - start))) from ∙ ap (λ k. map (counted_part keys) (range_with_len first k)) many
    ∙ ap (λ (ks : List ℕ). map (counted_part ks) (range_with_len first n)) are in
    subst (ArePartsOf (frame_of g) lists Children round x) (sym all) (record {
      some = children_some (keys_of (frame_of g) lists Children round) first n;
      fits = omega (
        arith,
        children_total (keys_of (frame_of g) lists Children round) first n,
        children_within g round x l,
        s.game.now.limits.signals_in (suc round) (omega (arith, h.1, last_round_of g)),
      );
      sum = children_amount g lists round x first n run;
    })

pub of_deals : (s : Signals) (lists : ClassLists) (aspect : Aspect) (round x : ℕ) (keys : List ℕ) (parts : List Part) (by : Bool) (first end : ℕ) → aspect ≡ Deals
    → keys ≡ keys_of (frame_of (rules_of s)) lists aspect round → by ≡ (round == last_round (frame_of (rules_of s)))
    → IsRun (frame_of (rules_of s)) round x first end → parts ≡ deal_parts (deals (rules_of s)) keys by first end
    → ArePartsOf (frame_of (rules_of s)) lists aspect round x parts
of_deals s lists Children round x keys parts by first end is are same run e = absurd (cc)
of_deals s lists Deals round x keys parts by first end is are same run e =
    let g = rules_of s in
    let all = e ∙ ap (λ (ks : List ℕ). deal_parts (deals g) ks by first end) are in
    subst (ArePartsOf (frame_of g) lists Deals round x) (sym all) (record {
      some = deals_some g (keys_of (frame_of g) lists Deals round) by first end;
      fits = omega (arith, deals_total g (keys_of (frame_of g) lists Deals round) by first end, s.game.now.limits.weight_in);
      sum = λ c o. deals_amount g (playable s) lists round x first end run c o by same;
    })

-- in the last round the parts of a signal are those of its own deals
pub of_last : (s : Signals) (lists : ClassLists) (aspect : Aspect) (round x : ℕ) (keys : List ℕ) → aspect ≡ Deals
    → keys ≡ keys_of (frame_of (rules_of s)) lists aspect round → round ≡ last_round (frame_of (rules_of s)) → x < signal_count (frame_of (rules_of s)) round
    → ArePartsOf (frame_of (rules_of s)) lists aspect round x (map (deal_part keys true) (filter (λ (d : Deal). d.one == x) (deals (rules_of s))))
of_last s lists aspect round x keys is are last l =
    let g = rules_of s in
    let at : ℕ → List Part = λ k. map (deal_part keys true) (filter (λ (d : Deal). d.one == k) (deals g)) in
    let one : x + 1 - x ≡ 1 = omega arith in
    let run = subst (λ (r : ℕ). IsRun (frame_of g) r x x (x + 1)) (sym last) (run_start g (playable s) (last_round (frame_of g)) x
    (subst (λ (r : ℕ). x < signal_count (frame_of g) r) last l)) in
    of_deals s lists aspect round x keys (at x) true x (x + 1) is are (sym ((Decides-eqb round (last_round (frame_of g))).1 last)) run
    (sym (ap (λ (n : ℕ). flat_map at (range_with_len x n)) one ∙ append-nil (at x)))

-- other parts of the same totals
pub same_parts : (f : Frame) (lists : ClassLists) (aspect : Aspect) (round s : ℕ) (parts others : List Part) → ArePartsOf f lists aspect round s parts
    → All (λ (p : Part). 0 < p.weight) others → ((h : Part → ℕ) → sum_by h others ≡ sum_by h parts) → ArePartsOf f lists aspect round s others
same_parts f lists aspect round s parts others are some same = record {
  some = some;
  fits = omega (arith, are.fits, same (λ p. p.weight));
  sum = λ c o. same (weight_at c o) ∙ are.sum c o;
}

-- sums of the parts are those of the signal
pub amounts_from : (f : Frame) (lists : ClassLists) (aspect : Aspect) (round s : ℕ) (parts sums : List Part) → ArePartsOf f lists aspect round s parts
    → AreSumsOf parts sums → AreAmounts f lists aspect round s sums
amounts_from f lists aspect round s parts sums h are = record { rises = are.rises; sum = λ c o. are.sum c o ∙ h.sum c o }
