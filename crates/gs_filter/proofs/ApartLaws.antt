-- Members of one class and the classes of their parents.
use Rattle.std.proofs.Common.{◌≡◌, ◌==◌, ◌+◌, ◌-◌, ◌<◌, ◌≤◌, ℕ, List, map, length, get_or, sym, ◌∙◌, ap, subst, arith}
use Rattle.std.specs.List.{position_or_len}
use Rattle.gs_model.specs.{Numbering.{greatest, IsNumbered}, Classes.{ClassLists, list_of, IsClasses}}
use Rattle.gs_filter.specs.{declared.tally.Tally.{Tally}, Tallies.{tallies_of, AreReady}, Filter.{AreParents}}
use Rattle.gs_filter.specs.Faults.{class_above, first_beside, StaysTogether, Agree, AllNumbered, AllTogether}
use Rattle.gs_filter.proofs.TallyLaws.{length-tallies_of, first_in, number_in, tally_read, round_tallies}

-- ---- one place of a list

module _ (parents above list : List ℕ) (tallies : List Tally) (ready : AreReady parents above list tallies) (s : ℕ) (l : s < length list) where
  own_class : (0 < get_or list s 0) × (get_or list s 0 ≤ greatest list)
  own_class = number_in list s ready.numbered l

  pub class_within : get_or list s 0 - 1 < length tallies
  class_within = let n = own_class in let e : length tallies ≡ greatest list = ap length ready.tallied ∙ length-tallies_of list in omega (arith, n.0, n.1)

  pub first_is : (t : Tally) → t ≡ get_or tallies (get_or list s 0 - 1) t → t.first ≡ first_beside list s
  first_is t is = let n = own_class in ap (λ (t : Tally). t.first) (tally_read list tallies (get_or list s 0) ready.tallied n.0 n.1 t is)

  pub first_within : first_beside list s < length parents
  first_within = let n = own_class in let f = first_in list (get_or list s 0) ready.numbered n.0 n.1 in omega (arith, ready.long)

  pub read_first_within : (t : Tally) → t ≡ get_or tallies (get_or list s 0 - 1) t → t.first < length parents
  read_first_within t is = subst (λ i. i < length parents) (sym (first_is t is)) first_within

  pub above_first_within : (t : Tally) → t ≡ get_or tallies (get_or list s 0 - 1) t → get_or parents t.first 0 < length above
  above_first_within t is = ready.in_range _ (read_first_within t is)

-- ---- rounds

module _ (parents : List (List ℕ)) (lists : ClassLists) (tallies : List (List Tally)) (forest : AreParents parents) (agree : Agree parents lists)
    (numbered : AllNumbered lists) (tallied : tallies ≡ map tallies_of lists) where
  pub ready_at : (round : ℕ) (ps above list : List ℕ) (ts : List Tally) → 1 < round → round ≤ length lists → ps ≡ list_of parents round
      → above ≡ list_of lists (round - 1) → list ≡ list_of lists round
      → ts ≡ get_or tallies (round - 1) ts → AreReady ps above list ts
  ready_at round ps above list ts some top p a l is =
      let both = agree.rounds in
      let here = agree.lengths round (omega arith) (omega arith) in
      let before = agree.lengths (round - 1) (omega arith) (omega arith) in
      let n = ap length p in
      let m = ap length a in
      let k = ap length l in record {
        long = omega arith;
        short = (let s = forest.short round (omega arith) (omega arith) in omega arith);
        in_range = λ s h. subst (λ (x : List ℕ). get_or x s 0 < length above) (sym p) (let r = forest.in_range round s some (omega arith) (omega arith) in
            omega arith);
        numbered = subst IsNumbered (sym l) (numbered round (omega arith) top);
        tallied = round_tallies lists tallies tallied round ts (omega arith) top is ∙ ap tallies_of (sym l);
      }

-- lists that break no rule are classes
pub classes_from : (parents : List (List ℕ)) (lists : ClassLists) → Agree parents lists → AllNumbered lists → AllTogether parents lists
    → IsClasses parents lists
classes_from parents lists agree numbered together = record {
  rounds = agree.rounds;
  lengths = agree.lengths;
  numbered = λ round some top. numbered round some (let e = agree.rounds in omega arith);
  filter = λ round s t some top ls lt same.
      let both = agree.rounds in
      let e : round + 1 - 1 ≡ round = omega arith in
      let long = agree.lengths (round + 1) (omega arith) (omega arith) in
      let ps = list_of parents (round + 1) in
      let cs = list_of lists (round + 1) in
      let at : (u : ℕ) → u < length ps → StaysTogether ps (list_of lists round) cs u =
      λ u lu. subst (λ k. StaysTogether ps (list_of lists k) cs u) e (together (round + 1) (omega arith) (omega arith) u (omega arith)) in
      sym (at s ls) ∙ ap (λ c. class_above ps (list_of lists round) (position_or_len (λ x. x == c) cs)) same ∙ at t lt;
}
