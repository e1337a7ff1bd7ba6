-- What is parted by fair numbers is a proposal; the mixed sums of deals and of children are fair.
use Rattle.std.proofs.Common.{◌≡◌, ◌+◌, ◌-◌, ◌*◌, ◌<◌, ◌≤◌, ◌++◌, ℕ, ℤ, zero, suc, pos, Bool, true, false, cond, eqb, List, [], ◌∷◌, length, get_or, map, refl}
use Rattle.std.proofs.Common.{replicate, sym, ap, ◌∙◌, subst, arith, slice_set, sum_by, ⊎_elim}
use Rattle.std.proofs.{Math.IntN.{*ℤ_comm, +ℤ_idl}, lemmas.Bool.{cases_eq}, lemmas.Bool.Decides.{Decides-eqb}, lemmas.Int.{ints}}
use Rattle.std.proofs.lemmas.List.{get_or-map, get_or-replicate, get_or-set_other, get_or-set_same, length-replicate, map-id}
use Rattle.std.proofs.{lemmas.List.FromFn.{map-range_with_len_more}, lemmas.List.Sums.{sum_by-append, sum_by-cons}}
use Rattle.std.specs.{Prelude.{◌==◌, ◌%◌, ◌^◌, ◌+ℤ◌, ◌*ℤ◌, All, filter, slice_index}, List.{range_with_len}}
use borrow.Author.Differences.{product_is}
use Rattle.gs_boards.specs.{Boards.{deal_remainder, deal_sum, paid, remainder}, declared.pays.Pays.TheVariants.{Showdown}}
use Rattle.gs_model.specs.{Classes.{ClassLists, InOneClass, class_of, list_of}, Deals.{Deal, deals}, Sums.{sum_z}}
use Rattle.gs_model.specs.{Frame.{Frame, ancestor, frame_of, last_round, parents_of, signal_count, signals_in}, FrameFacts.{InRange}}
use Rattle.gs_model.specs.{Game.{Game, IsPlayable, round_count}, Lossless.{IsLossless}, Refinement.{IsCoarsestLossless, Refines}, Signals.{parents}}
use Rattle.gs_model.proofs.{Alike.{alike_items, fair_children, fair_last}, Lift.{by_pair, pair_exact, pair_test}, Ranges.{parents_at}, RawBound.{All-range}}
use Rattle.gs_model.proofs.{Regroup.{sum_z-pos}, Total.{mul_assoc_z, sum_z-same}, Basics.{pos-injective, not_eq}, Walked.{last_round_of}}
use Rattle.gs_lossless.proofs.Descent.{parent_is, tabled}
use Rattle.gs_split.specs.{Proposal.{AreFair, AreFairFrom, IsProposal, child_number, child_term, mixed}, Turns.{AreParted, HaveNumbers}}

-- ---- what fair numbers part

module _ (f : Frame) (old numbers : ClassLists) (h : AreFairFrom f old 1 numbers) where
  fair_at : (round : ℕ) → 0 < round → round ≤ last_round f → AreFair f old round (list_of numbers round)
  fair_at round some le =
      let e : 1 + (round - 1) ≡ round = omega (arith, some) in
      subst (λ r. AreFair f old r (list_of numbers round)) e (h.each (round - 1) (omega (arith, some, le, h.rounds)))

  pub fair_have : HaveNumbers f numbers
  fair_have = record { rounds = omega (arith, h.rounds); each = λ round some le. (fair_at round some le).long }

  module _ (q : InRange f) (new : ClassLists) (p : AreParted f old numbers new) where
    parted_refines : Refines f new old
    parted_refines round s t some le c =
        let e = p.each round some le in
        ((e.classes.same s t (omega (arith, c.first_in, e.long)) (omega (arith, c.second_in, e.long))).0 c.same).before

    -- a round parts no two signals that a lossless refinement keeps together, where the round before parts none
    kept_here : (other : ClassLists) → IsLossless f other → Refines f other old → (round s t : ℕ) → 0 < round → round ≤ last_round f
        → InOneClass f other round s t
        → (1 < round → class_of new (round - 1) (get_or (parents_of f round) s 0) ≡ class_of new (round - 1) (get_or (parents_of f round) t 0))
        → class_of new round s ≡ class_of new round t
    kept_here other l r round s t some le c above =
        let e = p.each round some le in
        (e.classes.same s t (omega (arith, c.first_in, e.long)) (omega (arith, c.second_in, e.long))).1
        (record { before = r round s t some le c; parents = above; number = (fair_at round some le).same other l r s t c })

    -- the parents of signals of one class are of one class
    parents_in_one : (other : ClassLists) → IsLossless f other → (round s t : ℕ) → 1 < round → round ≤ last_round f → InOneClass f other round s t
        → InOneClass f other (round - 1) (get_or (parents_of f round) s 0) (get_or (parents_of f round) t 0)
    parents_in_one other l round s t more le c =
        let e : round - 1 + 1 ≡ round = omega (arith, more) in
        let P : ℕ → Type 0 = λ i. s < length (list_of f.parents i) → t < length (list_of f.parents i) → class_of other i s ≡ class_of other i t
        → class_of other (round - 1) (get_or (list_of f.parents i) s 0) ≡ class_of other (round - 1) (get_or (list_of f.parents i) t 0) in
        let kin : P round = subst P e (l.filter (round - 1) s t (omega (arith, more)) (omega (arith, more, le))) in
        record {
          first_in = q.parents round s more c.first_in;
          second_in = q.parents round t more c.second_in;
          same = kin c.first_in c.second_in c.same;
        }

    kept_to : (other : ClassLists) → IsLossless f other → Refines f other old → (n round s t : ℕ) → round ≡ n + 1 → round ≤ last_round f
        → InOneClass f other round s t → class_of new round s ≡ class_of new round t
    kept_to other l r zero round s t e le c = kept_here other l r round s t (omega (arith, e)) le c (λ more. absurd (omega (arith, e, more)))
    kept_to other l r (suc n) round s t e le c =
        kept_here other l r round s t (omega (arith, e)) le c
        (λ more. kept_to other l r n (round - 1) (get_or (parents_of f round) s 0) (get_or (parents_of f round) t 0) (omega (arith, e)) (omega (arith, le))
        (parents_in_one other l round s t more le c))

    pub parted_proposal : IsProposal f old new
    parted_proposal = record {
      refines = parted_refines;
      keeps = λ other l r round s t some le c. kept_to other l r (round - 1) round s t (omega (arith, some)) le c;
    }

-- numbers of one more round stand before those of the later rounds
pub fair_more : (f : Frame) (lists numbers : ClassLists) (here : List ℕ) (round : ℕ) → AreFairFrom f lists (round + 1) numbers → AreFair f lists round here
    → AreFairFrom f lists round (here ∷ numbers)
fair_more f lists numbers here round h fair = record { rounds = omega (arith, h.rounds); each = each }
  where
    each : (k : ℕ) → k < length (here ∷ numbers) → AreFair f lists (round + k) (get_or (here ∷ numbers) k [])
    each zero l = let e : round ≡ round + 0 = omega arith in subst (λ r. AreFair f lists r here) e fair
    each (suc k) l = let e : round + 1 + k ≡ round + suc k = omega arith in
        subst (λ r. AreFair f lists r (get_or numbers k [])) e (h.each k (omega (arith, l)))

pub fair_last_alone : (f : Frame) (lists : ClassLists) (last : List ℕ) (round : ℕ) → round ≡ last_round f → AreFair f lists (last_round f) last
    → AreFairFrom f lists round (last ∷ [])
fair_last_alone f lists last round is fair = record { rounds = omega (arith, is); each = each }
  where
    each : (k : ℕ) → k < length (last ∷ []) → AreFair f lists (round + k) (get_or (last ∷ []) k [])
    each zero l = let e : last_round f ≡ round + 0 = omega (arith, is) in subst (λ r. AreFair f lists r last) e fair
    each (suc k) l = absurd (omega (arith, l))

-- ---- the coarsest refinement of a proposal

pub coarsest_of : (f : Frame) (from start lists : ClassLists) → IsProposal f from start → IsCoarsestLossless f start lists → IsCoarsestLossless f from lists
coarsest_of f from start lists h c = record {
  classes = c.classes;
  lossless = c.lossless;
  refines = λ round s t some le one. h.refines round s t some le (record {
    first_in = one.first_in;
    second_in = one.second_in;
    same = c.refines round s t some le one;
  });
  coarsest = λ other l r. c.coarsest other l (h.keeps other l r);
}

-- ---- sums of deals

turned_out : (a b w : ℤ) → a *ℤ (w *ℤ b) ≡ w *ℤ (a *ℤ b)
turned_out a b w = sym (mul_assoc_z a w b) ∙ ap (λ z. z *ℤ b) (*ℤ_comm a w) ∙ mul_assoc_z w a b

nothing_times : (z : ℤ) → pos 0 *ℤ z ≡ pos 0
nothing_times z = omega (arith, ints)

-- a sum over some items is one over all, with weight 0 for the others
over_all : (a b : Deal → ℤ) (s : ℕ) (ds : List Deal)
    → sum_z (λ (d : Deal). a d *ℤ (pos d.weight *ℤ b d)) (filter (λ (d : Deal). d.one == s) ds)
    ≡ sum_z (λ (d : Deal). pos (cond (d.one == s) d.weight 0) *ℤ (a d *ℤ b d)) ds
over_all a b s [] = refl
over_all a b s (d ∷ ds) = go (d.one == s) (over_all a b s ds)
  where
    rest : List Deal
    rest = filter (λ (d : Deal). d.one == s) ds

    term : Deal → ℤ
    term d = a d *ℤ (pos d.weight *ℤ b d)

    all : ℤ
    all = sum_z (λ (d : Deal). pos (cond (d.one == s) d.weight 0) *ℤ (a d *ℤ b d)) ds

    go : (c : Bool) → sum_z term rest ≡ all → sum_z term (cond c (d ∷ rest) rest) ≡ pos (cond c d.weight 0) *ℤ (a d *ℤ b d) +ℤ all
    go true r = ap (λ z. term d +ℤ z) r ∙ ap (λ z. z +ℤ all) (turned_out (a d) (b d) (pos d.weight))
    go false r = r ∙ sym (ap (λ z. z +ℤ all) (nothing_times (a d *ℤ b d)) ∙ +ℤ_idl all)

module _ (g : Game) (p : IsPlayable g) (lists other : ClassLists) (l : IsLossless (frame_of g) other) (r : Refines (frame_of g) other lists) where
  module _ (long : length (list_of lists (last_round (frame_of g))) ≡ signal_count (frame_of g) (last_round (frame_of g))) where
    -- the other's mixed class
    abbrev against : Deal → ℤ
    against d = pos (slice_index (map mixed (list_of lists (last_round (frame_of g)))) d.two)

    abbrev value : Deal → ℤ
    value d = against d *ℤ paid (Showdown 1) d.outcome

    abbrev weighs : ℕ → Deal → ℕ
    weighs s d = cond (ancestor (frame_of g) (last_round (frame_of g)) (last_round (frame_of g)) d.one == s) d.weight 0

    against_is : (x : ℕ) → x < signal_count (frame_of g) (last_round (frame_of g))
        → get_or (map mixed (list_of lists (last_round (frame_of g)))) x 0 ≡ mixed (class_of lists (last_round (frame_of g)) x)
    against_is x lt = get_or-map mixed (list_of lists (last_round (frame_of g))) x 0 0 (omega (arith, lt, long))

    sum_is : (s : ℕ) → deal_sum g (map mixed (list_of lists (last_round (frame_of g)))) (paid (Showdown 1)) s
        ≡ sum_z (λ (d : Deal). pos (weighs s d) *ℤ value d) (deals g)
    sum_is s =
        over_all against (λ (d : Deal). paid (Showdown 1) d.outcome) s (deals g)
        ∙ sum_z-same (λ (d : Deal). pos (cond (d.one == s) d.weight 0) *ℤ value d) (λ (d : Deal). pos (weighs s d) *ℤ value d)
        (λ (d : Deal). ap (λ x. pos (cond {A = ℕ} (x == s) d.weight 0) *ℤ value d) (sym ((tabled g p).itself (last_round (frame_of g)) d.one))) (deals g)

    -- deals whose second signals are of one class of the refinement, with one outcome, count the same
    same_value : (x y : Deal) → x.two < signal_count (frame_of g) (last_round (frame_of g)) → y.two < signal_count (frame_of g) (last_round (frame_of g))
        → 0 < last_round (frame_of g)
        → class_of other (last_round (frame_of g)) x.two ≡ class_of other (last_round (frame_of g)) y.two → x.outcome ≡ y.outcome → value x ≡ value y
    same_value x y lx ly some e o =
        let c = r (last_round (frame_of g)) x.two y.two some (omega arith) (record { first_in = lx; second_in = ly; same = e }) in
        ap (λ n. pos n *ℤ paid (Showdown 1) x.outcome) (against_is x.two lx ∙ ap mixed c ∙ sym (against_is y.two ly))
        ∙ ap (λ z. against y *ℤ paid (Showdown 1) z) o

    pub sums_same : 0 < last_round (frame_of g) → (s t : ℕ) → InOneClass (frame_of g) other (last_round (frame_of g)) s t
        → deal_sum g (map mixed (list_of lists (last_round (frame_of g)))) (paid (Showdown 1)) s
        ≡ deal_sum g (map mixed (list_of lists (last_round (frame_of g)))) (paid (Showdown 1)) t
    sums_same some s t c =
        let n = last_round (frame_of g) in
        let h = tabled g p in
        let self : (x : ℕ) → ancestor (frame_of g) n n x ≡ x = λ x. h.itself n x in
        sum_is s
        ∙ alike_items pair_test pair_exact (λ (d : Deal). (class_of other n (ancestor (frame_of g) n n d.two), d.outcome)) (weighs s) (weighs t) value
        (deals g)
        (λ y dy ly x dx lx e.
        same_value (get_or (deals g) x dx) (get_or (deals g) y dy) (h.dealt_two x dx lx) (h.dealt_two y dy ly) some
        (ap (class_of other n) (sym (self (get_or (deals g) x dx).two)) ∙ ap (λ (k : ℕ × ℤ). k.0) e
        ∙ ap (class_of other n) (self (get_or (deals g) y dy).two)) (ap (λ (k : ℕ × ℤ). k.1) e))
        (λ k. by_pair (frame_of g) other n refl s t k (λ a. fair_last (frame_of g) other l some s t k.0 k.1 a) c)
        ∙ sym (sum_is t)

  -- ---- sums of children

  guarded : (b : Bool) (n : ℕ) → pos (cond b n 0) ≡ pos (cond {A = ℕ} b 1 0) *ℤ pos n
  guarded true n = omega (arith, ints, product_is (pos 1) (pos n))
  guarded false n = omega (arith, ints, product_is (pos 0) (pos n))

  pub children_same : (round : ℕ) (numbers : List ℕ) → 0 < round → round < last_round (frame_of g) → AreFair (frame_of g) lists (round + 1) numbers
      → (s t : ℕ) → InOneClass (frame_of g) other round s t
      → child_number (parents g (round + 1)) (list_of lists (round + 1)) numbers s
      ≡ child_number (parents g (round + 1)) (list_of lists (round + 1)) numbers t
  children_same round numbers some lt fair s t c =
      ap (λ n. n % 2 ^ 32) (pos-injective (sum s) (sum t) (turn s ∙ alike_items eqb Decides-eqb (class_of other (round + 1)) (above s) (above t) value
      (signals_in (frame_of g) (round + 1)) even (λ k. fair_children (frame_of g) other l round s t k some lt c) ∙ sym (turn t)))
    where
      ps : List ℕ
      ps = parents g (round + 1)

      term : ℕ → ℕ
      term x = child_term (list_of lists (round + 1)) numbers x

      value : ℕ → ℤ
      value x = pos (term x)

      above : ℕ → ℕ → ℕ
      above s x = cond (ancestor (frame_of g) (round + 1) round x == s) 1 0

      sum : ℕ → ℕ
      sum s = sum_by (λ x. cond (get_or (parents g (round + 1)) x 0 == s) (child_term (list_of lists (round + 1)) numbers x) 0)
          (range_with_len 0 (length (parents g (round + 1))))

      turn : (s : ℕ) → pos (sum s) ≡ sum_z (λ x. pos (above s x) *ℤ value x) (signals_in (frame_of g) (round + 1))
      turn s =
          let top : round + 1 ≤ round_count g = omega (arith, lt, last_round_of g) in
          let e : length ps ≡ signal_count (frame_of g) (round + 1) = ap (λ (l : List ℕ). length l) (sym (parents_at g (round + 1) (omega arith) top)) in
          ap (λ n. pos (sum_by (λ x. cond (get_or ps x 0 == s) (term x) 0) (range_with_len 0 n))) e
          ∙ sym (sum_z-pos (λ x. cond (get_or ps x 0 == s) (term x) 0) (signals_in (frame_of g) (round + 1)))
          ∙ sum_z-same (λ x. pos (cond (get_or ps x 0 == s) (term x) 0)) (λ x. pos (above s x) *ℤ value x)
          (λ x. ap (λ y. pos (cond {A = ℕ} (y == s) (term x) 0)) (sym (parent_is g round (round + 1) x refl top))
          ∙ guarded (ancestor (frame_of g) (round + 1) round x == s) (term x)) (signals_in (frame_of g) (round + 1))

      even : All (λ y. All (λ x. class_of other (round + 1) x ≡ class_of other (round + 1) y
          → value x ≡ value y) (signals_in (frame_of g) (round + 1))) (signals_in (frame_of g) (round + 1))
      even =
          All-range (λ y. All (λ x. class_of other (round + 1) x ≡ class_of other (round + 1) y
          → value x ≡ value y) (signals_in (frame_of g) (round + 1))) (signal_count (frame_of g) (round + 1))
          (λ y ly. All-range (λ x. class_of other (round + 1) x ≡ class_of other (round + 1) y → value x ≡ value y) (signal_count (frame_of g) (round + 1))
          (λ x lx e.
          let one : InOneClass (frame_of g) other (round + 1) x y = record { first_in = lx; second_in = ly; same = e } in
          let class = r (round + 1) x y (omega arith) (omega (arith, lt)) one in
          let number = fair.same other l r x y one in
          ap (λ k. pos (mixed (k + get_or numbers x 0 * 2 ^ 32))) class
          ∙ ap (λ k. pos (mixed (get_or (list_of lists (round + 1)) y 0 + k * 2 ^ 32))) number))

-- ---- the numbers as they are made

pub deals_fair : (g : Game) (p : IsPlayable g) (lists : ClassLists) (numbers : List ℕ)
    → length (list_of lists (last_round (frame_of g))) ≡ signal_count (frame_of g) (last_round (frame_of g)) → 0 < last_round (frame_of g)
    → length numbers ≡ signal_count (frame_of g) (last_round (frame_of g))
    → ((s : ℕ) → s < length (list_of lists (last_round (frame_of g)))
    → pos (get_or numbers s 0) ≡ deal_remainder g (map mixed (list_of lists (last_round (frame_of g)))) s)
    → AreFair (frame_of g) lists (last_round (frame_of g)) numbers
deals_fair g p lists numbers long some all is = record {
  long = all;
  same = λ other l r s t c.
      pos-injective (get_or numbers s 0) (get_or numbers t 0)
      (is s (omega (arith, c.first_in, long)) ∙ ap remainder (sums_same g p lists other l r long some s t c)
      ∙ sym (is t (omega (arith, c.second_in, long))));
}

pub children_fair : (g : Game) (p : IsPlayable g) (lists : ClassLists) (round : ℕ) (below numbers : List ℕ) → 0 < round → round < last_round (frame_of g)
    → AreFair (frame_of g) lists (round + 1) below
    → length numbers ≡ signal_count (frame_of g) round
    → ((s : ℕ) → s < length numbers → get_or numbers s 0 ≡ child_number (parents g (round + 1)) (list_of lists (round + 1)) below s)
    → AreFair (frame_of g) lists round numbers
children_fair g p lists round below numbers some lt fair all is = record {
  long = all;
  same = λ other l r s t c. is s (omega (arith, c.first_in, all)) ∙ children_same g p lists other l r round below some lt fair s t c
      ∙ sym (is t (omega (arith, c.second_in, all)));
}

-- ---- one more child

one_more : (n : ℕ) → range_with_len 0 (n + 1) ≡ range_with_len 0 n ++ n ∷ []
one_more n =
    let e : 0 + n ≡ n = omega arith in
    sym (map-id (range_with_len 0 (n + 1))) ∙ map-range_with_len_more (λ k. k) 0 n n e ∙ ap (λ l. l ++ n ∷ []) (map-id (range_with_len 0 n))

-- the terms of the first children of a signal
abbrev pub terms_to : List ℕ → List ℕ → List ℕ → ℕ → ℕ → ℕ
terms_to ps classes numbers n s = sum_by (λ x. cond (get_or ps x 0 == s) (child_term classes numbers x) 0) (range_with_len 0 n)

terms_more : (ps classes numbers : List ℕ) (n s : ℕ) → terms_to ps classes numbers (n + 1) s
    ≡ terms_to ps classes numbers n s + cond (get_or ps n 0 == s) (child_term classes numbers n) 0
terms_more ps classes numbers n s =
    let t : ℕ → ℕ = λ x. cond (get_or ps x 0 == s) (child_term classes numbers x) 0 in
    ap (sum_by t) (one_more n) ∙ sum_by-append t (range_with_len 0 n) (n ∷ []) ∙ omega (arith, sum_by-cons t n [])

pub child_more : (ps classes numbers sums : List ℕ) (n place term : ℕ) → place ≡ get_or ps n 0 → place < length sums → term ≡ child_term classes numbers n
    → ((s : ℕ) → s < length sums → get_or sums s 0 ≡ terms_to ps classes numbers n s % 2 ^ 32)
    → (s : ℕ) → s < length sums → get_or (slice_set sums place ((get_or sums place 0 + term) % 2 ^ 32)) s 0 ≡ terms_to ps classes numbers (n + 1) s % 2 ^ 32
child_more ps classes numbers sums n place term at inside is h s l = ⊎_elim
    (λ here.
    let test : (get_or ps n 0 == s) ≡ true = (Decides-eqb (get_or ps n 0) s).1 (sym at ∙ sym here) in
    let more : terms_to ps classes numbers (n + 1) s ≡ terms_to ps classes numbers n s + term =
    terms_more ps classes numbers n s ∙ ap (λ b. terms_to ps classes numbers n s + cond {A = ℕ} b (child_term classes numbers n) 0) test
    ∙ ap (λ k. terms_to ps classes numbers n s + k) (sym is) in
    ap (λ i. get_or (slice_set sums place ((get_or sums place 0 + term) % 2 ^ 32)) i 0) here
    ∙ get_or-set_same sums place ((get_or sums place 0 + term) % 2 ^ 32) 0 inside
    ∙ ap (λ k. (k + term) % 2 ^ 32) (ap (λ i. get_or sums i 0) (sym here) ∙ h s l) ∙ folded_once (terms_to ps classes numbers n s) term
    ∙ ap (λ k. k % 2 ^ 32) (sym more))
    (λ ne.
    let test : (get_or ps n 0 == s) ≡ false = not_eq (get_or ps n 0) s (λ t. ne (sym t ∙ sym at)) in
    let more : terms_to ps classes numbers (n + 1) s ≡ terms_to ps classes numbers n s =
    terms_more ps classes numbers n s ∙ ap (λ b. terms_to ps classes numbers n s + cond {A = ℕ} b (child_term classes numbers n) 0) test ∙ omega arith in
    get_or-set_other sums place s ((get_or sums place 0 + term) % 2 ^ 32) 0 ne ∙ h s l ∙ ap (λ k. k % 2 ^ 32) (sym more))
    (cases_eq s place)
  where
    folded_once : (a b : ℕ) → (a % 2 ^ 32 + b) % 2 ^ 32 ≡ (a + b) % 2 ^ 32
    folded_once a b = omega arith

pub child_none : (ps classes numbers sums : List ℕ) (count : ℕ) → sums ≡ replicate count 0 → (s : ℕ) → s < length sums
    → get_or sums s 0 ≡ terms_to ps classes numbers 0 s % 2 ^ 32
child_none ps classes numbers sums count is s l =
    ap (λ (xs : List ℕ). get_or xs s 0) is ∙ get_or-replicate count s 0 0
    (omega (arith, l, ap (λ (xs : List ℕ). length xs) is, length-replicate {A = ℕ} count 0))
