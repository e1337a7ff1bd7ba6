-- A walk over a row, pair by pair: where it stands, and what is known of the pair there.
use Rattle.std.proofs.Common.{◌≡◌, ℕ, zero, suc, ◌+◌, ◌-◌, ◌*◌, ◌<◌, ◌≤◌, ◌^◌, List, [], ◌∷◌, length, get_or, drop, take, sym, ap, ◌∙◌, subst, arith}
use Rattle.std.proofs.lemmas.List.{length-drop, take_all}
use Rattle.std.specs.Prelude.{ℤ, pos, ◌+ℤ◌, ◌*ℤ◌, unsigned_abs}
use Rattle.gs_model.specs.{Classes.{ClassLists, IsClass, IsClasses, classes_in}, Frame.{Frame, end_at, end_count, payoff_to, round_of}}
use Rattle.gs_model.specs.{FrameFacts.{InRange, IsWalked}, Pairs.{pair_sum}, Positions.{End, at_end}, Sums.{sum_z}}
use Rattle.gs_model.proofs.{Sparse.{sum_z-more}, Tables.{is_table}}
use Rattle.gs_seq.specs.{Abstracts.{abstract_frame, lists_of}, Payoffs.{pair_pays}, Rows.{IsRow}, declared.form.Abstract.{Abstract}, declared.pair.Pair.{Pair}}
use Rattle.gs_seq.proofs.EndSums.{class_few_weight, pays_few, prefix_small, product_few, row_sum, signed_few, weight_few}
use Rattle.gs_seq.proofs.{Forms.{AreGiven, given_in, one_or_two}, RowFacts.{row_class}, Sizes.{AreModest}}

-- how many items the walk has passed where so many are left
abbrev pub passed : {X : Type 0} → List X → List X → ℕ
passed row left = length row - length left

-- the walk stands at an item of the row
pub record IsTurn {X : Type 0} (row left rest : List X) (x : X) : Type 0 where
  pub inside : passed row left < length row
  pub read : (d : X) → get_or row (passed row left) d ≡ x
  pub next : passed row rest ≡ passed row left + 1
  pub on : rest ≡ drop (passed row rest) row

dropped : {X : Type 0} (row : List X) (i : ℕ) (x : X) (rest : List X) → drop i row ≡ x ∷ rest
    → (i < length row) × ((d : X) → get_or row i d ≡ x) × (drop (i + 1) row ≡ rest)
dropped [] zero x rest h = absurd (let k : [] ≡ x ∷ rest = h in cc)
dropped [] (suc i) x rest h = absurd (let k : [] ≡ x ∷ rest = h in cc)
dropped (y ∷ ys) zero x rest h =
    let one : 0 + 1 ≡ 1 = omega arith in
    let item : y ≡ x = cc in
    let tail : ys ≡ rest = cc in
    (omega arith, (λ d. item), ap (λ n. drop n (y ∷ ys)) one ∙ tail)
dropped (y ∷ ys) (suc i) x rest h =
    let r = dropped ys i x rest h in
    let more : suc i + 1 ≡ suc (i + 1) = omega arith in
    (omega (arith, r.0), r.1, ap (λ n. drop n (y ∷ ys)) more ∙ r.2)

pub turn : {X : Type 0} (row left rest : List X) (x : X) → left ≡ drop (passed row left) row → left ≡ x ∷ rest → IsTurn row left rest x
turn row left rest x on first =
    let r = dropped row (passed row left) x rest (sym on ∙ first) in
    let long = ap length first in
    let some = ap length on in
    let more : passed row rest ≡ passed row left + 1 = omega (arith, long, r.0, some, length-drop (passed row left) row) in
    record { inside = r.0; read = r.1; next = more; on = sym r.2 ∙ ap (λ n. drop n row) (sym more) }

-- nothing is passed where the walk begins
pub none_passed : {X : Type 0} (row left : List X) → left ≡ row → passed row left ≡ 0
none_passed row left same = omega (arith, ap length same)

pub begun : {X : Type 0} (row left : List X) → left ≡ row → left ≡ drop (passed row left) row
begun row left same = same ∙ ap (λ n. drop n row) (sym (none_passed row left same))

pub all_passed : {X : Type 0} (row left : List X) → left ≡ [] → length row ≤ passed row left
all_passed row left none = omega (arith, ap length none)

-- what is known of a pair of a row at an end
pub record IsKnown (f : Frame) (lists : ClassLists) (player z : ℕ) (p : Pair) : Type 0 where
  pub class : IsClass lists (round_of f (at_end z)) p.two
  pub weight : p.weight ≤ 67108864
  pub signed : unsigned_abs p.signed ≤ 9 * p.weight
  pub pays : unsigned_abs (pair_pays player (end_at f z) p) ≤ 36864 * p.weight

pub known : (f : Frame) (r : InRange f) (lists : ClassLists) (k : IsClasses f.parents lists) (player : ℕ) (w : IsWalked f player) (few : AreModest f) (z : ℕ)
    (l : z < end_count f) (c : ℕ) (row : List Pair)
    → IsRow f lists (round_of f (at_end z)) c row → (left rest : List Pair) (p : Pair) → IsTurn row left rest p → IsKnown f lists player z p
known f r lists k player w few z l c row h left rest p t =
    subst (IsKnown f lists player z) (t.read p) (record {
      class = row_class f (is_table f r) lists k (round_of f (at_end z)) (w.end_round z l) (w.end_in z l) c row h (passed row left) p t.inside;
      weight = weight_few f r lists k player w few z l c row h (passed row left) p t.inside;
      signed = signed_few f r lists k player w few z l c row h (passed row left) p t.inside;
      pays = pays_few f r lists k player w few z l c row h (passed row left) p t.inside;
    })

-- sums over the pairs that are passed: one more, all
pub sum_turned : (v : Pair → ℤ) (row left rest : List Pair) (p : Pair) → IsTurn row left rest p → (sum part : ℤ) → sum ≡ sum_z v (take (passed row left) row)
    → part ≡ v p → sum +ℤ part ≡ sum_z v (take (passed row rest) row)
sum_turned v row left rest p t sum part h e =
    let i = passed row left in
    ap (λ z. z +ℤ part) h ∙ ap (λ z. sum_z v (take i row) +ℤ z) (e ∙ ap v (sym (t.read p))) ∙ sym (sum_z-more v row i p t.inside)
    ∙ ap (λ n. sum_z v (take n row)) (sym t.next)

pub sum_ended : (v : Pair → ℤ) (row left : List Pair) → left ≡ [] → (sum : ℤ) → sum ≡ sum_z v (take (passed row left) row) → sum ≡ sum_z v row
sum_ended v row left none sum h = h ∙ ap (sum_z v) (take_all (passed row left) row (all_passed row left none))

-- the walk has come so far: what is left of the row, and the sum over the pairs that are passed
pub record IsCome (v : Pair → ℤ) (row left : List Pair) (sum : ℤ) : Type 0 where
  pub on : left ≡ drop (passed row left) row
  pub all : sum ≡ sum_z v (take (passed row left) row)

pub come_begun : (v : Pair → ℤ) (row left : List Pair) → left ≡ row → IsCome v row left (pos 0)
come_begun v row left same = record { on = begun row left same; all = ap (λ n. sum_z v (take n row)) (sym (none_passed row left same)) }

come_further : (v : Pair → ℤ) (row left rest : List Pair) (p : Pair) (sum part : ℤ) → IsCome v row left sum → IsTurn row left rest p → part ≡ v p
    → IsCome v row rest (sum +ℤ part)
come_further v row left rest p sum part h t e = record { on = t.on; all = sum_turned v row left rest p t sum part h.all e }

-- what an end pays a player in the deals of a pair, times the number of the pair's second class
abbrev pub paid : Abstract → ℕ → ℕ → (ℕ → ℕ) → Pair → ℤ
paid a player z n p = pos (n p.two) *ℤ pair_pays player (end_at (abstract_frame a) z) p

pub paid_as : (player k m : ℕ) (e o : End) (p : Pair) → e ≡ o → k ≡ m → pos k *ℤ pair_pays player e p ≡ pos m *ℤ pair_pays player o p
paid_as player k m e o p same is = ap (λ x. pos k *ℤ pair_pays player x p) same ∙ ap (λ n. pos n *ℤ pair_pays player o p) is

-- a row of a game in sequence form, at an end and for a player
pub record IsAlong (a : Abstract) (player z c : ℕ) (row : List Pair) : Type 0 where
  pub some : 0 < player
  pub two : player ≤ 2
  pub inside : z < end_count (abstract_frame a)
  pub is_row : IsRow (abstract_frame a) (lists_of a) (round_of (abstract_frame a) (at_end z)) c row

-- where the walk stands at a pair: what is known of it, and that the sum fits with what the end pays there, by numbers of classes that are not over the
-- greatest total, and has come one pair further
pub record IsHere (a : Abstract) (player z : ℕ) (row rest : List Pair) (p : Pair) (n : ℕ → ℕ) (sum : ℤ) : Type 0 where
  pub known : IsKnown (abstract_frame a) (lists_of a) player z p
  pub fits : (part : ℤ) → part ≡ paid a player z n p → ((e : ℕ) → IsClass (lists_of a) (round_of (abstract_frame a) (at_end z)) e → n e ≤ 2 ^ 36)
      → unsigned_abs (sum +ℤ part) < 2 ^ 127
  pub further : (part next : ℤ) → part ≡ paid a player z n p → next ≡ sum +ℤ part → IsCome (paid a player z n) row rest next

module _ (a : Abstract) (player z c : ℕ) (row : List Pair) (u : IsAlong a player z c row) (n : ℕ → ℕ) where
  g : AreGiven (abstract_frame a) (lists_of a)
  g = given_in a

  w : IsWalked (abstract_frame a) player
  w = g.walked player u.some u.two

  sums_fit : ((e : ℕ) → IsClass (lists_of a) (round_of (abstract_frame a) (at_end z)) e → n e ≤ 2 ^ 36) → (i : ℕ) (s : ℤ)
      → s ≡ sum_z (paid a player z n) (take i row) → unsigned_abs s < 2 ^ 127
  sums_fit few i s is =
      let size = prefix_small (abstract_frame a) g.in_range (lists_of a) g.classes player w g.modest z u.inside c row u.is_row n (2 ^ 36) few i in
      let weight = class_few_weight (abstract_frame a) g.in_range (lists_of a) g.classes player w g.modest z u.inside c row u.is_row in
      omega (arith, size, product_few (2 ^ 36) _ (omega arith) weight, ap unsigned_abs is)

  pub here_in : (left rest : List Pair) (p : Pair) (sum : ℤ) → IsCome (paid a player z n) row left sum → left ≡ p ∷ rest → IsHere a player z row rest p n sum
  here_in left rest p sum h first =
      let t = turn row left rest p h.on first in
      record {
        known = known (abstract_frame a) g.in_range (lists_of a) g.classes player w g.modest z u.inside c row u.is_row left rest p t;
        fits = λ part e few. sums_fit few (passed row rest) (sum +ℤ part) (come_further (paid a player z n) row left rest p sum part h t e).all;
        further = λ part next e is. subst (IsCome (paid a player z n) row rest) (sym is) (come_further (paid a player z n) row left rest p sum part h t e);
      }

  pub sum_is_all : (left : List Pair) (s : ℤ) → IsCome (paid a player z n) row left s → left ≡ []
      → s ≡ sum_z (λ e. pos (n e) *ℤ pair_sum (abstract_frame a) (lists_of a) (lists_of a) (round_of (abstract_frame a) (at_end z))
      (payoff_to (abstract_frame a) player z) c e)
      (classes_in (lists_of a) (round_of (abstract_frame a) (at_end z)))
  sum_is_all left s h none =
      sum_ended (paid a player z n) row left none s h.all
      ∙ row_sum (abstract_frame a) (lists_of a) player (one_or_two player u.some u.two) w z u.inside c row u.is_row g.in_range g.classes n
