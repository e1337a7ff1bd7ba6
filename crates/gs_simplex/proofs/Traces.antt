-- The pivots and bases noted on the way, with the aim's value at both ends, are the trace of the path; no basis comes twice.
use Rattle.std.proofs.Common.{◌≡◌, ℕ, ◌+◌, ◌<◌, ◌≤◌, List, Vec, Global, inl, inr, [], ◌∷◌, ◌++◌, length, slice_index, slice_index_or, slice_set, suc, ℤ, ◌*ℤ◌}
use Rattle.std.proofs.Common.{refl, sym, ap, subst, ◌∙◌, arith}
use Rattle.std.proofs.{lemmas.Bool.{cases_lt}, lemmas.List.{length_push, get_or_append_left, get_or_push, get_or_default, take_all}}
use Rattle.std.specs.{Prelude.{Contains}, List.{HoldsAt}}
use Rattle.gs_frac.specs.declared.value.Fraction.{Fraction}
use Rattle.gs_simplex.specs.{declared.program.Program.{Program}, Program.{Listing, ColListed, IsPairList, IsRegularList, IsOpening}}
use Rattle.gs_simplex.specs.{Path.{States, IsPath, NoneEnters, ends, Stops, PathStops}, declared.answer.{Turn.{Turn}, Path.{Path}, PathTrace.{PathTrace}}}
use Rattle.gs_simplex.specs.{Table.{table_aim, IsTable}, State.{IsSoFar, IsTurnAt}, Answer.{IsSmallTable}}
use Rattle.gs_simplex.specs.Trace.{IsBasis, IsBasisAt, IsAimValue, IsTurnOf, IsShown, IsTrace, IsReachedBy, AreTurns, AreBases, without_bases}
use Rattle.gs_simplex.proofs.{Opening.{path_trail, bases_differ}, PairLists.{pair_list_is_list, pivot_keeps_regular_lem, taken_is_regular_lem}}
use Rattle.gs_simplex.proofs.{Agree.{Agree, lists_same, paths_agree}, Multiples.{down_fraction}, Paths.{turn_same_as, ends_stops}}

-- the listed columns among the first `count`, counted from 1, in rising order
pub record IsBasisBelow (l : Listing) (count : ℕ) (columns : List ℕ) : Type 0 where
  pub rises : (k h : ℕ) → k < h → h < length columns → slice_index columns k < slice_index columns h
  pub listed : (k : ℕ) → k < length columns → (j : ℕ) × (slice_index columns k ≡ j + 1) × (j < count) × ColListed l j
  pub all : (j : ℕ) → j < count → ColListed l j → Contains columns (j + 1)

-- what holds of each element after a push
pub holds_push : {X : Type 0} (P : ℕ → X → Type 0) (xs : List X) (x : X) (n : ℕ) → length xs ≡ n → ((k : ℕ) → k < n → HoldsAt (P k) xs k) → P n x → (k : ℕ)
    → k < n + 1 → HoldsAt (P k) (xs ++ x ∷ []) k
holds_push P xs x n long old new k h d = elim (cases_lt k n) [
  | inl l ↦ (let Q = P k in subst Q (sym (get_or_append_left xs (x ∷ []) d k (omega arith))) (old k l d))
  | inr g ↦ (let e : k ≡ n = omega arith in let q : length xs ≡ k = omega arith in
      let R : ℕ → Type 0 = λ t. P t x in let Q = P k in subst Q (sym (get_or_push xs x d k q)) (subst R (sym e) new))
]

-- one more pivot noted, and one more basis
pub turns_more : (p : Program) (o : Listing) (turns : List Turn) (turn : Turn) → AreTurns p o turns → IsTurnAt p o (length o + length turns) turn
    → AreTurns p o (turns ++ turn ∷ [])
turns_more p o turns turn u t k h =
    holds_push (λ k. IsTurnAt p o (length o + k)) turns turn (length turns) refl u t k (omega (arith, h, length_push turns turn))

pub bases_none : (p : Program) (o : Listing) → AreBases p o 0 []
bases_none p o = record { long = refl; bases = λ k h. absurd (omega arith) }

pub bases_more : (p : Program) (o : Listing) (n : ℕ) (bases : List (Vec ℕ Global)) (basis : Vec ℕ Global) → AreBases p o n bases
    → IsBasisAt p o (length o + n) basis.items → AreBases p o (n + 1) (bases ++ basis ∷ [])
bases_more p o n bases basis u b = record {
  long = omega (arith, length_push bases basis, u.long);
  bases = holds_push (λ k v. IsBasisAt p o (length o + k) v.items) bases basis n u.long u.bases b;
}

-- ---- the columns of a list
pub basis_skip : (l : Listing) (j : ℕ) (cs : List ℕ) → IsBasisBelow l j cs → (ColListed l j → ⊥) → IsBasisBelow l (j + 1) cs
basis_skip l j cs u out = record {
  rises = u.rises;
  listed = λ k h. (let z = u.listed k h in (z.0, z.1, omega (arith, z.2), z.3));
  all = λ i h c. elim (cases_lt i j) [
    | inl less ↦ u.all i less c
    | inr more ↦ (let e : i ≡ j = omega arith in let P : ℕ → Type 0 = λ x. ColListed l x in absurd (out (subst P e c)))
  ];
}

module _ (l : Listing) (j : ℕ) (cs : List ℕ) (u : IsBasisBelow l j cs) (here : ColListed l j) where
  old_at : (k : ℕ) → k < length cs → slice_index (cs ++ (j + 1) ∷ []) k ≡ slice_index cs k
  old_at k h = get_or_append_left cs ((j + 1) ∷ []) 0 k h

  new_at : (k : ℕ) → k < length (cs ++ (j + 1) ∷ []) → (length cs ≤ k) → slice_index (cs ++ (j + 1) ∷ []) k ≡ j + 1
  new_at k h g = get_or_push cs (j + 1) 0 k (omega (arith, length_push cs (j + 1)))

  pub basis_push : IsBasisBelow l (j + 1) (cs ++ (j + 1) ∷ [])
  basis_push = record {
    rises = λ k h kh hl.
        let kl : k < length cs = omega (arith, length_push cs (j + 1)) in
        let a = old_at k kl in
        elim (cases_lt h (length cs)) [
          | inl less ↦ (let r = u.rises k h kh less in let b = old_at h less in omega arith)
          | inr more ↦ (let z = u.listed k kl in let y : z.0 < j = z.2 in let x : slice_index cs k ≡ z.0 + 1 = z.1 in let b = new_at h hl more in omega arith)
        ];
    listed = λ k h. elim (cases_lt k (length cs)) [
      | inl less ↦ (let z = u.listed k less in (z.0, old_at k less ∙ z.1, omega (arith, z.2), z.3))
      | inr more ↦ (j, new_at k h more, omega arith, here)
    ];
    all = λ i h c. elim (cases_lt i j) [
      | inl less ↦ (let z = u.all i less c in (z.0, omega (arith, z.1, length_push cs (j + 1)), get_or_append_left cs ((j + 1) ∷ []) (i + 1) z.0 z.1 ∙ z.2))
      | inr more ↦ (let e : j + 1 ≡ i + 1 = omega arith in (
        length cs,
        omega (arith, length_push cs (j + 1)),
        get_or_push cs (j + 1) (i + 1) (length cs) refl
            ∙ e,
      ))
    ];
  }

pub basis_whole : (p : Program) (l : Listing) (count : ℕ) (cs : List ℕ) → IsPairList p l → p.cols ≤ count → IsBasisBelow l count cs → IsBasis l cs
basis_whole p l count cs pairs h u = record {
  rises = u.rises;
  listed = λ k kl. (let z = u.listed k kl in (z.0, z.1, z.3));
  all = λ j c. (let jn : j < p.cols = (pair_list_is_list pairs).column_inside c.0 j c.1 in u.all j (omega arith) c);
}

-- equal bases list the same columns
same_columns : (l m : Listing) (a b : List ℕ) → IsBasis l a → IsBasis m b → a ≡ b → (j : ℕ) → ColListed l j → ColListed m j
same_columns l m a b u w e j h =
    let P : List ℕ → Type 0 = λ x. Contains x (j + 1) in
    let c : Contains b (j + 1) = subst P e (u.all j h) in
    let z = w.listed c.0 c.1 in
    let q : z.0 + 1 ≡ j + 1 = sym z.1 ∙ get_or_default b c.0 0 (j + 1) c.1 ∙ c.2 in
    let s : z.0 ≡ j = omega arith in
    let C : ℕ → Type 0 = λ x. ColListed m x in subst C s z.2

-- the first steps of a path
path_front : (p : Program) (o : Listing) (t k : ℕ) (s : States) → IsPath p o t s → k ≤ t → IsPath p o k s
path_front p o t k s u h = record {
  opens = λ i ik io. u.opens i (omega arith) io;
  pivots = λ i oi ik. u.pivots i oi (omega arith);
  rows = λ i ik. u.rows i (omega arith);
  narrow = λ i z ik. u.narrow i z (omega arith);
}

module _ (p : Program) (o : Listing) (n : ℕ) (s : States) (ok : IsOpening p o) (path : IsPath p o (length o + n) s) where
  -- another path has the same list after k pivots
  list_same : (k t : ℕ) (r : States) → IsPath p o t r → k ≤ n → length o + k ≤ t → s.lists (length o + k) ≡ r.lists (length o + k)
  list_same k t r w h g = lists_same ok path w k (omega arith) g

  agrees : (k t : ℕ) (r : States) → IsPath p o t r → k ≤ n → length o + k ≤ t
      → Agree p (s.rows (length o + k)) (r.rows (length o + k)) (s.aim (length o + k)) (r.aim (length o + k))
  agrees k t r w h g = paths_agree ok path w k (omega arith) g

  pub turn_is : (k : ℕ) → k < n → (turn : Turn) → IsTurnAt p o (length o + k) turn → IsTurnOf s (length o + k) turn
  turn_is k h turn w =
      let t = length o + k in let r = w.0 in
      let pv = w.1.pivots t (omega arith) (omega arith) in
      let full = (path_trail ok w.1 k (omega arith)).0 in
      let z = turn_same_as t (omega arith) (path_front p o (length o + n) (t + 1) s path (omega arith))
      (list_same k (t + 1) r w.1 (omega arith) (omega arith)) (agrees k (t + 1) r w.1 (omega arith) (omega arith)) full.is_list pv.enters pv.place.4 in
      (w.2 ∙ ap (λ x. x + 1) (sym z.0), w.3 ∙ ap (λ x. x + 1) (sym z.1))

  pub basis_is : (k : ℕ) → k ≤ n → (columns : List ℕ) → IsBasisAt p o (length o + k) columns → IsBasis (s.lists (length o + k)) columns
  basis_is k h columns w = let P : Listing → Type 0 = λ x. IsBasis x columns in subst P (sym (list_same k (length o + k) w.0 w.1 h (omega arith))) w.2

  pub value_is : (k : ℕ) → k ≤ n → (l : Listing) (grid : ℕ → ℕ → ℤ) (f : Fraction) → IsSoFar p o (length o + k) l grid → IsAimValue p (table_aim p grid) f
      → IsAimValue p (s.aim (length o + k)) f
  value_is k h l grid f u e =
      let t = length o + k in let r = u.states.0 in
      let ag = agrees k t r u.states.1 h (omega arith) in
      let m = u.states.3.aim_kept.by in
      ap (λ x. f.num *ℤ x) (ag.aim (p.cols + 1) (omega arith))
      ∙ down_fraction m.0 f.num f.den (table_aim p grid (p.cols + 1)) (table_aim p grid p.cols) (r.aim t (p.cols + 1)) (r.aim t p.cols) m.1
      (m.2 (p.cols + 1) (omega arith)) (m.2 p.cols (omega arith)) e ∙ ap (λ x. x *ℤ f.den) (sym (ag.aim p.cols (omega arith)))

  pub bases_apart : (k h : ℕ) → k < h → h ≤ n → (a b : List ℕ) → IsBasis (s.lists (length o + k)) a → IsBasis (s.lists (length o + h)) b → a ≡ b → ⊥
  bases_apart k h kh hn a b u w e =
      bases_differ ok path (length o + k) (length o + h) (omega arith) (omega arith) (omega arith)
      (same_columns (s.lists (length o + h)) (s.lists (length o + k)) b a w u (sym e))
      (same_columns (s.lists (length o + k)) (s.lists (length o + h)) a b u w e)

-- ---- all together
pub shown_of : (p : Program) (o : Listing) (limit n : ℕ) (t : Path) (l0 l : Listing) (grid0 grid : ℕ → ℕ → ℤ) → IsSmallTable p → IsOpening p o
    → IsSoFar p o (length o) l0 grid0 → IsAimValue p (table_aim p grid0) t.start
    → IsSoFar p o (length o + n) l grid → IsTable p grid → n ≤ limit → NoneEnters p l (table_aim p grid) → IsAimValue p (table_aim p grid) t.aim
    → length t.turns.items ≡ n → AreTurns p o t.turns.items → IsShown p o limit t
shown_of p o limit n t l0 l grid0 grid small ok u0 start u table within none aim long turns =
    let stop : PathStops p o limit (ends n l) = ends_stops n u table within none in
    let s = stop.stops.1 in
    let W : ℕ → Type 0 = λ x. Stops p o limit x s (ends n l) in
    let w : Stops p o limit (length o + n) s (ends n l) = subst W stop.stops.2.2 stop.stops.2 in
    let path : IsPath p o (length o + n) s = w.0.path in
    let q : length o ≡ length o + 0 = omega arith in
    let S : ℕ → Type 0 = λ x. IsSoFar p o x l0 grid0 in let V : ℕ → Type 0 = λ x. IsAimValue p (s.aim x) t.start in
    record {
      small = small;
      path = (
        n,
        l,
        s,
        w,
        record {
          turns_long = long;
          turns = λ k h d. turn_is p o n s ok path k h (slice_index_or t.turns.items k d) (turns k (omega arith) d);
          start = subst V (sym q) (value_is p o n s ok path 0 (omega arith) l0 grid0 t.start (subst S q u0) start);
          aim = value_is p o n s ok path n (omega arith) l grid t.aim u aim;
        },
      );
    }

-- the opening is reached before any pivot
pub shown_begins : (p : Program) (o : Listing) (limit : ℕ) (t : Path) → IsShown p o limit t → IsReachedBy p o 0 o
shown_begins p o limit t h =
    let s = h.path.2 in let path = h.path.3.0.path in
    let opened : s.lists (length o + 0) ≡ o = path.opens (length o + 0) (omega arith) (omega arith) ∙ take_all (length o + 0) o (omega arith) in
    (s, path_front p o (length o + h.path.0) (length o + 0) s path (omega arith), opened)

-- the pivots that are shown are the first ones
pub shown_turns : (p : Program) (o : Listing) (limit : ℕ) (t : Path) → IsShown p o limit t → AreTurns p o t.turns.items
shown_turns p o limit t h k inside d =
    let (n, l, s, stops, u) = h.path in let here = u.turns k (omega (arith, u.turns_long)) d in
    (s, path_front p o (length o + n) (length o + k + 1) s stops.0.path (omega (arith, u.turns_long)), here.0, here.1)

pub with_bases : (p : Program) (o : Listing) (limit : ℕ) (t : PathTrace) → IsOpening p o → IsShown p o limit (without_bases t)
    → AreBases p o (length t.turns.items + 1) t.bases.items → IsTrace p o limit t
with_bases p o limit t ok shown noted =
    let (n, l, s, stops, u) = shown.path in let path = stops.0.path in let long = u.turns_long in
    let found = λ (k : ℕ) (d : Vec ℕ Global). (slice_index_or t.bases.items k d).items in
    let basis = λ (k : ℕ) (h : k ≤ n) (d : Vec ℕ Global). basis_is p o n s ok path k h (found k d) (noted.bases k (omega arith) d) in
    record {
      small = shown.small;
      path = (n, l, s, stops, record { shown = u; bases_long = omega (arith, noted.long); bases = basis });
      bases_differ = λ k h kh hl x y e.
          let hn : h ≤ n = omega (arith, noted.long) in
          bases_apart p o n s ok path k h kh hn (found k x) (found h y) (basis k (omega arith) x) (basis h hn y) e;
    }

-- ---- the list after each pivot, made anew
pub record IsReplayed (p : Program) (o : Listing) (n : ℕ) (l : Listing) : Type 0 where
  pub pairs : IsPairList p l
  pub regular : IsRegularList p l
  pub reached : IsReachedBy p o n l

pub replayed_none : (p : Program) (o : Listing) → IsOpening p o → IsReachedBy p o 0 o → IsReplayed p o 0 o
replayed_none p o ok r = let w = taken_is_regular_lem p o ok.taken in record { pairs = w.0; regular = w.1; reached = r }

pub replayed_more : (p : Program) (o : Listing) (n : ℕ) (l next : Listing) (turn : Turn) → IsOpening p o → IsReplayed p o n l → IsTurnAt p o (length o + n) turn
    → ((q : ℕ) → q < length l → (slice_index_or l q (0, 0)).1 ≡ turn.leave → next ≡ slice_set l q ((slice_index_or l q (0, 0)).0, turn.enter))
    → IsReplayed p o (n + 1) next
replayed_more p o n l next turn ok u w replaced =
    let t = length o + n in let r = w.0 in let path = w.1 in let v = path.pivots t (omega arith) (omega arith) in
    let same : l ≡ r.lists t = sym u.reached.2 ∙ lists_same ok u.reached.1 path n (omega arith) (omega arith) in
    let more : suc t ≡ length o + (n + 1) = omega arith in
    let pair : slice_index_or l v.place.0 (0, 0) ≡ (v.place.1 + 1, r.leaving t + 1) = ap (λ x. slice_index_or x v.place.0 (0, 0)) same ∙ v.place.3 in
    let is : next ≡ r.lists (suc t) =
    replaced v.place.0 (omega (arith, ap length same, v.place.2)) (ap (λ (x : ℕ × ℕ). x.1) pair ∙ sym w.3)
    ∙ ap (λ (x : ℕ × ℕ). slice_set l v.place.0 (x.0, turn.enter)) pair ∙ ap (λ x. slice_set l v.place.0 (v.place.1 + 1, x)) w.2
    ∙ ap (λ x. slice_set x v.place.0 (v.place.1 + 1, r.entering t + 1)) same ∙ sym v.place.5 in
    let P : Listing → Type 0 = λ x. IsPairList p x × IsRegularList p x in
    let kept = pivot_keeps_regular_lem p (r.lists t) (r.rows t) (r.aim t) (r.lists (suc t)) (r.entering t) (r.leaving t) (subst P same (u.pairs, u.regular)).0
    (subst P same (u.pairs, u.regular)).1 (path.rows t (omega arith)) v in
    let Q : ℕ → Type 0 = λ k. IsPath p o k r in let L : ℕ → Type 0 = λ k. r.lists k ≡ next in
    let e : t + 1 ≡ length o + (n + 1) = omega arith in
    record {
      pairs = (subst P (sym is) kept).0;
      regular = (subst P (sym is) kept).1;
      reached = (r, subst Q e path, subst L more (sym is));
    }

-- its columns are the basis there
pub basis_at : (p : Program) (o : Listing) (n : ℕ) (l : Listing) (columns : List ℕ) → IsReplayed p o n l → IsBasis l columns
    → IsBasisAt p o (length o + n) columns
basis_at p o n l columns u b = let P : Listing → Type 0 = λ x. IsBasis x columns in (u.reached.0, u.reached.1, subst P (sym u.reached.2) b)
