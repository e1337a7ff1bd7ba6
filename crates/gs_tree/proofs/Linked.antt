-- Tables of equal keys: for each place the first one with its key and the next one, made place by place.
use Rattle.std.proofs.Common.{◌≡◌, ◌≢◌, ◌⊎◌, inl, inr, ⊎_elim, ℕ, zero, suc, ◌+◌, ◌<◌, ◌≤◌, ◌++◌, List, [], ◌∷◌, length, take, take_all, get_or, set, replicate}
use Rattle.std.proofs.Common.{refl, sym, ap, ◌∙◌, arith, subst, Bool, true, false, cond, Option, Some, None, length-append, length-set, get_or-set_same}
use Rattle.std.proofs.{Common.{get_or-set_other, get_or-take}, lemmas.Bool.{cases_eq, cases_lt, true≢false}, lemmas.Bool.Decides.{Decides-eqb}}
use Rattle.std.proofs.{lemmas.List.{get_or_append_left, get_or-replicate, length-replicate, take_more, take_more_set}, lemmas.Slice.Eq.{slice_eq-Decides}}
use Rattle.std.proofs.Math.Seq.{get_or-append_seam}
use Rattle.std.specs.{Bool.{Decides}, Prelude.{IfSome, nat_eq, slice_set}}
use lib.Pointwise.{pointwise}
use Rattle.gs_model.specs.{Game.{Game, round_count}, Signals.{public_cards, signal_at}}
use Rattle.gs_tree.specs.{Boards.{AreBoards, first_on_board, linked}, Walk.{last_count}}
use Rattle.gs_tree.proofs.Same.{same_list, other_list}

-- the last place below n with this key
abbrev pub last_place : (ℕ → List ℕ) → ℕ → List ℕ → Option ℕ
last_place key zero b = None
last_place key (suc n) b = cond (pointwise nat_eq (key n) b) (Some n) (last_place key n b)

pub record IsLast (key : ℕ → List ℕ) (n : ℕ) (b : List ℕ) (last : ℕ) : Type 0 where
  pub below : last < n
  pub same : key last ≡ b
  pub none_after : (k : ℕ) → last < k → k < n → key k ≢ b

decided : (x y : List ℕ) → Decides (pointwise nat_eq x y) (x ≡ y)
decided x y = slice_eq-Decides Decides-eqb x y (pointwise nat_eq x y) refl

pub equal : (x y : List ℕ) → pointwise nat_eq x y ≡ true → x ≡ y
equal x y e = (decided x y).0 e

pub unequal : (x y : List ℕ) → pointwise nat_eq x y ≡ false → x ≢ y
unequal x y e same = true≢false (sym ((decided x y).1 same) ∙ e)

pub last_some : (key : ℕ → List ℕ) (n : ℕ) (b : List ℕ) (last : ℕ) → last_place key n b ≡ Some last → IsLast key n b last
last_some key zero b last e = absurd (cc)
last_some key (suc n) b last e = go (last_some key n b last) (pointwise nat_eq (key n) b) refl e
  where
    go : (last_place key n b ≡ Some last → IsLast key n b last) → (t : Bool) → pointwise nat_eq (key n) b ≡ t
        → cond t (Some n) (last_place key n b) ≡ Some last → IsLast key (suc n) b last
    go rest true h e =
        let here : n ≡ last = cc in
        record { below = omega (arith, here); same = ap key (sym here) ∙ equal (key n) b h; none_after = λ k l m. absurd (omega (arith, here)) }
    go rest false h e =
        let r = rest e in
        record {
          below = omega (arith, r.below);
          same = r.same;
          none_after = λ k l m. ⊎_elim
              (λ (at : k ≡ n). let P : ℕ → Type 0 = λ j. key j ≢ b in subst P (sym at) (unequal (key n) b h))
              (λ (ne : k ≢ n). r.none_after k l (omega arith)) (cases_eq k n);
        }

pub last_none : (key : ℕ → List ℕ) (n : ℕ) (b : List ℕ) → last_place key n b ≡ None → (k : ℕ) → k < n → key k ≢ b
last_none key zero b e k l = absurd (omega arith)
last_none key (suc n) b e k l = go (last_none key n b) (pointwise nat_eq (key n) b) refl e
  where
    go : (last_place key n b ≡ None → (k : ℕ) → k < n → key k ≢ b) → (t : Bool) → pointwise nat_eq (key n) b ≡ t → cond t (Some n) (last_place key n b) ≡ None
        → key k ≢ b
    go rest true h e = absurd (cc)
    go rest false h e = ⊎_elim
        (λ (at : k ≡ n). let P : ℕ → Type 0 = λ j. key j ≢ b in subst P (sym at) (unequal (key n) b h))
        (λ (ne : k ≢ n). rest e k (omega arith)) (cases_eq k n)

-- the last place before n is among the first n
pub last_in : (key : ℕ → List ℕ) (n : ℕ) (b : List ℕ) (o : Option ℕ) → o ≡ last_place key n b → IfSome o (λ last. last < n)
last_in key n b None e = tt
last_in key n b (Some last) e = (last_some key n b last (sym e)).below

-- the first place with a key
pub record IsFirst (key : ℕ → List ℕ) (n i first : ℕ) : Type 0 where
  pub below : first < n
  pub same : key first ≡ key i
  pub none_before : (k : ℕ) → k < first → key k ≢ key i

-- the next place with a key, among the first n of all
pub record IsNext (key : ℕ → List ℕ) (n count i next : ℕ) : Type 0 where
  pub later : i < next
  pub found : (next ≡ count) ⊎ ((next < n) × (key next ≡ key i))
  pub none_between : (k : ℕ) → i < k → k < next → k < n → key k ≢ key i

-- the tables of the first n places of all
pub record AreLinked (key : ℕ → List ℕ) (n count : ℕ) (firsts nexts : List ℕ) : Type 0 where
  pub firsts_long : length firsts ≡ n
  pub nexts_long : length nexts ≡ n
  pub first : (i : ℕ) → i < n → IsFirst key n i (get_or firsts i 0)
  pub next : (i : ℕ) → i < n → IsNext key n count i (get_or nexts i 0)

none_linked : (key : ℕ → List ℕ) (count : ℕ) → AreLinked key 0 count [] []
none_linked key count = record { firsts_long = refl; nexts_long = refl; first = λ i l. absurd (omega arith); next = λ i l. absurd (omega arith) }

-- one more member of a list, read
pub old_read : (P : ℕ → ℕ → Type 0) (xs : List ℕ) (n y : ℕ) → length xs ≡ n → ((i : ℕ) → i < n → P i (get_or xs i 0)) → P n y → (i : ℕ) → i < n + 1
    → P i (get_or (xs ++ y ∷ []) i 0)
old_read P xs n y long old new i l = ⊎_elim
    (λ (at : i ≡ n).
    let Q : ℕ → Type 0 = λ z. P n z in
    let R : ℕ → Type 0 = λ j. P j (get_or (xs ++ y ∷ []) j 0) in
    let here : get_or (xs ++ y ∷ []) n 0 ≡ y = ap (λ j. get_or (xs ++ y ∷ []) j 0) (sym long) ∙ get_or-append_seam xs y [] 0 in
    subst R (sym at) (subst Q (sym here) new))
    (λ (ne : i ≢ n).
    let Q : ℕ → Type 0 = λ z. P i z in
    let m : i < n = omega arith in
    subst Q (sym (get_or_append_left xs (y ∷ []) 0 i (omega arith))) (old i m))
    (cases_eq i n)

module _ (key : ℕ → List ℕ) (n count : ℕ) (firsts nexts : List ℕ) (old : AreLinked key n count firsts nexts) where
  wider_first : (i first : ℕ) → IsFirst key n i first → IsFirst key (n + 1) i first
  wider_first i first h = record { below = omega (arith, h.below); same = h.same; none_before = h.none_before }

  -- the next place of a key that the new place does not have
  wider_next : (i next : ℕ) → i < n → (next ≡ count → key n ≢ key i) → IsNext key n count i next → IsNext key (n + 1) count i next
  wider_next i next l other h = record {
    later = h.later;
    found = ⊎_elim (λ (e : next ≡ count). inl e) (λ (e : (next < n) × (key next ≡ key i)). inr (omega (arith, e.0), e.1)) h.found;
    none_between = λ k a b m. ⊎_elim
        (λ (at : k ≡ n).
        let P : ℕ → Type 0 = λ j. key j ≢ key i in
        let end : next ≡ count = ⊎_elim (λ (e : next ≡ count). e) (λ (e : (next < n) × (key next ≡ key i)). absurd (omega (arith, e.0, at, b))) h.found in
        subst P (sym at) (other end))
        (λ (ne : k ≢ n). h.none_between k a b (omega arith)) (cases_eq k n);
  }

  new_next : n < count → IsNext key (n + 1) count n count
  new_next l = record { later = l; found = inl refl; none_between = λ k a b m. absurd (omega arith) }

  linked_none : n < count → ((k : ℕ) → k < n → key k ≢ key n) → AreLinked key (n + 1) count (firsts ++ length firsts ∷ []) (nexts ++ count ∷ [])
  linked_none l none =
      let P : ℕ → Type 0 = λ z. IsFirst key (n + 1) n z in
      let here : IsFirst key (n + 1) n n = record { below = omega arith; same = refl; none_before = none } in
      record {
        firsts_long = omega (arith, length-append firsts (length firsts ∷ []), old.firsts_long);
        nexts_long = omega (arith, length-append nexts (count ∷ []), old.nexts_long);
        first = old_read (λ i z. IsFirst key (n + 1) i z) firsts n (length firsts) old.firsts_long (λ i m. wider_first i (get_or firsts i 0) (old.first i m))
            (subst P (sym old.firsts_long) here);
        next = old_read (λ i z. IsNext key (n + 1) count i z) nexts n count old.nexts_long
            (λ i m. wider_next i (get_or nexts i 0) m (λ e same. none i m (sym same)) (old.next i m)) (new_next l);
      }

  linked_some : (last : ℕ) → n < count → IsLast key n (key n) last → AreLinked key (n + 1) count (firsts
      ++ get_or firsts last 0 ∷ []) (set nexts last (length nexts) ++ count ∷ [])
  linked_some last l h =
      let f = old.first last h.below in
      let here : IsFirst key (n + 1) n (get_or firsts last 0) = record {
        below = omega (arith, f.below);
        same = f.same ∙ h.same;
        none_before = λ k m e. f.none_before k m (e ∙ sym h.same);
      } in
      let long : length (set nexts last (length nexts)) ≡ n = length-set nexts last (length nexts) ∙ old.nexts_long in
      record {
        firsts_long = omega (arith, length-append firsts (get_or firsts last 0 ∷ []), old.firsts_long);
        nexts_long = omega (arith, length-append (set nexts last (length nexts)) (count ∷ []), long);
        first = old_read (λ i z. IsFirst key (n + 1) i z) firsts n (get_or firsts last 0) old.firsts_long
            (λ i m. wider_first i (get_or firsts i 0) (old.first i m)) here;
        next = old_read (λ i z. IsNext key (n + 1) count i z) (set nexts last (length nexts)) n count long (λ i m. at i m) (new_next l);
      }
    where
      at : (i : ℕ) → i < n → IsNext key (n + 1) count i (get_or (set nexts last (length nexts)) i 0)
      at i m = ⊎_elim
          (λ (e : i ≡ last).
          let P : ℕ → Type 0 = λ j. IsNext key (n + 1) count j (get_or (set nexts last (length nexts)) j 0) in
          let Q : ℕ → Type 0 = λ z. IsNext key (n + 1) count last z in
          let new : get_or (set nexts last (length nexts)) last 0 ≡ n = get_or-set_same nexts last (length nexts) 0 (omega (arith, old.nexts_long, h.below))
          ∙ old.nexts_long in
          let is : IsNext key (n + 1) count last n = record {
            later = h.below;
            found = inr (omega arith, sym h.same);
            none_between = λ k a b c same. h.none_after k a b (same ∙ h.same);
          } in
          subst P (sym e) (subst Q (sym new) is))
          (λ (ne : i ≢ last).
          let Q : ℕ → Type 0 = λ z. IsNext key (n + 1) count i z in
          let o = old.next i m in
          subst Q (sym (get_or-set_other nexts last i (length nexts) 0 ne)) (wider_next i (get_or nexts i 0) m (λ end same. apart i m ne end same) o))
          (cases_eq i last)
        where
          apart : (i : ℕ) → i < n → i ≢ last → get_or nexts i 0 ≡ count → key n ≡ key i → ⊥
          apart i m ne end same = ⊎_elim
              (λ (before : i < last). (old.next i m).none_between last before (omega (arith, end, h.below)) h.below (h.same ∙ same))
              (λ (after : last ≤ i). h.none_after i (omega arith) m (sym same))
              (cases_lt i last)

-- tables of as many places as there are, of which the first n are linked
pub record AreBegun (key : ℕ → List ℕ) (n count : ℕ) (firsts nexts : List ℕ) : Type 0 where
  pub firsts_whole : length firsts ≡ count
  pub nexts_whole : length nexts ≡ count
  pub begun : AreLinked key n count (take n firsts) (take n nexts)
  pub ahead : (i : ℕ) → n ≤ i → i < count → get_or nexts i 0 ≡ count

pub start_linked : (key : ℕ → List ℕ) (count : ℕ) (firsts nexts : List ℕ) → firsts ≡ replicate count count → nexts ≡ replicate count count
    → AreBegun key 0 count firsts nexts
start_linked key count firsts nexts f h = record {
  firsts_whole = ap (λ (x : List ℕ). length x) f ∙ length-replicate count count;
  nexts_whole = ap (λ (x : List ℕ). length x) h ∙ length-replicate count count;
  begun = none_linked key count;
  ahead = λ i l m. ap (λ (x : List ℕ). get_or x i 0) h ∙ get_or-replicate count i count 0 m;
}

-- a change before the end of the first n
take_before : (xs : List ℕ) (n i y : ℕ) → take n (set xs i y) ≡ set (take n xs) i y
take_before [] zero i y = refl
take_before [] (suc n) i y = refl
take_before (x ∷ xs) zero zero y = refl
take_before (x ∷ xs) zero (suc i) y = refl
take_before (x ∷ xs) (suc n) zero y = refl
take_before (x ∷ xs) (suc n) (suc i) y = ap (λ l. x ∷ l) (take_before xs n i y)

-- one more place, from the last one with its key
pub linked_more : (key : ℕ → List ℕ) (n count : ℕ) (firsts nexts : List ℕ) → AreBegun key n count firsts nexts → (before : Option ℕ) (more next : List ℕ)
    → n < count → before ≡ last_place key n (key n) → more ≡ slice_set firsts n (first_on_board before n firsts) → next ≡ linked before n nexts
    → AreBegun key (n + 1) count more next
linked_more key n count firsts nexts h None more next l e f k =
    let fs : List ℕ = take n firsts in
    let ns : List ℕ = take n nexts in
    let one = linked_none key n count fs ns h.begun l (last_none key n (key n) (sym e)) in
    let more_is : take (n + 1) more ≡ fs ++ length fs ∷ [] =
    ap (take (n + 1)) f ∙ take_more_set firsts n n (omega (arith, h.firsts_whole)) ∙ ap (λ z. fs ++ z ∷ []) (sym h.begun.firsts_long) in
    let next_is : take (n + 1) next ≡ ns ++ count ∷ [] =
    ap (take (n + 1)) k ∙ take_more nexts n 0 (omega (arith, h.nexts_whole)) ∙ ap (λ z. ns ++ z ∷ []) (h.ahead n (omega arith) l) in
    let P : List ℕ → Type 0 = λ x. AreLinked key (n + 1) count x (take (n + 1) next) in
    let Q : List ℕ → Type 0 = λ x. AreLinked key (n + 1) count (fs ++ length fs ∷ []) x in
    record {
      firsts_whole = ap (λ (x : List ℕ). length x) f ∙ length-set firsts n n ∙ h.firsts_whole;
      nexts_whole = ap (λ (x : List ℕ). length x) k ∙ h.nexts_whole;
      begun = subst P (sym more_is) (subst Q (sym next_is) one);
      ahead = λ i m c. ap (λ (x : List ℕ). get_or x i 0) k ∙ h.ahead i (omega (arith, m)) c;
    }
linked_more key n count firsts nexts h (Some last) more next l e f k =
    let fs : List ℕ = take n firsts in
    let ns : List ℕ = take n nexts in
    let r = last_some key n (key n) last (sym e) in
    let one = linked_some key n count fs ns h.begun last l r in
    let more_is : take (n + 1) more ≡ fs ++ get_or fs last 0 ∷ [] =
    ap (take (n + 1)) f ∙ take_more_set firsts n (get_or firsts last 0) (omega (arith, h.firsts_whole))
    ∙ ap (λ z. fs ++ z ∷ []) (sym (get_or-take n firsts last 0 r.below)) in
    let new : List ℕ = set nexts last n in
    let end : get_or new n 0 ≡ count = get_or-set_other nexts last n n 0 (λ same. absurd (omega (arith, same, r.below))) ∙ h.ahead n (omega arith) l in
    let next_is : take (n + 1) next ≡ set ns last (length ns) ++ count ∷ [] =
    ap (take (n + 1)) k ∙ take_more new n 0 (omega (arith, length-set nexts last n, h.nexts_whole)) ∙ ap (λ z. take n new ++ z ∷ []) end
    ∙ ap (λ x. x ++ count ∷ []) (take_before nexts n last n ∙ ap (set ns last) (sym h.begun.nexts_long)) in
    let P : List ℕ → Type 0 = λ x. AreLinked key (n + 1) count x (take (n + 1) next) in
    let Q : List ℕ → Type 0 = λ x. AreLinked key (n + 1) count (fs ++ get_or fs last 0 ∷ []) x in
    record {
      firsts_whole = ap (λ (x : List ℕ). length x) f ∙ length-set firsts n (get_or firsts last 0) ∙ h.firsts_whole;
      nexts_whole = ap (λ (x : List ℕ). length x) k ∙ length-set nexts last n ∙ h.nexts_whole;
      begun = subst P (sym more_is) (subst Q (sym next_is) one);
      ahead = λ i m c. ap (λ (x : List ℕ). get_or x i 0) k ∙ get_or-set_other nexts last i n 0 (λ same. absurd (omega (arith, same, r.below, m)))
          ∙ h.ahead i (omega (arith, m)) c;
    }

-- where all places are linked by their public cards, the tables are whole
pub are_boards : (g : Game) (n count : ℕ) (firsts nexts : List ℕ) → AreBegun (λ i. public_cards (signal_at g (round_count g) i)) n count firsts nexts
    → n ≡ last_count g → count ≡ last_count g → AreBoards g firsts nexts
are_boards g n count firsts nexts h a b =
    let P : ℕ → Type 0 = λ m. AreLinked (λ i. public_cards (signal_at g (round_count g) i)) m count firsts nexts in
    let Q : List ℕ → Type 0 = λ x. AreLinked (λ i. public_cards (signal_at g (round_count g) i)) n count x (take n nexts) in
    let R : List ℕ → Type 0 = λ x. AreLinked (λ i. public_cards (signal_at g (round_count g) i)) n count firsts x in
    let t = subst P a (subst R (take_all n nexts (omega (arith, h.nexts_whole, a, b)))
    (subst Q (take_all n firsts (omega (arith, h.firsts_whole, a, b))) h.begun)) in
    record {
      firsts_long = t.firsts_long;
      nexts_long = t.nexts_long;
      first_in = λ i l. (t.first i l).below;
      first_same = λ i l. same_list g (round_count g) i (get_or firsts i 0) l (t.first i l).below (sym (t.first i l).same);
      none_before = λ i k l m. other_list g (round_count g) i k ((t.first i l).none_before k m);
      next_later = λ i l. (t.next i l).later;
      next_same = λ i l m. ⊎_elim
          (λ (e : get_or nexts i 0 ≡ count). absurd (omega (arith, e, b, m)))
          (λ (e : (get_or nexts i 0 < last_count g) × (public_cards (signal_at g (round_count g) (get_or nexts i 0))
          ≡ public_cards (signal_at g (round_count g) i))). same_list g (round_count g) i (get_or nexts i 0) l m (sym e.1))
          (t.next i l).found;
      none_between = λ i k l m x y. other_list g (round_count g) i k ((t.next i l).none_between k m x y);
    }
