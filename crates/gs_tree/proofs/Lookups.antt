-- What the tables say of one signal.
use Rattle.std.proofs.Common.{◌≡◌, ℕ, zero, suc, ◌+◌, ◌-◌, ◌<◌, ◌≤◌, List, [], ◌∷◌, ◌++◌, length, map, get_or, refl, sym, ap, ◌∙◌, arith, subst, ⊎_elim}
use Rattle.std.proofs.Common.{length-append, All, append-nil, append_assoc, vec_len}
use Rattle.std.proofs.{lemmas.Bool.{cases_lt}, lemmas.List.{length-map, get_or-map, get_or_append_left, get_or-append_right}, Math.Seq.{get_or-append_seam}}
use Rattle.std.specs.{Prelude.{flat_map}, Global.{Vec}}
use Rattle.gs_game.specs.{Games.{round_rules}, declared.game.Round.{Round as GameRound}}
use Rattle.gs_model.specs.{Game.{Game, Round, round_at}, Signals.{Seen, Signal, edge, last_edge, left_by, owners, showings, signals, signal_at, parents}}
use Rattle.gs_model.specs.Cards.{left_after}
use Rattle.gs_card.specs.Decks.{DeckValue}
use Rattle.gs_tree.specs.{Texts.{signal_text, rounds_text, seen_text}, Layers.{last_seen}, Shown.{seen_of, cards_of}, Tables.{IsLayer, AreTables}}
use Rattle.gs_tree.specs.{declared.layer.Layer.{Layer}, declared.layer.Shown.{Shown}}
use Rattle.gs_model.proofs.{Ranges.{length-parents}, Listed.{left_by-push}}
use Rattle.gs_tree.proofs.{Grown.{last_seen-push, nothing_seen}, Dealt.{last_is_shown}}

-- a signal, its owner and what it adds
record Child (ss : List Signal) (n owner : ℕ) (s : Signal) : Type 0 where
  pub place : ℕ
  pub owned : owner ≡ n + place
  pub within : place < length ss
  pub added : Seen
  pub grown : s ≡ get_or ss place [] ++ added ∷ []

const_at : {Y : Type 0} (n : ℕ) (ys : List Y) (x : ℕ) → x < length ys → get_or (map (λ _. n) ys) x 0 ≡ n
const_at n [] x l = absurd (omega arith)
const_at n (y ∷ ys) zero l = refl
const_at n (y ∷ ys) (suc x) l = const_at n ys x (omega arith)

abbrev pairs_of : (Signal → Seen → ℕ) → (Signal → List Seen) → Signal → List (ℕ × Signal)
pairs_of weight shows s = map (λ p. (weight s p, s ++ p ∷ [])) (shows s)

abbrev kids_of : (Signal → Seen → ℕ) → (Signal → List Seen) → Signal → List Signal
kids_of weight shows s = map (λ (c : ℕ × Signal). c.1) (pairs_of weight shows s)

child_at : (weight : Signal → Seen → ℕ) (shows : Signal → List Seen) (ss : List Signal) (n x : ℕ) → x < length (flat_map (kids_of weight shows) ss) →
    Child ss n (get_or (owners (pairs_of weight shows) n ss) x 0) (get_or (flat_map (kids_of weight shows) ss) x [])
child_at weight shows [] n x l = absurd (omega arith)
child_at weight shows (s ∷ ss) n x l =
    let pairs = pairs_of weight shows s in
    let kids = kids_of weight shows s in
    let rest = flat_map (kids_of weight shows) ss in
    let more = owners (pairs_of weight shows) (n + 1) ss in
    let a = length-map pairs (λ (c : ℕ × Signal). c.1) in
    let to_pair : Seen → ℕ × Signal = λ p. (weight s p, s ++ p ∷ []) in
    let b = length-map (shows s) to_pair in
    let o = length-map pairs (λ _. n) in
    let e = length-append kids rest in
    ⊎_elim
    (λ (h : x < length (shows s)). record {
      place = 0;
      owned = get_or_append_left (map (λ _. n) pairs) more 0 x (omega arith) ∙ const_at n pairs x (omega arith) ∙ omega arith;
      within = omega arith;
      added = get_or (shows s) x nothing_seen;
      grown = get_or_append_left kids rest [] x (omega arith) ∙ get_or-map (λ (c : ℕ × Signal). c.1) pairs x (0, []) [] (omega arith)
          ∙ ap (λ (c : ℕ × Signal). c.1) (get_or-map to_pair (shows s) x nothing_seen (0, []) h);
    })
    (λ (h : length (shows s) ≤ x).
    let r = child_at weight shows ss (n + 1) (x - length (shows s)) (omega arith) in
    record {
      place = suc r.place;
      owned = get_or-append_right (map (λ _. n) pairs) more (length (shows s)) x 0 (omega arith) h ∙ r.owned ∙ omega arith;
      within = omega (arith, r.within);
      added = r.added;
      grown = get_or-append_right kids rest (length (shows s)) x [] (omega arith) h ∙ r.grown;
    })
    (cases_lt x (length (shows s)))

-- the parent of a signal, and the signal by it
pub record IsChild (g : Game) (round i : ℕ) : Type 0 where
  pub parent_in : get_or (parents g round) i 0 < length (signals g (round - 1))
  pub signal_is : signal_at g round i ≡ signal_at g (round - 1) (get_or (parents g round) i 0) ++ last_seen (signal_at g round i) ∷ []

pub is_child : (g : Game) (round i : ℕ) → 0 < round → i < length (signals g round) → IsChild g round i
is_child g zero i some l = absurd (omega arith)
is_child g (suc r) i some l =
    let c = child_at (λ s p. edge (left_by g.copies s) p) (λ s. showings (left_by g.copies s) (round_at g (suc r))) (signals g r) 0 i l in
    let before : suc r - 1 ≡ r = omega arith in
    let at : get_or (parents g (suc r)) i 0 ≡ c.place = c.owned ∙ omega arith in
    let last : last_seen (signal_at g (suc r) i) ≡ c.added = ap last_seen c.grown ∙ last_seen-push (get_or (signals g r) c.place []) c.added in
    let P : ℕ → Type 0 = λ k. get_or (parents g (suc r)) i 0 < length (signals g k) in
    record {
      parent_in = subst P (sym before) (omega (arith, at, c.within));
      signal_is = c.grown ∙ ap (λ k. get_or (signals g r) k [] ++ c.added ∷ []) (sym at)
          ∙ ap (λ p. get_or (signals g r) (get_or (parents g (suc r)) i 0) [] ++ p ∷ []) (sym last)
          ∙ ap (λ k. signal_at g k (get_or (parents g (suc r)) i 0) ++ last_seen (signal_at g (suc r) i) ∷ []) (sym before);
    }

-- a signal of the round after the first n is one of round n and what it shows last
pub record IsGrown (g : Game) (n i p : ℕ) : Type 0 where
  pub within : p < length (signals g n)
  pub is : signal_at g (suc n) i ≡ signal_at g n p ++ last_seen (signal_at g (suc n) i) ∷ []

pub grown_from : (g : Game) (n i : ℕ) → i < length (signals g (suc n)) → IsGrown g n i (get_or (parents g (suc n)) i 0)
grown_from g n i l =
    let c = is_child g (suc n) i (omega arith) l in
    let before : suc n - 1 ≡ n = omega arith in
    let p : ℕ = get_or (parents g (suc n)) i 0 in
    let P : ℕ → Type 0 = λ k. p < length (signals g k) in
    record { within = subst P before c.parent_in; is = c.signal_is ∙ ap (λ k. signal_at g k p ++ last_seen (signal_at g (suc n) i) ∷ []) before }

-- ---- the tables at one round

pub record IsLayerOf (g : Game) (round : ℕ) (l : Layer) : Type 0 where
  pub long : length l.shown.items ≡ length (signals g round)
  pub edges_long : length l.edges ≡ length (signals g round)
  pub shows : (i : ℕ) (d : Shown) → i < length (signals g round) → seen_of (get_or l.shown.items i d) ≡ last_seen (signal_at g round i)
  pub weighs : (i : ℕ) → i < length (signals g round) → get_or l.edges i 0 ≡ last_edge g.copies (signal_at g round i)

from_layer : (g : Game) (r : ℕ) (l : Layer) → IsLayer g r l → IsLayerOf g (suc r) l
from_layer g r l h =
    let long : length l.shown.items ≡ length (signals g (suc r)) = sym (length-map l.shown.items seen_of) ∙ ap (λ (x : List Seen). length x) h.shown
    ∙ length-map (signals g (suc r)) last_seen in
    record {
      long = long;
      edges_long = ap (λ (x : List ℕ). length x) h.edges ∙ length-map (signals g (suc r)) (last_edge g.copies);
      shows = λ i d m. sym (get_or-map seen_of l.shown.items i d nothing_seen (omega arith)) ∙ ap (λ (x : List Seen). get_or x i nothing_seen) h.shown
          ∙ get_or-map last_seen (signals g (suc r)) i [] nothing_seen m;
      weighs = λ i m. ap (λ (x : List ℕ). get_or x i 0) h.edges ∙ get_or-map (last_edge g.copies) (signals g (suc r)) i [] 0 m;
    }

pub layer_of : (g : Game) (ps : List (Vec ℕ)) (ls : List Layer) (round : ℕ) (l : Layer) → AreTables g ps ls → 0 < round → round ≤ length ls
    → l ≡ get_or ls (round - 1) l → IsLayerOf g round l
layer_of g ps ls zero l t some le e = absurd (omega arith)
layer_of g ps ls (suc r) l t some le e =
    let before : suc r - 1 ≡ r = omega arith in
    let P : Layer → Type 0 = λ x. IsLayer g r x in
    from_layer g r l (subst P (sym (e ∙ ap (λ k. get_or ls k l) before)) (t.listed r l (omega arith)))

pub parents_of : (g : Game) (ps : List (Vec ℕ)) (ls : List Layer) (round : ℕ) (row : Vec ℕ) → AreTables g ps ls → 0 < round → round ≤ length ls
    → row ≡ get_or ps (round - 1) row → row.items ≡ parents g round
parents_of g ps ls zero row t some le e = absurd (omega arith)
parents_of g ps ls (suc r) row t some le e =
    let before : suc r - 1 ≡ r = omega arith in
    ap (λ (v : Vec ℕ). v.items) (e ∙ ap (λ k. get_or ps k row) before) ∙ t.owned r row (omega arith)

pub same_read : (xs : List ℕ) (i d e : ℕ) → i < length xs → get_or xs i d ≡ get_or xs i e
same_read [] i d e l = absurd (omega arith)
same_read (x ∷ xs) zero d e l = refl
same_read (x ∷ xs) (suc i) d e l = same_read xs i d e (omega arith)

-- the copies that a signal leaves, from those that its parent leaves
pub left_step : (g : Game) (round i parent : ℕ) (left : List ℕ) (shown : Shown) → IsChild g round i → parent ≡ get_or (parents g round) i 0
    → left ≡ left_by g.copies (signal_at g (round - 1) parent) → seen_of shown ≡ last_seen (signal_at g round i) →
    left_after (left_after left (cards_of shown.own)) (cards_of shown.public) ≡ left_by g.copies (signal_at g round i)
left_step g round i parent left shown h at before shows =
    ap (λ l. left_after (left_after l (cards_of shown.own)) (cards_of shown.public)) before
    ∙ ap (λ (p : Seen). left_after (left_after (left_by g.copies (signal_at g (round - 1) parent)) p.own) p.public) shows
    ∙ sym (left_by-push g.copies (signal_at g (round - 1) parent) (last_seen (signal_at g round i)))
    ∙ ap (λ k. left_by g.copies (signal_at g (round - 1) k ++ last_seen (signal_at g round i) ∷ [])) at
    ∙ ap (left_by g.copies) (sym h.signal_is)

-- the parent of a signal, as the table has it
pub parent_read : (g : Game) (row : Vec ℕ) (round i p : ℕ) → row.items ≡ parents g round → i < length (signals g round) → p ≡ get_or row.items i p
    → p ≡ get_or (parents g round) i 0
parent_read g row round i p e l h =
    let long : i < length row.items = omega (arith, ap (λ (x : List ℕ). length x) e, length-parents g round) in
    h ∙ same_read row.items i p 0 long ∙ ap (λ (x : List ℕ). get_or x i 0) e

-- one more round
pub tables_push : (g : Game) (ps : List (Vec ℕ)) (ls : List Layer) (row : Vec ℕ) (l : Layer) → AreTables g ps ls → row.items ≡ parents g (suc (length ls))
    → IsLayer g (length ls) l → AreTables g (ps ++ row ∷ []) (ls ++ l ∷ [])
tables_push g ps ls row l t e h =
    let pn = length-append ps (row ∷ []) in
    let ln = length-append ls (l ∷ []) in
    record {
      as_many = omega (arith, pn, ln, t.as_many);
      owned = λ round d m. ⊎_elim
          (λ (k : round < length ls). ap (λ (v : Vec ℕ). v.items) (get_or_append_left ps (row ∷ []) d round (omega (arith, t.as_many))) ∙ t.owned round d k)
          (λ (k : length ls ≤ round).
          let last : length ps ≡ round = omega (arith, t.as_many, ln) in
          let same : length ls ≡ round = omega (arith, ln) in
          ap (λ (v : Vec ℕ). v.items) (ap (λ n. get_or (ps ++ row ∷ []) n d) (sym last) ∙ get_or-append_seam ps row [] d) ∙ e
          ∙ ap (λ n. parents g (suc n)) same)
          (cases_lt round (length ls));
      listed = λ round d m. ⊎_elim
          (λ (k : round < length ls). let P : Layer → Type 0 = λ x. IsLayer g round x in
          subst P (sym (get_or_append_left ls (l ∷ []) d round k)) (t.listed round d k))
          (λ (k : length ls ≤ round).
          let same : length ls ≡ round = omega (arith, ln) in
          let P : ℕ → Type 0 = λ n. IsLayer g n (get_or (ls ++ l ∷ []) n d) in
          let Q : Layer → Type 0 = λ x. IsLayer g (length ls) x in
          subst P same (subst Q (sym (get_or-append_seam ls l [] d)) h))
          (cases_lt round (length ls));
    }

-- what all rounds keep, one keeps
pub small_round : (rounds : List GameRound) (i : ℕ) (r : GameRound) → All (λ (r : Round). (r.private ≤ 2) × (r.public ≤ 3)) (map round_rules rounds)
    → i < length rounds → r ≡ get_or rounds i r → (r.private ≤ 2) × (r.public ≤ 3)
small_round rounds i r h l e =
    let at : get_or (map round_rules rounds) i (round_rules r) ≡ round_rules r = get_or-map round_rules rounds i r (round_rules r) l ∙ ap round_rules (sym e) in
    let P : Round → Type 0 = λ x. (x.private ≤ 2) × (x.public ≤ 3) in
    subst P at (h i (round_rules r) (omega (arith, length-map rounds round_rules)))

-- ---- texts

rounds_push : (d : DeckValue) (s : Signal) (p : Seen) → rounds_text d (s ++ p ∷ []) ≡ rounds_text d s ++ 47 ∷ seen_text d p
rounds_push d [] p = ap (λ t. 47 ∷ t) (append-nil (seen_text d p))
rounds_push d (q ∷ s) p =
    ap (λ t. 47 ∷ (seen_text d q ++ t)) (rounds_push d s p) ∙ ap (λ t. 47 ∷ t) (sym (append_assoc (seen_text d q) (rounds_text d s) (47 ∷ seen_text d p)))

-- the text of a signal of a later round, from its parent's
pub text_later : (g : Game) (d : DeckValue) (round i : ℕ) → 1 < round → i < length (signals g round) → IsChild g round i
    → signal_text d (signal_at g round i) ≡ (signal_text d (signal_at g (round - 1) (get_or (parents g round) i 0)) ++ 47 ∷ [])
    ++ seen_text d (last_seen (signal_at g round i))
text_later g d zero i some l c = absurd (omega arith)
text_later g d (suc zero) i some l c = absurd (omega arith)
text_later g d (suc (suc r)) i some l c =
    let before : suc (suc r) - 1 ≡ suc r = omega arith in
    let p : ℕ = get_or (parents g (suc (suc r))) i 0 in
    let Q : ℕ → Type 0 = λ k. p < length (signals g k) in
    let grown : signal_at g (suc (suc r)) i ≡ signal_at g (suc r) p ++ last_seen (signal_at g (suc (suc r)) i) ∷ [] =
    c.signal_is ∙ ap (λ k. signal_at g k p ++ last_seen (signal_at g (suc (suc r)) i) ∷ []) before in
    let parent = is_child g (suc r) p (omega arith) (subst Q before c.parent_in) in
    let front : Signal = signal_at g (suc r - 1) (get_or (parents g (suc r)) p 0) in
    ap (signal_text d) grown
    ∙ longer front (signal_at g (suc r) p) (last_seen (signal_at g (suc r) p)) (last_seen (signal_at g (suc (suc r)) i)) parent.signal_is
    ∙ ap (λ k. (signal_text d (signal_at g k p) ++ 47 ∷ []) ++ seen_text d (last_seen (signal_at g (suc (suc r)) i))) (sym before)
  where
    at_end : (s : Signal) (q p : Seen) → signal_text d ((s ++ q ∷ []) ++ p ∷ []) ≡ (signal_text d (s ++ q ∷ []) ++ 47 ∷ []) ++ seen_text d p
    at_end [] q p = ap (λ t. seen_text d q ++ (47 ∷ t)) (append-nil (seen_text d p)) ∙ sym (append_assoc (seen_text d q) (47 ∷ []) (seen_text d p))
        ∙ ap (λ t. (t ++ 47 ∷ []) ++ seen_text d p) (sym (append-nil (seen_text d q)))
    at_end (x ∷ s) q p =
        ap (λ t. seen_text d x ++ t) (rounds_push d (s ++ q ∷ []) p) ∙ sym (append_assoc (seen_text d x) (rounds_text d (s ++ q ∷ [])) (47 ∷ seen_text d p))
        ∙ sym (append_assoc (seen_text d x ++ rounds_text d (s ++ q ∷ [])) (47 ∷ []) (seen_text d p))

    longer : (front s : Signal) (q p : Seen) → s ≡ front ++ q ∷ [] → signal_text d (s ++ p ∷ []) ≡ (signal_text d s ++ 47 ∷ []) ++ seen_text d p
    longer front s q p e =
        let P : Signal → Type 0 = λ x. signal_text d (x ++ p ∷ []) ≡ (signal_text d x ++ 47 ∷ []) ++ seen_text d p in
        subst P (sym e) (at_end front q p)

no_signal : (k : ℕ) (s : Signal) → s ≡ get_or ([] ∷ []) k [] → s ≡ []
no_signal zero s e = e
no_signal (suc k) s e = e

-- the text of a signal of the first round
pub text_first : (g : Game) (d : DeckValue) (i : ℕ) → IsChild g 1 i → signal_text d (signal_at g 1 i) ≡ seen_text d (last_seen (signal_at g 1 i))
text_first g d i c =
    ap (signal_text d) (c.signal_is ∙ ap (λ (s : Signal). s ++ last_seen (signal_at g 1 i) ∷ [])
    (no_signal (get_or (parents g 1) i 0) (signal_at g (1 - 1) (get_or (parents g 1) i 0)) refl))
    ∙ append-nil (seen_text d (last_seen (signal_at g 1 i)))

pub shown_first : (g : Game) (d : DeckValue) (round i : ℕ) (shown : Shown) → round ≡ 1 → i < length (signals g round)
    → seen_of shown ≡ last_seen (signal_at g round i) → seen_text d (seen_of shown) ≡ signal_text d (signal_at g round i)
shown_first g d round i shown first m shows =
    let P : ℕ → Type 0 = λ k. i < length (signals g k) in
    ap (seen_text d) (shows ∙ ap (λ k. last_seen (signal_at g k i)) first) ∙ sym (text_first g d i (is_child g 1 i (omega arith) (subst P first m)))
    ∙ ap (λ k. signal_text d (signal_at g k i)) (sym first)

-- ---- what a table shows of one signal
pub shown_read : (g : Game) (ps : List (Vec ℕ)) (ls : List Layer) (round i : ℕ) (l : Layer) (shown : Shown) → AreTables g ps ls → 0 < round
    → round ≤ length ls → l ≡ get_or ls (round - 1) l → i < length (signals g round) → shown ≡ get_or l.shown.items i shown
    → seen_of shown ≡ last_seen (signal_at g round i)
shown_read g ps ls round i l shown t some le e m s =
    let h = layer_of g ps ls round l t some le e in
    ap seen_of s ∙ h.shows i shown m

pub shown_long : (g : Game) (ps : List (Vec ℕ)) (ls : List Layer) (round i : ℕ) (l : Layer) → AreTables g ps ls → 0 < round → round ≤ length ls
    → l ≡ get_or ls (round - 1) l → i < length (signals g round) → i < vec_len l.shown
shown_long g ps ls round i l t some le e m =
    let h = layer_of g ps ls round l t some le e in
    omega (arith, h.long, l.shown.ok.0)

pub shown_cards : (g : Game) (round i n : ℕ) (shown : Shown) → 0 < round → i < length (signals g round) → seen_of shown ≡ last_seen (signal_at g round i)
    → length g.copies ≡ n → All (λ c. c < n) (cards_of shown.own) × All (λ c. c < n) (cards_of shown.public)
shown_cards g round i n shown some m s e =
    let h = last_is_shown g round i some m in
    let P : Seen → Type 0 = λ p. All (λ c. c < length g.copies) p.own × All (λ c. c < length g.copies) p.public in
    let Q : ℕ → Type 0 = λ k. All (λ c. c < k) (cards_of shown.own) × All (λ c. c < k) (cards_of shown.public) in
    subst Q e (subst P (sym s) (h.own_in, h.public_in))

-- what was read of a signal's last round
pub record IsSeen (g : Game) (round i n : ℕ) (shown : Shown) : Type 0 where
  pub shows : seen_of shown ≡ last_seen (signal_at g round i)
  pub own : All (λ c. c < n) (cards_of shown.own)
  pub public : All (λ c. c < n) (cards_of shown.public)

pub seen_read : (g : Game) (ps : List (Vec ℕ)) (ls : List Layer) (round i n : ℕ) (l : Layer) (shown : Shown) → AreTables g ps ls → 0 < round
    → round ≤ length ls → l ≡ get_or ls (round - 1) l → i < length (signals g round) → shown ≡ get_or l.shown.items i shown → length g.copies ≡ n
    → IsSeen g round i n shown
seen_read g ps ls round i n l shown t some le e m s counted =
    let shows = shown_read g ps ls round i l shown t some le e m s in
    let cards = shown_cards g round i n shown some m shows counted in
    record { shows = shows; own = cards.0; public = cards.1 }

-- what was read of its parent
pub record IsParent (g : Game) (round i p : ℕ) : Type 0 where
  pub is : p ≡ get_or (parents g round) i 0
  pub within : p < length (signals g (round - 1))

module _ (g : Game) (ps : List (Vec ℕ)) (ls : List Layer) (round i : ℕ) (row : Vec ℕ) (t : AreTables g ps ls) (some : 0 < round) (le : round
    ≤ length ls) (e : row ≡ get_or ps (round - 1) row) (m : i < length (signals g round)) where
  pub row_within : i < vec_len row
  row_within = omega (arith, ap (λ (x : List ℕ). length x) (parents_of g ps ls round row t some le e), length-parents g round, row.ok.0, m)

  pub parent_is : (p : ℕ) → p ≡ get_or row.items i p → IsParent g round i p
  parent_is p r =
      let is = parent_read g row round i p (parents_of g ps ls round row t some le e) m r in
      record { is = is; within = omega (arith, is, (is_child g round i some m).parent_in) }
