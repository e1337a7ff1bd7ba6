-- Weights in slot order: moves have slots of their own, and what is written at one changes no other.
use Rattle.std.proofs.{Common.{◌≡◌, ◌≢◌, ℕ, ◌+◌, ◌-◌, ◌*◌, ◌<◌, Bool, true, false, cond, List, length, get_or, set, refl, sym, ap, ◌∙◌}, lemmas.Bool.{cases_eq}}
use Rattle.std.proofs.{Common.{subst, arith, ⊎_elim, get_or-set_other, get_or-set_same}, lemmas.Bool.Decides.{Decides-eqb}}
use Rattle.std.specs.Prelude.{◌==◌, ◌&&◌}
use Rattle.gs_model.specs.{Classes.{ClassLists, IsClass}, Frame.{Frame, move_count, player_at, point_count, round_of}, Positions.{at_point}}
use Rattle.gs_model.proofs.Basics.{not_eq}
use Rattle.gs_seq.specs.Slots.{slot_count, slot_of, slots_at, slots_before}
use Rattle.gs_seq.proofs.{Coming.{slot_before, slot_in}, SlotLaws.{slots_more}}
use Rattle.gs_play.proofs.Lists.{one_move, one_place}

-- ---- a point and a class

-- what holds at a point and a class, and at all others, holds at each
pub at_or : (P : ℕ → ℕ → Type 0) (q c p e : ℕ) → P q c → ((p ≡ q → e ≡ c → ⊥) → P p e) → P p e
at_or P q c p e here other = ⊎_elim
    (λ (sp : p ≡ q). ⊎_elim
    (λ (se : e ≡ c). subst (λ i. P i e) (sym sp) (subst (λ j. P q j) (sym se) here))
    (λ (no_e : e ≡ c → ⊥). other (λ a b. no_e b))
    (cases_eq e c))
    (λ (no_p : p ≡ q → ⊥). other (λ a b. no_p a))
    (cases_eq p q)

-- whether a point and a class are given ones
abbrev pub is_here : ℕ → ℕ → ℕ → ℕ → Bool
is_here q c p e = (p == q) && (e == c)

itself : (n : ℕ) → (n == n) ≡ true
itself n = (Decides-eqb n n).1 refl

pub here_yes : (q c : ℕ) → is_here q c q c ≡ true
here_yes q c = ap (λ b. b && (c == c)) (itself q) ∙ itself c

pub here_no : (q c p e : ℕ) → (p ≡ q → e ≡ c → ⊥) → is_here q c p e ≡ false
here_no q c p e apart = ⊎_elim
    (λ (same : p ≡ q). ap (λ b. b && (e == c)) ((Decides-eqb p q).1 same) ∙ not_eq e c (apart same))
    (λ (other : p ≡ q → ⊥). ap (λ b. b && (e == c)) (not_eq p q other))
    (cases_eq p q)

-- a number that counts at one move of a point and a class
abbrev pub counted : ℕ → ℕ → ℕ → ℕ → ℕ → ℕ → ℕ → ℕ
counted q c m more p e l = cond ((p == q) && ((e == c) && (l == m))) more 0

pub counted_here : (q c m more l : ℕ) → counted q c m more q c l ≡ cond (l == m) more 0
counted_here q c m more l =
    ap (λ b. cond (b && ((c == c) && (l == m))) more 0) (itself q) ∙ ap (λ b. cond (b && (l == m)) more 0) (itself c)

pub counted_other : (q c m more p e l : ℕ) → (p ≡ q → e ≡ c → ⊥) → counted q c m more p e l ≡ 0
counted_other q c m more p e l apart = ⊎_elim
    (λ (same : p ≡ q). ap (λ b. cond (b && ((e == c) && (l == m))) more 0) ((Decides-eqb p q).1 same)
    ∙ ap (λ b. cond (b && (l == m)) more 0) (not_eq e c (apart same)))
    (λ (other : p ≡ q → ⊥). ap (λ b. cond (b && ((e == c) && (l == m))) more 0) (not_eq p q other))
    (cases_eq p q)

pub counted_none : (q c m more p e l : ℕ) → (l ≡ m → ⊥) → counted q c m more p e l ≡ 0
counted_none q c m more p e l apart = at_or (λ p e. counted q c m more p e l ≡ 0) q c p e
    (counted_here q c m more l ∙ ap (λ b. cond b more 0) (not_eq l m apart)) (counted_other q c m more p e l)

-- ---- slots

module _ (f : Frame) (lists : ClassLists) (player : ℕ) where
  slot_inside : (q c m : ℕ) → player_at f q ≡ player → IsClass lists (round_of f (at_point q)) c → m < move_count f q
      → (c - 1) * move_count f q + m < slots_at f lists player q
  slot_inside q c m own lc lm = omega (arith, slot_in f lists player q c m own lc lm, slots_more f lists player q)

  own_slot : (q c m : ℕ) → player_at f q ≡ player → slot_of f lists q c m ≡ slots_before f lists player q + ((c - 1) * move_count f q + m)
  own_slot q c m own = ap (λ p. slots_before f lists p q + ((c - 1) * move_count f q + m)) own

  -- a slot is inside
  pub slot_few : (q c m : ℕ) → q < point_count f → player_at f q ≡ player → IsClass lists (round_of f (at_point q)) c → m < move_count f q
      → slot_of f lists q c m < slot_count f lists player
  slot_few q c m lq own lc lm = omega (arith, own_slot q c m own, slot_before f lists player q c m (point_count f) own lc lm lq)

  -- two moves of a player have different slots
  pub slots_apart : (q c m p e l : ℕ) → player_at f q ≡ player → IsClass lists (round_of f (at_point q)) c → m < move_count f q
      → player_at f p ≡ player → IsClass lists (round_of f (at_point p)) e → l < move_count f p → (q ≡ p → c ≡ e → m ≡ l → ⊥)
      → slot_of f lists q c m ≢ slot_of f lists p e l
  slots_apart q c m p e l own lc lm his le ll other same =
      let o = one_place (slots_at f lists player) q ((c - 1) * move_count f q + m) p ((e - 1) * move_count f p + l)
      (slot_inside q c m own lc lm) (slot_inside p e l his le ll) (sym (own_slot q c m own) ∙ same ∙ own_slot p e l his) in
      let moves : move_count f p ≡ move_count f q = ap (move_count f) (sym o.row) in
      let here : (c - 1) * move_count f q + m ≡ (e - 1) * move_count f q + l = o.place ∙ ap (λ n. (e - 1) * n + l) moves in
      let w = one_move (move_count f q) (c - 1) m (e - 1) l lm (omega (arith, ll, moves)) here in
      other o.row (omega (arith, lc.0, le.0, w.row)) w.place

  -- more at a move changes the weight of that move alone
  module _ (xs : List ℕ) (q c m more : ℕ) (lq : q < point_count f) (own : player_at f q ≡ player) (lc : IsClass lists (round_of f (at_point q)) c)
      (lm : m < move_count f q) (long : length xs ≡ slot_count f lists player) where
    abbrev slot : ℕ
    slot = slot_of f lists q c m

    abbrev added : List ℕ
    added = set xs slot (get_or xs slot 0 + more)

    abbrev IsAdded : ℕ → ℕ → Type 0
    IsAdded p e = (l : ℕ) → player_at f p ≡ player → IsClass lists (round_of f (at_point p)) e → l < move_count f p
        → get_or added (slot_of f lists p e l) 0 ≡ get_or xs (slot_of f lists p e l) 0 + counted q c m more p e l

    kept : (p e l : ℕ) → player_at f p ≡ player → IsClass lists (round_of f (at_point p)) e → l < move_count f p → (p ≡ q → e ≡ c → l ≡ m → ⊥)
        → counted q c m more p e l ≡ 0 → get_or added (slot_of f lists p e l) 0 ≡ get_or xs (slot_of f lists p e l) 0 + counted q c m more p e l
    kept p e l his le ll apart none =
        let same = get_or-set_other xs slot (slot_of f lists p e l) (get_or xs slot 0 + more) 0 (slots_apart p e l q c m his le ll own lc lm apart) in
        omega (arith, same, none)

    pub added_at : (p e l : ℕ) → player_at f p ≡ player → IsClass lists (round_of f (at_point p)) e → l < move_count f p
        → get_or added (slot_of f lists p e l) 0 ≡ get_or xs (slot_of f lists p e l) 0 + counted q c m more p e l
    added_at p e = at_or IsAdded q c p e here (λ apart l his le ll. kept p e l his le ll (λ a b d. apart a b) (counted_other q c m more p e l apart))
      where
        here : IsAdded q c
        here l his le ll = ⊎_elim
            (λ (same : l ≡ m).
            let once : counted q c m more q c l ≡ more = counted_here q c m more l ∙ ap (λ b. cond b more 0) ((Decides-eqb l m).1 same) in
            let at : slot_of f lists q c l ≡ slot = ap (slot_of f lists q c) same in
            let new = get_or-set_same xs slot (get_or xs slot 0 + more) 0 (omega (arith, slot_few q c m lq own lc lm, long)) in
            ap (λ i. get_or added i 0) at ∙ new ∙ ap (λ i. get_or xs i 0 + more) (sym at) ∙ ap (λ n. get_or xs (slot_of f lists q c l) 0 + n) (sym once))
            (λ (other : l ≡ m → ⊥). kept q c l his le ll (λ a b d. other d) (counted_here q c m more l ∙ ap (λ b. cond b more 0) (not_eq l m other)))
            (cases_eq l m)
