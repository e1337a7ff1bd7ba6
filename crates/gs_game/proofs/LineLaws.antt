-- A text names the position whose text it is, and each position is named by its text.
use Rattle.std.proofs.Common.{◌≡◌, ℕ, zero, suc, ◌+◌, ◌-◌, ◌<◌, true, false, not, ◌&&◌, List, [], ◌∷◌, ◌++◌, length, refl, sym, ap, subst, ◌∙◌, inl, inr, ◌⊎◌}
use Rattle.std.proofs.Common.{eqb, arith, append_assoc, length-append}
use Rattle.std.proofs.{lemmas.Bool.{cases_Bool, cases_lt, ne_eqb, both_ways, and_parts, not-true, eqb-true, eq-eqb}, lemmas.List.{append-nil}}
use Rattle.std.specs.{Prelude.{Option, Some, None, slice_get, option_map, IfSome}, List.{AllByRecursion}}
use Rattle.gs_model.specs.{Betting.{Bet, Moves, act, fold, even, none, move}, Positions.{Target, at_point, at_end}}
use Rattle.gs_model.proofs.Basics.{some}
use Rattle.gs_bet.specs.{MoveLists.{has_letter}, Grammar.{is_sound, are_sound, is_letter}, TreeView.{plain}}
use Rattle.gs_game.specs.{Counts.{points_of, ends_of, move_points, move_ends, points_in, ends_in}, Games.{plain_trees}, Seen.{target_of}}
use Rattle.gs_game.specs.{declared.game.Round.{Round}, declared.positions.Target.{Target as StoredTarget}}
use Rattle.gs_game.specs.Lines.{Texts, tree_lines, move_lines, lines_from, lines, text_at, follow, follow_moves, follow_from}
use Rattle.gs_game.proofs.MoneyLaws.{sound_act, sound_move, tree_sound}

some_is : {A : Type 0} (x y : A) → some x ≡ some y → x ≡ y
some_is x y h = cc

-- a position stands among texts that are numbered from so many points and ends on, and has this text
abbrev pub StandsAt : ℕ → ℕ → Texts → Target → List ℕ → Type 0
StandsAt p e x (at_point q) s = (k : ℕ) × (q ≡ p + k) × (slice_get x.points k ≡ Some s)
StandsAt p e x (at_end z) s = (k : ℕ) × (z ≡ e + k) × (slice_get x.ends k ≡ Some s)

-- ---- places in joined lists

get_left : {A : Type 0} (xs ys : List A) (k : ℕ) (x : A) → slice_get xs k ≡ Some x → slice_get (xs ++ ys) k ≡ Some x
get_left [] ys k x h = absurd cc
get_left (a ∷ xs) ys zero x h = h
get_left (a ∷ xs) ys (suc k) x h = get_left xs ys k x h

pub get_right : {A : Type 0} (xs ys : List A) (k : ℕ) → slice_get (xs ++ ys) (length xs + k) ≡ slice_get ys k
get_right [] ys k = ap (slice_get ys) (omega arith)
get_right (a ∷ xs) ys k = let e : suc (length xs) + k ≡ suc (length xs + k) = omega arith in ap (slice_get ((a ∷ xs) ++ ys)) e ∙ get_right xs ys k

pub get_within : {A : Type 0} (xs ys : List A) (k : ℕ) → k < length xs → slice_get (xs ++ ys) k ≡ slice_get xs k
get_within [] ys k h = absurd (omega arith)
get_within (a ∷ xs) ys zero h = refl
get_within (a ∷ xs) ys (suc k) h = get_within xs ys k (omega arith)

-- the texts of two trees, one after the other
abbrev both : Texts → Texts → Texts
both x y = record { points = x.points ++ y.points; ends = x.ends ++ y.ends }

pub in_first : (p e : ℕ) (x y : Texts) (at : Target) (s : List ℕ) → StandsAt p e x at s → StandsAt p e (both x y) at s
in_first p e x y (at_point q) s h = (h.0, h.1, get_left x.points y.points h.0 s h.2)
in_first p e x y (at_end z) s h = (h.0, h.1, get_left x.ends y.ends h.0 s h.2)

pub in_second : (p e p' e' : ℕ) (x y : Texts) (at : Target) (s : List ℕ) → p' ≡ p + length x.points → e' ≡ e + length x.ends → StandsAt p' e' y at s
    → StandsAt p e (both x y) at s
in_second p e p' e' x y (at_point q) s f g h = (length x.points + h.0, omega (arith, f, h.1), get_right x.points y.points h.0 ∙ h.2)
in_second p e p' e' x y (at_end z) s f g h = (length x.ends + h.0, omega (arith, g, h.1), get_right x.ends y.ends h.0 ∙ h.2)

in_one : (xs ys : List (List ℕ)) (q p p' : ℕ) (s : List ℕ) → p' ≡ p + length xs → (k : ℕ) × (q ≡ p + k) × (slice_get (xs ++ ys) k ≡ Some s)
    → ((k : ℕ) × (q ≡ p + k) × (slice_get xs k ≡ Some s)) ⊎ ((k : ℕ) × (q ≡ p' + k) × (slice_get ys k ≡ Some s))
in_one xs ys q p p' s f h = elim (cases_lt h.0 (length xs)) [
  | inl lt ↦ inl (h.0, h.1, sym (get_within xs ys h.0 lt) ∙ h.2)
  | inr ge ↦
      let k = h.0 - length xs in
      let n : length xs + k ≡ h.0 = omega arith in
      inr (k, omega (arith, f, h.1, n), sym (get_right xs ys k) ∙ ap (slice_get (xs ++ ys)) n ∙ h.2)
]

pub in_either : (p e p' e' : ℕ) (x y : Texts) (at : Target) (s : List ℕ) → p' ≡ p + length x.points → e' ≡ e + length x.ends → StandsAt p e (both x y) at s
    → StandsAt p e x at s ⊎ StandsAt p' e' y at s
in_either p e p' e' x y (at_point q) s f g h = in_one x.points y.points q p p' s f h
in_either p e p' e' x y (at_end z) s f g h = in_one x.ends y.ends z e e' s g h

-- ---- what is known of what follows an even leaf

pub record GoesOn (texts_on : List ℕ → Texts) (mp me : ℕ) (follow_on : ℕ → ℕ → List ℕ → Option Target) : Type 0 where
  pub points_are : (before : List ℕ) → length (texts_on before).points ≡ mp
  pub ends_are : (before : List ℕ) → length (texts_on before).ends ≡ me
  pub leads : (before text : List ℕ) (p e : ℕ) (at : Target) → follow_on p e text ≡ Some at → StandsAt p e (texts_on before) at (before ++ text)
  pub name : (before : List ℕ) (p e : ℕ) (at : Target) (x : List ℕ) → StandsAt p e (texts_on before) at x
      → (text : List ℕ) × (x ≡ before ++ text) × (follow_on p e text ≡ Some at)

mutual
  pub lines_counted : (t : Bet) (f : List ℕ → Texts) (mp me : ℕ) (g : ℕ → ℕ → List ℕ → Option Target) → GoesOn f mp me g → (before : List ℕ)
      → (length (tree_lines f before t).points ≡ points_of mp t) × (length (tree_lines f before t).ends ≡ ends_of me t)
  lines_counted (act player ms) f mp me g on before = let r = move_lines_counted ms f mp me g on before in (omega (arith, r.0), r.1)
  lines_counted fold f mp me g on before = (refl, refl)
  lines_counted even f mp me g on before = (on.points_are before, on.ends_are before)

  move_lines_counted : (ms : Moves) (f : List ℕ → Texts) (mp me : ℕ) (g : ℕ → ℕ → List ℕ → Option Target) → GoesOn f mp me g → (before : List ℕ)
      → (length (move_lines f before ms).points ≡ move_points mp ms) × (length (move_lines f before ms).ends ≡ move_ends me ms)
  move_lines_counted none f mp me g on before = (refl, refl)
  move_lines_counted (move l c t ms) f mp me g on before =
      let one = lines_counted t f mp me g on (before ++ l ∷ []) in
      let rest = move_lines_counted ms f mp me g on before in (
        omega (arith, length-append (tree_lines f (before ++ l ∷ []) t).points (move_lines f before ms).points, one.0, rest.0),
        omega (arith, length-append (tree_lines f (before ++ l ∷ []) t).ends (move_lines f before ms).ends, one.1, rest.1),
      )

-- ---- a text leads to the position whose text it is

at_itself : (p : ℕ) (e : ℕ) (before : List ℕ) (xs ends : List (List ℕ)) (at : Target) → some (at_point p) ≡ some at
    → StandsAt p e (record { points = before ∷ xs; ends = ends }) at (before ++ [])
at_itself p e before xs ends at h = subst (λ (a : Target). StandsAt p e (record { points = before ∷ xs; ends = ends }) a (before ++ []))
    (some_is (at_point p) at h) (0, omega arith, ap some (sym (append-nil before)))

at_its_end : (p : ℕ) (e : ℕ) (before : List ℕ) (points : List (List ℕ)) (at : Target) → some (at_end e) ≡ some at
    → StandsAt p e (record { points = points; ends = before ∷ [] }) at (before ++ [])
at_its_end p e before points at h = subst (λ (a : Target). StandsAt p e (record { points = points; ends = before ∷ [] }) a (before ++ []))
    (some_is (at_end e) at h) (0, omega arith, ap some (sym (append-nil before)))

-- behind a point
behind : (p e : ℕ) (before : List ℕ) (x : Texts) (at : Target) (s : List ℕ) → StandsAt (p + 1) e x at s
    → StandsAt p e (record { points = before ∷ x.points; ends = x.ends }) at s
behind p e before x (at_point q) s h = (suc h.0, omega (arith, h.1), h.2)
behind p e before x (at_end z) s h = h

with_text : (p e : ℕ) (x : Texts) (at : Target) (s t : List ℕ) → s ≡ t → StandsAt p e x at s → StandsAt p e x at t
with_text p e x at s t f h = subst (λ (r : List ℕ). StandsAt p e x at r) f h

mutual
  leads : (t : Bet) (f : List ℕ → Texts) (mp me : ℕ) (g : ℕ → ℕ → List ℕ → Option Target) → GoesOn f mp me g → (before text : List ℕ) (p e : ℕ) (at : Target)
      → follow g mp me p e t text ≡ Some at → StandsAt p e (tree_lines f before t) at (before ++ text)
  leads (act player ms) f mp me g on before [] p e at h = at_itself p e before (move_lines f before ms).points (move_lines f before ms).ends at h
  leads (act player ms) f mp me g on before (b ∷ text) p e at h = behind p e before (move_lines f before ms) at (before
      ++ (b ∷ text)) (leads_moves ms f mp me g on before b text (p + 1) e at h)
  leads fold f mp me g on before [] p e at h = at_its_end p e before [] at h
  leads fold f mp me g on before (b ∷ text) p e at h = absurd cc
  leads even f mp me g on before text p e at h = on.leads before text p e at h

  leads_moves : (ms : Moves) (f : List ℕ → Texts) (mp me : ℕ) (g : ℕ → ℕ → List ℕ → Option Target) → GoesOn f mp me g
      → (before : List ℕ) (b : ℕ) (text : List ℕ) (p e : ℕ) (at : Target)
      → follow_moves g mp me p e ms b text ≡ Some at → StandsAt p e (move_lines f before ms) at (before ++ (b ∷ text))
  leads_moves none f mp me g on before b text p e at h = absurd cc
  leads_moves (move l c t ms) f mp me g on before b text p e at h =
      let first = tree_lines f (before ++ l ∷ []) t in
      elim (cases_Bool (eqb l b)) [
        | inl same ↦
            let there = leads t f mp me g on (before ++ l ∷ []) text p e at (rw same at h) in
            let whole : (before ++ l ∷ []) ++ text ≡ before ++ (b ∷ text) =
            append_assoc before (l ∷ []) text ∙ ap (λ (i : ℕ). before ++ (i ∷ text)) (eqb-true l b same) in
            in_first p e first (move_lines f before ms) at (before ++ (b ∷ text)) (with_text p e first at _ _ whole there)
        | inr other ↦
            let there = leads_moves ms f mp me g on before b text (p + points_of mp t) (e + ends_of me t) at (rw other at h) in
            in_second p e (p + points_of mp t) (e + ends_of me t) first (move_lines f before ms) at (before ++ (b ∷ text))
            (ap (λ (n : ℕ). p + n) (sym (lines_counted t f mp me g on (before ++ l ∷ [])).0))
            (ap (λ (n : ℕ). e + n) (sym (lines_counted t f mp me g on (before ++ l ∷ [])).1)) there
      ]

-- ---- each position is named by its text

has_from : (ms : Moves) (g : ℕ → ℕ → List ℕ → Option Target) (mp me p e b : ℕ) (text : List ℕ) (at : Target) → follow_moves g mp me p e ms b text ≡ Some at
    → has_letter ms b ≡ true
has_from none g mp me p e b text at h = absurd cc
has_from (move l c t ms) g mp me p e b text at h =
    elim (cases_Bool (eqb l b)) [
      | inl same ↦ rw same refl
      | inr other ↦ rw (other, has_from ms g mp me (p + points_of mp t) (e + ends_of me t) b text at (rw other at h)) refl
    ]

record Named (g : ℕ → ℕ → List ℕ → Option Target) (mp me p e : ℕ) (t : Bet) (before : List ℕ) (at : Target) (x : List ℕ) : Type 0 where
  text : List ℕ
  is : x ≡ before ++ text
  leads_to : follow g mp me p e t text ≡ Some at

record NamedMove (g : ℕ → ℕ → List ℕ → Option Target) (mp me p e : ℕ) (ms : Moves) (before : List ℕ) (at : Target) (x : List ℕ) : Type 0 where
  letter : ℕ
  text : List ℕ
  is : x ≡ before ++ (letter ∷ text)
  leads_to : follow_moves g mp me p e ms letter text ≡ Some at

-- the letters of a sound choice differ
differs : (left l c : ℕ) (t : Bet) (ms : Moves) → are_sound left (move l c t ms) ≡ true → has_letter ms l ≡ false
differs left l c t ms h =
    let p = and_parts (is_letter l && not (has_letter ms l)) _ h in
    not-true (has_letter ms l) (and_parts (is_letter l) (not (has_letter ms l)) p.0).1

-- a position of a choice is its point, or stands behind it
point-or-behind : (k q p e : ℕ) (before : List ℕ) (x : Texts) (s : List ℕ) → q ≡ p + k → slice_get (before ∷ x.points) k ≡ Some s
    → ((at_point q ≡ at_point p) × (s ≡ before)) ⊎ StandsAt (p + 1) e x (at_point q) s
point-or-behind zero q p e before x s f h = inl (ap at_point (omega (arith, f)), sym (some_is before s h))
point-or-behind (suc k) q p e before x s f h = inr (k, omega (arith, f), h)

split_act : (p e : ℕ) (before : List ℕ) (x : Texts) (at : Target) (s : List ℕ) → StandsAt p e (record { points = before ∷ x.points; ends = x.ends }) at s
    → ((at ≡ at_point p) × (s ≡ before)) ⊎ StandsAt (p + 1) e x at s
split_act p e before x (at_point q) s h = point-or-behind h.0 q p e before x s h.1 h.2
split_act p e before x (at_end z) s h = inr h

only-end : (k z e : ℕ) (before s : List ℕ) → z ≡ e + k → slice_get (before ∷ []) k ≡ Some s → (at_end z ≡ at_end e) × (s ≡ before)
only-end zero z e before s f h = (ap at_end (omega (arith, f)), sym (some_is before s h))
only-end (suc k) z e before s f h = absurd cc

abbrev no_texts : List (List ℕ)
no_texts = []

split_end : (p e : ℕ) (before : List ℕ) (at : Target) (s : List ℕ) → StandsAt p e (record { points = []; ends = before ∷ [] }) at s
    → (at ≡ at_end e) × (s ≡ before)
split_end p e before (at_point q) s h = absurd (nothing h.0 s h.2)
  where
    nothing : (k : ℕ) (s : List ℕ) → slice_get no_texts k ≡ Some s → ⊥
    nothing k s h = cc
split_end p e before (at_end z) s h = only-end h.0 z e before s h.1 h.2

mutual
  name : (t : Bet) (left : ℕ) (f : List ℕ → Texts) (mp me : ℕ) (g : ℕ → ℕ → List ℕ → Option Target) → GoesOn f mp me g
      → (before : List ℕ) (p e : ℕ) (at : Target) (x : List ℕ)
      → is_sound left t ≡ true → StandsAt p e (tree_lines f before t) at x → Named g mp me p e t before at x
  name (act player ms) left f mp me g on before p e at x sound h =
      let s = sound_act left player ms sound in
      elim (split_act p e before (move_lines f before ms) at x h) [
        | inl here ↦ record { text = []; is = here.1 ∙ sym (append-nil before); leads_to = ap some (sym here.0) }
        | inr there ↦
            let m = name_moves ms s.0 f mp me g on before (p + 1) e at x s.2 there in
            record { text = m.letter ∷ m.text; is = m.is; leads_to = m.leads_to }
      ]
  name fold left f mp me g on before p e at x sound h =
      let m = split_end p e before at x h in
      record { text = []; is = m.1 ∙ sym (append-nil before); leads_to = ap some (sym m.0) }
  name even left f mp me g on before p e at x sound h = let m = on.name before p e at x h in record { text = m.0; is = m.1; leads_to = m.2 }

  name_moves : (ms : Moves) (left : ℕ) (f : List ℕ → Texts) (mp me : ℕ) (g : ℕ → ℕ → List ℕ → Option Target) → GoesOn f mp me g
      → (before : List ℕ) (p e : ℕ) (at : Target) (x : List ℕ)
      → are_sound left ms ≡ true → StandsAt p e (move_lines f before ms) at x → NamedMove g mp me p e ms before at x
  name_moves none left f mp me g on before p e at x sound h = absurd (nowhere at h)
    where
      nothing : (k : ℕ) (s : List ℕ) → slice_get no_texts k ≡ Some s → ⊥
      nothing k s h = cc

      nowhere : (at : Target) → StandsAt p e (record { points = []; ends = [] }) at x → ⊥
      nowhere (at_point q) h = nothing h.0 x h.2
      nowhere (at_end z) h = nothing h.0 x h.2
  name_moves (move l c t ms) left f mp me g on before p e at x sound h =
      let m = sound_move left l c t ms sound in
      let first = tree_lines f (before ++ l ∷ []) t in
      elim (in_either p e (p + points_of mp t) (e + ends_of me t) first (move_lines f before ms) at x
      (ap (λ (n : ℕ). p + n) (sym (lines_counted t f mp me g on (before ++ l ∷ [])).0))
      (ap (λ (n : ℕ). e + n) (sym (lines_counted t f mp me g on (before ++ l ∷ [])).1)) h) [
        | inl here ↦
            let n = name t left f mp me g on (before ++ l ∷ []) p e at x m.next here in
            record { letter = l; text = n.text; is = n.is ∙ append_assoc before (l ∷ []) n.text; leads_to = rw (eq-eqb l l refl) n.leads_to }
        | inr there ↦
            let n = name_moves ms left f mp me g on before (p + points_of mp t) (e + ends_of me t) at x m.others there in
            let other : eqb l n.letter ≡ false = ne_eqb l n.letter (λ same. both_ways (has_letter ms l) (differs left l c t ms sound)
            (ap (has_letter ms) same ∙ has_from ms g mp me (p + points_of mp t) (e + ends_of me t) n.letter n.text at n.leads_to)) in
            record { letter = n.letter; text = n.text; is = n.is; leads_to = rw other n.leads_to }
      ]

-- ---- round by round

last_leads : (before text : List ℕ) (p e : ℕ) (at : Target) → follow_from [] p e text ≡ Some at → StandsAt p e (lines_from [] before) at (before ++ text)
last_leads before [] p e at h = at_its_end p e before [] at h
last_leads before (b ∷ text) p e at h = absurd cc

last_name : (before : List ℕ) (p e : ℕ) (at : Target) (x : List ℕ) → StandsAt p e (lines_from [] before) at x
    → (text : List ℕ) × (x ≡ before ++ text) × (follow_from [] p e text ≡ Some at)
last_name before p e at x h = let m = split_end p e before at x h in ([], m.1 ∙ sym (append-nil before), ap some (sym m.0))

none_not : (at : Target) → None ≡ some at → ⊥
none_not at h = cc

round_leads : (t : Bet) (ts : List Bet) → GoesOn (lines_from ts) (points_in ts) (ends_in ts) (follow_from ts) → (before text : List ℕ) (p e : ℕ) (at : Target)
    → follow_from (t ∷ ts) p e text ≡ Some at → StandsAt p e (lines_from (t ∷ ts) before) at (before ++ text)
round_leads t ts on before [] p e at h = absurd cc
round_leads t ts on before (b ∷ text) p e at h =
    elim (cases_Bool (eqb b 47)) [
      | inl slash ↦
          let there = leads t (lines_from ts) (points_in ts) (ends_in ts) (follow_from ts) on (before ++ 47 ∷ []) text p e at (rw slash at h) in
          let whole : (before ++ 47 ∷ []) ++ text ≡ before ++ (b ∷ text) =
          append_assoc before (47 ∷ []) text ∙ ap (λ (i : ℕ). before ++ (i ∷ text)) (sym (eqb-true b 47 slash)) in
          with_text p e (lines_from (t ∷ ts) before) at _ _ whole there
      | inr other ↦ absurd (none_not at (rw other at h))
    ]

pub rounds : (ts : List Bet) → AllByRecursion (λ t. is_sound 16 t ≡ true) ts → GoesOn (lines_from ts) (points_in ts) (ends_in ts) (follow_from ts)
rounds [] sound = record { points_are = λ before. refl; ends_are = λ before. refl; leads = last_leads; name = last_name }
rounds (t ∷ ts) sound =
    let on = rounds ts sound.1 in
    record {
      points_are = λ before. (lines_counted t (lines_from ts) (points_in ts) (ends_in ts) (follow_from ts) on (before ++ 47 ∷ [])).0;
      ends_are = λ before. (lines_counted t (lines_from ts) (points_in ts) (ends_in ts) (follow_from ts) on (before ++ 47 ∷ [])).1;
      leads = round_leads t ts on;
      name = λ before p e at x h.
          let m = name t 16 (lines_from ts) (points_in ts) (ends_in ts) (follow_from ts) on (before ++ 47 ∷ []) p e at x sound.0 h in
          (47 ∷ m.text, m.is ∙ append_assoc before (47 ∷ []) m.text, m.leads_to);
    }

from_zero : (x : Texts) (at : Target) (s : List ℕ) → StandsAt 0 0 x at s → text_at x at ≡ Some s
from_zero x (at_point q) s h = let e : q ≡ h.0 = omega (arith, h.1) in rw e h.2
from_zero x (at_end z) s h = let e : z ≡ h.0 = omega (arith, h.1) in rw e h.2

to_zero : (x : Texts) (at : Target) (s : List ℕ) → text_at x at ≡ Some s → StandsAt 0 0 x at s
to_zero x (at_point q) s h = (q, omega arith, h)
to_zero x (at_end z) s h = (z, omega arith, h)

-- a text leads to the position whose text it is, and to no other
pub names : (ts : List Bet) (text : List ℕ) (at : Target) → AllByRecursion (λ t. is_sound 16 t ≡ true) ts → follow_from ts 0 0 text ≡ Some at
    → text_at (lines ts) at ≡ Some text
names ts text at sound h = from_zero (lines ts) at text ((rounds ts sound).leads [] text 0 0 at h)

pub named : (ts : List Bet) (text : List ℕ) (at : Target) → AllByRecursion (λ t. is_sound 16 t ≡ true) ts → text_at (lines ts) at ≡ Some text
    → follow_from ts 0 0 text ≡ Some at
named ts text at sound h = let m = (rounds ts sound).name [] 0 0 at text (to_zero (lines ts) at text h) in rw m.1 m.2

-- ---- the program's answers

pub all_sound : (rs : List Round) → AllByRecursion (λ t. is_sound 16 t ≡ true) (plain_trees rs)
all_sound [] = tt
all_sound (r ∷ rs) = (tree_sound (plain r.tree.tree) r.tree.sound, all_sound rs)

pub line_found : (rs : List Round) (text : List ℕ) (r : Option StoredTarget) → option_map target_of r ≡ follow_from (plain_trees rs) 0 0 text
    → IfSome r (λ at. text_at (lines (plain_trees rs)) (target_of at) ≡ Some text)
line_found rs text None e = tt
line_found rs text (Some at) e = names (plain_trees rs) text (target_of at) (all_sound rs) (sym e)

pub line_only : (rs : List Round) (text : List ℕ) (r : Option StoredTarget) (at : Target) → option_map target_of r ≡ follow_from (plain_trees rs) 0 0 text
    → text_at (lines (plain_trees rs)) at ≡ Some text → option_map target_of r ≡ Some at
line_only rs text r at e h = e ∙ named (plain_trees rs) text at (all_sound rs) h
