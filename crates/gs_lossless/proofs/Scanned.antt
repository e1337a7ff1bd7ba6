-- The steps of the scans, and what their answers make of classes.
use Rattle.std.proofs.Common.{◌≡◌, ◌≢◌, ℕ, ◌+◌, ◌-◌, ◌<◌, ◌≤◌, false, List, length, get_or, set, refl, sym, ap, ◌∙◌, subst, arith, ⊎_elim, inl, inr}
use Rattle.std.proofs.Common.{true≢false, Option, Some, None, Vec, Global}
use Rattle.std.proofs.{lemmas.Bool.{cases_eq, cases_lt}, lemmas.List.{get_or-set_other, get_or-set_same, length-set}}
use Rattle.std.specs.{Option.{option_or}, Prelude.{is_some, unwrap_or}}
use Rattle.gs_filter.specs.Filter.{Filter, single_classes}
use Rattle.gs_filter.proofs.ClassLaws.{single_are_classes}
use Rattle.gs_model.specs.{Classes.{ClassLists, class_of, first_member, list_of}, Frame.{Frame, frame_of, last_round, signal_count}}
use Rattle.gs_model.specs.{Game.{Game, round_count}, Lossless.{Alike, IsFirstUnlike, IsLossless}, Signals.{signals}}
use Rattle.gs_model.proofs.{Ranges.{signal_count_is}, Walked.{last_round_of}}
use Rattle.gs_lossless.specs.Amounts.{HaveEqualAmounts, AgreesWithFirst, AreAmounts, AreAspectFirsts, HasAspect}
use Rattle.gs_lossless.specs.{Scans.{AgreeBelow, AreFirstsKept, IsFirstApart, IsFirstKept}, Stops.{AreAlikeBelow, MatchUnlike}}
use Rattle.gs_lossless.specs.{declared.parts.Part.{Part}, declared.aspects.Aspect.{Aspect}, declared.aspects.Aspect.TheVariants.{Deals, Children}}
use Rattle.gs_lossless.proofs.{Descent.{list_long}, Settled.{agree_children, agree_deals, alike_from, not_lossless, over, singles}}

pub aspect_in : (f : Frame) (aspect : Aspect) (round : ℕ) → HasAspect f aspect round → (0 < round) × (round ≤ last_round f)
aspect_in f Deals round h = h
aspect_in f Children round h = (h.0, omega (arith, h.1))

pub aspect_top : (g : Game) (aspect : Aspect) (round : ℕ) → HasAspect (frame_of g) aspect round → round ≤ round_count g
aspect_top g aspect round h = let l = aspect_in (frame_of g) aspect round h in omega (arith, l.1, last_round_of g)

-- the signals of a round with an aspect, by the frame and by the game
pub aspect_signals : (g : Game) (aspect : Aspect) (round : ℕ) → HasAspect (frame_of g) aspect round → signal_count (frame_of g) round ≡ length (signals g round)
aspect_signals g aspect round h = signal_count_is g round (aspect_in (frame_of g) aspect round h).0 (aspect_top g aspect round h)

-- and by the lists of classes over the game's parents
pub aspect_classes : (g : Game) (l : Filter) → l.parents ≡ (frame_of g).parents → (aspect : Aspect) (round : ℕ) → HasAspect (frame_of g) aspect round
    → length (list_of l.lists round) ≡ length (signals g round)
aspect_classes g l e aspect round h = list_long g l e round (aspect_in (frame_of g) aspect round h).0 (aspect_top g aspect round h)

-- ---- sums that are kept

module _ (f : Frame) (lists : ClassLists) (aspect : Aspect) (round class : ℕ) (kept : List (Vec Part Global)) (sums : Vec Part Global) (some : 0 < class)
    (l : class ≤ length kept) (here : AreAmounts f lists aspect round (first_member lists round class) sums.items) where
  -- the sums that were put in are kept
  pub kept_here : IsFirstKept f lists aspect round class (set kept (class - 1) sums)
  kept_here d = subst (λ (v : Vec Part Global). AreAmounts f lists aspect round (first_member lists round class) v.items)
      (sym (get_or-set_same kept (class - 1) sums d (omega (arith, some, l)))) here

  -- and so are all others
  pub kept_more : AreFirstsKept f lists aspect round kept → AreFirstsKept f lists aspect round (set kept (class - 1) sums)
  kept_more h k a b = ⊎_elim
      (λ same. inr (subst (λ j. IsFirstKept f lists aspect round j (set kept (class - 1) sums)) (sym same) kept_here))
      (λ other.
      let apart : k - 1 ≢ class - 1 = λ e. other (omega (arith, e, a, some)) in
      let read : (d : Vec Part Global) → get_or (set kept (class - 1) sums) (k - 1) d ≡ get_or kept (k - 1) d =
      λ d. get_or-set_other kept (class - 1) (k - 1) sums d apart in
      ⊎_elim (λ none. inl (λ d. ap (λ (v : Vec Part Global). v.items) (read d) ∙ none d))
      (λ has. inr (λ d. subst (λ (v : Vec Part Global). AreAmounts f lists aspect round (first_member lists round k) v.items) (sym (read d)) (has d)))
      (h k a (omega (arith, b, length-set kept (class - 1) sums))))
      (cases_eq k class)

pub agree_more : (f : Frame) (lists : ClassLists) (aspect : Aspect) (round signal : ℕ) → AgreeBelow f lists aspect round signal
    → AgreesWithFirst f lists aspect round signal → AgreeBelow f lists aspect round (signal + 1)
agree_more f lists aspect round signal h here s l = ⊎_elim (λ under. h s under) (λ over. let e : signal ≡ s = omega (arith, l, over) in
    subst (AgreesWithFirst f lists aspect round) e here) (cases_lt s signal)

-- a signal that an earlier one stands for agrees with the first member of its class
module _ (f : Frame) (lists : ClassLists) (aspect : Aspect) (round signal : ℕ) (firsts : List ℕ) (h : AreAspectFirsts f lists aspect round firsts)
    (l : signal < length firsts) (under : get_or firsts signal 0 < signal) where
  pub stood_agrees : AgreeBelow f lists aspect round signal → AgreesWithFirst f lists aspect round signal
  stood_agrees below = subst (λ (k : ℕ). HaveEqualAmounts f lists aspect round (first_member lists round k) signal) (h.class signal l)
      (λ c o. below (get_or firsts signal 0) under c o ∙ h.agree signal l c o)

-- the first member agrees with itself
pub agree_self : (f : Frame) (lists : ClassLists) (aspect : Aspect) (round signal : ℕ) → first_member lists round (class_of lists round signal) ≡ signal
    → AgreesWithFirst f lists aspect round signal
agree_self f lists aspect round signal e = subst (λ x. HaveEqualAmounts f lists aspect round x signal) (sym e) (λ c o. refl)

-- ---- rounds

-- no signal is apart: all agree
pub none_apart : (f : Frame) (lists : ClassLists) (aspect : Aspect) (round end : ℕ) (r : Option ℕ) → is_some r ≡ false → IsFirstApart f lists aspect round end r
    → AgreeBelow f lists aspect round end
none_apart f lists aspect round end None e h = h
none_apart f lists aspect round end (Some s) e h = absurd (true≢false e)

-- the first signal before `end` whose children differ from those of the first member of its class; `None` if there is none or in the last round
abbrev pub IsChildrenApart : Frame → ClassLists → ℕ → ℕ → Option ℕ → Type 0
IsChildrenApart f lists round end None = round < last_round f → AgreeBelow f lists Children round end
IsChildrenApart f lists round end (Some s) = (round < last_round f) × IsFirstApart f lists Children round end (Some s)

pub children_from : (f : Frame) (lists : ClassLists) (round end : ℕ) (r : Option ℕ) → round < last_round f → IsFirstApart f lists Children round end r
    → IsChildrenApart f lists round end r
children_from f lists round end None l h = λ _. h
children_from f lists round end (Some s) l h = (l, h)

pub unlike_from : (f : Frame) (lists : ClassLists) (round : ℕ) → 0 < round → (apart r : Option ℕ)
    → IsFirstApart f lists Deals round (signal_count f round) apart
    → IsChildrenApart f lists round (unwrap_or apart (signal_count f round)) r → MatchUnlike f lists round (option_or r apart)
unlike_from f lists round some None None h k = λ s l. alike_from f lists round (first_member lists round (class_of lists round s)) s some (h s l)
    (λ b. k b s l)
unlike_from f lists round some (Some t) None h k = (
  h.0,
  (λ s l. alike_from f lists round (first_member lists round (class_of lists round s)) s some (h.1 s l) (λ b. k b s l)),
  (λ a. h.2 (agree_deals f lists round (first_member lists round (class_of lists round t)) t a)),
)
unlike_from f lists round some None (Some u) h k = (
  k.1.0,
  (λ s l. alike_from f lists round (first_member lists round (class_of lists round s)) s some (h s (omega (arith, l, k.1.0))) (λ _. k.1.1 s l)),
  (λ a. k.1.2 (agree_children f lists round (first_member lists round (class_of lists round u)) u k.0 a)),
)
unlike_from f lists round some (Some t) (Some u) h k = (
  omega (arith, k.1.0, h.0),
  (λ s l. alike_from f lists round (first_member lists round (class_of lists round s)) s some (h.1 s (omega (arith, l, k.1.0))) (λ _. k.1.1 s l)),
  (λ a. k.1.2 (agree_children f lists round (first_member lists round (class_of lists round u)) u k.0 a)),
)

pub first_unlike_from : (f : Frame) (lists : ClassLists) (before first second class : ℕ) → before + 1 ≤ last_round f
    → MatchUnlike f lists (before + 1) (Some second) → class ≡ class_of lists (before + 1) second
    → first ≡ first_member lists (before + 1) class → ((r : ℕ) → 0 < r → r ≤ before → AreAlikeBelow f lists r (signal_count f r))
    → IsFirstUnlike f lists (before + 1) first second
first_unlike_from f lists before first second class top h e g below =
    let own : first ≡ first_member lists (before + 1) (class_of lists (before + 1) second) = g ∙ ap (first_member lists (before + 1)) e in
    record {
      round_in = (omega arith, top);
      second_in = h.0;
      member = own;
      unlike = λ a. h.2 (subst (λ x. Alike f lists (before + 1) x second) own a);
      before = λ r s or some l. ⊎_elim (λ under. below r some (omega (arith, under)) s l)
          (λ same. subst (λ (k : ℕ). Alike f lists k (first_member lists k (class_of lists k s)) s) (sym same.0) (h.1 s same.1)) or;
    }

pub alike_more : (f : Frame) (lists : ClassLists) (before : ℕ) → ((r : ℕ) → 0 < r → r ≤ before → AreAlikeBelow f lists r (signal_count f r))
    → MatchUnlike f lists (before + 1) None
    → (r : ℕ) → 0 < r → r ≤ before + 1 → AreAlikeBelow f lists r (signal_count f r)
alike_more f lists before h here r some l = ⊎_elim (λ under. h r some (omega (arith, under))) (λ over. let e : before + 1 ≡ r = omega (arith, l, over) in
    subst (λ (k : ℕ). AreAlikeBelow f lists k (signal_count f k)) e here) (cases_lt r (before + 1))

-- a first unlike pair refutes losslessness, and single signals have none
pub refuted : (f : Frame) (l : Filter) → l.parents ≡ f.parents → (round first second : ℕ) → IsFirstUnlike f l.lists round first second
    → IsLossless f l.lists → ⊥
refuted f l e round first second = not_lossless f l.lists round first second (over f l e l.classes)

pub not_single : (f : Frame) (l : Filter) → l.parents ≡ f.parents → (round first second : ℕ) → IsFirstUnlike f l.lists round first second
    → l.lists ≡ single_classes l.parents → ⊥
not_single f l e round first second u g =
    refuted f l e round first second u (subst (IsLossless f) (sym (g ∙ ap single_classes e)) (singles f (single_are_classes f.parents)))

-- the end of the second scan of a round
pub end_in : (f : Frame) (lists : ClassLists) (round count : ℕ) (apart : Option ℕ) → IsFirstApart f lists Deals round count apart
    → unwrap_or apart count ≤ count
end_in f lists round count None h = omega arith
end_in f lists round count (Some t) h = omega (arith, h.0)
