-- What is said of a game file is one: its classes, their first unlike pair, and the answers of `shrink`, `check` and `make`.
use Rattle.std.proofs.Common.{◌≡◌, ◌⊎◌, ℕ, ◌+◌, ◌-◌, ◌<◌, ◌≤◌, Bool, true, false, List, [], length, get_or, Result, Ok, Err, sym, ap, ◌∙◌, subst, inl, inr}
use Rattle.std.proofs.{Common.{arith}, lemmas.Bool.{cases_lt}, lemmas.List.{ext_get_or}}
use Rattle.gs_run.specs.Making.{Makes, made_file}
use Rattle.gs_file.specs.{Faults.{Fault}, Reading.{FileGame, read_at, file_rules}}
use Rattle.gs_game_commands.specs.{Checking.{Checks, ChecksGame, IsGrouping, SaysNotLossless}, Shrinking.{Shrinks, ShrinksGame, told}}
use Rattle.gs_words.specs.{declared.request.Grouping.{Grouping}, declared.request.Make.{Make}}
use Rattle.gs_words.specs.declared.request.Grouping.TheVariants.{Isomorphism, Coarsest, Single}
use Rattle.gs_model.proofs.{Numbered.{numbered_once}, Unlike.{coarsest_is_one}}
use Rattle.gs_model.specs.{Classes.{ClassLists, class_of, first_member, list_of}, Frame.{Frame, frame_of}, Game.{Game, round_count}}
use Rattle.gs_model.specs.{Lossless.{Alike, IsFirstUnlike, IsLossless}, Refinement.{IsCoarsestLossless}, SignalClasses.{IsSignalClasses}, Signals.{signal_at}}
use Rattle.gs_reply.specs.{Refusals.{Unlike_pair}, Replies.{OfReading, Reply, Prints, Refuses}, Troubles.{IsUnlikePair, SaysUnlike}}
use Rattle.gs_strategy.specs.Values.{file_frame}
use Rattle.gs_tree.specs.Texts.{signal_text}

-- ---- classes

-- lists that agree round by round are the same
by_rounds : (a b : ClassLists) → length a ≡ length b → ((round : ℕ) → 0 < round → round ≤ length a → list_of a round ≡ list_of b round) → a ≡ b
by_rounds a b e h = ext_get_or [] a b e (λ i l. (let back : i + 1 - 1 ≡ i = omega arith in
    ap (λ (k : ℕ). get_or a k []) (sym back) ∙ h (i + 1) (omega arith) (omega arith) ∙ ap (λ (k : ℕ). get_or b k []) back))

pub signal_classes_one : (g : Game) (a b : ClassLists) → IsSignalClasses g a → IsSignalClasses g b → a ≡ b
signal_classes_one g a b h k =
    let long : length a ≡ length b = h.rounds ∙ sym k.rounds in
    let count = h.rounds in
    by_rounds a b long (λ round some top. (let within : round ≤ round_count g = omega arith in
    let one = h.lengths round some within in
    let two = k.lengths round some within in
    let c = h.classes round some within in
    let d = k.classes round some within in
    numbered_once (list_of a round) (list_of b round) (one ∙ sym two) c.numbered d.numbered (λ i j li lj.
    (λ e. (d.same i j (omega arith) (omega arith)).1 ((c.same i j li lj).0 e), λ e. (c.same i j li lj).1 ((d.same i j (omega arith) (omega arith)).0 e)))))

coarsest_one : (f : Frame) (from a b : ClassLists) → IsCoarsestLossless f from a → IsCoarsestLossless f from b → a ≡ b
coarsest_one f from a b h k =
    let ha = h.classes.rounds in
    let hb = k.classes.rounds in
    by_rounds a b (ha ∙ sym hb) (λ round some top. coarsest_is_one f from a b h k round some (omega arith))

pub groupings_one : (grouping : Grouping) (g : Game) (a b : ClassLists) → IsGrouping grouping g a → IsGrouping grouping g b → a ≡ b
groupings_one Isomorphism g a b h k = signal_classes_one g a b h k
groupings_one Single g a b h k = h ∙ sym k
groupings_one Coarsest g a b (s, is, h) (t, it, k) =
    let e = signal_classes_one g t s it is in
    coarsest_one (frame_of g) s a b h (subst (λ (l : ClassLists). IsCoarsestLossless (frame_of g) l b) e k)

-- ---- the first unlike pair

not_earlier : (f : Frame) (lists : ClassLists) (r a s r' a' s' : ℕ) → IsFirstUnlike f lists r a s → IsFirstUnlike f lists r' a' s'
    → (r' < r) ⊎ ((r' ≡ r) × (s' < s)) → ⊥
not_earlier f lists r a s r' a' s' u v h =
    v.unlike (subst (λ (x : ℕ). Alike f lists r' x s') (sym v.member) (u.before r' s' h v.round_in.0 v.second_in))

record IsSame (r a s r' a' s' : ℕ) : Type 0 where
  round : r ≡ r'
  first : a ≡ a'
  second : s ≡ s'

first_unlike_one : (f : Frame) (lists : ClassLists) (r a s r' a' s' : ℕ) → IsFirstUnlike f lists r a s → IsFirstUnlike f lists r' a' s'
    → IsSame r a s r' a' s'
first_unlike_one f lists r a s r' a' s' u v =
    let rounds : r ≡ r' = elim (cases_lt r r') [
      | inl l ↦ absurd (not_earlier f lists r' a' s' r a s v u (inl l))
      | inr l ↦ elim (cases_lt r' r) [ inl m ↦ absurd (not_earlier f lists r a s r' a' s' u v (inl m)) | inr m ↦ omega arith ]
    ] in
    let seconds : s ≡ s' = elim (cases_lt s s') [
      | inl l ↦ absurd (not_earlier f lists r' a' s' r a s v u (inr (rounds, l)))
      | inr l ↦ elim (cases_lt s' s) [ inl m ↦ absurd (not_earlier f lists r a s r' a' s' u v (inr (sym rounds, m))) | inr m ↦ omega arith ]
    ] in
    let firsts : a ≡ a' = u.member ∙ both r r' s s' rounds seconds ∙ sym v.member in
    record { round = rounds; first = firsts; second = seconds }
  where
    both : (r r' s s' : ℕ) → r ≡ r' → s ≡ s' → first_member lists r (class_of lists r s) ≡ first_member lists r' (class_of lists r' s')
    both r r' s s' e h = cc

-- two pairs by their texts
pub unlike_pair_one : (g : FileGame) (lists : ClassLists) (r : ℕ) (one two : List ℕ) (r' : ℕ) (one' two' : List ℕ) → IsUnlikePair g lists r one two
    → IsUnlikePair g lists r' one' two' → Unlike_pair r one two ≡ Unlike_pair r' one' two'
unlike_pair_one g lists r one two r' one' two' u v =
    let s = first_unlike_one (file_frame g) lists r u.first u.second r' v.first v.second u.unlike v.unlike in
    let rounds = s.round in
    let a : one ≡ one' = u.first_text ∙ at r r' u.first v.first rounds s.first ∙ sym v.first_text in
    let b : two ≡ two' = u.second_text ∙ at r r' u.second v.second rounds s.second ∙ sym v.second_text in
    cc
  where
    at : (r r' i j : ℕ) → r ≡ r' → i ≡ j → signal_text g.deck (signal_at (file_rules g) r i) ≡ signal_text g.deck (signal_at (file_rules g) r' j)
    at r r' i j e h = cc

pub says_unlike_one : (g : FileGame) (lists : ClassLists) (one two : Reply) → SaysUnlike g lists one → SaysUnlike g lists two → one ≡ two
says_unlike_one g lists one two (r, a, b, u, e) (r', a', b', v, e') = let s = unlike_pair_one g lists r a b r' a' b' u v in cc

pub unlike_or_lossless : (g : FileGame) (lists : ClassLists) (reply : Reply) → SaysUnlike g lists reply → IsLossless (file_frame g) lists → ⊥
unlike_or_lossless g lists reply (r, a, b, u, e) h = u.not_lossless h

-- the refusal of a grouping is one
pub not_lossless_one : (grouping : Grouping) (g : FileGame) (one two : Reply) → SaysNotLossless grouping g one → SaysNotLossless grouping g two → one ≡ two
not_lossless_one grouping g one two (i, a, is, u) (j, b, it, v) =
    let e = signal_classes_one (file_rules g) b a it is in
    says_unlike_one g a one two u (subst (λ (l : ClassLists). SaysUnlike g l two) e v)

-- and stands against lossless classes of it
pub not_both : (grouping : Grouping) (g : FileGame) (lists : ClassLists) (reply : Reply) → SaysNotLossless grouping g reply
    → IsGrouping grouping (file_rules g) lists → IsLossless (file_frame g) lists → ⊥
not_both grouping g lists reply (i, a, is, u) are h =
    let signals : IsSignalClasses (file_rules g) lists = subst (λ (x : Grouping). IsGrouping x (file_rules g) lists) i are in
    let e = signal_classes_one (file_rules g) a lists is signals in
    unlike_or_lossless g lists reply (subst (λ (l : ClassLists). SaysUnlike g l reply) e u) h

-- ---- readings

pub over_reading : (says : FileGame → Reply → Type 0) → ((g : FileGame) (one two : Reply) → says g one → says g two → one ≡ two)
    → (read : Result FileGame Fault) (one two : Reply) → OfReading says read one → OfReading says read two → one ≡ two
over_reading says h (Ok g) one two a b = h g one two a b
over_reading says h (Err why) one two a b = a ∙ sym b

-- ---- the three answers

shrunk_one : (summary : Bool) (g : FileGame) (one two : Reply) → ShrinksGame summary g one → ShrinksGame summary g two → one ≡ two
shrunk_one summary g (Prints a) (Prints b) h k =
    let e = signal_classes_one (file_rules g) h.classes k.classes h.are k.are in
    let t : a ≡ b = h.printed ∙ ap (told summary g.deck (file_rules g)) e ∙ sym k.printed in
    ap (λ (x : List ℕ). Prints x) t
shrunk_one summary g (Prints a) (Refuses why) h k = absurd k
shrunk_one summary g (Refuses why) two h k = absurd h

pub shrinks_one : (summary : Bool) (bytes : List ℕ) (one two : Reply) → Shrinks summary bytes one → Shrinks summary bytes two → one ≡ two
shrinks_one summary bytes one two h k = over_reading (ShrinksGame summary) (shrunk_one summary) (read_at bytes) one two h k

checked_one : (grouping : Grouping) (summary : Bool) (g : FileGame) (one two : Reply) → ChecksGame grouping summary g one → ChecksGame grouping summary g two
    → one ≡ two
checked_one grouping summary g (Prints a) (Prints b) h k =
    let e = groupings_one grouping (file_rules g) h.classes k.classes h.are k.are in
    let t : a ≡ b = h.printed ∙ ap (told summary g.deck (file_rules g)) e ∙ sym k.printed in
    ap (λ (x : List ℕ). Prints x) t
checked_one grouping summary g (Prints a) (Refuses why) h k = absurd (not_both grouping g h.classes (Refuses why) k h.are h.lossless)
checked_one grouping summary g (Refuses why) (Prints a) h k = absurd (not_both grouping g k.classes (Refuses why) h k.are k.lossless)
checked_one grouping summary g (Refuses why) (Refuses whom) h k = not_lossless_one grouping g (Refuses why) (Refuses whom) h k

pub checks_one : (grouping : Grouping) (summary : Bool) (bytes : List ℕ) (one two : Reply) → Checks grouping summary bytes one
    → Checks grouping summary bytes two → one ≡ two
checks_one grouping summary bytes one two h k = over_reading (ChecksGame grouping summary) (checked_one grouping summary) (read_at bytes) one two h k

pub makes_one : (m : Make) (summary : Bool) (one two : Reply) → Makes m summary one → Makes m summary two → one ≡ two
makes_one m false one two h k = h ∙ sym k
makes_one m true one two h k = shrinks_one true (made_file m) one two h k
