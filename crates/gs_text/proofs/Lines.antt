-- The lines of classes, as they grow member by member.
use Rattle.std.proofs.Common.{◌≡◌, ◌∙◌, ℕ, Bool, ◌+◌, ◌-◌, ◌≤◌, ◌<◌, ◌==◌, List, [], ◌∷◌, ◌++◌, length, get_or, take, codes, if◌then◌else◌, sym, ap, subst}
use Rattle.std.proofs.{Common.{append_assoc, arith, eq-eqb, suc, zero, ⊎_elim}, lemmas.Slice.Zip.{get_or-zip, seconds-zip}}
use Rattle.std.proofs.{lemmas.Bool.{cases_lt}, lemmas.List.{append-nil, length-map, map-id, take_all, take_more}}
use Rattle.std.proofs.lemmas.List.{Concat.{flat_map-append, flat_map-cons}, FromFn.{map-range_with_len_more}}
use Rattle.std.specs.{Prelude.{flat_map}, List.{zip, range_with_len}}
use Rattle.gs_model.specs.Classes.{ClassLists, class_of, list_of}
use Rattle.gs_model.proofs.Basics.{not_eq}
use Rattle.gs_filter.specs.Members.{IsMemberFrom}
use Rattle.gs_text.specs.ClassText.{members_text, begin_line, open_line, class_line}

-- the text of a signal, if it is of the class c
abbrev member_text : ℕ → (List ℕ × ℕ) → List ℕ
member_text c m = if m.1 == c then codes " " ++ m.0 else []

-- the text so far: what stood before, and the line of a class up to the member `next`
pub record IsToldTo (texts : List (List ℕ)) (lists : ClassLists) (round class next : ℕ) (front text : List ℕ) : Type 0 where
  pub is : next < length (list_of lists round) → class_of lists round next ≡ class
  pub told : text ≡ front ++ open_line (take next (zip texts (list_of lists round))) class

module _ (texts : List (List ℕ)) (lists : ClassLists) (round class : ℕ) (same : length texts ≡ length (list_of lists round)) where
  abbrev members : List (List ℕ × ℕ)
  members = zip texts (list_of lists round)

  -- the texts of the members before a place
  abbrev before : ℕ → List ℕ
  before i = members_text class (take i members)

  count : length members ≡ length (list_of lists round)
  count = sym (length-map members (λ (m : List ℕ × ℕ). m.1)) ∙ ap (λ (l : List ℕ). length l) (seconds-zip texts (list_of lists round) (sym same))

  -- one signal more
  before-more : (i : ℕ) → i < length (list_of lists round) → before (i + 1) ≡ before i ++ member_text class (get_or texts i [], class_of lists round i)
  before-more i lt =
      let m = get_or members i ([], 0) in
      ap (members_text class) (take_more members i ([], 0) (omega (arith, lt, count)))
      ∙ flat_map-append (member_text class) (take i members) (m ∷ [])
      ∙ ap (λ r. before i ++ r) (flat_map-cons (member_text class) m [] ∙ append-nil (member_text class m)
      ∙ ap (member_text class) (get_or-zip texts (list_of lists round) i ([], 0) (omega (arith, lt, same)) lt))

  -- signals of other classes add nothing
  before-others : (n i : ℕ) → ((s : ℕ) → i ≤ s → s < i + n → class_of lists round s ≡ class → ⊥) → before (i + n) ≡ before i
  before-others zero i none = let e : i + zero ≡ i = omega arith in ap before e
  before-others (suc n) i none =
      let e : i + suc n ≡ i + n + 1 = omega arith in
      let last : before (i + n + 1) ≡ before (i + n) = ⊎_elim
      (λ (lt : i + n < length (list_of lists round)).
      let other = not_eq (class_of lists round (i + n)) class (none (i + n) (omega arith) (omega arith)) in
      before-more (i + n) lt ∙ ap (λ (b : Bool). before (i + n) ++ (if b then codes " " ++ get_or texts (i + n) [] else [])) other
      ∙ append-nil (before (i + n)))
      (λ le. ap (members_text class)
      (take_all (i + n + 1) members (omega (arith, le, count)) ∙ sym (take_all (i + n) members (omega (arith, le, count)))))
      (cases_lt (i + n) (length (list_of lists round))) in
      ap before e ∙ last ∙ before-others n i (λ s l m. none s l (omega (arith, m)))

  before-next : (from next : ℕ) → IsMemberFrom lists round from class next → before next ≡ before from
  before-next from next h =
      let e : next ≡ from + (next - from) = omega (arith, h.behind) in
      ap before e ∙ before-others (next - from) from (λ s l m. h.none s l (omega (arith, m, h.behind)))

  -- the line begins
  pub told_none : (first : ℕ) (front text : List ℕ) → IsMemberFrom lists round 0 class first → text ≡ front ++ begin_line class
      → IsToldTo texts lists round class first front text
  told_none first front text h e = record {
    is = h.is;
    told = e ∙ ap (λ r. front ++ r) (sym (append-nil (begin_line class)) ∙ ap (λ r. begin_line class ++ r) (sym (before-next 0 first h)));
  }

  -- one member more
  pub told_more : (s next : ℕ) (front old new shown : List ℕ) → IsToldTo texts lists round class s front old → s < length (list_of lists round)
      → IsMemberFrom lists round (s + 1) (class_of lists round s) next → get_or texts s [] ≡ shown → new ≡ old ++ (codes " " ++ shown)
      → IsToldTo texts lists round class next front new
  told_more s next front old new shown h lt from is_shown grown =
      let own = h.is lt in
      let after : IsMemberFrom lists round (s + 1) class next = subst (λ k. IsMemberFrom lists round (s + 1) k next) own from in
      let here : member_text class (get_or texts s [], class_of lists round s) ≡ codes " " ++ shown =
      ap (λ (b : Bool). if b then codes " " ++ get_or texts s [] else []) (eq-eqb (class_of lists round s) class own) ∙ ap (λ t. codes " " ++ t) is_shown in
      let all : before next ≡ before s ++ (codes " " ++ shown) = before-next (s + 1) next after ∙ before-more s lt ∙ ap (λ r. before s ++ r) here in
      record {
        is = after.is;
        told = grown ∙ ap (λ t. t ++ (codes " " ++ shown)) h.told ∙ append_assoc front (begin_line class ++ before s) (codes " " ++ shown)
            ∙ ap (λ r. front ++ r) (append_assoc (begin_line class) (before s) (codes " " ++ shown) ∙ ap (λ r. begin_line class ++ r) (sym all));
      }

  -- the line ends
  pub told_all : (next : ℕ) (front old new : List ℕ) → IsToldTo texts lists round class next front old → length (list_of lists round) ≤ next
      → new ≡ old ++ codes "\n" → new ≡ front ++ class_line members class
  told_all next front old new h le e =
      e ∙ ap (λ t. t ++ codes "\n") (h.told ∙ ap (λ ms. front ++ open_line ms class) (take_all next members (omega (arith, le, count))))
      ∙ append_assoc front (open_line members class) (codes "\n")

range-more : (i : ℕ) → range_with_len 1 (i + 1) ≡ range_with_len 1 i ++ (i + 1) ∷ []
range-more i = sym (map-id (range_with_len 1 (i + 1))) ∙ map-range_with_len_more (λ k. k) 1 i (i + 1) (omega arith)
    ∙ ap (λ r. r ++ (i + 1) ∷ []) (map-id (range_with_len 1 i))

-- one more line behind lines, or one more round behind rounds
pub lines-more : (f : ℕ → List ℕ) (front old new : List ℕ) (i : ℕ) → old ≡ front ++ flat_map f (range_with_len 1 i) → new ≡ old ++ f (i + 1)
    → new ≡ front ++ flat_map f (range_with_len 1 (i + 1))
lines-more f front old new i o n =
    let one : flat_map f ((i + 1) ∷ []) ≡ f (i + 1) = flat_map-cons f (i + 1) [] ∙ append-nil (f (i + 1)) in
    let all : flat_map f (range_with_len 1 (i + 1)) ≡ flat_map f (range_with_len 1 i) ++ f (i + 1) =
    ap (flat_map f) (range-more i) ∙ flat_map-append f (range_with_len 1 i) ((i + 1) ∷ []) ∙ ap (λ r. flat_map f (range_with_len 1 i) ++ r) one in
    n ∙ ap (λ r. r ++ f (i + 1)) o ∙ append_assoc front (flat_map f (range_with_len 1 i)) (f (i + 1)) ∙ sym (ap (λ r. front ++ r) all)
