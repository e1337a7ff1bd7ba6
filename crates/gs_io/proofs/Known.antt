-- Known bytes over several writes.
use Rattle.std.proofs.Common.{◌≡◌, ℕ, ◌+◌, ◌-◌, ◌<◌, min, List, [], ◌∷◌, ◌++◌, take, drop, length, Some, None, refl, sym, ap, ◌∙◌, append_assoc, arith}
use Rattle.std.proofs.{lemmas.List.{drop-drop, take_all, take-append-drop, length-drop}, Math.Seq.{take-add}}
use Rattle.std.specs.{declared.option.Option.{Option}, Io.KnownBytes.{Appends}}

-- the rest of a list, as the code cuts it
to_end : (w : ℕ) (bytes : List ℕ) → take (length bytes - w) (drop w bytes) ≡ drop w bytes
to_end w bytes = take_all (length bytes - w) (drop w bytes) (simp length-drop (omega arith))

-- a sink that took the first w bytes, and then n of the rest, took the first w + n
pub appends_more : (old mid new : Option (List ℕ)) (w n : ℕ) (bytes : List ℕ) → Appends old mid (take w bytes)
    → Appends mid new (take n (take (length bytes - w) (drop w bytes))) → Appends old new (take (w + n) bytes)
appends_more None mid new w n bytes p q = tt
appends_more (Some a) None new w n bytes p q = absurd p
appends_more (Some a) (Some b) None w n bytes p q = absurd q
appends_more (Some a) (Some b) (Some c) w n bytes p q = rw (take-add w n bytes, ← append_assoc) (rw (to_end w bytes) at q
    ∙ ap (λ zs. zs ++ take n (drop w bytes)) p)

-- nothing was taken, so nothing is left
none_left : (left : List ℕ) (count places most : ℕ) → count ≡ min (min (length left) places) most → count ≡ 0 → 0 < places → 0 < most → left ≡ []
none_left [] count places most e none some room = refl
none_left (x ∷ xs) count places most e none some room = absurd (omega arith)

-- a read of the first bytes that are left, of which so many were read before
pub copied_front : (bytes now into left : List ℕ) (at count places most : ℕ) → now ≡ bytes → drop at bytes ≡ left → 0 < places → 0 < most
    → count ≡ min (min (length (take (length now - at) (drop at now))) places) most
    → take count into ≡ take count (take (length now - at) (drop at now))
    → (left ≡ take count into ++ drop (at + count) bytes) × (count ≡ 0 → 0 < length into → drop (at + count) bytes ≡ [])
copied_front bytes now into left at count places most same is some room counted copied =
    let front : take (length now - at) (drop at now) ≡ left = ap (λ b. take (length b - at) (drop at b)) same ∙ to_end at bytes ∙ is in
    let behind : drop (at + count) bytes ≡ drop count left = sym (drop-drop count at bytes) ∙ ap (drop count) is in
    let taken : take count into ≡ take count left = copied ∙ ap (take count) front in
    let all : count ≡ min (min (length left) places) most = counted ∙ ap (λ (b : List ℕ). min (min (length b) places) most) front in (
      sym (take-append-drop count left) ∙ ap (λ b. b ++ drop count left) (sym taken) ∙ ap (λ b. take count into ++ b) (sym behind),
      λ none _. behind ∙ ap (λ n. drop n left) none ∙ none_left left count places most all none some room,
    )
