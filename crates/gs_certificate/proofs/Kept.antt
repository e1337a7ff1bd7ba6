-- What ends pay, kept end by end.
use Rattle.std.proofs.Common.{◌≡◌, ◌≢◌, ℕ, ◌+◌, ◌-◌, ◌<◌, ◌≤◌, List, [], ◌∷◌, ◌++◌, length, get_or, refl, sym, ap, subst, ◌∙◌, arith, ⊎_elim}
use Rattle.std.proofs.{lemmas.Bool.{cases_eq}, lemmas.List.{get_or-append-add, get_or_append_left, get_or_push, length_push}, Math.ListN.{length-append}}
use Rattle.std.specs.Prelude.{ℤ, pos}
use Rattle.gs_model.specs.{Classes.{ClassLists, IsClass}, Frame.{Frame, round_of}, Plans.{IsClassPlan, Plan}, Positions.{at_end}}
use Rattle.gs_seq.specs.{Payoffs.{end_classes, end_sum}, Plans.{class_plan}, Abstracts.{game_in}}
use Rattle.gs_seq.proofs.Forms.{AreGiven, given, form_classes}
use Rattle.gs_best.specs.{Sides.{frame_at, lists_at}, declared.side.Side.{Side}}
use Rattle.gs_certificate.specs.Paid.{AreKept}

module _ (f : Frame) (lists : ClassLists) (player : ℕ) (y : Plan) where
  -- no end yet
  pub none_kept : (starts : List ℕ) (sums : List ℤ) → length starts ≡ 0 → AreKept f lists player y 0 starts sums
  none_kept starts sums none = record { long = none; within = λ z l. absurd (omega arith); paid = λ z c l k. absurd (omega arith) }

  -- the row of one end more
  pub kept_more : (count : ℕ) (starts : List ℕ) (sums row : List ℤ) → AreKept f lists player y count starts sums → length row ≡ end_classes f lists count
      → ((c : ℕ) → IsClass lists (round_of f (at_end count)) c → get_or row (c - 1) (pos 0) ≡ end_sum f lists player y count c)
      → AreKept f lists player y (count + 1) (starts ++ length sums ∷ []) (sums ++ row)
  kept_more count starts sums row h long here =
      let all : length (sums ++ row) ≡ length sums + length row = length-append sums row in
      let new : get_or (starts ++ length sums ∷ []) count 0 ≡ length sums = get_or_push starts (length sums) 0 count h.long in
      let old : (z : ℕ) → z < count → get_or (starts ++ length sums ∷ []) z 0 ≡ get_or starts z 0 =
      λ z l. get_or_append_left starts (length sums ∷ []) 0 z (omega (arith, l, h.long)) in
      record {
        long = omega (arith, length_push starts (length sums), h.long);
        within = λ z l. ⊎_elim
            (λ (same : z ≡ count). subst (λ k. get_or (starts ++ length sums ∷ []) k 0 + end_classes f lists k
            ≤ length (sums ++ row)) (sym same) (omega (arith, new, all, long)))
            (λ (other : z ≢ count). omega (arith, old z (omega arith), h.within z (omega arith), all))
            (cases_eq z count);
        paid = λ z c l k. ⊎_elim
            (λ (same : z ≡ count).
            let P : ℕ → Type 0 = λ z. IsClass lists (round_of f (at_end z)) c
            → get_or (sums ++ row) (get_or (starts ++ length sums ∷ []) z 0 + (c - 1)) (pos 0) ≡ end_sum f lists player y z c in
            subst P (sym same) (λ k. ap (λ n. get_or (sums ++ row) (n + (c - 1)) (pos 0)) new ∙ get_or-append-add sums row (c - 1) (pos 0) ∙ here c k) k)
            (λ (other : z ≢ count).
            let lz : z < count = omega arith in
            let in' : get_or starts z 0 + (c - 1) < length sums = omega (arith, h.within z lz, k.0, k.1) in
            ap (λ n. get_or (sums ++ row) (n + (c - 1)) (pos 0)) (old z lz) ∙ get_or_append_left sums row (pos 0) (get_or starts z 0 + (c - 1)) in'
            ∙ h.paid z c lz k)
            (cases_eq z count);
      }

-- the other's plan is player 2's
pub other_plan : (d : Side) → d.player ≡ 1 → IsClassPlan (frame_at d) (lists_at d) 2 (class_plan (frame_at d) (lists_at d) d.other.now)
other_plan d e =
    let two : 3 - d.player ≡ 2 = omega (arith, e) in
    subst (λ p. IsClassPlan (frame_at d) (lists_at d) p (class_plan (frame_at d) (lists_at d) d.other.now)) two d.plan.plan.plan

-- what the laws ask of the game and its classes
pub side_given : (d : Side) → AreGiven (frame_at d) (lists_at d)
side_given d = given (game_in d.form.now) (frame_at d) (lists_at d) refl (form_classes d.form.now)
