-- Sums by pairs of classes, with the players exchanged.
use Rattle.std.proofs.Common.{◌≡◌, ℕ, ℤ, pos, Bool, true, false, cond, map, refl, sym, ◌∙◌}
use Rattle.std.specs.Prelude.{◌==◌, ◌*ℤ◌, neg_ℤ}
use Rattle.gs_model.specs.{Classes.{ClassLists, class_of}, Deals.{Deal, exchanged}, Frame.{Frame, at_round, frame_of, last_round}, FrameFacts.{IsExchanged}}
use Rattle.gs_model.specs.{Game.{Game}, Pairs.{pair_sum}}
use Rattle.gs_model.proofs.{Exchange.{neg_out}, Exchanged.{exchanged_one}, RawBound.{sum_z-map}, Total.{sum_z-IsPermutation, sum_z-same}, Basics.{sum_z-neg}}
use Rattle.gs_seq.specs.Cells.{pair_signed, pair_weight}

swap : (a b : Bool) (z : ℤ) → cond a (cond b z (pos 0)) (pos 0) ≡ cond b (cond a z (pos 0)) (pos 0)
swap true true z = refl
swap true false z = refl
swap false true z = refl
swap false false z = refl

negated : (a b : Bool) (w : ℕ) (o : ℤ) → cond a (cond b (pos w *ℤ neg_ℤ o) (pos 0)) (pos 0) ≡ neg_ℤ (cond a (cond b (pos w *ℤ o) (pos 0)) (pos 0))
negated true true w o = neg_out w o
negated true false w o = refl
negated false true w o = refl
negated false false w o = refl

-- from the other side: the classes change places, and outcomes negate
pair_turned : (f : Frame) (h : IsExchanged f 1) (lists : ClassLists) (round : ℕ) (v : ℤ → ℤ) (c e : ℕ)
    → pair_sum f lists lists round v c e ≡ pair_sum f lists lists round (λ o. v (neg_ℤ o)) e c
pair_turned f h lists round v c e =
    let one : Deal → ℕ = λ d. class_of lists round (at_round f round d.one) in
    let two : Deal → ℕ = λ d. class_of lists round (at_round f round d.two) in
    let term : Deal → ℤ = λ d. cond (two d == e) (cond (one d == c) (pos d.weight *ℤ v d.outcome) (pos 0)) (pos 0) in
    sym (sum_z-IsPermutation term f.deals (map exchanged f.deals) h.deals)
    ∙ sum_z-map term exchanged f.deals
    ∙ sum_z-same (λ d. term (exchanged d)) (λ (d : Deal). cond (two d == c) (cond (one d == e) (pos d.weight *ℤ v (neg_ℤ d.outcome)) (pos 0)) (pos 0))
    (λ d. swap (one d == e) (two d == c) (pos d.weight *ℤ v (neg_ℤ d.outcome))) f.deals

signed_turned : (f : Frame) (h : IsExchanged f 1) (lists : ClassLists) (round c e : ℕ)
    → pair_sum f lists lists round (λ o. o) c e ≡ neg_ℤ (pair_sum f lists lists round (λ o. o) e c)
signed_turned f h lists round c e =
    let one : Deal → ℕ = λ d. class_of lists round (at_round f round d.one) in
    let two : Deal → ℕ = λ d. class_of lists round (at_round f round d.two) in
    let term : Deal → ℤ = λ d. cond (two d == c) (cond (one d == e) (pos d.weight *ℤ d.outcome) (pos 0)) (pos 0) in
    pair_turned f h lists round (λ o. o) c e
    ∙ sum_z-same (λ (d : Deal). cond (two d == c) (cond (one d == e) (pos d.weight *ℤ neg_ℤ d.outcome) (pos 0)) (pos 0)) (λ d. neg_ℤ (term d))
    (λ d. negated (two d == c) (one d == e) d.weight d.outcome) f.deals
    ∙ sum_z-neg term f.deals

if_last : (b : Bool) (x y : ℤ) → x ≡ neg_ℤ y → cond b x (pos 0) ≡ neg_ℤ (cond b y (pos 0))
if_last true x y e = e
if_last false x y e = refl

pub weight_kept : (g : Game) (lists : ClassLists) (round c e : ℕ) → pair_weight (frame_of g) lists round c e ≡ pair_weight (frame_of g) lists round e c
weight_kept g lists round c e = pair_turned (frame_of g) (exchanged_one g) lists round (λ o. pos 1) c e

pub sign_turned : (g : Game) (lists : ClassLists) (round c e : ℕ) → pair_signed (frame_of g) lists round c e
    ≡ neg_ℤ (pair_signed (frame_of g) lists round e c)
sign_turned g lists round c e =
    if_last (round == last_round (frame_of g)) (pair_sum (frame_of g) lists lists round (λ o. o) c e) (pair_sum (frame_of g) lists lists round (λ o. o) e c)
    (signed_turned (frame_of g) (exchanged_one g) lists round c e)
