-- What is said of strategies with certificates is one: `certify` and `verify`.
use Rattle.std.proofs.Common.{◌≡◌, ◌⊎◌, ℕ, zero, suc, ◌+◌, ◌-◌, ◌*◌, ◌<◌, ◌≤◌, ◌++◌, List, get_or, Err, codes, ℤ, pos, refl, sym, ap, ◌∙◌, subst, inl, inr}
use Rattle.std.proofs.{Common.{arith}, lemmas.Bool.{cases_lt}, lemmas.List.{get_or_default, same_lists}}
use Rattle.std.specs.{Prelude.{unsigned_abs}, Fmt.{decimal}}
use Rattle.gs_seq.proofs.SlotLaws.{sum_range_more}
use Rattle.gs_best.specs.{Tables.{classes_at, start_of, table_of}, Answers.{AreBestValues}}
use Rattle.gs_certificate.proofs.{Bounds.{one_bound}, Holding.{faults_exclude, low_not_high, sound_no_fault}, OneText.{one_certificate}}
use Rattle.gs_certificate.proofs.Only.{only as read_only, stated}
use Rattle.gs_certificate.specs.{Checks.{IsFault, IsFaultOf, IsSound, IsSoundFor, sum_of}, FaultTexts.{cert_fault_text, cert_text_fault_text}}
use Rattle.gs_certificate.specs.{Numbers.{IsFirstLow, IsHigh, IsLow}, Reading.{IsCanonicalCertificate, CertificateResult, ReadsCertificate, stated_at}}
use Rattle.gs_certificate.specs.{Texts.{Stated, certificate_text}, declared.text_fault.CertTextFault.{CertTextFault}}
use Rattle.gs_certificate.specs.{Views.{certificate_view, fraction_parts}, declared.certificate.Certificate.{Certificate}, declared.fault.CertFault.{CertFault}}
use Rattle.gs_certificate.specs.declared.fault.CertFault.TheVariants as fault
use Rattle.gs_strategy_commands.specs.{Certificates.{Certifies, IsCertified, SaysCertified}, Commands.{OfConfirmed}, Troubles.{IsTooLarge}}
use Rattle.gs_strategy_commands.specs.Verifying.{IsCertificateText, IsUnsound, IsVerified, SaysChecked, SaysVerified, Verifies, bounds_text}
use Rattle.gs_file.specs.{declared.version.Version.{Version}, declared.version.Version.TheVariants.{Two}, Reading.{file_rules}}
use Rattle.gs_frac.specs.{Texts.{fraction_text}, declared.value.Fraction.{Fraction}}
use Rattle.gs_json.proofs.Outcomes.{clash, same}
use Rattle.gs_json.specs.FirstLine.{first_line}
use Rattle.gs_model.proofs.{Basics.{product_positive}, BestOnce.{best_values_are_one}, Walked.{walked_one, walked_two}}
use Rattle.gs_model.specs.{BestAnswers.{Values}, Certificate.{IsCertificate}, Classes.{ClassLists, IsClass, IsClasses}}
use Rattle.gs_model.specs.{Frame.{Frame, point_count, round_of, total_weight}, FrameFacts.{IsWalked}, Plans.{Plan}, Positions.{at_point}}
use Rattle.gs_reply.specs.Refusals.{Bad_game, Unlike_pair, Overflows, Many_pivots, Too_large, Bad_strategy, Wrong_number, Bad_query, Other_game}
use Rattle.gs_reply.specs.{Refusals.{Bad_certificate}, declared.refusals.Limit.{Limit}}
use Rattle.gs_reply.specs.{Replies.{Reply, Prints, Refuses}, Troubles.{IsUnlikePair}, declared.refusals.Which.TheVariants.{Only}}
use Rattle.gs_strategy.specs.{Confirmed.{strategy_frame, raw_plan}, Laws.{IsStrategy}, Texts.{strategy_text}, Values.{FractionParts, Strategy}}
use Rattle.gs_run.proofs.{Confirming.{small_passes, strategy_scale}, OneGame.{unlike_pair_one}, OneStrategy.{confirmed_one, limit_one, over_file}}
use Rattle.gs_file.proofs.Dealt.{told_dealt, told_playable}
use Rattle.gs_strategy.proofs.{OneReading.{difference_one, one_least, then_one}, Verdicts.{value_one}}

-- ---- best values as a list

-- where a value stands
record Place (f : Frame) (lists : ClassLists) (k : ℕ) : Type 0 where
  point : ℕ
  class : ℕ
  point_in : point < point_count f
  class_in : IsClass lists (round_of f (at_point point)) class
  is : start_of f lists point + (class - 1) ≡ k

place_at : (f : Frame) (lists : ClassLists) (k n : ℕ) → n ≤ point_count f → k < start_of f lists n → Place f lists k
place_at f lists k zero h l = absurd (omega arith)
place_at f lists k (suc n) h l = elim (cases_lt k (start_of f lists n)) [
  | inl below ↦ place_at f lists k n (omega arith) below
  | inr past ↦
      let e : suc n ≡ n + 1 = omega arith in
      let more = ap (start_of f lists) e ∙ sum_range_more (classes_at f lists) n in
      record {
        point = n;
        class = k - start_of f lists n + 1;
        point_in = omega arith;
        class_in = (omega arith, omega arith);
        is = omega arith;
      }
]

values_one : (f : Frame) (lists : ClassLists) (player : ℕ) (y : Plan) (xs ys : List ℤ) → IsWalked f player → IsClasses f.parents lists
    → AreBestValues f lists player y xs → AreBestValues f lists player y ys → xs ≡ ys
values_one f lists player y xs ys w c h k =
    let lx = h.long in
    let ly = k.long in
    let agree = (best_values_are_one f lists player y (table_of f lists player y xs) (table_of f lists player y ys) h.move k.move w c h.best k.best).1 in
    same_lists xs ys (lx ∙ sym ly) (λ i d l. (let at = place_at f lists i (point_count f) (omega arith) (omega arith) in
    let there = agree at.point at.class at.point_in at.class_in in
    let here : get_or xs i (pos 0) ≡ get_or ys i (pos 0) = subst (λ (j : ℕ). get_or xs j (pos 0) ≡ get_or ys j (pos 0)) at.is there in
    get_or_default xs i d (pos 0) l ∙ here ∙ get_or_default ys i (pos 0) d (omega arith)))

-- ---- certificates by what they state

abbrev viewed : ℤ × ℤ → List ℤ → ℤ × ℤ → List ℤ → Stated
viewed p xs q ys = record { one = record { bound = p; values = xs }; two = record { bound = q; values = ys } }

abbrev pair_of : ℤ → ℤ → ℤ × ℤ
pair_of a b = (a, b)

same_pair : (a b c d : ℤ) → a ≡ c → b ≡ d → pair_of a b ≡ pair_of c d
same_pair a b c d e h = cc

same_view : (p q : ℤ × ℤ) (xs ys : List ℤ) (p' q' : ℤ × ℤ) (xs' ys' : List ℤ) → p ≡ p' → xs ≡ xs' → q ≡ q' → ys ≡ ys'
    → viewed p xs q ys ≡ viewed p' xs' q' ys'
same_view p q xs ys p' q' xs' ys' a b c d =
    ap (λ (v : ℤ × ℤ). viewed v xs q ys) a ∙ ap (λ (v : List ℤ). viewed p' v q ys) b ∙ ap (λ (v : ℤ × ℤ). viewed p' xs' v ys) c
    ∙ ap (λ (v : List ℤ). viewed p' xs' q' v) d

-- the bound of one list of numbers is one
bound_one : (f : Frame) (lists : ClassLists) (player : ℕ) (y : Plan) (xs ys : List ℤ) (a b : Fraction) → 0 < total_weight f * y.total → xs ≡ ys
    → IsSoundFor f lists player y xs a → IsSoundFor f lists player y ys b → fraction_parts a ≡ fraction_parts b
bound_one f lists player y xs ys a b some e h k =
    let s = subst (λ (zs : List ℤ). IsSoundFor f lists player y zs a) e h in
    let both = one_bound (sum_of f lists player y ys) (total_weight f * y.total) a b some
    (record { positive = s.certificate.positive; value = s.certificate.bound }) (record { positive = k.certificate.positive; value = k.certificate.bound }) in
    same_pair a.num a.den b.num b.den both.0 both.1

-- ---- `certify`

other_scale : (version : Version) (s : Strategy) (total : ℕ) → IsStrategy version s → 0 < total → 0 < total_weight (strategy_frame s) * total
other_scale version s total is some = product_positive (total_weight (strategy_frame s)) total (told_dealt version s.game is.written.game).deals some

certified_view : (version : Version) (s : Strategy) (one two : List ℕ) → IsStrategy version s → (h : IsCertified s one) → (k : IsCertified s two)
    → certificate_view h.certificate ≡ certificate_view k.certificate
certified_view version s one two is h k =
    let f = strategy_frame s in
    let p = told_playable version s.game is.written.game in
    let c = h.certificate in
    let d = k.certificate in
    let a = values_one f s.classes 1 (raw_plan s s.two) c.values1.items d.values1.items (walked_one (file_rules s.game) p) is.classes h.first k.first in
    let b = values_one f s.classes 2 (raw_plan s s.one) c.values2.items d.values2.items (walked_two (file_rules s.game) p) is.classes h.second k.second in
    let x = bound_one f s.classes 1 (raw_plan s s.two) c.values1.items d.values1.items c.bound1 d.bound1
    (other_scale version s s.two.total is is.second.plan.total_in.0) a h.holds.sound.first k.holds.sound.first in
    let y = bound_one f s.classes 2 (raw_plan s s.one) c.values2.items d.values2.items c.bound2 d.bound2
    (other_scale version s s.one.total is is.first.plan.total_in.0) b h.holds.sound.second k.holds.sound.second in
    same_view (fraction_parts c.bound1) (fraction_parts c.bound2) c.values1.items c.values2.items (fraction_parts d.bound1) (fraction_parts d.bound2)
    d.values1.items d.values2.items x a y b

certified_one : (version : Version) (s : Strategy) (one two : Reply) → IsStrategy version s → SaysCertified s one → SaysCertified s two → one ≡ two
certified_one version s one two is (a, h, e) (b, k, e') =
    let v = certified_view version s a b is h k in
    let t : a ≡ b = h.printed ∙ ap (λ (x : Stated). strategy_text Two s ++ certificate_text x) v ∙ sym k.printed in
    e ∙ ap (λ (x : List ℕ). Prints x) t ∙ sym e'

pub certifies_one : (bytes : List ℕ) (one two : Reply) → Certifies bytes one → Certifies bytes two → one ≡ two
certifies_one = over_file Only (OfConfirmed SaysCertified) (λ version s one two is.
    confirmed_one version s SaysCertified is (λ x y p q. certified_one version s x y is p q) one two)

-- ---- the first fault of a certificate

first_low_one : (f : Frame) (lists : ClassLists) (player : ℕ) (v : Values) (q c p d : ℕ) → IsFirstLow f lists player v q c → IsFirstLow f lists player v p d
    → (q ≡ p) × (c ≡ d)
first_low_one f lists player v q c p d h k =
    let e : q ≡ p = one_least q p
    (λ l. low_not_high f lists player v q c h.here.low (k.before q l c h.here.class))
    (λ l. low_not_high f lists player v p d k.here.low (h.before p l d k.here.class)) in
    let low : IsLow f lists player v p c = subst (λ (i : ℕ). IsLow f lists player v i c) e h.here.low in
    let class : IsClass lists (round_of f (at_point p)) c = subst (λ (i : ℕ). IsClass lists (round_of f (at_point i)) c) e h.here.class in
    let first : (b : ℕ) → IsClass lists (round_of f (at_point p)) b → b < c → IsHigh f lists player v p b =
    subst (λ (i : ℕ). (b : ℕ) → IsClass lists (round_of f (at_point i)) b → b < c → IsHigh f lists player v i b) e h.here.first in (
      e,
      one_least c d (λ l. low_not_high f lists player v p c low (k.here.first c class l))
          (λ l. low_not_high f lists player v p d k.here.low (first d k.here.class l)),
    )

same_low : (p q c p' q' c' : ℕ) → p ≡ p' → q ≡ q' → c ≡ c' → cert_fault_text (fault.Low p q c) ≡ cert_fault_text (fault.Low p' q' c')
same_low p q c p' q' c' a b d =
    ap (λ (x : ℕ). cert_fault_text (fault.Low x q c)) a ∙ ap (λ (x : ℕ). cert_fault_text (fault.Low p' x c)) b
    ∙ ap (λ (x : ℕ). cert_fault_text (fault.Low p' q' x)) d

abbrev bound_words : ℕ → ℤ → ℤ → List ℕ
bound_words player num den = codes "player " ++ decimal player ++ codes " bound found " ++ fraction_text num den

same_words : (p p' : ℕ) (a b c d : ℤ) → p ≡ p' → a ≡ c → b ≡ d → bound_words p a b ≡ bound_words p' c d
same_words p p' a b c d e h k = ap (λ (x : ℕ). bound_words x a b) e ∙ ap (λ (x : ℤ). bound_words p' x b) h ∙ ap (λ (x : ℤ). bound_words p' c x) k

-- the text of the first fault of a player's part is one, whichever value of the program holds his bound
side_fault_one : (f : Frame) (lists : ClassLists) (player : ℕ) (y : Plan) (values : List ℤ) (a b : Fraction) (v w : CertFault)
    → 0 < total_weight f * y.total
    → IsFaultOf f lists player y values a v → IsFaultOf f lists player y values b w → cert_fault_text v ≡ cert_fault_text w
side_fault_one f lists player y values a b (fault.Length p n) (fault.Length q m) some h k =
    ap (λ (x : ℕ). cert_fault_text (fault.Length x n)) (h.0 ∙ sym k.0)
side_fault_one f lists player y values a b (fault.Length p n) (fault.Low q i c) some h k = absurd (h.2 k.1)
side_fault_one f lists player y values a b (fault.Length p n) (fault.Bound q found) some h k = absurd (h.2 k.1)
side_fault_one f lists player y values a b (fault.Low p i c) (fault.Length q m) some h k = absurd (k.2 h.1)
side_fault_one f lists player y values a b (fault.Low p i c) (fault.Low q j d) some h k =
    let e = first_low_one f lists player (table_of f lists player y values) i c j d h.2 k.2 in same_low p i c q j d (h.0 ∙ sym k.0) e.0 e.1
side_fault_one f lists player y values a b (fault.Low p i c) (fault.Bound q found) some h k =
    absurd (low_not_high f lists player (table_of f lists player y values) i c h.2.here.low (k.2 i h.2.point c h.2.here.class))
side_fault_one f lists player y values a b (fault.Bound p found) (fault.Length q m) some h k = absurd (k.2 h.1)
side_fault_one f lists player y values a b (fault.Bound p found) (fault.Low q i c) some h k =
    absurd (low_not_high f lists player (table_of f lists player y values) i c k.2.here.low (h.2 i k.2.point c k.2.here.class))
side_fault_one f lists player y values a b (fault.Bound p found) (fault.Bound q other) some h k =
    let e = one_bound (sum_of f lists player y values) (total_weight f * y.total) found other some h.4 k.4 in
    same_words p q found.num found.den other.num other.den (h.0 ∙ sym k.0) e.0 e.1

-- a part that holds with a bound holds with the same bound, and of the same numbers
abbrev CertificateBy : Frame → ClassLists → ℕ → Plan → List ℤ → ℤ × ℤ → Type 0
CertificateBy f lists player y values p = IsCertificate f lists player y (table_of f lists player y values) p.0 (unsigned_abs p.1)

sound_same : (f : Frame) (lists : ClassLists) (player : ℕ) (y : Plan) (xs ys : List ℤ) (a b : Fraction) → xs ≡ ys → fraction_parts a ≡ fraction_parts b
    → IsSoundFor f lists player y xs a → IsSoundFor f lists player y ys b
sound_same f lists player y xs ys a b same e h =
    let k = subst (λ (zs : List ℤ). IsSoundFor f lists player y zs a) same h in
    let there : CertificateBy f lists player y ys (fraction_parts a) = k.certificate in
    record { long = k.long; certificate = subst (CertificateBy f lists player y ys) e there }

sound_over : (f : Frame) (lists : ClassLists) (x y : Plan) (c d : Certificate) → certificate_view c ≡ certificate_view d → IsSound f lists x y c
    → IsSound f lists x y d
sound_over f lists x y c d e h = record {
  first = sound_same f lists 1 y c.values1.items d.values1.items c.bound1 d.bound1 (ap (λ (v : Stated). v.one.values) e) (ap (λ (v : Stated). v.one.bound) e)
      h.first;
  second = sound_same f lists 2 x c.values2.items d.values2.items c.bound2 d.bound2 (ap (λ (v : Stated). v.two.values) e)
      (ap (λ (v : Stated). v.two.bound) e) h.second;
}

fault_same : (f : Frame) (lists : ClassLists) (player : ℕ) (y : Plan) (xs ys : List ℤ) (a b : Fraction) (v w : CertFault)
    → 0 < total_weight f * y.total → xs ≡ ys
    → IsFaultOf f lists player y xs a v → IsFaultOf f lists player y ys b w → cert_fault_text v ≡ cert_fault_text w
fault_same f lists player y xs ys a b v w some e h k =
    side_fault_one f lists player y ys a b v w some (subst (λ (zs : List ℤ). IsFaultOf f lists player y zs a v) e h) k

fault_one : (f : Frame) (lists : ClassLists) (x y : Plan) (c d : Certificate) (v w : CertFault) → 0 < total_weight f * x.total → 0 < total_weight f * y.total
    → certificate_view c ≡ certificate_view d → IsFault f lists x y c v → IsFault f lists x y d w → cert_fault_text v ≡ cert_fault_text w
fault_one f lists x y c d v w sx sy e (inl h) (inl k) =
    fault_same f lists 1 y c.values1.items d.values1.items c.bound1 d.bound1 v w sy (ap (λ (s : Stated). s.one.values) e) h k
fault_one f lists x y c d v w sx sy e (inl h) (inr k) =
    absurd (sound_no_fault f lists 1 y c.values1.items c.bound1 v (sound_same f lists 1 y d.values1.items c.values1.items d.bound1 c.bound1
    (sym (ap (λ (s : Stated). s.one.values) e)) (sym (ap (λ (s : Stated). s.one.bound) e)) k.0) h)
fault_one f lists x y c d v w sx sy e (inr h) (inl k) =
    absurd (sound_no_fault f lists 1 y d.values1.items d.bound1 w (sound_same f lists 1 y c.values1.items d.values1.items c.bound1 d.bound1
    (ap (λ (s : Stated). s.one.values) e) (ap (λ (s : Stated). s.one.bound) e) h.0) k)
fault_one f lists x y c d v w sx sy e (inr h) (inr k) =
    fault_same f lists 2 x c.values2.items d.values2.items c.bound2 d.bound2 v w sx (ap (λ (s : Stated). s.two.values) e) h.1 k.1

-- ---- `verify`

abbrev AsPrinted : Strategy → Certificate → Reply → Type 0
AsPrinted s c reply = (words : List ℕ) × (reply ≡ Prints words) × IsVerified s c words

abbrev AsUnlike : Strategy → Reply → Type 0
AsUnlike s reply = (round : ℕ) × (one : List ℕ) × (two : List ℕ) × (reply ≡ Refuses (Unlike_pair round one two)) × IsUnlikePair s.game s.classes round one two

abbrev AsLarge : Strategy → Reply → Type 0
AsLarge s reply = (limit : Limit) × (reply ≡ Refuses (Too_large limit)) × IsTooLarge s limit

abbrev AsUnsound : Strategy → Certificate → Reply → Type 0
AsUnsound s c reply = (words : List ℕ) × (reply ≡ Refuses (Bad_certificate words)) × IsUnsound s c words

kind_of : (s : Strategy) (c : Certificate) (reply : Reply) → SaysChecked s c reply
    → AsPrinted s c reply ⊎ (AsUnlike s reply ⊎ (AsLarge s reply ⊎ AsUnsound s c reply))
kind_of s c (Prints words) h = inl (words, refl, h)
kind_of s c (Refuses (Unlike_pair round one two)) h = inr (inl (round, one, two, refl, h))
kind_of s c (Refuses (Too_large limit)) h = inr (inr (inl (limit, refl, h)))
kind_of s c (Refuses (Bad_certificate words)) h = inr (inr (inr (words, refl, h)))
kind_of s c (Refuses (Bad_game why)) h = absurd h
kind_of s c (Refuses (Overflows at)) h = absurd h
kind_of s c (Refuses Many_pivots) h = absurd h
kind_of s c (Refuses (Bad_strategy which why)) h = absurd h
kind_of s c (Refuses (Wrong_number name a b)) h = absurd h
kind_of s c (Refuses (Bad_query why)) h = absurd h
kind_of s c (Refuses Other_game) h = absurd h

verified_words : (version : Version) (s : Strategy) (c d : Certificate) (a b : List ℕ) → IsStrategy version s → certificate_view c ≡ certificate_view d
    → IsVerified s c a → IsVerified s d b → a ≡ b
verified_words version s c d a b is e h k =
    let v = value_one (strategy_frame s) (raw_plan s s.one) (raw_plan s s.two) h.value k.value (strategy_scale version s is) h.fraction k.fraction h.value_is
    k.value_is in
    h.printed ∙ ap (λ (x : FractionParts). bounds_text x (certificate_view c)) v ∙ ap (bounds_text k.value) e ∙ sym k.printed

sound_or_not : (s : Strategy) (c d : Certificate) (a b : List ℕ) → certificate_view c ≡ certificate_view d → IsVerified s c a → IsUnsound s d b → ⊥
sound_or_not s c d a b e h k =
    let f = strategy_frame s in
    faults_exclude f s.classes (raw_plan s s.one) (raw_plan s s.two) d k.why
    (sound_over f s.classes (raw_plan s s.one) (raw_plan s s.two) c d e h.holds.sound) k.fault

unsound_words : (version : Version) (s : Strategy) (c d : Certificate) (a b : List ℕ) → IsStrategy version s → certificate_view c ≡ certificate_view d
    → IsUnsound s c a → IsUnsound s d b → a ≡ b
unsound_words version s c d a b is e h k =
    h.told
    ∙ fault_one (strategy_frame s) s.classes (raw_plan s s.one) (raw_plan s s.two) c d h.why k.why
    (other_scale version s s.one.total is is.first.plan.total_in.0) (other_scale version s s.two.total is is.second.plan.total_in.0) e h.fault k.fault
    ∙ sym k.told

checked_one : (version : Version) (s : Strategy) (c d : Certificate) (one two : Reply) → IsStrategy version s → certificate_view c ≡ certificate_view d
    → SaysChecked s c one → SaysChecked s d two → one ≡ two
checked_one version s c d one two is e h k = by (kind_of s c one h) (kind_of s d two k)
  where
    by : AsPrinted s c one ⊎ (AsUnlike s one ⊎ (AsLarge s one ⊎ AsUnsound s c one))
        → AsPrinted s d two ⊎ (AsUnlike s two ⊎ (AsLarge s two ⊎ AsUnsound s d two)) → one ≡ two
    by (inl (a, p, u)) (inl (b, q, v)) = p ∙ ap (λ (x : List ℕ). Prints x) (verified_words version s c d a b is e u v) ∙ sym q
    by (inl (a, p, u)) (inr (inl (r, x, y, q, v))) = absurd (v.not_lossless u.lossless)
    by (inl (a, p, u)) (inr (inr (inl (l, q, v)))) = absurd (small_passes s.game s.classes l u.small v.passed)
    by (inl (a, p, u)) (inr (inr (inr (b, q, v)))) = absurd (sound_or_not s c d a b e u v)
    by (inr (inl (r, x, y, p, u))) (inl (b, q, v)) = absurd (u.not_lossless v.lossless)
    by (inr (inl (r, x, y, p, u))) (inr (inl (r', x', y', q, v))) = let t = unlike_pair_one s.game s.classes r x y r' x' y' u v in cc
    by (inr (inl (r, x, y, p, u))) (inr (inr (inl (l, q, v)))) = absurd (u.not_lossless v.lossless)
    by (inr (inl (r, x, y, p, u))) (inr (inr (inr (b, q, v)))) = absurd (u.not_lossless v.lossless)
    by (inr (inr (inl (l, p, u)))) (inl (b, q, v)) = absurd (small_passes s.game s.classes l v.small u.passed)
    by (inr (inr (inl (l, p, u)))) (inr (inl (r, x, y, q, v))) = absurd (v.not_lossless u.lossless)
    by (inr (inr (inl (l, p, u)))) (inr (inr (inl (m, q, v)))) = let t = limit_one s.game s.classes l m u.passed v.passed in cc
    by (inr (inr (inl (l, p, u)))) (inr (inr (inr (b, q, v)))) = absurd (small_passes s.game s.classes l v.small u.passed)
    by (inr (inr (inr (a, p, u)))) (inl (b, q, v)) = absurd (sound_or_not s d c b a (sym e) v u)
    by (inr (inr (inr (a, p, u)))) (inr (inl (r, x, y, q, v))) = absurd (v.not_lossless u.lossless)
    by (inr (inr (inr (a, p, u)))) (inr (inr (inl (l, q, v)))) = absurd (small_passes s.game s.classes l u.small v.passed)
    by (inr (inr (inr (a, p, u)))) (inr (inr (inr (b, q, v)))) =
        p ∙ ap (λ (x : List ℕ). Refuses (Bad_certificate x)) (unsound_words version s c d a b is e u v) ∙ sym q

-- ---- the text of a certificate

canonical_one : (bytes : List ℕ) (s : Stated) (x y : CertificateResult) → IsCanonicalCertificate bytes s x → IsCanonicalCertificate bytes s y → x ≡ y
canonical_one bytes s x y (inl p) (inl q) = p.1 ∙ sym q.1
canonical_one bytes s x y (inl p) (inr q) = absurd (q.1 p.0)
canonical_one bytes s x y (inr p) (inl q) = absurd (p.1 q.0)
canonical_one bytes s x y (inr p) (inr q) =
    let e = difference_one bytes (certificate_text s) p.0 q.0 p.2 q.2 in
    let a = p.3 in
    let b = q.3 in
    cc

read_one : (bytes : List ℕ) (x y : CertificateResult) → ReadsCertificate bytes x → ReadsCertificate bytes y → x ≡ y
read_one bytes x y = then_one (stated_at bytes) (IsCanonicalCertificate bytes) x y (λ s. canonical_one bytes s x y)

abbrev fault_read : CertTextFault → CertificateResult
fault_read why = Err why

same_why : (v w : CertTextFault) → fault_read v ≡ fault_read w → v ≡ w
same_why v w e = cc

text_or_none : (bytes : List ℕ) (c : Certificate) (why : CertTextFault) → IsCertificateText bytes c → ReadsCertificate bytes (Err why) → ⊥
text_or_none bytes c why h k =
    let e = read_only (certificate_view c) (Err why) (stated c h.small) (subst (λ (b : List ℕ). ReadsCertificate b (Err why)) h.text k) in
    clash (certificate_view c) why (sym e)

same_certificate : (bytes : List ℕ) (c d : Certificate) → IsCertificateText bytes c → IsCertificateText bytes d → certificate_view c ≡ certificate_view d
same_certificate bytes c d h k = one_certificate (certificate_view c) (certificate_view d) (stated c h.small) (stated d k.small) (sym h.text ∙ k.text)

verified_one : (bytes : List ℕ) (version : Version) (s : Strategy) (one two : Reply) → IsStrategy version s → SaysVerified bytes s one
    → SaysVerified bytes s two → one ≡ two
verified_one bytes version s one two is (inl h) (inl k) =
    let e = same_why h.why k.why (read_one bytes (Err h.why) (Err k.why) h.reads k.reads) in
    h.told ∙ ap (λ (x : CertTextFault). Refuses (Bad_certificate (cert_text_fault_text x))) e ∙ sym k.told
verified_one bytes version s one two is (inl h) (inr (d, k, says)) = absurd (text_or_none bytes d h.why k h.reads)
verified_one bytes version s one two is (inr (c, h, says)) (inl k) = absurd (text_or_none bytes c k.why h k.reads)
verified_one bytes version s one two is (inr (c, h, says)) (inr (d, k, said)) =
    checked_one version s c d one two is (same_certificate bytes c d h k) says said

pub verifies_one : (bytes : List ℕ) (one two : Reply) → Verifies bytes one → Verifies bytes two → one ≡ two
verifies_one bytes one two = over_file Only (SaysVerified (first_line bytes).1) (verified_one (first_line bytes).1) (first_line bytes).0 one two
