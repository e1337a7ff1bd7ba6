-- What ends pay by the other player's plan so far: it adds up as plans do.
use Rattle.std.proofs.{Common.{◌≡◌, ℕ, ◌+◌, ◌*◌, ◌<◌, refl, sym, ap, ◌∙◌, arith, Option, Some, None}, Math.IntN.{*ℤ_comm, pos-*ℤ-pos}, lemmas.Int.{ints}}
use Rattle.std.specs.Prelude.{ℤ, pos, ◌+ℤ◌, ◌*ℤ◌}
use Rattle.gs_model.specs.{Classes.{ClassLists, IsClass, IsClasses, class_count, classes_in, first_member}, BestAnswers.{Values}}
use Rattle.gs_model.specs.{Frame.{Frame, ancestor, end_count, last_step, other_player, payoff_to, round_of}, FrameFacts.{InRange, IsWalked}, Pairs.{pair_sum}}
use Rattle.gs_model.specs.{Plans.{Plan, lift, number_before}, Positions.{Step, at_end, at_point}, Sums.{sum_z}}
use Rattle.gs_model.proofs.{Gather.{class_in, known_from, member_in}, Total.{mul-add_right, mul_assoc_z, sum_z-add, sum_z-mul, sum_z-same}}
use Rattle.gs_seq.specs.Payoffs.{end_sum}
use Rattle.gs_best.specs.ClassTotals.{earlier_class}
use Rattle.gs_best.proofs.Ranges.{sum_same}
use Rattle.gs_play.specs.{PlanSums.{ArePlansAlike}, Jumps.{line}}

-- plan x plus k times plan b
abbrev pub plus_times : Plan → ℕ → Plan → Plan
plus_times x k b = record { total = x.total + k * b.total; number = λ q c m. x.number q c m + k * b.number q c m }

-- at ends the lines are, in the turn `now`, what ends pay against the other's plan y, and each turn from then on adds what they pay against b
pub record ArePaid (f : Frame) (lists : ClassLists) (player : ℕ) (y b : Plan) (at slope : Values) (now : ℕ) : Type 0 where
  pub so_far : (z c : ℕ) → z < end_count f → IsClass lists (round_of f (at_end z)) c
      → line (at (at_end z) c) (slope (at_end z) c) now ≡ end_sum f lists player y z c
  pub each : (z c : ℕ) → z < end_count f → IsClass lists (round_of f (at_end z)) c → slope (at_end z) c ≡ end_sum f lists player b z c

-- ---- the sums

-- a player's number of a plan over classes after a step, or before any, at a class of a round
abbrev number_after : Frame → ClassLists → Plan → Option Step → ℕ → ℕ → ℕ
number_after f lists y u round e = number_before f (lift f lists y) u round (first_member lists round e)

-- over the other's classes of a round his number after a step, times a value of the outcome added up over the deals of both classes
abbrev kept_sum : Frame → ClassLists → (ℤ → ℤ) → ℕ → Option Step → Plan → ℕ → ℤ
kept_sum f lists value round u y c = sum_z (λ e. pos (number_after f lists y u round e) *ℤ pair_sum f lists lists round value c e) (classes_in lists round)

-- ---- products

both_parts : (n k m : ℕ) (p : ℤ) → pos (n + k * m) *ℤ p ≡ pos n *ℤ p +ℤ pos k *ℤ (pos m *ℤ p)
both_parts n k m p =
    let whole : pos (n + k * m) ≡ pos n +ℤ pos (k * m) = omega (arith, ints) in
    *ℤ_comm (pos (n + k * m)) p
    ∙ ap (λ x. p *ℤ x) whole
    ∙ mul-add_right p (pos n) (pos (k * m))
    ∙ ap (λ x. x +ℤ p *ℤ pos (k * m)) (*ℤ_comm p (pos n))
    ∙ ap (λ x. pos n *ℤ p +ℤ x) (*ℤ_comm p (pos (k * m)) ∙ ap (λ x. x *ℤ p) (sym (pos-*ℤ-pos k m)) ∙ mul_assoc_z (pos k) (pos m) p)

-- ---- sums of plans

number_plus : (f : Frame) (lists : ClassLists) (x b : Plan) (k : ℕ) (u : Option Step) (round e : ℕ)
    → number_after f lists (plus_times x k b) u round e ≡ number_after f lists x u round e + k * number_after f lists b u round e
number_plus f lists x b k None round e = refl
number_plus f lists x b k (Some u) round e = refl

-- kept sums add up as plans do
pub kept_plus : (f : Frame) (lists : ClassLists) (value : ℤ → ℤ) (round : ℕ) (u : Option Step) (x b : Plan) (k c : ℕ)
    → kept_sum f lists value round u (plus_times x k b) c ≡ kept_sum f lists value round u x c +ℤ pos k *ℤ kept_sum f lists value round u b c
kept_plus f lists value round u x b k c =
    let n = λ (e : ℕ). number_after f lists x u round e in
    let m = λ (e : ℕ). number_after f lists b u round e in
    let p = λ (e : ℕ). pair_sum f lists lists round value c e in
    sum_z-same (λ e. pos (number_after f lists (plus_times x k b) u round e) *ℤ p e) (λ e. pos (n e) *ℤ p e +ℤ pos k *ℤ (pos (m e) *ℤ p e))
    (λ e. ap (λ i. pos i *ℤ p e) (number_plus f lists x b k u round e) ∙ both_parts (n e) k (m e) (p e)) (classes_in lists round)
    ∙ sum_z-add (λ e. pos (n e) *ℤ p e) (λ e. pos k *ℤ (pos (m e) *ℤ p e)) (classes_in lists round)
    ∙ ap (λ s. sum_z (λ e. pos (n e) *ℤ p e) (classes_in lists round) +ℤ s) (sum_z-mul (pos k) (λ e. pos (m e) *ℤ p e) (classes_in lists round))

-- and so does what ends pay
pub end_plus : (f : Frame) (lists : ClassLists) (player : ℕ) (x b : Plan) (k z c : ℕ)
    → end_sum f lists player (plus_times x k b) z c ≡ end_sum f lists player x z c +ℤ pos k *ℤ end_sum f lists player b z c
end_plus f lists player x b k z c = kept_plus f lists (payoff_to f player z) (round_of f (at_end z)) (last_step f (other_player player) (at_end z)) x b k c

module _ (f : Frame) (r : InRange f) (lists : ClassLists) (k : IsClasses f.parents lists) (player : ℕ) (w : IsWalked f player) where
  -- the class of a last step before an end is a class of its round
  pub above_is_class : (z e : ℕ) (u : Step) → z < end_count f → IsClass lists (round_of f (at_end z)) e → last_step f player (at_end z) ≡ Some u
      → IsClass lists (round_of f (at_point u.point)) (earlier_class f lists (round_of f (at_end z)) (round_of f (at_point u.point)) e)
  above_is_class z e u lz le is =
      let kn = known_from f player r w in
      let round = round_of f (at_end z) in
      let past = w.past_end_own z u lz is in
      let top = w.end_in z lz in
      let some = kn.some_round u.point in
      class_in f lists k (round_of f (at_point u.point)) (ancestor f round (round_of f (at_point u.point)) (first_member lists round e)) some
      (omega (arith, past, top))
      (kn.kept round (round_of f (at_point u.point)) (first_member lists round e) some past (member_in f lists k round e (w.end_round z lz) top le))

  number_alike : (x y : Plan) → ArePlansAlike f lists player x y → (z e : ℕ) → z < end_count f → IsClass lists (round_of f (at_end z)) e → (o : Option Step)
      → last_step f player (at_end z) ≡ o
      → number_after f lists x o (round_of f (at_end z)) e ≡ number_after f lists y o (round_of f (at_end z)) e
  number_alike x y a z e lz le None is = a.total
  number_alike x y a z e lz le (Some u) is =
      let own = w.chosen_end z u lz is in
      a.numbers u.point (earlier_class f lists (round_of f (at_end z)) (round_of f (at_point u.point)) e) u.choice (w.earlier_end z u lz is) own.0
      (above_is_class z e u lz le is) own.1

  -- plans that are alike give the same sums at ends
  pub kept_alike : (value : ℤ → ℤ) (x y : Plan) → ArePlansAlike f lists player x y → (z c : ℕ) → z < end_count f
      → kept_sum f lists value (round_of f (at_end z)) (last_step f player (at_end z)) x c
      ≡ kept_sum f lists value (round_of f (at_end z)) (last_step f player (at_end z)) y c
  kept_alike value x y a z c lz =
      let round = round_of f (at_end z) in
      let u = last_step f player (at_end z) in
      sum_same (λ e. pos (number_after f lists x u round e) *ℤ pair_sum f lists lists round value c e)
      (λ e. pos (number_after f lists y u round e) *ℤ pair_sum f lists lists round value c e) 1 (class_count lists round)
      (λ e lo hi. ap (λ n. pos n *ℤ pair_sum f lists lists round value c e) (number_alike x y a z e lz (omega arith, omega arith) u refl))
