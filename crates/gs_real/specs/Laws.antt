-- No plan gains more than the gap of a verdict, whatever kind of numbers it has.
use Rattle.std.specs.Prelude.{◌≡◌, ℕ, ◌*◌, ℤ, pos, ◌+ℤ◌, ◌-ℤ◌, ◌*ℤ◌}
use Rattle.gs_file.specs.{JsonLaws.{IsTold}, Reading.{FileGame, file_rules}, declared.version.Version.{Version}}
use Rattle.gs_model.specs.{Frame.{Frame, frame_of, total_weight}, Payoff.{gain, raw_payoff}, Plans.{IsRawPlan, Plan}, Verdict.{IsVerdict}}
use Rattle.gs_real.specs.{Numbers.{AtMost, OrderedGroup, scaled}, Plans.{AnyPlan, IsAnyPlan, any_gain}}

-- No plan of a player gains more than the player's gap: what `IsFirstGap` and `IsSecondGap` say of raw plans, of plans in any numbers. A gap is a numerator
-- and a denominator. What player 2 gains is minus what player 1 is paid.
pub record NoneGainsMore {A P : Type 0} (G : OrderedGroup A P) (f : Frame) (x y : Plan) (gap1 gap2 : ℤ × ℕ) : Type 0 where
  pub first : (z : AnyPlan A) → IsAnyPlan G f 1 z → AtMost G (scaled G (pos (gap1.1 * x.total)) (any_gain G f 1 z y))
      (scaled G (pos gap1.1 *ℤ raw_payoff f x y +ℤ gap1.0 *ℤ pos (total_weight f * x.total * y.total)) z.total)
  pub second : (z : AnyPlan A) → IsAnyPlan G f 2 z → AtMost G (scaled G (pos (gap2.1 * y.total)) (any_gain G f 2 z x))
      (scaled G (gap2.0 *ℤ pos (total_weight f * x.total * y.total) -ℤ pos gap2.1 *ℤ raw_payoff f x y) z.total)

-- in each valid game that a file can tell, no plan in any numbers gains more than the gaps of two plans' verdict
abbrev pub NoPlanGainsMore : {A P : Type 0} → OrderedGroup A P → Type 0
NoPlanGainsMore G = (version : Version) (g : FileGame) (x y : Plan) (value gap1 gap2 : ℤ × ℕ) → IsTold version g
    → IsVerdict (frame_of (file_rules g)) x y value gap1 gap2 → NoneGainsMore G (frame_of (file_rules g)) x y gap1 gap2

-- a raw plan as a plan in whole numbers
abbrev pub in_wholes : Plan → AnyPlan ℤ
in_wholes x = record { total = pos x.total; number = λ q s c. pos (x.number q s c) }

-- the whole numbers are an ordered group, with the natural numbers as those that are at least 0; in them a raw plan is a plan, and gains the same
pub record WholesAreOne (G : OrderedGroup ℤ ℕ) : Type 0 where
  pub sums : (a b : ℤ) → G.plus a b ≡ a +ℤ b
  pub naturals : (n : ℕ) → G.place n ≡ pos n
  pub plans : (f : Frame) (player : ℕ) (x : Plan) → IsRawPlan f player x → IsAnyPlan G f player (in_wholes x)
  pub gains : (f : Frame) (player : ℕ) (x y : Plan) → any_gain G f player (in_wholes x) y ≡ gain f player x y
