-- The two signals of a first unlike pair are signals of the game.
use Rattle.std.proofs.Common.{ℕ, ◌≡◌, ◌<◌, ◌≤◌, Result, Ok, Err, length, arith, subst, sym}
use Rattle.std.specs.Result.{IfErr, IsErrAnd}
use Rattle.gs_model.specs.{Classes.{ClassLists}, Frame.{Frame, frame_of, last_round}, Game.{Game, round_count}, Lossless.{IsFirstUnlike}, Signals.{signals}}
use Rattle.gs_model.proofs.{Ranges.{signal_count_is}, Walked.{last_round_of}}
use Rattle.gs_lossless.specs.{Stops.{IsUnlike, IsUnlikeIn}, declared.stop.CheckStop.{CheckStop}, declared.stop.CheckStop.TheVariants.{Memory}}
use Rattle.gs_lossless.proofs.Settled.{first_le}

-- two signals of one round of a game
pub record IsPairIn (g : Game) (round first second : ℕ) : Type 0 where
  pub last : round ≤ round_count g
  pub first_in : first < length (signals g round)
  pub second_in : second < length (signals g round)

pub pair_in : (g : Game) (lists : ClassLists) (round first second : ℕ) → IsFirstUnlike (frame_of g) lists round first second
    → IsPairIn g round first second
pair_in g lists round first second unlike =
    let top : round ≤ last_round (frame_of g) = unlike.round_in.1 in
    let n = last_round_of g in
    let last : round ≤ round_count g = omega (arith, top, n) in
    let count = signal_count_is g round unlike.round_in.0 last in
    let second_in = unlike.second_in in
    let no_later = first_le lists round second in
    record { last = last; first_in = omega (arith, no_later, unlike.member, second_in, count); second_in = omega (arith, second_in, count) }

-- out of memory names no pair
pub no_pair : {T : Type 0} (X : Type 0) (r : Result T CheckStop) → IsErrAnd r (λ e. e ≡ Memory) → IfErr r (λ e. IsUnlike e → X)
no_pair X (Ok x) is = tt
no_pair X (Err e) is = λ u. absurd (subst IsUnlike is u)

pub nothing_said : {T : Type 0} (f : Frame) (lists : ClassLists) (r : Result T CheckStop) → IsErrAnd r (λ e. e ≡ Memory) → IfErr r (IsUnlikeIn f lists)
nothing_said f lists (Ok x) is = tt
nothing_said f lists (Err e) is = subst (IsUnlikeIn f lists) (sym is) tt
