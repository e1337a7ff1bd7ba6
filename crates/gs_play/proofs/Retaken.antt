-- An answer found again at a point, class by class: the plan so far stays, and the other player's class totals are told.
use Rattle.std.proofs.Common.{◌≡◌, ℕ, ◌+◌, ◌<◌, false, true, get_or, refl, arith}
use Rattle.gs_model.specs.{Classes.{ClassLists, IsClass, IsClasses}, Frame.{Frame, last_step, player_at, point_count, round_of}}
use Rattle.gs_model.specs.{FrameFacts.{InRange, IsWalked}, Positions.{at_point}}
use Rattle.gs_best.specs.Tables.{moves_of}
use Rattle.gs_play.specs.{Answers.{HasAnswer, IsElsewhere, IsRenewed, IsRightMove, IsTurnedAt, plan_after}, Tallies.{HasTallyRoom}}
use Rattle.gs_play.specs.{declared.answers.Answer.{Answer}, declared.tally.Tally.{Tally}}
use Rattle.gs_play.proofs.{Again.{AreRightTo, rights_more, turned_more}, PlansAlike.{alike_on}, Tells.{choices_kept, choices_next}}

-- what holds before a class of a point: `start` and `before` are the answer and the other player's class totals as they were, `a` and `t` as they are
pub record IsRenewing (f : Frame) (lists : ClassLists) (player q n now : ℕ) (move : ℕ → ℕ → ℕ) (start a : Answer) (before t : Tally) : Type 0 where
  pub renewed : IsRenewed f lists player now start a before t
  pub right : AreRightTo f lists q n (moves_of f lists a.taken.items) move
  pub turned : IsTurnedAt f lists q start a

-- nothing is found again
pub renewed_none : (f : Frame) (lists : ClassLists) (player now : ℕ) (a : Answer) (t : Tally) → HasAnswer f lists player now a → HasTallyRoom f lists t
    → IsRenewed f lists player now a a t t
renewed_none f lists player now a t has room = record {
  answer = has;
  plan = record { total = refl; numbers = λ p e m lp own le lm. refl };
  kept = choices_kept room;
  passed_on = λ pays h. h;
}

-- and more is
pub renewed_on : (f : Frame) (lists : ClassLists) (player now : ℕ) (start a b : Answer) (before t u : Tally) → IsRenewed f lists player now start a before t
    → IsRenewed f lists player now a b t u → IsRenewed f lists player now start b before u
renewed_on f lists player now start a b before t u h k = record {
  answer = k.answer;
  plan = alike_on f lists player (plan_after f lists b now) (plan_after f lists a now) (plan_after f lists start now) k.plan h.plan;
  kept = choices_next h.kept k.kept;
  passed_on = λ pays was. k.passed_on pays (h.passed_on pays was);
}

pub renewing_none : (f : Frame) (lists : ClassLists) (player q now : ℕ) (move : ℕ → ℕ → ℕ) (a : Answer) (t : Tally) → HasAnswer f lists player now a
    → HasTallyRoom f lists t → IsRenewing f lists player q 1 now move a a t t
renewing_none f lists player q now move a t has room = record {
  renewed = renewed_none f lists player now a t has room;
  right = λ e le less. absurd (omega (arith, le.0, less));
  turned = record { taken = λ p e lp le other. refl; turned = λ p other. refl; still = λ no_one e le. refl };
}

module _ (f : Frame) (r : InRange f) (lists : ClassLists) (k : IsClasses f.parents lists) (player : ℕ) (w : IsWalked f player) (q n now : ℕ)
    (lq : q < point_count f) (own : player_at f q ≡ player) (ln : IsClass lists (round_of f (at_point q)) n) (move : ℕ → ℕ → ℕ) (start a : Answer)
    (before t : Tally) (h : IsRenewing f lists player q n now move start a before t) (new : ℕ)
    (right : IsRightMove f lists (moves_of f lists a.taken.items) move (last_step f (player_at f q) (at_point q)) q n new) where
  pub renewing_same : moves_of f lists a.taken.items q n ≡ new → IsRenewing f lists player q (n + 1) now move start a before t
  renewing_same is = record {
    renewed = h.renewed;
    right = rights_more f r lists k player w q n lq own ln move (moves_of f lists a.taken.items) (moves_of f lists a.taken.items) (λ p e lp le apart. refl) new
        right h.right is;
    turned = h.turned;
  }

  pub renewing_more : (b : Answer) (u : Tally) → moves_of f lists b.taken.items q n ≡ new → get_or b.turned.items q false ≡ true
      → IsElsewhere f lists q n a b → IsRenewed f lists player now a b t u → IsRenewing f lists player q (n + 1) now move start b before u
  renewing_more b u here turned elsewhere renewed = record {
    renewed = renewed_on f lists player now start a b before t u h.renewed renewed;
    right = rights_more f r lists k player w q n lq own ln move (moves_of f lists a.taken.items) (moves_of f lists b.taken.items) elsewhere.taken new
        right h.right here;
    turned = turned_more f lists q n start a b h.turned elsewhere turned;
  }
