-- What is said of the strategy that a file holds is said of the file; one that holds none is refused for its first fault.
use Rattle.std.proofs.Common.{ℕ, List, Result, Ok, Err, Vec, refl}
use Rattle.std.specs.declared.alloc.Global.{Global}
use Rattle.gs_reply.specs.{Refusals.{Bad_strategy}, Replies.{Answers, IsBadStrategy, OfFile, Reply, StopsFor, Tells}}
use Rattle.gs_reply.specs.{declared.refusals.Stop.{Stop}, declared.refusals.Which.{Which}}
use Rattle.gs_reply.specs.declared.refusals.Refusal.TheVariants as told
use Rattle.gs_strategy.specs.{Checks.{Reads}, Faults.{fault_of}, Values.{Strategy}, declared.fault.StoreFault.{StoreFault}}
use Rattle.gs_reply.proofs.Refused.{answers_more, stops_more}

-- a fault of the file is its refusal
pub strategy_refused : (which : Which) (bytes : List ℕ) (f : StoreFault) → Reads bytes (Err (fault_of f))
    → Tells (IsBadStrategy which bytes) (told.BadStrategy which f)
strategy_refused which bytes f h = (Bad_strategy which (fault_of f), (fault_of f, h, refl), refl)

-- what is said of the strategy is said of the file that holds it
pub held : (which : Which) (says : Strategy → Reply → Type 0) (bytes : List ℕ) (s : Strategy) (a : Result (Vec ℕ Global) Stop) → Reads bytes (Ok s)
    → Answers (says s) a → Answers (OfFile which says bytes) a
held which says bytes s a reads = answers_more (says s) (OfFile which says bytes) (λ r said. record { read = Ok s; reads = reads; said = said }) a

-- and of a file that holds none its refusal
pub not_held : (which : Which) (says : Strategy → Reply → Type 0) (bytes : List ℕ) (e : Stop) → StopsFor (IsBadStrategy which bytes) e
    → StopsFor (OfFile which says bytes) e
not_held which says bytes = stops_more (IsBadStrategy which bytes) (OfFile which says bytes) (λ r bad. record { read = Err bad.0; reads = bad.1; said = bad.2 })
