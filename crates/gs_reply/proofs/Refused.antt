-- A fault of the program is the one that reading meets first; and more is said of what a command returns.
use Rattle.std.proofs.{Common.{◌≡◌, ℕ, Result, Ok, Err, Vec, IfErr, IsErrAnd, refl, sym, subst}, lemmas.Result.{err_from_is_err_and}}
use Rattle.std.specs.declared.alloc.Global.{Global}
use Rattle.gs_file.specs.{Answers.{Fails, fault_of}, Faults.{Fault}, Reading.{FileGame}, declared.fault.FileFault.{FileFault}}
use Rattle.gs_model.specs.Classes.{ClassLists}
use Rattle.gs_reply.specs.{Refusals.{Bad_game, Too_large}, Replies.{Answers, IsBadGame, OfReading, Reply, Prints, Refuses, StopsFor, Tells, of_seq_error}}
use Rattle.gs_reply.specs.{Troubles.{SaysLarge}, declared.refusals.Stop.{Stop}, declared.refusals.Limit.TheVariants.{Sequences, Cells}}
use Rattle.gs_reply.specs.declared.refusals.Refusal.TheVariants as told
use Rattle.gs_reply.specs.declared.refusals.Stop.TheVariants as stop
use Rattle.gs_seq.specs.{Stops.{IsErrorAt, usual}, declared.stop.SeqError.{SeqError}, declared.stop.SeqError.TheVariants.{Fault as Over, Memory}}
use Rattle.gs_seq.specs.declared.stop.SeqFault.TheVariants.{TooManySequences, TooManyCells}
use Rattle.gs_strategy.specs.Values.{file_frame}

-- what follows of each reply follows of each stop, and of what a command returns
pub stops_more : (P Q : Reply → Type 0) → ((r : Reply) → P r → Q r) → (e : Stop) → StopsFor P e → StopsFor Q e
stops_more P Q more stop.Memory h = tt
stops_more P Q more (stop.Refused told) h = (h.0, more (Refuses h.0) h.1, h.2)

pub answers_more : (P Q : Reply → Type 0) → ((r : Reply) → P r → Q r) → (a : Result (Vec ℕ Global) Stop) → Answers P a → Answers Q a
answers_more P Q more (Ok text) h = more (Prints text.items) h
answers_more P Q more (Err e) h = stops_more P Q more e h

-- a fault of the file is its refusal
pub game_refused : (read : Result FileGame Fault) (f : FileFault) → Fails f read → Tells (IsBadGame read) (told.BadGame f)
game_refused read f h = (Bad_game (fault_of f), (fault_of f, h, refl), refl)

-- what is said of a game is said of the file that states it
pub stated : (says : FileGame → Reply → Type 0) (read : Result FileGame Fault) (g : FileGame) (a : Result (Vec ℕ Global) Stop) → read ≡ Ok g
    → Answers (says g) a → Answers (OfReading says read) a
stated says read g a is = subst (λ x. Answers (OfReading says x) a) (sym is)

-- what is said of a file that states no game is its refusal
pub not_stated : (says : FileGame → Reply → Type 0) (read : Result FileGame Fault) (e : Stop) → StopsFor (IsBadGame read) e → StopsFor (OfReading says read) e
not_stated says read = stops_more (IsBadGame read) (OfReading says read) (λ r bad. subst (λ x. OfReading says x r) (sym bad.1) bad.2)

-- a game without a sequence form is too large
pub too_large : (g : FileGame) (lists : ClassLists) (why : SeqError) → IsErrorAt usual (file_frame g) lists why → StopsFor (SaysLarge g lists) (of_seq_error why)
too_large g lists (Over (TooManySequences player count)) h = (Too_large (Sequences player count), (Sequences player count, h, refl), refl)
too_large g lists (Over (TooManyCells count)) h = (Too_large (Cells count), (Cells count, h, refl), refl)
too_large g lists Memory h = tt

-- ---- the exit of a `?`

-- what a command returns there
pub exits : (P : Reply → Type 0) (r : Result (Vec ℕ Global) Stop) (e : Stop) → IsErrAnd r (λ x. x ≡ e) → StopsFor P e → Answers P r
exits P r e h said = let p = err_from_is_err_and r h in rw (p.1, p.2) said

-- what any other function returns there
pub fails : {T : Type 0} (P : Reply → Type 0) (r : Result T Stop) (e : Stop) → IsErrAnd r (λ x. x ≡ e) → StopsFor P e → IfErr r (StopsFor P)
fails P r e h said = let p = err_from_is_err_and r h in rw (p.1, p.2) said
