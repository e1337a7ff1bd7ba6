-- What the process does with its real stdin, stdout and stderr. No contract of std says what the words of the command line are, or which bytes a terminal,
-- pipe or file gives and takes. So the words are some words here, and clauses about bytes say something only of ends that tell their bytes.
use Rattle.std.specs.Prelude.{◌≡◌, ◌⊎◌, ℕ, List}
use Rattle.gs_run.specs.{Running.{Ends, Quiet, RunsTo, TellsLine, Unread, memory_line, usage_line}, Statuses.{code_of}, Theorem.{Does}}
use Rattle.gs_run.specs.declared.status.Status.{Status}
use Rattle.gs_run.specs.declared.status.Status.TheVariants as status

-- nothing was read and nothing printed, and this line went to stderr
pub record OnlyTells (line : List ℕ) (old new : Ends) : Type 0 where
  pub unread : Unread old new
  pub quiet : Quiet old new
  pub told : TellsLine old new line

-- a run over some words
pub record RanOver (old new : Ends) (s : Status) : Type 0 where
  pub words : List (List ℕ)
  pub does : Does (record { words = words; old = old; new = new; status = s })
  pub runs : RunsTo words old new s

-- how the process ends: as a run over some words; or it reads and prints nothing, and tells the usage line or that memory ran out
abbrev pub EndsStarted : Ends → Ends → Status → Type 0
EndsStarted old new s =
    RanOver old new s ⊎ (((s ≡ status.Usage) × OnlyTells usage_line old new) ⊎ ((s ≡ status.Memory) × OnlyTells memory_line old new))

-- the process ends as `EndsStarted` says, and its exit status is the number of that status
abbrev pub Started : Ends → Ends → ℕ → Type 0
Started old new code = (s : Status) × (code ≡ code_of s) × EndsStarted old new s
