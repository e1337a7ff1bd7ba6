use Rattle.std.proofs.{Common.{IfOk, Result, Ok, Err, get_or, map, string_bytes}, lemmas.List.Elements.{All-map}, lemmas.Str.{IsUtf8-string_bytes}}
use Rattle.std.specs.Str.{IsUtf8}
use Rattle.gs_run.proofs.InMemory.{does_in_memory}
use Rattle.gs_run.proofs.memory.run_bytes.Goals as goal

-- what is known of a value that is there gives more
if_ok : {A E : Type 0} (P Q : A → Type 0) (r : Result A E) → ((a : A) → P a → Q a) → IfOk r P → IfOk r Q
if_ok P Q (Ok a) f h = f a h
if_ok P Q (Err e) f h = h

pub returns : goal.returns
returns c =
    if_ok _ _ c.given.result (λ o h. does_in_memory (map string_bytes c.args.words.now) c.args.input.now o.status o.printed.items o.told.items
    (All-map IsUtf8 string_bytes c.args.words.now (λ k d lt. IsUtf8-string_bytes (get_or c.args.words.now k d))) h)
    c.given.ensures
