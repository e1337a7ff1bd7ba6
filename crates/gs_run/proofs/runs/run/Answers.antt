use Rattle.std.proofs.{Common.{get_or, map, string_bytes}, lemmas.List.Elements.{All-map}, lemmas.Str.{IsUtf8-string_bytes}}
use Rattle.std.specs.Str.{IsUtf8}
use Rattle.gs_run.proofs.Theorem.{does}
use Rattle.gs_run.proofs.runs.run.Goals as goal

pub returns-clause-does : goal.returns-clause-does
returns-clause-does g c =
    does (map string_bytes c.args.words.now) _ _ c.run_words.result (All-map IsUtf8 string_bytes c.args.words.now (λ k d lt. IsUtf8-string_bytes (get_or c.args.words.now k d)))
    c.run_words.ensures
