use Rattle.std.proofs.Common.{map, string_bytes}
use Rattle.clap.specs.Words.{app_of}
use Rattle.gs_words.proofs.Simple.{accepted, refused}
use Rattle.gs_words.proofs.reading.taken.Goals as goal

pub returns-in-Ok-try_get_matches_from : goal.returns-in-Ok-try_get_matches_from
returns-in-Ok-try_get_matches_from c =
    let t = c.in-Ok-try_get_matches_from in
    accepted (map string_bytes c.args.words.now) (app_of c.in-Ok.command) t.matches c.in-Ok.ensures.0 t.ensures.matches t.ensures.kinds

pub returns-in-Err-try_get_matches_from : goal.returns-in-Err-try_get_matches_from
returns-in-Err-try_get_matches_from c =
    let t = c.in-Err-try_get_matches_from in
    refused (map string_bytes c.args.words.now) (app_of c.in-Ok.command) c.kind.result c.stop_for.result c.in-Ok.ensures.0 c.stop_for.ensures
    (λ free. rw c.kind.ensures (t.ensures.kinds free))
