use Rattle.std.proofs.Common.{◌≡◌, ◌∙◌, Err, Some, ap, map, refl, string_bytes, rules}
use Rattle.gs_words.specs.{Requests.{request_of}, Tasks.{task_of}}
use Rattle.gs_io.specs.declared.InputError.TheVariants as read
use Rattle.gs_run.proofs.Answered.{inputs, no_request, no_room, no_room_for_words, read_fault, run_of, too_long}
use Rattle.gs_run.specs.{Asking.{reads}, Running.{Ends, ends}}
use Rattle.gs_run.proofs.runs.run_words.Goals as goal

pub returns : goal.returns
returns g c =
    let words = map string_bytes c.args.words.now in
    let task = task_of c.in-Ok.request in
    let bytes = c.in-Ok-input.bytes in
    let old : Ends = ends (g.S.Source.left c.args.source.now) (g.S.Source.faults c.args.source.now) (g.O.Sink.given c.args.out.now)
    (g.O.Sink.faults c.args.out.now) (g.E.Sink.given c.args.err.now) (g.E.Sink.faults c.args.err.now) in
    let new : Ends = ends (g.S.Source.left c.input.new.source) (g.S.Source.faults c.input.new.source) (g.O.Sink.given c.reply.new.out)
    (g.O.Sink.faults c.reply.new.out) (g.E.Sink.given c.reply.new.err) (g.E.Sink.faults c.reply.new.err) in
    let asked : request_of words ≡ Some task = search rules in
    run_of words task old new bytes.items c.reply.result asked (inputs (reads task) old new bytes c.in-Ok-input.ensures) c.reply.ensures

pub returns-in-Err-Fault-Failed : goal.returns-in-Err-Fault-Failed
returns-in-Err-Fault-Failed g c =
    let words = map string_bytes c.args.words.now in
    let task = task_of c.in-Ok.request in
    let old : Ends = ends (g.S.Source.left c.args.source.now) (g.S.Source.faults c.args.source.now) (g.O.Sink.given c.args.out.now)
    (g.O.Sink.faults c.args.out.now) (g.E.Sink.given c.args.err.now) (g.E.Sink.faults c.args.err.now) in
    let last = c.refuse in
    let new : Ends = ends (g.S.Source.left c.input.new.source) (g.S.Source.faults c.input.new.source) (g.O.Sink.given c.args.out.now)
    (g.O.Sink.faults c.args.out.now) (g.E.Sink.given last.new.err) (g.E.Sink.faults last.new.err) in
    let asked : request_of words ≡ Some task = search rules in
    let at = c.in-Err-Fault-Failed in
    let fault = rw at.field-0-is at at.field-0-0-is in
    let stop = at.is ∙ ap (λ e. Err e) (at.field-0-is ∙ ap (λ e. read.Fault e) fault) in
    read_fault words task old new asked c.input.result c.input.ensures (refl, refl) last.result last.ensures.status stop last.ensures.told

pub returns-in-Err-Fault-TooLong : goal.returns-in-Err-Fault-TooLong
returns-in-Err-Fault-TooLong g c =
    let words = map string_bytes c.args.words.now in
    let task = task_of c.in-Ok.request in
    let old : Ends = ends (g.S.Source.left c.args.source.now) (g.S.Source.faults c.args.source.now) (g.O.Sink.given c.args.out.now)
    (g.O.Sink.faults c.args.out.now) (g.E.Sink.given c.args.err.now) (g.E.Sink.faults c.args.err.now) in
    let last = c.refuse-in-Err-Fault-TooLong in
    let new : Ends = ends (g.S.Source.left c.input.new.source) (g.S.Source.faults c.input.new.source) (g.O.Sink.given c.args.out.now)
    (g.O.Sink.faults c.args.out.now) (g.E.Sink.given last.new.err) (g.E.Sink.faults last.new.err) in
    let asked : request_of words ≡ Some task = search rules in
    let at = c.in-Err-Fault-TooLong in
    let fault = rw at.field-0-is at at.field-0-0-is in
    let stop = at.is ∙ ap (λ e. Err e) (at.field-0-is ∙ ap (λ e. read.Fault e) fault) in
    too_long words task old new asked c.input.result c.input.ensures (refl, refl) last.result last.ensures.status stop last.ensures.told

pub returns-in-Err-Memory-input : goal.returns-in-Err-Memory-input
returns-in-Err-Memory-input g c =
    let words = map string_bytes c.args.words.now in
    let task = task_of c.in-Ok.request in
    let old : Ends = ends (g.S.Source.left c.args.source.now) (g.S.Source.faults c.args.source.now) (g.O.Sink.given c.args.out.now)
    (g.O.Sink.faults c.args.out.now) (g.E.Sink.given c.args.err.now) (g.E.Sink.faults c.args.err.now) in
    let last = c.out_of_memory-in-Err-Memory-input in
    let new : Ends = ends (g.S.Source.left c.input.new.source) (g.S.Source.faults c.input.new.source) (g.O.Sink.given c.args.out.now)
    (g.O.Sink.faults c.args.out.now) (g.E.Sink.given last.new.err) (g.E.Sink.faults last.new.err) in
    let asked : request_of words ≡ Some task = search rules in
    let stop = c.in-Err-Memory-input.is ∙ ap (λ e. Err e) c.in-Err-Memory-input.field-0-is in
    no_room words task old new asked c.input.result c.input.ensures (refl, refl) last.result last.ensures.status stop last.ensures.told

pub returns-in-Err-Memory : goal.returns-in-Err-Memory
returns-in-Err-Memory g c =
    no_room_for_words _ _ _ c.out_of_memory.result c.out_of_memory.ensures.status (refl, refl) (refl, refl) c.out_of_memory.ensures.told

pub returns-in-Err-Usage : goal.returns-in-Err-Usage
returns-in-Err-Usage g c =
    let none = rw c.in-Err-Usage.field-0-is at c.in-Err-Usage.ensures.reads in
    no_request _ _ _ c.refuse_words.result c.refuse_words.ensures.status none (refl, refl) (refl, refl) c.refuse_words.ensures.told
