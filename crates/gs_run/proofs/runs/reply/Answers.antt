use Rattle.std.proofs.Common.{refl, subst}
use Rattle.std.specs.Io.KnownBytes.{Appends}
use Rattle.gs_reply.specs.Replies.{Reply}
use Rattle.gs_words.specs.Tasks.{task_of}
use Rattle.gs_run.proofs.Answered.{no_memory, refusal_written, write_fault}
use Rattle.gs_run.specs.{Asking.{Asks}, Running.{Ends, sinks}}
use Rattle.gs_run.proofs.runs.reply.Goals as goal

pub returns-in-Err-Refused : goal.returns-in-Err-Refused
returns-in-Err-Refused g c =
    let says : Reply → Type 0 = Asks (task_of c.args.request) c.args.bytes.items in
    let given = g.O.Sink.given c.args.out.now in
    let faults = g.O.Sink.faults c.args.out.now in
    let old : Ends = sinks given faults (g.E.Sink.given c.args.err.now) (g.E.Sink.faults c.args.err.now) in
    let new : Ends = sinks given faults (g.E.Sink.given c.tell_refusal.new.err) (g.E.Sink.faults c.tell_refusal.new.err) in
    let said = rw c.in-Err-Refused.field-0-is at c.in-Err-Refused.ensures in
    refusal_written says old new said.0 c.tell_refusal.result said.1 (refl, refl) (c.tell_refusal.ensures said.0 said.2)

pub returns-in-Ok : goal.returns-in-Ok
returns-in-Ok g c =
    let says : Reply → Type 0 = Asks (task_of c.args.request) c.args.bytes.items in
    let old : Ends = sinks (g.O.Sink.given c.args.out.now) (g.O.Sink.faults c.args.out.now) (g.E.Sink.given c.args.err.now) (g.E.Sink.faults c.args.err.now) in
    let new : Ends = sinks (g.O.Sink.given c.write_all.new.sink) (g.O.Sink.faults c.write_all.new.sink) (g.E.Sink.given c.refuse.new.err)
    (g.E.Sink.faults c.refuse.new.err) in
    write_fault says old new c.in-Ok.text.items c.deref.result.now c.refuse.result c.in-Err.field-0 c.refuse.ensures.status c.in-Ok.ensures c.deref.ensures.value
    c.in-Err.ensures c.refuse.ensures.told

pub returns-in-Ok-write_all : goal.returns-in-Ok-write_all
returns-in-Ok-write_all g c =
    let given = subst (Appends (g.O.Sink.given c.args.out.now) (g.O.Sink.given c.write_all.new.sink)) c.deref.ensures.value c.in-Ok-write_all.ensures.0 in
    ((c.in-Ok.text.items, c.in-Ok.ensures, given), c.in-Ok-write_all.ensures.1, (refl {a = g.E.Sink.given c.args.err.now}, refl {a = g.E.Sink.faults c.args.err.now}))

pub returns : goal.returns
returns g c =
    let says : Reply → Type 0 = Asks (task_of c.args.request) c.args.bytes.items in
    let old : Ends = sinks (g.O.Sink.given c.args.out.now) (g.O.Sink.faults c.args.out.now) (g.E.Sink.given c.args.err.now) (g.E.Sink.faults c.args.err.now) in
    let new : Ends = sinks (g.O.Sink.given c.args.out.now) (g.O.Sink.faults c.args.out.now) (g.E.Sink.given c.out_of_memory.new.err)
    (g.E.Sink.faults c.out_of_memory.new.err) in
    no_memory says old new c.out_of_memory.result c.out_of_memory.ensures.status (refl, refl) c.out_of_memory.ensures.told
