use Rattle.std.proofs.lemmas.Grind.{common_steps}
use Rattle.std.proofs.{Common.{rules, ◌≡◌, ◌≤◌, ◌++◌, ℕ, List, length, take, ◌∙◌, arith}, lemmas.List.{length-append, length-take}, KnownBytes.{Consumes-trans}}
use Rattle.gs_io.proofs.whole.read_all.Goals as goal

-- a piece that was cut to the room has no more bytes than the room
short_piece : (room count : ℕ) (into piece : List ℕ) → length into ≡ length (take room piece) → length (take count into) ≤ room
short_piece room count into piece e = simp length-take (let f = simp length-take at e in omega arith)

-- the piece that found no room was taken all the same
pub returns-then-is_err : goal.returns-then-is_err
returns-then-is_err g c =
    let left = g.S.Source.left in
    let piece = take c.in-Ok.count c.take.new.into in
    let short = short_piece c.min-room.result c.in-Ok.count c.take.new.into c.loop-piece.piece c.take.auto.into in (
      (
        c.loop-piece.bytes.items ++ piece,
        Consumes-trans (left c.args.source.now) (left c.loop-piece.source) (left c.take.new.self) c.loop-piece.bytes.items piece c.loop-piece.invariant.taken
            c.in-Ok.ensures.bytes.0,
        simp length-append (omega arith),
      ),
      c.in-Ok.ensures.cause.ok ∙ c.loop-piece.invariant.faults,
    )

pub returns : goal.returns
returns g c = search rules

pub loop-piece-preserved : goal.loop-piece-preserved
loop-piece-preserved g c = grind (arith, common_steps)

pub returns-in-Err : goal.returns-in-Err
returns-in-Err g c = grind arith

pub loop-piece-smaller : goal.loop-piece-smaller
loop-piece-smaller g c = grind arith
