use Rattle.std.proofs.lemmas.Grind.{common_steps}
use Rattle.std.proofs.{Common.{◌≡◌, ℕ, ◌+◌, ◌-◌, ◌*◌, ◌<◌, slice_index, get_or, vec_len, ℤ, pos, sym, ap, subst, ◌∙◌, arith}, lemmas.List.{get_or_read}}
use Rattle.gs_simplex.specs.{declared.program.Program.{Program}, declared.table.Table.{Table}, Rows.{IsNarrow}}
use Rattle.gs_simplex.specs.{Numbers.{at, cell}, Columns.{place_in, at_place}, Table.{grid_of, IsHeld}}
use Rattle.gs_simplex.proofs.{Fits.{kept_64, narrow_passed}, Places.{row_inside}, Standing.{place_slot, place_own, number_inside}}
use Rattle.gs_simplex.proofs.choice.number_at.Goals.{After-index, Then-stand-rows, After-index-then-stand-rows, After-index-then-stand-i}
use Rattle.gs_simplex.proofs.choice.number_at.Goals as goal

-- the number that was read at place k of row i
module _ (p : Program) (t : Table) (held : IsHeld p t) (i k l : ℕ) (x : ℤ) (row : i < p.rows + 1) (inside : k < vec_len t.room.lead)
    (is : l ≡ i * vec_len t.room.lead + k) (read : x ≡ get_or t.numbers.items l x) where
  within : i * vec_len t.room.lead + k < (p.rows + 1) * vec_len t.room.lead
  within = row_inside (p.rows + 1) (vec_len t.room.lead) i k row inside

  read_at : x ≡ cell t.numbers.items (vec_len t.room.lead) i k
  read_at = get_or_read t.numbers.items l x (omega (arith, within, held.long, is)) read (pos 0) ∙ ap (at t.numbers.items) is

  read_narrow : IsNarrow x
  read_narrow = let N : ℤ → Type 0 = λ z. IsNarrow z in
      subst N (sym read_at) (held.narrow (i * vec_len t.room.lead + k) (omega (arith, within, held.long)))

  read_grid : (j : ℕ) → place_in p.rows (vec_len t.room.lead) (slice_index t.stands.items j) i ≡ k → x ≡ grid_of p t i j
  read_grid j e =
      let w = vec_len t.room.lead in let f = cell t.numbers.items w i in read_at ∙ sym (ap (at_place w f) e ∙ number_inside w f k inside)

-- where the column stands
stand_is : (c : After-index) → c.index.result.now ≡ slice_index c.args.table.now.stands.items c.args.j
stand_is c =
    get_or_read c.args.table.now.stands.items c.args.j c.index.result.now (omega (arith, c.requires.table.stands_long, c.requires.column)) c.index.ensures 0

slot_inside : (c : Then-stand-rows) → c.index.result.now - c.args.p.now.rows < vec_len c.args.table.now.room.lead
slot_inside c =
    let g = goal.at.Then-stand-rows c in
    omega (arith, stand_is g.After-index, c.requires.table.stands.inside c.args.j c.requires.column, c.if-stand-rows.true)

pub index-requires-then-stand-rows : goal.index-requires-then-stand-rows
index-requires-then-stand-rows c =
    let t = c.args.table.now in let w = vec_len t.room.lead in
    let e : c.args.i * c.len.result ≡ c.args.i * w = ap (λ x. c.args.i * x) c.len.ensures in
    omega (
      arith,
      e,
      t.numbers.ok,
      c.requires.table.long,
      row_inside (c.args.p.now.rows + 1) w c.args.i (c.index.result.now - c.args.p.now.rows) c.requires.row
          (slot_inside c),
    )

pub returns-then-stand-rows : goal.returns-then-stand-rows
returns-then-stand-rows c = record {
  value = let g = goal.at.returns-then-stand-rows c in let p = c.args.p.now in let t = c.args.table.now in let w = vec_len t.room.lead in
      let k = c.index.result.now - p.rows in let x = c.index-then-stand-rows.result.now in
      let is : c.args.i * c.len.result + k ≡ c.args.i * w + k = ap (λ x. c.args.i * x + k) c.len.ensures in
      let e = ap (λ s. place_in p.rows w s c.args.i) (sym (stand_is g.After-index)) ∙ place_slot p.rows w c.index.result.now c.args.i c.if-stand-rows.true in
      kept_64 x (read_narrow p t c.requires.table c.args.i k (c.args.i * c.len.result + k) x c.requires.row (slot_inside g.Then-stand-rows) is
      c.index-then-stand-rows.ensures)
      ∙ read_grid p t c.requires.table c.args.i k (c.args.i * c.len.result + k) x c.requires.row (slot_inside g.Then-stand-rows) is
      c.index-then-stand-rows.ensures c.args.j e;
  narrow = let g = goal.at.returns-then-stand-rows c in let k = c.index.result.now - c.args.p.now.rows in
      narrow_passed c.index-then-stand-rows.result.now (read_narrow c.args.p.now c.args.table.now c.requires.table c.args.i k (c.args.i * c.len.result + k)
      c.index-then-stand-rows.result.now c.requires.row (slot_inside g.Then-stand-rows) (ap (λ x. c.args.i * x + k) c.len.ensures)
      c.index-then-stand-rows.ensures);
}

pub returns-then-stand-i : goal.returns-then-stand-i
returns-then-stand-i c = record {
  value = let g = goal.at.returns-then-stand-i c in let p = c.args.p.now in let t = c.args.table.now in let w = vec_len t.room.lead in
      let x = c.index-then-stand-i.result.now in
      let is : c.args.i * c.len.result ≡ c.args.i * w + 0 = ap (λ x. c.args.i * x) c.len.ensures ∙ omega arith in
      let some : 0 < w = omega (arith, c.requires.table.some) in
      let e = ap (λ s. place_in p.rows w s c.args.i) (sym (stand_is g.After-index))
      ∙ place_own p.rows w c.index.result.now c.args.i c.if-stand-rows.false c.if-stand-i.true in
      kept_64 x (read_narrow p t c.requires.table c.args.i 0 (c.args.i * c.len.result) x c.requires.row some is c.index-then-stand-i.ensures)
      ∙ read_grid p t c.requires.table c.args.i 0 (c.args.i * c.len.result) x c.requires.row some is c.index-then-stand-i.ensures c.args.j e;
  narrow = let w = vec_len c.args.table.now.room.lead in
      let is : c.args.i * c.len.result ≡ c.args.i * w + 0 = ap (λ x. c.args.i * x) c.len.ensures ∙ omega arith in
      narrow_passed c.index-then-stand-i.result.now (read_narrow c.args.p.now c.args.table.now c.requires.table c.args.i 0 (c.args.i * c.len.result)
      c.index-then-stand-i.result.now c.requires.row (omega (arith, c.requires.table.some)) is c.index-then-stand-i.ensures);
}

pub index-requires-then-stand-i : goal.index-requires-then-stand-i
index-requires-then-stand-i c = grind (arith, common_steps)

pub overflow_mul-start : goal.overflow_mul-start
overflow_mul-start c = grind arith
