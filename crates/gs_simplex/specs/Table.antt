-- The simplex table: how the rows of a step stand in memory. A row has a number for each column, the right side, and one further column, which is 0 in a
-- program row. The aim's row comes last, with its multiple in the further column and its last number negated, so that a pivot treats all rows alike.
-- The table holds a positive multiple of each row, which need not be divided by its greatest common divisor. A grid is its numbers by row and column.
use Rattle.std.specs.Prelude.{◌≡◌, ℕ, ◌+◌, ◌*◌, ◌^◌, ◌<◌, ◌≤◌, ℤ, pos, neg_ℤ, length, slice_index, vec_len, unsigned_abs, nat_eq, ◌&&◌, if◌then◌else◌}
use Rattle.gs_simplex.specs.{declared.program.Program.{Program}, Rows.{IsNarrow, IsPrimitive}, Elimination.{IsEliminated}, Path.{IsFirstWide}}
use Rattle.gs_simplex.specs.{declared.table.Table.{Table}, declared.table.Room.{Room}, Columns.{in_columns, AreStands, IsCovered}}
use Rattle.gs_simplex.specs.{Program.{Listing, IsRowsOf}, Numbers.{cell, AreNarrowNumbers, AreTops, IsMultiple}}

-- the number in row i and column j of the table
abbrev pub grid_of : Program → Table → ℕ → ℕ → ℤ
grid_of p t i = in_columns p.rows (vec_len t.room.lead) (slice_index t.stands.items) i (cell t.numbers.items (vec_len t.room.lead) i)

-- the number in column j of the aim's row, whose last number the table holds negated
abbrev pub table_aim : Program → (ℕ → ℕ → ℤ) → ℕ → ℤ
table_aim p grid j = if nat_eq j p.cols then neg_ℤ (grid p.rows j) else grid p.rows j

-- 0 in the further column of each program row, and all numbers narrow
pub record IsTable (p : Program) (grid : ℕ → ℕ → ℤ) : Type 0 where
  pub zero : (i : ℕ) → i < p.rows → grid i (p.cols + 1) ≡ pos 0
  pub narrow : (i j : ℕ) → i ≤ p.rows → j ≤ p.cols + 1 → IsNarrow (grid i j)

-- the lists beside the numbers are as long as a row
pub record HasRoom (width : ℕ) (room : Room) : Type 0 where
  pub lead : vec_len room.lead ≡ width
  pub mixed : vec_len room.mixed ≡ width
  pub filled : vec_len room.filled ≡ width

-- How a table stands in memory: rows of one width one after the other, narrow, with a bound for each row. Each column has its own place in a row, or none,
-- and each number other than 0 has a column.
pub record IsHeld (p : Program) (t : Table) : Type 0 where
  pub some : 1 < vec_len t.room.lead
  pub few : p.rows + vec_len t.room.lead ≤ 2 ^ 32
  pub room : HasRoom (vec_len t.room.lead) t.room
  pub long : length t.numbers.items ≡ (p.rows + 1) * vec_len t.room.lead
  pub narrow : AreNarrowNumbers t.numbers.items
  pub stands_long : length t.stands.items ≡ p.cols + 2
  pub stands : AreStands p.rows (vec_len t.room.lead) (p.cols + 2) (slice_index t.stands.items)
  pub covered : (i : ℕ) → i < p.rows + 1 →
      IsCovered p.rows (vec_len t.room.lead) (p.cols + 2) (slice_index t.stands.items) i (cell t.numbers.items (vec_len t.room.lead) i)
  pub live_long : length t.live.items ≡ p.cols + 4
  pub tops_long : length t.tops.items ≡ p.rows + 1
  pub tops : AreTops (p.rows + 1) (vec_len t.room.lead) t.numbers.items t.tops.items

-- the table holds a positive multiple of each of these rows
pub record IsKept (p : Program) (rows : ℕ → ℕ → ℤ) (aim : ℕ → ℤ) (grid : ℕ → ℕ → ℤ) : Type 0 where
  pub rows_kept : (i : ℕ) → i < p.rows → IsMultiple (p.cols + 1) (grid i) (rows i)
  pub aim_kept : IsMultiple (p.cols + 2) (table_aim p grid) aim

-- the table holds a positive multiple of each row of a list
pub record IsTableOf (p : Program) (l : Listing) (grid : ℕ → ℕ → ℤ) : Type 0 where
  pub rows_of : (rows : ℕ → ℕ → ℤ) × (aim : ℕ → ℤ) × (IsRowsOf p l rows aim) × IsKept p rows aim grid

-- The table after a pivot. If it held multiples of some rows, row r primitive, then it holds multiples of the rows that the pivot makes of them.
pub record IsTableAfter (p : Program) (old new : ℕ → ℕ → ℤ) (r c : ℕ) : Type 0 where
  pub table : IsTable p new
  pub after : (rows : ℕ → ℕ → ℤ) (aim : ℕ → ℤ) → IsPrimitive p.cols (rows r) → IsKept p rows aim old
      → (next : ℕ → ℕ → ℤ) × (next_aim : ℕ → ℤ) × (IsEliminated p rows aim r c next next_aim) × IsKept p next next_aim new

-- the number in row i and column j of the table with the sign that it has in the row
abbrev pub stated : Program → ℕ → ℕ → ℤ → ℤ
stated p i j z = if nat_eq i p.rows && nat_eq j p.cols then neg_ℤ z else z

-- z, in row i and column j of the table, is the first number that is not narrow in the rows after a pivot
pub record IsWideAfter (p : Program) (old : ℕ → ℕ → ℤ) (r c i j : ℕ) (z : ℤ) : Type 0 where
  pub row : i ≤ p.rows
  pub column : j ≤ p.cols + 1
  pub size : unsigned_abs z ≤ 2 ^ 125
  pub after : (rows : ℕ → ℕ → ℤ) (aim : ℕ → ℤ) → IsPrimitive p.cols (rows r) → IsKept p rows aim old
      → (next : ℕ → ℕ → ℤ) × (next_aim : ℕ → ℤ) × (IsEliminated p rows aim r c next next_aim) × IsFirstWide p next next_aim i j (stated p i j z)
