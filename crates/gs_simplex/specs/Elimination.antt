-- One pivot in whole numbers: what the rows become when row r is listed with column c.
use Rattle.std.specs.Prelude.{◌≡◌, ◌≢◌, ℕ, suc, ◌+◌, ◌<◌, ◌≤◌, ◌⊎◌, ℤ, pos, ◌+ℤ◌, ◌-ℤ◌, ◌*ℤ◌, neg_ℤ, ◌<ℤ◌}
use Rattle.gs_simplex.specs.{declared.program.Program.{Program}, Rows.{IsPrimitive}}

-- Row r stays or is negated, so that its number in column c, the pivot, is above 0. Each other row becomes the pivot times the row, less the row's
-- number in column c times row r. The aim's row becomes the same, but its last number adds that product and its multiple is only multiplied by the pivot.
-- Each result is divided by a common divisor so that it is primitive.
pub record IsEliminated (p : Program) (rows : ℕ → ℕ → ℤ) (aim : ℕ → ℤ) (r c : ℕ) (new : ℕ → ℕ → ℤ) (new_aim : ℕ → ℤ) : Type 0 where
  pub own : pos 0 <ℤ new r c
  pub self : ((j : ℕ) → j ≤ p.cols → new r j ≡ rows r j) ⊎ ((j : ℕ) → j ≤ p.cols → new r j ≡ neg_ℤ (rows r j))
  pub other : (i : ℕ) → i < p.rows → i ≢ r → (g : ℤ) × (pos 0 <ℤ g) × ((j : ℕ) → j ≤ p.cols → new r c *ℤ rows i j -ℤ rows i c *ℤ new r j ≡ g *ℤ new i j)
  pub aim_row : (g : ℤ) × (pos 0 <ℤ g) × ((j : ℕ) → j < p.cols → new r c *ℤ aim j -ℤ aim c *ℤ new r j ≡ g *ℤ new_aim j)
      × (new r c *ℤ aim p.cols +ℤ aim c *ℤ new r p.cols ≡ g *ℤ new_aim p.cols) × (new r c *ℤ aim (suc p.cols) ≡ g *ℤ new_aim (suc p.cols))
  pub primitive : (i : ℕ) → i < p.rows → IsPrimitive p.cols (new i)
  pub primitive_aim : IsPrimitive (p.cols + 1) new_aim
