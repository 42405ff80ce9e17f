-- Equality of cells: the test, and that it decides. What an `==` answers is such a test.
-- Checked on: Top and symbol 0 are different cells.
use Rattle.std.specs.Prelude.{◌≡◌, ◌==◌, Bool, true, false, refl}
use Rattle.std.specs.Bool.{Decides}
use Rattle.std.proofs.Common.{ap}
use Rattle.std.proofs.lemmas.Bool.Decides.{Decides-eqb, Decides-like}
use Rattle.lay_cells.specs.declared.cell_id.CellId.{CellId}
use Rattle.lay_cells.specs.declared.cell_id.CellId.TheVariants.{Top, Symbol}

-- the same cell
abbrev pub cell_eq : CellId → CellId → Bool
cell_eq Top Top = true
cell_eq Top (Symbol n) = false
cell_eq (Symbol m) Top = false
cell_eq (Symbol m) (Symbol n) = m == n

pub cell_eq-Decides : (a b : CellId) → Decides (cell_eq a b) (a ≡ b)
cell_eq-Decides Top Top = (λ _. refl, λ _. refl)
cell_eq-Decides Top (Symbol n) = (λ e. cc, λ e. cc)
cell_eq-Decides (Symbol m) Top = (λ e. cc, λ e. cc)
cell_eq-Decides (Symbol m) (Symbol n) = Decides-like (m == n) (λ e. ap Symbol e) (λ e. cc) (Decides-eqb m n)
