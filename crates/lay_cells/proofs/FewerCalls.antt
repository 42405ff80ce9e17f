-- Fewer calls keep a layout free of cycles.
use Rattle.std.proofs.Common.{ℕ, List, Contains}
use Rattle.lay_cells.specs.declared.cell_id.CellId.{CellId}
use Rattle.lay_cells.specs.Walks.{IsAcyclic, Walks, goes, stays}

-- each of the calls is among the others
abbrev pub AreAmong : List (CellId × ℕ) → List (CellId × ℕ) → Type 0
AreAmong calls others = (call : CellId × ℕ) → Contains calls call → Contains others call

-- a walk by some calls is one by more
Walks-more : {calls others : List (CellId × ℕ)} {from to : CellId} → AreAmong calls others → Walks calls from to → Walks others from to
Walks-more among stays = stays
Walks-more among (goes {from = from} {target = target} first rest) = goes (among (from, target) first) (Walks-more among rest)

pub IsAcyclic-fewer : (calls others : List (CellId × ℕ)) → AreAmong calls others → IsAcyclic others → IsAcyclic calls
IsAcyclic-fewer calls others among acyclic cell target there walk =
    acyclic cell target (among (cell, target) there) (Walks-more among walk)
