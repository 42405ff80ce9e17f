-- Paths by position are walks of calls.
use Rattle.std.proofs.Common.{◌≡◌, ℕ, Bool, List}
use Rattle.std.proofs.Common.{sym, ◌∙◌, subst, arith}
use Rattle.std.proofs.Common.{Contains, IsTrue}
use Rattle.lay_cells.specs.declared.cell_id.CellId.{CellId}
use Rattle.lay_cells.specs.declared.cell_id.CellId.TheVariants.{Symbol}
use Rattle.lay_cells.specs.Graph.{AreRowsOf, AreWithin, position_of}
use Rattle.lay_cells.specs.Marks.{AreReached, IsMarked, Path}
use Rattle.lay_cells.specs.Marks.Path.{here, along}
use Rattle.lay_cells.specs.Symbols.{has_cell}
use Rattle.lay_cells.specs.Walks.{Walks}
use Rattle.lay_cells.specs.Walks.Walks.{stays, goes}
use Rattle.lay_cells.proofs.GraphLemmas.{position_of-injective, position_of-within}

module _ (symbols : List ℕ) (calls : List (CellId × ℕ)) (rows : List (List ℕ)) (r : AreRowsOf symbols calls rows) where
  -- each target is the position of a cell
  pub targets_within : AreWithin rows
  targets_within p q h =
      let c = r.sound p q h in
      omega (arith, r.whole, position_of-within symbols (Symbol c.1), c.4)

  pub path_from_walk : {a b : CellId} → Walks calls a b → Path rows (position_of symbols a) (position_of symbols b)
  path_from_walk stays = here
  path_from_walk {a} (goes {target = n} call rest) = along (r.kept a n call) (path_from_walk rest)

  walk_along : {p q : ℕ} (a b : CellId) → Path rows p q → IsTrue (has_cell symbols a) → IsTrue (has_cell symbols b)
      → p ≡ position_of symbols a → q ≡ position_of symbols b → Walks calls a b
  walk_along a b here ha hb pa pb =
      subst (λ (x : CellId). Walks calls a x) (position_of-injective symbols a b ha hb (sym pa ∙ pb)) stays
  walk_along {p} a b (along {t = t} first rest) ha hb pa pb =
      let c = r.sound p t first in
      let same : c.0 ≡ a = position_of-injective symbols c.0 a (r.callers c.0 c.1 c.2) ha (c.3 ∙ pa) in
      let call : Contains calls (a, c.1) = subst (λ (x : CellId). Contains calls (x, c.1)) same c.2 in
      goes call (walk_along (Symbol c.1) b rest (r.targets c.0 c.1 c.2) hb (sym c.4) pb)

  module _ (from to : CellId) (start end : ℕ) (marks : List Bool) (begins : start ≡ position_of symbols from)
      (ends : end ≡ position_of symbols to) (reached : AreReached rows start marks) where
    -- where a cell is marked, a walk leads there
    pub walk_from_mark : IsTrue (has_cell symbols from) → IsTrue (has_cell symbols to) → IsMarked marks end → Walks calls from to
    walk_from_mark hf ht mark = walk_along from to (reached.sound end mark) hf ht begins ends

    -- where a walk leads, the cell is marked
    pub mark_from_walk : Walks calls from to → IsMarked marks end
    mark_from_walk walk =
        reached.complete end (subst (λ (q : ℕ). Path rows start q) (sym ends)
        (subst (λ (p : ℕ). Path rows p (position_of symbols to)) (sym begins) (path_from_walk walk)))
