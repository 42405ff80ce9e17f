-- Calls as a text writes them.
-- Source: Caltech Intermediate Form 2.0, the grammar's call and transformation.
use Rattle.std.specs.Prelude.{ℕ, zero, suc, ◌+◌, ◌==◌, List, [], ◌∷◌, ◌++◌, length, Option, Some, None, if◌then◌else◌}
use Rattle.cif_grammar.specs.declared.calls.Change.{Change}
use Rattle.cif_grammar.specs.declared.calls.Change.TheVariants.{Direction, MirrorX, MirrorY, Shift}
use Rattle.cif_grammar.specs.declared.paths.Vertex.{Vertex}
use Rattle.cif_grammar.specs.Bytes.{is_blank, skip}
use Rattle.byte_io.specs.Steps.{◌>>=◌}
use Rattle.cif_grammar.specs.Paths.{vertex_at}

-- a change by a point
abbrev pub by_point : (Vertex → Change) → Vertex × List ℕ → Option (Change × List ℕ)
by_point change point = Some (change point.0, point.1)

-- "X" or "Y"
abbrev pub axis_at : List ℕ → Option (Change × List ℕ)
axis_at [] = None
axis_at (b ∷ bs) = if b == 88 then Some (MirrorX, bs) else if b == 89 then Some (MirrorY, bs) else None

-- "T" point, "M" {blank} "X", "M" {blank} "Y" or "R" point
unfoldable pub change_at : List ℕ → Option (Change × List ℕ)
change_at [] = None
change_at (b ∷ bs) =
    if b == 84 then vertex_at bs >>= by_point Shift
    else if b == 77 then axis_at (skip is_blank bs)
    else if b == 82 then vertex_at bs >>= by_point Direction
    else None

-- the changes found so far and those that bytes without a blank at their front begin with, up to the end, in as many steps at most
unfoldable pub changes_from : ℕ → List Change → List ℕ → Option (List Change)
changes_from zero found bytes = None
changes_from (suc steps) found [] = Some found
changes_from (suc steps) found (b ∷ bs) = do
  next ← change_at (b ∷ bs)
  changes_from steps (found ++ next.0 ∷ []) (skip is_blank next.1)

-- { {blank} change } {blank}; more steps than bytes are enough
unfoldable pub changes_of : List ℕ → Option (List Change)
changes_of bytes = changes_from (length bytes + 1) [] (skip is_blank bytes)
