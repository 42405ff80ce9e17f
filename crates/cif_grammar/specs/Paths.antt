-- Paths as a text writes them.
-- Source: Caltech Intermediate Form 2.0, the grammar's point and path.
use Rattle.std.specs.Prelude.{ℕ, zero, suc, ◌+◌, List, [], ◌∷◌, ◌++◌, length, Option, Some, None, if◌then◌else◌}
use Rattle.std.specs.List.{list_all}
use Rattle.cif_grammar.specs.declared.paths.Vertex.{Vertex}
use Rattle.cif_grammar.specs.Bytes.{is_blank}
use Rattle.byte_io.specs.Steps.{◌>>=◌}
use Rattle.cif_grammar.specs.Numbers.{behind_separator, signed_at}

-- signed separator signed
unfoldable pub vertex_at : List ℕ → Option (Vertex × List ℕ)
vertex_at bytes = do
  x ← signed_at bytes
  rest ← behind_separator x.1
  y ← signed_at rest
  Some (record { x = x.0; y = y.0 }, y.1)

-- separator signed separator signed
unfoldable pub next_vertex_at : List ℕ → Option (Vertex × List ℕ)
next_vertex_at bytes = do
  rest ← behind_separator bytes
  vertex_at rest

-- the vertices found so far and those that follow up to blanks at the end, in as many steps at most
unfoldable pub vertices_from : ℕ → List Vertex → List ℕ → Option (List Vertex)
vertices_from zero found bytes = None
vertices_from (suc steps) found bytes =
    if list_all is_blank bytes then Some found
    else do
      next ← next_vertex_at bytes
      vertices_from steps (found ++ next.0 ∷ []) next.1

-- point {separator point} {blank}; more steps than bytes are enough
unfoldable pub path_of : List ℕ → Option (List Vertex)
path_of bytes = do
  first ← vertex_at bytes
  vertices_from (length first.1 + 1) (first.0 ∷ []) first.1
