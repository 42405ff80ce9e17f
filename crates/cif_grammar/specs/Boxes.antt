-- Boxes as a text writes them.
-- Source: Caltech Intermediate Form 2.0, the grammar's box.
use Rattle.std.specs.Prelude.{ℕ, List, Option, Some, None, if◌then◌else◌}
use Rattle.std.specs.List.{list_all}
use Rattle.cif_grammar.specs.declared.boxes.BoxNumbers.{BoxNumbers}
use Rattle.cif_grammar.specs.declared.paths.Vertex.{Vertex}
use Rattle.cif_grammar.specs.Bytes.{is_blank}
use Rattle.byte_io.specs.Steps.{◌>>=◌}
use Rattle.cif_grammar.specs.Numbers.{behind_separator, integer_at}
use Rattle.cif_grammar.specs.Paths.{next_vertex_at}

-- [separator point] {blank}
unfoldable pub direction_of : List ℕ → Option (Option Vertex)
direction_of bytes =
    if list_all is_blank bytes then Some None
    else do
      direction ← next_vertex_at bytes
      if list_all is_blank direction.1 then Some (Some direction.0) else None

-- integer separator integer separator point [separator point] {blank}, behind the `B`
unfoldable pub box_of : List ℕ → Option BoxNumbers
box_of bytes = do
  length ← integer_at bytes
  width_part ← behind_separator length.1
  width ← integer_at width_part
  centre ← next_vertex_at width.1
  direction ← direction_of centre.1
  Some (record { length = length.0; width = width.0; centre = centre.0; direction = direction })
