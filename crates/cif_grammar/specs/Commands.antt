-- The commands of a text.
-- Source: Caltech Intermediate Form 2.0, its formal grammar. Wires, round flashes and deletions of definitions are none here:
-- that is this project's own.
use Rattle.std.specs.Prelude.{ℕ, List}
use Rattle.cif_grammar.specs.declared.boxes.BoxNumbers.{BoxNumbers}
use Rattle.cif_grammar.specs.declared.calls.Change.{Change}
use Rattle.cif_grammar.specs.declared.definitions.Definition.{Definition}
use Rattle.cif_grammar.specs.declared.paths.Vertex.{Vertex}

pub data Command : Type 0 where
  -- a polygon with these vertices
  Polygon : List Vertex → Command
  -- a box
  Box : BoxNumbers → Command
  -- what follows is drawn on the layer of this name, of any length
  Layer : List ℕ → Command
  -- the definition of a symbol begins
  Start : Definition → Command
  -- the definition ends
  Finish : Command
  -- the symbol of this number, changed so, the first change first
  Call : ℕ → List Change → Command
  -- what a user may write between a digit and the semicolon
  Extension : Command
  Comment : Command
