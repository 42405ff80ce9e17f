use Rattle.std.proofs.Common.{◌≡◌, ◌+◌, length}
use Rattle.cif_grammar.specs.Paths.{path_of, vertices_from}
use Rattle.cif_grammar.proofs.paths.read_path.Given as goal

abbrev pub invariant-loop-rest : goal.invariant-loop-rest
invariant-loop-rest l = vertices_from (length l.rest + 1) l.vertices.items l.rest ≡ path_of l.bytes

abbrev pub decreases-loop-rest : goal.decreases-loop-rest
decreases-loop-rest l = length l.rest
