use Rattle.std.proofs.Common.{◌≡◌, length}
use Rattle.cif_grammar.specs.Cutting.{cut_rest}
use Rattle.cif_names.specs.Names.{names_from, names_of}
use Rattle.cif_names.proofs.names.Names.of.Given as goal

-- the commands that are left lead to the same
abbrev pub invariant-loop-piece : goal.invariant-loop-piece
invariant-loop-piece l = names_from l.names l.place (cut_rest (length l.text) l.rest).pieces ≡ names_of l.text

abbrev pub decreases-loop-piece : goal.decreases-loop-piece
decreases-loop-piece l = length l.rest
