use Rattle.cif_names.proofs.PieceLemmas.{names_start}
use Rattle.cif_names.proofs.names.Names.of.Goals as goal

pub loop-piece-init : goal.loop-piece-init
loop-piece-init c = rw (c.skip-rest.ensures, c.nothing-names.ensures, c.outside-place.ensures) (names_start c.args.text.now)
