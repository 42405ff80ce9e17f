use Rattle.snap_pixels.proofs.PartLemmas.{all_found}
use Rattle.snap_pixels.proofs.search.crossings.Goals as goal

pub returns : goal.returns
returns c = λ p. all_found c.new-found.result c.add_parts.new.parts p c.new-found.ensures (c.in_ok-add_parts.ensures p)
