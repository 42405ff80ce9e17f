use Rattle.snap_pixels.specs.Segments.{Meets}
use Rattle.snap_slabs.proofs.ClipLemmas.{meets_back}
use Rattle.snap_slabs.proofs.clip.forward.Goals as goal

pub returns-clause-same : goal.returns-clause-same
returns-clause-same c = λ p met.
    meets_back c.a-a.result c.b-b.result p (coe 1 0 (i. Meets (c.a-a.ensures i) (c.b-b.ensures i) p) met)
