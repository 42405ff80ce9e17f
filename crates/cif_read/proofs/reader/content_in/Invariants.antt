use Rattle.std.proofs.Common.{◌≡◌, ◌+◌, ◌≤◌, length}
use Rattle.cif_read.specs.Content.{content_size}
use Rattle.cif_read.specs.Kept.{IsKept}
use Rattle.cif_read.specs.Meaning.{content_in}
use Rattle.cif_read.proofs.MeaningLemmas.{rest_means}
use Rattle.cif_read.proofs.reader.content_in.Given as goal

abbrev pub invariant-loop-alloc : goal.invariant-loop-alloc
invariant-loop-alloc l = record {
  means : rest_means l.content (length l.text) l.rest ≡ content_in l.text;
  few : content_size l.content + length l.rest ≤ length l.text;
  kept : IsKept l.content;
}

abbrev pub decreases-loop-alloc : goal.decreases-loop-alloc
decreases-loop-alloc l = length l.rest
