use Rattle.std.proofs.Common.{◌≡◌, ℕ, List, [], Option, None, Some, Result, Ok, Err, OnErr, ap, append-nil, ◌∙◌}
use Rattle.byte_io.specs.Buffered.{Buffered}
use Rattle.byte_io.specs.Device.{WrotePrefix}
use Rattle.byte_io.proofs.BufferedLemmas.{Buffered-failed, Buffered-is, Buffered-then}
use Rattle.cif_write.specs.Boxes.{text_as}
use Rattle.cif_write.proofs.writer.Prepared.put_as.Goals as goal

-- where the flush failed, so did the device, and what was held back is lost
cut : {S E : Type 0} {written : S → Option (List ℕ)} {failures : S → ℕ} {a b : S} {h k : Option (List ℕ)} {xs : List ℕ} (r : Result Unit E)
    → h ≡ Some [] → OnErr r (k ≡ None) → Buffered written failures a h b k xs → OnErr r (WrotePrefix written failures a b xs)
cut (Ok u) empty failed p = tt
cut (Err e) empty failed p = Buffered-failed (rw (empty, failed) at p)

pub returns-clause-fault : goal.returns-clause-fault
returns-clause-fault g c =
    cut c.flush.result c.new-buffer.ensures c.flush.ensures.err
    (Buffered-is (Buffered-then c.put_text.ensures c.flush.ensures.put) (append-nil _ ∙ ap (text_as c.args.rectangles) c.self.view_is))
