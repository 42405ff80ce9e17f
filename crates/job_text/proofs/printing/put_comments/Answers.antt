use Rattle.std.proofs.Common.{◌≡◌, ℕ, List, [], Option, None, Some, Result, Ok, Err, OnErr, OnOk, append-nil}
use Rattle.byte_io.specs.Buffered.{Buffered}
use Rattle.byte_io.specs.Device.{WroteAll, WrotePrefix}
use Rattle.byte_io.proofs.BufferedLemmas.{Buffered-failed, Buffered-is, Buffered-then, Buffered-written}
use Rattle.job_text.proofs.printing.put_comments.Goals as goal

module _ {S E : Type 0} {written : S → Option (List ℕ)} {failures : S → ℕ} {a b : S} {h k : Option (List ℕ)} {xs : List ℕ} where
  -- where the flush succeeded, all was written
  all : (r : Result Unit E) → h ≡ Some [] → OnOk r (k ≡ Some []) → Buffered written failures a h b k xs
      → OnOk r (WroteAll written failures a b xs)
  all (Ok u) empty done p = Buffered-written (rw (empty, done) at p)
  all (Err e) empty done p = tt

  -- where it failed, so did the device, and what was held back is lost
  cut : (r : Result Unit E) → h ≡ Some [] → OnErr r (k ≡ None) → Buffered written failures a h b k xs
      → OnErr r (WrotePrefix written failures a b xs)
  cut (Ok u) empty failed p = tt
  cut (Err e) empty failed p = Buffered-failed (rw (empty, failed) at p)

pub returns-clause-ok : goal.returns-clause-ok
returns-clause-ok g c =
    all c.flush.result c.new-buffer.ensures c.flush.ensures.ok
    (Buffered-is (Buffered-then (Buffered-then c.put_replies.ensures c.put_order.ensures) c.flush.ensures.put) (append-nil _))

pub returns-clause-fault : goal.returns-clause-fault
returns-clause-fault g c =
    cut c.flush.result c.new-buffer.ensures c.flush.ensures.err
    (Buffered-is (Buffered-then (Buffered-then c.put_replies.ensures c.put_order.ensures) c.flush.ensures.put) (append-nil _))
