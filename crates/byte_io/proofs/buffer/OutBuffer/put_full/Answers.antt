-- Bytes that don't fit an empty buffer go to the device at once.
use Rattle.std.proofs.Common.{◌≡◌, ℕ, List, [], Option, None, Some, Bool, true}
use Rattle.std.proofs.Common.{false, cond, Result, Ok, Err, OnOk, OnErr, append-nil, ◌∙◌, rules}
use Rattle.std.specs.Prelude.{is_err}
use Rattle.byte_io.specs.Buffered.{Buffered}
use Rattle.byte_io.specs.Device.{WroteAll, WrotePrefix}
use Rattle.byte_io.proofs.BufferedLemmas.{Buffered-then}
use Rattle.byte_io.proofs.buffer.OutBuffer.put_full.Goals as goal

module _ {S E : Type 0} (written : S → Option (List ℕ)) (failures : S → ℕ) (a b c : S) (h : Option (List ℕ)) (bytes : List ℕ) where
  past_the_buffer : (r : Result Unit E) → OnOk r (WroteAll written failures b c bytes) → OnErr r (WrotePrefix written failures b c bytes)
      → Buffered written failures b (Some []) c (cond (is_err r) None (Some [])) bytes
  past_the_buffer (Ok u) all fault = record { put = (bytes, all, append-nil bytes) }
  past_the_buffer (Err e) all fault = record { put = fault }

  direct : (r : Result Unit E) (failed : Bool) (k held : Option (List ℕ)) → OnOk r (WroteAll written failures b c bytes)
      → OnErr r (WrotePrefix written failures b c bytes) → failed ≡ is_err r → k ≡ Some [] → held ≡ Some []
      → Buffered written failures a h b k []
      → Buffered written failures a h c (cond failed None held) bytes
  direct r failed k held all fault e emptied empty flushed =
      rw (e, empty) (Buffered-then (rw emptied at flushed) (past_the_buffer r all fault))

-- a buffer that holds nothing and hasn't failed
held_where_empty : (failed : Bool) (items : List ℕ) → cond {A = Option (List ℕ)} failed None (Some items) ≡ Some [] → Some items ≡ Some []
held_where_empty true items e = absurd cc
held_where_empty false items e = e

pub returns-then-not-hold : goal.returns-then-not-hold
returns-then-not-hold g c =
    let items = c.self.inside.held.items in
    let emptied : c.flush.new.self ≡ Some [] = search rules in
    let still_empty : c.hold.new.self ≡ Some [] = search rules in
    direct g.O.Out.written g.O.Out.failures c.args.out.now c.flush.new.out c.put_all.new.out c.args.self.now c.args.bytes.now
    c.put_all.result c.is_err-self-inside.result c.flush.new.self (Some items) c.put_all.ensures.ok c.put_all.ensures.fault
    c.is_err-self-inside.ensures.value emptied
    (held_where_empty c.self.inside.failed items (c.self.view_is ∙ still_empty)) c.flush.ensures.put
