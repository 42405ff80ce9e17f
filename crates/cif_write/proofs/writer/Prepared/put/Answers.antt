-- The text as it is written without boxes.
use Rattle.std.proofs.Common.{List, ℕ, subst, OnOk, OnErr}
use Rattle.byte_io.specs.Device.{WroteAll, WrotePrefix}
use Rattle.cif_write.proofs.BoxLemmas.{text_as_paths}
use Rattle.cif_write.proofs.writer.Prepared.put.Goals as goal

pub returns-clause-ok : goal.returns-clause-ok
returns-clause-ok g c =
    subst (λ (t : List ℕ). OnOk c.put_as.result (WroteAll g.O.Out.written g.O.Out.failures c.args.out.now c.put_as.new.out t))
    (text_as_paths c.args.self.now) c.put_as.ensures.ok

pub returns-clause-fault : goal.returns-clause-fault
returns-clause-fault g c =
    subst (λ (t : List ℕ). OnErr c.put_as.result (WrotePrefix g.O.Out.written g.O.Out.failures c.args.out.now c.put_as.new.out t))
    (text_as_paths c.args.self.now) c.put_as.ensures.fault
