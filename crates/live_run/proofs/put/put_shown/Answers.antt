-- the bytes were cut; or they were written, and the layout was cut
use Rattle.std.proofs.Common.{rules, ◌≡◌, ◌++◌, ℕ, List, Result, Ok, Err, ap, subst, sym}
use Rattle.std.specs.Prelude.{OnErr}
use Rattle.byte_io.specs.Device.{WrotePrefix}
use Rattle.cif_write.specs.Text.{text}
use Rattle.byte_io.proofs.BufferedLemmas.{WrotePrefix-behind, WrotePrefix-more}
use Rattle.live_run.specs.Said.{shown_text}
use Rattle.live_run.proofs.put.put_shown.Goals as goal

on_err : {A E P Q : Type 0} (r : Result A E) → (P → Q) → OnErr r P → OnErr r Q
on_err (Ok x) f p = p
on_err (Err e) f p = f p

pub returns-in_err-put_all-clause-fault : goal.returns-in_err-put_all-clause-fault
returns-in_err-put_all-clause-fault g c =
    let failed : c.from_residual.result ≡ Err c.in_err-put_all.field-0.0 = search rules in
    rw failed (WrotePrefix-more (shown_text c.args.layout) c.in_err-put_all.ensures.fault)

pub returns-in-Some-clause-fault : goal.returns-in-Some-clause-fault
returns-in-Some-clause-fault g c =
    let is : shown_text c.args.layout ≡ text c.in-Some.layout = ap shown_text c.in-Some.is in
    on_err c.put.result
    (λ part. subst (λ (l : List ℕ). WrotePrefix g.O.Out.written g.O.Out.failures c.args.out.now c.put.new.out (c.args.bytes.now ++ l))
    (sym is) (WrotePrefix-behind c.in_ok-put_all.ensures.ok part)) c.put.ensures.fault
