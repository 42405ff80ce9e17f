use Rattle.std.proofs.Common.{◌≡◌, ◌∙◌, ◌++◌, ℕ, List, Err, ap, rules, subst, sym}
use Rattle.cif_write.specs.declared.writer.WriteFault.TheVariants.{Device}
use Rattle.live_run.specs.Course.{PutsClosing}
use Rattle.live_run.specs.Live.{run_of}
use Rattle.live_run.specs.Said.{shown_text}
use Rattle.live_run.proofs.SaidLemmas.{closing_by, noted_by}
use Rattle.live_run.proofs.course.put_closing.Goals as goal

-- the device failed; or all was written
pub returns-in_err-put_shown : goal.returns-in_err-put_shown
returns-in_err-put_shown g c =
    let failed : c.from_residual-in_err-put_shown.result ≡ Err Device = search rules in
    let words = c.as_slice.result.now ++ shown_text c.in_ok-bytes.text in
    subst (PutsClosing g.O.Out.written g.O.Out.failures c.args.out.now c.put_shown.new.out (run_of c.args.live)) (sym failed) (
      words,
      closing_by (run_of c.args.live) c.in_ok-order.view c.in_ok-order.layout c.in_ok-layout.field-0.layout c.in_ok-order.order.items words
          c.in_ok-order.ensures.view c.in_ok-order.ensures.layout c.in_ok-order.ensures.order
          c.in_ok-layout.ensures.layout
          (ap (λ (l : List ℕ). l ++ shown_text c.in_ok-bytes.text) c.as_slice.ensures.value ∙ c.in_ok-bytes.ensures),
      c.in_err-put_shown.ensures.fault,
    )

pub returns : goal.returns
returns g c =
    let words = c.as_slice.result.now ++ shown_text c.in_ok-bytes.text in (
      words,
      noted_by (run_of c.args.live) c.in_ok-order.view c.in_ok-order.layout c.in_ok-layout.field-0.layout
          (record { staying = c.in_ok-layout.field-0.staying; first = c.in_ok-layout.field-0.first; left_out = c.left_out.result })
          c.in_ok-order.order.items
          words c.in_ok-order.ensures.view c.in_ok-order.ensures.layout c.in_ok-order.ensures.order
          c.in_ok-layout.ensures.noted c.left_out.ensures
          (ap (λ (l : List ℕ). l ++ shown_text c.in_ok-bytes.text) c.as_slice.ensures.value ∙ c.in_ok-bytes.ensures),
      c.in_ok-put_shown.ensures.ok,
    )
