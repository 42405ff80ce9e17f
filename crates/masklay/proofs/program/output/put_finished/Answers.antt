use Rattle.std.proofs.Common.{◌≡◌, ◌∙◌, ℕ, List, ◌++◌, inr, refl, subst, sym}
use Rattle.byte_io.proofs.BufferedLemmas.{WrotePrefix-behind, WrotePrefix-more}
use Rattle.byte_io.specs.Device.{WrotePrefix}
use Rattle.job_text.specs.Order.{order_text}
use Rattle.job_text.specs.Replies.{replies_text}
use Rattle.masklay.proofs.OutputLemmas.{at_err, at_ok}
use Rattle.live_run.specs.Shown.{layout_text}
use Rattle.masklay.proofs.program.output.put_finished.Goals as goal
use Rattle.masklay.proofs.program.output.put_finished.Goals.{then-is_err-via-else-is_err+then-is_err-2, then-is_err-via-then-is_err}

-- the comments were cut, or they were written and the layout was cut
pub returns-then-is_err : goal.returns-then-is_err
returns-then-is_err g c =
    let layout = layout_text c.args.boxed c.args.layout.now in
    let whole = replies_text c.args.finished.now.replies ++ order_text c.args.finished.now.order in
    let so : g.row.O.Denot → Type 0 = λ out. WrotePrefix g.O.Out.written g.O.Out.failures c.args.out.now out (whole ++ layout) in
    let same : replies_text c.as_slice-replies.result.now ++ order_text c.as_slice-order.result.now ≡ whole =
    (λ i. replies_text (c.as_slice-replies.ensures i) ++ order_text (c.as_slice-order.ensures i)) in
    elim c.then-is_err.branch [
      | then-is_err-via-then-is_err w ↦
          let cut : List ℕ → Type 0 =
          λ xs. WrotePrefix g.O.Out.written g.O.Out.failures c.args.out.now c.put_comments.new.out (xs ++ layout) in
          inr (
            refl,
            subst so (sym w.out-is) (subst cut same (WrotePrefix-more layout
                (at_err c.put_comments.result (sym c.is_err.ensures.value ∙ w.if-is_err.true) c.put_comments.ensures.fault))),
          )
      | then-is_err-via-else-is_err+then-is_err-2 w ↦
          let cut : List ℕ → Type 0 =
          λ xs. WrotePrefix g.O.Out.written g.O.Out.failures c.args.out.now w.put_layout.new.out (xs ++ layout) in
          inr (
            refl,
            subst so (sym w.out-is) (subst cut same (WrotePrefix-behind
                (at_ok c.put_comments.result (sym c.is_err.ensures.value ∙ w.if-is_err.false) c.put_comments.ensures.ok)
                (at_err w.put_layout.result (sym w.is_err-else-is_err.ensures.value ∙ w.if-is_err-2.true) w.put_layout.ensures.fault))),
          )
    ]
