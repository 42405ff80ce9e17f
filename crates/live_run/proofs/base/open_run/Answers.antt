use Rattle.std.proofs.Common.{rules, ◌≡◌, Err, subst, sym}
use Rattle.live_run.specs.Live.{run_of}
use Rattle.live_run.specs.Course.{OpensTo}
use Rattle.live_run.proofs.BaseLemmas.{opens, refuses}
use Rattle.live_run.proofs.base.open_run.Goals as goal

pub returns-in_err-base : goal.returns-in_err-base
returns-in_err-base c =
    let failed : c.from_residual.result ≡ Err c.in_err-base.field-0.0 = search rules in
    subst (OpensTo c.args.showing c.args.head.now c.args.number) (sym failed)
    (λ text same. refuses c.args.showing c.args.head.now c.args.number c.in_err-base.field-0.0 text same c.in_err-base.ensures)

pub returns : goal.returns
returns c =
    opens c.args.showing c.args.head.now c.args.number c.in_ok-base.base c.in_ok-base.view (run_of c.in_ok-new.field-0)
    c.in_ok-base.ensures c.in_ok-new.ensures
