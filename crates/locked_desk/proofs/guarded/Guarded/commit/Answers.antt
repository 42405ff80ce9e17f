use Rattle.std.proofs.Common.{rules, ◌≡◌, ◌≢◌, ◌∙◌, subst, sym, true}
use Rattle.undo_rules.specs.declared.log.BookFault.TheVariants.{Foreign}
use Rattle.undo_rules.specs.Steps.{is_log_full}
use Rattle.undo_book.specs.declared.commit.CommitRefusal.{CommitRefusal}
use Rattle.undo_book.specs.Calls.{refused}
use Rattle.desk_rules.specs.Guards.{Fits, Guard, IsGuard}
use Rattle.desk_rules.specs.Refusals.{IsRefused}
use Rattle.desk_rules.proofs.GuardLemmas.{looked}
use Rattle.locked_desk.specs.Desks.{commit_fault}
use Rattle.locked_desk.proofs.RefusedLemmas.{foreign_base, other_refused, own_refused}
use Rattle.locked_desk.proofs.guarded.Guarded.commit.Goals as goal

pub returns-then-id-number-clause-told : goal.returns-then-id-number-clause-told
returns-then-id-number-clause-told g c =
    let was : Guard = record {
      sessions = c.self.inside.sessions;
      book = c.self.inside.book;
      counts = c.self.inside.counts.items;
      total = c.self.inside.calls.total;
    } in
    let look = looked was c.args.session c.args.own.now (search rules) in
    let fits : Fits c.args.origin.now was = search rules in
    let base : was.book.base ≡ c.args.origin.now.base = search rules in
    let other : c.args.work.id.session ≢ c.args.session = search rules in
    other_refused c.args.origin.now was c.args.session c.args.own.now c.args.work _ c.refused_work.result c.refused_work.ensures
    c.self.invariant.0 fits look base other (search rules)

pub returns-in-Ok-told-clause-told : goal.returns-in-Ok-told-clause-told
returns-in-Ok-told-clause-told g c =
    let guard : Guard = c.args.self.now in
    let kept : IsGuard guard = subst (λ (h : Guard). IsGuard h) c.self.view_is c.self.invariant.0 in
    let look = looked guard c.args.session c.args.own.now (search rules) in
    let fits : Fits c.args.origin.now guard = search rules in
    let full : is_log_full guard.book ≡ true → guard.book.base ≡ c.args.origin.now.base = search rules in
    let its : c.args.work.id.session ≡ c.args.session = search rules in
    let given : CommitRefusal = c.in-Err.refusal in
    let back : given ≡ refused given.fault c.args.work = search rules in
    let foreign : given.fault ≡ Foreign → guard.book.base ≡ c.args.origin.now.base = λ is. sym c.commit_own-result.ensures.base
    ∙ foreign_base c.args.work given c.may_tell-may_tell.result back c.in-Ok-told.ensures.same.1 c.may_tell-may_tell.ensures.own is in
    subst (λ (r : CommitRefusal). IsRefused c.args.origin.now (record { session = c.args.session; own = c.args.own.now })
    (commit_fault c.args.session c.args.work) r.fault) (sym c.in-Ok-told.ensures.same.0)
    (own_refused c.args.origin.now guard c.args.session c.args.own.now c.args.work c.commit_own-result.result.0 given c.in-Err.is
    kept fits look its c.commit_own-result.ensures.step full foreign)
