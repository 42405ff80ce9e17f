use Rattle.std.proofs.Common.{◌≡◌, ◌-◌, [], ◌∷◌, ◌++◌, None, refl, rules, slice_set}
use Rattle.undo_rules.specs.declared.log.Answer.TheVariants.{Refused}
use Rattle.undo_rules.specs.declared.log.BookFault.TheVariants.{Stale}
use Rattle.undo_rules.specs.declared.log.Call.TheVariants.{Commit}
use Rattle.undo_rules.specs.declared.log.Logged.{Logged}
use Rattle.undo_rules.specs.Steps.{ended_state, state_of}
use Rattle.undo_book.specs.Books.{history_of}
use Rattle.undo_book.proofs.ChangeLemmas.{unchanged_so}
use Rattle.undo_book.proofs.CommitLemmas.{LeavesStale, stale_so}
use Rattle.undo_book.proofs.SinceLemmas.{unchanged_commits_so}
use Rattle.undo_book.proofs.book.Book.end_stale.Goals as goal

-- what is left at the end
left : (c : goal.After-end_pending) → LeavesStale c.args.self.now (history_of (record c.self.inside {
  log = c.push.new.self;
  sessions = c.end_pending.new.sessions;
})) c.args.work c.args.other
left c =
    let b = history_of c.self.inside in
    let work = c.args.work in
    let log : c.push.new.self.items ≡ c.self.inside.log.items
    ++ record { session = work.id.session; call = Commit work.id work.commands; answer = Refused (Stale c.args.other) } ∷ [] =
    search rules in
    let sessions : c.end_pending.new.sessions.items ≡ slice_set c.self.inside.sessions.items (work.id.session - 1)
    (ended_state (state_of b work.id.session)) = search rules in
    stale_so b c.args.self.now c.self.view_is c.self.invariant.history work c.args.other c.requires.own c.push.new.self.items
    c.end_pending.new.sessions.items log sessions

pub invariant_of-self-2 : goal.invariant_of-self-2
invariant_of-self-2 c =
    let work = c.args.work in
    let call : Logged =
    record { session = work.id.session; call = Commit work.id work.commands; answer = Refused (Stale c.args.other) } in
    let log : c.push.new.self.items ≡ c.self.inside.log.items ++ call ∷ [] = search rules in
    let earlier : c.add_unchanged.new.self.previous_change.items ≡ c.self.inside.changes.previous_change.items
    ++ None ∷ [] = search rules in
    let last : c.add_unchanged.new.self.last.items ≡ c.self.inside.changes.last.items = search rules in
    let again : c.add_unchanged.new.self.last_undo_or_redo ≡ c.self.inside.changes.last_undo_or_redo = search rules in
    record {
      history = (left c).history;
      places = c.self.invariant.places;
      index = c.self.invariant.index;
      changes = unchanged_so call c.self.invariant.changes refl earlier last log;
      commits = unchanged_commits_so call c.self.invariant.commits again last log;
    }
