use Rattle.std.proofs.Common.{◌≡◌, ◌∙◌, ◌-◌, [], ◌∷◌, ◌++◌, None, ap, length, refl, rules, slice_set, subst, sym}
use Rattle.txn_commands.specs.Records.{applied}
use Rattle.undo_rules.specs.declared.log.Answer.TheVariants.{Committed}
use Rattle.undo_rules.specs.declared.log.Call.TheVariants.{Commit}
use Rattle.undo_rules.specs.declared.log.Logged.{Logged}
use Rattle.undo_rules.specs.Books.{History}
use Rattle.undo_rules.specs.Steps.{ended_state, entered, state_of}
use Rattle.txn_marks.specs.Homes.{AreMetBy}
use Rattle.undo_index.specs.Listed.{AreAdded, IsNew}
use Rattle.undo_book.specs.Books.{history_of}
use Rattle.undo_book.specs.Places.{IndexesByName, IsPutUnder}
use Rattle.undo_book.proofs.ChangeLemmas.{commit_so}
use Rattle.undo_book.proofs.CommitLemmas.{LeavesCommitted, committed_so}
use Rattle.undo_book.specs.Indexed.{AreIndexed}
use Rattle.undo_book.proofs.IndexedLemmas.{commit_indexed, new_here}
use Rattle.undo_book.proofs.SameLemmas.{same_book}
use Rattle.undo_book.proofs.IndexLemmas.{places_pushed}
use Rattle.undo_book.proofs.SinceLemmas.{commit_commits_so}
use Rattle.undo_book.proofs.book.Book.append.Goals as goal

-- the transaction as it is entered
entry : (c : goal.Joined-marks-4) → c.push.new.self.items
    ≡ c.self.inside.entries.items ++ entered (history_of c.self.inside) c.args.work ∷ []
entry c = search rules

-- what is left at the end
left : (c : goal.Joined-marks-4) → LeavesCommitted c.args.self.now (history_of (record c.self.inside {
  layout = c.replace-before.new.dest;
  log = c.push-2.new.self;
  entries = c.push.new.self;
  sessions = c.end_pending.new.sessions;
})) c.args.work
left c =
    let b = history_of c.self.inside in
    let work = c.args.work in
    let can = committed_so b c.args.self.now c.self.view_is c.self.invariant.history work c.id-txn.ensures.transaction
    (search rules) c.requires.own c.requires.fresh in
    let now : c.replace-before.new.dest ≡ c.in-Ok.prepared.layout = search rules in
    let layout : c.replace-before.new.dest ≡ applied c.self.inside.layout work.writes =
    now ∙ c.in-Ok.ensures.layout ∙ ap (λ (h : History). applied h.layout work.writes) (sym c.self.view_is) in
    let log : c.push-2.new.self.items ≡ c.self.inside.log.items
    ++ record { session = work.id.session; call = Commit work.id work.commands; answer = Committed } ∷ [] = search rules in
    let sessions : c.end_pending.new.sessions.items ≡ slice_set c.self.inside.sessions.items (work.id.session - 1)
    (ended_state (state_of b work.id.session)) = search rules in
    can.left c.replace-before.new.dest c.push-2.new.self.items c.push.new.self.items c.end_pending.new.sessions.items layout log (entry c)
    sessions

-- who wrote and touched what
indexed : (c : goal.Joined-marks-4) →
    AreIndexed c.list_at.new.index.writers c.list_at.new.index.readers c.push.new.self.items
indexed c =
    let was = c.self.inside.index in
    let work = c.args.work in
    let marks = c.in-Ok.prepared.marks in
    let last : c.len-index.result ≡ length c.self.inside.entries.items = search rules in
    let added : AreAdded was.writers work.id marks.met c.len-index.result c.list_at.new.index.writers = search rules in
    let read : AreAdded was.readers work.id work.footprint c.len-index.result c.list_at.new.index.readers = search rules in
    let are : AreMetBy work.writes marks.met = c.in-Ok.ensures.marks.met in
    commit_indexed was.writers was.readers c.list_at.new.index.writers c.list_at.new.index.readers
    c.self.inside.entries.items c.push.new.self.items (entered (history_of c.self.inside) work) marks.met c.len-index.result
    c.self.invariant.index added read are refl last (entry c)

pub invariant_of-self-2 : goal.invariant_of-self-2
invariant_of-self-2 c =
    let b = history_of c.self.inside in
    let work = c.args.work in
    let can = committed_so b c.args.self.now c.self.view_is c.self.invariant.history work c.id-txn.ensures.transaction
    (search rules) c.requires.own c.requires.fresh in
    let call : Logged = record { session = work.id.session; call = Commit work.id work.commands; answer = Committed } in
    let log : c.push-2.new.self.items ≡ c.self.inside.log.items ++ call ∷ [] = search rules in
    let earlier : c.add_commit.new.self.previous_change.items ≡ c.self.inside.changes.previous_change.items ++ None ∷ [] = search rules in
    let changed : c.add_commit.new.self.last.items ≡ c.self.inside.changes.last.items ++ length c.self.inside.log.items ∷ [] =
    search rules in
    let again : c.add_commit.new.self.last_undo_or_redo ≡ c.self.inside.changes.last_undo_or_redo = search rules in
    let last : c.len-index.result ≡ length c.self.inside.entries.items = search rules in
    let put : IsPutUnder c.id-txn.result c.len-index.result c.self.inside.places.entries c.list_at.new.places.entries =
    search rules in
    record {
      history = (left c).history;
      places = subst (IndexesByName c.list_at.new.places.entries) (sym (entry c))
          (places_pushed c.self.inside.places.entries c.list_at.new.places.entries c.self.inside.entries.items (entered b work)
          c.id-txn.result c.len-index.result (sym c.id-txn.ensures.value) last can.apart c.self.invariant.places put);
      index = indexed c;
      changes = commit_so call (entered b work) c.self.invariant.changes refl can.apart earlier changed log (entry c);
      commits = commit_commits_so call (entered b work) c.self.invariant.commits c.self.invariant.changes.long refl refl again changed log
          (entry c);
    }

pub returns-clause-ok : goal.returns-clause-ok
returns-clause-ok c = (left c).is

pub returns-clause-ran : goal.returns-clause-ran
returns-clause-ran c = (left c).ran

pub invariant_of-self-then-is_err-4 : goal.invariant_of-self-then-is_err-4
invariant_of-self-then-is_err-4 c =
    let was = c.self.inside.index in
    let last : c.len-index.result ≡ length c.self.inside.entries.items = search rules in
    let fresh = new_here was.writers was.readers c.self.inside.entries.items c.len-index.result c.self.invariant.index last in
    let writers : IsNew was.writers c.len-index.result → c.list_at.new.index.writers ≡ was.writers = search rules in
    let readers : IsNew was.readers c.len-index.result → c.list_at.new.index.readers ≡ was.readers = search rules in
    let places : c.list_at.new.places.entries ≡ c.self.inside.places.entries = search rules in
    same_book c.self.inside _ (search rules) places (search rules) (search rules) (search rules) (writers fresh.0) (readers fresh.1)
    c.self.invariant
