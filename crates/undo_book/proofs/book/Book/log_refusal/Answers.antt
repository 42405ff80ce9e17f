use Rattle.std.proofs.Common.{◌≡◌, List, [], ◌∷◌, ◌++◌, None, refl, rules, subst, sym}
use Rattle.undo_rules.specs.declared.log.Answer.TheVariants.{Refused}
use Rattle.undo_rules.specs.declared.log.Logged.{Logged}
use Rattle.undo_rules.specs.Books.{IsHistory}
use Rattle.undo_rules.proofs.OpenLaws.{refused_keeps}
use Rattle.undo_book.specs.Books.{history_of}
use Rattle.undo_book.proofs.ChangeLemmas.{unchanged_so}
use Rattle.undo_book.proofs.SinceLemmas.{unchanged_commits_so}
use Rattle.undo_book.proofs.book.Book.log_refusal.Goals as goal

pub invariant_of-self-2 : goal.invariant_of-self-2
invariant_of-self-2 c =
    let call : Logged = record { session = c.args.session; call = c.args.call; answer = Refused c.args.fault } in
    let log : c.push.new.self.items ≡ c.self.inside.log.items ++ call ∷ [] = search rules in
    let earlier : c.add_unchanged.new.self.previous_change.items ≡ c.self.inside.changes.previous_change.items
    ++ None ∷ [] = search rules in
    let last : c.add_unchanged.new.self.last.items ≡ c.self.inside.changes.last.items = search rules in
    let again : c.add_unchanged.new.self.last_undo_or_redo ≡ c.self.inside.changes.last_undo_or_redo = search rules in
    let WithLog : List Logged → Type 0 = λ xs. IsHistory (record (history_of c.self.inside) { log = xs }) in
    record {
      history = subst WithLog (sym log)
          (refused_keeps (history_of c.self.inside) c.self.invariant.history c.args.session c.args.call c.args.fault);
      places = c.self.invariant.places;
      index = c.self.invariant.index;
      changes = unchanged_so call c.self.invariant.changes refl earlier last log;
      commits = unchanged_commits_so call c.self.invariant.commits again last log;
    }
