use Rattle.std.proofs.Common.{◌≡◌, ◌+◌, ◌-◌, [], ◌∷◌, ◌++◌, None, Some, length, refl, rules, slice_set, subst, sym}
use Rattle.std.specs.Vec.{with_item}
use Rattle.undo_rules.specs.declared.log.Answer.TheVariants.{Opened}
use Rattle.undo_rules.specs.declared.log.Call.TheVariants.{Open}
use Rattle.undo_rules.specs.declared.log.Logged.{Logged}
use Rattle.undo_rules.specs.Books.{History, IsHistory, SessionState}
use Rattle.undo_rules.specs.Steps.{after_open, state_of}
use Rattle.undo_rules.proofs.OpenLaws.{open_keeps}
use Rattle.undo_book.specs.Books.{history_of}
use Rattle.undo_book.proofs.ChangeLemmas.{unchanged_so}
use Rattle.undo_book.proofs.SinceLemmas.{unchanged_commits_so}
use Rattle.undo_book.proofs.book.Book.open_next.Goals as goal

pub invariant_of-self-2 : goal.invariant_of-self-2
invariant_of-self-2 c =
    let now = c.args.self.now in
    let s = c.args.session in
    let is : IsHistory now = subst (λ (h : History). IsHistory h) c.self.view_is c.self.invariant.history in
    let number = (state_of now s).opens + 1 in
    let new : SessionState = record { opens = number; pending = Some (record { place = length now.log; snapshot = now.layout }) } in
    let made : SessionState = record {
      opens = c.opens-txn.result + 1;
      pending = Some (record { place = c.len-place.result; snapshot = c.in_ok-snapshot.snapshot });
    } in
    let call : Logged = record { session = s; call = Open; answer = Opened number } in
    let log : c.push.new.self.items ≡ now.log ++ call ∷ [] = search rules in
    let logged : c.push.new.self.items ≡ c.self.inside.log.items ++ call ∷ [] = search rules in
    let earlier : c.add_unchanged.new.self.previous_change.items ≡ c.self.inside.changes.previous_change.items
    ++ None ∷ [] = search rules in
    let last : c.add_unchanged.new.self.last.items ≡ c.self.inside.changes.last.items = search rules in
    let again : c.add_unchanged.new.self.last_undo_or_redo ≡ c.self.inside.changes.last_undo_or_redo = search rules in
    let kept = with_item c.self.inside.sessions c.index.result made in
    let sessions : kept.items ≡ slice_set now.sessions (s - 1) new = search rules in
    let same : record (history_of c.self.inside) { log = c.push.new.self.items; sessions = kept.items } ≡ after_open now s =
    λ i. record (c.self.view_is i) { log = log i; sessions = sessions i } in
    record {
      history = subst (λ (h : History). IsHistory h) (sym same)
          (open_keeps now is s c.number-session.ensures.low c.number-session.ensures.high);
      places = c.self.invariant.places;
      index = c.self.invariant.index;
      changes = unchanged_so call c.self.invariant.changes refl earlier last logged;
      commits = unchanged_commits_so call c.self.invariant.commits again last logged;
    }
