use Rattle.std.proofs.Common.{◌≡◌, ◌≤◌, ◌∙◌, false, rules, subst, sym}
use Rattle.undo_rules.specs.Books.{History}
use Rattle.undo_book.specs.Changes.{AreChanges, AreCommits}
use Rattle.undo_book.proofs.SinceLemmas.{none_since}
use Rattle.undo_book.proofs.book.Book.stale_by.Goals as goal

pub returns-then-not-is_written_from : goal.returns-then-not-is_written_from
returns-then-not-is_written_from c =
    let kept = c.self.inside.changes in
    let now = c.args.self.now in
    let changes = subst (λ (h : History). AreChanges kept.previous_change.items kept.last.items h.log h.entries) c.self.view_is
    c.self.invariant.changes in
    let commits = subst (λ (h : History). AreCommits kept.last_undo_or_redo kept.last.items h.log h.entries) c.self.view_is
    c.self.invariant.commits in
    let before : kept.last_undo_or_redo ≤ c.args.since = search rules in
    let none : c.is_written_from.result ≡ false = search rules in
    sym (none_since kept.last_undo_or_redo kept.previous_change.items kept.last.items now.log now.entries c.args.footprint.now c.args.since
    c.committed_before-near.result changes commits before c.committed_before-near.ensures (sym c.is_written_from.ensures ∙ none))
