use Rattle.std.proofs.Common.{◌<◌, ◌≤◌, ◌∙◌, List, ap, ltb, ltb-false, ltb-true, rules, subst, sym}
use Rattle.std.specs.List.Sorted.{IsNonDecreasingBy, IsPartitionPoint}
use Rattle.std.proofs.lemmas.List.Sorted.{IsPartitionPoint-from_clause, IsPartitionedBy-ltb}
use Rattle.undo_rules.specs.Books.{History}
use Rattle.undo_rules.specs.Links.{Entry}
use Rattle.undo_book.proofs.SinceLemmas.{rising_so}
use Rattle.undo_book.proofs.book.Book.committed_before.Goals as goal

pub returns : goal.returns
returns c =
    let b = c.self.inside in
    let since = c.args.since in
    let rising = subst (λ (es : List Entry). IsNonDecreasingBy (λ (e : Entry). e.place) es) (sym c.deref.ensures.value)
    (rising_so b.changes.last_undo_or_redo b.changes.last.items b.log.items b.entries.items c.self.invariant.commits) in
    let parted = IsPartitionedBy-ltb (λ (e : Entry). e.place) c.deref.result.now since rising in
    let point = IsPartitionPoint-from_clause (λ (e : Entry). ltb e.place since) _ _ c.partition_point.ensures.partitioned parted
    (λ a r q k. search rules) in
    subst
    (λ (es : List Entry). IsPartitionPoint (λ (e : Entry). e.place < since) (λ (e : Entry). since ≤ e.place) es c.partition_point.result)
    (c.deref.ensures.value ∙ ap (λ (h : History). h.entries) c.self.view_is)
    (λ k d low high. ltb-true _ _ (point.0 k d low high), λ k d low high. ltb-false _ _ (point.1 k d low high))
