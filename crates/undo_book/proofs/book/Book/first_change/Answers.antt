use Rattle.std.proofs.Common.{◌≡◌, ◌<◌, ◌∙◌, arith, false, length, rules, subst, sym, true}
use Rattle.std.specs.Vec.{vec_len}
use Rattle.undo_rules.specs.Books.{History}
use Rattle.undo_book.specs.Books.{history_of}
use Rattle.undo_book.proofs.ChangeLemmas.{changed_read, first_kept, kept_long}
use Rattle.undo_book.proofs.book.Book.first_change.Goals as goal

-- what is kept of each logged call is there
pub index-requires : goal.index-requires
index-requires c =
    let b = c.self.inside in
    let within : c.args.place < length b.log.items = subst (λ (h : History). c.args.place < length h.log) (sym c.self.view_is) c.requires in
    let len : vec_len b.changes.previous_change ≡ length b.changes.previous_change.items = search rules in
    let long = kept_long b.changes.previous_change.items b.changes.last.items b.log.items b.entries.items c.self.invariant.changes in
    omega (arith, within, len, long)

pub returns-then-is_before : goal.returns-then-is_before
returns-then-is_before c =
    let b = c.self.inside in
    c.changed_in.ensures
    ∙ changed_read (history_of b) c.args.self.now c.self.view_is c.args.place c.index-then-is_before.result.now c.requires
    c.index-then-is_before.ensures
    ∙ first_kept b.changes.previous_change.items b.changes.last.items (history_of b) c.args.self.now c.self.view_is c.self.invariant.changes
    c.args.place c.args.since c.index.result.now true c.requires c.index.ensures (sym c.if-is_before.true ∙ c.is_before.ensures)

pub returns : goal.returns
returns c =
    let b = c.self.inside in
    first_kept b.changes.previous_change.items b.changes.last.items (history_of b) c.args.self.now c.self.view_is c.self.invariant.changes
    c.args.place c.args.since c.index.result.now false c.requires c.index.ensures (sym c.if-is_before.false ∙ c.is_before.ensures)
