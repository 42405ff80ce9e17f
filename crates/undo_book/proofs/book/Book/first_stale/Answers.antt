use Rattle.std.proofs.Common.{◌≡◌, ◌<◌, ◌∙◌, ap, false, length, rules, sym}
use Rattle.undo_book.specs.Changes.{changed_at}
use Rattle.undo_book.proofs.StaleLemmas.{decided, first_is, looked_more, none_again, passed, wrote}
use Rattle.undo_book.proofs.book.Book.first_stale.Goals as goal
use Rattle.undo_book.proofs.book.Book.first_stale.Goals.{in-Some+else-wrote_at, in_default}

pub returns-then-wrote_at : goal.returns-then-wrote_at
returns-then-wrote_at c =
    let now = c.args.self.now in
    let place = c.loop-place.place in
    let less : place < length now.log = search rules in
    let changed = first_is now.log c.args.since place c.in-Some.txn (sym c.in-Some.ensures) in
    sym (decided now.entries c.args.footprint.now now.log place c.in-Some.txn less changed (sym c.wrote_at.ensures ∙ c.if-wrote_at.true))
    ∙ c.loop-place.invariant.left

-- the call's transaction, if any, didn't write what is touched: it says so, or an earlier change was looked at
pub loop-place-preserved : goal.loop-place-preserved
loop-place-preserved c =
    let now = c.args.self.now in
    let touched = c.args.footprint.now in
    let place = c.loop-place.place in
    let less : place < length now.log = search rules in
    let none : wrote now.entries touched (changed_at now.log place) ≡ false = elim c.match-first_change.branch [
      | in-Some+else-wrote_at w ↦
          ap (wrote now.entries touched) (first_is now.log c.args.since place w.in-Some.txn (sym w.in-Some.ensures))
          ∙ sym w.wrote_at.ensures ∙ w.if-wrote_at.false
      | in_default w ↦
          none_again now.entries touched now.log c.args.since place (sym c.first_change.ensures ∙ w.in_default.is)
          c.loop-place.invariant.looked
    ] in
    record {
      left = passed now.entries touched now.log place less none ∙ c.loop-place.invariant.left;
      looked = looked_more now.entries touched now.log c.args.since place c.loop-place.invariant.looked none;
    }
