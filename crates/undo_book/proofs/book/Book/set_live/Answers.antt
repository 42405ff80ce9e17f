use Rattle.std.proofs.Common.{◌≡◌, ℕ, ◌+◌, ◌<◌, Bool, true, false, not, [], ◌∷◌}
use Rattle.std.proofs.Common.{◌++◌, Some, ◌∙◌, ap, arith, length, refl, rules, slice_get, slice_set}
use Rattle.std.proofs.Common.{subst, sym}
use Rattle.std.specs.Vec.{vec_len}
use Rattle.undo_rules.specs.declared.log.Logged.{Logged}
use Rattle.undo_rules.specs.Books.{History, changed_in}
use Rattle.undo_rules.specs.Links.{Entry}
use Rattle.undo_rules.specs.Steps.{remarked}
use Rattle.txn_commands.specs.declared.command.TxnId.{TxnId}
use Rattle.txn_commands.specs.Records.{AreProper}
use Rattle.lay_layouts.specs.Sound.{IsSound}
use Rattle.txn_marks.specs.Homes.{AreMetBy}
use Rattle.undo_index.specs.Listed.{IsNew}
use Rattle.undo_book.specs.Marks.{AreUpdated, mark_answer, mark_call, layout_by}
use Rattle.undo_book.specs.Books.{history_of}
use Rattle.undo_book.specs.Places.{IndexesByName, place_of}
use Rattle.undo_book.specs.Indexed.{AreIndexed}
use Rattle.undo_book.proofs.IndexedLemmas.{mark_indexed, undone_new}
use Rattle.undo_book.proofs.SameLemmas.{same_book}
use Rattle.undo_book.proofs.ChangeLemmas.{again_so}
use Rattle.undo_book.proofs.IndexLemmas.{places_marked}
use Rattle.undo_book.proofs.PlaceLemmas.{place_within}
use Rattle.undo_book.proofs.SinceLemmas.{again_commits_so}
use Rattle.undo_book.proofs.UndoLemmas.{IsMarked, LeavesMarked, marked_at}
use Rattle.undo_book.proofs.book.Book.set_live.Goals as goal

-- the place is that of a transaction
within : (b now : History) → b ≡ now → (txn : TxnId) (place : ℕ) → place_of txn now.entries ≡ Some place → place < length b.entries
within b now view txn place placed =
    subst (λ (h : History). place < length h.entries) (sym view) (place_within now.entries txn place placed)

-- the logged call
abbrev call_of : ℕ → TxnId → Bool → Logged
call_of session txn live = record { session = session; call = mark_call live txn; answer = mark_answer live }

changed_so : (session : ℕ) (txn : TxnId) (live : Bool) → changed_in (call_of session txn live) ≡ Some txn
changed_so session txn false = refl
changed_so session txn true = refl

pub index-entry-requires : goal.index-entry-requires
index-entry-requires c =
    let less = within (history_of c.self.inside) c.args.self.now c.self.view_is c.args.txn c.args.place c.requires.place in
    let len : vec_len c.self.inside.entries ≡ length c.self.inside.entries.items = search rules in
    omega (arith, less, len)

pub layout_by-requires-clause-proper : goal.layout_by-requires-clause-proper
layout_by-requires-clause-proper c =
    subst (λ (e : Entry). AreProper e.writes) (sym c.entry.view_is)
    (marked_at c.args.live (history_of c.self.inside) c.args.self.now c.self.view_is c.self.invariant.history c.args.session c.args.txn
    c.args.place c.index-entry.result.now c.requires.place c.index-entry.ensures c.requires.free).proper

pub layout_by-requires-clause-sound : goal.layout_by-requires-clause-sound
layout_by-requires-clause-sound c =
    subst (λ (e : Entry). IsSound (layout_by c.args.live c.self.inside.layout e.writes)) (sym c.entry.view_is)
    (marked_at c.args.live (history_of c.self.inside) c.args.self.now c.self.view_is c.self.invariant.history c.args.session c.args.txn
    c.args.place c.index-entry.result.now c.requires.place c.index-entry.ensures c.requires.free).sound

-- the last change of the transaction is kept
pub add_undo_or_redo-requires-clause-index : goal.add_undo_or_redo-requires-clause-index
add_undo_or_redo-requires-clause-index c =
    let less = within (history_of c.self.inside) c.args.self.now c.self.view_is c.args.txn c.args.place c.requires.place in
    let len : vec_len c.reserve_call.new.self.last ≡ length c.self.inside.changes.last.items = search rules in
    omega (arith, less, c.self.invariant.changes.long, len)

pub set_mark-requires : goal.set_mark-requires
set_mark-requires c =
    let less = within (history_of c.self.inside) c.args.self.now c.self.view_is c.args.txn c.args.place c.requires.place in
    let len : vec_len c.self.inside.entries ≡ length c.self.inside.entries.items = search rules in
    omega (arith, less, len)

-- what nothing is against
can : (c : goal.After-drop-self-inside) → IsMarked c.args.live (history_of c.self.inside) c.args.self.now c.args.session c.args.txn
    c.args.place c.index-entry.result.now
can c = marked_at c.args.live (history_of c.self.inside) c.args.self.now c.self.view_is c.self.invariant.history c.args.session c.args.txn
    c.args.place c.index-entry.result.now c.requires.place c.index-entry.ensures c.requires.free

-- what is left at the end
left : (c : goal.After-drop-self-inside) → LeavesMarked c.args.live c.args.self.now (history_of (record c.self.inside {
  layout = c.in_ok-layout.layout;
  log = c.push.new.self;
  entries = c.set_mark.new.entries;
})) c.args.session c.args.txn
left c =
    let written : c.in_ok-layout.layout ≡ layout_by c.args.live c.self.inside.layout c.entry.inside.writes = search rules in
    let layout : c.in_ok-layout.layout ≡ layout_by c.args.live c.self.inside.layout c.index-entry.result.now.writes =
    written ∙ ap (λ (e : Entry). layout_by c.args.live c.self.inside.layout e.writes) c.entry.view_is in
    let log : c.push.new.self.items ≡ c.self.inside.log.items ++ call_of c.args.session c.args.txn c.args.live ∷ [] = search rules in
    (can c).left c.in_ok-layout.layout c.push.new.self.items c.set_mark.new.entries.items layout log
    (c.set_mark.ensures c.index-entry.result.now (can c).there)

-- who wrote and touched what
indexed : (c : goal.After-drop-self-inside) → AreIndexed c.update_index.new.index.writers c.update_index.new.index.readers
    c.set_mark.new.entries.items
indexed c =
    let was = c.self.inside.index in
    let entry = c.index-entry.result.now in
    let less = within (history_of c.self.inside) c.args.self.now c.self.view_is c.args.txn c.args.place c.requires.place in
    let there = ap (λ (h : History). slice_get h.entries c.args.place) (sym c.self.view_is) ∙ (can c).there in
    let are : AreMetBy entry.writes c.args.met.now = c.requires.met entry there in
    let wrote_it : AreUpdated c.args.live was.writers entry.txn c.args.met.now c.args.place c.update_index.new.index.writers = search
    rules in
    let read_it : AreUpdated c.args.live was.readers entry.txn entry.footprint c.args.place c.update_index.new.index.readers = search
    rules in
    mark_indexed c.args.live was.writers was.readers c.update_index.new.index.writers c.update_index.new.index.readers
    c.self.inside.entries.items
    c.set_mark.new.entries.items c.args.place entry c.args.met.now c.self.invariant.index wrote_it read_it are (can c).other (can c).there
    less (c.set_mark.ensures entry (can c).there)

pub invariant_of-self-2 : goal.invariant_of-self-2
invariant_of-self-2 c =
    let is = left c in
    let h : History = history_of c.self.inside in
    let marks : c.set_mark.new.entries.items ≡ remarked c.args.live c.args.txn h.entries =
    is.marks ∙ ap (λ (x : History). remarked c.args.live c.args.txn x.entries) (sym c.self.view_is) in
    let call : Logged = call_of c.args.session c.args.txn c.args.live in
    let log : c.push.new.self.items ≡ c.self.inside.log.items ++ call_of c.args.session c.args.txn c.args.live ∷ [] = search rules in
    let kept = c.self.inside.changes in
    let earlier : c.add_undo_or_redo.new.self.previous_change.items ≡ kept.previous_change.items
    ++ slice_get kept.last.items c.args.place ∷ [] = search rules in
    let last : c.add_undo_or_redo.new.self.last.items
    ≡ slice_set kept.last.items c.args.place (length c.self.inside.log.items) = search rules in
    let again : c.add_undo_or_redo.new.self.last_undo_or_redo ≡ length c.self.inside.log.items + 1 = search rules in
    record {
      history = is.history;
      places = subst (IndexesByName c.self.inside.places.entries) (sym marks)
          (places_marked c.self.inside.places.entries c.args.live c.args.txn h.entries c.self.invariant.places);
      index = indexed c;
      changes = again_so call c.args.txn c.args.place c.args.live c.self.invariant.changes
          (changed_so c.args.session c.args.txn c.args.live)
          (ap (λ (x : History). place_of c.args.txn x.entries) c.self.view_is ∙ c.requires.place) earlier last log marks;
      commits = again_commits_so call c.args.txn c.args.place c.args.live c.self.invariant.commits again last log marks;
    }

pub returns-clause-ok : goal.returns-clause-ok
returns-clause-ok c = (left c).is

pub returns-clause-replayed : goal.returns-clause-replayed
returns-clause-replayed c = (left c).replayed

pub returns-clause-back : goal.returns-clause-back
returns-clause-back c = (left c).back

pub invariant_of-self-in_err-update_index : goal.invariant_of-self-in_err-update_index
invariant_of-self-in_err-update_index c =
    let was = c.self.inside.index in
    let entry = c.index-entry.result.now in
    let is = marked_at c.args.live (history_of c.self.inside) c.args.self.now c.self.view_is c.self.invariant.history c.args.session
    c.args.txn c.args.place entry c.requires.place c.index-entry.ensures c.requires.free in
    let live : c.args.live ≡ true = search rules in
    let fresh = undone_new was.writers was.readers c.self.inside.entries.items c.args.place entry c.self.invariant.index is.there
    (is.other ∙ ap not live) in
    let writers : IsNew was.writers c.args.place → c.update_index.new.index.writers ≡ was.writers = search rules in
    let readers : IsNew was.readers c.args.place → c.update_index.new.index.readers ≡ was.readers = search rules in
    same_book c.self.inside _ (search rules) refl (search rules) (search rules) (search rules) (writers fresh.0) (readers fresh.1)
    c.self.invariant
