-- What an undo and a redo leave.
use Rattle.std.proofs.Common.{◌≡◌, ℕ, suc, Bool, true, false, not, cond, List, [], ◌∷◌, ◌++◌, take, drop, Option, None, Some}
use Rattle.std.proofs.Common.{refl, sym, ap, subst, ◌∙◌, get_or, length, slice_get, slice_set}
use Rattle.std.proofs.lemmas.Option.{slice_get_read}
use Rattle.lay_layouts.specs.Layout.{Layout}
use Rattle.lay_layouts.specs.Sound.{IsSound}
use Rattle.txn_commands.specs.declared.command.TxnId.{TxnId}
use Rattle.txn_commands.specs.Records.{AreProper, applied, reverted}
use Rattle.undo_rules.specs.declared.log.Answer.TheVariants.{Redone, Undone}
use Rattle.undo_rules.specs.declared.log.BookFault.TheVariants.{NotLive, StillLive}
use Rattle.undo_rules.specs.declared.log.Call.TheVariants.{Redo, Undo}
use Rattle.undo_rules.specs.declared.log.Logged.{Logged}
use Rattle.undo_rules.specs.Books.{History, IsHistory}
use Rattle.undo_rules.specs.Histories.{AreKept}
use Rattle.undo_rules.specs.Links.{Entry, first_moved, first_reader, links_to, marked}
use Rattle.undo_rules.specs.Steps.{Found, after_redo, after_undo, depends, found, logged}
use Rattle.undo_rules.specs.Steps.{moved_refusal, or_else, redo_refusal, redo_refusal_at, remarked}
use Rattle.undo_rules.specs.Steps.{undo_refusal, undo_refusal_at, with_mark}
use Rattle.undo_rules.proofs.HistoryLaws.{puts_back, replays, takes_out}
use Rattle.undo_rules.proofs.Logs.{kept_longer}
use Rattle.undo_rules.proofs.StepLaws.{neither_of, no_depends, no_moved, redo_keeps, settled_is, undo_keeps}
use Rattle.undo_book.specs.Marks.{after_mark, mark_answer, mark_call, mark_refusal, layout_by}
use Rattle.undo_book.specs.Places.{place_of}
use Rattle.undo_book.specs.Replays.{CanBeRedone, replay}
use Rattle.undo_book.proofs.FoundLemmas.{split_at}
use Rattle.undo_book.proofs.PlaceLemmas.{found_marked, found_there, marked_there, place_within}
use Rattle.undo_book.proofs.SoundLemmas.{entry_proper, kept_sound}
use Rattle.undo_book.proofs.MovedLemmas.{unmoved_same}

-- ---- what nothing is against

record CanUndo (at : Found) : Type 0 where
  live : at.entry.live ≡ true
  unread : first_reader at.entry.writes at.later ≡ None

can_undo : (at : Found) → undo_refusal_at (Some at) ≡ None → CanUndo at
can_undo at free = by at.entry.live refl free where
  by : (live : Bool) → at.entry.live ≡ live → cond live (depends (first_reader at.entry.writes at.later)) (Some NotLive) ≡ None → CanUndo at
  by true is h = record { live = is; unread = no_depends (first_reader at.entry.writes at.later) h }
  by false is h = absurd cc

record CanRedo (at : Found) : Type 0 where
  undone : at.entry.live ≡ false
  unread : first_reader at.entry.writes at.later ≡ None
  unmoved : first_moved at.before (links_to at.before at.entry.footprint) at.entry.seen ≡ None

can_redo : (at : Found) → redo_refusal_at (Some at) ≡ None → CanRedo at
can_redo at free = by at.entry.live refl free where
  names : Option TxnId
  names = first_moved at.before (links_to at.before at.entry.footprint) at.entry.seen

  by : (live : Bool) → at.entry.live ≡ live →
      cond live (Some StillLive) (or_else (depends (first_reader at.entry.writes at.later)) (moved_refusal names)) ≡ None → CanRedo at
  by true is h = absurd cc
  by false is h =
      let parts = neither_of (depends (first_reader at.entry.writes at.later)) (moved_refusal names) h in
      record { undone = is; unread = no_depends (first_reader at.entry.writes at.later) parts.0; unmoved = no_moved names parts.1 }

-- ---- redo

-- the history behind a redo: the layout is the one with the records applied
pub record Redoes (h : History) (session : ℕ) (txn : TxnId) (at : Found) : Type 0 where
  pub proper : AreProper at.entry.writes
  pub sound : IsSound (applied h.layout at.entry.writes)
  pub history : IsHistory (after_redo h session txn)
  pub after : after_redo h session txn
      ≡ record (logged (with_mark h true txn) session (Redo txn) Redone) { layout = applied h.layout at.entry.writes }
  pub again : replay (with_mark h true txn) ≡ Some (applied h.layout at.entry.writes)

pub redoes : (h : History) → IsHistory h → (session : ℕ) (txn : TxnId) (at : Found) → found h txn ≡ Some at → redo_refusal h txn ≡ None →
    Redoes h session txn at
redoes h is session txn at there free =
    let split = split_at h txn at there in
    let can = can_redo at (sym (ap redo_refusal_at there) ∙ free) in
    let end : Layout = applied h.layout at.entry.writes in
    let call : Logged = record { session = session; call = Redo txn; answer = Redone } in
    let kept : AreKept h.log h.base h.layout (at.before ++ at.entry ∷ at.later) =
    subst (AreKept h.log h.base h.layout) split.parts is.kept in
    let back = puts_back h.log h.base h.layout at.before at.entry at.later is.sound kept can.undone can.unread can.unmoved in
    let still : AreKept h.log h.base end (remarked true txn h.entries) = subst (AreKept h.log h.base end) (sym (split.marks true)) back in
    record {
      proper = entry_proper h.log h.base h.layout at.before at.entry at.later kept;
      sound = kept_sound h.log h.base end (remarked true txn h.entries) still is.sound;
      history = redo_keeps h is session txn free;
      after = settled_is (logged (with_mark h true txn) session (Redo txn) Redone) end
          (kept_longer h.log call h.base end (remarked true txn h.entries) still);
      again = replays h.log h.base end (remarked true txn h.entries) still;
    }

-- ---- undo

-- the history behind an undo: the layout is the one with the records reverted, and a redo at once leads back
pub record Undoes (h : History) (session : ℕ) (txn : TxnId) (at : Found) : Type 0 where
  pub proper : AreProper at.entry.writes
  pub sound : IsSound (reverted h.layout at.entry.writes)
  pub history : IsHistory (after_undo h session txn)
  pub after : after_undo h session txn
      ≡ record (logged (with_mark h false txn) session (Undo txn) Undone) { layout = reverted h.layout at.entry.writes }
  pub without : replay (with_mark h false txn) ≡ Some (reverted h.layout at.entry.writes)
  pub again : CanBeRedone (after_undo h session txn) session txn h.layout

pub undoes : (h : History) → IsHistory h → (session : ℕ) (txn : TxnId) (at : Found) → found h txn ≡ Some at → undo_refusal h txn ≡ None →
    Undoes h session txn at
undoes h is session txn at there free =
    let split = split_at h txn at there in
    let can = can_undo at (sym (ap undo_refusal_at there) ∙ free) in
    let end : Layout = reverted h.layout at.entry.writes in
    let call : Logged = record { session = session; call = Undo txn; answer = Undone } in
    let kept : AreKept h.log h.base h.layout (at.before ++ at.entry ∷ at.later) =
    subst (AreKept h.log h.base h.layout) split.parts is.kept in
    let took = takes_out h.log h.base h.layout at.before at.entry at.later is.sound kept can.live can.unread in
    let still : AreKept h.log h.base end (remarked false txn h.entries) =
    subst (AreKept h.log h.base end) (sym (split.marks false)) took.kept in
    let after : after_undo h session txn ≡ record (logged (with_mark h false txn) session (Undo txn) Undone) { layout = end } =
    settled_is (logged (with_mark h false txn) session (Undo txn) Undone) end
    (kept_longer h.log call h.base end (remarked false txn h.entries) still) in
    let history = undo_keeps h is session txn free in
    let next : History = after_undo h session txn in
    let undone : Found = record { before = at.before; entry = marked false at.entry; later = at.later } in
    let found_again : found next txn ≡ Some undone = found_marked false [] h.entries txn at there in
    let in_place : first_moved at.before (links_to at.before at.entry.footprint) at.entry.seen ≡ None =
    ap (λ links. first_moved at.before links at.entry.seen) took.links ∙ unmoved_same at.before at.entry.seen in
    let open_again : redo_refusal next txn ≡ None =
    ap redo_refusal_at found_again ∙ (λ i. or_else (depends (can.unread i)) (moved_refusal (in_place i))) in
    let back = redoes next history session txn undone found_again open_again in
    let lay : next.layout ≡ end = ap (λ (x : History). x.layout) after in
    record {
      proper = entry_proper h.log h.base h.layout at.before at.entry at.later kept;
      sound = kept_sound h.log h.base end (remarked false txn h.entries) still is.sound;
      history = history;
      after = after;
      without = replays h.log h.base end (remarked false txn h.entries) still;
      again = record {
        free = open_again;
        to = ap (λ (x : History). x.layout) back.after ∙ ap (λ l. applied l at.entry.writes) lay ∙ took.again;
      };
    }

-- ---- either

-- the history behind a call that gives the other mark
record Remarks (live : Bool) (h : History) (session : ℕ) (txn : TxnId) (at : Found) : Type 0 where
  other : at.entry.live ≡ not live
  proper : AreProper at.entry.writes
  sound : IsSound (layout_by live h.layout at.entry.writes)
  history : IsHistory (after_mark live h session txn)
  after : after_mark live h session txn
      ≡ record (logged (with_mark h live txn) session (mark_call live txn) (mark_answer live)) {
        layout = layout_by live h.layout
            at.entry.writes;
      }
  replayed : replay (with_mark h live txn) ≡ Some (layout_by live h.layout at.entry.writes)
  back : live ≡ false → CanBeRedone (after_mark live h session txn) session txn h.layout

remarks : (live : Bool) (h : History) → IsHistory h → (session : ℕ) (txn : TxnId) (at : Found) → found h txn ≡ Some at →
    mark_refusal live h txn ≡ None → Remarks live h session txn at
remarks false h is session txn at there free =
    let does = undoes h is session txn at there free in
    record {
      other = (can_undo at (sym (ap undo_refusal_at there) ∙ free)).live;
      proper = does.proper;
      sound = does.sound;
      history = does.history;
      after = does.after;
      replayed = does.without;
      back = λ same. does.again;
    }
remarks true h is session txn at there free =
    let does = redoes h is session txn at there free in
    record {
      other = (can_redo at (sym (ap redo_refusal_at there) ∙ free)).undone;
      proper = does.proper;
      sound = does.sound;
      history = does.history;
      after = does.after;
      replayed = does.again;
      back = λ (same : true ≡ false). absurd cc;
    }

-- ---- at a place

-- the history that is left by what the code does
pub record LeavesMarked (live : Bool) (now new : History) (session : ℕ) (txn : TxnId) : Type 0 where
  pub history : IsHistory new
  pub is : new ≡ after_mark live now session txn
  pub replayed : replay (with_mark now live txn) ≡ Some new.layout
  pub back : live ≡ false → CanBeRedone new session txn now.layout
  pub marks : new.entries ≡ remarked live txn now.entries

pub record IsMarked (live : Bool) (b now : History) (session : ℕ) (txn : TxnId) (place : ℕ) (entry : Entry) : Type 0 where
  pub there : slice_get b.entries place ≡ Some entry
  pub other : entry.live ≡ not live
  pub proper : AreProper entry.writes
  pub sound : IsSound (layout_by live b.layout entry.writes)
  pub left : (end : Layout) (log : List Logged) (entries : List Entry) → end ≡ layout_by live b.layout entry.writes →
      log ≡ b.log ++ record { session = session; call = mark_call live txn; answer = mark_answer live } ∷ [] →
      entries ≡ slice_set b.entries place (marked live entry) →
      LeavesMarked live now (record b { layout = end; log = log; entries = entries }) session txn

marked_here : (live : Bool) (b : History) → IsHistory b → (session : ℕ) (txn : TxnId) (place : ℕ) (entry : Entry) →
    place_of txn b.entries ≡ Some place → slice_get b.entries place ≡ Some entry → mark_refusal live b txn ≡ None →
    IsMarked live b b session txn place entry
marked_here live b is session txn place entry placed there free =
    let at : Found = record { before = take place b.entries; entry = entry; later = drop (suc place) b.entries } in
    let does = remarks live b is session txn at (found_there [] b.entries txn place entry placed there) free in
    record {
      there = there;
      other = does.other;
      proper = does.proper;
      sound = does.sound;
      left = λ end log entries lay logs marks.
          let new : History = record b { layout = end; log = log; entries = entries } in
          let marked_so : entries ≡ remarked live txn b.entries = marks ∙ sym (marked_there live b.entries txn place entry placed there) in
          let same : after_mark live b session txn ≡ new =
          does.after ∙ (λ i. record b { layout = sym lay i; log = sym logs i; entries = sym marked_so i }) in
          record {
            history = subst IsHistory same does.history;
            is = sym same;
            replayed = does.replayed ∙ ap Some (sym lay);
            back = λ undone. subst (λ (x : History). CanBeRedone x session txn b.layout) same (does.back undone);
            marks = marked_so;
          };
    }

pub marked_at : (live : Bool) (b now : History) → b ≡ now → IsHistory b → (session : ℕ) (txn : TxnId) (place : ℕ) (entry : Entry) →
    place_of txn now.entries ≡ Some place → entry ≡ get_or b.entries place entry → mark_refusal live now txn ≡ None →
    IsMarked live b now session txn place entry
marked_at live b now view is session txn place entry placed read free =
    let placed_so : place_of txn b.entries ≡ Some place = ap (λ (x : History). place_of txn x.entries) view ∙ placed in
    let there = slice_get_read b.entries (length b.entries) place entry refl (place_within b.entries txn place placed_so) read in
    subst (λ (x : History). IsMarked live b x session txn place entry) view
    (marked_here live b is session txn place entry placed_so there (ap (λ (x : History). mark_refusal live x txn) view ∙ free))
