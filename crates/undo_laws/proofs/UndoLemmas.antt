-- Undos and redos are refused for the transactions that they name.
use Rattle.std.proofs.Common.{◌≡◌, ◌≢◌, inl, inr, ℕ, Bool, true, false, cond, ◌&&◌, List, [], ◌∷◌, ◌++◌, map, Option, None, Some}
use Rattle.std.proofs.Common.{Result, Err, refl, sym, ap, subst, ◌∙◌, arith}
use Rattle.std.specs.Prelude.{not, Contains}
use Rattle.std.proofs.lemmas.Bool.Decides.{nat_tests}
use Rattle.std.proofs.lemmas.Bool.{and_from, and_parts}
use Rattle.lay_point.proofs.Members.{Has, contains, has, has-append_left, has-append_right}
use Rattle.txn_commands.specs.declared.command.TxnId.{TxnId}
use Rattle.txn_commands.specs.Records.{Records}
use Rattle.undo_rules.specs.declared.log.BookFault.{BookFault}
use Rattle.undo_rules.specs.declared.log.BookFault.TheVariants.{Depends, Foreign, LogFull, Moved, NoMemory, NoTxn, NotLive, SessionFull}
use Rattle.undo_rules.specs.declared.log.BookFault.TheVariants.{Stale, StillLive}
use Rattle.undo_rules.specs.declared.log.Call.{Call}
use Rattle.undo_rules.specs.declared.log.Call.TheVariants.{Redo, Undo}
use Rattle.undo_rules.specs.Books.{History}
use Rattle.undo_rules.specs.Links.{AreNamed, Entry, first_moved, first_reader, is_named_in, links_to, trace_of}
use Rattle.txn_commands.specs.Meets.{meets_touched}
use Rattle.undo_rules.specs.Steps.{Found, after_redo, after_undo, depends, found, found_behind, is_log_full, moved_refusal, or_else}
use Rattle.undo_rules.specs.Steps.{redo_refusal, redo_refusal_at, undo_refusal, undo_refusal_at, unless}
use Rattle.undo_rules.proofs.Finding.{found_is}
use Rattle.undo_rules.proofs.EqualLinks.{txn_eq-true}
use Rattle.undo_rules.proofs.Undoing.{named_front}
use Rattle.undo_laws.specs.Refusing.{HasMoved, HasRoom, IsAmong, IsFirstMoved, IsFirstReader, IsLinked, IsMovedBy, IsReadBy}
use Rattle.undo_laws.specs.Refusing.{IsReader}
use Rattle.undo_laws.specs.Refusing.{NamesDiffer, RedoIsRefused, RedosAreRefusedForCause, UndoIsRefused, UndosAreRefusedForCause}
use Rattle.undo_laws.specs.Refusing.{WasLinked}
use Rattle.undo_laws.proofs.FirstLemmas.{first_by, first_found, first_is, none_passes, pass_none, told_false, told_not}
use Rattle.undo_laws.proofs.TouchLemmas.{reads, reads_is, reads_so, touched_is, touched_so}
use Rattle.undo_laws.proofs.EntryLemmas.{among_has, found_in, has_among, links_has}

abbrev pub name_of : Entry → TxnId
name_of entry = entry.txn

-- ---- room in the log

pub room : (h : History) → is_log_full h ≡ false → HasRoom h
room h is = grind (arith, nat_tests)

pub not_full : (h : History) → HasRoom h → is_log_full h ≡ false
not_full h is = grind (arith, nat_tests)

-- a step that a full log refuses, and then this, or nothing
abbrev out : History → Bool → Option BookFault → ℕ → Call → History → Result (Unit {0}) BookFault
out h full refusal session call after = (cond full (Err LogFull, h) (unless refusal h session call after)).0

said : (h : History) (full : Bool) (refusal : Option BookFault) (session : ℕ) (call : Call) (after : History) (fault : BookFault)
    → LogFull ≢ fault → out h full refusal session call after ≡ Err fault → (full ≡ false) × (refusal ≡ Some fault)
said h true refusal session call after fault other e = let same : LogFull ≡ fault = cc in absurd (other same)
said h false None session call after fault other e = absurd cc
said h false (Some f) session call after fault other e = let same : f ≡ fault = cc in (refl, ap Some same)

told : (h : History) (full : Bool) (refusal : Option BookFault) (session : ℕ) (call : Call) (after : History) (fault : BookFault)
    → full ≡ false → refusal ≡ Some fault → out h full refusal session call after ≡ Err fault
told h full refusal session call after fault is e =
    ap (λ b. out h b refusal session call after) is ∙ ap (λ r. out h false r session call after) e

-- ---- readers

reader_first : (writes : Records) (es : List Entry) → first_reader writes es ≡ first_by (reads writes) name_of es
reader_first writes [] = refl
reader_first writes (e ∷ es) =
    ap (λ r. cond (e.live && meets_touched writes e.footprint) (Some e.txn) r) (reader_first writes es)

reader_is : (writes : Records) (es : List Entry) (name : TxnId) → first_reader writes es ≡ Some name → IsFirstReader writes es name
reader_is writes es name e =
    let f = first_found (reads writes) name_of es name (sym (reader_first writes es) ∙ e) in
    record {
      before = f.before;
      reader = f.it;
      rest = f.rest;
      place = f.place;
      named = f.named;
      reads = reads_is writes f.it f.passed;
      first = λ y m. told_not (reads writes y) (λ is. reads_so writes y is) (f.first y (has f.before y m));
    }

reader_so : (writes : Records) (es : List Entry) (name : TxnId) → IsFirstReader writes es name → first_reader writes es ≡ Some name
reader_so writes es name is =
    reader_first writes es ∙ first_is (reads writes) name_of es name (record {
      before = is.before;
      it = is.reader;
      rest = is.rest;
      place = is.place;
      named = is.named;
      passed = reads_so writes is.reader is.reads;
      first = λ y m. told_false (reads writes y) (λ t. reads_is writes y t) (is.first y (contains is.before y m));
    })

unread_is : (writes : Records) (es : List Entry) → first_reader writes es ≡ None → (e : Entry) → Contains es e → ¬ (IsReader writes e)
unread_is writes es none e m =
    told_not (reads writes e) (λ is. reads_so writes e is)
    (none_passes (reads writes) name_of es (sym (reader_first writes es) ∙ none) e (has es e m))

unread_so : (writes : Records) (es : List Entry) → ((e : Entry) → Contains es e → ¬ (IsReader writes e)) → first_reader writes es ≡ None
unread_so writes es none =
    reader_first writes es ∙ pass_none (reads writes) name_of es
    (λ y m. told_false (reads writes y) (λ t. reads_is writes y t) (none y (contains es y m)))

-- ---- earlier transactions that have moved

abbrev differ : Bool → Bool → Bool
differ a b = cond a (not b) b

abbrev moves : List TxnId → List TxnId → Entry → Bool
moves one other e = differ (is_named_in e.txn one) (is_named_in e.txn other)

moved_first : (es : List Entry) (one other : List TxnId) → first_moved es one other ≡ first_by (moves one other) name_of es
moved_first [] one other = refl
moved_first (e ∷ es) one other = by (is_named_in e.txn one) (is_named_in e.txn other) (moved_first es one other) where
  by : (a b : Bool) → first_moved es one other ≡ first_by (moves one other) name_of es
      → cond a (cond b (first_moved es one other) (Some e.txn)) (cond b (Some e.txn) (first_moved es one other))
      ≡ cond (differ a b) (Some e.txn) (first_by (moves one other) name_of es)
  by true true rest = rest
  by true false rest = refl
  by false true rest = refl
  by false false rest = rest

abbrev has_moved : List Entry → Entry → Entry → Bool
has_moved earlier entry e = moves (links_to earlier entry.footprint) entry.seen e

-- the two tests of an earlier transaction, as facts
record AreTests (entry e : Entry) (linked was : Bool) : Type 0 where
  linked_is : linked ≡ true → IsLinked entry e
  linked_so : IsLinked entry e → linked ≡ true
  was_is : was ≡ true → WasLinked entry e
  was_so : WasLinked entry e → was ≡ true

are_tests : (earlier : List Entry) (entry e : Entry) → AreNamed (map trace_of earlier) → Has earlier e
    → AreTests entry e (is_named_in e.txn (links_to earlier entry.footprint)) (is_named_in e.txn entry.seen)
are_tests earlier entry e named m =
    let is = links_has entry.footprint earlier e named m in
    record {
      linked_is = λ t. let both = and_parts e.live (meets_touched e.writes entry.footprint) (sym is ∙ t) in
          (both.0, touched_is e.writes entry.footprint both.1);
      linked_so = λ l. is ∙ and_from e.live (meets_touched e.writes entry.footprint) l.0 (touched_so e.writes entry.footprint l.1);
      was_is = λ t. contains entry.seen e.txn (among_has e.txn entry.seen t);
      was_so = λ w. has_among e.txn entry.seen (has entry.seen e.txn w);
    }

moved_by : (entry e : Entry) (linked was : Bool) → AreTests entry e linked was → differ linked was ≡ true → HasMoved entry e
moved_by entry e true true are h = absurd cc
moved_by entry e true false are h = inl (are.linked_is refl, told_not false are.was_so refl)
moved_by entry e false true are h = inr (told_not false are.linked_so refl, are.was_is refl)
moved_by entry e false false are h = absurd cc

moved_test : (entry e : Entry) (linked was : Bool) → AreTests entry e linked was → HasMoved entry e → differ linked was ≡ true
moved_test entry e linked was are (inl h) =
    (λ i. differ (are.linked_so h.0 i) (told_false was are.was_is h.1 i))
moved_test entry e linked was are (inr h) =
    (λ i. differ (told_false linked are.linked_is h.0 i) (are.was_so h.1 i))

-- the parts of a list are in it
placed : (es before : List Entry) (it : Entry) (rest : List Entry) → es ≡ before ++ it ∷ rest → Has es it
placed es before it rest place =
    subst (λ (all : List Entry). Has all it) (sym place) (has-append_right before (it ∷ rest) it (inl refl))

in_front : (es before rest : List Entry) (y : Entry) → es ≡ before ++ rest → Has before y → Has es y
in_front es before rest y place m = subst (λ (all : List Entry). Has all y) (sym place) (has-append_left before rest y m)

first_moved_is : (earlier : List Entry) (entry : Entry) (name : TxnId) → AreNamed (map trace_of earlier)
    → first_moved earlier (links_to earlier entry.footprint) entry.seen ≡ Some name → IsFirstMoved entry earlier name
first_moved_is earlier entry name named e =
    let test = has_moved earlier entry in
    let f = first_found test name_of earlier name (sym (moved_first earlier (links_to earlier entry.footprint) entry.seen) ∙ e) in
    let at = placed earlier f.before f.it f.rest f.place in
    record {
      before = f.before;
      moved = f.it;
      rest = f.rest;
      place = f.place;
      named = f.named;
      has_moved = moved_by entry f.it _ _ (are_tests earlier entry f.it named at) f.passed;
      first = λ y m.
          let there = in_front earlier f.before (f.it ∷ f.rest) y f.place (has f.before y m) in
          told_not (test y) (moved_test entry y _ _ (are_tests earlier entry y named there)) (f.first y (has f.before y m));
    }

first_moved_so : (earlier : List Entry) (entry : Entry) (name : TxnId) → AreNamed (map trace_of earlier) → IsFirstMoved entry earlier name
    → first_moved earlier (links_to earlier entry.footprint) entry.seen ≡ Some name
first_moved_so earlier entry name named is =
    let test = has_moved earlier entry in
    let at = placed earlier is.before is.moved is.rest is.place in
    moved_first earlier (links_to earlier entry.footprint) entry.seen ∙ first_is test name_of earlier name (record {
      before = is.before;
      it = is.moved;
      rest = is.rest;
      place = is.place;
      named = is.named;
      passed = moved_test entry is.moved _ _ (are_tests earlier entry is.moved named at) is.has_moved;
      first = λ y m.
          let there = in_front earlier is.before (is.moved ∷ is.rest) y is.place m in
          told_false (test y) (moved_by entry y _ _ (are_tests earlier entry y named there)) (is.first y (contains is.before y m));
    })

-- ---- a transaction that is found

among_found : (h : History) (txn : TxnId) (at : Found) (live : Bool) → found h txn ≡ Some at → at.entry.live ≡ live
    → IsAmong h txn live at.before at.entry at.later
among_found h txn at live is mark =
    let f = found_is [] h.entries txn at is in
    record {
      place = f.parts ∙ ap (λ es. es ++ at.entry ∷ at.later) (sym f.behind);
      named = txn_eq-true at.entry.txn txn f.name;
      mark = mark;
    }

found_among : (h : History) (txn : TxnId) (live : Bool) (earlier : List Entry) (entry : Entry) (later : List Entry) → NamesDiffer h
    → IsAmong h txn live earlier entry later → found h txn ≡ Some (record { before = earlier; entry = entry; later = later })
found_among h txn live earlier entry later named is =
    let apart : AreNamed (map trace_of (earlier ++ entry ∷ later)) = subst (λ es. AreNamed (map trace_of es)) is.place named in
    ap (λ es. found_behind [] es txn) is.place ∙ found_in [] earlier entry later txn is.named apart

earlier_named : (h : History) (txn : TxnId) (live : Bool) (earlier : List Entry) (entry : Entry) (later : List Entry) → NamesDiffer h
    → IsAmong h txn live earlier entry later → AreNamed (map trace_of earlier)
earlier_named h txn live earlier entry later named is =
    named_front earlier (entry ∷ later) (subst (λ es. AreNamed (map trace_of es)) is.place named)

-- ---- undo

depends_is : (o : Option TxnId) (name : TxnId) → depends o ≡ Some (Depends name) → o ≡ Some name
depends_is None name e = absurd cc
depends_is (Some m) name e = let same : m ≡ name = cc in ap Some same

undo_by : (h : History) (txn other : TxnId) (o : Option Found) → found h txn ≡ o → undo_refusal_at o ≡ Some (Depends other)
    → IsReadBy h txn true other
undo_by h txn other None is e = absurd cc
undo_by h txn other (Some at) is e = by at.entry.live refl e where
  by : (live : Bool) → at.entry.live ≡ live
      → cond live (depends (first_reader at.entry.writes at.later)) (Some NotLive) ≡ Some (Depends other) → IsReadBy h txn true other
  by true mark e = record {
    earlier = at.before;
    entry = at.entry;
    later = at.later;
    among = among_found h txn at true is mark;
    reader = reader_is at.entry.writes at.later other (depends_is (first_reader at.entry.writes at.later) other e);
  }
  by false mark e = absurd cc

undo_for : (h : History) (txn other : TxnId) → NamesDiffer h → IsReadBy h txn true other → undo_refusal h txn ≡ Some (Depends other)
undo_for h txn other named is =
    ap undo_refusal_at (found_among h txn true is.earlier is.entry is.later named is.among)
    ∙ ap (λ b. cond b (depends (first_reader is.entry.writes is.later)) (Some NotLive)) is.among.mark
    ∙ ap depends (reader_so is.entry.writes is.later other is.reader)

-- what an undo may be refused for, but a full log
abbrev MayUndo : BookFault → Type 0
MayUndo NoTxn = Unit {0}
MayUndo NotLive = Unit {0}
MayUndo StillLive = ⊥
MayUndo (Depends txn) = Unit {0}
MayUndo (Moved txn) = ⊥
MayUndo (Stale txn) = ⊥
MayUndo LogFull = ⊥
MayUndo NoMemory = ⊥
MayUndo Foreign = ⊥
MayUndo SessionFull = ⊥

undo_may : (o : Option Found) (fault : BookFault) → undo_refusal_at o ≡ Some fault → MayUndo fault
undo_may None fault e = let same : NoTxn ≡ fault = cc in subst MayUndo same tt
undo_may (Some at) fault e = by at.entry.live (first_reader at.entry.writes at.later) e where
  by : (live : Bool) (o : Option TxnId) → cond live (depends o) (Some NotLive) ≡ Some fault → MayUndo fault
  by true None e = absurd cc
  by true (Some m) e = let same : Depends m ≡ fault = cc in subst MayUndo same tt
  by false o e = let same : NotLive ≡ fault = cc in subst MayUndo same tt

module _ (h : History) (session : ℕ) (txn other : TxnId) where
  undo_said : (fault : BookFault) → LogFull ≢ fault
      → out h (is_log_full h) (undo_refusal h txn) session (Undo txn) (after_undo h session txn) ≡ Err fault
      → (is_log_full h ≡ false) × (undo_refusal h txn ≡ Some fault)
  undo_said fault differs e =
      said h (is_log_full h) (undo_refusal h txn) session (Undo txn) (after_undo h session txn) fault differs e

  undo_law : NamesDiffer h → UndoIsRefused h session txn other
  undo_law named = record {
    depends = (
      (λ e.
          let r = undo_said (Depends other) (λ same. cc) e in
          (room h r.0, undo_by h txn other (found h txn) refl r.1)),
      (λ is.
          told h (is_log_full h) (undo_refusal h txn) session (Undo txn) (after_undo h session txn) (Depends other) (not_full h is.0)
          (undo_for h txn other named is.1)),
    );
    not_moved = λ e. undo_may (found h txn) (Moved other) (undo_said (Moved other) (λ same. cc) e).1;
    not_stale = λ e. undo_may (found h txn) (Stale other) (undo_said (Stale other) (λ same. cc) e).1;
    not_foreign = λ e. undo_may (found h txn) Foreign (undo_said Foreign (λ same. cc) e).1;
  }

pub undos_law : UndosAreRefusedForCause
undos_law h session txn other named = undo_law h session txn other named

-- ---- redo

redo_reads : (h : History) (txn other : TxnId) (o : Option Found) → found h txn ≡ o → redo_refusal_at o ≡ Some (Depends other)
    → IsReadBy h txn false other
redo_reads h txn other None is e = absurd cc
redo_reads h txn other (Some at) is e =
    by at.entry.live refl (first_reader at.entry.writes at.later) refl
    (first_moved at.before (links_to at.before at.entry.footprint) at.entry.seen) e where
      by : (live : Bool) → at.entry.live ≡ live → (o : Option TxnId) → first_reader at.entry.writes at.later ≡ o → (m : Option TxnId)
          → cond live (Some StillLive) (or_else (depends o) (moved_refusal m)) ≡ Some (Depends other) → IsReadBy h txn false other
      by true mark o is_o m e = absurd cc
      by false mark None is_o None e = absurd cc
      by false mark None is_o (Some n) e = absurd cc
      by false mark (Some n) is_o m e =
          let same : n ≡ other = cc in
          record {
            earlier = at.before;
            entry = at.entry;
            later = at.later;
            among = among_found h txn at false is mark;
            reader = reader_is at.entry.writes at.later other (is_o ∙ ap Some same);
          }

redo_moves : (h : History) (txn other : TxnId) (o : Option Found) → NamesDiffer h → found h txn ≡ o
    → redo_refusal_at o ≡ Some (Moved other) → IsMovedBy h txn other
redo_moves h txn other None named is e = absurd cc
redo_moves h txn other (Some at) named is e =
    by at.entry.live refl (first_reader at.entry.writes at.later) refl
    (first_moved at.before (links_to at.before at.entry.footprint) at.entry.seen) refl e where
      by : (live : Bool) → at.entry.live ≡ live → (o : Option TxnId) → first_reader at.entry.writes at.later ≡ o → (m : Option TxnId)
          → first_moved at.before (links_to at.before at.entry.footprint) at.entry.seen ≡ m
          → cond live (Some StillLive) (or_else (depends o) (moved_refusal m)) ≡ Some (Moved other) → IsMovedBy h txn other
      by true mark o is_o m is_m e = absurd cc
      by false mark (Some n) is_o m is_m e = absurd cc
      by false mark None is_o None is_m e = absurd cc
      by false mark None is_o (Some n) is_m e =
          let same : n ≡ other = cc in
          let among = among_found h txn at false is mark in
          record {
            earlier = at.before;
            entry = at.entry;
            later = at.later;
            among = among;
            unread = unread_is at.entry.writes at.later is_o;
            moved = first_moved_is at.before at.entry other (earlier_named h txn false at.before at.entry at.later named among)
                (is_m ∙ ap Some same);
          }

-- a redo's refusal, by the tests in order
redo_at : (h : History) (txn : TxnId) (earlier : List Entry) (entry : Entry) (later : List Entry) (o : Option TxnId) → NamesDiffer h
    → IsAmong h txn false earlier entry later → first_reader entry.writes later ≡ o
    → redo_refusal h txn ≡ or_else (depends o) (moved_refusal (first_moved earlier (links_to earlier entry.footprint) entry.seen))
redo_at h txn earlier entry later o named among is_o =
    ap redo_refusal_at (found_among h txn false earlier entry later named among)
    ∙ ap (λ b. cond b (Some StillLive) (or_else (depends (first_reader entry.writes later))
    (moved_refusal (first_moved earlier (links_to earlier entry.footprint) entry.seen)))) among.mark
    ∙ ap (λ r. or_else (depends r) (moved_refusal (first_moved earlier (links_to earlier entry.footprint) entry.seen))) is_o

redo_read_so : (h : History) (txn other : TxnId) → NamesDiffer h → IsReadBy h txn false other → redo_refusal h txn ≡ Some (Depends other)
redo_read_so h txn other named is =
    redo_at h txn is.earlier is.entry is.later (Some other) named is.among (reader_so is.entry.writes is.later other is.reader)

redo_moved_so : (h : History) (txn other : TxnId) → NamesDiffer h → IsMovedBy h txn other → redo_refusal h txn ≡ Some (Moved other)
redo_moved_so h txn other named is =
    redo_at h txn is.earlier is.entry is.later None named is.among (unread_so is.entry.writes is.later is.unread)
    ∙ ap moved_refusal (first_moved_so is.earlier is.entry other
    (earlier_named h txn false is.earlier is.entry is.later named is.among) is.moved)

abbrev MayRedo : BookFault → Type 0
MayRedo NoTxn = Unit {0}
MayRedo NotLive = ⊥
MayRedo StillLive = Unit {0}
MayRedo (Depends txn) = Unit {0}
MayRedo (Moved txn) = Unit {0}
MayRedo (Stale txn) = ⊥
MayRedo LogFull = ⊥
MayRedo NoMemory = ⊥
MayRedo Foreign = ⊥
MayRedo SessionFull = ⊥

redo_may : (o : Option Found) (fault : BookFault) → redo_refusal_at o ≡ Some fault → MayRedo fault
redo_may None fault e = let same : NoTxn ≡ fault = cc in subst MayRedo same tt
redo_may (Some at) fault e =
    by at.entry.live (first_reader at.entry.writes at.later)
    (first_moved at.before (links_to at.before at.entry.footprint) at.entry.seen) e where
      by : (live : Bool) (o m : Option TxnId) → cond live (Some StillLive) (or_else (depends o) (moved_refusal m)) ≡ Some fault
          → MayRedo fault
      by true o m e = let same : StillLive ≡ fault = cc in subst MayRedo same tt
      by false (Some n) m e = let same : Depends n ≡ fault = cc in subst MayRedo same tt
      by false None (Some n) e = let same : Moved n ≡ fault = cc in subst MayRedo same tt
      by false None None e = absurd cc

module _ (h : History) (session : ℕ) (txn other : TxnId) where
  redo_said : (fault : BookFault) → LogFull ≢ fault
      → out h (is_log_full h) (redo_refusal h txn) session (Redo txn) (after_redo h session txn) ≡ Err fault
      → (is_log_full h ≡ false) × (redo_refusal h txn ≡ Some fault)
  redo_said fault differs e =
      said h (is_log_full h) (redo_refusal h txn) session (Redo txn) (after_redo h session txn) fault differs e

  redo_told : (fault : BookFault) → HasRoom h → redo_refusal h txn ≡ Some fault
      → out h (is_log_full h) (redo_refusal h txn) session (Redo txn) (after_redo h session txn) ≡ Err fault
  redo_told fault has_room is =
      told h (is_log_full h) (redo_refusal h txn) session (Redo txn) (after_redo h session txn) fault (not_full h has_room) is

  redo_law : NamesDiffer h → RedoIsRefused h session txn other
  redo_law named = record {
    depends = (
      (λ e.
          let r = redo_said (Depends other) (λ same. cc) e in
          (room h r.0, redo_reads h txn other (found h txn) refl r.1)),
      (λ is. redo_told (Depends other) is.0 (redo_read_so h txn other named is.1)),
    );
    moved = (
      (λ e.
          let r = redo_said (Moved other) (λ same. cc) e in
          (room h r.0, redo_moves h txn other (found h txn) named refl r.1)),
      (λ is. redo_told (Moved other) is.0 (redo_moved_so h txn other named is.1)),
    );
    not_stale = λ e. redo_may (found h txn) (Stale other) (redo_said (Stale other) (λ same. cc) e).1;
    not_foreign = λ e. redo_may (found h txn) Foreign (redo_said Foreign (λ same. cc) e).1;
  }

pub redos_law : RedosAreRefusedForCause
redos_law h session txn other named = redo_law h session txn other named
