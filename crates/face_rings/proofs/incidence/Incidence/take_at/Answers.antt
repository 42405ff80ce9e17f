-- Each way out of a search follows from where it ended.
use Rattle.std.proofs.Common.{◌≡◌, ◌≤◌, ◌<◌, ℕ, Bool, true, false, List, length, get_or, refl, sym, ap, subst, arith}
use Rattle.std.proofs.lemmas.List.{get_or_default}
use Rattle.face_rings.specs.declared.incidence.End.{End}
use Rattle.face_rings.specs.Incidence.{AreEndsOf, IsUsedAt}
use Rattle.face_ring_laws.specs.Linking.{Ends}
use Rattle.face_rings.proofs.IncidenceLemmas.{marks_kept, not_other, other, search_found}
use Rattle.face_rings.proofs.IncidenceLemmas.{search_kept, search_marked, search_over, search_passed, searched}
use Rattle.face_rings.proofs.incidence.Incidence.take_at.Goals as goal

in_edges : (edges : List Ends) (ends all : List End) (used marks : List Bool) → AreEndsOf edges ends → length used ≡ length edges
    → all ≡ ends → marks ≡ used → (k : ℕ) (d : End) → k < length all → (get_or all k d).edge < length marks
in_edges edges ends all used marks h count same same_marks k d less =
    let lt : k < length ends = subst (λ l. k < length l) same less in
    let own = (h.exact (get_or ends k d)).0 (k, lt, sym (get_or_default ends k d (get_or ends k d) lt)) in
    coe 1 0 (i. (get_or (same i) k d).edge < length (same_marks i)) (omega (arith, own.0, count))

passed_of : (from index : ℕ) (all ends : List End) (marks used : List Bool) → all ≡ ends → marks ≡ used
    → ((k : ℕ) → from ≤ k → k < index → IsUsedAt marks all k) → (k : ℕ) → from ≤ k → k < index → IsUsedAt used ends k
passed_of from index all ends marks used same same_marks h =
    coe 0 1 (i. (k : ℕ) → from ≤ k → k < index → IsUsedAt (same_marks i) (same i) k) h

pub first_unused-index-requires : goal.first_unused-index-requires
first_unused-index-requires c =
    in_edges c.args.edges.now c.args.self.now.ends.items _ c.args.self.now.used.items _ c.requires.sound.ends c.requires.sound.marks
    c.deref.ensures.value c.deref-2.ensures.value

pub returns-then-index-len-clause-sound : goal.returns-then-index-len-clause-sound
returns-then-index-len-clause-sound c =
    let i = c.args.self.now in
    let first = c.args.stop.first in
    let index = c.first_unused-index.result in
    let less : first < length i.cursors.items = omega (arith, c.requires.sound.cursors, c.requires.first.inside) in
    let s = searched c.args.edges.now i c.requires.sound c.args.stop.at first c.index.result.now c.max.result index less
    c.requires.first c.index.ensures c.max.ensures
    c.first_unused-index.ensures.reached
    (passed_of c.max.result index _ i.ends.items _ i.used.items c.deref.ensures.value c.deref-2.ensures.value
    c.first_unused-index.ensures.passed) in
    search_kept c.args.edges.now i c.requires.sound c.args.stop.at first index less s

pub returns-then-index-len-clause-taken : goal.returns-then-index-len-clause-taken
returns-then-index-len-clause-taken c =
    let i = c.args.self.now in
    let first = c.args.stop.first in
    let index = c.first_unused-index.result in
    let less : first < length i.cursors.items = omega (arith, c.requires.sound.cursors, c.requires.first.inside) in
    let s = searched c.args.edges.now i c.requires.sound c.args.stop.at first c.index.result.now c.max.result index less
    c.requires.first c.index.ensures c.max.ensures
    c.first_unused-index.ensures.reached
    (passed_of c.max.result index _ i.ends.items _ i.used.items c.deref.ensures.value c.deref-2.ensures.value
    c.first_unused-index.ensures.passed) in
    let over : length i.ends.items ≤ index = omega (arith, c.if-index-len.true, c.len.ensures) in
    (search_over c.args.edges.now i.ends.items i.used.items c.args.stop.at first index s over, refl)

pub returns-then-ne-clause-sound : goal.returns-then-ne-clause-sound
returns-then-ne-clause-sound c =
    let i = c.args.self.now in
    let first = c.args.stop.first in
    let index = c.first_unused-index.result in
    let less : first < length i.cursors.items = omega (arith, c.requires.sound.cursors, c.requires.first.inside) in
    let s = searched c.args.edges.now i c.requires.sound c.args.stop.at first c.index.result.now c.max.result index less
    c.requires.first c.index.ensures c.max.ensures
    c.first_unused-index.ensures.reached
    (passed_of c.max.result index _ i.ends.items _ i.used.items c.deref.ensures.value c.deref-2.ensures.value
    c.first_unused-index.ensures.passed) in
    search_kept c.args.edges.now i c.requires.sound c.args.stop.at first index less s

pub returns-then-ne-clause-taken : goal.returns-then-ne-clause-taken
returns-then-ne-clause-taken c =
    let i = c.args.self.now in
    let first = c.args.stop.first in
    let index = c.first_unused-index.result in
    let less : first < length i.cursors.items = omega (arith, c.requires.sound.cursors, c.requires.first.inside) in
    let s = searched c.args.edges.now i c.requires.sound c.args.stop.at first c.index.result.now c.max.result index less
    c.requires.first c.index.ensures c.max.ensures
    c.first_unused-index.ensures.reached
    (passed_of c.max.result index _ i.ends.items _ i.used.items c.deref.ensures.value c.deref-2.ensures.value
    c.first_unused-index.ensures.passed) in
    let inside : index < length i.ends.items = omega (arith, c.if-index-len.false, c.len.ensures) in (
      search_passed c.args.edges.now i.ends.items i.used.items c.args.stop.at first index s c.index-2.result.now inside c.index-2.ensures
          (other c.index-2.result.now.at c.args.stop.at c.if-ne.ensures),
      refl,
    )

pub returns-clause-sound : goal.returns-clause-sound
returns-clause-sound c =
    let i = c.args.self.now in
    let first = c.args.stop.first in
    let index = c.first_unused-index.result in
    let less : first < length i.cursors.items = omega (arith, c.requires.sound.cursors, c.requires.first.inside) in
    let s = searched c.args.edges.now i c.requires.sound c.args.stop.at first c.index.result.now c.max.result index less
    c.requires.first c.index.ensures c.max.ensures
    c.first_unused-index.ensures.reached
    (passed_of c.max.result index _ i.ends.items _ i.used.items c.deref.ensures.value c.deref-2.ensures.value
    c.first_unused-index.ensures.passed) in
    let inside : index < length i.ends.items = omega (arith, c.if-index-len.false, c.len.ensures) in
    let own = (c.requires.sound.ends.exact c.index-2.result.now).0 (index, inside, sym c.index-2.ensures) in
    search_marked c.args.edges.now i c.requires.sound c.args.stop.at first index c.index-2.result.now.edge less
    (omega (arith, own.0, c.requires.sound.marks)) s

pub returns-clause-taken : goal.returns-clause-taken
returns-clause-taken c =
    let i = c.args.self.now in
    let first = c.args.stop.first in
    let index = c.first_unused-index.result in
    let less : first < length i.cursors.items = omega (arith, c.requires.sound.cursors, c.requires.first.inside) in
    let s = searched c.args.edges.now i c.requires.sound c.args.stop.at first c.index.result.now c.max.result index less
    c.requires.first c.index.ensures c.max.ensures
    c.first_unused-index.ensures.reached
    (passed_of c.max.result index _ i.ends.items _ i.used.items c.deref.ensures.value c.deref-2.ensures.value
    c.first_unused-index.ensures.passed) in
    let inside : index < length i.ends.items = omega (arith, c.if-index-len.false, c.len.ensures) in
    let end = c.index-2.result.now in
    let lt : index < length c.deref.result.now = omega (arith, inside, ap length c.deref.ensures.value) in
    let left : get_or i.used.items end.edge true ≡ false =
    subst (λ z. get_or i.used.items z.edge true ≡ false) (sym c.index-2.ensures)
    (coe 0 1 (k. get_or (c.deref-2.ensures.value k) (get_or (c.deref.ensures.value k) index end).edge true ≡ false)
    (c.first_unused-index.ensures.stopped end lt)) in
    let own = (c.requires.sound.ends.exact end).0 (index, inside, sym c.index-2.ensures) in (
      own.0,
      (λ d. search_found c.args.edges.now i.ends.items i.used.items c.args.stop.at first index s c.requires.sound.marks end d inside
          c.index-2.ensures (not_other end.at c.args.stop.at c.if-ne.ensures) left),
    )

pub returns-clause-kept : goal.returns-clause-kept
returns-clause-kept c =
    let i = c.args.self.now in
    let index = c.first_unused-index.result in
    let inside : index < length i.ends.items = omega (arith, c.if-index-len.false, c.len.ensures) in
    let own = (c.requires.sound.ends.exact c.index-2.result.now).0 (index, inside, sym c.index-2.ensures) in
    marks_kept i.used.items c.index-2.result.now.edge (omega (arith, own.0, c.requires.sound.marks))
