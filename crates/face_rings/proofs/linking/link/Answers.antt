use Rattle.std.proofs.Common.{◌≡◌, ◌+◌, ◌<◌, ◌≤◌, ℕ, Bool, true, false, ◌++◌, List, [], map, length, get_or, sym, ap, subst, ◌∙◌, arith}
use Rattle.std.specs.List.{AllByRecursion}
use Rattle.std.proofs.lemmas.List.{get_or_default}
use Rattle.lay_point.specs.declared.ring.TheConstants.{MAX_RING_POINTS}
use Rattle.face_ring_laws.specs.Linking.{linked_rings}
use Rattle.lay_point.specs.Edges.{undirected}
use Rattle.lay_point.specs.Parity.{odd}
use Rattle.lay_point.specs.RingEdges.{edges_of}
use Rattle.std.specs.Prelude.{All, Err, count_by}
use Rattle.std.proofs.lemmas.Result.{err_from_is_err_and}
use Rattle.face_rings.specs.declared.fault.LinkFault.TheVariants.{TooMany}
use Rattle.face_ring_laws.specs.Linked.{AreLinked}
use Rattle.face_ring_laws.proofs.CountLemmas.{rings_count, rings_odd}
use Rattle.face_ring_laws.proofs.StepLemmas.{all_linked, all_rings, all_sound, undirected_edges}
use Rattle.face_rings.proofs.LinkLemmas.{IsLinking, all_short, linking_ends, linking_first}
use Rattle.face_rings.proofs.LinkLemmas.{linking_goes_on, linking_skips, linking_sound, linking_too_long}
use Rattle.face_ring_laws.proofs.RingLaws.{AreSound}
use Rattle.face_rings.proofs.linking.link.Goals as goal
use Rattle.face_rings.proofs.linking.link.Goals.{then-not-index+in_ok-ring+in_ok-push, else-not-index}

pub loop-number-init : goal.loop-number-init
loop-number-init c =
    let edges = c.args.edges.now in
    let lesser = undirected_edges edges c.in_ok-unused.ensures.lesser in
    record {
      sound = c.in_ok-unused.ensures.sound;
      before = λ k lt. absurd (omega arith);
      whole = λ i. c.new-rings.ensures.items i ++ linked_rings (c.in_ok-unused.ensures.all i);
      rest = subst (λ l. AreSound (linked_rings l)) (sym c.in_ok-unused.ensures.all)
          (all_sound edges lesser c.requires.even c.requires.rising c.requires.in_range);
      short = subst (AllByRecursion (λ ring. length ring ≤ MAX_RING_POINTS)) (sym c.new-rings.ensures.items) tt;
    }

pub index-requires : goal.index-requires
index-requires c = omega (arith, c.loop-number.invariant.sound.marks, c.loop-number-test.true)

-- what the test of a mark answers
mark_is : (used : List Bool) (n : ℕ) (b m : Bool) → n < length used → b ≡ get_or used n b → b ≡ m → get_or used n true ≡ m
mark_is used n b m less is_b same = get_or_default used n true b less ∙ sym is_b ∙ same

pub next_ring-requires-clause-first : goal.next_ring-requires-clause-first
next_ring-requires-clause-first c =
    let h = c.loop-number.invariant in
    linking_first c.args.edges.now c.loop-number.unused c.loop-number.number c.loop-number.rings.items h c.loop-number-test.true
    (mark_is c.loop-number.unused.used.items c.loop-number.number c.index.result.now false
    (omega (arith, h.sound.marks, c.loop-number-test.true))
    c.index.ensures c.if-not-index.true)

pub next_ring-requires-clause-ring : goal.next_ring-requires-clause-ring
next_ring-requires-clause-ring c =
    let h = c.loop-number.invariant in
    linking_sound c.args.edges.now c.loop-number.unused c.loop-number.number c.loop-number.rings.items h c.loop-number-test.true
    (mark_is c.loop-number.unused.used.items c.loop-number.number c.index.result.now false
    (omega (arith, h.sound.marks, c.loop-number-test.true))
    c.index.ensures c.if-not-index.true)

pub loop-number-preserved : goal.loop-number-preserved
loop-number-preserved c =
    let edges = c.args.edges.now in
    let n = c.loop-number.number in
    let h = c.loop-number.invariant in
    let unused = c.loop-number.unused in
    let inside : n < length unused.used.items = omega (arith, h.sound.marks, c.loop-number-test.true) in
    elim c.if-not-index.branch [
      | then-not-index+in_ok-ring+in_ok-push w ↦
          let here = mark_is unused.used.items n c.index.result.now false inside c.index.ensures w.if-not-index.true in
          let next =
          linking_goes_on edges unused w.next_ring.new.unused n c.loop-number.rings.items w.push.new.self.items w.in_ok-ring.ring h
          c.loop-number-test.true here w.in_ok-ring.ensures.sound w.in_ok-ring.ensures.kept w.in_ok-ring.ensures.marked
          w.in_ok-ring.ensures.ring w.in_ok-ring.ensures.left w.in_ok-ring.ensures.short w.in_ok-push.ensures.items in
          coe 1 0 (k. IsLinking edges (w.unused-is k) (n + 1) (w.rings-is k).items) next
      | else-not-index w ↦
          let here = mark_is unused.used.items n c.index.result.now true inside c.index.ensures w.if-not-index.false in
          let next = linking_skips edges unused n c.loop-number.rings.items h here in
          coe 1 0 (k. IsLinking edges (w.unused-is k) (n + 1) (w.rings-is k).items) next
    ]

pub returns-in_err-ring-clause-too_many : goal.returns-in_err-ring-clause-too_many
returns-in_err-ring-clause-too_many c = λ e.
    let h = c.loop-number.invariant in
    let p = err_from_is_err_and c.from_residual-in_err-ring.result c.from_residual-in_err-ring.ensures.1 in
    let too_many : c.next_ring.result ≡ Err TooMany = cc (c.in_err-ring.was, p.1, p.2, e) in
    linking_too_long c.args.edges.now c.loop-number.unused c.loop-number.number c.loop-number.rings.items h c.loop-number-test.true
    (mark_is c.loop-number.unused.used.items c.loop-number.number c.index.result.now false
    (omega (arith, h.sound.marks, c.loop-number-test.true))
    c.index.ensures c.if-not-index.true) (c.next_ring.ensures.too_many too_many)

pub returns-clause-value : goal.returns-clause-value
returns-clause-value c = linking_ends c.args.edges.now c.loop-number.unused c.loop-number.number c.loop-number.rings.items
    c.loop-number.invariant c.loop-number-test.false

pub returns-clause-linked : goal.returns-clause-linked
returns-clause-linked c =
    let edges = c.args.edges.now in
    let value = linking_ends edges c.loop-number.unused c.loop-number.number c.loop-number.rings.items c.loop-number.invariant
    c.loop-number-test.false in
    subst (AreLinked edges []) (sym value) (all_linked edges (undirected_edges edges c.in_ok-unused.ensures.lesser) c.requires.even
    c.requires.rising)

pub returns-clause-once : goal.returns-clause-once
returns-clause-once c =
    let edges = c.args.edges.now in
    let lesser = undirected_edges edges c.in_ok-unused.ensures.lesser in
    let value = linking_ends edges c.loop-number.unused c.loop-number.number c.loop-number.rings.items c.loop-number.invariant
    c.loop-number-test.false in
    λ test. ap (λ rs. count_by test (map undirected (edges_of rs))) value
    ∙ rings_count test edges (linked_rings edges) (all_rings edges lesser c.requires.even) lesser

pub returns-clause-parity : goal.returns-clause-parity
returns-clause-parity c =
    let edges = c.args.edges.now in
    let lesser = undirected_edges edges c.in_ok-unused.ensures.lesser in
    let value = linking_ends edges c.loop-number.unused c.loop-number.number c.loop-number.rings.items c.loop-number.invariant
    c.loop-number-test.false in
    λ k x y. ap (λ rs. odd (edges_of rs) k x y) value ∙ rings_odd edges (linked_rings edges) (all_rings edges lesser c.requires.even)
    lesser k x y

pub returns-clause-short : goal.returns-clause-short
returns-clause-short c =
    let value = linking_ends c.args.edges.now c.loop-number.unused c.loop-number.number c.loop-number.rings.items
    c.loop-number.invariant c.loop-number-test.false in
    subst (All (λ r. length r ≤ MAX_RING_POINTS)) value (all_short c.loop-number.rings.items c.loop-number.invariant.short)
