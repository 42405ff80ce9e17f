use Rattle.std.proofs.Common.{map, sym, subst, Contains}
use Rattle.std.proofs.lemmas.List.Sorted.{Contains-permutation, IsPermutation-sym}
use Rattle.lay_point.proofs.Members.{contains}
use Rattle.snap_chains.specs.Passes.{visit_at}
use Rattle.snap_chains.specs.Reading.{IsReadOff, IsView}
use Rattle.snap_chains.proofs.ReadLemmas.{read_permuted}
use Rattle.snap_chains.proofs.ViewLemmas.{view_of}
use Rattle.snap_chains.proofs.reading.read.Goals as goal

pub read_sorted-requires-clause-inside : goal.read_sorted-requires-clause-inside
read_sorted-requires-clause-inside g c = λ p m.
    c.requires.inside p (Contains-permutation c.sorted_in_threads-sorted.result.items c.args.passes.items p
    (IsPermutation-sym c.args.passes.items c.sorted_in_threads-sorted.result.items c.sorted_in_threads-sorted.ensures.permutation)
    (subst (λ l. Contains l p) c.as_slice.ensures.value m))

pub returns-clause-view : goal.returns-clause-view
returns-clause-view g c =
    let hot = c.args.centres.now in
    let passes = c.args.passes.items in
    let sorted = c.sorted_in_threads-sorted.result.items in
    let owners = c.in_ok-found.found.1 in
    let found = subst (λ l. IsReadOff hot l c.in_ok-found.found.0.items owners) c.as_slice.ensures.value c.in_ok-found.ensures.read in
    subst (λ l. IsView (map (visit_at hot) passes) l owners) (sym found.edges_are)
    (view_of hot c.requires.rising passes (λ p m. c.requires.inside p (contains passes p m)) found.ends owners
    (read_permuted passes sorted found.ends owners c.sorted_in_threads-sorted.ensures.permutation found.read))
