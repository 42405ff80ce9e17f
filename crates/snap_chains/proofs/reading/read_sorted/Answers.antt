use Rattle.std.proofs.Common.{◌≡◌, ◌∙◌, ◌++◌, ◌∷◌, [], arith, get_or, length, rules, sym, ap, subst}
use Rattle.std.proofs.lemmas.List.{nil_from_length}
use Rattle.snap_chains.specs.declared.pass.Pass.{Pass}
use Rattle.std.specs.List.{AllZip}
use Rattle.std.specs.List.Sorted.{IsSorted}
use Rattle.snap_chains.specs.Reading.{numbered_edge, IsOddAdded, pass_cmp}
use Rattle.snap_chains.specs.RowOrder.{IsSpanBy}
use Rattle.snap_chains.proofs.ReadLemmas.{IsReading, reading_end, reading_more, reading_start, sorted_take}
use Rattle.snap_chains.proofs.SpanLemmas.{first_inside, spans_push}
use Rattle.snap_chains.proofs.reading.read_sorted.Goals as goal

pub loop-first-init : goal.loop-first-init
loop-first-init c = record {
  read = coe 1 0 (i. IsReading c.args.centres.now c.args.passes.now c.args.passes.now (c.in_ok-edges.ensures.items i)
      (c.in_ok-owners.ensures.items i) (c.in_ok-parts.ensures.items i))
      (reading_start c.args.centres.now c.args.passes.now c.requires.sorted);
  spans = coe 1 0 (i. AllZip (IsSpanBy c.args.centres.now c.args.ranks.now)
      (c.in_ok-edges.ensures.items i) (c.in_ok-spans.ensures.items i)) tt;
}

pub edge_at-requires-clause-inside : goal.edge_at-requires-clause-inside
edge_at-requires-clause-inside c =
    let rest = c.loop-first.rest.now in
    let first = c.in-Some.first.now in
    let whole : rest ≡ first ∷ c.in-Some.field-0-1.now = search rules in
    first_inside c.args.centres.now c.args.passes.now c.requires.inside rest c.loop-first.edges.items c.loop-first.owners.items
    c.loop-first.parts.items c.loop-first.invariant.read first c.in-Some.field-0-1.now whole

pub span_at-requires : goal.span_at-requires
span_at-requires c =
    let rest = c.loop-first.rest.now in
    let first = c.in-Some.first.now in
    let whole : rest ≡ first ∷ c.in-Some.field-0-1.now = search rules in
    let both = first_inside c.args.centres.now c.args.passes.now c.requires.inside rest c.loop-first.edges.items c.loop-first.owners.items
    c.loop-first.parts.items c.loop-first.invariant.read first c.in-Some.field-0-1.now whole in
    (omega (arith, both, c.requires.ranked), omega (arith, both, c.requires.ranked))

pub loop-first-preserved : goal.loop-first-preserved
loop-first-preserved c =
    let rest = c.loop-first.rest.now in
    let first = c.in-Some.first.now in
    let n = c.group_length.result in
    let whole : rest ≡ first ∷ c.in-Some.field-0-1.now = search rules in
    let is_first : (d : Pass) → get_or rest 0 d ≡ first = λ d. ap (λ l. get_or l 0 d) whole in
    let added = subst (λ l. IsOddAdded l (numbered_edge first) c.loop-first.owners.items c.add_odd.new.owners.items)
    c.split_at.ensures.front c.in_ok-add_odd.ensures in
    let odd = added.0 in
    let from : c.in_ok-from.from ≡ length c.loop-first.owners.items = c.in_ok-from.ensures in
    let to : c.in_ok-to.to ≡ length (c.loop-first.owners.items ++ odd) = c.in_ok-to.ensures ∙ ap length added.1 in
    let next = reading_more c.args.centres.now c.args.passes.now rest c.loop-first.edges.items c.loop-first.owners.items
    c.loop-first.parts.items n first odd
    (record { from = c.in_ok-from.from; to = c.in_ok-to.to })
    c.loop-first.invariant.read c.group_length.ensures is_first added.2 from to in
    let edges = c.in_ok-push-2.ensures.items ∙ ap (λ v. c.loop-first.edges.items ++ v ∷ []) c.edge_at.ensures in
    let spans = c.in_ok-push-3.ensures.items ∙ ap (λ v. c.loop-first.spans.items ++ v ∷ []) c.span_at.ensures in
    let both = first_inside c.args.centres.now c.args.passes.now c.requires.inside rest c.loop-first.edges.items c.loop-first.owners.items
    c.loop-first.parts.items c.loop-first.invariant.read first c.in-Some.field-0-1.now whole in
    record {
      read = coe 1 0 (i. IsReading c.args.centres.now c.args.passes.now (c.split_at.ensures.back i) (edges i) (added.1 i)
          (c.in_ok-push.ensures.items i)) next;
      spans = coe 1 0 (i. AllZip (IsSpanBy c.args.centres.now c.args.ranks.now) (edges i) (spans i))
          (spans_push c.args.centres.now c.args.ranks.now c.loop-first.edges.items c.loop-first.spans.items first both
          c.loop-first.invariant.spans);
    }

pub add_odd-requires-clause-sorted : goal.add_odd-requires-clause-sorted
add_odd-requires-clause-sorted c =
    subst (IsSorted pass_cmp) (sym c.split_at.ensures.front)
    (sorted_take c.loop-first.rest.now c.group_length.result c.loop-first.invariant.read.sorted)

pub returns-clause-read : goal.returns-clause-read
returns-clause-read c =
    let zero : length c.loop-first.rest.now ≡ 0 = search rules in
    reading_end c.args.centres.now c.args.passes.now c.loop-first.rest.now c.loop-first.edges.items c.loop-first.owners.items
    c.loop-first.parts.items c.loop-first.invariant.read (nil_from_length c.loop-first.rest.now zero)
