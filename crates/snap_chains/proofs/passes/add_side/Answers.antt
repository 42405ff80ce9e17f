use Rattle.std.proofs.Common.{◌≡◌, ◌∙◌, ◌+◌, ◌-◌, ◌<◌, ◌++◌, inl, length, sym, ap, subst, arith}
use Rattle.std.specs.List.{range_with_len}
use Rattle.std.proofs.lemmas.Option.{slice_get_within}
use Rattle.snap_slabs.specs.Runs.{IsSide}
use Rattle.snap_chains.specs.Passes.{IsSideAdded, passes_by}
use Rattle.snap_chains.proofs.PassLemmas.{side_added, in_range}
use Rattle.snap_chains.proofs.passes.add_side.Goals as goal

pub column-first-requires-clause-from : goal.column-first-requires-clause-from
column-first-requires-clause-from c =
    subst (λ l. c.args.from < length l) (sym c.centres.view_is)
    (slice_get_within c.args.centres.now c.args.from c.args.side.now.a c.requires.side.0)

pub column-first-requires-clause-to : goal.column-first-requires-clause-to
column-first-requires-clause-to c =
    subst (λ l. c.args.to < length l) (sym c.centres.view_is)
    (slice_get_within c.args.centres.now c.args.to c.args.side.now.b c.requires.side.1)

pub returns-then-is_upright : goal.returns-then-is_upright
returns-then-is_upright c =
    let s = c.args.side.now in
    let hot = c.centres.inside.numbers in
    let first = c.column-first.result.0 in
    let last = c.column-first.result.1 in
    let upright : s.a.x ≡ s.b.x = c.is_upright.ensures.0 c.if-is_upright.true in
    let side : IsSide hot s c.args.from c.args.to = subst (λ l. IsSide l s c.args.from c.args.to) (sym c.centres.view_is) c.requires.side in
    subst (λ l. IsSideAdded l s c.args.owner c.args.passes.now.items c.extend_by_column.new.passes.items) c.centres.view_is
    (side_added hot c.column-first.ensures.rising s c.args.owner (range_with_len first (last + 1 - first)) _ _
    (λ k m. let r = in_range first (last + 1 - first) k m in omega
    (arith, r, c.column-first.ensures.inside, c.column-first.ensures.ordered))
    (c.column-first.ensures.run s side upright) c.in_ok-extend_by_column.ensures)

pub row-row-requires-clause-from : goal.row-row-requires-clause-from
row-row-requires-clause-from c =
    subst (λ l. c.args.from < length l) (sym c.centres.view_is)
    (slice_get_within c.args.centres.now c.args.from c.args.side.now.a c.requires.side.0)

pub row-row-requires-clause-to : goal.row-row-requires-clause-to
row-row-requires-clause-to c =
    subst (λ l. c.args.to < length l) (sym c.centres.view_is)
    (slice_get_within c.args.centres.now c.args.to c.args.side.now.b c.requires.side.1)

pub returns-then-is_level : goal.returns-then-is_level
returns-then-is_level c =
    let s = c.args.side.now in
    let hot = c.centres.inside.numbers in
    let level : s.a.y ≡ s.b.y = c.is_level.ensures.0 c.if-is_level.true in
    let side : IsSide hot s c.args.from c.args.to = subst (λ l. IsSide l s c.args.from c.args.to) (sym c.centres.view_is) c.requires.side in
    subst (λ l. IsSideAdded l s c.args.owner c.args.passes.now.items c.extend_by_numbers.new.passes.items) c.centres.view_is
    (side_added hot c.row-row.ensures.rising s c.args.owner c.row-row.result.now _ _
    c.row-row.ensures.inside (c.row-row.ensures.run s side level) c.in_ok-extend_by_numbers.ensures)

pub returns : goal.returns
returns c =
    let s = c.args.side.now in
    let added = c.in_ok-extend_by_numbers-2.ensures
    ∙ ap (λ l. c.args.passes.now.items ++ passes_by c.args.owner l) c.as_slice.ensures.value in
    side_added c.args.centres.now c.requires.rising s c.args.owner c.put_chain.new.room.numbers.items _ _
    c.in_ok-put_chain.ensures.inside (inl c.in_ok-put_chain.ensures.chain) added
