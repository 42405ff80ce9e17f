use Rattle.std.proofs.Common.{◌≡◌, ◌++◌, [], ◌∷◌, ◌∙◌, ap, sym, subst, arith, length}
use Rattle.std.specs.Prelude.{All, replicate}
use Rattle.std.proofs.lemmas.List.Elements.{All-replicate}
use Rattle.snap_chains.specs.declared.owner_lists.Part.{Part}
use Rattle.snap_chains.specs.OwnerLists.{IsInside, owner_lists_of}
use Rattle.snap_chains.proofs.ListLemmas.{no_lists}
use Rattle.snap_chains.proofs.OwnerLemmas.{replicate_more}
use Rattle.snap_chains.proofs.owner_lists.OwnerLists.empty.Goals as goal

pub loop-preserved : goal.loop-preserved
loop-preserved c =
    let none : Part = record { from = 0; to = 0 } in
    c.in_ok-push.ensures.items ∙ ap (λ l. l ++ none ∷ []) c.loop.invariant ∙ sym (replicate_more c.loop.counter none)

pub invariant_of-result : goal.invariant_of-result
invariant_of-result c =
    let none : Part = record { from = 0; to = 0 } in
    let n = length c.new.result.items in
    subst (All (IsInside n)) (sym c.loop.invariant) (All-replicate (IsInside n) c.loop.counter none (omega arith, omega arith))

pub returns : goal.returns
returns c =
    let all : c.loop.counter ≡ c.args.count = omega (arith, c.loop-test.false, c.loop.auto) in
    (λ i. owner_lists_of (c.new.ensures.items i) (c.loop.invariant i)) ∙ no_lists c.loop.counter ∙ ap (λ n. replicate n []) all
