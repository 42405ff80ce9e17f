-- The steps are those of the definition, and what linking requires holds of an operation's edges.
use Rattle.std.proofs.Common.{inr, sym, ap, subst, ◌∙◌}
use Rattle.lay_point.specs.Memory.{IsAnswer}
use Rattle.layer_ops.specs.declared.fault.OpFault.TheVariants.{NoMemory}
use Rattle.layer_ops.specs.Combining.{shape_lists, shaped}
use Rattle.layer_ops.proofs.Combined.{are_linkable, edges_are, few_sides, places_are, too_many_sides}
use Rattle.layer_ops.proofs.combining.combine.Goals as goal

pub returns-then-not-are_few-clause-answer : goal.returns-then-not-are_few-clause-answer
returns-then-not-are_few-clause-answer g c =
    inr (sym (too_many_sides c.args.op c.args.a.now c.args.b.now (sym c.are_few.ensures ∙ c.if-not-are_few.true)))

pub shapes-requires : goal.shapes-requires
shapes-requires g c =
    let inputs = c.in_ok-inputs.ensures in
    let same = edges_are c.args.op c.args.a.now c.args.b.now c.in_ok-inputs.inputs c.in_ok-edges.edges.items c.deref.result.now inputs.value
    c.in_ok-edges.ensures c.deref.ensures.value in
    let h = are_linkable c.args.op c.args.a.now c.args.b.now c.deref.result.now inputs.first inputs.second same in
    record { rising = h.rising; in_range = h.in_range; even = h.even }

pub returns-clause-answer : goal.returns-clause-answer
returns-clause-answer g c =
    let same = edges_are c.args.op c.args.a.now c.args.b.now c.in_ok-inputs.inputs c.in_ok-edges.edges.items c.deref.result.now
    c.in_ok-inputs.ensures.value c.in_ok-edges.ensures c.deref.ensures.value in
    subst (IsAnswer NoMemory (shape_lists c.shapes.result))
    (ap shaped same ∙ sym (few_sides c.args.op c.args.a.now c.args.b.now (sym c.are_few.ensures ∙ c.if-not-are_few.false)))
    c.shapes.ensures

pub returns-clause-places : goal.returns-clause-places
returns-clause-places g c =
    places_are c.args.op c.args.a.now c.args.b.now c.shapes.result c.in_ok-inputs.ensures.first c.in_ok-inputs.ensures.second
    (returns-clause-answer g c)
