use Rattle.std.proofs.Common.{◌≡◌, ◌∙◌, [], ap, is_eq, rules, sym}
use Rattle.lay_layouts.specs.IdOrder.{ids_exact, ids_total}
use Rattle.lay_layouts.specs.Ids.{id_cmp}
use Rattle.undo_index.proofs.UnderLemmas.{IsFrom, first_apart, first_empty, first_same}
use Rattle.undo_index.proofs.under.first_under.Goals as goal

pub returns-in-Some : goal.returns-in-Some
returns-in-Some c =
    let facts = c.range.ensures.in_range tt in
    let is : IsFrom id_cmp c.args.pairs.now c.args.id c.args.from c.range.result =
    record { within = facts.1; least = facts.2; none = facts.5 } in
    first_same ids_total ids_exact c.args.pairs.now c.args.id c.args.from c.range.result is c.in-Some.field-0.now
    c.next.new.self c.in-Some.ensures.steps (sym (c.is_eq.ensures ∙ ap is_eq c.cmp.ensures) ∙ c.if-is_eq.true)

pub returns-in_default : goal.returns-in_default
returns-in_default c =
    let facts = c.range.ensures.in_range tt in
    let is : IsFrom id_cmp c.args.pairs.now c.args.id c.args.from c.range.result =
    record { within = facts.1; least = facts.2; none = facts.5 } in
    first_apart ids_total ids_exact c.args.pairs.now c.args.id c.args.from c.range.result is c.in-Some.field-0.now
    c.next.new.self c.in-Some.ensures.steps (sym (c.is_eq.ensures ∙ ap is_eq c.cmp.ensures) ∙ c.if-is_eq.false)

pub returns-in_default-2 : goal.returns-in_default-2
returns-in_default-2 c =
    let facts = c.range.ensures.in_range tt in
    let is : IsFrom id_cmp c.args.pairs.now c.args.id c.args.from c.range.result =
    record { within = facts.1; least = facts.2; none = facts.5 } in
    let empty : c.range.result ≡ [] = search rules in
    first_empty ids_total ids_exact c.args.pairs.now c.args.id c.args.from c.range.result is empty
