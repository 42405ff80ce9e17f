use Rattle.std.proofs.Common.{◌≡◌, ◌∙◌, ◌∷◌, ◌||◌, Bool, List, ap, drop, rules, sym}
use Rattle.std.specs.List.{list_any}
use Rattle.txn_commands.specs.declared.element.Element.{Element}
use Rattle.undo_rules.specs.Links.{Entry}
use Rattle.undo_book.specs.Indexed.{wrote}
use Rattle.undo_book.proofs.IndexedLemmas.{linked_past, writer_past}
use Rattle.undo_book.proofs.links.is_written_from.Goals as goal

-- one of the transactions wrote one of the elements
abbrev some_wrote : List Entry → List Element → Bool
some_wrote es elements = list_any (λ e. list_any (wrote e) es) elements

pub loop-element-init : goal.loop-element-init
loop-element-init c =
    let keys : c.into_iter-element-iterator.result ≡ c.elements-element-items.result.now.keys = search rules in
    ap (some_wrote (drop c.args.from c.args.entries.now)) keys
    ∙ linked_past (drop c.args.from c.args.entries.now) c.elements-element-items.result.now.keys c.args.footprint.now
    c.elements-element-items.ensures

pub returns-then-is_some : goal.returns-then-is_some
returns-then-is_some c =
    let es = drop c.args.from c.args.entries.now in
    let left : List Element = c.next.new.self in
    let e = c.in-Some.element.now in
    let rest : c.loop-element.element-iterator ≡ e ∷ left = search rules in
    let here = sym (writer_past c.args.entries.now e c.args.from c.first_writer_of.result c.first_writer_of.ensures)
    ∙ sym c.is_some.ensures ∙ c.if-is_some.true in
    sym (ap (λ b. b || some_wrote es left) here) ∙ sym (ap (some_wrote es) rest) ∙ c.loop-element.invariant

pub loop-element-preserved : goal.loop-element-preserved
loop-element-preserved c =
    let es = drop c.args.from c.args.entries.now in
    let left : List Element = c.next.new.self in
    let e = c.in-Some.element.now in
    let rest : c.loop-element.element-iterator ≡ e ∷ left = search rules in
    let gone = sym (writer_past c.args.entries.now e c.args.from c.first_writer_of.result c.first_writer_of.ensures)
    ∙ sym c.is_some.ensures ∙ c.if-is_some.false in
    sym (ap (λ b. b || some_wrote es left) gone) ∙ sym (ap (some_wrote es) rest) ∙ c.loop-element.invariant
