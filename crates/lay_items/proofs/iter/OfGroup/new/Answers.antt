use Rattle.std.proofs.Common.{◌≡◌, ◌∙◌, List, ap, subst, sym}
use Rattle.lay_layouts.specs.declared.id.ItemId.{ItemId}
use Rattle.lay_items.specs.Runs.{AreLast, HeldItem, from_mark, least_id, next_mark, of_group}
use Rattle.lay_items.proofs.RunLemmas.{first_jump}
use Rattle.lay_items.proofs.iter.OfGroup.new.Goals as goal

pub invariant_of-result : goal.invariant_of-result
invariant_of-result c =
    let items = c.args.items.now in
    let marks = c.args.marks.now in
    let is : c.from_next-rest.result ≡ from_mark (next_mark c.args.group least_id marks) items =
    c.from_next-rest.ensures ∙ ap (λ (id : ItemId). from_mark (next_mark c.args.group id marks) items) c.least_id.ensures in
    record {
      ids = c.requires.sorted;
      runs = c.requires.runs;
      last = subst (λ (es : List HeldItem). AreLast es items) (sym is)
          (first_jump c.args.by c.args.group marks items c.requires.sorted c.requires.runs).last;
    }

pub returns : goal.returns
returns c =
    let items = c.args.items.now in
    let marks = c.args.marks.now in
    ap (of_group c.args.by c.args.group)
    (c.from_next-rest.ensures ∙ ap (λ (id : ItemId). from_mark (next_mark c.args.group id marks) items) c.least_id.ensures)
    ∙ sym (first_jump c.args.by c.args.group marks items c.requires.sorted c.requires.runs).same
