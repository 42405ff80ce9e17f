use Rattle.std.proofs.Common.{◌∙◌, ◌+◌, List, ap, subst, sym, take}
use Rattle.std.specs.Prelude.{option_copied}
use Rattle.std.proofs.lemmas.List.{take_all}
use Rattle.lay_pages.proofs.RisingLemmas.{sorted_all}
use Rattle.lay_pages.specs.Written.{last_entry, lent_entry, lower, written_all}
use Rattle.lay_layouts.specs.IdOrder.{ids_exact, ids_total}
use Rattle.lay_layouts.specs.Ids.{id_cmp}
use Rattle.lay_items.specs.declared.group.By.TheVariants.{Cell, Layer}
use Rattle.lay_items.specs.Runs.{AreHeld, HeldItem}
use Rattle.lay_items.proofs.SiteLemmas.{runs_more}
use Rattle.lay_items.proofs.runs.Runs.with_all.Goals as goal

-- one write more
pub loop-id-preserved : goal.loop-id-preserved
loop-id-preserved c =
    let es = c.args.old.now in
    let ws = c.args.writes.now in
    let i = c.loop-id.id-index in
    let w = c.loop-id-item.result in
    let at = c.site_of-site.ensures in
    let site = c.site_of-site.result in
    let sorted = c.requires.held.ids in
    let new_is = ap (λ es. last_entry (lower id_cmp w.0 es)) c.requires.new in
    record {
      ids = sorted_all ids_total ids_exact es (take (i + 1) ws) sorted;
      of_cells = runs_more Cell es ws i w c.loop-id.cells c.in_ok-cells-2.cells (lent_entry site.before) (lent_entry site.after)
          (option_copied site.old) (option_copied c.as_ref.result) c.loop-id-test.true c.loop-id-item.is sorted c.requires.rising
          c.loop-id.invariant.of_cells (at.before ∙ new_is) at.old at.after c.as_ref.ensures.value c.in_ok-cells-2.ensures;
      of_layers = runs_more Layer es ws i w c.loop-id.layers c.in_ok-layers-2.layers (lent_entry site.before) (lent_entry site.after)
          (option_copied site.old) (option_copied c.as_ref-in-loop-id.result) c.loop-id-test.true c.loop-id-item.is sorted c.requires.rising
          c.loop-id.invariant.of_layers (at.before ∙ new_is) at.old at.after c.as_ref-in-loop-id.ensures.value c.in_ok-layers-2.ensures;
    }

pub returns : goal.returns
returns c =
    subst (λ (es : List HeldItem). AreHeld es c.loop-id.cells c.loop-id.layers)
    (ap (written_all id_cmp c.args.old.now) (take_all c.loop-id.id-index c.args.writes.now c.loop-id-test.false) ∙ sym c.requires.new)
    c.loop-id.invariant
