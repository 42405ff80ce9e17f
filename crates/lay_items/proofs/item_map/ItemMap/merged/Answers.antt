use Rattle.std.proofs.Common.{◌≡◌, ◌∙◌, List, ap, subst, sym}
use Rattle.std.specs.FinMap.{FinMap}
use Rattle.std.specs.List.Sorted.{IsStrictlySortedBy}
use Rattle.std.specs.Map.{keys_of}
use Rattle.lay_pages.specs.Written.{written_all}
use Rattle.lay_pages.proofs.RisingLemmas.{sorted_all}
use Rattle.lay_layouts.specs.declared.id.ItemId.{ItemId}
use Rattle.lay_layouts.specs.declared.item.Item.{Item}
use Rattle.lay_layouts.specs.IdOrder.{ids_exact, ids_total}
use Rattle.lay_layouts.specs.Ids.{id_cmp}
use Rattle.lay_layouts.specs.Layout.{map_of_items, put_all}
use Rattle.lay_layouts.proofs.PutLemmas.{put_all-written}
use Rattle.lay_items.proofs.RisingLemmas.{rising_sorted}
use Rattle.lay_items.proofs.item_map.ItemMap.merged.Goals as goal

pub with_all-requires-clause-sorted : goal.with_all-requires-clause-sorted
with_all-requires-clause-sorted c =
    subst (λ (es : List (ItemId × Item)). IsStrictlySortedBy id_cmp (keys_of es)) (sym (c.deref.ensures.value ∙ c.in_ok-entries.ensures))
    c.self.invariant.ids

pub with_all-requires-clause-rising : goal.with_all-requires-clause-rising
with_all-requires-clause-rising c = rising_sorted c.args.writes.now c.requires

pub of-requires : goal.of-requires
of-requires c =
    let own = c.self.inside.items in
    let new : c.in_ok-taken.field-0 ≡ written_all id_cmp own c.args.writes.now =
    c.in_ok-taken.ensures ∙ c.in_ok-entries-2.ensures
    ∙ ap (λ (es : List (ItemId × Item)). written_all id_cmp es c.args.writes.now) (c.deref.ensures.value ∙ c.in_ok-entries.ensures) in
    subst (λ (es : List (ItemId × Item)). IsStrictlySortedBy id_cmp (keys_of es)) (sym new)
    (sorted_all ids_total ids_exact own c.args.writes.now c.self.invariant.ids)

pub returns : goal.returns
returns c =
    let own = c.self.inside.items in
    let new : c.in_ok-taken.field-0 ≡ written_all id_cmp own c.args.writes.now =
    c.in_ok-taken.ensures ∙ c.in_ok-entries-2.ensures
    ∙ ap (λ (es : List (ItemId × Item)). written_all id_cmp es c.args.writes.now) (c.deref.ensures.value ∙ c.in_ok-entries.ensures) in
    c.in_ok-new.ensures ∙ ap map_of_items new ∙ put_all-written ids_total ids_exact own c.args.writes.now
    ∙ ap (λ (m : FinMap id_cmp Item). put_all m c.args.writes.now) c.self.view_is
