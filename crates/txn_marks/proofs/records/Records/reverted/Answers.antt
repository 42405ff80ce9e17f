use Rattle.std.proofs.Common.{◌∙◌, List, ap, map, nat_cmp, subst, sym}
use Rattle.lay_layouts.specs.Ids.{id_cmp}
use Rattle.lay_layouts.specs.Layout.{AreRising, SymbolWrite, Write}
use Rattle.txn_commands.specs.Records.{Records, reverting, cell_record_of, record_of, slot_befores}
use Rattle.txn_marks.proofs.ChangeLemmas.{befores_rise, slot_befores_rise}
use Rattle.txn_marks.proofs.records.Records.reverted.Goals as goal

pub with-requires-clause-items : goal.with-requires-clause-items
with-requires-clause-items c =
    subst (λ (ws : List Write). AreRising id_cmp ws)
    (sym (c.deref-2.ensures.value ∙ c.in_ok-items.ensures ∙ ap (λ xs. reverting (map record_of xs)) c.as_slice.ensures
    ∙ ap (λ (r : Records). reverting r.items) c.self.view_is))
    (befores_rise c.args.self.now c.requires.proper)

pub with-requires-clause-symbols : goal.with-requires-clause-symbols
with-requires-clause-symbols c =
    subst (λ (ws : List SymbolWrite). AreRising nat_cmp ws)
    (sym (c.deref-3.ensures.value ∙ c.in_ok-symbols.ensures ∙ ap (λ xs. slot_befores (map cell_record_of xs)) c.deref.ensures.value
    ∙ ap (λ (r : Records). slot_befores r.symbols) c.self.view_is))
    (slot_befores_rise c.args.self.now c.requires.proper)
