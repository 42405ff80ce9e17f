use Rattle.std.proofs.Common.{◌≡◌, ◌||◌, ◌∙◌, ap, sym}
use Rattle.txn_commands.specs.Meets.{meets_touched}
use Rattle.txn_commands.specs.Records.{Records}
use Rattle.txn_marks.specs.Met.{are_met, symbols_are_met}
use Rattle.txn_marks.proofs.TouchLemmas.{touches_met}
use Rattle.txn_marks.proofs.records.Records.touch.Goals as goal

pub returns-then-items_touch : goal.returns-then-items_touch
returns-then-items_touch c =
    let touched = c.args.footprint.now in
    let w = c.self.inside in
    let met : c.items_touch.result ≡ are_met touched w.items =
    c.items_touch.ensures ∙ ap (are_met touched) c.as_slice.ensures in
    c.if-items_touch.true ∙ sym (ap (λ b. b || symbols_are_met touched w.symbols.items) (sym met ∙ c.if-items_touch.true))
    ∙ sym (touches_met touched w.items w.symbols.items) ∙ ap (λ (r : Records). meets_touched r touched) c.self.view_is

pub returns-else-items_touch : goal.returns-else-items_touch
returns-else-items_touch c =
    let touched = c.args.footprint.now in
    let w = c.self.inside in
    let met : c.items_touch.result ≡ are_met touched w.items =
    c.items_touch.ensures ∙ ap (are_met touched) c.as_slice.ensures in
    c.symbols_touch.ensures ∙ ap (symbols_are_met touched) c.deref.ensures.value
    ∙ sym (ap (λ b. b || symbols_are_met touched w.symbols.items) (sym met ∙ c.if-items_touch.false))
    ∙ sym (touches_met touched w.items w.symbols.items) ∙ ap (λ (r : Records). meets_touched r touched) c.self.view_is
