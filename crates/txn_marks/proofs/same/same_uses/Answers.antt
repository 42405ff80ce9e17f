use Rattle.std.proofs.Common.{◌&&◌, ap, refl, rules, tests}
use Rattle.std.proofs.lemmas.Iterator.Consumers.{YieldsList-from_filter, YieldsList-from_first}
use Rattle.lay_layouts.specs.SameLayout.{id_eq}
use Rattle.txn_commands.specs.declared.element.Element.TheVariants.{Uses}
use Rattle.txn_commands.specs.Compared.{entry_eq}
use Rattle.txn_commands.specs.Lies.{lies}
use Rattle.txn_marks.proofs.CompareLemmas.{item_tested}
use Rattle.txn_marks.proofs.EqLemmas.{eq_from_yields_List}
use Rattle.txn_marks.proofs.same.same_uses.Goals as goal

pub returns : goal.returns
returns c =
    eq_from_yields_List {v = λ lent. (lent.0, lent.1.now)} c.filter-2.result entry_eq c.eq.result c.eq.ensures.ran
    (YieldsList-from_filter _ (λ entry. lies (Uses c.args.number) entry.0 entry.1)
    (YieldsList-from_first (λ lent. (lent.0, lent.1.now)) (λ left. left) c.args.l cc) refl (λ x b q k. search (rules, tests)))
    (YieldsList-from_filter _ (λ entry. lies (Uses c.args.number) entry.0 entry.1)
    (YieldsList-from_first (λ lent. (lent.0, lent.1.now)) (λ left. left) c.args.m cc) refl (λ x b q k. search (rules, tests)))
    (λ x y. ap (λ b. id_eq x.0 y.0 && b) (item_tested x.1.now y.1.now))
