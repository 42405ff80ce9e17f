use Rattle.std.proofs.Common.{◌≡◌, ◌∙◌, ap, sym}
use Rattle.txn_commands.specs.Compared.{agrees}
use Rattle.txn_marks.proofs.CompareLemmas.{agrees_keys, agrees_on}
use Rattle.txn_marks.proofs.same.agrees.Goals as goal

value : (c : goal.After-all_same) → c.all_same.result ≡ agrees c.args.l.now c.args.m.now c.args.footprint.now
value c =
    c.all_same.ensures ∙ agrees_keys c.args.l.now c.args.m.now c.footprint.inside.elements.keys
    ∙ ap (agrees c.args.l.now c.args.m.now) c.footprint.view_is

pub returns-clause-value : goal.returns-clause-value
returns-clause-value c = value c

pub returns-clause-agree : goal.returns-clause-agree
returns-clause-agree c = λ same. agrees_on c.args.l.now c.args.m.now c.args.footprint.now (sym (value c) ∙ same)
