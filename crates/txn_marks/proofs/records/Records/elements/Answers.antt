use Rattle.std.proofs.Common.{◌≡◌, ◌∙◌, ap, map, rules}
use Rattle.std.specs.FinSet.{contains, from_list}
use Rattle.std.specs.List.{flat_map}
use Rattle.txn_commands.specs.Elements.{Touched, untouched, with_elements}
use Rattle.txn_commands.specs.Meets.{some_meets}
use Rattle.txn_commands.specs.Records.{Records, cell_record_of, record_of}
use Rattle.txn_marks.specs.Homes.{cell_homes, record_homes}
use Rattle.txn_marks.specs.WritesOf.{records_listed}
use Rattle.txn_marks.proofs.HomeLemmas.{gathered}
use Rattle.txn_marks.proofs.records.Records.elements.Goals as goal

pub returns : goal.returns
returns c e =
    let w = c.self.inside in
    let both : from_list c.add_symbols.new.met.items
    ≡ with_elements (with_elements untouched (flat_map record_homes (map record_of w.items)))
    (flat_map cell_homes (map cell_record_of w.symbols.items)) = search rules in
    ap (λ (s : Touched). contains s e) both ∙ gathered (records_listed w) e ∙ ap (λ (r : Records). some_meets r e) c.self.view_is
