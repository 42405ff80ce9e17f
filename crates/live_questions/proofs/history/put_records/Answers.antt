use Rattle.std.proofs.Common.{◌++◌}
use Rattle.std.specs.List.{flat_map}
use Rattle.byte_io.proofs.BufferedLemmas.{Buffered-is, Buffered-then}
use Rattle.live_questions.specs.Answers.{record_line, records_text, symbol_line}
use Rattle.live_questions.proofs.history.put_records.Goals as goal

pub returns : goal.returns
unfolding records_text
returns g c =
    Buffered-is (Buffered-then c.put_item_changes.ensures c.put_symbol_changes.ensures)
    (λ i. flat_map record_line (c.items.ensures i) ++ flat_map symbol_line (c.symbols.ensures i))
