use Rattle.std.proofs.Common.{◌∙◌, nat_eq}
use Rattle.lay_cells.proofs.GraphLemmas.{found_or_len}
use Rattle.lay_cells.proofs.call_graph.position_of.Goals as goal

pub returns-in-Symbol : goal.returns-in-Symbol
returns-in-Symbol c =
    rw c.in-Symbol.is (c.unwrap_or.ensures
    ∙ rw (c.position.ensures.value, c.len-in-Symbol.ensures.value) (found_or_len (nat_eq c.in-Symbol.number) c.args.symbols.now))
