use Rattle.std.proofs.Common.{rules, ◌≡◌, None, false, inr, sym}
use Rattle.lay_cells.specs.Symbols.{with_symbol}
use Rattle.cif_read.specs.Content.{is_inside}
use Rattle.cif_read.specs.Symbols.{definition_fault}
use Rattle.cif_read.proofs.SymbolLemmas.{begun_is}
use Rattle.cif_read.proofs.content.Content.begin.Goals as goal

pub returns : goal.returns
returns c =
    let outside : is_inside c.args.self.now.definition ≡ false = search rules in
    let none : definition_fault c.args.self.now.symbols c.args.heading ≡ None = search rules in
    let added : c.add.new.self ≡ with_symbol c.args.self.now.symbols c.args.heading.symbol = search rules in
    rw c.of.ensures (inr (sym (begun_is c.args.self.now c.args.heading c.add.new.self outside none added)))
