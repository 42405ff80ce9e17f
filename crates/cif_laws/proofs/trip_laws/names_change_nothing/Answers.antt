use Rattle.cif_laws.proofs.NamedLead.{named_back}
use Rattle.cif_laws.proofs.NamelessLines.{names_apart}
use Rattle.cif_laws.proofs.trip_laws.names_change_nothing.Goals as goal

pub returns : goal.returns
returns c = record { apart = names_apart; read = named_back }
