use Rattle.cif_names.proofs.KeptCommands.{kept_commands}
use Rattle.cif_names.proofs.KeptLines.{kept_lines}
use Rattle.cif_names.proofs.laws.kept_lines_are_lines.Goals as goal

pub returns : goal.returns
returns c = record { lines = kept_lines; commands = kept_commands }
