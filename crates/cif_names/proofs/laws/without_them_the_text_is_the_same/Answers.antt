use Rattle.cif_names.specs.Names.{names_of}
use Rattle.cif_names.proofs.KeptLines.{kept_lines}
use Rattle.cif_names.proofs.SameText.{same_text}
use Rattle.cif_names.proofs.laws.without_them_the_text_is_the_same.Goals as goal

pub returns : goal.returns
returns c = λ text written plain. same_text (names_of text) written (kept_lines text) plain
