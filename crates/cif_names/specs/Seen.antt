-- What contracts see of a label that is read.
use Rattle.cif_names.specs.declared.labels.ReadLabel.{ReadLabel}
use Rattle.cif_names.specs.Entries.{Label}

abbrev pub seen : ReadLabel → Label
seen l = record { text = l.text.now; x = l.x; y = l.y; layer = l.layer.now; word = l.word.now }
