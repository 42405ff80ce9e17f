use Rattle.cif_read.proofs.OneMeaning.{one_meaning}
use Rattle.cif_read.proofs.laws.a_text_has_one_meaning.Goals as goal

pub returns : goal.returns
returns c = one_meaning c.args._text.now
