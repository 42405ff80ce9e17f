use Rattle.cif_grammar.proofs.CommandGrammar.{command_again}
use Rattle.cif_grammar.proofs.Pieces.{piece_takes}
use Rattle.cif_grammar.proofs.laws.grammar_is_what_is_read.Goals as goal

pub returns-clause-takes : goal.returns-clause-takes
returns-clause-takes c = piece_takes c.args._bytes.now

pub returns-clause-again : goal.returns-clause-again
returns-clause-again c = command_again c.args._bytes.now
