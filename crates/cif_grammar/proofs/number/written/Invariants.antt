use Rattle.std.proofs.Common.{◌≡◌, ◌≤◌, length}
use Rattle.std.specs.List.{take_while}
use Rattle.lay_point.specs.Names.{is_digit}
use Rattle.cif_grammar.specs.Bytes.{skip}
use Rattle.cif_grammar.specs.ScanGrammar.{capped_magnitude}
use Rattle.cif_grammar.proofs.Digits.{capped_from}
use Rattle.cif_grammar.proofs.number.written.Given as goal

abbrev pub invariant-loop-byte : goal.invariant-loop-byte
invariant-loop-byte l = record {
  value : capped_from 2147483648 l.value (take_while is_digit l.rest) ≡ capped_magnitude (take_while is_digit l.bytes);
  behind : skip is_digit l.rest ≡ skip is_digit l.bytes;
  small : l.value ≤ 2147483648;
}

abbrev pub decreases-loop-byte : goal.decreases-loop-byte
decreases-loop-byte l = length l.rest
