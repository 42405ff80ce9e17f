use Rattle.std.proofs.Common.{◌≡◌, ◌+◌, ◌∙◌, Some, None, true, false, ap, rules}
use Rattle.std.proofs.lemmas.List.{take_rest}
use Rattle.cif_grammar.specs.Bytes.{is_gap, skip}
use Rattle.cif_grammar.specs.Cutting.{behind_command, command_len}
use Rattle.cif_read.specs.Meaning.{begins_with_end}
use Rattle.cif_names.proofs.PieceLemmas.{first_piece, none_at_end, none_broken}
use Rattle.cif_names.proofs.pieces.split_piece.Goals as goal

pub returns-then-begins_with_end : goal.returns-then-begins_with_end
returns-then-begins_with_end c =
    let ends : begins_with_end c.args.rest.now ≡ true = search rules in
    none_at_end c.args.rest.now ends

pub returns-in_err-len : goal.returns-in_err-len
returns-in_err-len c =
    let no_end : begins_with_end c.args.rest.now ≡ false = search rules in
    let none : command_len c.args.rest.now ≡ None = search rules in
    let gone : c.from_residual.result ≡ None = search rules in
    rw gone (none_broken c.args.rest.now no_end none)

pub returns : goal.returns
returns c =
    let rest = c.args.rest.now in
    let len = c.in_ok-len.len in
    let no_end : begins_with_end rest ≡ false = search rules in
    let some : command_len rest ≡ Some len = search rules in
    let behind : c.skip.result.now ≡ behind_command len rest = c.skip.ensures ∙ ap (skip is_gap) (take_rest rest (len + 1)) in
    rw behind (first_piece rest len no_end some)
