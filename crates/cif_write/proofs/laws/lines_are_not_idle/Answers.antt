-- The text has definitions, one call and the end.
use Rattle.std.proofs.Common.{◌≡◌, [], ◌∷◌, ◌++◌, sym, ap, ◌∙◌, append_assoc}
use Rattle.lay_point.specs.Turns.{unturned}
use Rattle.cif_write.specs.Lines.{Call, End, lines_text}
use Rattle.cif_write.specs.Text.{definitions_lines, file_lines, text}
use Rattle.cif_write.specs.Wrap.{written}
use Rattle.cif_write.proofs.IdleLemmas.{NoneIdle-definitions_lines, lines_text-last}
use Rattle.cif_write.proofs.laws.lines_are_not_idle.Goals as goal

pub returns-clause-none_idle : goal.returns-clause-none_idle
returns-clause-none_idle c =
    let file = written c.args._snapshot.now in
    NoneIdle-definitions_lines file.definitions (Call file.called unturned ∷ End ∷ []) tt

pub returns-clause-end : goal.returns-clause-end
unfolding text
returns-clause-end c =
    let file = written c.args._snapshot.now in
    let definitions = definitions_lines file.definitions in
    let call = Call file.called unturned in
    let last : file_lines file ≡ (definitions ++ call ∷ []) ++ End ∷ [] = sym (append_assoc definitions (call ∷ []) (End ∷ [])) in
    (definitions ++ call ∷ [], last, ap lines_text last ∙ lines_text-last (definitions ++ call ∷ []) End)
