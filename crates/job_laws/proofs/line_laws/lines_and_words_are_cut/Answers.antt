-- Bytes are cut as they are made of lines and words.
use Rattle.job_laws.proofs.Cut.{lines_are, lines_same, words_are, words_same}
use Rattle.job_laws.proofs.line_laws.lines_and_words_are_cut.Goals as goal

pub returns-clause-lines : goal.returns-clause-lines
returns-clause-lines c = λ bytes. (lines_are bytes, λ all are. lines_same all bytes are)

pub returns-clause-words : goal.returns-clause-words
returns-clause-words c = λ bytes. (words_are bytes, λ all are. words_same all bytes are)
