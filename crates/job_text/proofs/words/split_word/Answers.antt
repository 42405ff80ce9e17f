use Rattle.std.proofs.Common.{◌≡◌, ◌<◌, [], drop, length, rules, take, unwrap_or}
use Rattle.std.specs.List.{position}
use Rattle.job_text.specs.Words.{from_word, is_word_separator, words}
use Rattle.job_text.proofs.WordLemmas.{no_words, first_word}
use Rattle.job_text.proofs.words.split_word.Goals as goal

pub returns-then-is_empty : goal.returns-then-is_empty
returns-then-is_empty c =
    let none : length (from_word c.args.line.now) ≡ 0 = search rules in
    no_words c.args.line.now none

pub returns : goal.returns
returns c =
    let line = c.args.line.now in
    let len = c.unwrap_or-len.result in
    let some : 0 < length (from_word line) = search rules in
    let is_len : len ≡ unwrap_or (position is_word_separator (from_word line)) (length (from_word line)) = search rules in
    let is_word : c.split_at.result.0.now ≡ take len (from_word line) = search rules in
    let is_behind : c.split_at.result.1.now ≡ drop len (from_word line) = search rules in
    first_word line len c.split_at.result.0.now c.split_at.result.1.now some is_len is_word is_behind
