use Rattle.std.proofs.Common.{◌≡◌, ◌<◌, ℕ, List, [], ◌∷◌, arith, length, refl}
use Rattle.std.proofs.lemmas.Grind.{common_steps}
use Rattle.byte_io.proofs.BufferedLemmas.{Buffered-is, Buffered-then}
use Rattle.cif_names.specs.Entries.{word_text}
use Rattle.live_questions.proofs.cells.put_word.Goals as goal

-- a word with a byte stands behind a space
behind_space : (word : List ℕ) → 0 < length word → 32 ∷ word ≡ word_text word
behind_space [] some = absurd (omega (arith, some))
behind_space (b ∷ word) some = refl

pub returns-then-not-is_empty : goal.returns-then-not-is_empty
returns-then-not-is_empty g c =
    let some : 0 < length c.args.word.now = grind (arith, common_steps) in
    Buffered-is (Buffered-then c.put_byte.ensures c.put.ensures) (behind_space c.args.word.now some)
