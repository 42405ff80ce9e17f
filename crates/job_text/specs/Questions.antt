-- Questions of a live run: a word that names the question, and the words that it takes.
-- Source: this project's own.
-- Checked on: `%cells`, `%items top`, `%items 3`, `%look 0.0.1`, `%history` and `%changes 1.1` are questions; `%cells 1`,
-- `%items`, `%look 1.1` and `%changes 1.1.1` are none.
use Rattle.std.specs.Prelude.{List, codes, if◌then◌else◌, Option, None, option_map}
use Rattle.std.specs.Str.{bytes_eq}
use Rattle.job_text.specs.declared.question.Question.{Question}
use Rattle.job_text.specs.declared.question.Question.TheVariants.{Cells, Items, Look, History, Changes}
use Rattle.job_text.specs.Steps.{Word, cell_alone, if_ended, item_alone, txn_alone}

-- the question that this word names, with the words that it takes
unfoldable pub question_of : Word → List Word → Option Question
question_of name words =
    if bytes_eq name (codes "%cells") then if_ended words Cells
    else if bytes_eq name (codes "%items") then option_map Items (cell_alone words)
    else if bytes_eq name (codes "%look") then option_map Look (item_alone words)
    else if bytes_eq name (codes "%history") then if_ended words History
    else if bytes_eq name (codes "%changes") then option_map Changes (txn_alone words)
    else None
