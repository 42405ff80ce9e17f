-- Which question the words of a line of a live run ask, a line of the table at a time.
use Rattle.std.specs.Prelude.{◌≡◌, List, [], ◌∷◌, codes, Some}
use Rattle.lay_cells.specs.declared.cell_id.CellId.{CellId}
use Rattle.lay_layouts.specs.declared.id.ItemId.{ItemId}
use Rattle.txn_commands.specs.declared.command.TxnId.{TxnId}
use Rattle.job_text.specs.declared.live.LiveLine.TheVariants.{Ask}
use Rattle.job_text.specs.declared.question.Question.{Question}
use Rattle.job_text.specs.declared.question.Question.TheVariants.{Cells, Changes, History, Items, Look}
use Rattle.job_text.specs.Live.{live_line}
use Rattle.job_text.specs.Steps.{Word}
use Rattle.job_text.specs.Words.{parsed_cell, parsed_item, parsed_txn}

-- the words ask this question
pub data Asks (words : List Word) (question : Question) : Type 0 where
  asks_cells : words ≡ codes "%cells" ∷ [] → question ≡ Cells → Asks words question
  asks_items : (word : Word) (cell : CellId) → words ≡ codes "%items" ∷ word ∷ [] → parsed_cell word ≡ Some cell → question ≡ Items cell
      → Asks words question
  asks_look : (word : Word) (id : ItemId) → words ≡ codes "%look" ∷ word ∷ [] → parsed_item word ≡ Some id → question ≡ Look id
      → Asks words question
  asks_history : words ≡ codes "%history" ∷ [] → question ≡ History → Asks words question
  asks_changes : (word : Word) (txn : TxnId) → words ≡ codes "%changes" ∷ word ∷ [] → parsed_txn word ≡ Some txn
      → question ≡ Changes txn → Asks words question

-- words that are taken for a question ask it
abbrev pub QuestionsAreAsked : Type 0
QuestionsAreAsked = (words : List Word) (question : Question) → live_line words ≡ Ask question → Asks words question

-- words that ask a question are taken for it
abbrev pub AskingsAreRead : Type 0
AskingsAreRead = (words : List Word) (question : Question) → Asks words question → live_line words ≡ Ask question
