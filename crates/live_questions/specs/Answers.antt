-- Answers to the questions of a live run: comments, one a line, of which the last is `(end);`.
-- Source: this project's own.
-- Checked on: with the box 1.1.1 over the shape 0.0.1 of a text, `%cells` is `(cell top 2);/(end);/`; with 1.1 undone
-- `%history` is `(1.1 undone);/(end);/` and `%changes 1.1` still `(1.1.1 made);/(end);/`; `%look 1.1.1` is then
-- `(fault 2 NoItem);/(end);/`, with a slash for each newline. Where the text has `9 INV;` in the definition of symbol 1, and names
-- are asked for, `%cells` has `(cell 1 3 INV);` in place of `(cell 1 3);`.
use Rattle.std.specs.Prelude.{ℕ, List, [], ◌∷◌, ◌++◌, codes, decimal, length, map, Bool, if◌then◌else◌, Option, None, Some, is_some}
use Rattle.std.specs.FinMap as finite
use Rattle.std.specs.List.{flat_map}
use Rattle.cif_names.specs.declared.names.Names.{Names}
use Rattle.cif_names.specs.Entries.{word_text}
use Rattle.cif_names.specs.Titles.{title_in}
use Rattle.lay_cells.specs.declared.cell_id.CellId.{CellId}
use Rattle.lay_cells.specs.declared.cell_id.CellId.TheVariants.{Top, Symbol}
use Rattle.lay_layouts.specs.declared.id.ItemId.{ItemId}
use Rattle.lay_layouts.specs.declared.item.Item.{Item}
use Rattle.lay_layouts.specs.IdText.{item_text}
use Rattle.lay_layouts.specs.Items.{items_in}
use Rattle.lay_layouts.specs.Layout.{Layout, is_cell, item_at}
use Rattle.txn_commands.specs.declared.fault.CmdFault.TheVariants.{NoCell, NoItem}
use Rattle.txn_commands.specs.declared.record.CellRecord.{CellRecord}
use Rattle.txn_commands.specs.declared.record.Record.{Record}
use Rattle.txn_commands.specs.Records.{Records}
use Rattle.txn_commands.specs.Refusals.{txn_text}
use Rattle.undo_rules.specs.declared.log.BookFault.TheVariants.{NoTxn}
use Rattle.undo_rules.specs.Books.{History, entry_of}
use Rattle.undo_rules.specs.Links.{Entry}
use Rattle.session_steps.specs.declared.StepFault.{StepFault}
use Rattle.session_steps.specs.declared.StepFault.TheVariants.{Book, Command}
use Rattle.job_text.specs.declared.question.Question.{Question}
use Rattle.job_text.specs.declared.question.Question.TheVariants.{Cells, Changes, History as Commits, Items, Look}
use Rattle.job_text.specs.Replies.{cell_text, fault_text, found_text}

-- a comment on a line of its own
abbrev pub comment : List ℕ → List ℕ
comment words = codes "(" ++ words ++ codes ");\n"

-- a refusal, by its number and its name
unfoldable pub refusal_line : StepFault → List ℕ
refusal_line fault = comment (fault_text fault)

-- ---- cells

-- the cells of a layout: the top cell, then the symbols by number
abbrev pub cells_of : Layout → List CellId
cells_of layout = Top ∷ map Symbol (finite.keys layout.symbols)

-- the name of a cell behind a space, if it has one, where symbols have these names
abbrev pub title_text : (ℕ → List ℕ) → CellId → List ℕ
title_text titles Top = []
title_text titles (Symbol n) = word_text (titles n)

-- a cell, how many items it has, and its name
unfoldable pub cell_line : (ℕ → List ℕ) → Layout → CellId → List ℕ
cell_line titles layout cell =
    comment (codes "cell " ++ cell_text cell ++ codes " " ++ decimal (length (items_in layout cell)) ++ title_text titles cell)

-- the cells, with the names that these have for them
unfoldable pub cells_text : Option Names → Layout → List ℕ
cells_text names layout = flat_map (cell_line (title_in names) layout) (cells_of layout)

-- ---- items

-- an item: its id, and the words of a look
unfoldable pub item_line : ItemId × Item → List ℕ
item_line entry = comment (item_text entry.0 ++ codes " " ++ found_text entry.1)

-- the items of a cell, in order of their ids
unfoldable pub items_text : Layout → CellId → List ℕ
items_text layout cell = if is_cell layout cell then flat_map item_line (items_in layout cell) else refusal_line (Command NoCell)

-- an item, if there is one
abbrev pub looked_text : ItemId → Option Item → List ℕ
looked_text id None = refusal_line (Command NoItem)
looked_text id (Some item) = item_line (id, item)

-- ---- transactions

abbrev pub mark_text : Bool → List ℕ
mark_text live = if live then codes "live" else codes "undone"

-- a committed transaction, and whether it is live
unfoldable pub entry_line : Entry → List ℕ
entry_line entry = comment (txn_text entry.txn ++ codes " " ++ mark_text entry.live)

-- the committed transactions, in the order of their commits
unfoldable pub history_text : List Entry → List ℕ
history_text entries = flat_map entry_line entries

-- what a commit did, by whether something was there before and after it
abbrev pub change_text : Bool → Bool → List ℕ
change_text before after = if after then (if before then codes "changed" else codes "made") else codes "gone"

-- what a commit did to an item
unfoldable pub record_line : Record → List ℕ
record_line w = comment (item_text w.id ++ codes " " ++ change_text (is_some w.before) (is_some w.after))

-- what it did to a symbol
unfoldable pub symbol_line : CellRecord → List ℕ
symbol_line w = comment (codes "symbol " ++ decimal w.number ++ codes " " ++ change_text (is_some w.before) (is_some w.after))

-- what it did to items, in order of their ids, then to symbols, by number
unfoldable pub records_text : Records → List ℕ
records_text writes = flat_map record_line writes.items ++ flat_map symbol_line writes.symbols

-- what the commit of a transaction did, if there was one
abbrev pub written_text : Option Entry → List ℕ
written_text None = refusal_line (Book NoTxn)
written_text (Some entry) = records_text entry.writes

-- ---- answers

-- the lines in front of the last, where symbols have these names
abbrev pub told_lines : Option Names → Question → History → List ℕ
told_lines names Cells history = cells_text names history.layout
told_lines names (Items cell) history = items_text history.layout cell
told_lines names (Look id) history = looked_text id (item_at history.layout id)
told_lines names Commits history = history_text history.entries
told_lines names (Changes txn) history = written_text (entry_of txn history.entries)

-- the answer to a question, where symbols have these names and this is the history
unfoldable pub told_text : Option Names → Question → History → List ℕ
told_text names question history = told_lines names question history ++ comment (codes "end")
