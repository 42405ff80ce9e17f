-- Words are taken for a question exactly where they ask it.
use Rattle.std.proofs.Common.{◌≡◌, ℕ, List, [], ◌∷◌, refl, sym, ap, ◌∙◌}
use Rattle.std.specs.Prelude.{◌==◌, ◌&&◌, codes, if◌then◌else◌, Option, None, Some, option_map}
use Rattle.std.specs.Str.{bytes_eq}
use Rattle.std.proofs.NetLemmas.Options.{map_some}
use Rattle.lay_cells.specs.declared.cell_id.CellId.{CellId}
use Rattle.session_steps.specs.declared.Step.{Step}
use Rattle.job_text.specs.declared.live.LiveLine.TheVariants.{Ask, Unknown, Write}
use Rattle.job_text.specs.declared.question.Question.{Question}
use Rattle.job_text.specs.declared.question.Question.TheVariants.{Cells, Changes, History, Items, Look}
use Rattle.job_text.specs.Job.{is_none_of, session_of}
use Rattle.job_text.specs.Live.{asked_or, live_line, step_line, step_or_odd}
use Rattle.job_text.specs.Questions.{question_of}
use Rattle.job_text.specs.Steps.{Word, cell_alone, if_ended, item_alone, step_of, txn_alone}
use Rattle.job_text.specs.Words.{parsed_cell, parsed_item, parsed_txn}
use Rattle.job_laws.specs.Questions.{Asks, asks_cells, asks_changes, asks_history, asks_items, asks_look}
use Rattle.job_laws.proofs.Sayings.{alone, ended_is, item_one, named, no_value, one_word, txn_one, with_one}
use Rattle.job_laws.proofs.Choices.{choose}

-- ---- what is taken for a question asks it

-- what takes one word
one_sound : {A P : Type 0} (meaning : A → Question) (read : Word → Option A) (ws : List Word) (question : Question) (o : Option A)
    → option_map meaning o ≡ Some question → ((a : A) → o ≡ Some a → (word : Word) × (ws ≡ word ∷ []) × (read word ≡ Some a))
    → ((word : Word) (a : A) → ws ≡ word ∷ [] → read word ≡ Some a → question ≡ meaning a → P) → P
one_sound meaning read ws question o h one asks =
    map_some meaning o question h (λ a is same. let (word, first, says) = one a is in asks word a first says (sym same))

one_cell : (ws : List Word) (cell : CellId) → cell_alone ws ≡ Some cell → (word : Word) × (ws ≡ word ∷ []) × (parsed_cell word ≡ Some cell)
unfolding cell_alone
one_cell ws cell is = one_word parsed_cell ws cell is (λ word first says. (word, first, says))

named_sound : (name : Word) (ws : List Word) (question : Question) → question_of name ws ≡ Some question → Asks (name ∷ ws) question
unfolding question_of item_alone txn_alone
named_sound name ws question h =
    let changes = if bytes_eq name (codes "%changes") then option_map Changes (txn_alone ws) else None in
    let history = if bytes_eq name (codes "%history") then if_ended ws History else changes in
    let look = if bytes_eq name (codes "%look") then option_map Look (item_alone ws) else history in
    let items = if bytes_eq name (codes "%items") then option_map Items (cell_alone ws) else look in
    choose (bytes_eq name (codes "%cells")) (if_ended ws Cells) items (Some question) h
    (λ e is. ended_is ws Cells question is (λ none same.
    asks_cells (alone name (codes "%cells") ws (named name (codes "%cells") e) none) same)) (λ e h1.
    choose (bytes_eq name (codes "%items")) (option_map Items (cell_alone ws)) look (Some question) h1
    (λ e is. one_sound Items parsed_cell ws question (cell_alone ws) is (one_cell ws) (λ word cell one read same.
    asks_items word cell (with_one name (codes "%items") word ws (named name (codes "%items") e) one) read same)) (λ e h2.
    choose (bytes_eq name (codes "%look")) (option_map Look (item_alone ws)) history (Some question) h2
    (λ e is. one_sound Look parsed_item ws question (item_alone ws) is
    (λ id alone. one_word parsed_item ws id alone (λ word first says. (word, first, says))) (λ word id one read same.
    asks_look word id (with_one name (codes "%look") word ws (named name (codes "%look") e) one) read same)) (λ e h3.
    choose (bytes_eq name (codes "%history")) (if_ended ws History) changes (Some question) h3
    (λ e is. ended_is ws History question is (λ none same.
    asks_history (alone name (codes "%history") ws (named name (codes "%history") e) none) same)) (λ e h4.
    choose (bytes_eq name (codes "%changes")) (option_map Changes (txn_alone ws)) None (Some question) h4
    (λ e is. one_sound Changes parsed_txn ws question (txn_alone ws) is
    (λ txn alone. one_word parsed_txn ws txn alone (λ word first says. (word, first, says))) (λ word txn one read same.
    asks_changes word txn (with_one name (codes "%changes") word ws (named name (codes "%changes") e) one) read same))
    (λ e none. no_value question none)))))

-- a step is no question
not_taken : {P : Type 0} (session : ℕ) (o : Option Step) (question : Question) → step_or_odd session o ≡ Ask question → P
not_taken session None question h = absurd (cc)
not_taken session (Some step) question h = absurd (cc)

not_a_step : {P : Type 0} (session : ℕ) (ws : List Word) (question : Question) → step_line session ws ≡ Ask question → P
not_a_step session ws question h =
    choose (session == 0) Unknown (step_or_odd session (step_of ws)) (Ask question) h (λ e is. absurd (cc))
    (λ e is. not_taken session (step_of ws) question is)

asked_is : {P : Type 0} (o : Option Question) (session : ℕ) (ws : List Word) (question : Question)
    → asked_or o (step_line session ws) ≡ Ask question → (o ≡ Some question → P) → P
asked_is None session ws question h asks = not_a_step session ws question h
asked_is (Some other) session ws question h asks = asks (cc)

pub questions_asked : (ws : List Word) (question : Question) → live_line ws ≡ Ask question → Asks ws question
unfolding live_line
questions_asked [] question h = absurd (cc)
questions_asked (name ∷ ws) question h =
    choose (bytes_eq name (codes "%write") && is_none_of ws) Write (asked_or (question_of name ws) (step_line (session_of name) ws))
    (Ask question) h (λ e is. absurd (cc))
    (λ e is. asked_is (question_of name ws) (session_of name) ws question is (named_sound name ws question))

-- ---- what asks a question is taken for it

cell_one : (word : Word) (cell : CellId) → parsed_cell word ≡ Some cell → cell_alone (word ∷ []) ≡ Some cell
unfolding cell_alone
cell_one word cell is = rw is refl

-- the words are these, which are taken for this question, which is the one
taken_as : (ws others : List Word) (question other : Question) → ws ≡ others → live_line others ≡ Ask other → question ≡ other
    → live_line ws ≡ Ask question
taken_as ws others question other parts read same = ap live_line parts ∙ read ∙ ap Ask (sym same)

pub asks_read : (ws : List Word) (question : Question) → Asks ws question → live_line ws ≡ Ask question
unfolding live_line question_of
asks_read ws question (asks_cells parts same) = taken_as ws (codes "%cells" ∷ []) question Cells parts refl same
asks_read ws question (asks_items word cell parts is same) =
    taken_as ws (codes "%items" ∷ word ∷ []) question (Items cell) parts (rw (cell_one word cell is) refl) same
asks_read ws question (asks_look word id parts is same) =
    taken_as ws (codes "%look" ∷ word ∷ []) question (Look id) parts (rw (item_one word id is) refl) same
asks_read ws question (asks_history parts same) = taken_as ws (codes "%history" ∷ []) question History parts refl same
asks_read ws question (asks_changes word txn parts is same) =
    taken_as ws (codes "%changes" ∷ word ∷ []) question (Changes txn) parts (rw (txn_one word txn is) refl) same
