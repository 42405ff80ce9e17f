-- What is written of a sound layout is read back as that layout, wrapped.
use Rattle.std.proofs.Common.{◌≡◌, ℕ, true, List, [], ◌∷◌, ◌++◌, map, Result, Ok, Err}
use Rattle.std.proofs.Common.{refl, sym, ap, ◌∙◌, subst, inl, inr, ◌⊎◌, All, length, ◌≤◌}
use Rattle.std.specs.List.{flat_map}
use Rattle.std.proofs.lemmas.List.{map-append}
use Rattle.std.proofs.lemmas.List.Elements.{All-weaker}
use Rattle.lay_point.specs.Turns.{unturned}
use Rattle.lay_cells.specs.declared.cell_id.CellId.TheVariants.{Top}
use Rattle.lay_cells.specs.Symbols.{has_symbol}
use Rattle.lay_cells.specs.Walks.{IsAcyclic}
use Rattle.lay_layouts.specs.declared.item.Item.{Item}
use Rattle.lay_layouts.specs.declared.item.Item.TheVariants.{Placed, Shape}
use Rattle.lay_layouts.specs.Calls.{calls_of}
use Rattle.lay_layouts.specs.Layout.{Layout}
use Rattle.lay_layouts.specs.LayoutWith.{layout_with}
use Rattle.lay_layouts.specs.Sound.{IsSound}
use Rattle.cif_grammar.specs.Commands.{Command}
use Rattle.cif_grammar.specs.Grammar.{Reads}
use Rattle.cif_read.specs.declared.content.Content.{Content}
use Rattle.cif_read.specs.declared.content.Pending.{Pending}
use Rattle.cif_read.specs.declared.element.Figure.TheVariants.{Call}
use Rattle.cif_read.specs.declared.fault.CifFault.{CifFault}
use Rattle.cif_read.specs.Binding.{IsBound, contents_of, edge_of}
use Rattle.cif_read.specs.Content.{content_of}
use Rattle.cif_read.specs.Contents.{Contents, element_calls}
use Rattle.cif_read.specs.Kept.{IsKept}
use Rattle.cif_read.specs.declared.file.TheConstants.{MAX_TEXT}
use Rattle.cif_read.specs.Meaning.{AnswersMeaning, IsEndOf, content_within, no_memory}
use Rattle.cif_read.proofs.OneMeaning.{one_end, short_text}
use Rattle.cif_read.proofs.BindingLemmas.{sound_file, unmapped}
use Rattle.cif_read.proofs.StepFacts.{start_kept}
use Rattle.cif_read.proofs.TextGrammar.{complete}
use Rattle.cif_layout.specs.FromCif.{item_of, layout_of}
use Rattle.cif_layout.proofs.SoundLemmas.{layout_of-sound}
use Rattle.cif_write.specs.declared.boxes.Rectangles.{Rectangles}
use Rattle.cif_write.specs.declared.boxes.Rectangles.TheVariants.{Polygons}
use Rattle.cif_write.specs.Boxes.{text_as}
use Rattle.cif_write.specs.Text.{text}
use Rattle.cif_write.specs.Wrap.{Definition, Written, as_written, items_written, wrap, written}
use Rattle.cif_write.proofs.BoxLemmas.{text_as_paths}
use Rattle.cif_laws.specs.Laws.{AreOnNamedLayers, FitsText, IsAnsweredAs, IsAnsweredWith, IsReadAs, IsReadWith}
use Rattle.cif_laws.specs.Laws.{WhatIsWrappedIsSound, WhatIsWrittenIsReadBack}
use Rattle.cif_laws.proofs.CommandsDo.{outside}
use Rattle.cif_laws.proofs.HeldItems.{targets}
use Rattle.cif_laws.proofs.LinesLead.{element_of, elements_of, elements_written, file_read, symbol_of}
use Rattle.cif_laws.proofs.Reaching.{Reaches, with_calls}
use Rattle.cif_laws.proofs.WrittenCalls.{IsFrom, IsGood, WrittenCalls, calls_well, still_acyclic}
use Rattle.cif_laws.proofs.WrittenSymbols.{has_number, own_numbers, written_well}

-- ---- items again

item_again : (number : ℕ) (item : Item) → item_of (element_of Polygons number item) ≡ as_written number item
item_again number (Shape cell layer rings) = refl
item_again number (Placed cell target turn) = refl

held_again : (number : ℕ) (items : List Item) → map item_of (map (element_of Polygons number) items) ≡ map (as_written number) items
held_again number [] = refl
held_again number (item ∷ items) = λ i. item_again number item i ∷ held_again number items i

items_again : (ds : List Definition) → map item_of (flat_map (elements_of Polygons) ds)
    ≡ flat_map (λ (d : Definition). map (as_written d.number) d.items) ds
items_again [] = refl
items_again (d ∷ ds) =
    map-append item_of (elements_of Polygons d) (flat_map (elements_of Polygons) ds)
    ∙ (λ i. held_again d.number d.items i ++ items_again ds i)

pub written_again : (file : Written) → map item_of (elements_written Polygons file) ≡ items_written file
written_again file =
    map-append item_of (flat_map (elements_of Polygons) file.definitions) (record { cell = Top; figure = Call file.called unturned } ∷ [])
    ∙ ap (λ items. items ++ Placed Top file.called unturned ∷ []) (items_again file.definitions)

-- ---- the calls are bound

module _ (way : Rectangles) (layout : Layout) (sound : IsSound layout) (named : AreOnNamedLayers layout) where
  bound : (file : Written) (calls : List Pending) → WrittenCalls way layout file
      → map edge_of calls ≡ element_calls (elements_written way file)
      → All (IsBound (map symbol_of file.definitions)) calls
  bound file calls good e =
      let all = map symbol_of file.definitions in
      unmapped (λ c. has_symbol all c.1 ≡ true) edge_of calls
      (subst (All (λ c. has_symbol all c.1 ≡ true)) (sym e)
      (All-weaker (λ c. IsGood layout all c.0 c.1) (λ c. has_symbol all c.1 ≡ true) (λ c g. g.1)
      (element_calls (elements_written way file)) good))

  acyclic : (file : Written) (calls : List Pending) → WrittenCalls way layout file
      → map edge_of calls ≡ element_calls (elements_written way file)
      → IsAcyclic (map edge_of calls)
  acyclic file calls good e =
      subst IsAcyclic (sym e)
      (still_acyclic (calls_of layout) (own_numbers layout) (λ i d h. has_number layout sound named _ (targets layout sound i d h))
      (element_calls (elements_written way file))
      (All-weaker (λ c. IsGood layout (map symbol_of file.definitions) c.0 c.1) (λ c. IsFrom (calls_of layout) (own_numbers layout) c.0 c.1)
      (λ c g. g.0) (element_calls (elements_written way file)) good) sound.acyclic)

-- ---- the laws

-- the layout that is read of what is written
abbrev pub layout_read : Rectangles → Layout → Layout
layout_read way layout = layout_with (map symbol_of (written layout).definitions) (map item_of (elements_written way (written layout)))

-- what a text is read as that has this layout
record IsWrittenContent (way : Rectangles) (layout : Layout) (bytes : List ℕ) : Type 0 where
  commands : List (ℕ × Command)
  last : Content
  reads : Reads bytes commands
  means : content_of commands ≡ Ok last
  kept : IsKept last
  bound : All (IsBound last.symbols) last.calls
  acyclic : IsAcyclic (map edge_of last.calls)
  again : layout_of (contents_of last) ≡ layout_read way layout

-- a text that leads to what is written of the layout is read as such
abbrev pub LeadsToWritten : Rectangles → Layout → List ℕ → Type 0
LeadsToWritten way layout bytes =
    Reaches (outside [] []) (outside (map symbol_of (written layout).definitions) (elements_written way (written layout))) bytes

content_written : (way : Rectangles) (layout : Layout) → FitsText layout → (bytes : List ℕ) → LeadsToWritten way layout bytes
    → IsWrittenContent way layout bytes
unfolding content_of
content_written way layout may bytes leads =
    let file = written layout in
    let well = written_well layout may.sound may.named may.room in
    let good = calls_well way layout may.sound may.named well in
    let read = leads (record { calls = []; extensions = 0 }) 0 [] start_kept refl in
    record {
      commands = read.commands;
      last = with_calls (outside (map symbol_of file.definitions) (elements_written way file)) read.calls;
      reads = read.reads;
      means = read.means;
      kept = read.kept;
      bound = bound way layout may.sound may.named file read.calls.calls good read.kept.calls;
      acyclic = acyclic way layout may.sound may.named file read.calls.calls good read.kept.calls;
      again = refl;
    }

module _ (Wanted : Layout → Type 0) where
  answered : (way : Rectangles) (layout : Layout) (bytes : List ℕ) → IsWrittenContent way layout bytes → Wanted (layout_read way layout)
      → IsAnsweredWith Wanted bytes
  answered way layout bytes w wanted short result (inl none) = inl none
  answered way layout bytes w wanted short result (inr meaning) =
      let content : content_within bytes ≡ Ok w.last = short_text bytes short
      ∙ complete bytes w.commands w.reads ∙ w.means in
      let bound = subst (λ (r : Result Content CifFault). IsEndOf r result) content meaning in
      let same = one_end w.last result (Ok (contents_of w.last)) bound (refl, w.bound, w.acyclic) in
      inr (contents_of w.last, same, subst Wanted (sym w.again) wanted)

  pub read_with : (way : Rectangles) (layout : Layout) → FitsText layout → (bytes : List ℕ) → LeadsToWritten way layout bytes
      → Wanted (layout_read way layout)
      → IsReadWith Wanted bytes × IsAnsweredWith Wanted bytes
  read_with way layout may bytes leads wanted =
      let w = content_written way layout may bytes leads in (
        (w.commands, w.last, contents_of w.last, w.reads, w.means, (refl, w.bound, w.acyclic), subst Wanted (sym w.again) wanted),
        answered way layout bytes w wanted,
      )

-- without boxes it is the wrapped layout
paths_read : (layout : Layout) → layout_read Polygons layout ≡ wrap layout
paths_read layout = ap (layout_with (map symbol_of (written layout).definitions)) (written_again (written layout))

pub read_as : (layout : Layout) → FitsText layout → (bytes : List ℕ) → LeadsToWritten Polygons layout bytes
    → IsReadAs layout bytes × IsAnsweredAs layout bytes
read_as layout may bytes leads = read_with (λ read. read ≡ wrap layout) Polygons layout may bytes leads (paths_read layout)

-- the text of a layout leads there
pub text_leads : (way : Rectangles) (layout : Layout) → FitsText layout → LeadsToWritten way layout (text_as way layout)
unfolding text_as
text_leads way layout may =
    let well = written_well layout may.sound may.named may.room in
    file_read way (written layout) well.definitions well.small

paths_lead : (layout : Layout) → FitsText layout → LeadsToWritten Polygons layout (text layout)
paths_lead layout may = subst (LeadsToWritten Polygons layout) (text_as_paths layout) (text_leads Polygons layout may)

pub read_back : WhatIsWrittenIsReadBack
read_back layout may = read_as layout may (text layout) (paths_lead layout may)

pub wrapped_sound : WhatIsWrappedIsSound
wrapped_sound layout may =
    let w = content_written Polygons layout may (text layout) (paths_lead layout may) in
    subst IsSound (w.again ∙ paths_read layout) (layout_of-sound (contents_of w.last) (sound_file w.last w.kept w.bound w.acyclic))

-- ---- what a reader answers

pub refused_again : (layout : Layout) → FitsText layout → length (text layout) ≤ MAX_TEXT → (fault : CifFault)
    → AnswersMeaning (text layout) (Err fault) → fault ≡ no_memory
refused_again layout may short fault answer = by ((read_back layout may).1 short (Err fault) answer) where
  by : (◌≡◌ {A = Result Contents CifFault} (Err fault) (Err no_memory))
      ⊎ ((file : Contents) × (◌≡◌ {A = Result Contents CifFault} (Err fault) (Ok file)) × (layout_of file ≡ wrap layout))
      → fault ≡ no_memory
  by (inl none) = cc
  by (inr found) = absurd (let no : ◌≡◌ {A = Result Contents CifFault} (Err fault) (Ok found.0) = found.1 in cc)

pub accepted_again : (layout : Layout) → FitsText layout → length (text layout) ≤ MAX_TEXT → (file : Contents)
    → AnswersMeaning (text layout) (Ok file) → layout_of file ≡ wrap layout
accepted_again layout may short file answer = by ((read_back layout may).1 short (Ok file) answer) where
  by : (◌≡◌ {A = Result Contents CifFault} (Ok file) (Err no_memory))
      ⊎ ((other : Contents) × (◌≡◌ {A = Result Contents CifFault} (Ok file) (Ok other)) × (layout_of other ≡ wrap layout))
      → layout_of file ≡ wrap layout
  by (inl none) = absurd (let no : ◌≡◌ {A = Result Contents CifFault} (Ok file) (Err no_memory) = none in cc)
  by (inr found) =
      let same : file ≡ found.0 = cc in
      ap layout_of same ∙ found.2
