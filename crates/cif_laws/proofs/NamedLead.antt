-- A written text with the lines of names and labels in it leads to the same.
use Rattle.std.proofs.Common.{◌≡◌, ℕ, ◌+◌, ◌≤◌, Bool, true, false, cond, List, [], ◌∷◌, ◌++◌, map}
use Rattle.std.proofs.Common.{None, Some, Option, refl, sym, ap, ◌∙◌, subst, arith, append_assoc, append-nil, inl, inr}
use Rattle.std.specs.Prelude.{codes}
use Rattle.std.specs.List.{AllByRecursion, flat_map}
use Rattle.std.proofs.lemmas.List.Concat.{flat_map-append}
use Rattle.lay_point.specs.declared.point.Point.{Point}
use Rattle.lay_point.specs.declared.turn.Turn.{Turn}
use Rattle.lay_point.specs.Bridges.{bridged}
use Rattle.lay_point.specs.Names.{is_layer_name}
use Rattle.lay_point.specs.Turns.{unturned}
use Rattle.lay_cells.specs.declared.cells.TheConstants.{MAX_SYMBOL}
use Rattle.lay_layouts.specs.declared.item.Item.{Item}
use Rattle.lay_layouts.specs.Layout.{Layout}
use Rattle.lay_layouts.specs.declared.item.Item.TheVariants.{Placed, Shape}
use Rattle.byte_io.specs.Lines.{lines}
use Rattle.cif_grammar.specs.Bytes.{is_blank, is_gap, is_mark}
use Rattle.cif_grammar.specs.Commands as command
use Rattle.cif_grammar.specs.Grammar.{IsLayer}
use Rattle.cif_read.specs.declared.content.Content.{Content}
use Rattle.cif_read.specs.declared.element.Element.{Element}
use Rattle.cif_write.specs.declared.boxes.Rectangles.{Rectangles}
use Rattle.cif_write.specs.declared.boxes.Rectangles.TheVariants.{Boxes, Polygons}
use Rattle.cif_write.specs.declared.boxes.UprightBox.{UprightBox}
use Rattle.cif_write.specs.Boxes.{box_as, figure_text, line_text_as, lines_text_as, text_as}
use Rattle.cif_write.specs.Lines.{End, Finish, Line, OnLayer, Path, Start}
use Rattle.cif_write.specs.Lines as line
use Rattle.cif_write.specs.Text.{definition_lines, definitions_lines, file_lines, is_set, item_lines, items_lines, layer_after, text}
use Rattle.cif_write.specs.Wrap.{Definition, Written, written}
use Rattle.cif_write.proofs.BoxLemmas.{text_as_paths}
use Rattle.cif_names.specs.declared.names.Entry.{Entry}
use Rattle.cif_names.specs.Laws.{IsCommands, IsExtensionLine, IsLayeredLine}
use Rattle.cif_names.specs.Names.{is_of_symbols, names_of, within}
use Rattle.cif_names.specs.Woven.{
  has_newline,
  heading,
  heading_of,
  is_kept_in,
  last_call,
  lines_in,
  number_behind,
  started,
  with_names,
  woven,
  woven_line,
}
use Rattle.cif_names.proofs.KeptCommands.{kept_commands}
use Rattle.cif_names.proofs.SameText.{first_line}
use Rattle.cif_laws.specs.Laws.{FitsText}
use Rattle.cif_laws.specs.Named.{NamesChangeNothing, named}
use Rattle.cif_laws.proofs.CommandsDo.{MayBegin, begins, calls_plainly, finishes, inside, outside, sets_layer}
use Rattle.cif_laws.proofs.LinesLead.{
  AreWritable,
  IsWritable,
  element_of,
  elements_of,
  elements_written,
  item_leads,
  items_lead,
  layered_leads,
}
use Rattle.cif_laws.proofs.LinesLead.{lines_apart, named as named_layer, symbol_of}
use Rattle.cif_laws.proofs.NamelessLines.{AreNameless, all_filtered, file_nameless}
use Rattle.cif_laws.proofs.Reaching.{Reaches, command_leads, end_reached, first_leads, line_leads}
use Rattle.cif_laws.proofs.ReadAlike.{read_alike}
use Rattle.cif_laws.proofs.ReadBack.{LeadsToWritten, read_as}
use Rattle.cif_laws.proofs.WrittenLines.{call_line, finish_line, halved_definition, start_line}
use Rattle.cif_laws.proofs.WrittenSymbols.{written_well}
use Rattle.cif_laws.proofs.WrittenTurns.{changes_of}

-- ---- lines of names and labels

layer_spelled : (name : List ℕ) → is_layer_name name ≡ true → IsLayer (76 ∷ 32 ∷ name) name
unfolding is_blank is_mark
layer_spelled name h = record {
  front = 32 ∷ [];
  behind = [];
  parts = ap (λ t. 76 ∷ 32 ∷ t) (sym (append-nil name));
  front_blank = refl;
  some = (named_layer name h).some;
  name_bytes = (named_layer name h).bytes;
  behind_blank = refl;
}

module _ (number : ℕ) (symbols : List ℕ) (es : List Element) (last : Content) where
  -- whichever layer is set
  abbrev pub Leads : List ℕ → Type 0
  Leads text = (set : Option (List ℕ)) → Reaches (inside number set symbols es) last text

  extension_leads : (line text : List ℕ) → IsExtensionLine line → Leads text → Leads (line ++ text)
  unfolding is_gap is_blank is_mark
  extension_leads line text is leads set =
      subst (Reaches (inside number set symbols es) last)
      (sym (ap (λ l. l ++ text) is.parts ∙ append_assoc is.extension (codes ";\n") text))
      (command_leads (inside number set symbols es) (inside number set symbols es) last [] is.extension (10 ∷ []) command.Extension text
      is.is refl refl (λ beside offset. (record beside { extensions = beside.extensions + 1 }, refl)) (leads set))

  layered_line-leads : (line text : List ℕ) → IsLayeredLine line → Leads text → Leads (line ++ text)
  unfolding is_gap is_blank is_mark
  layered_line-leads line text is leads set =
      subst (Reaches (inside number set symbols es) last)
      (sym (ap (λ l. l ++ text) is.parts
      ∙ ap (λ t. 32 ∷ 76 ∷ 32 ∷ t)
      (append_assoc (is.layer ++ codes "; ") is.behind text ∙ append_assoc is.layer (codes "; ") (is.behind ++ text))))
      (command_leads (inside number set symbols es) (inside number (Some is.layer) symbols es) last (32 ∷ []) (76 ∷ 32 ∷ is.layer) (32 ∷ [])
      (command.Layer is.layer) (is.behind ++ text) (layer_spelled is.layer is.named) refl refl
      (sets_layer number set symbols es is.layer (named_layer is.layer is.named).short)
      (extension_leads is.behind text is.extension leads (Some is.layer)))

  entry_leads : (e : Entry) (text : List ℕ) → IsCommands e → Leads text → Leads (e.line ++ text)
  entry_leads e text (inl is) leads = extension_leads e.line text is leads
  entry_leads e text (inr is) leads = layered_line-leads e.line text is leads

  -- the lines of what passes
  picked_lead : (test : Entry → Bool) (entries : List Entry) (text : List ℕ) → AllByRecursion IsCommands entries
      → Leads text → Leads (flat_map (λ e. cond (test e) e.line []) entries ++ text)
  picked_lead test [] text are leads = leads
  picked_lead test (e ∷ entries) text are leads =
      subst Leads (sym (append_assoc (cond (test e) e.line []) (flat_map (λ e. cond (test e) e.line []) entries) text))
      (by (test e) (picked_lead test entries text are.1 leads)) where
        by : (t : Bool) → Leads (flat_map (λ e. cond (test e) e.line []) entries ++ text)
            → Leads (cond t e.line [] ++ (flat_map (λ e. cond (test e) e.line []) entries ++ text))
        by true further = entry_leads e (flat_map (λ e. cond (test e) e.line []) entries ++ text) are.0 further
        by false further = further

  heading_leads : (called : Option ℕ) (entries : List Entry) (n : ℕ) (text : List ℕ) → AllByRecursion IsCommands entries
      → Leads text → Leads (heading called entries n ++ text)
  heading_leads called entries n text are leads =
      subst Leads (sym (append_assoc (lines_in false called n entries) (lines_in true called n entries) text))
      (picked_lead (is_kept_in false called n) entries (lines_in true called n entries ++ text) are
      (picked_lead (is_kept_in true called n) entries text are leads))

  -- what stands behind a line, whichever symbol it is of
  pub heading_of-leads : (called : Option ℕ) (entries : List Entry) (o : Option ℕ) (text : List ℕ)
      → AllByRecursion IsCommands entries → Leads text → Leads (heading_of (heading called entries) o ++ text)
  heading_of-leads called entries None text are leads = leads
  heading_of-leads called entries (Some n) text are leads = heading_leads called entries n text are leads

-- ---- items, whichever layer is set before them

items_lead-any : (way : Rectangles) (number : ℕ) (symbols : List ℕ) (last : Content) (text : List ℕ) (items : List Item)
    (set : Option (List ℕ)) (es : List Element) → AllByRecursion IsWritable items
    → ((end : Option (List ℕ)) → Reaches (inside number end symbols (es ++ map (element_of way number) items)) last text)
    → Reaches (inside number set symbols es) last (lines_text_as way (items_lines None items) ++ text)
items_lead-any way number symbols last text [] set es may reaches =
    subst (λ (xs : List Element). Reaches (inside number set symbols xs) last text) (append-nil es) (reaches set)
items_lead-any way number symbols last text (Shape cell layer rings ∷ items) set es may reaches =
    let item : Item = Shape cell layer rings in
    let more = items_lines (Some layer) items in
    subst (Reaches (inside number set symbols es) last) (sym (lines_apart way (OnLayer layer ∷ Path (bridged rings) ∷ []) more text))
    (layered_leads way number symbols last (lines_text_as way more ++ text) set layer es (bridged rings) may.0.0 may.0.1
    (items_lead way number symbols last text items (Some layer) (es ++ element_of way number item ∷ []) may.1
    (λ end. subst (λ (xs : List Element). Reaches (inside number end symbols xs) last text)
    (sym (append_assoc es (element_of way number item ∷ []) (map (element_of way number) items))) (reaches end))))
items_lead-any way number symbols last text (Placed cell target turn ∷ items) set es may reaches =
    let item : Item = Placed cell target turn in
    let more = items_lines None items in
    subst (Reaches (inside number set symbols es) last) (sym (lines_apart way (line.Call target turn ∷ []) more text))
    (item_leads way number symbols last (lines_text_as way more ++ text) set es item may.0
    (items_lead-any way number symbols last text items set (es ++ element_of way number item ∷ []) may.1
    (λ end. subst (λ (xs : List Element). Reaches (inside number end symbols xs) last text)
    (sym (append_assoc es (element_of way number item ∷ []) (map (element_of way number) items))) (reaches end))))

-- ---- the text, line by line

module _ (way : Rectangles) (called : Option ℕ) (entries : List Entry) (are : AllByRecursion IsCommands entries) where
  -- a line, and what stands behind it
  abbrev with_heading : Line → List ℕ
  with_heading l = woven_line (heading called entries) (line_text_as way l)

  abbrev pub named_text : List Line → List ℕ
  named_text ls = flat_map with_heading ls

  named_lines : (ls : List Line) → AreNameless way ls → woven (heading called entries) (lines (lines_text_as way ls)) ≡ named_text ls
  named_lines [] nameless = refl
  named_lines (l ∷ ls) nameless =
      ap (woven (heading called entries)) (first_line (line_text_as way l) (lines_text_as way ls) nameless.0.one)
      ∙ ap (λ t. with_heading l ++ t) (named_lines ls nameless.1)

  -- only the first line of a definition has more behind it
  abbrev IsLater : Line → Type 0
  IsLater l = started (line_text_as way l) ≡ None

  later_text : (ls : List Line) → AllByRecursion IsLater ls → named_text ls ≡ lines_text_as way ls
  later_text [] later = refl
  later_text (l ∷ ls) later =
      ap (λ t. t ++ named_text ls)
      (ap (λ o. line_text_as way l ++ heading_of (heading called entries) o) later.0 ∙ append-nil (line_text_as way l))
      ∙ ap (λ t. line_text_as way l ++ t) (later_text ls later.1)

  unstarted : (t : Bool) → cond {A = Option ℕ} t None None ≡ None
  unstarted true = refl
  unstarted false = refl

  layer_later : (name : List ℕ) → IsLater (OnLayer name)
  unfolding started number_behind
  layer_later name = unstarted (has_newline (line_text_as way (OnLayer name)))

  finish_later : IsLater Finish
  unfolding started number_behind
  finish_later = refl

  figure_later : (o : Option UprightBox) (ps : List Point) → started (figure_text o ps) ≡ None
  unfolding started number_behind
  figure_later None ps = unstarted (has_newline (figure_text None ps))
  figure_later (Some b) ps = unstarted (has_newline (figure_text (Some b) ps))

  path_later : (ps : List Point) → IsLater (Path ps)
  path_later ps = figure_later (box_as way ps) ps

  call_later : (n : ℕ) (turn : Turn) → IsLater (line.Call n turn)
  unfolding started number_behind
  call_later n turn = unstarted (has_newline (line_text_as way (line.Call n turn)))

  end_later : IsLater End
  unfolding started number_behind
  end_later = refl

  later-append : (ls ms : List Line) → AllByRecursion IsLater ls → AllByRecursion IsLater ms → AllByRecursion IsLater (ls ++ ms)
  later-append [] ms p q = q
  later-append (l ∷ ls) ms p q = (p.0, later-append ls ms p.1 q)

  item_later : (set : Option (List ℕ)) (item : Item) → AllByRecursion IsLater (item_lines set item)
  item_later set (Shape cell layer rings) = by (is_set set layer) where
    by : (t : Bool) → AllByRecursion IsLater (cond t (Path (bridged rings) ∷ []) (OnLayer layer ∷ Path (bridged rings) ∷ []))
    by true = (path_later (bridged rings), tt)
    by false = (layer_later layer, (path_later (bridged rings), tt))
  item_later set (Placed cell target turn) = (call_later target turn, tt)

  items_later : (set : Option (List ℕ)) (items : List Item) → AllByRecursion IsLater (items_lines set items)
  items_later set [] = tt
  items_later set (item ∷ items) =
      later-append (item_lines set item) (items_lines (layer_after set item) items) (item_later set item)
      (items_later (layer_after set item) items)

  -- lines and others behind them
  named_apart : (ls more : List Line) (text : List ℕ) → named_text (ls ++ more) ++ text ≡ named_text ls ++ (named_text more ++ text)
  named_apart ls more text =
      ap (λ t. t ++ text) (flat_map-append with_heading ls more) ∙ append_assoc (named_text ls) (named_text more) text

  -- ---- definitions

  definition_leads : (symbols : List ℕ) (es : List Element) (last : Content) (text : List ℕ) (d : Definition) → MayBegin symbols d.number
      → AllByRecursion IsWritable d.items → Reaches (outside (symbols ++ d.number ∷ []) (es ++ elements_of way d)) last text
      → Reaches (outside symbols es) last (named_text (definition_lines d) ++ text)
  definition_leads symbols es last text d may items reaches =
      let begun = symbols ++ d.number ∷ [] in
      let start = line_text_as way (Start d.number) in
      let head = heading_of (heading called entries) (started start) in
      let tail = items_lines None d.items ++ Finish ∷ [] in
      let same : named_text tail ≡ lines_text_as way tail = later_text tail
      (later-append (items_lines None d.items) (Finish ∷ []) (items_later None d.items) (finish_later, tt)) in
      let apart : named_text (definition_lines d) ++ text ≡ start ++ (head ++ (lines_text_as way tail ++ text)) =
      ap (λ t. ((start ++ head) ++ t) ++ text) same ∙ append_assoc (start ++ head) (lines_text_as way tail) text
      ∙ append_assoc start head (lines_text_as way tail ++ text) in
      let leads : Leads d.number begun es last (lines_text_as way tail ++ text) = λ set.
      subst (Reaches (inside d.number set begun es) last) (sym (lines_apart way (items_lines None d.items) (Finish ∷ []) text))
      (items_lead-any way d.number begun last (lines_text_as way (Finish ∷ []) ++ text) d.items set es items
      (λ end. first_leads way (inside d.number end begun (es ++ elements_of way d)) (outside begun (es ++ elements_of way d)) last Finish
      command.Finish []
      text (finish_line way) (finishes d.number end begun (es ++ elements_of way d)) reaches)) in
      subst (Reaches (outside symbols es) last) (sym apart)
      (line_leads way (outside symbols es) (inside d.number None begun es) last (Start d.number)
      (command.Start (halved_definition d.number)) (head ++ (lines_text_as way tail ++ text))
      (start_line way d.number (let h = may.small in omega (arith, h))) (begins symbols es d.number may)
      (heading_of-leads d.number begun es last called entries (started start) (lines_text_as way tail ++ text) are leads None))

  definitions_lead : (ds : List Definition) (symbols : List ℕ) (es : List Element) (last : Content) (text : List ℕ) → AreWritable symbols ds
      → Reaches (outside (symbols ++ map symbol_of ds) (es ++ flat_map (elements_of way) ds)) last text
      → Reaches (outside symbols es) last (named_text (definitions_lines ds) ++ text)
  definitions_lead [] symbols es last text may reaches =
      subst (λ (ns : List ℕ). Reaches (outside ns es) last text) (append-nil symbols)
      (subst (λ (xs : List Element). Reaches (outside (symbols ++ []) xs) last text) (append-nil es) reaches)
  definitions_lead (d ∷ ds) symbols es last text may reaches =
      subst (Reaches (outside symbols es) last) (sym (named_apart (definition_lines d) (definitions_lines ds) text))
      (definition_leads symbols es last (named_text (definitions_lines ds) ++ text) d may.0 may.1
      (definitions_lead ds (symbols ++ d.number ∷ []) (es ++ elements_of way d) last text may.2
      (subst (λ (ns : List ℕ). Reaches (outside ns ((es ++ elements_of way d) ++ flat_map (elements_of way) ds)) last text)
      (sym (append_assoc symbols (d.number ∷ []) (map symbol_of ds)))
      (subst (λ (xs : List Element). Reaches (outside (symbols ++ (d.number ∷ map symbol_of ds)) xs) last text)
      (sym (append_assoc es (elements_of way d) (flat_map (elements_of way) ds))) reaches))))

  -- ---- the file

  file_leads : (file : Written) → AreWritable [] file.definitions → file.called ≤ MAX_SYMBOL
      → Reaches (outside [] []) (outside (map symbol_of file.definitions) (elements_written way file)) (named_text (file_lines file))
  file_leads file may small =
      let symbols = map symbol_of file.definitions in
      let es = flat_map (elements_of way) file.definitions in
      let last = outside symbols (elements_written way file) in
      let ending = line.Call file.called unturned ∷ End ∷ [] in
      let same : named_text ending ≡ lines_text_as way ending = later_text ending (call_later file.called unturned, (end_later, tt)) in
      subst (Reaches (outside [] []) last)
      (sym (flat_map-append with_heading (definitions_lines file.definitions) ending
      ∙ ap (λ t. named_text (definitions_lines file.definitions) ++ t) same))
      (definitions_lead file.definitions [] [] last (lines_text_as way ending) may
      (subst (Reaches (outside symbols es) last) (append-nil (lines_text_as way ending))
      (first_leads way (outside symbols es) last last (line.Call file.called unturned) (command.Call file.called (changes_of unturned))
      (End ∷ []) []
      (call_line way file.called unturned (omega (arith, small)) refl) (calls_plainly symbols es file.called small)
      (subst (Reaches last last) (sym (append-nil (lines_text_as way (End ∷ [])))) (end_reached last refl)))))

-- ---- the law

named_leads : (way : Rectangles) (layout : Layout) → FitsText layout → (source symbols : List ℕ)
    → LeadsToWritten way layout (named (text_as way layout) source symbols)
unfolding text_as with_names
named_leads way layout may source symbols =
    let kept = within symbols (names_of source) in
    let called = last_call None (lines (text_as way layout)) in
    let are : AllByRecursion IsCommands kept.entries = all_filtered IsCommands (is_of_symbols symbols)
    (names_of source).entries (kept_commands source) in
    let well = written_well layout may.sound may.named may.room in
    let same : with_names kept (text_as way layout) ≡ named_text way called kept.entries are (file_lines (written layout)) =
    named_lines way called kept.entries are (file_lines (written layout)) (file_nameless way layout may) in
    subst (LeadsToWritten way layout) (sym same) (file_leads way called kept.entries are (written layout) well.definitions well.small)

pub named_back : NamesChangeNothing
named_back layout may source symbols =
    let paths = read_as layout may (named (text layout) source symbols)
    (subst (λ (t : List ℕ). LeadsToWritten Polygons layout (named t source symbols)) (text_as_paths layout)
    (named_leads Polygons layout may source symbols)) in
    let boxes = read_alike Boxes layout may (named (text_as Boxes layout) source symbols) (named_leads Boxes layout may source symbols) in
    record { read = paths.0; answered = paths.1; boxes_read = boxes.0; boxes_answered = boxes.1 }
