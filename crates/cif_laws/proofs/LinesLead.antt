-- What the lines of items, of definitions and of a file lead to.
use Rattle.std.proofs.Common.{◌≡◌, ℕ, ◌≤◌, Bool, true, false, cond, List, [], ◌∷◌, ◌++◌, length, map}
use Rattle.std.proofs.Common.{None, Some, Option, refl, sym, ap, ◌∙◌, subst, arith, append_assoc, append-nil}
use Rattle.std.specs.Prelude.{IsTrue}
use Rattle.std.specs.List.{AllByRecursion, flat_map, list_all}
use Rattle.std.proofs.lemmas.Bool.Decides.{nat_tests}
use Rattle.std.proofs.lemmas.List.Concat.{flat_map-append}
use Rattle.lay_point.specs.declared.layer_name.TheConstants.{MAX_LAYER_NAME}
use Rattle.lay_point.specs.declared.point.Point.{Point}
use Rattle.lay_point.specs.Bridges.{bridged}
use Rattle.lay_point.specs.Names.{is_layer_name, is_name_byte}
use Rattle.lay_point.specs.Points.{is_in_range}
use Rattle.lay_point.specs.Rings.{IsRing}
use Rattle.lay_point.specs.Turns.{unturned}
use Rattle.lay_cells.specs.declared.cell_id.CellId.TheVariants.{Symbol, Top}
use Rattle.lay_cells.specs.declared.cells.TheConstants.{MAX_SYMBOL}
use Rattle.lay_layouts.specs.declared.item.Item.{Item}
use Rattle.lay_layouts.specs.declared.item.Item.TheVariants.{Placed, Shape}
use Rattle.cif_grammar.specs.Commands as command
use Rattle.cif_read.specs.declared.content.Content.{Content}
use Rattle.cif_read.specs.declared.element.Element.{Element}
use Rattle.cif_read.specs.declared.element.Figure.TheVariants.{Call, Polygon}
use Rattle.cif_write.specs.declared.boxes.Rectangles.{Rectangles}
use Rattle.cif_write.specs.Boxes.{line_text_as, lines_text_as}
use Rattle.cif_write.specs.Lines.{End, Finish, Line, OnLayer, Path, Start}
use Rattle.cif_write.specs.Lines as line
use Rattle.cif_write.specs.Text.{definition_lines, definitions_lines, file_lines, is_set, item_lines, items_lines, layer_after}
use Rattle.cif_write.specs.Wrap.{Definition, Written}
use Rattle.cif_write.proofs.IdleLemmas.{is_set-true}
use Rattle.cif_laws.proofs.BoxLines.{figure_line, figure_of, ring_as}
use Rattle.cif_laws.proofs.CommandsDo.{MayBegin, begins, calls_plainly, calls_turned, finishes, inside, outside, sets_layer}
use Rattle.cif_laws.proofs.Reaching.{Reaches, end_reached, first_leads}
use Rattle.cif_laws.proofs.WrittenLines.{call_line, halved_definition, finish_line, layer_line, start_line}
use Rattle.cif_laws.proofs.WrittenTurns.{changes_of}

-- ---- items

-- what can be written of an item: a layer's name and a ring, or a number and a shift within their limits
abbrev pub IsWritable : Item → Type 0
IsWritable (Shape cell layer rings) = IsTrue (is_layer_name layer) × IsRing (bridged rings)
IsWritable (Placed cell target turn) = (target ≤ MAX_SYMBOL) × IsTrue (is_in_range turn.shift)

-- the element that a shape's path is read as
abbrev pub drawn_as : Rectangles → ℕ → List ℕ → List Point → Element
drawn_as way number layer ps = record { cell = Symbol number; figure = Polygon layer (ring_as way ps) }

-- the element that an item in the symbol of this number is read as
abbrev pub element_of : Rectangles → ℕ → Item → Element
element_of way number (Shape cell layer rings) = drawn_as way number layer (bridged rings)
element_of way number (Placed cell target turn) = record { cell = Symbol number; figure = Call target turn }

pub record IsName (name : List ℕ) : Type 0 where
  pub some : 1 ≤ length name
  pub short : length name ≤ MAX_LAYER_NAME
  pub bytes : list_all is_name_byte name ≡ true

pub named : (name : List ℕ) → is_layer_name name ≡ true → IsName name
named name h = record { some = grind (arith, nat_tests); short = grind (arith, nat_tests); bytes = grind (arith, nat_tests) }

module _ (way : Rectangles) (number : ℕ) (symbols : List ℕ) (last : Content) (text : List ℕ) where
  path_leads : (layer : List ℕ) (es : List Element) (ps : List Point) → IsRing ps
      → Reaches (inside number (Some layer) symbols (es ++ drawn_as way number layer ps ∷ [])) last text
      → Reaches (inside number (Some layer) symbols es) last (lines_text_as way (Path ps ∷ []) ++ text)
  path_leads layer es ps ring reaches =
      first_leads way (inside number (Some layer) symbols es)
      (inside number (Some layer) symbols (es ++ drawn_as way number layer ps ∷ [])) last (Path ps)
      (figure_of way ps ring).command [] text (figure_line way ps ring)
      ((figure_of way ps ring).draws number layer symbols es) reaches

  -- whichever layer is set before
  pub layered_leads : (set : Option (List ℕ)) (layer : List ℕ) (es : List Element) (ps : List Point) → is_layer_name layer ≡ true
      → IsRing ps
      → Reaches (inside number (Some layer) symbols (es ++ drawn_as way number layer ps ∷ [])) last text
      → Reaches (inside number set symbols es) last (lines_text_as way (OnLayer layer ∷ Path ps ∷ []) ++ text)
  layered_leads set layer es ps name ring reaches =
      let is = named layer name in
      first_leads way (inside number set symbols es) (inside number (Some layer) symbols es) last (OnLayer layer) (command.Layer layer)
      (Path ps ∷ []) text (layer_line way layer is.some is.bytes) (sets_layer number set symbols es layer is.short)
      (path_leads layer es ps ring reaches)

  shape_leads : (set : Option (List ℕ)) (layer : List ℕ) (es : List Element) (ps : List Point) → is_layer_name layer ≡ true → IsRing ps
      → Reaches (inside number (Some layer) symbols (es ++ drawn_as way number layer ps ∷ [])) last text
      → (b : Bool) → is_set set layer ≡ b
      → Reaches (inside number set symbols es) last (lines_text_as way (cond b (Path ps ∷ []) (OnLayer layer ∷ Path ps ∷ [])) ++ text)
  shape_leads set layer es ps name ring reaches true e =
      subst (λ (s : Option (List ℕ)). Reaches (inside number s symbols es) last (lines_text_as way (Path ps ∷ []) ++ text))
      (sym (is_set-true set layer e)) (path_leads layer es ps ring reaches)
  shape_leads set layer es ps name ring reaches false e = layered_leads set layer es ps name ring reaches

  pub item_leads : (set : Option (List ℕ)) (es : List Element) (item : Item) → IsWritable item
      → Reaches (inside number (layer_after set item) symbols (es ++ element_of way number item ∷ [])) last text
      → Reaches (inside number set symbols es) last (lines_text_as way (item_lines set item) ++ text)
  item_leads set es (Shape cell layer rings) may reaches =
      shape_leads set layer es (bridged rings) may.0 may.1 reaches (is_set set layer) refl
  item_leads set es (Placed cell target turn) may reaches =
      first_leads way (inside number set symbols es)
      (inside number set symbols (es ++ element_of way number (Placed cell target turn) ∷ [])) last
      (line.Call target turn) (command.Call target (changes_of turn)) [] text
      (call_line way target turn (omega (arith, may.0)) may.1) (calls_turned number set symbols es target turn may.0 may.1) reaches

-- lines and others behind them
pub lines_apart : (way : Rectangles) (lines more : List Line) (text : List ℕ)
    → lines_text_as way (lines ++ more) ++ text ≡ lines_text_as way lines ++ (lines_text_as way more ++ text)
lines_apart way lines more text =
    ap (λ t. t ++ text) (flat_map-append (line_text_as way) lines more)
    ∙ append_assoc (lines_text_as way lines) (lines_text_as way more) text

-- whatever layer is set in the end
pub items_lead : (way : Rectangles) (number : ℕ) (symbols : List ℕ) (last : Content) (text : List ℕ) (items : List Item)
    (set : Option (List ℕ)) (es : List Element)
    → AllByRecursion IsWritable items
    → ((end : Option (List ℕ)) → Reaches (inside number end symbols (es ++ map (element_of way number) items)) last text)
    → Reaches (inside number set symbols es) last (lines_text_as way (items_lines set items) ++ text)
items_lead way number symbols last text [] set es may reaches =
    subst (λ (xs : List Element). Reaches (inside number set symbols xs) last text) (append-nil es) (reaches set)
items_lead way number symbols last text (item ∷ items) set es may reaches =
    let more = items_lines (layer_after set item) items in
    subst (Reaches (inside number set symbols es) last) (sym (lines_apart way (item_lines set item) more text))
    (item_leads way number symbols last (lines_text_as way more ++ text) set es item may.0
    (items_lead way number symbols last text items (layer_after set item) (es ++ element_of way number item ∷ []) may.1
    (λ end. subst (λ (xs : List Element). Reaches (inside number end symbols xs) last text)
    (sym (append_assoc es (element_of way number item ∷ []) (map (element_of way number) items))) (reaches end))))

-- ---- definitions

abbrev pub elements_of : Rectangles → Definition → List Element
elements_of way d = map (element_of way d.number) d.items

definition_leads : (way : Rectangles) (symbols : List ℕ) (es : List Element) (last : Content) (text : List ℕ) (d : Definition)
    → MayBegin symbols d.number → AllByRecursion IsWritable d.items
    → Reaches (outside (symbols ++ d.number ∷ []) (es ++ elements_of way d)) last text
    → Reaches (outside symbols es) last (lines_text_as way (definition_lines d) ++ text)
definition_leads way symbols es last text d may items reaches =
    let begun = symbols ++ d.number ∷ [] in
    first_leads way (outside symbols es) (inside d.number None begun es) last (Start d.number) (command.Start (halved_definition d.number))
    (items_lines None d.items ++ Finish ∷ []) text (start_line way d.number (omega (arith, may.small))) (begins symbols es d.number may)
    (subst (Reaches (inside d.number None begun es) last) (sym (lines_apart way (items_lines None d.items) (Finish ∷ []) text))
    (items_lead way d.number begun last (lines_text_as way (Finish ∷ []) ++ text) d.items None es items
    (λ end. first_leads way (inside d.number end begun (es ++ elements_of way d)) (outside begun (es ++ elements_of way d)) last Finish
    command.Finish []
    text (finish_line way) (finishes d.number end begun (es ++ elements_of way d)) reaches)))

abbrev pub symbol_of : Definition → ℕ
symbol_of d = d.number

-- definitions that may stand one after the other behind these symbols
abbrev pub AreWritable : List ℕ → List Definition → Type 0
AreWritable symbols [] = Unit {0}
AreWritable symbols (d ∷ ds) = MayBegin symbols d.number × AllByRecursion IsWritable d.items × AreWritable (symbols ++ d.number ∷ []) ds

definitions_lead : (way : Rectangles) (ds : List Definition) (symbols : List ℕ) (es : List Element) (last : Content) (text : List ℕ)
    → AreWritable symbols ds
    → Reaches (outside (symbols ++ map symbol_of ds) (es ++ flat_map (elements_of way) ds)) last text
    → Reaches (outside symbols es) last (lines_text_as way (definitions_lines ds) ++ text)
definitions_lead way [] symbols es last text may reaches =
    subst (λ (ns : List ℕ). Reaches (outside ns es) last text) (append-nil symbols)
    (subst (λ (xs : List Element). Reaches (outside (symbols ++ []) xs) last text) (append-nil es) reaches)
definitions_lead way (d ∷ ds) symbols es last text may reaches =
    subst (Reaches (outside symbols es) last) (sym (lines_apart way (definition_lines d) (definitions_lines ds) text))
    (definition_leads way symbols es last (lines_text_as way (definitions_lines ds) ++ text) d may.0 may.1
    (definitions_lead way ds (symbols ++ d.number ∷ []) (es ++ elements_of way d) last text may.2
    (subst (λ (ns : List ℕ). Reaches (outside ns ((es ++ elements_of way d) ++ flat_map (elements_of way) ds)) last text)
    (sym (append_assoc symbols (d.number ∷ []) (map symbol_of ds)))
    (subst (λ (xs : List Element). Reaches (outside (symbols ++ (d.number ∷ map symbol_of ds)) xs) last text)
    (sym (append_assoc es (elements_of way d) (flat_map (elements_of way) ds))) reaches))))

-- ---- the file

-- the elements that a file is read as
abbrev pub elements_written : Rectangles → Written → List Element
elements_written way file =
    flat_map (elements_of way) file.definitions ++ record { cell = Top; figure = Call file.called unturned } ∷ []

pub file_read : (way : Rectangles) (file : Written) → AreWritable [] file.definitions → file.called ≤ MAX_SYMBOL
    → Reaches (outside [] []) (outside (map symbol_of file.definitions) (elements_written way file)) (lines_text_as way (file_lines file))
file_read way file may small =
    let symbols = map symbol_of file.definitions in
    let es = flat_map (elements_of way) file.definitions in
    let last = outside symbols (elements_written way file) in
    subst (Reaches (outside [] []) last) (sym (flat_map-append (line_text_as way) (definitions_lines file.definitions)
    (line.Call file.called unturned ∷ End ∷ [])))
    (definitions_lead way file.definitions [] [] last (lines_text_as way (line.Call file.called unturned ∷ End ∷ [])) may
    (subst (Reaches (outside symbols es) last) (append-nil (lines_text_as way (line.Call file.called unturned ∷ End ∷ [])))
    (first_leads way (outside symbols es) last last (line.Call file.called unturned) (command.Call file.called (changes_of unturned))
    (End ∷ []) []
    (call_line way file.called unturned (omega (arith, small)) refl) (calls_plainly symbols es file.called small)
    (subst (Reaches last last) (sym (append-nil (lines_text_as way (End ∷ [])))) (end_reached last refl)))))
