-- Behind a command that is read, the place is the reader's.
use Rattle.std.proofs.Common.{◌≡◌, ℕ, Bool, true, false, cond, ltb, List, [], ◌∷◌, length, Option, Some, None, Result, Ok, Err, IfOk}
use Rattle.std.proofs.Common.{refl, subst}
use Rattle.std.specs.Prelude.{◌==◌, ◌&&◌, option_map}
use Rattle.std.specs.List.{list_all, list_any}
use Rattle.std.proofs.lemmas.Bool.{eqb-true}
use Rattle.lay_point.specs.declared.layer_name.TheConstants.{MAX_LAYER_NAME}
use Rattle.lay_point.specs.declared.point.Point.{Point}
use Rattle.lay_point.specs.declared.turn.Turn.{Turn}
use Rattle.lay_point.specs.Names.{is_digit}
use Rattle.byte_io.specs.Steps.{◌>>=◌}
use Rattle.cif_grammar.specs.declared.boxes.BoxNumbers.{BoxNumbers}
use Rattle.cif_grammar.specs.declared.calls.Change.{Change}
use Rattle.cif_grammar.specs.declared.definitions.Definition.{Definition}
use Rattle.cif_grammar.specs.declared.paths.Vertex.{Vertex}
use Rattle.cif_grammar.specs.Boxes.{box_of}
use Rattle.cif_grammar.specs.Calls.{changes_of}
use Rattle.cif_grammar.specs.Numbers.{integer_at}
use Rattle.cif_grammar.specs.Bytes.{is_blank, skip}
use Rattle.cif_grammar.specs.Commands.{Box, Call, Command, Comment, Extension, Finish, Layer, Polygon, Start}
use Rattle.cif_grammar.specs.Comments.{is_comment}
use Rattle.cif_grammar.specs.Definitions.{definition_of}
use Rattle.cif_grammar.specs.Layers.{layer_of}
use Rattle.cif_grammar.specs.Paths.{path_of}
use Rattle.cif_grammar.specs.Reading.{bracket_of, call_of, command_of}
use Rattle.cif_read.specs.declared.content.Content.{Content}
use Rattle.cif_read.specs.declared.content.OpenDefinition.{OpenDefinition}
use Rattle.cif_read.specs.declared.fault.FaultKind.{FaultKind}
use Rattle.cif_read.specs.declared.fault.FaultKind.TheVariants.{LongName, OffAxis, Syntax, TooBig}
use Rattle.cif_read.specs.Boxes.{box_at, is_askew, is_big_box}
use Rattle.cif_read.specs.Calls.{call_turn}
use Rattle.cif_read.specs.Content.{after_box, after_call, after_layer, after_polygon, after_start, called, current_scale, definition_begun}
use Rattle.cif_read.specs.Content.{effect_of, finished, is_big_call, is_inside, on_layer}
use Rattle.cif_read.specs.Meaning.{after_piece, read_as, unread_kind}
use Rattle.cif_read.specs.Polygons.{is_too_big, polygon_at}
use Rattle.cif_read.specs.Steps.{and_then}
use Rattle.cif_read.specs.Symbols.{definition_fault}
use Rattle.cif_read.proofs.LayerLemmas.{layer_name_of_layer}
use Rattle.cif_names.specs.declared.place.Place.{Place}
use Rattle.cif_names.specs.Laws.{PlacesAreTheReaders, place_in}
use Rattle.cif_names.specs.Places.{after_bracket, layer_at, layered, place_after, place_closed, place_opened}

-- what an effect leaves, if it is done, is at this place
abbrev LeavesAt : Place → Result Content FaultKind → Type 0
LeavesAt place effect = IfOk effect (λ next. place ≡ place_in next)

-- what a command does, or a fault where there is none
abbrev effect : Content → ℕ → FaultKind → Option Command → Result Content FaultKind
effect content offset kind o = read_as kind (effect_of content offset) o

-- ---- commands that set no layer, and begin or end no definition

on_layer-stays : (content : Content) (set : Option (List ℕ)) (drawing : Result (Option (List Point)) FaultKind)
    → LeavesAt (place_in content) (on_layer content set drawing)
on_layer-stays content None drawing = tt
on_layer-stays content (Some layer) (Err kind) = tt
on_layer-stays content (Some layer) (Ok None) = refl
on_layer-stays content (Some layer) (Ok (Some ring)) = refl

polygon_stays : (content : Content) (vertices : List Vertex) → LeavesAt (place_in content) (after_polygon content vertices)
unfolding after_polygon
polygon_stays content vertices = by (list_any is_too_big vertices) where
  by : (t : Bool) → LeavesAt (place_in content)
      (cond t (Err TooBig) (on_layer content content.layer (polygon_at (current_scale content.definition) vertices)))
  by true = tt
  by false = on_layer-stays content content.layer (polygon_at (current_scale content.definition) vertices)

box_stays : (content : Content) (b : BoxNumbers) → LeavesAt (place_in content) (after_box content b)
unfolding after_box
box_stays content b = by (is_big_box b) (is_askew b) where
  by : (t u : Bool) → LeavesAt (place_in content)
      (cond t (Err TooBig) (cond u (Err OffAxis) (on_layer content content.layer (box_at (current_scale content.definition) b))))
  by true u = tt
  by false true = tt
  by false false = on_layer-stays content content.layer (box_at (current_scale content.definition) b)

call_stays : (content : Content) (offset symbol : ℕ) (changes : List Change)
    → LeavesAt (place_in content) (after_call content offset symbol changes)
unfolding after_call
call_stays content offset symbol changes =
    by (is_big_call symbol changes) (call_turn (current_scale content.definition) changes) where
      by : (t : Bool) (r : Result Turn FaultKind) → LeavesAt (place_in content)
          (cond t (Err TooBig) (and_then r (λ turn. Ok (called content offset symbol turn))))
      by true r = tt
      by false (Err kind) = tt
      by false (Ok turn) = refl

-- what is read of bytes as one of these
polygons_stay : (content : Content) (offset : ℕ) (kind : FaultKind) (o : Option (List Vertex))
    → LeavesAt (place_in content) (effect content offset kind (option_map Polygon o))
polygons_stay content offset kind None = tt
polygons_stay content offset kind (Some vertices) = polygon_stays content vertices

boxes_stay : (content : Content) (offset : ℕ) (kind : FaultKind) (o : Option BoxNumbers)
    → LeavesAt (place_in content) (effect content offset kind (option_map Box o))
boxes_stay content offset kind None = tt
boxes_stay content offset kind (Some b) = box_stays content b

calls_stay : (content : Content) (offset : ℕ) (kind : FaultKind) (bytes : List ℕ)
    → LeavesAt (place_in content) (effect content offset kind (call_of bytes))
unfolding call_of
calls_stay content offset kind bytes = by (integer_at bytes) where
  inner : (symbol : ℕ) (o : Option (List Change))
      → LeavesAt (place_in content) (effect content offset kind (o >>= (λ changes. Some (Call symbol changes))))
  inner symbol None = tt
  inner symbol (Some changes) = call_stays content offset symbol changes

  by : (o : Option (ℕ × List ℕ)) → LeavesAt (place_in content) (effect content offset kind
      (o >>= (λ symbol. changes_of symbol.1 >>= (λ changes. Some (Call symbol.0 changes)))))
  by None = tt
  by (Some symbol) = inner symbol.0 (changes_of symbol.1)

-- ---- layers

layers_step : (content : Content) (offset : ℕ) (kind : FaultKind) (bytes : List ℕ) (o : Option (List ℕ)) → layer_of bytes ≡ o
    → LeavesAt (layered (place_in content) (layer_at bytes)) (effect content offset kind (option_map Layer o))
unfolding layer_at after_layer
layers_step content offset kind bytes None is = tt
layers_step content offset kind bytes (Some name) is =
    rw (is, layer_name_of_layer bytes name is) (by (ltb MAX_LAYER_NAME (length name))) where
      by : (t : Bool) → LeavesAt (layered (place_in content) (cond t None (Some name)))
          (cond t (Err LongName) (Ok (record content { layer = Some name })))
      by true = tt
      by false = refl

-- ---- definitions

begun_step : (content : Content) (d : Definition) (fault : Option FaultKind)
    → LeavesAt (place_opened (place_in content) (Some d)) (definition_begun content d fault)
begun_step content d (Some fault) = tt
begun_step content d None = refl

start_step : (content : Content) (d : Definition) → LeavesAt (place_opened (place_in content) (Some d)) (after_start content d)
unfolding after_start
start_step content d = by (is_inside content.definition) where
  by : (t : Bool) → LeavesAt (place_opened (place_in content) (Some d))
      (cond t (Err Syntax) (definition_begun content d (definition_fault content.symbols d)))
  by true = tt
  by false = begun_step content d (definition_fault content.symbols d)

starts_step : (content : Content) (offset : ℕ) (kind : FaultKind) (o : Option Definition)
    → LeavesAt (place_opened (place_in content) o) (effect content offset kind (option_map Start o))
starts_step content offset kind None = tt
starts_step content offset kind (Some d) = start_step content d

finish_step : (content : Content) (o : Option OpenDefinition) → content.definition ≡ o
    → LeavesAt (place_closed (place_in content)) (finished content o)
finish_step content None is = tt
finish_step content (Some o) is = rw is refl

bracket_step : (content : Content) (offset : ℕ) (kind : FaultKind) (bytes : List ℕ)
    → LeavesAt (after_bracket (place_in content) bytes) (effect content offset kind (bracket_of bytes))
bracket_step content offset kind [] = tt
bracket_step content offset kind (b ∷ bs) = by (b == 83) (b == 70) (list_all is_blank bs) where
  by : (t u v : Bool) → LeavesAt
      (cond t (place_opened (place_in content) (definition_of bs)) (cond (u && v) (place_closed (place_in content)) (place_in content)))
      (effect content offset kind (cond t (option_map Start (definition_of bs)) (cond u (cond v (Some Finish) None) None)))
  by true u v = starts_step content offset kind (definition_of bs)
  by false true true = finish_step content content.definition refl
  by false true false = tt
  by false false v = tt

-- ---- any command

-- by the first letter
letter_step : (content : Content) (offset : ℕ) (kind : FaultKind) (b : ℕ) (bs : List ℕ)
    → LeavesAt (place_after (place_in content) (b ∷ bs)) (effect content offset kind (command_of (b ∷ bs)))
unfolding place_after command_of
letter_step content offset kind b bs = by (b == 68) (b == 76) refl refl where
  -- no letter of a layer or a definition
  other : (t u v w x y : Bool) → LeavesAt (place_in content) (effect content offset kind
      (cond t (option_map Polygon (path_of bs)) (cond u (option_map Box (box_of bs)) (cond v (call_of bs)
      (cond w (cond x (Some Comment) None) (cond y (Some Extension) None))))))
  other true u v w x y = polygons_stay content offset kind (path_of bs)
  other false true v w x y = boxes_stay content offset kind (box_of bs)
  other false false true w x y = calls_stay content offset kind bs
  other false false false true true y = refl
  other false false false true false y = tt
  other false false false false x true = refl
  other false false false false x false = tt

  by : (t u : Bool) → (b == 68) ≡ t → (b == 76) ≡ u
      → LeavesAt (place_after (place_in content) (b ∷ bs)) (effect content offset kind (command_of (b ∷ bs)))
  by true u e f = rw (eqb-true b 68 e) (bracket_step content offset kind (skip is_blank bs))
  by false true e f = rw (eqb-true b 76 f) (layers_step content offset kind bs (layer_of bs) refl)
  by false false e f = rw (e, f) (other (b == 80) (b == 66) (b == 67) (b == 40) (is_comment bs) (is_digit b))

piece_step : (content : Content) (offset : ℕ) (bytes : List ℕ)
    → LeavesAt (place_after (place_in content) bytes) (after_piece content offset bytes)
unfolding command_of
piece_step content offset [] = tt
piece_step content offset (b ∷ bs) = letter_step content offset (unread_kind (b ∷ bs)) b bs

readers_step : (content next : Content) (offset : ℕ) (bytes : List ℕ) → after_piece content offset bytes ≡ Ok next
    → place_after (place_in content) bytes ≡ place_in next
readers_step content next offset bytes e = subst (LeavesAt (place_after (place_in content) bytes)) e (piece_step content offset bytes)

pub readers_places : PlacesAreTheReaders
readers_places = record { start = refl; step = readers_step }
