-- What each command keeps.
use Rattle.std.proofs.Common.{◌≡◌, ℕ, ◌+◌, ◌≤◌, Bool, true, false, List, [], ◌∷◌, ◌++◌}
use Rattle.std.proofs.Common.{length, Option, Some, None, Result, Ok, Err, refl, sym, ap}
use Rattle.std.proofs.Common.{◌∙◌, subst, arith, inl, inr, All, ◌||◌}
use Rattle.std.specs.Prelude.{not, nat_eq, nat_lt}
use Rattle.std.specs.List.{list_any, list_all}
use Rattle.std.proofs.lemmas.Bool.Decides.{nat_tests}
use Rattle.std.proofs.lemmas.List.{length-append, map-append}
use Rattle.std.proofs.lemmas.List.Elements.{All-append, All-cons, All-nil, All-weaker}
use Rattle.std.proofs.lemmas.List.Folds.{list_any-append}
use Rattle.lay_point.specs.declared.point.Point.{Point}
use Rattle.lay_point.specs.declared.turn.Turn.{Turn}
use Rattle.lay_point.specs.Points.{is_in_range}
use Rattle.lay_point.specs.Turns.{composed, unturned}
use Rattle.lay_cells.specs.declared.cell_id.CellId.{CellId}
use Rattle.lay_cells.specs.declared.cell_id.CellId.TheVariants.{Symbol, Top}
use Rattle.lay_cells.specs.declared.cells.TheConstants.{MAX_SYMBOL}
use Rattle.lay_cells.specs.Symbols.{has_cell, has_symbol}
use Rattle.byte_io.proofs.Steps.{bind_some, chosen_of}
use Rattle.cif_grammar.specs.declared.boxes.BoxNumbers.{BoxNumbers}
use Rattle.cif_grammar.specs.declared.paths.Vertex.{Vertex}
use Rattle.cif_grammar.specs.declared.calls.Change.{Change}
use Rattle.cif_grammar.specs.declared.definitions.Definition.{Definition}
use Rattle.cif_grammar.specs.declared.definitions.Scale.{Scale}
use Rattle.cif_grammar.specs.Commands.{Box, Call, Command, Comment, Extension, Finish, Layer, Polygon, Start}
use Rattle.cif_grammar.specs.Grammar.{inside_after, may_stand}
use Rattle.cif_read.specs.declared.content.Content.{Content}
use Rattle.cif_read.specs.declared.content.OpenDefinition.{OpenDefinition}
use Rattle.cif_read.specs.declared.content.Pending.{Pending}
use Rattle.cif_read.specs.declared.element.Element.{Element}
use Rattle.cif_read.specs.declared.element.Figure.{Figure}
use Rattle.cif_read.specs.declared.element.Figure.TheVariants as figure
use Rattle.cif_read.specs.declared.fault.FaultKind.{FaultKind}
use Rattle.cif_read.specs.declared.fault.FaultKind.TheVariants.{LongName, OffAxis, OffGrid, TooBig}
use Rattle.lay_point.specs.declared.layer_name.TheConstants.{MAX_LAYER_NAME}
use Rattle.cif_read.specs.Binding.{edge_of}
use Rattle.cif_read.specs.Boxes.{box_at, is_askew, is_big_box}
use Rattle.cif_read.specs.Calls.{call_turn, is_askew_change, is_whole_change, turn_changed_by, turn_in_range, turn_of, turn_or_fault}
use Rattle.cif_read.specs.Content.{after_box, after_call, after_layer, after_polygon, after_start, called, content_size, current_cell}
use Rattle.cif_read.specs.Content.{definition_begun, drawn}
use Rattle.cif_read.specs.Content.{current_scale, effect_of, empty_content, finished, is_big_call, is_inside, on_layer}
use Rattle.cif_read.specs.Contents.{element_calls, with_call}
use Rattle.cif_read.specs.Kept.{IsKept, IsKeptElement}
use Rattle.cif_read.specs.Polygons.{is_too_big, polygon_at}
use Rattle.cif_read.specs.Scales.{IsRatio}
use Rattle.cif_read.specs.Steps.{and_then}
use Rattle.cif_read.specs.Symbols.{definition_fault}
use Rattle.cif_read.proofs.RingFacts.{IsDrawing, box_drawing, polygon_drawing, taken}
use Rattle.cif_read.proofs.SymbolLemmas.{new_symbol}

-- ---- symbols

pub more_cells : (symbols : List ℕ) (n : ℕ) (cell : CellId) → has_cell symbols cell ≡ true → has_cell (symbols ++ n ∷ []) cell ≡ true
more_cells symbols n Top h = refl
more_cells symbols n (Symbol m) h = rw (list_any-append, h) refl

pub new_cell : (symbols : List ℕ) (n : ℕ) → has_symbol (symbols ++ n ∷ []) n ≡ true
new_cell symbols n = rw list_any-append (by (has_symbol symbols n)) where
  same : nat_eq n n ≡ true
  same = grind (arith, nat_tests)

  by : (b : Bool) → (b || (nat_eq n n || false)) ≡ true
  by true = refl
  by false = rw same refl

-- ---- elements

joined : (cell : CellId) (f : Figure) (xs ys : List (CellId × ℕ)) → with_call cell f (xs ++ ys) ≡ with_call cell f xs ++ ys
joined cell (figure.Polygon layer ring) xs ys = refl
joined cell (figure.Call target turn) xs ys = refl

element_calls-append : (es : List Element) (e : Element) → element_calls (es ++ e ∷ []) ≡ element_calls es ++ with_call e.cell e.figure []
element_calls-append [] e = refl
element_calls-append (d ∷ ds) e = ap (with_call d.cell d.figure) (element_calls-append ds e)
    ∙ joined d.cell d.figure (element_calls ds) (with_call e.cell e.figure [])

one : {A : Type 0} (P : A → Type 0) (x : A) → P x → All P (x ∷ [])
one P x p = All-cons P x [] p (All-nil P)

-- what a command keeps, and how it stands among definitions
pub record IsStep (content : Content) (c : Command) (next : Content) : Type 0 where
  pub stands : may_stand (is_inside content.definition) c ≡ true
  pub inside : is_inside next.definition ≡ inside_after (is_inside content.definition) c
  pub kept : IsKept content → IsKept next
  pub count : content_size next ≤ content_size content + 1

-- the same of what keeps the definition
record IsDrawn (content next : Content) : Type 0 where
  same : next.definition ≡ content.definition
  kept : IsKept content → IsKept next
  count : content_size next ≤ content_size content + 1

with_polygon : (content : Content) (layer : List ℕ) (ring : Option (List Point)) → IsDrawing ring
    → IsDrawn content (drawn content layer ring)
with_polygon content layer None is = record {
  same = refl;
  kept = λ k. record { few = k.few; numbers = k.numbers; scale = k.scale; inside = k.inside; elements = k.elements; calls = k.calls };
  count = omega arith;
}
with_polygon content layer (Some ring) is = record {
  same = refl;
  kept = λ k. record {
    few = k.few;
    numbers = k.numbers;
    scale = k.scale;
    inside = k.inside;
    elements = All-append (IsKeptElement content.symbols) content.elements (made ∷ []) k.elements
        (one (IsKeptElement content.symbols) made (k.inside, is));
    calls = k.calls ∙ sym (element_calls-append content.elements made ∙ append-none (element_calls content.elements));
  };
  count = omega (arith, length-append content.elements (made ∷ []));
} where
  made : Element
  made = record { cell = current_cell content.definition; figure = figure.Polygon layer ring }

  append-none : {A : Type 0} (xs : List A) → xs ++ [] ≡ xs
  append-none [] = refl
  append-none (x ∷ xs) = ap (λ t. x ∷ t) (append-none xs)

no_value : {A E : Type 0} (e : E) (x : A) → ◌≡◌ {A = Result A E} (Err e) (Ok x) → ⊥
no_value e x h = cc

pub then_ok : {A B E : Type 0} (r : Result A E) (f : A → Result B E) (y : B) → and_then r f ≡ Ok y → (x : A) × (r ≡ Ok x) × (f x ≡ Ok y)
then_ok (Ok x) f y e = (x, refl, e)
then_ok (Err d) f y e = absurd (no_value d y e)

on_layer_drawn : (content next : Content) (layer : Option (List ℕ)) (drawing : Result (Option (List Point)) FaultKind)
    → ((ring : Option (List Point)) → drawing ≡ Ok ring → IsDrawing ring) → on_layer content layer drawing ≡ Ok next → IsDrawn content next
on_layer_drawn content next None drawing is e = absurd (no_value _ next e)
on_layer_drawn content next (Some layer) drawing is e =
    let step = then_ok drawing (λ ring. Ok (drawn content layer ring)) next e in
    let same : drawn content layer step.0 ≡ next = cc in
    subst (λ (n : Content). IsDrawn content n) same (with_polygon content layer step.0 (is step.0 step.1))

from_drawn : (content next : Content) (c : Command) → may_stand (is_inside content.definition) c ≡ true
    → inside_after (is_inside content.definition) c ≡ is_inside content.definition → IsDrawn content next → IsStep content c next
from_drawn content next c stands after d = record {
  stands = stands;
  inside = ap is_inside d.same ∙ sym after;
  kept = d.kept;
  count = d.count;
}

-- ---- turns

turned_in_range : (cs : List Change) (scale : Scale) (turn found : Turn) → is_in_range turn.shift ≡ true
    → turn_changed_by scale turn cs ≡ Some found
    → is_in_range found.shift ≡ true
unfolding turn_changed_by
turned_in_range [] scale turn found h e =
    let same : turn ≡ found = cc in
    rw (← same) h
turned_in_range (c ∷ cs) scale turn found h e =
    let read = bind_some (turn_in_range (composed turn (turn_of scale c))) (λ next. turn_changed_by scale next cs) found e in
    turned_in_range cs scale read.0 found (by (composed turn (turn_of scale c)) read.0 read.1) read.2
  where
    by : (t next : Turn) → turn_in_range t ≡ Some next → is_in_range next.shift ≡ true
    by t next e = elim (chosen_of (is_in_range t.shift) (Some t) None (Some next) e) [
      | inl good ↦
          let same : t ≡ next = cc in
          rw (← same) good.0
      | inr bad ↦ absurd (let no : ◌≡◌ {A = Option Turn} None (Some next) = bad.1 in cc)
    ]

call_in_range : (scale : Scale) (cs : List Change) (turn : Turn) → call_turn scale cs ≡ Ok turn → is_in_range turn.shift ≡ true
unfolding call_turn
call_in_range scale cs turn e =
    taken (list_any is_askew_change cs) OffAxis _ turn e (λ _ e.
    taken (not (list_all (is_whole_change scale) cs)) OffGrid _ turn e (λ _ e. by (turn_changed_by scale unturned cs) refl e)) where
      by : (o : Option Turn) → turn_changed_by scale unturned cs ≡ o → turn_or_fault o ≡ Ok turn → is_in_range turn.shift ≡ true
      by None f e = absurd (no_value _ turn e)
      by (Some t) f e =
          let same : t ≡ turn = cc in
          turned_in_range cs scale unturned turn refl (f ∙ ap Some same)

-- ---- each command

start_step : (content next : Content) (d : Definition) → after_start content d ≡ Ok next → IsStep content (Start d) next
unfolding after_start
start_step content next d e =
    taken (is_inside content.definition) _ _ next e (λ outside e. by (definition_fault content.symbols d) refl outside e)
  where
    by : (fault : Option FaultKind) → definition_fault content.symbols d ≡ fault → is_inside content.definition ≡ false
        → definition_begun content d fault ≡ Ok next → IsStep content (Start d) next
    by (Some fault) f outside e = absurd (no_value fault next e)
    by None f outside e =
        let new = new_symbol content.symbols d f in
        let made : Content = record content {
          layer = None;
          definition = Some (record { symbol = d.symbol; scale = d.scale; saved = content.layer });
          symbols = content.symbols ++ d.symbol ∷ [];
        } in
        let same : made ≡ next = cc in
        subst (λ (n : Content). IsStep content (Start d) n) same (record {
          stands = rw outside refl;
          inside = refl;
          kept = λ k. record {
            few = omega (arith, length-append content.symbols (d.symbol ∷ []), new.few);
            numbers =
                All-append (λ n. n ≤ MAX_SYMBOL) content.symbols (d.symbol ∷ []) k.numbers (one (λ n. n ≤ MAX_SYMBOL) d.symbol new.small);
            scale = new.ratio;
            inside = new_cell content.symbols d.symbol;
            elements = All-weaker (IsKeptElement content.symbols) (IsKeptElement (content.symbols ++ d.symbol ∷ []))
                (λ x p. (more_cells content.symbols d.symbol x.cell p.0, p.1)) content.elements k.elements;
            calls = k.calls;
          };
          count = omega arith;
        })

finish_step : (content next : Content) (o : Option OpenDefinition) → content.definition ≡ o → finished content o ≡ Ok next
    → IsStep content Finish next
finish_step content next None f e = absurd (no_value _ next e)
finish_step content next (Some o) f e =
    let made : Content = record content { layer = o.saved; definition = None } in
    let same : made ≡ next = cc in
    subst (λ (n : Content). IsStep content Finish n) same (record {
      stands = rw f refl;
      inside = refl;
      kept = λ k. record {
        few = k.few;
        numbers = k.numbers;
        scale = record { some = omega arith; numerator = omega arith; denominator = omega arith };
        inside = refl;
        elements = k.elements;
        calls = k.calls;
      };
      count = omega arith;
    })

call_step : (content next : Content) (offset symbol : ℕ) (cs : List Change) → after_call content offset symbol cs ≡ Ok next
    → IsStep content (Call symbol cs) next
unfolding after_call
call_step content next offset symbol cs e =
    taken (is_big_call symbol cs) _ _ next e (λ small e.
    let step = then_ok (call_turn (current_scale content.definition) cs) (λ turn. Ok (called content offset symbol turn)) next e in
    let same : called content offset symbol step.0 ≡ next = cc in
    let made : Element = record { cell = current_cell content.definition; figure = figure.Call symbol step.0 } in
    let pending : Pending = record { offset = offset; caller = current_cell content.definition; target = symbol } in
    subst (λ (n : Content). IsStep content (Call symbol cs) n) same (record {
      stands = refl;
      inside = refl;
      kept = λ k. record {
        few = k.few;
        numbers = k.numbers;
        scale = k.scale;
        inside = k.inside;
        elements = All-append (IsKeptElement content.symbols) content.elements (made ∷ []) k.elements
            (one (IsKeptElement content.symbols) made (k.inside, call_in_range (current_scale content.definition) cs step.0 step.1));
        calls = map-append edge_of content.calls (pending ∷ [])
            ∙ ap (λ t. t ++ (current_cell content.definition, symbol) ∷ []) k.calls ∙ sym (element_calls-append content.elements made);
      };
      count = omega (arith, length-append content.elements (made ∷ []));
    }))

layer_step : (content next : Content) (name : List ℕ) → after_layer content name ≡ Ok next → IsStep content (Layer name) next
unfolding after_layer
layer_step content next name e =
    taken (nat_lt MAX_LAYER_NAME (length name)) LongName _ next e (λ _ e.
    let made : Content = record content { layer = Some name } in
    let same : made ≡ next = cc in
    subst (λ (n : Content). IsStep content (Layer name) n) same (record {
      stands = refl;
      inside = refl;
      kept = λ k. record { few = k.few; numbers = k.numbers; scale = k.scale; inside = k.inside; elements = k.elements; calls = k.calls };
      count = omega arith;
    }))

-- the drawings of polygons and boxes
polygon_step : (content next : Content) (vertices : List Vertex)
    → after_polygon content vertices ≡ Ok next → IsStep content (Polygon vertices) next
unfolding after_polygon
polygon_step content next vertices e =
    taken (list_any is_too_big vertices) TooBig _ next e (λ _ e. from_drawn content next (Polygon vertices) refl refl
    (on_layer_drawn content next content.layer (polygon_at (current_scale content.definition) vertices)
    (λ ring is. polygon_drawing (current_scale content.definition) vertices ring is) e))

box_step : (content next : Content) (b : BoxNumbers) → IsRatio (current_scale content.definition) → after_box content b ≡ Ok next
    → IsStep content (Box b) next
unfolding after_box
box_step content next b ratio e =
    taken (is_big_box b) TooBig _ next e (λ _ e. taken (is_askew b) OffAxis _ next e (λ _ e. from_drawn content next (Box b) refl refl
    (on_layer_drawn content next content.layer (box_at (current_scale content.definition) b)
    (λ ring is. box_drawing (current_scale content.definition) b ring ratio is) e)))

pub step_of : (content next : Content) (offset : ℕ) (c : Command) → IsRatio (current_scale content.definition)
    → effect_of content offset c ≡ Ok next
    → IsStep content c next
step_of content next offset (Polygon vertices) ratio e = polygon_step content next vertices e
step_of content next offset (Box b) ratio e = box_step content next b ratio e
step_of content next offset (Layer name) ratio e = layer_step content next name e
step_of content next offset (Start d) ratio e = start_step content next d e
step_of content next offset Finish ratio e = finish_step content next content.definition refl e
step_of content next offset (Call symbol cs) ratio e = call_step content next offset symbol cs e
step_of content next offset Extension ratio e =
    let made : Content = record content { extensions = content.extensions + 1 } in
    let same : made ≡ next = cc in
    subst (λ (n : Content). IsStep content Extension n) same (record {
      stands = refl;
      inside = refl;
      kept = λ k. record { few = k.few; numbers = k.numbers; scale = k.scale; inside = k.inside; elements = k.elements; calls = k.calls };
      count = omega arith;
    })
step_of content next offset Comment ratio e =
    let same : content ≡ next = cc in
    subst (λ (n : Content). IsStep content Comment n) same (record { stands = refl; inside = refl; kept = λ k. k; count = omega arith })

pub start_kept : IsKept empty_content
start_kept = record {
  few = omega arith;
  numbers = All-nil (λ n. n ≤ MAX_SYMBOL);
  scale = record { some = omega arith; numerator = omega arith; denominator = omega arith };
  inside = refl;
  elements = All-nil (IsKeptElement []);
  calls = refl;
}
