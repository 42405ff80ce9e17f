-- What the commands of written lines lead to.
use Rattle.std.proofs.Common.{◌≡◌, ℕ, ◌≤◌, ◌<◌, true, false, cond, List, [], ◌∷◌, ◌++◌}
use Rattle.std.proofs.Common.{length, map, None, Some, Option, Ok, Err, refl, ap, ◌∙◌, arith}
use Rattle.std.specs.Prelude.{nat_lt}
use Rattle.std.proofs.lemmas.Bool.{le-ltb}
use Rattle.std.proofs.lemmas.Bool.Decides.{nat_tests}
use Rattle.lay_point.specs.declared.layer_name.TheConstants.{MAX_LAYER_NAME}
use Rattle.lay_point.specs.declared.point.Point.{Point}
use Rattle.lay_point.specs.declared.turn.Turn.{Turn}
use Rattle.lay_point.specs.Points.{is_in_range}
use Rattle.lay_point.specs.Rings.{IsRing}
use Rattle.lay_point.specs.Turns.{unturned}
use Rattle.lay_cells.specs.declared.cell_id.CellId.TheVariants.{Symbol, Top}
use Rattle.lay_cells.specs.declared.cells.TheConstants.{MAX_SYMBOL}
use Rattle.lay_cells.specs.Symbols.{has_symbol}
use Rattle.cif_grammar.specs.Commands as command
use Rattle.cif_read.specs.declared.content.Content.{Content}
use Rattle.cif_read.specs.declared.element.Element.{Element}
use Rattle.cif_read.specs.declared.element.Figure.TheVariants.{Call, Polygon}
use Rattle.cif_read.specs.declared.fault.FaultKind.TheVariants.{TooBig}
use Rattle.cif_read.specs.declared.file.TheConstants.{MAX_SYMBOLS}
use Rattle.cif_read.specs.Content.{after_call, after_layer, after_polygon, after_start, called, definition_begun, on_layer}
use Rattle.cif_read.specs.Polygons.{polygon_at}
use Rattle.cif_read.specs.Steps.{and_then}
use Rattle.cif_read.specs.Symbols.{definition_fault}
use Rattle.cif_laws.proofs.Reaching.{Does, with_calls}
use Rattle.cif_laws.proofs.ScaledBack.{polygon_back, small_path}
use Rattle.cif_laws.proofs.TurnsBack.{turn_back, turn_small, unturned_back}
use Rattle.cif_laws.proofs.WrittenLines.{halved_definition, half}
use Rattle.cif_laws.proofs.WrittenNumbers.{vertex_of}
use Rattle.cif_laws.proofs.WrittenTurns.{changes_of}

-- within the definition of this symbol
abbrev pub inside : ℕ → Option (List ℕ) → List ℕ → List Element → Content
inside number layer symbols elements = record {
  layer = layer;
  definition = Some (record { symbol = number; scale = half; saved = None });
  symbols = symbols;
  elements = elements;
  calls = [];
  extensions = 0;
  dropped = 0;
}

-- between definitions
abbrev pub outside : List ℕ → List Element → Content
outside symbols elements =
    record { layer = None; definition = None; symbols = symbols; elements = elements; calls = []; extensions = 0; dropped = 0 }

-- a symbol that may be defined behind these
pub record MayBegin (symbols : List ℕ) (number : ℕ) : Type 0 where
  pub small : number ≤ MAX_SYMBOL
  pub new : has_symbol symbols number ≡ false
  pub room : length symbols < MAX_SYMBOLS

no_fault : (symbols : List ℕ) (number : ℕ) → MayBegin symbols number → definition_fault symbols (halved_definition number) ≡ None
unfolding definition_fault
no_fault symbols number may = grind (arith, nat_tests, may.small, may.new, may.room)

pub begins : (symbols : List ℕ) (es : List Element) (number : ℕ) → MayBegin symbols number
    → Does (outside symbols es) (command.Start (halved_definition number)) (inside number None (symbols ++ number ∷ []) es)
unfolding after_start
begins symbols es number may calls offset =
    (calls, ap (definition_begun (with_calls (outside symbols es) calls) (halved_definition number)) (no_fault symbols number may))

pub sets_layer : (number : ℕ) (set : Option (List ℕ)) (symbols : List ℕ) (es : List Element) (name : List ℕ) → length name ≤ MAX_LAYER_NAME
    → Does (inside number set symbols es) (command.Layer name) (inside number (Some name) symbols es)
unfolding after_layer
sets_layer number set symbols es name short calls offset = (calls, rw (le-ltb MAX_LAYER_NAME (length name) short) refl)

pub draws : (number : ℕ) (layer symbols : List ℕ) (es : List Element) (ps : List Point) → IsRing ps
    → Does (inside number (Some layer) symbols es) (command.Polygon (map vertex_of ps))
    (inside number (Some layer) symbols (es ++ record { cell = Symbol number; figure = Polygon layer ps } ∷ []))
unfolding after_polygon
draws number layer symbols es ps ring calls offset =
    let content = with_calls (inside number (Some layer) symbols es) calls in (
      calls,
      ap (λ b. cond b (Err TooBig) (on_layer content (Some layer) (polygon_at half (map vertex_of ps)))) (small_path ps ring.in_range)
          ∙ ap (on_layer content (Some layer)) (polygon_back ps ring),
    )

small_target : (target : ℕ) → target ≤ MAX_SYMBOL → nat_lt MAX_SYMBOL target ≡ false
small_target target h = grind (arith, nat_tests)

pub calls_turned : (number : ℕ) (set : Option (List ℕ)) (symbols : List ℕ) (es : List Element) (target : ℕ) (turn : Turn)
    → target ≤ MAX_SYMBOL
    → is_in_range turn.shift ≡ true
    → Does (inside number set symbols es) (command.Call target (changes_of turn))
    (inside number set symbols (es ++ record { cell = Symbol number; figure = Call target turn } ∷ []))
unfolding after_call
calls_turned number set symbols es target turn small within calls offset =
    let content = with_calls (inside number set symbols es) calls in (
      record calls { calls = calls.calls ++ record { offset = offset; caller = Symbol number; target = target } ∷ [] },
      rw (small_target target small, turn_small turn within)
          (ap (λ r. and_then r (λ turn. Ok (called content offset target turn))) (turn_back turn within)),
    )

pub calls_plainly : (symbols : List ℕ) (es : List Element) (target : ℕ) → target ≤ MAX_SYMBOL
    → Does (outside symbols es) (command.Call target (changes_of unturned))
    (outside symbols (es ++ record { cell = Top; figure = Call target unturned } ∷ []))
unfolding after_call
calls_plainly symbols es target small calls offset =
    let content = with_calls (outside symbols es) calls in (
      record calls { calls = calls.calls ++ record { offset = offset; caller = Top; target = target } ∷ [] },
      rw (small_target target small)
          (ap (λ r. and_then r (λ turn. Ok (called content offset target turn))) unturned_back),
    )

pub finishes : (number : ℕ) (set : Option (List ℕ)) (symbols : List ℕ) (es : List Element)
    → Does (inside number set symbols es) command.Finish (outside symbols es)
finishes number set symbols es calls offset = (calls, refl)
