-- The fault of a command is that of the first check that fails.
use Rattle.std.proofs.Common.{◌≡◌, ℕ, Bool, true, false, List, [], ◌∷◌, ◌++◌, length, refl, sym, ap, ◌∙◌, append_assoc, inl, inr, arith}
use Rattle.std.specs.Prelude.{◌&&◌, Option, Some, None, Result, Ok, Err, cond, is_some, map, nat_lt, not}
use Rattle.std.specs.List.{list_all, list_any}
use Rattle.std.proofs.lemmas.Bool.{and_parts}
use Rattle.std.proofs.lemmas.List.{append-nil}
use Rattle.std.proofs.lemmas.Bool.Decides.{nat_tests}
use Rattle.lay_point.specs.declared.point.Point.{Point}
use Rattle.lay_point.specs.declared.ring.RingFault.TheVariants.{FewPoints, OutOfRange, TooMany as ManyPoints}
use Rattle.lay_point.specs.declared.ring.TheConstants.{MAX_RING_POINTS}
use Rattle.lay_point.specs.declared.turn.Turn.{Turn}
use Rattle.lay_point.specs.Points.{is_in_range}
use Rattle.lay_point.specs.Rings.{checked_ring, ring_of, without_repeats}
use Rattle.lay_point.specs.Turns.{unturned}
use Rattle.lay_cells.specs.Symbols.{has_symbol}
use Rattle.byte_io.specs.Steps.{◌>>=◌}
use Rattle.cif_grammar.specs.declared.boxes.BoxNumbers.{BoxNumbers}
use Rattle.cif_grammar.specs.declared.calls.Change.{Change}
use Rattle.cif_grammar.specs.declared.definitions.Definition.{Definition}
use Rattle.cif_grammar.specs.declared.definitions.Scale.{Scale}
use Rattle.cif_grammar.specs.declared.paths.Vertex.{Vertex}
use Rattle.cif_grammar.specs.Commands.{Command}
use Rattle.cif_grammar.specs.Commands as command
use Rattle.cif_read.specs.declared.content.Content.{Content}
use Rattle.cif_read.specs.declared.content.OpenDefinition.{OpenDefinition}
use Rattle.cif_read.specs.declared.fault.FaultKind.{FaultKind}
use Rattle.cif_read.specs.declared.fault.FaultKind.TheVariants.{
  LongName,
  NoLayer,
  OffAxis,
  OffGrid,
  Syntax,
  TooBig,
  TooMany,
  TwoSymbols,
  ZeroScale,
}
use Rattle.cif_read.specs.declared.file.TheConstants.{MAX_SYMBOLS}
use Rattle.cif_read.specs.Boxes.{box_at, box_between, high_corner, is_askew, is_big_box, is_flat, is_whole_box, low_corner, ring_between}
use Rattle.cif_read.specs.Calls.{call_turn, is_askew_change, is_whole_change, turn_changed_by, turn_or_fault}
use Rattle.cif_read.specs.Content.{
  after_box,
  after_call,
  after_layer,
  after_polygon,
  after_start,
  called,
  definition_begun,
  drawn,
  finished,
  is_big_call,
  is_inside,
  on_layer,
}
use Rattle.cif_read.specs.Polygons.{is_too_big, points_from, polygon_at, ring_of_points, ring_or_none}
use Rattle.cif_read.specs.Scales.{is_whole_vertex, scaled_vertex}
use Rattle.cif_read.specs.Steps.{and_then}
use Rattle.cif_read.specs.Symbols.{definition_fault, has_zero_scale, is_big_definition}
use Rattle.cif_laws.specs.Checks.{ChecksComeInOrder, checks, failed_with, first_failed, scale_in}
use Rattle.cif_laws.proofs.PlaceLemmas.{IsLeft, without_left}

-- what is drawn where nothing is refused
drawn_fault : (content : Content) (layer : List ℕ) (r : Result (Option (List Point)) FaultKind)
    → failed_with (and_then r (λ ring. Ok (drawn content layer ring))) ≡ failed_with r
drawn_fault content layer (Ok ring) = refl
drawn_fault content layer (Err kind) = refl

layer_fault : (content : Content) (layer : Option (List ℕ)) (r : Result (Option (List Point)) FaultKind)
    → failed_with (on_layer content layer r) ≡ cond (not (is_some layer)) (Some NoLayer) (failed_with r)
layer_fault content None r = refl
layer_fault content (Some layer) r = drawn_fault content layer r

-- ---- polygons

left_all : (test : Point → Bool) (ps qs : List Point) → IsLeft ps qs → list_all test ps ≡ true → list_all test qs ≡ true
left_all test [] [] left h = refl
left_all test (p ∷ ps) [] left h = refl
left_all test [] (q ∷ qs) left h = absurd left
left_all test (p ∷ ps) (q ∷ qs) (inl left) h =
    let parts = and_parts (test p) (list_all test ps) h in
    rw (ap test (sym left.0) ∙ parts.0) (left_all test ps qs left.1 parts.1)
left_all test (p ∷ ps) (q ∷ qs) (inr left) h =
    let parts = and_parts (test p) (list_all test ps) h in
    left_all test ps (q ∷ qs) left parts.1

-- the points, or none where one is out of range
points_of : (scale : Scale) (found : List Point) (vs : List Vertex)
    → points_from scale found vs ≡ cond (list_all is_in_range (map (scaled_vertex scale) vs)) (Some (found ++ map
    (scaled_vertex scale) vs)) None
unfolding points_from
points_of scale found [] = ap Some (sym (append-nil found))
points_of scale found (v ∷ vs) =
    by_test (is_in_range (scaled_vertex scale v)) (points_of scale (found ++ scaled_vertex scale v ∷ []) vs) where
      by_test : (b : Bool) → points_from scale (found ++ scaled_vertex scale v ∷ []) vs
          ≡ cond (list_all is_in_range (map (scaled_vertex scale) vs))
          (Some ((found ++ scaled_vertex scale v ∷ []) ++ map (scaled_vertex scale) vs)) None
          → (cond b (Some (scaled_vertex scale v)) None >>= λ p. points_from scale (found ++ p ∷ []) vs)
          ≡ cond (b && list_all is_in_range (map (scaled_vertex scale) vs))
          (Some (found ++ scaled_vertex scale v ∷ map (scaled_vertex scale) vs)) None
      by_test true more =
          more ∙ ap (λ l. cond (list_all is_in_range (map (scaled_vertex scale) vs)) (Some l) None)
          (append_assoc found (scaled_vertex scale v ∷ []) (map (scaled_vertex scale) vs))
      by_test false more = refl

-- what points in range make has too many, or no fault
many_fault : (kept : List Point) → list_all is_in_range kept ≡ true
    → failed_with (ring_or_none (checked_ring kept)) ≡ cond (nat_lt MAX_RING_POINTS (length kept)) (Some TooMany) None
many_fault kept h = by_few (nat_lt (length kept) 3) refl where
  by_many : (c : Bool) → failed_with (ring_or_none (cond c (Err ManyPoints) (Ok kept))) ≡ cond c (Some TooMany) None
  by_many true = refl
  by_many false = refl

  none : nat_lt (length kept) 3 ≡ true → nat_lt MAX_RING_POINTS (length kept) ≡ false
  none few = grind (arith, nat_tests)

  by_few : (b : Bool) → nat_lt (length kept) 3 ≡ b
      → failed_with (ring_or_none (cond b (Err FewPoints) (cond (not (list_all is_in_range kept)) (Err OutOfRange)
      (cond (nat_lt MAX_RING_POINTS (length kept)) (Err ManyPoints) (Ok kept)))))
      ≡ cond (nat_lt MAX_RING_POINTS (length kept)) (Some TooMany) None
  by_few true few = ap (λ c. cond c (Some TooMany) None) (sym (none few))
  by_few false few =
      ap (λ c. failed_with (ring_or_none (cond (not c) (Err OutOfRange) (cond (nat_lt MAX_RING_POINTS (length kept)) (Err ManyPoints)
      (Ok kept))))) h
      ∙ by_many (nat_lt MAX_RING_POINTS (length kept))

-- the fault of what points draw
points_fault : (points : List Point) (b : Bool) → list_all is_in_range points ≡ b
    → failed_with (ring_of_points (cond b (Some points) None))
    ≡ cond (not b) (Some TooBig) (cond (nat_lt MAX_RING_POINTS (length (without_repeats points))) (Some TooMany) None)
unfolding ring_of
points_fault points true h = many_fault (without_repeats points) (left_all is_in_range points (without_repeats points)
    (without_left points) h)
points_fault points false h = refl

polygon_fault : (scale : Scale) (vs : List Vertex) → failed_with (polygon_at scale vs)
    ≡ cond (not (list_all (is_whole_vertex scale) vs)) (Some OffGrid) (cond (not (list_all is_in_range (map (scaled_vertex scale) vs)))
    (Some TooBig)
    (cond (nat_lt MAX_RING_POINTS (length (without_repeats (map (scaled_vertex scale) vs)))) (Some TooMany) None))
unfolding polygon_at
polygon_fault scale vs = by_whole (not (list_all (is_whole_vertex scale) vs)) where
  points : List Point
  points = map (scaled_vertex scale) vs

  inner : failed_with (ring_of_points (points_from scale [] vs)) ≡ cond (not (list_all is_in_range points)) (Some TooBig)
      (cond (nat_lt MAX_RING_POINTS (length (without_repeats points))) (Some TooMany) None)
  inner =
      ap (λ f. failed_with (ring_of_points f)) (points_of scale [] vs) ∙ points_fault points (list_all is_in_range points) refl

  by_whole : (b : Bool) → failed_with (cond b (Err OffGrid) (ring_of_points (points_from scale [] vs))) ≡ cond b (Some OffGrid)
      (cond (not (list_all is_in_range points)) (Some TooBig)
      (cond (nat_lt MAX_RING_POINTS (length (without_repeats points))) (Some TooMany) None))
  by_whole true = refl
  by_whole false = inner

polygon_checked : (content : Content) (vs : List Vertex)
    → failed_with (after_polygon content vs) ≡ first_failed (checks content (command.Polygon vs))
unfolding after_polygon
polygon_checked content vs = by_big (list_any is_too_big vs) where
  by_big : (b : Bool) → failed_with (cond b (Err TooBig) (on_layer content content.layer (polygon_at (scale_in content) vs)))
      ≡ cond b (Some TooBig) (cond (not (is_some content.layer)) (Some NoLayer)
      (cond (not (list_all (is_whole_vertex (scale_in content)) vs)) (Some OffGrid)
      (cond (not (list_all is_in_range (map (scaled_vertex (scale_in content)) vs))) (Some TooBig)
      (cond (nat_lt MAX_RING_POINTS (length (without_repeats (map (scaled_vertex (scale_in content)) vs)))) (Some TooMany) None))))
  by_big true = refl
  by_big false =
      layer_fault content content.layer (polygon_at (scale_in content) vs)
      ∙ ap (λ o. cond (not (is_some content.layer)) (Some NoLayer) o) (polygon_fault (scale_in content) vs)

-- ---- boxes

range_fault : (flat : Bool) (low high : Point) → failed_with (box_between flat low high)
    ≡ cond (not (is_in_range low && is_in_range high)) (Some TooBig) None
range_fault flat low high = by_test (is_in_range low && is_in_range high) where
  by_test : (b : Bool) → failed_with (cond b (Ok (ring_between flat low high)) (Err TooBig)) ≡ cond (not b) (Some TooBig) None
  by_test true = refl
  by_test false = refl

box_fault : (scale : Scale) (b : BoxNumbers) → failed_with (box_at scale b) ≡ cond (not (is_whole_box scale b)) (Some OffGrid)
    (cond (not (is_in_range (low_corner scale b) && is_in_range (high_corner scale b))) (Some TooBig) None)
unfolding box_at
box_fault scale b = by_whole (not (is_whole_box scale b)) where
  by_whole : (t : Bool) → failed_with (cond t (Err OffGrid) (box_between (is_flat b) (low_corner scale b) (high_corner scale b)))
      ≡ cond t (Some OffGrid) (cond (not (is_in_range (low_corner scale b) && is_in_range (high_corner scale b))) (Some TooBig) None)
  by_whole true = refl
  by_whole false = range_fault (is_flat b) (low_corner scale b) (high_corner scale b)

box_checked : (content : Content) (b : BoxNumbers) → failed_with (after_box content b) ≡ first_failed (checks content (command.Box b))
unfolding after_box
box_checked content b = by_big (is_big_box b) (is_askew b) where
  rest : Option FaultKind
  rest = cond (not (is_some content.layer)) (Some NoLayer) (cond (not (is_whole_box (scale_in content) b)) (Some OffGrid)
      (cond (not (is_in_range (low_corner (scale_in content) b) && is_in_range (high_corner (scale_in content) b))) (Some TooBig) None))

  by_big : (big askew : Bool) → failed_with (cond big (Err TooBig) (cond askew (Err OffAxis) (on_layer content content.layer (box_at
      (scale_in content) b))))
      ≡ cond big (Some TooBig) (cond askew (Some OffAxis) rest)
  by_big true askew = refl
  by_big false true = refl
  by_big false false =
      layer_fault content content.layer (box_at (scale_in content) b)
      ∙ ap (λ o. cond (not (is_some content.layer)) (Some NoLayer) o) (box_fault (scale_in content) b)

-- ---- the others

layer_checked : (content : Content) (name : List ℕ) → failed_with (after_layer content name)
    ≡ first_failed (checks content (command.Layer name))
unfolding after_layer
layer_checked content name = by_test (nat_lt 16 (length name)) where
  by_test : (b : Bool) → failed_with (cond b (Err LongName) (Ok (record content { layer = Some name }))) ≡ cond b (Some LongName) None
  by_test true = refl
  by_test false = refl

start_fault : (content : Content) (d : Definition) (o : Option FaultKind) → failed_with (definition_begun content d o) ≡ o
start_fault content d None = refl
start_fault content d (Some kind) = refl

definition_checked : (symbols : List ℕ) (d : Definition) → definition_fault symbols d
    ≡ cond (is_big_definition d) (Some TooBig) (cond (has_zero_scale d) (Some ZeroScale)
    (cond (has_symbol symbols d.symbol) (Some TwoSymbols) (cond (not (nat_lt (length symbols) MAX_SYMBOLS)) (Some TooMany) None)))
unfolding definition_fault
definition_checked symbols d =
    by_room (is_big_definition d) (has_zero_scale d) (has_symbol symbols d.symbol) (nat_lt (length symbols) MAX_SYMBOLS) where
      by_room : (big zero second room : Bool) → cond big (Some TooBig) (cond zero (Some ZeroScale) (cond second (Some TwoSymbols)
          (cond room None (Some TooMany)))) ≡ cond big (Some TooBig) (cond zero (Some ZeroScale) (cond second (Some TwoSymbols)
          (cond (not room) (Some TooMany) None)))
      by_room big zero second true = refl
      by_room big zero second false = refl

start_checked : (content : Content) (d : Definition) → failed_with (after_start content d) ≡ first_failed (checks content (command.Start d))
unfolding after_start
start_checked content d = by_inside (is_inside content.definition) where
  by_inside : (b : Bool) → failed_with (cond b (Err Syntax) (definition_begun content d (definition_fault content.symbols d)))
      ≡ cond b (Some Syntax) (cond (is_big_definition d) (Some TooBig) (cond (has_zero_scale d) (Some ZeroScale)
      (cond (has_symbol content.symbols d.symbol) (Some TwoSymbols)
      (cond (not (nat_lt (length content.symbols) MAX_SYMBOLS)) (Some TooMany) None))))
  by_inside true = refl
  by_inside false = start_fault content d (definition_fault content.symbols d) ∙ definition_checked content.symbols d

finish_checked : (content : Content) (o : Option OpenDefinition) → failed_with (finished content o)
    ≡ cond (not (is_inside o)) (Some Syntax) None
finish_checked content None = refl
finish_checked content (Some o) = refl

call_fault : (content : Content) (offset symbol : ℕ) (r : Result Turn FaultKind)
    → failed_with (and_then r (λ turn. Ok (called content offset symbol turn))) ≡ failed_with r
call_fault content offset symbol (Ok turn) = refl
call_fault content offset symbol (Err kind) = refl

turn_fault : (o : Option Turn) → failed_with (turn_or_fault o) ≡ cond (not (is_some o)) (Some TooBig) None
turn_fault None = refl
turn_fault (Some turn) = refl

turns_checked : (scale : Scale) (changes : List Change) → failed_with (call_turn scale changes)
    ≡ cond (list_any is_askew_change changes) (Some OffAxis) (cond (not (list_all (is_whole_change scale) changes)) (Some OffGrid)
    (cond (not (is_some (turn_changed_by scale unturned changes))) (Some TooBig) None))
unfolding call_turn
turns_checked scale changes = by_tests (list_any is_askew_change changes) (not (list_all (is_whole_change scale) changes)) where
  by_tests : (askew off : Bool) → failed_with (cond askew (Err OffAxis) (cond off (Err OffGrid) (turn_or_fault
      (turn_changed_by scale unturned changes))))
      ≡ cond askew (Some OffAxis) (cond off (Some OffGrid) (cond (not (is_some (turn_changed_by scale unturned changes)))
      (Some TooBig) None))
  by_tests true off = refl
  by_tests false true = refl
  by_tests false false = turn_fault (turn_changed_by scale unturned changes)

call_checked : (content : Content) (offset symbol : ℕ) (changes : List Change)
    → failed_with (after_call content offset symbol changes) ≡ first_failed (checks content (command.Call symbol changes))
unfolding after_call
call_checked content offset symbol changes = by_big (is_big_call symbol changes) where
  by_big : (b : Bool) → failed_with (cond b (Err TooBig) (and_then (call_turn (scale_in content) changes) (λ turn. Ok
      (called content offset symbol turn))))
      ≡ cond b (Some TooBig) (cond (list_any is_askew_change changes) (Some OffAxis)
      (cond (not (list_all (is_whole_change (scale_in content)) changes)) (Some OffGrid)
      (cond (not (is_some (turn_changed_by (scale_in content) unturned changes))) (Some TooBig) None)))
  by_big true = refl
  by_big false = call_fault content offset symbol (call_turn (scale_in content) changes) ∙ turns_checked (scale_in content) changes

pub in_order : ChecksComeInOrder
in_order content offset (command.Polygon vertices) = polygon_checked content vertices
in_order content offset (command.Box b) = box_checked content b
in_order content offset (command.Layer name) = layer_checked content name
in_order content offset (command.Start d) = start_checked content d
in_order content offset command.Finish = finish_checked content content.definition
in_order content offset (command.Call symbol changes) = call_checked content offset symbol changes
in_order content offset command.Extension = refl
in_order content offset command.Comment = refl
