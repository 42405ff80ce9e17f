-- A distance is whole where a whole number is what it is at its scale.
use Rattle.std.proofs.Common.{◌≡◌, ℕ, zero, suc, ◌+◌, ◌*◌, ◌%◌, true, false, List, [], ◌∷◌, ◌++◌, Option, Some, None, Result, Ok, Err}
use Rattle.std.proofs.Common.{ℤ, pos, negsuc, neg_ℤ, ◌*ℤ◌, ◌<ℤ◌, refl, sym, ap, subst, ◌∙◌, arith}
use Rattle.std.specs.Prelude.{◌==◌, length, nat_lt, unsigned_abs}
use Rattle.std.proofs.Math.IntN.{pos-*ℤ-pos, negsuc-*ℤ-pos}
use Rattle.std.proofs.Math.Nat.{mul-mod_left}
use Rattle.lay_point.proofs.Products.{*ℤ_comm}
use Rattle.lay_point.proofs.Signs.{cancel_same, linear}
use Rattle.lay_point.specs.declared.layer_name.TheConstants.{MAX_LAYER_NAME}
use Rattle.lay_point.specs.declared.point.Point.{Point}
use Rattle.cif_grammar.specs.declared.number.Number.{Number}
use Rattle.cif_grammar.specs.declared.definitions.Definition.{Definition}
use Rattle.cif_grammar.specs.declared.definitions.Scale.{Scale}
use Rattle.cif_grammar.specs.declared.paths.Vertex.{Vertex}
use Rattle.cif_grammar.specs.declared.boxes.BoxNumbers.{BoxNumbers}
use Rattle.cif_grammar.specs.declared.calls.Change.{Change}
use Rattle.cif_grammar.specs.Commands.{Box, Call, Command, Comment, Extension, Finish, Layer, Polygon, Start}
use Rattle.cif_read.specs.declared.content.Content.{Content}
use Rattle.cif_read.specs.declared.content.OpenDefinition.{OpenDefinition}
use Rattle.cif_read.specs.declared.fault.FaultKind.{FaultKind}
use Rattle.cif_read.specs.declared.fault.FaultKind.TheVariants.{LongName, OffAxis, Syntax, TooBig}
use Rattle.lay_point.specs.declared.turn.Turn.{Turn}
use Rattle.cif_read.specs.Boxes.{box_at, is_askew, is_big_box}
use Rattle.cif_read.specs.Calls.{call_turn}
use Rattle.cif_read.specs.Content.{after_box, after_call, after_layer, after_polygon, after_start, called, definition_begun, drawn}
use Rattle.cif_read.specs.Content.{effect_of}
use Rattle.cif_read.specs.Content.{finished}
use Rattle.cif_read.specs.Content.{current_scale, is_big_call, is_inside, on_layer}
use Rattle.cif_read.specs.Polygons.{is_too_big, polygon_at}
use Rattle.cif_read.specs.Scales.{IsRatio, doubled, is_whole, scaled}
use Rattle.cif_read.specs.Steps.{and_then}
use Rattle.cif_read.specs.Symbols.{definition_fault}
use Rattle.cif_read.proofs.RingFacts.{taken}
use Rattle.cif_read.proofs.ScaleLemmas.{scaled_exact}
use Rattle.cif_read.proofs.SymbolLemmas.{new_symbol}
use Rattle.std.specs.List.{list_any}
use Rattle.cif_laws.specs.Distances.{IsNextScale, IsScaled}

abs_neg : (k : ℕ) → unsigned_abs (neg_ℤ (pos k)) ≡ k
abs_neg zero = refl
abs_neg (suc k) = refl

abs_times : (a : ℤ) (k : ℕ) → unsigned_abs (a *ℤ pos k) ≡ unsigned_abs a * k
abs_times (pos n) k = ap unsigned_abs (pos-*ℤ-pos n k)
abs_times (negsuc n) k = ap unsigned_abs (negsuc-*ℤ-pos n k) ∙ abs_neg (suc n * k)

whole_of : (n d m : ℕ) → m * d ≡ n → (n % d == 0) ≡ true
whole_of n d m e =
    let none : n % d ≡ 0 = ap (λ k. k % d) (sym e) ∙ mul-mod_left m d in
    rw none refl

-- a number that is a distance at its scale makes it whole, and is it
pub only_units : (scale : Scale) (z units : ℤ) → IsRatio scale → units *ℤ pos scale.denominator ≡ z *ℤ pos scale.numerator
    → (is_whole scale z ≡ true) × (scaled scale z ≡ units)
unfolding is_whole
only_units scale z units ratio e =
    let whole : is_whole scale z ≡ true =
    whole_of (unsigned_abs z * scale.numerator) scale.denominator (unsigned_abs units)
    (sym (abs_times units scale.denominator) ∙ ap unsigned_abs e ∙ abs_times z scale.numerator) in
    let some = ratio.denominator in
    let positive : pos 0 <ℤ pos scale.denominator = omega (arith, linear) in (
      whole,
      cancel_same (pos scale.denominator) (scaled scale z) units positive
          (*ℤ_comm (pos scale.denominator) (scaled scale z) ∙ scaled_exact scale z whole ∙ sym e ∙ *ℤ_comm units (pos scale.denominator)),
    )

pub is_scaled : (scale : Scale) (n : Number) → IsRatio scale → IsScaled scale n
is_scaled scale n ratio = record {
  whole = λ h. scaled_exact scale (doubled n) h;
  only = λ units e. only_units scale (doubled n) units ratio e;
}

-- ---- what was drawn

pub record Drew (content next : Content) (drawing : Result (Option (List Point)) FaultKind) : Type 0 where
  pub layer : List ℕ
  pub set : content.layer ≡ Some layer
  pub ring : Option (List Point)
  pub is : drawing ≡ Ok ring
  pub next_is : next ≡ drawn content layer ring

on_layer_drew : (content next : Content) (layer : Option (List ℕ)) (drawing : Result (Option (List Point)) FaultKind)
    → content.layer ≡ layer → on_layer content layer drawing ≡ Ok next → Drew content next drawing
on_layer_drew content next None drawing set e = absurd cc
on_layer_drew content next (Some layer) (Err kind) set e = absurd cc
on_layer_drew content next (Some layer) (Ok ring) set e =
    let same : drawn content layer ring ≡ next = cc in
    record { layer = layer; set = set; ring = ring; is = refl; next_is = sym same }

pub polygon_drew : (content next : Content) (vertices : List Vertex) → after_polygon content vertices ≡ Ok next
    → Drew content next (polygon_at (current_scale content.definition) vertices)
unfolding after_polygon
polygon_drew content next vertices e =
    taken (list_any is_too_big vertices) TooBig _ next e (λ _ e.
    on_layer_drew content next content.layer (polygon_at (current_scale content.definition) vertices) refl e)

pub record DrewBox (content next : Content) (b : BoxNumbers) : Type 0 where
  pub straight : is_askew b ≡ false
  pub drew : Drew content next (box_at (current_scale content.definition) b)

pub box_drew : (content next : Content) (b : BoxNumbers) → after_box content b ≡ Ok next → DrewBox content next b
unfolding after_box
box_drew content next b e =
    taken (is_big_box b) TooBig _ next e (λ _ e. taken (is_askew b) OffAxis _ next e (λ straight e. record {
      straight = straight;
      drew = on_layer_drew content next content.layer (box_at (current_scale content.definition) b) refl e;
    }))

pub record CalledBy (content next : Content) (offset symbol : ℕ) (changes : List Change) : Type 0 where
  pub turn : Turn
  pub is : call_turn (current_scale content.definition) changes ≡ Ok turn
  pub next_is : next ≡ called content offset symbol turn

turned_call : (content next : Content) (offset symbol : ℕ) (changes : List Change) (r : Result Turn FaultKind)
    → call_turn (current_scale content.definition) changes ≡ r
    → and_then r (λ turn. Ok (called content offset symbol turn)) ≡ Ok next → CalledBy content next offset symbol changes
turned_call content next offset symbol changes (Ok turn) is e =
    let same : called content offset symbol turn ≡ next = cc in
    record { turn = turn; is = is; next_is = sym same }
turned_call content next offset symbol changes (Err kind) is e = absurd cc

pub call_called : (content next : Content) (offset symbol : ℕ) (changes : List Change) → after_call content offset symbol changes ≡ Ok next
    → CalledBy content next offset symbol changes
unfolding after_call
call_called content next offset symbol changes e =
    taken (is_big_call symbol changes) TooBig _ next e (λ _ e.
    turned_call content next offset symbol changes (call_turn (current_scale content.definition) changes) refl e)

-- ---- scales

-- a command that keeps the definition keeps its scale
kept_scale : (content next : Content) (c : Command) → IsRatio (current_scale content.definition)
    → current_scale next.definition ≡ current_scale content.definition → IsRatio (current_scale next.definition)
kept_scale content next c ratio e = subst IsRatio (sym e) ratio

drawn_scale : (content : Content) (layer : List ℕ) (ring : Option (List Point)) → current_scale (drawn content layer ring).definition
    ≡ current_scale content.definition
drawn_scale content layer None = refl
drawn_scale content layer (Some ring) = refl

drew_scale : (content next : Content) (drawing : Result (Option (List Point)) FaultKind) → Drew content next drawing
    → current_scale next.definition ≡ current_scale content.definition
drew_scale content next drawing d =
    ap (λ (n : Content). current_scale n.definition) d.next_is ∙ drawn_scale content d.layer d.ring

layer_scale : (content next : Content) (name : List ℕ) → after_layer content name ≡ Ok next
    → current_scale next.definition ≡ current_scale content.definition
unfolding after_layer
layer_scale content next name e =
    let made : Content = record content { layer = Some name } in
    taken (nat_lt MAX_LAYER_NAME (length name)) LongName (Ok made) next e (λ _ e.
    let same : made ≡ next = cc in
    ap (λ (n : Content). current_scale n.definition) (sym same))

begun_scale : (content next : Content) (offset : ℕ) (d : Definition) (fault : Option FaultKind)
    → definition_fault content.symbols d ≡ fault → definition_begun content d fault ≡ Ok next → IsNextScale content next (Start d)
begun_scale content next offset d (Some kind) is e = absurd cc
begun_scale content next offset d None is e =
    let made : Content = record content {
      layer = None;
      definition = Some (record { symbol = d.symbol; scale = d.scale; saved = content.layer });
      symbols = content.symbols ++ d.symbol ∷ [];
    } in
    let same : made ≡ next = cc in
    subst (λ (n : Content). IsNextScale content n (Start d)) same
    (record { scale = refl; ratio = (new_symbol content.symbols d is).ratio })

start_scale : (content next : Content) (offset : ℕ) (d : Definition) → after_start content d ≡ Ok next
    → IsNextScale content next (Start d)
unfolding after_start
start_scale content next offset d e =
    taken (is_inside content.definition) Syntax _ next e (λ _ e.
    begun_scale content next offset d (definition_fault content.symbols d) refl e)

finish_scale : (content next : Content) (o : Option OpenDefinition) → finished content o ≡ Ok next → IsNextScale content next Finish
finish_scale content next None e = absurd cc
finish_scale content next (Some o) e =
    let made : Content = record content { layer = o.saved; definition = None } in
    let same : made ≡ next = cc in
    subst (λ (n : Content). IsNextScale content n Finish) same (record {
      scale = refl;
      ratio = record { some = omega arith; numerator = omega arith; denominator = omega arith };
    })

pub next_scale : (content next : Content) (offset : ℕ) (c : Command) → IsRatio (current_scale content.definition)
    → effect_of content offset c ≡ Ok next → IsNextScale content next c
next_scale content next offset (Polygon vertices) ratio e =
    let same = drew_scale content next _ (polygon_drew content next vertices e) in
    record { scale = same; ratio = kept_scale content next (Polygon vertices) ratio same }
next_scale content next offset (Box b) ratio e =
    let same = drew_scale content next _ (box_drew content next b e).drew in
    record { scale = same; ratio = kept_scale content next (Box b) ratio same }
next_scale content next offset (Layer name) ratio e =
    let same = layer_scale content next name e in
    record { scale = same; ratio = kept_scale content next (Layer name) ratio same }
next_scale content next offset (Start d) ratio e = start_scale content next offset d e
next_scale content next offset Finish ratio e = finish_scale content next content.definition e
next_scale content next offset (Call symbol cs) ratio e =
    let same : current_scale next.definition ≡ current_scale content.definition =
    ap (λ (n : Content). current_scale n.definition) (call_called content next offset symbol cs e).next_is in
    record { scale = same; ratio = kept_scale content next (Call symbol cs) ratio same }
next_scale content next offset Extension ratio e =
    let made : Content = record content { extensions = content.extensions + 1 } in
    let is : made ≡ next = cc in
    let same : current_scale next.definition ≡ current_scale content.definition =
    ap (λ (n : Content). current_scale n.definition) (sym is) in
    record { scale = same; ratio = kept_scale content next Extension ratio same }
next_scale content next offset Comment ratio e =
    let is : content ≡ next = cc in
    let same : current_scale next.definition ≡ current_scale content.definition =
    ap (λ (n : Content). current_scale n.definition) (sym is) in
    record { scale = same; ratio = kept_scale content next Comment ratio same }
