-- No layer line of a text is idle.
use Rattle.std.proofs.Common.{◌≡◌, ◌≢◌, ℕ, List, [], ◌∷◌, ◌++◌, Bool, true, false, Option, None, Some, if◌then◌else◌, refl, sym, ap}
use Rattle.std.proofs.Common.{subst, ◌∙◌, append_assoc, append-nil}
use Rattle.std.proofs.lemmas.List.Concat.{flat_map-append}
use Rattle.std.proofs.lemmas.Slice.Eq.{bytes_eq-Decides}
use Rattle.lay_point.specs.declared.point.Point.{Point}
use Rattle.lay_point.specs.Bridges.{bridged}
use Rattle.lay_layouts.specs.declared.item.Item.{Item}
use Rattle.lay_layouts.specs.declared.item.Item.TheVariants.{Placed, Shape}
use Rattle.cif_write.specs.Idle.{NoneIdle}
use Rattle.cif_write.specs.Lines.{Line, OnLayer, Path, Finish, line_text, lines_text}
use Rattle.cif_write.specs.Text.{definitions_lines, is_set, items_lines}
use Rattle.cif_write.specs.Wrap.{Definition}

-- a layer that is set is the layer
pub is_set-true : (set : Option (List ℕ)) (layer : List ℕ) → is_set set layer ≡ true → set ≡ Some layer
is_set-true None layer e = cc
is_set-true (Some name) layer e = ap Some ((bytes_eq-Decides name layer).0 e)

-- a layer that isn't set is another
is_set-false : (set : Option (List ℕ)) (layer : List ℕ) → is_set set layer ≡ false → set ≢ Some layer
is_set-false set layer e same =
    let here : is_set (Some layer) layer ≡ true = (bytes_eq-Decides layer layer).1 refl in
    let there : is_set set layer ≡ is_set (Some layer) layer = ap (λ s. is_set s layer) same in
    cc

-- the lines of one shape, by whether its layer is set
shape_lines : Bool → List ℕ → List Point → List Line
shape_lines b layer path = if b then Path path ∷ [] else OnLayer layer ∷ Path path ∷ []

NoneIdle-shape : (set : Option (List ℕ)) (layer : List ℕ) (path : List Point) (b : Bool) → is_set set layer ≡ b → (xs ys : List Line)
    → NoneIdle (Some layer) (xs ++ ys) → NoneIdle set ((shape_lines b layer path ++ xs) ++ ys)
unfolding shape_lines
NoneIdle-shape set layer path true e xs ys h = subst (λ s. NoneIdle s (xs ++ ys)) (sym (is_set-true set layer e)) h
NoneIdle-shape set layer path false e xs ys h = (is_set-false set layer e, tt, h)

-- none of a definition's items
NoneIdle-items_lines : (set : Option (List ℕ)) (items : List Item) (rest : List Line) → NoneIdle None rest
    → NoneIdle set (items_lines set items ++ Finish ∷ rest)
unfolding shape_lines
NoneIdle-items_lines set [] rest h = h
NoneIdle-items_lines set (Shape cell layer rings ∷ items) rest h =
    NoneIdle-shape set layer (bridged rings) (is_set set layer) refl (items_lines (Some layer) items) (Finish ∷ rest)
    (NoneIdle-items_lines (Some layer) items rest h)
NoneIdle-items_lines set (Placed cell target turn ∷ items) rest h = NoneIdle-items_lines set items rest h

-- where a definition's items stand among the lines
one_definition : (items rest behind : List Line) → ((items ++ Finish ∷ []) ++ rest) ++ behind ≡ items ++ Finish ∷ (rest ++ behind)
one_definition items rest behind = simp append_assoc

-- and none of the definitions'
pub NoneIdle-definitions_lines : (definitions : List Definition) (rest : List Line) → NoneIdle None rest
    → NoneIdle None (definitions_lines definitions ++ rest)
NoneIdle-definitions_lines [] rest h = h
NoneIdle-definitions_lines (d ∷ ds) rest h =
    subst (NoneIdle None) (sym (one_definition (items_lines None d.items) (definitions_lines ds) rest))
    (NoneIdle-items_lines None d.items (definitions_lines ds ++ rest) (NoneIdle-definitions_lines ds rest h))

-- the text of the lines, the last of them apart
pub lines_text-last : (lines : List Line) (last : Line) → lines_text (lines ++ last ∷ []) ≡ lines_text lines ++ line_text last
lines_text-last lines last = flat_map-append line_text lines (last ∷ [])
    ∙ ap (λ bytes. lines_text lines ++ bytes) (append-nil (line_text last))
