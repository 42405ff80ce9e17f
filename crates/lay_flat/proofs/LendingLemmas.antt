-- The rings that are lent stand one behind the other.
use Rattle.std.proofs.Common.{◌≡◌, ◌∙◌, ◌<◌, ◌+◌, ◌++◌, inl, inr, ℕ, List, [], ◌∷◌}
use Rattle.std.proofs.Common.{length, ap, sym, subst, arith, append_assoc, take, get_or, None, unwrap_or}
use Rattle.std.proofs.lemmas.List.{length-append, map-append, take_more}
use Rattle.std.proofs.lemmas.Simd.{map-map}
use Rattle.lay_point.specs.declared.point.Point.{Point}
use Rattle.lay_point.specs.declared.turn.Turn.{Turn}
use Rattle.lay_point.specs.Turns.{unturned}
use Rattle.lay_cells.specs.declared.cell_id.CellId.TheVariants.{Top}
use Rattle.lay_layouts.specs.Layout.{Layout}
use Rattle.lay_layouts.specs.Lent.{LentShape, shapes_in}
use Rattle.lay_flat.specs.declared.ends.End.{End}
use Rattle.lay_flat.specs.declared.fault.FlatFault.{FlatFault}
use Rattle.lay_flat.specs.Flat.{FlatRing}
use Rattle.lay_flat.specs.Flattening.{Drawn, drawn_at, rings_from, rings_of}
use Rattle.lay_flat.specs.Lending.{IsTooMany, drawn_with}
use Rattle.lay_flat.specs.Lists.{shape_rings}

pub rings_from-append : (n : ℕ) (xs ys : List Drawn) → rings_from n (xs ++ ys) ≡ rings_from n xs ++ rings_from (n + length xs) ys
rings_from-append n [] ys = let same : n ≡ n + 0 = omega arith in ap (λ (k : ℕ). rings_from k ys) same
rings_from-append n (x ∷ xs) ys =
    let same : n + 1 + length xs ≡ n + length (x ∷ xs) = omega arith in
    ap (λ (rs : List FlatRing). rings_of n x ++ rs) (rings_from-append (n + 1) xs ys)
    ∙ sym (append_assoc (rings_of n x) (rings_from (n + 1) xs) (rings_from (n + 1 + length xs) ys))
    ∙ ap (λ (k : ℕ). (rings_of n x ++ rings_from (n + 1) xs) ++ rings_from k ys) same

-- too many are too many with more behind them
pub too_many-more : (xs ys : List FlatRing) (fault : FlatFault) → IsTooMany xs fault → IsTooMany (xs ++ ys) fault
too_many-more xs ys fault (inl memory) = inl memory
too_many-more xs ys fault (inr both) = inr (both.0, omega (arith, both.1, length-append xs ys))

pub too_many-same : (xs ys : List FlatRing) (fault : FlatFault) → xs ≡ ys → IsTooMany xs fault → IsTooMany ys fault
too_many-same xs ys fault e is = subst (λ (rs : List FlatRing). IsTooMany rs fault) e is

-- one ring more of a shape
pub rings_of-more : (number : ℕ) (turn : Turn) (shape : List (List Point)) (i : ℕ) (ring : List Point) → i < length shape
    → ring ≡ get_or shape i ring
    → rings_of number (turn, take (i + 1) shape) ≡ rings_of number (turn, take i shape) ++ (ring, turn, number) ∷ []
rings_of-more number turn shape i ring less at =
    ap (λ (rs : List (List Point)). rings_of number (turn, rs)) (take_more shape i ring less
    ∙ ap (λ (r : List Point). take i shape ++ r ∷ []) (sym at))
    ∙ map-append (λ (r : List Point). (r, turn, number)) (take i shape) (ring ∷ [])

-- one end more
pub ends-whole : (rings : List FlatRing) (n : ℕ) (here behind : List Drawn)
    → (rings ++ rings_from n here) ++ rings_from (n + length here) behind ≡ rings ++ rings_from n (here ++ behind)
ends-whole rings n here behind =
    append_assoc rings (rings_from n here) (rings_from (n + length here) behind)
    ∙ ap (λ (rs : List FlatRing). rings ++ rs) (sym (rings_from-append n here behind))

-- what stands for an end behind the last
abbrev pub end_default : End
end_default = record { cell = Top; turn = None }

-- the shapes that are listed for an end's cell, with its turn, are those at the end
pub listed-drawn : (layout : Layout) (layer : List ℕ) (end : End) (turn : Turn) (shapes : List (List (List Point)))
    → turn ≡ unwrap_or end.turn unturned → shapes ≡ shape_rings (record { layout = layout; layer = layer }) end.cell
    → drawn_with turn shapes ≡ drawn_at layout layer end
listed-drawn layout layer end turn shapes turned listed =
    (λ i. drawn_with (turned i) (listed i))
    ∙ map-map (λ (rings : List (List Point)). (unwrap_or end.turn unturned, rings)) (λ (shape : LentShape). shape.1)
    (shapes_in layout end.cell layer)
