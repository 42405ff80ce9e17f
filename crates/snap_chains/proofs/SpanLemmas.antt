-- Where the ends of edges are in the order of rows, by the ranks of their numbers.
use Rattle.std.proofs.Common.{◌≡◌, ◌∙◌, ℕ, zero, suc, ◌<◌, List, ◌∷◌, [], ◌++◌, Contains, Some, get_or, inl, length, refl, sym, subst}
use Rattle.std.proofs.Common.{ap, arith}
use Rattle.std.specs.Prelude.{slice_get}
use Rattle.std.specs.List.{AllZip}
use Rattle.std.proofs.lemmas.Slice.Zip.{AllZip-long}
use Rattle.lay_point.specs.declared.point.Point.{Point}
use Rattle.lay_point.proofs.Members.{Has}
use Rattle.snap_slabs.specs.Runs.{AreRanked}
use Rattle.snap_slabs.proofs.OwnedLemmas.{zip_push}
use Rattle.snap_chains.specs.declared.owner.Owner.{Owner}
use Rattle.snap_chains.specs.declared.owner_lists.Part.{Part}
use Rattle.snap_chains.specs.declared.pass.Pass.{Pass}
use Rattle.snap_chains.specs.declared.row_order.Span.{Span}
use Rattle.snap_chains.specs.Passes.{HasCentres}
use Rattle.snap_chains.specs.Reading.{edge_by_numbers, numbered_edge}
use Rattle.snap_chains.specs.RowOrder.{AreInRowOrder, IsSpanBy, IsSpanOf, span_of}
use Rattle.snap_chains.proofs.ReadLemmas.{IsReading, still_left}

-- the numbers of the first pass that is left are those of centres
pub first_inside : (hot : List Point) (passes : List Pass) → ((p : Pass) → Contains passes p → HasCentres hot p)
    → (rest : List Pass) (edges : List (Point × Point)) (owners : List Owner) (parts : List Part)
    → IsReading hot passes rest edges owners parts → (first : Pass) (later : List Pass) → rest ≡ first ∷ later → HasCentres hot first
first_inside hot passes inside rest edges owners parts h first later whole =
    inside first (still_left hot passes rest edges owners parts h first (subst (λ l. Has l first) (sym whole) (inl refl)))

-- one more edge, and where its ends are
pub spans_push : (hot : List Point) (ranks : List ℕ) (edges : List (Point × Point)) (spans : List Span) (first : Pass)
    → HasCentres hot first → AllZip (IsSpanBy hot ranks) edges spans
    → AllZip (IsSpanBy hot ranks) (edges ++ edge_by_numbers hot (numbered_edge first) ∷ [])
    (spans ++ span_of ranks (numbered_edge first) ∷ [])
spans_push hot ranks edges spans first inside h =
    zip_push (IsSpanBy hot ranks) edges spans (edge_by_numbers hot (numbered_edge first)) (span_of ranks (numbered_edge first)) h (record {
      ends = numbered_edge first;
      first = omega (arith, inside);
      second = inside.1;
      edge = refl;
      span = refl;
    })

-- where the ends of an edge are among the centres by rows
span_is : (hot points : List Point) (ranks : List ℕ) → AreRanked hot points ranks → (e : Point × Point) (s : Span)
    → IsSpanBy hot ranks e s → IsSpanOf points e s
span_is hot points ranks ranked e s h = record {
  low = ap (λ (z : Span). slice_get points z.low) h.span ∙ ranked.ranked h.ends.0 h.first
      ∙ ap (λ (z : Point × Point). Some z.0) (sym h.edge);
  high = ap (λ (z : Span). slice_get points z.high) h.span ∙ ranked.ranked h.ends.1 h.second
      ∙ ap (λ (z : Point × Point). Some z.1) (sym h.edge);
}

-- related items are so by their number
zip_at : {A B : Type 0} (R : A → B → Type 0) (xs : List A) (ys : List B) (n : ℕ) (a : A) (b : B) → AllZip R xs ys → n < length xs
    → R (get_or xs n a) (get_or ys n b)
zip_at R [] [] n a b h less = absurd (omega (arith, less))
zip_at R [] (y ∷ ys) n a b h less = absurd h
zip_at R (x ∷ xs) [] n a b h less = absurd h
zip_at R (x ∷ xs) (y ∷ ys) zero a b h less = h.0
zip_at R (x ∷ xs) (y ∷ ys) (suc n) a b h less = zip_at R xs ys n a b h.1 (omega (arith, less))

pub spans_ordered : (hot points : List Point) (ranks : List ℕ) (edges : List (Point × Point)) (spans : List Span)
    → AreRanked hot points ranks → AllZip (IsSpanBy hot ranks) edges spans → AreInRowOrder edges (points, spans)
spans_ordered hot points ranks edges spans ranked h = record {
  by_row = ranked.by_row;
  as_many = AllZip-long (IsSpanBy hot ranks) edges spans h;
  spanned = λ n e s less. span_is hot points ranks ranked (get_or edges n e) (get_or spans n s)
      (zip_at (IsSpanBy hot ranks) edges spans n e s h less);
}
