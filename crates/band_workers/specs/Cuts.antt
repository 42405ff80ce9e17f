-- Bands that rows are cut into, and what a worker gives back of one.
use Rattle.std.specs.Prelude.{◌≡◌, ℕ, ◌+◌, ◌-◌, ℤ, pos, List, length, slice_index_or, IfOk}
use Rattle.snap_chains.specs.Rounded.{Owned}
use Rattle.face_rows.specs.declared.band.Band.{Band}
use Rattle.face_rows.specs.declared.op.Op.{Op}
use Rattle.face_rows.specs.Bands.{labelled}
use Rattle.band_workers.specs.Written.{Part}

-- the i-th band: from the i-th cut up to the next
abbrev pub band_at : List ℤ → ℕ → Band
band_at cuts i = record { low = slice_index_or cuts i (pos 0); high = slice_index_or cuts (i + 1) (pos 0) }

-- all bands together: from the first cut up to the last
abbrev pub whole_band : List ℤ → Band
whole_band cuts = record { low = slice_index_or cuts 0 (pos 0); high = slice_index_or cuts (length cuts - 1) (pos 0) }

-- at Ok these are the labels of the edges that begin in the band
abbrev pub IsLabelled : Op → Owned → Band → Part → Type 0
IsLabelled op r band part = IfOk part (λ labels. labels.items ≡ labelled op r band)
