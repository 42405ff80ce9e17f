-- How a layer name is kept: its bytes, and zeros behind them up to the limit.
-- Checked on: `NM` is 78, 77 and fourteen zeros, length 2.
use Rattle.std.specs.Prelude.{◌≡◌, ℕ, ◌-◌, ◌≤◌, List, ◌++◌, length, take, drop, replicate, IsTrue}
use Rattle.std.proofs.Common.{arith, ap, sym, ◌∙◌}
use Rattle.std.proofs.lemmas.List.{length-take-le, take-append-drop}
use Rattle.lay_point.specs.Names.{is_layer_name}
use Rattle.lay_point.specs.declared.layer_name.LayerName.TheInside.{Inside}
use Rattle.lay_point.specs.declared.layer_name.TheConstants.{MAX_LAYER_NAME}

-- the bytes, then zeros
abbrev pub padded : List ℕ → List ℕ
padded name = name ++ replicate (MAX_LAYER_NAME - length name) 0

-- what a kept name keeps: its first so many bytes are a name, and the others zeros
pub record IsPadded (n : Inside) : Type 0 where
  pub whole : length n.bytes ≡ MAX_LAYER_NAME
  pub short : n.len ≤ MAX_LAYER_NAME
  pub zeros : drop n.len n.bytes ≡ replicate (MAX_LAYER_NAME - n.len) 0
  pub name : IsTrue (is_layer_name (take n.len n.bytes))

-- a name as it is kept
abbrev pub kept_name : List ℕ → Inside
kept_name name = record { bytes = padded name; len = length name }

-- a name's fields are those that its bytes give
pub kept_name_again : (n : Inside) → IsPadded n → kept_name (take n.len n.bytes) ≡ n
kept_name_again n h =
    let len : length (take n.len n.bytes) ≡ n.len = length-take-le n.len n.bytes (omega arith) in
    let bytes : padded (take n.len n.bytes) ≡ n.bytes =
    ap (λ k. take n.len n.bytes ++ replicate (MAX_LAYER_NAME - k) 0) len ∙ ap (λ zs. take n.len n.bytes ++ zs) (sym h.zeros)
    ∙ take-append-drop n.len n.bytes in
    λ i. record { bytes = bytes i; len = len i }
