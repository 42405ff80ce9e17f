-- A name copied over zeros is kept as it should be.
use Rattle.std.proofs.Common.{◌≡◌, ℕ, ◌-◌, ◌≤◌, List, ◌++◌, length, drop, replicate, IsTrue, true, ap, sym, ◌∙◌, arith, subst, ◌+◌}
use Rattle.std.proofs.lemmas.List.{length-append, drop-replicate, length-replicate}
use Rattle.std.proofs.Math.Seq.{drop-append_seam, take-append_seam}
use Rattle.std.proofs.lemmas.Bool.Decides.{nat_tests}
use Rattle.lay_point.specs.declared.layer_name.TheConstants.{MAX_LAYER_NAME}
use Rattle.lay_point.specs.Names.{is_layer_name}
use Rattle.lay_point.specs.Padded.{IsPadded}

-- a layer name is within the limit
pub name_short : (name : List ℕ) → is_layer_name name ≡ true → length name ≤ MAX_LAYER_NAME
name_short name h = grind (arith, nat_tests)

-- a name and zeros behind it
pub padded_name : (name zeros : List ℕ) → is_layer_name name ≡ true → zeros ≡ drop (length name) (replicate MAX_LAYER_NAME 0)
    → IsPadded (record { bytes = name ++ zeros; len = length name })
padded_name name zeros h z =
    let short : length name ≤ MAX_LAYER_NAME = name_short name h in
    let rest : zeros ≡ replicate (MAX_LAYER_NAME - length name) 0 = z ∙ drop-replicate (length name) MAX_LAYER_NAME 0 in
    record {
      whole = length-append name zeros ∙ ap (λ zs. length name + length zs) rest ∙ simp length-replicate (omega arith);
      short = short;
      zeros = drop-append_seam name zeros ∙ rest;
      name = subst (λ (b : List ℕ). IsTrue (is_layer_name b)) (sym (take-append_seam name zeros)) h;
    }
