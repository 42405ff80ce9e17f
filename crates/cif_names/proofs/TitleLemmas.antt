-- Names of symbols.
use Rattle.std.proofs.Common.{◌≡◌, ◌∙◌, ℕ, ◌-◌, List, [], ◌∷◌, ◌++◌, ap, arith, codes, length, length-append, refl, take}
use Rattle.std.proofs.Math.Seq.{take-append_seam}
use Rattle.cif_names.specs.declared.names.Entry.{Entry}
use Rattle.cif_names.specs.Entries.{name_text}
use Rattle.cif_names.specs.Laws.{NamesComeBack}
use Rattle.cif_names.specs.Titles.{first_name, named_or}

-- the last entry comes before what was before
pub name_before : (before : List ℕ) (n : ℕ) (front : List Entry) (e : Entry)
    → first_name before n (front ++ e ∷ []) ≡ first_name (named_or before n e) n front
name_before before n [] e = refl
name_before before n (f ∷ front) e = ap (λ (name : List ℕ). named_or name n f) (name_before before n front e)

-- the bytes in front of the name and behind it are four
four : (name : List ℕ) → length (name_text name) - 4 ≡ length name
four name = omega (arith, length-append name (codes ";\n"))

pub name_back : NamesComeBack
name_back name =
    ap (λ (k : ℕ). take k (name ++ codes ";\n")) (four name) ∙ take-append_seam name (codes ";\n")
