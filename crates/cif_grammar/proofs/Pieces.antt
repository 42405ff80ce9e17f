-- A command's bytes, up to the semicolon that ends it, are read as what they spell.
use Rattle.std.proofs.Common.{◌≡◌, ℕ, true, false, List, [], ◌∷◌, take, Some, ap, sym, ◌∙◌, subst}
use Rattle.std.specs.Prelude.{◌==◌}
use Rattle.std.specs.List.{list_all}
use Rattle.cif_grammar.proofs.ByteClasses.{is_plain}
use Rattle.cif_grammar.specs.Commands.{Command}
use Rattle.cif_grammar.specs.Cutting.{command_len}
use Rattle.cif_grammar.specs.Grammar.{Spells}
use Rattle.cif_grammar.specs.Reading.{command_of}
use Rattle.cif_grammar.proofs.CommandGrammar.{command_takes}
use Rattle.cif_grammar.proofs.CutGrammar.{plain_piece}

no_length : (n : ℕ) → command_len [] ≡ Some n → ⊥
unfolding command_len
no_length n e = cc

pub piece_takes : (bytes : List ℕ) (len : ℕ) (c : Command) → command_len bytes ≡ Some len → command_of (take len bytes) ≡ Some c
    → Spells (take len bytes) c
piece_takes [] len c ends read = absurd (no_length len ends)
piece_takes (b ∷ bs) len c ends read =
    let piece = plain_piece b bs len ends in
    let bytes : take len (b ∷ bs) ≡ b ∷ take piece.0 bs = ap (λ n. take n (b ∷ bs)) piece.1 in
    subst (λ (t : List ℕ). Spells t c) (sym bytes)
    (command_takes (b ∷ take piece.0 bs) c (plain piece.0 piece.2) (ap command_of (sym bytes) ∙ read))
  where
    plain : (n : ℕ) → ((b == 40) ≡ false → list_all is_plain (take n bs) ≡ true) → (d : ℕ) (ds : List ℕ) → b ∷ take n bs ≡ d ∷ ds
        → (d == 40) ≡ false → list_all is_plain ds ≡ true
    plain n outside d ds same no_comment =
        let first : b ≡ d = cc in
        let rest : take n bs ≡ ds = cc in
        rw (← rest) (outside (ap (λ x. x == 40) first ∙ no_comment))
