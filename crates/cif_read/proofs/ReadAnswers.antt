-- The answers of a reader, as texts of the grammar have them.
use Rattle.std.proofs.Common.{◌≡◌, ◌⊎◌, ℕ, List, Result, Ok, Err, refl, sym, subst, inl, inr, IfOk}
use Rattle.lay_point.specs.Memory.{IsAnswer}
use Rattle.cif_grammar.specs.Commands.{Command}
use Rattle.cif_grammar.specs.Grammar.{Reads}
use Rattle.cif_read.specs.declared.content.Content.{Content}
use Rattle.cif_read.specs.declared.fault.CifFault.{CifFault}
use Rattle.cif_read.specs.Binding.{IsBoundAs}
use Rattle.cif_read.specs.Content.{content_of}
use Rattle.cif_read.specs.Contents.{Contents}
use Rattle.cif_read.specs.Meaning.{IsEndOf, content_in, no_memory}
use Rattle.cif_read.proofs.TextGrammar.{accepted, complete}

-- the result, or out of memory in its place
abbrev Answers : Result Content CifFault → Result Contents CifFault → Type 0
Answers wanted result = (result ≡ Err no_memory) ⊎ IsEndOf wanted result

pub faulty : (text : List ℕ) (fault : CifFault) → IsAnswer {T = Content} no_memory (Err fault) (content_in text)
    → Answers (content_in text) (Err fault)
faulty text fault (inl e) = inl (let f : fault ≡ no_memory = cc in cc)
faulty text fault (inr e) = inr (subst (λ (w : Result Content CifFault). IsEndOf w (Err fault)) e refl)

pub bound_answer : (text : List ℕ) (content : Content) (result : Result Contents CifFault) → content_in text ≡ Ok content
    → (result ≡ Err no_memory) ⊎ IsBoundAs content result → Answers (content_in text) result
bound_answer text content result e (inl none) = inl none
bound_answer text content result e (inr bound) = inr (subst (λ (w : Result Content CifFault). IsEndOf w result) (sym e) bound)

pub complete_answer : (text : List ℕ) (result : Result Contents CifFault) (commands : List (ℕ × Command)) → Answers (content_in text) result
    → Reads text commands → Answers (content_of commands) result
complete_answer text result commands answer reads =
    subst (λ (w : Result Content CifFault). Answers w result) (complete text commands reads) answer

pub accepted_answer : (text : List ℕ) (content : Content) (result : Result Contents CifFault) → content_in text ≡ Ok content
    → (result ≡ Err no_memory) ⊎ IsBoundAs content result
    → IfOk result (λ file. (commands : List (ℕ × Command)) × (last : Content) × Reads text commands × (content_of commands ≡ Ok last)
    × IsBoundAs last (Ok file))
accepted_answer text content (Ok file) e (inl none) = absurd cc
accepted_answer text content (Ok file) e (inr bound) =
    let found = accepted text content e in
    (found.0, content, found.1, found.2, bound)
accepted_answer text content (Err fault) e answer = tt
