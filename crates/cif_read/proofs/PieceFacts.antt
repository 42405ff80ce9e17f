-- What the bytes of a command mean is what a command of the grammar means.
use Rattle.std.proofs.Common.{◌≡◌, ℕ, List, Option, Some, None, Result, Ok, Err, refl, ap}
use Rattle.cif_grammar.specs.Commands.{Command}
use Rattle.cif_grammar.specs.Reading.{command_of}
use Rattle.cif_read.specs.declared.content.Content.{Content}
use Rattle.cif_read.specs.declared.fault.FaultKind.{FaultKind}
use Rattle.cif_read.specs.Content.{effect_of}
use Rattle.cif_read.specs.Kept.{IsKept}
use Rattle.cif_read.specs.Meaning.{after_bytes, after_piece, read_as, unread_kind}
use Rattle.cif_read.specs.Steps.{at_offset}
use Rattle.cif_read.proofs.StepFacts.{IsStep, step_of}

pub from_at_offset : {A : Type 0} (offset : ℕ) (r : Result A FaultKind) (x : A) → at_offset offset r ≡ Ok x → r ≡ Ok x
from_at_offset offset (Ok y) x e =
    let same : y ≡ x = cc in
    ap (λ z. Ok z) same
from_at_offset offset (Err k) x e = absurd cc

-- bytes that were read as a command, and what it leads to
pub record IsRead (content : Content) (offset : ℕ) (bytes : List ℕ) (next : Content) : Type 0 where
  pub command : Command
  pub read : command_of bytes ≡ Some command
  pub effect : effect_of content offset command ≡ Ok next

pub read_from : (content next : Content) (offset : ℕ) (bytes : List ℕ) → after_bytes content offset bytes ≡ Ok next
    → IsRead content offset bytes next
unfolding after_bytes
read_from content next offset bytes e = by (command_of bytes) refl (from_at_offset offset (after_piece content offset bytes) next e) where
  by : (o : Option Command) → command_of bytes ≡ o → read_as (unread_kind bytes) (effect_of content offset) o ≡ Ok next
      → IsRead content offset bytes next
  by None f e = absurd cc
  by (Some c) f e = record { command = c; read = f; effect = e }

pub kept_step : (content next : Content) (offset : ℕ) (bytes : List ℕ) → IsKept content → after_bytes content offset bytes ≡ Ok next
    → (read : IsRead content offset bytes next) × IsStep content read.command next
kept_step content next offset bytes kept e =
    let read = read_from content next offset bytes e in
    (read, step_of content next offset read.command kept.scale read.effect)
