-- How the calls of a text are bound at its end.
-- Source: Caltech Intermediate Form 2.0: a symbol may be called before it is defined. That each called symbol has to be defined,
-- and that no symbol may contain itself, is this project's own.
use Rattle.std.specs.Prelude.{◌≡◌, ◌⊎◌, ℕ, ◌<◌, List, length, map, All, IsTrue, Result, Ok, Err, slice_index_or}
use Rattle.lay_cells.specs.declared.cell_id.CellId.{CellId}
use Rattle.lay_cells.specs.declared.cell_id.CellId.TheVariants.{Top}
use Rattle.lay_cells.specs.Symbols.{has_symbol}
use Rattle.lay_cells.specs.Walks.{IsAcyclic, IsFirstCycle}
use Rattle.cif_read.specs.declared.content.Content.{Content}
use Rattle.cif_read.specs.declared.content.Pending.{Pending}
use Rattle.cif_read.specs.declared.fault.CifFault.{CifFault}
use Rattle.cif_read.specs.declared.fault.FaultKind.TheVariants.{Cycle, NoSymbol}
use Rattle.cif_read.specs.Contents.{Contents}

-- the called symbol is defined
abbrev pub IsBound : List ℕ → Pending → Type 0
IsBound symbols call = IsTrue (has_symbol symbols call.target)

-- a call without its offset
abbrev pub edge_of : Pending → CellId × ℕ
edge_of call = (call.caller, call.target)

-- the call at this index
abbrev pub pending_at : List Pending → ℕ → Pending
pending_at calls index = slice_index_or calls index (record { offset = 0; caller = Top; target = 0 })

-- the call at this index is the first whose symbol isn't defined
pub record IsFirstUnbound (symbols : List ℕ) (calls : List Pending) (index : ℕ) : Type 0 where
  pub within : index < length calls
  pub unbound : ¬ (IsBound symbols (pending_at calls index))
  pub before : (i : ℕ) → i < index → IsBound symbols (pending_at calls i)

-- a text's contents without the offsets of its calls
abbrev pub contents_of : Content → Contents
contents_of content = record {
  symbols = content.symbols;
  elements = content.elements;
  extensions = content.extensions;
  dropped = content.dropped;
}

-- the fault of the first call of an undefined symbol; or where there is none, of the first that closes a cycle
abbrev pub IsBindingFault : Content → CifFault → ℕ → Type 0
IsBindingFault content fault index =
    ((fault.kind ≡ NoSymbol) × IsFirstUnbound content.symbols content.calls index)
    ⊎ ((fault.kind ≡ Cycle) × All (IsBound content.symbols) content.calls × IsFirstCycle (map edge_of content.calls) index)

-- what is meant at the end of a text: its contents where all calls are bound and none closes a cycle, else the fault
abbrev pub IsBoundAs : Content → Result Contents CifFault → Type 0
IsBoundAs content (Ok file) =
    (file ≡ contents_of content) × All (IsBound content.symbols) content.calls × IsAcyclic (map edge_of content.calls)
IsBoundAs content (Err fault) =
    (index : ℕ) × (fault.offset ≡ (pending_at content.calls index).offset) × IsBindingFault content fault index
