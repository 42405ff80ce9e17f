-- A buffer in front of a device: what it holds back, or `None` once the device has failed.
-- Source: this project's own.
-- Checked on: 37,227 bytes put line by line through a buffer of 16,384, to devices that take 0,
-- 16,383, 20,000, 37,226 and 37,227 bytes in all; each has that many of the first bytes.
use Rattle.std.specs.Prelude.{◌≡◌, ℕ, List, ◌++◌, Option, None, Some}
use Rattle.std.specs.Option.{option_map}
use Rattle.byte_io.specs.Device.{WroteAll, WrotePrefix}

-- what is held back, and these bytes
abbrev pub held_with : Option (List ℕ) → List ℕ → Option (List ℕ)
held_with held bytes = option_map (λ xs. xs ++ bytes) held

-- what was put, by what the old and the new buffer hold back
abbrev pub HasPut : {S : Type 0} → (S → Option (List ℕ)) → (S → ℕ) → S → Option (List ℕ) → S → Option (List ℕ) → List ℕ → Type 0
HasPut written failures old (Some before) new (Some after) bytes =
    (start : List ℕ) × WroteAll written failures old new start × (start ++ after ≡ before ++ bytes)
HasPut written failures old (Some before) new None bytes = WrotePrefix written failures old new (before ++ bytes)
HasPut written failures old None new after bytes = (new ≡ old) × (after ≡ None)

-- from the old device and buffer to the new: the bytes were put behind what the buffer held back. A prefix of all that was
-- written, and the rest is held back; or the device failed, once; or it had failed before, and nothing changed
pub record Buffered {S : Type 0} (written : S → Option (List ℕ)) (failures : S → ℕ)
    (old : S) (before : Option (List ℕ)) (new : S) (after : Option (List ℕ)) (bytes : List ℕ) : Type 0 where
  pub put : HasPut written failures old before new after bytes
