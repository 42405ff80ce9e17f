-- Devices that take bytes: what was written in a call, and whether the device failed in it. What a device has written is
-- `None` where it can't know it.
-- Source: this project's own.
-- Checked on: a device that takes 10 bytes in all, one that takes a byte a call, and one that
-- answers 0. Of the text of `L NM; B 40 20 0 0; E` the first gets `DS 1 1 2;` and its newline.
use Rattle.std.specs.Prelude.{◌≡◌, ℕ, ◌+◌, List, ◌++◌, length, Bool, true, ◌&&◌, nat_lt, ◌==◌, Option, Result, Ok, Err, if◌then◌else◌}
use Rattle.std.specs.Io.KnownBytes.{Appends}

-- whether a call with this piece failed: an `Err`, or no byte of a piece that isn't empty
abbrev pub is_failure : {E : Type 0} → List ℕ → Result ℕ E → Bool
is_failure piece (Ok taken) = nat_lt 0 (length piece) && (taken == 0)
is_failure piece (Err fault) = true

-- the count of failures after a call with this piece
abbrev pub failures_after : {E : Type 0} → ℕ → List ℕ → Result ℕ E → ℕ
failures_after before piece answer = if is_failure piece answer then before + 1 else before

-- from the old device to the new: all the bytes were written and nothing else, and the device didn't fail
pub record WroteAll {S : Type 0} (written : S → Option (List ℕ)) (failures : S → ℕ) (old new : S) (bytes : List ℕ) : Type 0 where
  pub all : Appends (written old) (written new) bytes
  pub unfailing : failures new ≡ failures old

-- from the old device to the new: a prefix of the bytes was written and nothing else, and the device failed, once
pub record WrotePrefix {S : Type 0} (written : S → Option (List ℕ)) (failures : S → ℕ) (old new : S) (bytes : List ℕ) : Type 0 where
  pub begun : (start : List ℕ) × (rest : List ℕ) × (start ++ rest ≡ bytes) × Appends (written old) (written new) start
  pub failed : failures new ≡ failures old + 1
