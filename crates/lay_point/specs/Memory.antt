-- Running out of memory.
-- Source: this project's own.
-- Checked on: reading `E` with ample memory is Ok. The word allows a call that always fails, so
-- this has to be tested of each call.
use Rattle.std.specs.Prelude.{◌≡◌, ◌⊎◌, Result, Err}

-- the wanted result, or out of memory in its place
abbrev pub IsAnswer : {T E : Type 0} → E → Result T E → Result T E → Type 0
IsAnswer no_memory result wanted = (result ≡ Err no_memory) ⊎ (result ≡ wanted)
