-- The devices of a live run, and what contracts see of them.
use Rattle.std.specs.Prelude.{ℕ, List, Option}
use Rattle.byte_io.specs.Input.{Counts}
use Rattle.live_run.specs.Journal.{KeptText}

-- the devices at one time: where lines come from, where answers go, and where lines are kept
pub record Devices (I O J : Type 0) : Type 0 where
  pub input : I
  pub out : O
  pub journal : J

-- what contracts see of such devices
pub record Observed (I O J : Type 0) : Type 0 where
  -- the bytes that an input has left, and how often it was read
  pub remaining : I → Option (List ℕ)
  pub counts : I → Counts
  -- the bytes that an output has, and how often it failed
  pub written : O → Option (List ℕ)
  pub failures : O → ℕ
  -- the texts that a journal keeps, and how often it failed
  pub kept : J → Option (List KeptText)
  pub losses : J → ℕ

-- these devices
abbrev pub devices : {I O J : Type 0} → I → O → J → Devices I O J
devices input out journal = record { input = input; out = out; journal = journal }

-- what these functions tell of devices
abbrev pub observed_by : {I O J : Type 0} → (I → Option (List ℕ)) → (I → Counts) → (O → Option (List ℕ)) → (O → ℕ)
    → (J → Option (List KeptText)) → (J → ℕ) → Observed I O J
observed_by remaining counts written failures kept losses = record {
  remaining = remaining;
  counts = counts;
  written = written;
  failures = failures;
  kept = kept;
  losses = losses;
}
