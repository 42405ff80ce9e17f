-- Devices that give bytes: how often they were read, and with which results.
-- Source: this project's own.
-- Checked on: an input that gives the first run (examples/first-run.job) a few bytes a call, and
-- one that fails after some.
use Rattle.std.specs.Prelude.{ℕ, ◌+◌, Bool, ◌&&◌, nat_lt, ◌==◌, if◌then◌else◌, Result, Ok, Err}
use Rattle.byte_io.specs.declared.input.ReadCounts.{ReadCounts}

-- all reads, those that gave a byte or more, those that ended the input, and those that failed
pub record Counts : Type 0 where
  pub reads : ℕ
  pub nonempty_reads : ℕ
  pub ends : ℕ
  pub failures : ℕ

-- the counts before the first read
abbrev pub no_counts : Counts
no_counts = record { reads = 0; nonempty_reads = 0; ends = 0; failures = 0 }

-- the counts that a device keeps
abbrev pub counts_of : ReadCounts → Counts
counts_of kept = record {
  reads = kept.reads.total;
  nonempty_reads = kept.nonempty_reads.total;
  ends = kept.ends.total;
  failures = kept.failures.total;
}

-- whether a read into a buffer of this length ended the input: it gave no byte, and had room for one
abbrev pub is_end : ℕ → ℕ → Bool
is_end room taken = nat_lt 0 room && (taken == 0)

-- the counts after a read into a buffer of this length
abbrev pub counts_after : {E : Type 0} → Counts → ℕ → Result ℕ E → Counts
counts_after before room (Ok taken) = record {
  reads = before.reads + 1;
  nonempty_reads = if nat_lt 0 taken then before.nonempty_reads + 1 else before.nonempty_reads;
  ends = if is_end room taken then before.ends + 1 else before.ends;
  failures = before.failures;
}
counts_after before room (Err fault) = record {
  reads = before.reads + 1;
  nonempty_reads = before.nonempty_reads;
  ends = before.ends;
  failures = before.failures + 1;
}
