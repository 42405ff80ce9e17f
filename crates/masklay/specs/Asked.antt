-- What a run is asked for, but for its workers, which change nothing that is written.
use Rattle.std.specs.Prelude.{Bool}
use Rattle.masklay.specs.declared.program.options.Options.{Options}

pub record Asked : Type 0 where
  -- whether sessions run in threads
  pub threaded : Bool
  -- whether shapes are directed
  pub oriented : Bool
  -- whether symbols keep the names and labels that they had in the text that was read
  pub named : Bool
  -- whether a run ends with a status of its own where a step was refused
  pub strict : Bool
  -- whether the input is a CIF text, and no job
  pub bare : Bool
  -- whether upright rectangles are written as boxes
  pub boxed : Bool

-- what options ask for, by whether sessions run in threads
abbrev pub asked_by : Bool → Options → Asked
asked_by threaded options = record {
  threaded = threaded;
  oriented = options.oriented;
  named = options.named;
  strict = options.strict;
  bare = options.bare;
  boxed = options.boxed;
}

-- what options ask for
abbrev pub asked_of : Options → Asked
asked_of options = asked_by options.threaded options
