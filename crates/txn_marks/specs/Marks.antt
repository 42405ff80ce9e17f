-- What a history keeps of a committed transaction.
use Rattle.std.specs.Prelude.{◌≡◌}
use Rattle.txn_commands.specs.Elements.{Touched}
use Rattle.txn_commands.specs.Records.{Records}
use Rattle.txn_marks.specs.declared.marks.Marks.{Marks}
use Rattle.txn_marks.specs.Homes.{AreMetBy}

-- what is kept of a transaction that wrote these records and has this footprint
pub record AreMarksOf (records : Records) (footprint : Touched) (marks : Marks) : Type 0 where
  pub wrote : marks.wrote ≡ records
  pub met : AreMetBy records marks.met
  pub touched : marks.touched ≡ footprint
