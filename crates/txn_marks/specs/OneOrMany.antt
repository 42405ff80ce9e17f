-- How a list of few elements is kept. No public clause cites this module.
use Rattle.std.specs.Prelude.{List}
use Rattle.txn_marks.specs.declared.one_or_many.Storage.{Storage}
use Rattle.txn_marks.specs.declared.one_or_many.Storage.TheVariants.{InPlace, Listed}

-- the elements, in order
abbrev pub kept_list : {T : Type 0} → Storage T → List T
kept_list (InPlace sole) = sole
kept_list (Listed items) = items.items
